-- Runs of the code's calls, one more call at a time.
use Rattle.std.proofs.lemmas.Slice.Zip.{all_zipped_more}
use Rattle.std.proofs.Common.{◌≡◌, ℕ, ◌+◌, List, [], ◌∷◌, ◌++◌, length, map, drop, refl, ap, ◌∙◌, append_assoc, drop-drop, arith, Bool, true, Option, IfSome, IfNone, IfOk, is_ok, OnOk, OnErr, Result, Ok, Err, All}
use Rattle.std.specs.List.{AllZip}
use Rattle.std.proofs.lemmas.List.{map-append}
use Rattle.priority_channel_core.specs.bag.Prelude.{Changes, PassesFirst}
use Rattle.priority_channel_core.specs.Prelude.{Call, Answer, State, Handed, Step, Calls, Answers, Operation, Run, Response, AtSomePlace, SameButPlace, SameCall, SameOperation, Makes, Performs, RunsFront, AddsSome, MeetsTest, AllMeetTests, SameAnswer, Ordering, TryRecvManyError}
use Rattle.priority_channel_core.specs.declared.calls.Call.TheVariants.{TakeWhere, ChangePriority, LeaseWhere}

pub zip_push : {A B : Type 0} (R : A → B → Type 0) (xs : List A) (ys : List B) (x : A) (y : B) → AllZip R xs ys → R x y → AllZip R (xs ++ x ∷ []) (ys ++ y ∷ [])
zip_push R xs ys x y a r = all_zipped_more R xs ys x y a r

module _ {T P W : Type 0} (cmp : P → P → Ordering) (is_clone : W → W → Type 0) where
  pub Run-more : (old mid new : State T P W) (run : List (Operation T P W)) (made : Operation T P W)
      → Run cmp is_clone old run mid → Step cmp is_clone mid made.call made.answer made.handed new → Run cmp is_clone old (run ++ made ∷ []) new
  Run-more old mid new [] made r s = (new, rw (← r) s, refl)
  Run-more old mid new (m ∷ run) made r s = (r.0, r.1, Run-more r.0 mid new run made r.2 s)

module _ {T P W : Type 0} where
  place_same : (made : Calls T P W) → SameButPlace made made
  place_same (TakeWhere place) = (place, refl)
  place_same (ChangePriority place priority) = (place, refl)
  place_same (LeaseWhere place) = (place, refl)
  place_same made = refl

  place_again : (one two three : Calls T P W) → SameButPlace one two → SameButPlace two three → SameButPlace one three
  place_again (TakeWhere place) two three (other, is) then = rw (← is) at then
  place_again (ChangePriority place priority) two three (other, is) then = rw (← is) at then
  place_again (LeaseWhere place) two three (other, is) then = rw (← is) at then
  place_again one two three is then = rw (← is) at then

  places_same : (calls : List (Calls T P W)) → AllZip SameButPlace calls calls
  places_same [] = tt
  places_same (made ∷ calls) = (place_same made, places_same calls)

  -- one more call has found its place
  places_more : (meant front : List (Calls T P W)) (one two : Calls T P W) (others : List (Calls T P W))
      → AllZip SameButPlace meant (front ++ one ∷ others) → SameButPlace one two → AllZip SameButPlace meant (front ++ two ∷ others)
  places_more [] [] one two others all again = absurd all
  places_more [] (f ∷ front) one two others all again = absurd all
  places_more (m ∷ meant) [] one two others all again = (place_again m one two all.0 again, all.1)
  places_more (m ∷ meant) (f ∷ front) one two others all again = (all.0, places_more meant front one two others all.1 again)

-- the call for which this holds
found : {T P W M F : Type 0} (holds : M → List (T × P) → Type 0) (so : Calls T P W → Type 0) (made : Call T P W M F) (meant : Calls T P W)
    → SameCall holds made meant → AtSomePlace made meant so → (other : Calls T P W) × SameButPlace meant other × so other
found holds so (TakeWhere test) meant (given, is, any) (place, at) = (TakeWhere place, rw is (place, refl), at)
found holds so (ChangePriority test priority) meant (given, is, any) (place, at) = (ChangePriority place priority, rw is (place, refl), at)
found holds so (LeaseWhere test) meant (given, is, any) (place, at) = (LeaseWhere place, rw is (place, refl), at)
found holds so made meant same at = (meant, place_same meant, at)

at_meant : {T P W M F : Type 0} (holds : M → List (T × P) → Type 0) (so : Calls T P W → Type 0) (made : Call T P W M F) (meant : Calls T P W)
    → SameCall holds made meant → so meant → AtSomePlace made meant so
at_meant holds so (TakeWhere test) meant (place, is, any) at = (place, rw is at at)
at_meant holds so (ChangePriority test priority) meant (place, is, any) at = (place, rw is at at)
at_meant holds so (LeaseWhere test) meant (place, is, any) at = (place, rw is at at)
at_meant holds so made meant same at = at

module _ {T P W M F : Type 0} (holds : M → List (T × P) → Type 0) (cmp : P → P → Ordering) (is_clone : W → W → Type 0)
    (old new : State T P W) (made : Call T P W M F) (reply : Answer T P M) (handed : Handed W) where
  pub makes_step : ((meant : Calls T P W) → SameCall holds made meant → (told : Answers T P) × SameAnswer holds reply told × Step cmp is_clone old meant told handed new)
      → Makes holds cmp is_clone old made reply handed new
  makes_step steps = record {
    at = λ meant same.
        let k = steps meant same in
        (k.0, k.1, at_meant holds (λ c. Step cmp is_clone old c k.0 handed new) made meant same k.2);
  }

  pub makes_performed : (call : Call T P W M ⊥) → Performs holds cmp is_clone old call reply handed new
      → ((meant : Calls T P W) → SameCall holds made meant → SameCall holds call meant)
      → Makes holds cmp is_clone old made reply handed new
  makes_performed call performs is = record {
    at = λ meant same.
        let k = performs.at meant (is meant same) in
        (k.0, k.1, at_meant holds (λ c. Step cmp is_clone old c k.0 handed new) made meant same (performed call meant k.0 k.2));
  }
    where
      performed : (call : Call T P W M ⊥) (meant : Calls T P W) (told : Answers T P) → AtSomePlace call meant (λ c. Step cmp is_clone old c told handed new)
          → Step cmp is_clone old meant told handed new
      performed (TakeWhere none) meant told at = absurd none
      performed (ChangePriority none priority) meant told at = absurd none
      performed (LeaseWhere none) meant told at = absurd none
      performed call meant told at = at

-- of a call that means only one
pub makes_as : {T P W M F : Type 0} {holds : M → List (T × P) → Type 0} {cmp : P → P → Ordering} {is_clone : W → W → Type 0} {old new : State T P W} {made call : Call T P W M F}
    {reply given : Answer T P M} {handed wakes : Handed W} {meant : Calls T P W} {told : Answers T P} → made ≡ call → reply ≡ given → handed ≡ wakes
    → ((other : Calls T P W) → SameCall holds call other → other ≡ meant) → SameAnswer holds given told → Step cmp is_clone old meant told wakes new
    → Makes holds cmp is_clone old made reply handed new
makes_as made_is reply_is handed_is only same step =
    rw (made_is, reply_is, handed_is) (makes_step _ _ _ _ _ _ _ _ (λ other is. (_, same, rw (only other is) step)))

module _ {T P W M F : Type 0} (holds : M → List (T × P) → Type 0) (cmp : P → P → Ordering) (is_clone : W → W → Type 0) where
  pub RunsFront-none : (old : State T P W) (calls : List (Call T P W M F)) → RunsFront holds cmp is_clone old calls [] calls old
  RunsFront-none old calls = record { at = λ meant same. ([], meant, places_same meant, tt, same, refl) }

  pub RunsFront-more : (old mid new : State T P W) (calls left : List (Call T P W M F)) (dones : List (Response T P W M)) (next : Call T P W M F) (done : Response T P W M)
      → RunsFront holds cmp is_clone old calls dones (next ∷ left) mid → Makes holds cmp is_clone mid next done.answer done.handed new
      → RunsFront holds cmp is_clone old calls (dones ++ done ∷ []) left new
  RunsFront-more old mid new calls left dones next done front step = record {
    at = λ meant same. let k = front.at meant same in more meant k.0 k.1 k.2 k.3 k.4 k.5;
  }
    where
      calls_of : List (Operation T P W) → List (Calls T P W)
      calls_of = map (λ (made : Operation T P W). made.call)

      more : (meant : List (Calls T P W)) (run : List (Operation T P W)) (others : List (Calls T P W)) → AllZip SameButPlace meant (calls_of run ++ others)
          → AllZip (SameOperation holds) dones run → AllZip (SameCall holds) (next ∷ left) others → Run cmp is_clone old run mid
          → (run' : List (Operation T P W)) × (others' : List (Calls T P W)) × AllZip SameButPlace meant (calls_of run' ++ others')
          × AllZip (SameOperation holds) (dones ++ done ∷ []) run' × AllZip (SameCall holds) left others' × Run cmp is_clone old run' new
      more meant run [] e a b r = absurd b
      more meant run (c ∷ cs) e a b r =
          let (told, same, steps) = step.at c b.0 in
          let (call, place, moves) = found holds (λ call. Step cmp is_clone mid call told done.handed new) next c b.0 steps in
          let ran : Operation T P W = record { call = call; answer = told; handed = done.handed } in (
            run ++ ran ∷ [],
            cs,
            rw (map-append (λ (made : Operation T P W). made.call) run (ran ∷ []), append_assoc (calls_of run) (call ∷ []) cs)
                (places_more meant (calls_of run) c call cs e place),
            zip_push (SameOperation holds) dones run done ran a (same, refl),
            b.1,
            Run-more cmp is_clone old mid new run ran r moves,
          )

module _ {T P W M F : Type 0} (passes fails : F → T × P → Type 0) (old new : List (T × P)) (made : Call T P W M F) (reply : Answer T P M) (test : F) where
  pub taking_meets : (taken : Option (T × P)) → made ≡ TakeWhere test → reply ≡ Answer.TakeWhere taken → IfSome taken (passes test) → IfNone taken (All (fails test) old)
      → MeetsTest passes fails old made reply new
  taking_meets taken is told met none = grind arith

  pub leasing_meets : (leased : Result (Option (T × P)) TryRecvManyError) → made ≡ LeaseWhere test → reply ≡ Answer.LeaseWhere leased
      → IfOk leased (λ taken. IfSome taken (passes test)) → IfOk leased (λ taken. IfNone taken (All (fails test) old))
      → MeetsTest passes fails old made reply new
  leasing_meets leased is told met none = grind arith

  pub change_meets : (priority : P) (changed : Result P P) → made ≡ ChangePriority test priority → reply ≡ Answer.ChangePriority changed
      → IfOk changed (λ was. (change : Changes old was priority new) × PassesFirst (passes test) (fails test) change) → OnErr changed (All (fails test) old)
      → MeetsTest passes fails old made reply new
  change_meets priority (Ok before) is told met none = record {
    taken = λ other pair e r. absurd (cc);
    none_taken = λ other e r. absurd (cc);
    changed = λ other given was e r.
        let by : other ≡ test = cc in let to : given ≡ priority = cc in let from : was ≡ before = cc in
        rw (by, to, from) met;
    none_changed = λ other given back e r. absurd (cc);
    leased = λ other pair e r. absurd (cc);
    none_leased = λ other e r. absurd (cc);
  }
  change_meets priority (Err back) is told met none = record {
    taken = λ other pair e r. absurd (cc);
    none_taken = λ other e r. absurd (cc);
    changed = λ other given was e r. absurd (cc);
    none_changed = λ other given again e r. let by : other ≡ test = cc in rw by none;
    leased = λ other pair e r. absurd (cc);
    none_leased = λ other e r. absurd (cc);
  }

module _ {T P W M F : Type 0} (passes fails : F → T × P → Type 0) (holds : M → List (T × P) → Type 0) (cmp : P → P → Ordering) (is_clone : W → W → Type 0) where
  pub meets_more : (old mid new : State T P W) (calls left : List (Call T P W M F)) (done : List (Response T P W M)) (next : Call T P W M F) (response : Response T P W M)
      → next ∷ left ≡ drop (length done) calls → AllMeetTests passes fails holds cmp is_clone old calls done mid
      → Makes holds cmp is_clone mid next response.answer response.handed new → AddsSome is_clone mid next response.handed new → MeetsTest passes fails mid.pending next response.answer new.pending
      → AllMeetTests passes fails holds cmp is_clone old calls (done ++ response ∷ []) new
  meets_more old mid new [] left [] next response is all step adds one = absurd (cc)
  meets_more old mid new [] left (d ∷ done) next response is all step adds one = absurd all
  meets_more old mid new (c ∷ calls) left [] next response is all step adds one =
      let same : next ≡ c = cc in (new, (rw (same, all) at step), (rw (same, all) at adds), (rw (same, all) at one), refl)
  meets_more old mid new (c ∷ calls) left (d ∷ done) next response is all step adds one =
      (all.0, all.1, all.2, all.3, meets_more all.0 mid new calls left done next response is all.4 step adds one)

pub at_ok : {X E : Type 0} {P : Type 0} (r : Result X E) (b : Bool) → b ≡ is_ok r → b ≡ true → OnOk r P → P
at_ok r b e h p = grind arith

pub drop-past : {A : Type 0} (n : ℕ) (items : List A) (first : A) (rest : List A) → first ∷ rest ≡ drop n items → rest ≡ drop (n + 1) items
drop-past n items first rest is = ap (drop 1) is ∙ drop-drop 1 n items
