-- What a run does to the pending pairs.
use Rattle.std.proofs.Common.{◌≡◌, ℕ, ◌+◌, true, false, List, [], ◌∷◌, ◌++◌, length, map, refl, ap, subst, ◌∙◌, arith, append_assoc, inl, inr, zero, suc, replicate, length-append, add-one, Ok, Err, IsPermutation, is_gt}
use Rattle.std.proofs.lemmas.List.{append-nil, map-append}
use Rattle.std.specs.List.{All, AllByRecursion}
use Rattle.std.proofs.lemmas.List.Sorted.{IsPermutation-refl, IsPermutation-trans, IsPermutation-append_left, IsPermutation-append_right, IsPermutation-append_comm, IsPermutation-cons, IsPermutation-middle, length_permutation, All-permutation}
use Rattle.std.proofs.lemmas.List.Elements.{All-from_recursion, recursion_from_All}
use Rattle.std.proofs.lemmas.List.Kept.{AllPairs-cons}
use Rattle.std.proofs.Permutation.{every_append}
use Rattle.priority_channel_core.specs.Prelude.{State, Handed, IsOver, IsGoingOn, Says, Moves, Step, Answers, Operation, Run, Ordering, RecvReply, Does, Call, Answer, TryRecvError}
use Rattle.priority_channel_core.proofs.items.Kept.{every_part}
use Rattle.priority_channel_core.proofs.Closing.{or_left}
use Rattle.priority_channel_core.specs.laws.Accepted.{accepted_by, put_in, received_by, displaced_by, taken_by, changed_by, accepted_in, received_in, displaced_in, taken_in, changed_in, Change, priorities, before, after, Conserves, NeverRise}
use Rattle.priority_channel_core.proofs.runs.Changes.{account}
use Rattle.priority_channel_core.proofs.runs.Effects.{Effect, effect}

empty_parts : {A : Type 0} (xs ys : List A) → xs ++ ys ≡ [] → (xs ≡ []) × (ys ≡ [])
empty_parts [] ys h = (refl, h)
empty_parts (x ∷ xs) ys h = absurd (cc)

map_none : {A B : Type 0} (f : A → B) (xs : List A) → map f xs ≡ [] → xs ≡ []
map_none f [] h = refl
map_none f (x ∷ xs) h = absurd (cc)

sorted_out : {A : Type 0} (a b c d : List A) → IsPermutation ((a ++ b) ++ (c ++ d)) ((a ++ c) ++ (b ++ d))
sorted_out a b c d =
    rw (append_assoc a b (c ++ d), append_assoc a c (b ++ d), ← append_assoc b c d, ← append_assoc c b d)
    (IsPermutation-append_right a _ _ (IsPermutation-append_left d _ _ (IsPermutation-append_comm b c)))

each_way : {A : Type 0} (a b c d x y z u : List A) → IsPermutation ((a ++ b ++ c ++ d) ++ (x ++ y ++ z ++ u)) ((a ++ x) ++ (b ++ y) ++ (c ++ z) ++ (d ++ u))
each_way a b c d x y z u =
    IsPermutation-trans _ _ _ (sorted_out (a ++ b ++ c) d (x ++ y ++ z) u)
    (IsPermutation-append_left (d ++ u) _ _ (IsPermutation-trans _ _ _ (sorted_out (a ++ b) c (x ++ y) z) (IsPermutation-append_left (c ++ z) _ _ (sorted_out a b x y))))

-- what comes in and goes out in two steps comes in and goes out in both together
one_after_another : {A : Type 0} (old mid new n m a b : List A) (w r d t x y z u : List A)
    → IsPermutation (n ++ old ++ a) (w ++ r ++ d ++ t ++ mid) → IsPermutation (m ++ mid ++ b) (x ++ y ++ z ++ u ++ new)
    → IsPermutation ((n ++ m) ++ old ++ (a ++ b)) ((w ++ x) ++ (r ++ y) ++ (d ++ z) ++ (t ++ u) ++ new)
one_after_another old mid new n m a b w r d t x y z u first second =
    let out = w ++ r ++ d ++ t in
    let outs = x ++ y ++ z ++ u in
    let swapped : IsPermutation ((n ++ m) ++ old) ((n ++ old) ++ m) = rw (append_assoc n m old, append_assoc n old m) (IsPermutation-append_right n _ _ (IsPermutation-append_comm m old)) in
    let then : IsPermutation ((out ++ m) ++ (mid ++ b)) ((out ++ outs) ++ new) = rw (append_assoc out m (mid ++ b), ← append_assoc m mid b, append_assoc out outs new) (IsPermutation-append_right out _ _ second) in
    IsPermutation-trans _ _ _ (IsPermutation-append_left (a ++ b) _ _ swapped)
    (IsPermutation-trans _ _ _ (sorted_out (n ++ old) m a b)
    (IsPermutation-trans _ _ _ (IsPermutation-append_left (m ++ b) _ _ first)
    (IsPermutation-trans _ _ _ (sorted_out out mid m b)
    (IsPermutation-trans _ _ _ then
    (IsPermutation-append_left new _ _ (each_way w r d t x y z u))))))

module _ {T P W : Type 0} (cmp : P → P → Ordering) (is_clone : W → W → Type 0) where
  step_effect : (old new : State T P W) (made : Operation T P W) → Step cmp is_clone old made.call made.answer made.handed new
      → Effect cmp old (account made.call made.answer) new
  step_effect old new made step = effect cmp old is_clone new made.handed made.call made.answer step.moves

  pub Run-split : (old new : State T P W) (front back : List (Operation T P W)) → Run cmp is_clone old (front ++ back) new
      → (mid : State T P W) × Run cmp is_clone old front mid × Run cmp is_clone mid back new
  Run-split old new [] back run = (old, refl, run)
  Run-split old new (made ∷ front) back run =
      let r = Run-split run.0 new front back run.2 in (r.0, (run.0, run.1, r.1), r.2)

  pub run_conserves : (old new : State T P W) (run : List (Operation T P W)) → Run cmp is_clone old run new → Conserves old.pending run new.pending
  run_conserves old new [] run = record { changes = []; told = refl; balance = rw (append-nil old.pending, run) (IsPermutation-refl old.pending) }
  run_conserves old new (made ∷ more) run =
      let mid = run.0 in
      let e = step_effect old mid made run.1 in
      let rest = run_conserves mid new more run.2 in
      record {
        changes = e.changes ++ rest.changes;
        told = map-append priorities e.changes rest.changes ∙ rw (e.told, rest.told) refl;
        balance = rw (map-append after e.changes rest.changes, map-append before e.changes rest.changes)
            (one_after_another old.pending mid.pending new.pending (map after e.changes) (map after rest.changes) (accepted_by made.call made.answer) (accepted_in more)
            (map before e.changes) (received_by made.answer) (displaced_by made.answer) (taken_by made.answer)
            (map before rest.changes) (received_in more) (displaced_in more) (taken_in more) e.moves rest.balance);
      }

  pub run_closed : (old new : State T P W) (run : List (Operation T P W)) → Run cmp is_clone old run new → old.is_closed ≡ true
      → (new.is_closed ≡ true) × (accepted_in run ≡ put_in run)
  run_closed old new [] run closed = (ap (λ (s : State T P W). s.is_closed) run ∙ closed, refl)
  run_closed old new (made ∷ more) run closed =
      let mid = run.0 in
      let e = (step_effect old mid made run.1).closed closed in
      let r = run_closed mid new more run.2 e.0 in
      (r.0, rw (e.1, r.1) refl)

  -- if no priority changes, pairs come in and go out alone
  moves_alone : (old new : State T P W) (made : Operation T P W) → Step cmp is_clone old made.call made.answer made.handed new → changed_by made.call made.answer ≡ []
      → IsPermutation (old.pending ++ accepted_by made.call made.answer) (received_by made.answer ++ displaced_by made.answer ++ taken_by made.answer ++ new.pending)
  moves_alone old new made step kept =
      let e = step_effect old new made step in
      subst (λ (changes : List (Change T P)). IsPermutation (map after changes ++ old.pending ++ accepted_by made.call made.answer)
      (map before changes ++ received_by made.answer ++ displaced_by made.answer ++ taken_by made.answer ++ new.pending)) (map_none priorities e.changes (e.told ∙ kept)) e.moves

  received_were_pending : (Q : T × P → Type 0) (old new : State T P W) (run : List (Operation T P W)) → Run cmp is_clone old run new
      → accepted_in run ≡ [] → changed_in run ≡ [] → All Q old.pending → AllByRecursion Q (received_in run)
  received_were_pending Q old new [] run none kept all = tt
  received_were_pending Q old new (made ∷ more) run none kept all =
      let mid = run.0 in
      let parts = empty_parts (accepted_by made.call made.answer) (accepted_in more) none in
      let stays = empty_parts (changed_by made.call made.answer) (changed_in more) kept in
      let moves = moves_alone old mid made run.1 stays.0 in
      let same : old.pending ++ accepted_by made.call made.answer ≡ old.pending = rw parts.0 (append-nil old.pending) in
      let both = every_part Q (received_by made.answer ++ displaced_by made.answer ++ taken_by made.answer) mid.pending (recursion_from_All Q _ (All-permutation Q _ _ moves (rw same all))) in
      every_append Q _ _ (every_part Q (received_by made.answer) (displaced_by made.answer) (every_part Q (received_by made.answer ++ displaced_by made.answer) (taken_by made.answer) both.0).0).0 (received_were_pending Q mid new more run.2 parts.1 stays.1 (All-from_recursion Q _ both.1))

  pub run_never_rises : (old new : State T P W) (run : List (Operation T P W)) → Run cmp is_clone old run new
      → accepted_in run ≡ [] → changed_in run ≡ [] → NeverRise cmp (received_in run)
  run_never_rises old new [] run none kept = λ i j d before within. absurd (omega arith)
  run_never_rises old new (made ∷ more) run none kept =
      let mid = run.0 in
      let e = step_effect old mid made run.1 in
      let parts = empty_parts (accepted_by made.call made.answer) (accepted_in more) none in
      let stays = empty_parts (changed_by made.call made.answer) (changed_in more) kept in
      let later = run_never_rises mid new more run.2 parts.1 stays.1 in
      elim e.gives [
        | inl nothing ↦ rw nothing later
        | inr g ↦
            rw g.1
            (AllPairs-cons (λ (before later : T × P). is_gt (cmp later.1 before.1) ≡ false) g.0 (received_in more)
            (All-from_recursion _ _ (received_were_pending (λ (other : T × P). is_gt (cmp other.1 g.0.1) ≡ false) mid new more run.2 parts.1 stays.1 g.2)) later)
      ]

  pub between_never_rises : (old new : State T P W) (before between after : List (Operation T P W))
      → Run cmp is_clone old (before ++ between ++ after) new → accepted_in between ≡ [] → changed_in between ≡ [] → NeverRise cmp (received_in between)
  between_never_rises old new before between after run none kept =
      let first = Run-split old new (before ++ between) after run in
      let second = Run-split old first.0 before between first.1 in
      run_never_rises second.0 first.0 between second.2 none kept

  answered : (old new : State T P W) (handed : Handed W) (reply : Answers T P) → Moves cmp is_clone old Call.TryRecv reply handed new
      → (told : RecvReply (T × P)) × (reply ≡ Answer.TryRecv told) × Says cmp old new.pending (Does old handed new) Call.TryRecv (Answer.TryRecv told)
  answered old new handed (Answer.TryRecv told) h = (told, refl, h)
  answered old new handed reply h = absurd h

  -- what n pending pairs and n + 1 receives from a closed channel give
  record Drained (pending : List (T × P)) (run : List (Operation T P W)) : Type 0 where
    pairs : List (T × P)
    all : IsPermutation pending pairs
    given : received_in run ≡ pairs
    answers : map (λ (made : Operation T P W). made.answer) run ≡ map (λ (pair : T × P). Answer.TryRecv (Ok pair)) pairs ++ Answer.TryRecv (Err TryRecvError.Closed) ∷ []

  step_received : (old new : State T P W) (made : Operation T P W) → Step cmp is_clone old made.call made.answer made.handed new → made.call ≡ Call.TryRecv
      → (told : RecvReply (T × P)) × (made.answer ≡ Answer.TryRecv told) × Says cmp old new.pending (Does old made.handed new) Call.TryRecv (Answer.TryRecv told)
  step_received old new made step is = answered old new made.handed made.answer (rw is at step.moves)

  over_or_not : (s : State T P W) → IsOver s → IsGoingOn s → ⊥
  over_or_not s over (inl opened) = let e = over.0 in absurd (cc)
  over_or_not s over (inr some) = let e = over.1 in absurd (omega arith)

  none_left : (old mid : State T P W) (made : Operation T P W) (more : List (Operation T P W)) → IsOver old → length old.pending ≡ 0
      → (told : RecvReply (T × P)) → made.answer ≡ Answer.TryRecv told → Says cmp old mid.pending (Does old made.handed mid) Call.TryRecv (Answer.TryRecv told) → more ≡ [] → Drained old.pending (made ∷ more)
  none_left old mid made more closed long (Err TryRecvError.Closed) is h end =
      record { pairs = []; all = rw h.0 (IsPermutation-refl []); given = rw (is, end) refl; answers = rw (is, end) refl }
  none_left old mid made more closed long (Err TryRecvError.Empty) is h end = absurd (over_or_not old closed h.1)
  none_left old mid made more closed long (Ok pair) is h end =
      let taken = h.0 in
      let l = ap length taken.split in let m = length-append taken.before (pair ∷ taken.after) in absurd (omega arith)

  drains : (n : ℕ) (old new : State T P W) (run : List (Operation T P W)) → Run cmp is_clone old run new → IsOver old → length old.pending ≡ n
      → map (λ (made : Operation T P W). made.call) run ≡ replicate (suc n) Call.TryRecv → Drained old.pending run
  drains n old new [] run closed long same = absurd (cc)
  drains zero old new (made ∷ more) run closed long same =
      let t = step_received old run.0 made run.1 (cc) in
      none_left old run.0 made more closed long t.0 t.1 t.2 (map_none (λ (made : Operation T P W). made.call) more (cc))
  drains (suc n) old new (made ∷ more) run closed long same =
      let t = step_received old run.0 made run.1 (cc) in
      one_more n old run.0 made more closed long t.0 t.1 t.2 (λ c l. drains n run.0 new more run.2 c l (cc))
    where
      one_more : (n : ℕ) (old mid : State T P W) (made : Operation T P W) (more : List (Operation T P W)) → IsOver old → length old.pending ≡ suc n
          → (told : RecvReply (T × P)) → made.answer ≡ Answer.TryRecv told → Says cmp old mid.pending (Does old made.handed mid) Call.TryRecv (Answer.TryRecv told)
          → (IsOver mid → length mid.pending ≡ n → Drained mid.pending more) → Drained old.pending (made ∷ more)
      one_more n old mid made more closed long (Err TryRecvError.Closed) is h next = let e = ap length h.0 in absurd (omega arith)
      one_more n old mid made more closed long (Err TryRecvError.Empty) is h next = absurd (over_or_not old closed h.1)
      one_more n old mid made more closed long (Ok pair) is h next =
          let taken = h.0 in
          let perm : IsPermutation old.pending (pair ∷ mid.pending) = rw (taken.split, taken.closed_up) (IsPermutation-middle taken.before pair taken.after) in
          let r = next (ap (λ (s : State T P W). s.is_closed) h.1.1 ∙ or_left _ _ closed.0, ap (λ (s : State T P W). s.held) h.1.1 ∙ closed.1) (let l = length_permutation _ _ perm in omega arith) in
          record {
            pairs = pair ∷ r.pairs;
            all = IsPermutation-trans _ _ _ perm (IsPermutation-cons pair _ _ r.all);
            given = rw (is, r.given) refl;
            answers = rw (is, r.answers) refl;
          }

  receives_change_none : (n : ℕ) (run : List (Operation T P W)) → map (λ (made : Operation T P W). made.call) run ≡ replicate n Call.TryRecv → changed_in run ≡ []
  receives_change_none n [] same = refl
  receives_change_none zero (made ∷ more) same = absurd (cc)
  receives_change_none (suc n) (made ∷ more) same =
      let first : made.call ≡ Call.TryRecv = cc in
      rw first (receives_change_none n more (cc))

  receives_put_none : (n : ℕ) (run : List (Operation T P W)) → map (λ (made : Operation T P W). made.call) run ≡ replicate n Call.TryRecv → put_in run ≡ []
  receives_put_none n [] same = refl
  receives_put_none zero (made ∷ more) same = absurd (cc)
  receives_put_none (suc n) (made ∷ more) same =
      let first : made.call ≡ Call.TryRecv = cc in
      rw first (receives_put_none n more (cc))

  -- a closed channel gives its pending pairs, and then nothing
  pub run_drains : (old new : State T P W) (run : List (Operation T P W)) → Run cmp is_clone old run new → old.is_closed ≡ true → old.held ≡ 0
      → map (λ (made : Operation T P W). made.call) run ≡ replicate (length old.pending + 1) Call.TryRecv
      → (pairs : List (T × P)) × IsPermutation old.pending pairs × NeverRise cmp pairs
      × (map (λ (made : Operation T P W). made.answer) run ≡ map (λ (pair : T × P). Answer.TryRecv (Ok pair)) pairs ++ Answer.TryRecv (Err TryRecvError.Closed) ∷ [])
  run_drains old new run is closed none same =
      let d = drains (length old.pending) old new run is (closed, none) refl (rw add-one at same) in
      (d.pairs, d.all, rw (← d.given) (run_never_rises old new run is ((run_closed old new run is closed).1 ∙ receives_put_none (length old.pending + 1) run same) (receives_change_none (length old.pending + 1) run same)), d.answers)
