-- What a step does to the pending pairs.
use Rattle.std.proofs.Common.{◌≡◌, ◌⊎◌, ℕ, true, false, ◌==◌, List, [], ◌∷◌, ◌++◌, map, refl, ap, ◌∙◌, inl, inr, append-nil, All, IsPermutation, is_gt}
use Rattle.std.proofs.lemmas.List.Sorted.{IsPermutation-refl, IsPermutation-sym, IsPermutation-trans, IsPermutation-cons, IsPermutation-middle, IsPermutation-append_left, IsPermutation-append_comm}
use Rattle.std.proofs.lemmas.List.Elements.{All-append, All-weaker}
use Rattle.std.specs.declared.cmp.Ordering.TheVariants.{Less}
use Rattle.priority_channel_core.specs.bag.Prelude.{TakesGreatest}
use Rattle.priority_channel_core.specs.Prelude.{State, Handed, Does, is_done, Moves, Calls, Answers, Ordering, Room, Message}
use Rattle.priority_channel_core.specs.machine.Change as change
use Rattle.priority_channel_core.specs.laws.Accepted.{Change, priorities, before, after}
use Rattle.priority_channel_core.proofs.Closing.{or_left, or_right}
use Rattle.priority_channel_core.proofs.runs.Changes.{Account, nothing, account, Fits, OneOut, changed}

-- one pair goes out, and another comes in at its place
exchanges : {A : Type 0} (before after : List A) (out now : A) → IsPermutation (now ∷ (before ++ out ∷ after)) (out ∷ (before ++ now ∷ after))
exchanges before after out now =
    IsPermutation-trans _ _ _ (IsPermutation-cons now _ _ (IsPermutation-middle before out after))
    (IsPermutation-trans _ _ _ (IsPermutation-append_left (before ++ after) (now ∷ out ∷ []) (out ∷ now ∷ []) (IsPermutation-append_comm (now ∷ []) (out ∷ [])))
    (IsPermutation-cons out _ _ (IsPermutation-sym _ _ (IsPermutation-middle before now after))))

abbrev pub NoneAbove : {T P : Type 0} → (P → P → Ordering) → T × P → List (T × P) → Type 0
NoneAbove cmp pair others = All (λ other. is_gt (cmp other.1 pair.1) ≡ false) others

none_above : {T P : Type 0} (cmp : P → P → Ordering) (pending : List (T × P)) (pair : T × P) (left : List (T × P)) → TakesGreatest cmp pending pair left → NoneAbove cmp pair left
none_above {T} {P} cmp pending pair left taken =
    rw taken.closed_up (All-append (λ (other : T × P). is_gt (cmp other.1 pair.1) ≡ false) _ _ (All-weaker (λ (other : T × P). cmp other.1 pair.1 ≡ Less) (λ (other : T × P). is_gt (cmp other.1 pair.1) ≡ false) (λ other e. rw e refl) taken.before taken.below) taken.not_above)

module _ {T P W : Type 0} (cmp : P → P → Ordering) (old : State T P W) where
  -- the pairs that came in, the pairs that went out each way, and the priorities that changed
  pub record Effect (a : Account T P) (new : State T P W) : Type 0 where
    pub changes : List (Change T P)
    pub told : map priorities changes ≡ a.changed
    pub moves : IsPermutation (map after changes ++ old.pending ++ a.accepted) (map before changes ++ a.received ++ a.displaced ++ a.taken ++ new.pending)
    pub closed : old.is_closed ≡ true → (new.is_closed ≡ true) × (a.accepted ≡ a.put)
    pub gives : (a.received ≡ []) ⊎ ((pair : T × P) × (a.received ≡ pair ∷ []) × NoneAbove cmp pair new.pending)

  module _ (new : State T P W) (handed : Handed W) where
    none : (got given : ℕ) (s : State T P W) → new ≡ s → s.pending ≡ old.pending → (old.is_closed ≡ true → s.is_closed ≡ true)
        → Effect (record nothing { got = got; given = given }) new
    none got given s is pending closed = record {
      changes = [];
      told = refl;
      moves = rw (append-nil old.pending, is, pending) (IsPermutation-refl old.pending);
      closed = λ k. (ap (λ (r : State T P W). r.is_closed) is ∙ closed k, refl);
      gives = inl refl;
    }

    goes : (left : List (T × P)) (got : ℕ) (s : State T P W) → new ≡ s → s.pending ≡ left → (old.is_closed ≡ true → s.is_closed ≡ true)
        → (a : Account T P) → OneOut cmp old left got a → Effect a new
    goes left got s is pending closed a (pair, inl (taken, told)) = rw told (record {
      changes = [];
      told = refl;
      moves = rw (append-nil old.pending, is, pending, taken.split, taken.closed_up) (IsPermutation-middle taken.before pair taken.after);
      closed = λ k. (ap (λ (r : State T P W). r.is_closed) is ∙ closed k, refl);
      gives = inr (pair, refl, rw (is, pending) (none_above cmp old.pending pair left taken));
    })
    goes left got s is pending closed a (pair, inr (taken, told)) = rw told (record {
      changes = [];
      told = refl;
      moves = rw (append-nil old.pending, is, pending, taken.split, taken.closed_up) (IsPermutation-middle taken.before pair taken.after);
      closed = λ k. (ap (λ (r : State T P W). r.is_closed) is ∙ closed k, refl);
      gives = inl refl;
    })

    effect_by : (closes marking unlists : Type 0) (by : change.Change T P) (a : Account T P) → Fits cmp old closes marking unlists a by → Does old handed new by → Effect a new
    effect_by c m u change.Nothing a told d = rw told (none 0 0 old d.1 refl (λ k. k))
    effect_by c m u (change.Adds front) a (opened, told) d = rw told (record {
      changes = [];
      told = refl;
      moves = rw (ap (λ (r : State T P W). r.pending) d.1) (IsPermutation-refl _);
      closed = λ k. absurd (cc);
      gives = inl refl;
    })
    effect_by c m u (change.GoesOut left) a out d = goes left 0 _ d.1 refl (λ k. or_left _ _ k) a out
    effect_by c m u (change.Lends left) a out d = goes left 1 _ d.1 refl (λ k. k) a out
    effect_by c m u (change.MakesWay left pair) a (opened, out, least, told) d =
        let taken : IsPermutation old.pending (out ∷ left) = rw (least.split, least.closed_up) (IsPermutation-middle least.before out least.after) in
        rw told (record {
          changes = [];
          told = refl;
          moves = rw (ap (λ (r : State T P W). r.pending) d.1) (IsPermutation-append_left (pair ∷ []) old.pending (out ∷ left) taken);
          closed = λ k. absurd (cc);
          gives = inl refl;
        })
    effect_by c m u (change.Reprices left) a (was, now, one, told) d = rw told (record {
      changes = record { msg = one.msg; was = was; now = now } ∷ [];
      told = refl;
      moves = rw (append-nil (((one.msg, now) ∷ []) ++ old.pending), ap (λ (r : State T P W). r.pending) d.1, one.split, one.changed)
          (exchanges one.before one.after (one.msg, was) (one.msg, now));
      closed = λ k. (ap (λ (r : State T P W). r.is_closed) d.1 ∙ k, refl);
      gives = inl refl;
    })
    effect_by c m u change.Holds a told d = rw told (none 1 0 _ d.1 refl (λ k. k))
    effect_by c m u (change.Fills pair) a (some, told) d = rw told (record {
      changes = [];
      told = refl;
      moves = rw (ap (λ (r : State T P W). r.pending) d.1) (IsPermutation-refl _);
      closed = λ k. (ap (λ (r : State T P W). r.is_closed) d.1 ∙ k, refl);
      gives = inl refl;
    })
    effect_by c m u change.Frees a (some, told) d = rw told (none 0 1 _ d.1 refl (λ k. or_left _ _ k))
    effect_by c m u change.Shuts a (by, told) d = rw told (none 0 0 _ d.1 refl (λ k. refl))
    effect_by c m u change.Marks a (by, told) d = rw told (none 0 0 _ d.1 refl (or_right (is_done old) _))
    effect_by c m u (change.Counts Room n) a (by, told) d = rw told (none 0 0 _ d.1 refl (or_right (n == 0) _))
    effect_by c m u (change.Counts Message n) a (by, told) d = rw told (none 0 0 _ d.1 refl (or_right (n == 0) _))
    effect_by c m u (change.Unlists ticket) a (by, told) d = rw told (none 0 0 _ d.1 refl (λ k. k))

  -- a poll's listing moves no pairs
  effect_rests : (mid new : State T P W) (a : Account T P) → new ≡ record mid { waiters = new.waiters } → Effect a mid → Effect a new
  effect_rests mid new a rests e =
      let pending : new.pending ≡ mid.pending = ap (λ (r : State T P W). r.pending) rests in
      record {
        changes = e.changes;
        told = e.told;
        moves = rw pending e.moves;
        closed = λ k. (ap (λ (r : State T P W). r.is_closed) rests ∙ (e.closed k).0, (e.closed k).1);
        gives = rw pending e.gives;
      }

  pub effect : (is_clone : W → W → Type 0) (new : State T P W) (handed : Handed W) (made : Calls T P W) (reply : Answers T P)
      → Moves cmp is_clone old made reply handed new → Effect (account made reply) new
  effect is_clone new handed made reply h =
      let shown = changed cmp is_clone old new handed made reply h in
      effect_rests shown.mid new _ shown.rests (effect_by shown.mid handed _ _ _ shown.by _ shown.fits shown.does)
