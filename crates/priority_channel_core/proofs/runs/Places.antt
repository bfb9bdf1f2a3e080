-- No held place is lost or made up.
use Rattle.std.proofs.Common.{◌≡◌, ◌+◌, List, [], ◌∷◌, refl, ap, arith, inl, inr}
use Rattle.std.proofs.lemmas.List.Sums.{sum_by-cons}
use Rattle.priority_channel_core.specs.Prelude.{State, Handed, Does, Moves, Calls, Answers, Operation, Run, Ordering, Room, Message, Change}
use Rattle.priority_channel_core.specs.laws.Places.{got_by, given_by, got_in, given_in}
use Rattle.priority_channel_core.proofs.runs.Changes.{Account, nothing, Fits, OneOut, changed}

module _ {T P W : Type 0} (cmp : P → P → Ordering) (old : State T P W) where
  module _ (new : State T P W) (handed : Handed W) where
    abbrev Counts : Account T P → Type 0
    Counts a = new.held + a.given ≡ old.held + a.got

    -- the account tells how many more are held
    tells : (a b : Account T P) (s : State T P W) → a ≡ b → new ≡ s → s.held + b.given ≡ old.held + b.got → Counts a
    tells a b s told is same = rw (told, is) same

    goes : (left : List (T × P)) (a : Account T P) (s : State T P W) → new ≡ s → s.held ≡ old.held → OneOut cmp old left 0 a → Counts a
    goes left a s is same (pair, inl (taken, told)) = tells a _ s told is (ap (λ n. n + 0) same)
    goes left a s is same (pair, inr (taken, told)) = tells a _ s told is (ap (λ n. n + 0) same)

    lends : (left : List (T × P)) (a : Account T P) (s : State T P W) → new ≡ s → s.held ≡ old.held + 1 → OneOut cmp old left 1 a → Counts a
    lends left a s is more (pair, inl (taken, told)) = tells a _ s told is (omega (arith, more))
    lends left a s is more (pair, inr (taken, told)) = tells a _ s told is (omega (arith, more))

    counts_by : (closes marking unlists : Type 0) (by : Change T P) (a : Account T P) → Fits cmp old closes marking unlists a by → Does old handed new by → Counts a
    counts_by c m u Change.Nothing a told d = tells a nothing old told d.1 refl
    counts_by c m u (Change.GoesOut left) a out d = goes left a _ d.1 refl out
    counts_by c m u (Change.Lends left) a out d = lends left a _ d.1 refl out
    counts_by c m u (Change.MakesWay left pair) a (opened, out, least, told) d = tells a _ _ told d.1 refl
    counts_by c m u (Change.Reprices left) a (was, now, one, told) d = tells a _ _ told d.1 refl
    counts_by c m u Change.Holds a told d = tells a _ _ told d.1 (omega arith)
    counts_by c m u (Change.Fills pair) a (some, told) d = tells a _ _ told d.1 (omega (arith, some))
    counts_by c m u Change.Frees a (some, told) d = tells a _ _ told d.1 (omega (arith, some))
    counts_by c m u (Change.Counts Room n) a (by, told) d = tells a _ _ told d.1 refl
    counts_by c m u (Change.Counts Message n) a (by, told) d = tells a _ _ told d.1 refl
    counts_by c m u by a f d = tells a _ _ f.1 d.1 refl

  counts : (is_clone : W → W → Type 0) (new : State T P W) (handed : Handed W) (made : Calls T P W) (reply : Answers T P) → Moves cmp is_clone old made reply handed new
      → new.held + given_by reply ≡ old.held + got_by reply
  counts is_clone new handed made reply h =
      let shown = changed cmp is_clone old new handed made reply h in
      rw (ap (λ (r : State T P W). r.held) shown.rests) (counts_by shown.mid handed _ _ _ shown.by _ shown.fits shown.does)

module _ {T P W : Type 0} (cmp : P → P → Ordering) (is_clone : W → W → Type 0) where
  pub run_counts : (old new : State T P W) (run : List (Operation T P W)) → Run cmp is_clone old run new
      → new.held + given_in run ≡ old.held + got_in run
  run_counts old new [] run = ap (λ (s : State T P W). s.held + 0) run
  run_counts old new (made ∷ more) run =
      let first = counts cmp old is_clone run.0 made.handed made.call made.answer run.1.moves in
      let rest = run_counts run.0 new more run.2 in
      let given = sum_by-cons (λ (made : Operation T P W). given_by made.answer) made more in
      let got = sum_by-cons (λ (made : Operation T P W). got_by made.answer) made more in
      omega (arith, first, rest, given, got)
