-- The steps on the log keep its rule.
use Rattle.std.proofs.Common.{◌≡◌, ◌+◌, ◌<◌, ◌≤◌, ◌==◌, ℕ, Bool, true, false, List, [], ◌∷◌, ◌++◌, length, refl, ap, sym, ◌∙◌, subst, arith, inl, length-append, None, MatchBool, append-nil}
use Rattle.std.proofs.lemmas.Bool.Decides.{nat_tests}
use mathlib.Core.List.{IsPrefix}
use prog.Atomic.{either}
use Rattle.logbook.specs.Pages.{Cell, cell, keeps, no_nib, step, Moves, Goes}
use Rattle.priority_channel_recorded.specs.declared.chronicle.log.Line.{Line}
use Rattle.priority_channel_recorded.specs.declared.chronicle.log.Line.TheVariants.{Made}
use Rattle.priority_channel_recorded.specs.chronicle.Log.{IsLogOf, IsLogOfSome, IsLog, MayFollow, Looks, Adds, entries_in}
use Rattle.priority_channel_recorded.proofs.Fronts.{prefix_whole}
use Rattle.priority_channel_recorded.proofs.Lines.{entries_append, seen_front, same_opening}

abbrev word_at : ℕ → List Cell
word_at n = (n, true) ∷ []

module _ {E : Type 0} (legal : ℕ → Bool → List E → Type 0) where
  -- as the log's rule has them
  abbrev pub shown : List (Line E) → List (Line E)
  shown log = []

  abbrev pub moved : List (Line E) → List (Line E) → ℕ → Type 0
  moved before after answer = Unit {0}

  still_a_log : (log : List (Line E)) (n : ℕ) → IsLog legal (word_at n) log → IsLog legal (word_at n) (log ++ [])
  still_a_log log n rule = subst (IsLog legal (word_at n)) (sym (append-nil log)) rule

  module _ (seen : List (Line E)) (ask : Line E) where
    abbrev LookFrom : List Cell → List (Line E) → Type 0
    LookFrom cells log =
        Goes (IsLog legal) shown moved 0 (seen, (no_nib, None)) (λ n. n) (Looks legal (step 0 0 0 ask) (seen, (no_nib, None))) cells log

    look_from : (log : List (Line E)) → IsLog legal (word_at (length (entries_in log))) log → LookFrom (word_at (length (entries_in log))) log
    look_from log rule =
        let after = still_a_log log (length (entries_in log)) rule in (
          keeps,
          [],
          None,
          tt,
          after,
          inl (refl, refl),
          (ap (λ (l : List (Line E)). length (entries_in l)) (append-nil log), after.of_some),
        )

    -- whatever the log is, the look sees it, and finds how many entries it has
    pub looks : Moves (IsLog legal) shown moved 0 (seen, (no_nib, None)) (λ n. n) (Looks legal (step 0 0 0 ask) (seen, (no_nib, None)))
    looks cells log rule front away =
        let here : IsLog legal (word_at (length (entries_in log))) log = subst (λ (c : List Cell). IsLog legal c log) rule.word rule in
        subst (λ (c : List Cell). (0 < length c) × ((cell c 0).1 ≡ true) × LookFrom c log) (sym rule.word)
        (omega arith, refl, look_from log here)

  module _ (capacity : ℕ) (is_reserved : Bool) (seen : List (Line E)) (kept : IsLogOf legal capacity is_reserved seen) (entry : E) (count : ℕ)
      (may : MayFollow legal capacity is_reserved (entries_in seen) count entry) where
    abbrev GoesFrom : List Cell → List (Line E) → Type 0
    GoesFrom cells log =
        Goes (IsLog legal) shown moved 0 (seen, (no_nib, None)) (λ n. either (n == count) (count + 1) n)
        (Adds legal (step 0 count (count + 1) (Made entry)) (seen, (no_nib, None))) cells log

    goes_from : (log : List (Line E)) → IsLog legal (word_at (length (entries_in log))) log → IsPrefix seen log
        → (is_count : Bool) → (length (entries_in log) == count) ≡ is_count → GoesFrom (word_at (length (entries_in log))) log
    goes_from log rule front true is =
        let line : List (Line E) = Made entry ∷ [] in
        let here : length (entries_in log) ≡ count = grind (arith, nat_tests) in
        let at_least : count ≤ length (entries_in seen) = may.0 in
        let same : entries_in seen ≡ entries_in log = prefix_whole (entries_in seen) (entries_in log) (seen_front seen log _ refl front) (omega (arith, here, at_least)) in
        let long : length (entries_in seen) ≡ count = ap length same ∙ here in
        let now : IsLogOf legal capacity is_reserved log = same_opening legal capacity is_reserved seen log kept front rule.of_some in
        let entries : entries_in (log ++ line) ≡ entries_in seen ++ entry ∷ [] =
        entries_append log line ∙ ap (λ (l : List E). l ++ entry ∷ []) (sym same) in
        let more : IsLogOf legal capacity is_reserved (log ++ line) = record {
          calls = now.calls ++ line;
          opens = ap (λ (l : List (Line E)). l ++ line) now.opens;
          is_legal = subst (legal capacity is_reserved) (sym entries) (may.1 long);
        } in
        let some : IsLogOfSome legal (log ++ line) = record { capacity = capacity; is_reserved = is_reserved; whole = more } in
        let word : either (length (entries_in log) == count) (count + 1) (length (entries_in log)) ≡ length (entries_in (log ++ line)) =
        rw (is, entries) (omega (arith, long, length-append (entries_in seen) (entry ∷ []))) in (
          keeps,
          line,
          None,
          tt,
          record { word = ap word_at word; of_some = some },
          inl (refl, refl),
          rw is (long, entries, some),
        )
    goes_from log rule front false is =
        let after = still_a_log log (length (entries_in log)) rule in
        let word : either (length (entries_in log) == count) (count + 1) (length (entries_in log)) ≡ length (entries_in log) = rw is refl in (
          keeps,
          [],
          None,
          tt,
          subst (λ (n : ℕ). IsLog legal (word_at n) (log ++ [])) (sym word) after,
          inl (refl, refl),
          rw is after.of_some,
        )

    -- whatever the log is, the exchange adds the entry to all that was seen, or finds another
    -- number of entries
    pub adds : Moves (IsLog legal) shown moved 0 (seen, (no_nib, None)) (λ n. either (n == count) (count + 1) n)
        (Adds legal (step 0 count (count + 1) (Made entry)) (seen, (no_nib, None)))
    adds cells log rule front away =
        let here : IsLog legal (word_at (length (entries_in log))) log = subst (λ (c : List Cell). IsLog legal c log) rule.word rule in
        subst (λ (c : List Cell). (0 < length c) × ((cell c 0).1 ≡ true) × GoesFrom c log) (sym rule.word)
        (omega arith, refl, goes_from log here front (length (entries_in log) == count) refl)

    -- what the exchange has told, of the entries that had been seen
    pub tells_added : (after : List (Line E)) (now : List E) (ask : Line E) → entries_in seen ≡ now → ask ≡ Made entry → IsPrefix seen after
        → (is_count : Bool)
        → MatchBool is_count ((length (entries_in seen) ≡ count) × (entries_in after ≡ entries_in seen ++ entries_in (ask ∷ [])) × IsLogOfSome legal after)
        (IsLogOfSome legal after)
        → MatchBool is_count ((length now ≡ count) × (entries_in after ≡ now ++ entry ∷ [])) (IsPrefix now (entries_in after))
    tells_added after now ask is made front true told =
        (ap length (sym is) ∙ told.0, told.1 ∙ ap (λ (l : Line E). entries_in seen ++ entries_in (l ∷ [])) made ∙ ap (λ (l : List E). l ++ entry ∷ []) is)
    tells_added after now ask is made front false told = seen_front seen after now is front
