-- The lines of a log, and the entries among them.
use Rattle.std.proofs.Common.{◌≡◌, ℕ, Bool, true, List, [], ◌∷◌, ◌++◌, refl, sym, ap, ◌∙◌, subst}
use mathlib.Core.List.{IsPrefix}
use Rattle.priority_channel_recorded.specs.declared.chronicle.log.Line.{Line}
use Rattle.priority_channel_recorded.specs.declared.chronicle.log.Line.TheVariants.{Opened, Made}
use Rattle.priority_channel_recorded.specs.chronicle.Log.{IsLogOf, IsLogOfSome, IsLog, opened, capacity_in, is_reserved_in, entries_in}

module _ {E : Type 0} where
  pub entries_append : (xs ys : List (Line E)) → entries_in (xs ++ ys) ≡ entries_in xs ++ entries_in ys
  entries_append [] ys = refl
  entries_append (Opened capacity is_reserved ∷ xs) ys = entries_append xs ys
  entries_append (Made entry ∷ xs) ys = ap (λ (l : List E). entry ∷ l) (entries_append xs ys)

  pub seen_front : (xs ys : List (Line E)) (now : List E) → entries_in xs ≡ now → IsPrefix xs ys → IsPrefix now (entries_in ys)
  seen_front xs ys now is front = (entries_in front.0, let more = entries_append xs front.0 in let all = ap (λ (l : List (Line E)). entries_in l) front.1 in cc)

  pub no_entries : (log : List (Line E)) → log ≡ opened (capacity_in log) (is_reserved_in log) → entries_in log ≡ []
  no_entries log is = ap (λ (l : List (Line E)). entries_in l) is

  module _ (legal : ℕ → Bool → List E → Type 0) (begins : (capacity : ℕ) (is_reserved : Bool) → legal capacity is_reserved []) where
    pub log_none : (capacity : ℕ) (is_reserved : Bool) → IsLogOf legal capacity is_reserved (opened capacity is_reserved)
    log_none capacity is_reserved = record { calls = []; opens = refl; is_legal = begins capacity is_reserved }

    pub log_new : (capacity : ℕ) (is_reserved : Bool) → IsLog legal ((0, true) ∷ []) (opened capacity is_reserved)
    log_new capacity is_reserved = record {
      word = refl;
      of_some = record { capacity = capacity; is_reserved = is_reserved; whole = log_none capacity is_reserved };
    }

    pub log_opened : (capacity : ℕ) (is_reserved : Bool) (log : List (Line E)) → log ≡ opened (capacity_in log) (is_reserved_in log)
        → capacity_in log ≡ capacity → is_reserved_in log ≡ is_reserved → IsLogOf legal capacity is_reserved log
    log_opened capacity is_reserved log is at kind =
        subst (λ (l : List (Line E)). IsLogOf legal capacity is_reserved l)
        (sym (is ∙ rw (at, kind) refl)) (log_none capacity is_reserved)

  module _ (legal : ℕ → Bool → List E → Type 0) where
    pub same_opening : (capacity : ℕ) (is_reserved : Bool) (xs ys : List (Line E)) → IsLogOf legal capacity is_reserved xs → IsPrefix xs ys
        → IsLogOfSome legal ys → IsLogOf legal capacity is_reserved ys
    same_opening capacity is_reserved xs ys this front that =
        let log : List (Line E) = that.whole.calls in
        let other : ys ≡ Opened that.capacity that.is_reserved ∷ log = that.whole.opens in
        let own : ys ≡ Opened capacity is_reserved ∷ (this.calls ++ front.0) =
        sym front.1 ∙ ap (λ (l : List (Line E)). l ++ front.0) this.opens in
        let at : that.capacity ≡ capacity = sym (ap capacity_in other) ∙ ap capacity_in own in
        let kind : that.is_reserved ≡ is_reserved = sym (ap is_reserved_in other) ∙ ap is_reserved_in own in
        subst (λ (b : Bool). IsLogOf legal capacity b ys) kind
        (subst (λ (c : ℕ). IsLogOf legal c that.is_reserved ys) at that.whole)
