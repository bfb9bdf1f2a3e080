-- A list has one greatest pair (the first among equals), and one least pair (the last among
-- equals).
use Rattle.std.proofs.Common.{◌≡◌, true, false, List, [], ◌∷◌, ◌++◌, sym, ap, subst, ◌∙◌}
use Rattle.std.proofs.lemmas.List.Elements.{recursion_from_All}
use Rattle.std.specs.Cmp.{IsTotalOrder}
use Rattle.std.specs.List.{AllByRecursion}
use Rattle.std.specs.Ordering.{is_lt, is_gt, ordering_reverse}
use Rattle.std.specs.declared.cmp.Ordering.TheVariants.{Less, Greater}
use Rattle.priority_channel_core.specs.bag.Prelude.{TakesGreatest, TakesLeast, Ordering}

-- An element that is recognized by what is before it and what is behind it. No two elements are
-- recognized in this way.
module _ {A : Type 0} (Before Behind : A → A → Type 0) (never : (x y : A) → Behind x y → Before y x → ⊥) where
  in_middle : (F : A → Type 0) (b : List A) (x : A) (a : List A) → AllByRecursion F (b ++ x ∷ a) → F x
  in_middle F [] x a h = h.0
  in_middle F (y ∷ b) x a h = in_middle F b x a h.1

  not_both : (x y : A) (b a rest : List A) → rest ≡ b ++ y ∷ a → AllByRecursion (Behind x) rest → Before y x → ⊥
  not_both x y b a rest e h before = never x y (in_middle (Behind x) b y a (subst (AllByRecursion (Behind x)) e h)) before

  one : (b a c d : List A) (x y : A) → b ++ x ∷ a ≡ c ++ y ∷ d
      → AllByRecursion (Before x) b → AllByRecursion (Behind x) a → AllByRecursion (Before y) c → AllByRecursion (Behind y) d
      → (x ≡ y) × (b ++ a ≡ c ++ d)
  one [] a [] d x y e f g h i = (cc, cc)
  one [] a (z ∷ c) d x y e f g h i =
      let same : z ≡ x = cc in let rest : a ≡ c ++ y ∷ d = cc in
      absurd (not_both x y c d a rest g (subst (Before y) same h.0))
  one (z ∷ b) a [] d x y e f g h i =
      let same : z ≡ y = cc in let rest : d ≡ b ++ x ∷ a = cc in
      absurd (not_both y x b a d rest i (subst (Before x) same f.0))
  one (z ∷ b) a (w ∷ c) d x y e f g h i =
      let rest : b ++ x ∷ a ≡ c ++ y ∷ d = cc in
      let r = one b a c d x y rest f.1 g h.1 i in
      let same : z ≡ w = cc in
      (r.0, (λ k. same k ∷ r.1 k))

module _ {T P : Type 0} {cmp : P → P → Ordering} (o : IsTotalOrder cmp) where
  abbrev Below : T × P → T × P → Type 0
  Below p x = cmp x.1 p.1 ≡ Less

  abbrev NotAbove : T × P → T × P → Type 0
  NotAbove p x = is_gt (cmp x.1 p.1) ≡ false

  never_above : (p q : T × P) → NotAbove p q → Below q p → ⊥
  never_above p q not below = let g : is_gt (cmp q.1 p.1) ≡ true = ap is_gt (o.antisymm q.1 p.1 ∙ ap ordering_reverse below) in cc

  pub one_greatest : (pending : List (T × P)) (p q : T × P) (r s : List (T × P)) → TakesGreatest cmp pending p r → TakesGreatest cmp pending q s → (p ≡ q) × (r ≡ s)
  one_greatest pending p q r s x y =
      let w = one Below NotAbove never_above x.before x.after y.before y.after p q (sym x.split ∙ y.split)
      (recursion_from_All (Below p) x.before x.below) (recursion_from_All (NotAbove p) x.after x.not_above)
      (recursion_from_All (Below q) y.before y.below) (recursion_from_All (NotAbove q) y.after y.not_above) in
      (w.0, x.closed_up ∙ w.1 ∙ sym y.closed_up)

  abbrev NotBelow : T × P → T × P → Type 0
  NotBelow p x = is_lt (cmp x.1 p.1) ≡ false

  abbrev Above : T × P → T × P → Type 0
  Above p x = cmp x.1 p.1 ≡ Greater

  never_below : (p q : T × P) → Above p q → NotBelow q p → ⊥
  never_below p q above not = let g : is_lt (cmp p.1 q.1) ≡ true = ap is_lt (o.antisymm p.1 q.1 ∙ ap ordering_reverse above) in cc

  pub one_least : (pending : List (T × P)) (p q : T × P) (r s : List (T × P)) → TakesLeast cmp pending p r → TakesLeast cmp pending q s → (p ≡ q) × (r ≡ s)
  one_least pending p q r s x y =
      let w = one NotBelow Above never_below x.before x.after y.before y.after p q (sym x.split ∙ y.split)
      (recursion_from_All (NotBelow p) x.before x.not_below) (recursion_from_All (Above p) x.after x.above)
      (recursion_from_All (NotBelow q) y.before y.not_below) (recursion_from_All (Above q) y.after y.above) in
      (w.0, x.closed_up ∙ w.1 ∙ sym y.closed_up)
