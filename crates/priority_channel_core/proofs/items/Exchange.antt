-- Two elements of a list are swapped, one on each side of a cut.
use Rattle.std.proofs.Common.{◌≡◌, ℕ, ◌<◌, List, [], ◌∷◌, ◌++◌, length, length-append, slice_index_or, slice_set, sym, ap, ◌∙◌, arith, swap}
use Rattle.std.proofs.Math.ListN.{get_or-append}
use Rattle.std.proofs.lemmas.List.{get_or_at, get_or_default, set_at, set-append_left, length-set}
use Rattle.priority_channel_core.specs.bag.Prelude.{Item}

pub exchanged :
    {X : Type 0} (xs front back : List X) (low high : ℕ) (x y : X)
    → xs ≡ front ++ back → length front ≡ high → low < high → high < length xs → x ≡ slice_index_or front low x → y ≡ slice_index_or back 0 y
    → slice_set front low y ++ slice_set back 0 x ≡ swap xs low high
exchanged xs [] back low high x y e long p q x_is y_is = absurd (omega arith)
exchanged xs (a ∷ f) [] low high x y e long p q x_is y_is = let n = ap length e in absurd (omega (arith, n, length-append (a ∷ f) []))
exchanged {X} xs (a ∷ f) (b ∷ rest) low high x y e long p q x_is y_is =
    let zs = (a ∷ f) ++ b ∷ rest in
    let high_is = get_or_at (a ∷ f) b rest a high long in
    let low_is = get_or-append (a ∷ f) (b ∷ rest) a low (omega arith) ∙ get_or_default (a ∷ f) low a x (omega arith) ∙ sym x_is in
    ap (λ v. slice_set (a ∷ f) low v ++ x ∷ rest) y_is
    ∙ sym (set_at (slice_set (a ∷ f) low b) b rest x high (length-set (a ∷ f) low b ∙ long))
    ∙ sym (ap (λ (l : List X). slice_set l high x) (set-append_left (a ∷ f) (b ∷ rest) low b (omega arith)))
    ∙ sym (λ i. slice_set (slice_set zs low (high_is i)) high (low_is i))
    ∙ sym (ap (λ l. swap l low high) e)

pub same_item : {T P : Type 0} (x y : Item T P) → x.msg ≡ y.msg → x.priority ≡ y.priority → x.number ≡ y.number → x ≡ y
same_item x y m p n = λ i. record { msg = m i; priority = p i; number = n i }
