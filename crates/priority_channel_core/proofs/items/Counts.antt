-- How many items of a list pass, in whatever order they stand.
use Rattle.std.proofs.Common.{ℕ, inl, inr, List, [], ◌∷◌, map, arith}
use Rattle.priority_channel_core.specs.bag.Prelude.{Counts, put_in, by_key}

module _ {X : Type 0} (passes fails : X → Type 0) where
  swapped : (x y : X) (xs : List X) (n : ℕ) → Counts passes fails (x ∷ y ∷ xs) n → Counts passes fails (y ∷ x ∷ xs) n
  swapped x y xs n (inl (a, inl (b, h))) = inl (b, inl (a, h))
  swapped x y xs n (inl (a, inr (b, m, is, h))) = inr (b, m, is, inl (a, h))
  swapped x y xs n (inr (a, m, is, inl (b, h))) = inl (b, inr (a, m, is, h))
  swapped x y xs n (inr (a, m, is, inr (b, k, are, h))) = inr (b, m, is, inr (a, k, are, h))

  then_more : (y : X) (xs ys : List X) (n : ℕ) → ((m : ℕ) → Counts passes fails xs m → Counts passes fails ys m)
      → Counts passes fails (y ∷ xs) n → Counts passes fails (y ∷ ys) n
  then_more y xs ys n more (inl (a, h)) = inl (a, more n h)
  then_more y xs ys n more (inr (a, m, is, h)) = inr (a, m, is, more m h)

  module _ (key : X → ℕ) where
    counts_put_in : (x : X) (xs : List X) (n : ℕ) → Counts passes fails (x ∷ xs) n → Counts passes fails (put_in key x xs) n
    unfolding put_in
    counts_put_in x [] n h = h
    counts_put_in x (y ∷ xs) n h = let later = then_more y (x ∷ xs) (put_in key x xs) n (counts_put_in x xs) (swapped x y xs n h) in grind (arith, later)

    pub counts_by_key : (xs : List X) (n : ℕ) → Counts passes fails xs n → Counts passes fails (by_key key xs) n
    unfolding by_key
    counts_by_key [] n h = h
    counts_by_key (x ∷ xs) n h = counts_put_in x (by_key key xs) n (then_more x xs (by_key key xs) n (counts_by_key xs) h)

pub counts_map : {X Y : Type 0} (passes fails : Y → Type 0) (f : X → Y) (xs : List X) (n : ℕ)
    → Counts (λ x. passes (f x)) (λ x. fails (f x)) xs n → Counts passes fails (map f xs) n
counts_map passes fails f [] n h = h
counts_map passes fails f (x ∷ xs) n (inl (a, h)) = inl (a, counts_map passes fails f xs n h)
counts_map passes fails f (x ∷ xs) n (inr (a, m, is, h)) = inr (a, m, is, counts_map passes fails f xs m h)
