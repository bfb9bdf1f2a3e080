-- Each ticket in a list of those who wait beside the core is below the next one.
use Rattle.std.proofs.lemmas.Bool.Decides.{nat_tests}
use Rattle.std.proofs.Common.{◌≡◌, ℕ, ◌+◌, ◌<◌, not, List, subst, arith, ◌==◌, if◌then◌else◌, Option, Some, None, All}
use Rattle.std.proofs.lemmas.List.Elements.{All-filter, All-map, All-push, All-weaker}
use Rattle.priority_channel_core.specs.Prelude.{with_waker, without_given, listing, fresh, Listing}

module _ {W : Type 0} where
  pub below-without : (xs : List (ℕ × W)) (given : Option ℕ) (n : ℕ) → All (λ a. a.0 < n) xs → All (λ a. a.0 < n) (without_given given xs)
  below-without xs None n below = below
  below-without xs (Some u) n below = All-filter (λ a. not (a.0 == u)) (λ a. a.0 < n) xs below

  below-fresh : (xs : List (ℕ × W)) (w : W) (n : ℕ) → All (λ a. a.0 < n) xs → All (λ a. a.0 < n + 1) (fresh w xs n).waiters
  below-fresh xs w n below = All-push (λ a. a.0 < n + 1) xs (n, w) (All-weaker (λ a. a.0 < n) (λ a. a.0 < n + 1) (λ a l. omega arith) xs below) (omega arith)

  below-renewed : (xs : List (ℕ × W)) (u n : ℕ) (w : W) → All (λ a. a.0 < n) xs → All (λ a. a.0 < n) (with_waker u w xs)
  below-renewed xs u n w below =
      All-map (λ a. a.0 < n) (λ a. if a.0 == u then (u, w) else a) xs (grind (arith, nat_tests))

  abbrev IsBelow : Listing W → Type 0
  IsBelow l = All (λ a. a.0 < l.next_ticket) l.waiters

  below-listing : (xs : List (ℕ × W)) (given : Option ℕ) (w : W) (n : ℕ) → All (λ a. a.0 < n) xs → IsBelow (listing given w xs n)
  below-listing xs None w n below = below-fresh xs w n below
  below-listing xs (Some u) w n below =
      let renewed = below-renewed xs u n w below in let other = below-fresh xs w n below in grind arith

  pub below-listed : (xs ys : List (ℕ × W)) (given : Option ℕ) (w : W) (n m ticket : ℕ) → All (λ a. a.0 < n) xs
      → listing given w xs n ≡ record { ticket = ticket; waiters = ys; next_ticket = m } → All (λ a. a.0 < m) ys
  below-listed xs ys given w n m ticket below listed = subst IsBelow listed (below-listing xs given w n below)
