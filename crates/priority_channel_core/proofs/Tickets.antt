-- If a waiter is listed or a ticket is taken off, each ticket remains one of the word's own, and in
-- one list only.
use Rattle.std.proofs.lemmas.Bool.Decides.{nat_tests}
use Rattle.std.proofs.Common.{◌≡◌, ℕ, ◌+◌, ◌<◌, ◌≤◌, ◌≢◌, false, not, List, [], ◌∷◌, ◌++◌, map, sym, subst, arith, ◌==◌, if◌then◌else◌, Option, Some, None, IfSome, IfNone, All}
use Rattle.std.proofs.lemmas.Bool.{ne_eqb}
use Rattle.std.proofs.lemmas.List.Elements.{All-filter, All-map, All-push, All-weaker}
use Rattle.std.proofs.lemmas.List.Folds.{list_any_none}
use Rattle.priority_channel_core.specs.Prelude.{IsRising, is_listed, without, with_waker, without_given, listing, fresh, Listing, IsListing, HasOwnTickets}
use Rattle.priority_channel_core.proofs.Waiting.{all_from_unlisted, rising-with_waker, rising-without}
use Rattle.std.proofs.lemmas.List.Quantifiers.{all_pairs_push}

module _ {W : Type 0} where
  pub unlisted_above : (xs : List (ℕ × W)) (n t : ℕ) → All (λ a. a.0 < n) xs → n ≤ t → is_listed t xs ≡ false
  unlisted_above xs n t below le = list_any_none (λ a. a.0 == t) xs (λ k d lt. let b = below k d lt in ne_eqb _ t (omega arith))

  unlisted-without : (xs : List (ℕ × W)) (t u : ℕ) → is_listed t xs ≡ false → is_listed t (without u xs) ≡ false
  unlisted-without xs t u none =
      list_any_none (λ a. a.0 == t) (without u xs) (All-filter (λ a. not (a.0 == u)) (λ a. (a.0 == t) ≡ false) xs (all_from_unlisted xs t none))

  -- how a list and the next ticket may change
  pub record Follows (xs ys : List (ℕ × W)) (n m : ℕ) : Type 0 where
    pub rises : IsRising ys
    pub below : All (λ a. a.0 < m) ys
    pub grows : n ≤ m
    pub no_others : (t : ℕ) → t ≢ n → is_listed t xs ≡ false → is_listed t ys ≡ false

  pub follows-without : (xs : List (ℕ × W)) (given : Option ℕ) (n : ℕ) → IsRising xs → All (λ a. a.0 < n) xs → Follows xs (without_given given xs) n n
  follows-without xs None n rises below = record { rises = rises; below = below; grows = omega arith; no_others = λ t ne h. h }
  follows-without xs (Some u) n rises below =
      record { rises = rising-without xs u rises; below = All-filter (λ a. not (a.0 == u)) (λ a. a.0 < n) xs below; grows = omega arith; no_others = λ t ne h. unlisted-without xs t u h }

  follows-fresh : (xs : List (ℕ × W)) (w : W) (n : ℕ) → IsRising xs → All (λ a. a.0 < n) xs → Follows xs (fresh w xs n).waiters n (fresh w xs n).next_ticket
  follows-fresh xs w n rises below =
      record {
        rises = all_pairs_push (λ a b. a.0 < b.0) xs (n, w) rises below;
        below = All-push (λ a. a.0 < n + 1) xs (n, w) (All-weaker (λ a. a.0 < n) (λ a. a.0 < n + 1) (λ a l. omega arith) xs below) (omega arith);
        grows = omega arith;
        no_others = λ t ne h. list_any_none (λ a. a.0 == t) (xs ++ (n, w) ∷ []) (All-push (λ a. (a.0 == t) ≡ false) xs (n, w) (all_from_unlisted xs t h) (ne_eqb n t (λ e. ne (sym e))));
      }

  follows-renewed : (xs : List (ℕ × W)) (u n : ℕ) (w : W) → IsRising xs → All (λ a. a.0 < n) xs → Follows xs (with_waker u w xs) n n
  follows-renewed xs u n w rises below =
      let f : ℕ × W → ℕ × W = λ a. if a.0 == u then (u, w) else a in
      record {
        rises = rising-with_waker xs u w rises;
        below = All-map (λ a. a.0 < n) f xs (grind (arith, nat_tests));
        grows = omega arith;
        no_others = λ t ne h. let all = all_from_unlisted xs t h in list_any_none (λ a. a.0 == t) (map f xs) (All-map (λ a. (a.0 == t) ≡ false) f xs (grind (arith, nat_tests)));
      }

  pub follows-listing : (xs : List (ℕ × W)) (given : Option ℕ) (w : W) (n : ℕ) → IsRising xs → All (λ a. a.0 < n) xs
      → Follows xs (listing given w xs n).waiters n (listing given w xs n).next_ticket
  follows-listing xs None w n rises below = follows-fresh xs w n rises below
  follows-listing xs (Some u) w n rises below =
      let renewed = follows-renewed xs u n w rises below in let other = follows-fresh xs w n rises below in grind arith

  -- how two lists and the next ticket may change, if each ticket remains one of their own
  abbrev pub Own : List (ℕ × W) → List (ℕ × W) → ℕ → Type 0
  Own rs ms n = HasOwnTickets (record { room = rs; message = ms; next_ticket = n })

  pub own-swapped : (rs ms : List (ℕ × W)) (n : ℕ) → Own rs ms n → Own ms rs n
  own-swapped rs ms n own = grind arith

  pub own-room : (rs ss ms : List (ℕ × W)) (n m : ℕ) → Own rs ms n → Follows rs ss n m → Own ss ms m
  own-room rs ss ms n m own f =
      record {
        room_rises = f.rises;
        message_rises = own.message_rises;
        room_given = f.below;
        message_given = let g = f.grows in All-weaker (λ a. a.0 < n) (λ a. a.0 < m) (λ a l. omega arith) ms own.message_given;
        apart = λ t here. let above = unlisted_above ms n t own.message_given in let none = f.no_others t in grind arith;
      }

  pub own-message : (rs ms ns : List (ℕ × W)) (n m : ℕ) → Own rs ms n → Follows ms ns n m → Own rs ns m
  own-message rs ms ns n m own f = own-swapped ns rs m (own-room ms ns rs n m (own-swapped rs ms n own) f)

  -- what `listen_beside` promises of the list in which a waiter is listed, and of the other list
  pub own-listed : (is_clone : W → W → Type 0) (rs ss ms ns : List (ℕ × W)) (given r : Option ℕ) (waker : W) (n m : ℕ) → Own rs ms n
      → IfSome r (λ u. IsListing is_clone given waker rs n (record { ticket = u; waiters = ss; next_ticket = m }) × (ns ≡ ms))
      → IfNone r ((ss ≡ without_given given rs) × (ns ≡ without_given given ms) × (m ≡ n)) → Own ss ns m
  own-listed is_clone rs ss ms ns given None waker n m own some none =
      let left = own-room rs (without_given given rs) ms n n own (follows-without rs given n own.room_rises own.room_given) in
      rw (none.0, none.1, none.2)
      (own-message _ ms (without_given given ms) n n left (follows-without ms given n own.message_rises own.message_given))
  own-listed is_clone rs ss ms ns given (Some u) waker n m own some none =
      let P : Listing W → Type 0 = λ l. Follows rs l.waiters n l.next_ticket in
      let taken = subst P some.0.2 (follows-listing rs given some.0.0 n own.room_rises own.room_given) in
      rw some.1 (own-room rs ss ms n m own taken)
