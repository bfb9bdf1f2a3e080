-- Adding a prefix of a list, as a send of the list.
use Rattle.std.proofs.Common.{◌≡◌, ◌+◌, ◌<◌, ◌^◌, ◌⊎◌, ◌≤◌, Bool, true, false, List, [], ◌∷◌, ◌++◌, ◌∙◌, length, length-append, refl, sym, ap, arith, inl, inr, Ok, Err, append-nil}
use Rattle.priority_channel_core.specs.Prelude.{Full, Closed, Memory, State, Handed, nobody, room, IsGood, AddsFront, Sends, SendReply, Does}

module _ {T P W : Type 0} (old new : State T P W) (handed : Handed W) where
  pub none_added : (front : List (T × P)) → AddsFront old front handed new → new ≡ old → front ≡ []
  none_added [] adds same = refl
  none_added (x ∷ front) adds same =
      let e : old.accepted ≡ old.accepted + length (x ∷ front) = ap (λ s. s.accepted) (sym same ∙ adds.1) in
      absurd (omega (arith, e))

  pub within : (front : List (T × P)) → IsGood new → AddsFront old front handed new → length front ≤ room old
  within front good adds =
      let fits : length (old.pending ++ front) + old.held ≤ old.capacity = rw adds.1 at good.within_capacity in
      let e : length (old.pending ++ front) ≡ length old.pending + length front = length-append old.pending front in
      omega (arith, fits, e)

  pub none_or_accepted : (b : Bool) → old.is_closed ≡ b → (front : List (T × P)) → IsGood new → AddsFront old front handed new → (old.is_closed ≡ true → new ≡ old)
      → (front ≡ []) ⊎ ((old.is_closed ≡ false) × (length front ≤ room old))
  none_or_accepted true closed front good adds same = inl (none_added front adds (same closed))
  none_or_accepted false opened front good adds same = inr (opened, within front good adds)

module _ {T P W : Type 0} where
  pub adds_none : (s : State T P W) → AddsFront s [] nobody s
  adds_none s = (refl, grind (arith, append-nil))

  pub sends_front : (old new : State T P W) (pairs : List (T × P)) (reply : SendReply (List (T × P))) (handed : Handed W)
      → Sends old (Does old handed new) pairs reply → (front : List (T × P)) × AddsFront old front handed new
  sends_front old new pairs (Ok done) handed sends = (pairs, sends.2.1)
  sends_front old new pairs (Err (Closed rest)) handed sends = ([], rw (sends.2.0, sends.2.1) (adds_none old))
  sends_front old new pairs (Err (Full rest)) handed sends = (sends.0, sends.4.1)
  sends_front old new pairs (Err (Memory rest)) handed sends = (sends.0, sends.4.1)

  pub refuses_full : (s : State T P W) (pairs : List (T × P)) → room s ≡ 0 → s.is_closed ≡ false → Sends s (Does s nobody s) pairs (Err (Full pairs))
  refuses_full s pairs none opened = ([], refl, sym none, inl none, (opened, adds_none s))

  pub refuses_first : (s : State T P W) (pairs : List (T × P)) → 0 < length pairs → 0 < room s → s.is_closed ≡ false
      → (s.is_reserved ≡ false) ⊎ (s.accepted + s.held + 1 ≡ 2 ^ 64) → Sends s (Does s nobody s) pairs (Err (Memory pairs))
  refuses_first s pairs some more opened why =
      ([], refl, more, some, (opened, adds_none s), grind arith)
