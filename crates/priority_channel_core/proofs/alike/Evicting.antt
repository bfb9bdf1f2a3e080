-- Two sends that may displace a pair, from states that are the same, with as many pairs accepted.
use Rattle.std.proofs.Common.{◌≡◌, List, [], ◌∷◌, length, refl, sym, ap, ◌∙◌, arith, inl, inr, Option, Some, None, Result, Ok, Err}
use Rattle.std.specs.Cmp.{IsTotalOrder}
use Rattle.priority_channel_core.proofs.items.Extremes.{one_least}
use Rattle.priority_channel_core.specs.Prelude.{State, as_list, Change, Sends, Evicts, Ordering, Call, Answer, TrySendError, Closed, Full, Memory}
use Rattle.priority_channel_core.specs.laws.Accepted.{sent, accepted_by}
use Rattle.priority_channel_core.specs.laws.Alike.{is_memory, SameState}
use Rattle.priority_channel_core.proofs.alike.Lists.{same_pending}
use Rattle.priority_channel_core.proofs.alike.Calls.{rooms, none_same, sends_same}

pub as_list_one : {A : Type 0} (x y : Result (Unit {0}) (TrySendError A)) → as_list y ≡ as_list x → y ≡ x
as_list_one x y h = grind arith

abbrev again : {A E : Type 0} → Result (Unit {0}) E → Result (Option A) E
again (Ok done) = Ok None
again (Err error) = Err error

none_sent : {A : Type 0} (pair : A) (error : TrySendError A) → sent (pair ∷ []) (as_list (Err error)) ≡ []
none_sent pair (Closed held) = refl
none_sent pair (Full held) = refl
none_sent pair (Memory held) = refl

module _ {T P W : Type 0} (is_clone : W → W → Type 0) {cmp : P → P → Ordering} (o : IsTotalOrder cmp) {s r : State T P W}
    (same : SameState is_clone s r) (left left' : List (T × P)) (does does' : Change T P → Type 0) (msg : T) (priority : P) where
  abbrev Pairs : List (T × P)
  Pairs = (msg, priority) ∷ []

  refused_same : (e f : TrySendError (T × P)) → Sends s does Pairs (as_list (Err e)) → Sends r does' Pairs (as_list (Err f))
      → (again {A = T × P} (Err f) ≡ again (Err e)) × ((c : Change T P) × does c × does' c)
  refused_same e f a b =
      let t = sends_same is_clone same o left left' does does' Pairs (as_list (Err e)) (as_list (Err f)) a b
      (ap length (none_sent (msg, priority) f ∙ sym (none_sent (msg, priority) e))) in
      (ap again (as_list_one (Err e) (Err f) t.0), t.1)

  pub evicts_same : (x y : Result (Option (T × P)) (TrySendError (T × P))) → Evicts s does cmp (msg, priority) x → Evicts r does' cmp (msg, priority) y
      → length (accepted_by {W = W} (Call.TrySendEvicting msg priority) (Answer.TrySendEvicting y)) ≡ length (accepted_by {W = W} (Call.TrySendEvicting msg priority) (Answer.TrySendEvicting x))
      → is_memory (Answer.TrySendEvicting y) ≡ is_memory (Answer.TrySendEvicting x) → (y ≡ x) × ((c : Change T P) × does c × does' c)
  evicts_same (Ok None) (Ok None) a b count memory = (refl, (sends_same is_clone same o left left' does does' Pairs (Ok tt) (Ok tt) a b refl).1)
  evicts_same (Ok None) (Ok (Some gone)) a b count memory = absurd (omega (arith, a.0, b.1, rooms is_clone same))
  evicts_same (Ok (Some out)) (Ok None) a b count memory = absurd (omega (arith, b.0, a.1, rooms is_clone same))
  evicts_same (Ok (Some out)) (Ok (Some gone)) a b count memory =
      let one = one_least o s.pending gone out b.0 a.0 (rw (same_pending is_clone same) at b.3) a.3 in
      (ap (λ (z : T × P). Ok (Some z)) one.0, (Change.MakesWay a.0 (msg, priority), a.4.1, rw one.1 at b.4.1))
  evicts_same (Ok displaced) (Err f) a b count memory = absurd (omega (arith, count))
  evicts_same (Err e) (Ok displaced) a b count memory = absurd (omega (arith, count))
  evicts_same (Err (Closed u)) (Err (Closed v)) a b count memory = refused_same (Closed u) (Closed v) a b
  evicts_same (Err (Closed u)) (Err (Full v)) a b count memory = refused_same (Closed u) (Full v) a b.1
  evicts_same (Err (Full u)) (Err (Closed v)) a b count memory = refused_same (Full u) (Closed v) a.1 b
  evicts_same (Err (Full u)) (Err (Full v)) a b count memory = refused_same (Full u) (Full v) a.1 b.1
  evicts_same (Err (Memory u)) (Err (Memory v)) (inl a) (inl b) count memory = refused_same (Memory u) (Memory v) a b
  evicts_same (Err (Memory u)) (Err (Memory v)) (inl a) (inr b) count memory = absurd (omega (arith, a.2, b.1, rooms is_clone same))
  evicts_same (Err (Memory u)) (Err (Memory v)) (inr a) (inl b) count memory = absurd (omega (arith, b.2, a.1, rooms is_clone same))
  evicts_same (Err (Memory u)) (Err (Memory v)) (inr a) (inr b) count memory =
      (ap (λ (z : T × P). Err (Memory z)) (b.3 ∙ sym a.3), none_same is_clone same o left left' does does' a.4 b.4)
  evicts_same x y a b count memory = absurd (cc)
