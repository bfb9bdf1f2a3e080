-- A call that does not wait makes the same change in two states that are the same, if it accepts as
-- many pairs, and answers Memory in both or in neither.
use Rattle.std.proofs.Common.{◌≡◌, ℕ, Bool, true, false, List, [], ◌∷◌, ◌++◌, ◌+◌, length, refl, sym, ap, ◌∙◌, arith, length-append, length-take, Option, Some, None, Result, Ok, Err}
use Rattle.std.specs.Cmp.{IsTotalOrder}
use Rattle.priority_channel_core.specs.bag.Prelude.{TakesOne}
use Rattle.priority_channel_core.specs.Prelude.{State, Side, room, Change, Sends, Says, Clones, Ordering, SendReply, RecvReply, LeaseReply, TrySendError, TryRecvError, Call, Answer, TryRecvManyError}
use Rattle.priority_channel_core.specs.laws.Accepted.{all_but, sent}
use Rattle.priority_channel_core.specs.laws.Alike.{is_memory, SameState}
use Rattle.priority_channel_core.proofs.runs.Changes.{all_but-front}
use Rattle.priority_channel_core.proofs.items.Extremes.{one_greatest}
use Rattle.priority_channel_core.proofs.alike.Lists.{same_pending, same_held, same_closed, same_capacity}

split_same : {A : Type 0} (front rest before after : List A) → front ++ rest ≡ before ++ after → length before ≡ length front
    → (before ≡ front) × (after ≡ rest)
split_same [] rest [] after e l = (refl, sym e)
split_same [] rest (y ∷ before) after e l = absurd (omega arith)
split_same (x ∷ front) rest [] after e l = absurd (omega arith)
split_same (x ∷ front) rest (y ∷ before) after e l =
    let head : y ≡ x = cc in
    let tail : front ++ rest ≡ before ++ after = cc in
    let more = split_same front rest before after tail (omega arith) in
    (rw (head, more.0) refl, more.1)

module _ {T P W : Type 0} (is_clone : W → W → Type 0) {s r : State T P W} (same : SameState is_clone s r) where
  pub rooms : room r ≡ room s
  rooms = rw (same_pending is_clone same, same_held is_clone same, same_capacity is_clone same) refl

  module _ {cmp : P → P → Ordering} (o : IsTotalOrder cmp) (left left' : List (T × P)) (does does' : Change T P → Type 0) where
    abbrev pub OneChange : Type 0
    OneChange = (c : Change T P) × does c × does' c

    pub none_same : does Change.Nothing → does' Change.Nothing → OneChange
    none_same a b = (Change.Nothing, a, b)

    fronts_same : (pairs f u g v : List (T × P)) → pairs ≡ f ++ u → pairs ≡ g ++ v → length g ≡ length f → does (Change.Adds f) → does' (Change.Adds g) → (v ≡ u) × OneChange
    fronts_same pairs f u g v p q l a b =
        let split = split_same f u g v (sym p ∙ q) l in
        (split.1, (Change.Adds f, a, rw split.0 at b))

    parts_long : (pairs front rest : List (T × P)) → pairs ≡ front ++ rest
        → (length pairs ≡ length front + length rest) × (length (all_but rest pairs) ≡ length front)
    parts_long pairs front rest p = rw p (length-append front rest, ap length (all_but-front front rest))

    pub sends_same : (pairs : List (T × P)) (x y : SendReply (List (T × P))) → Sends s does pairs x → Sends r does' pairs y
        → length (sent pairs y) ≡ length (sent pairs x) → (y ≡ x) × OneChange
    sends_same pairs (Ok d) (Ok e) a b count = (refl, (Change.Adds pairs, a.2.1, b.2.1))
    sends_same pairs (Err (TrySendError.Closed u)) (Err (TrySendError.Closed v)) a b count =
        (ap (λ (z : List (T × P)). Err (TrySendError.Closed z)) (b.1 ∙ sym a.1), none_same a.2 b.2)
    sends_same pairs (Err (TrySendError.Full u)) (Err (TrySendError.Full v)) a b count =
        let t = fronts_same pairs a.0 u b.0 v a.1 b.1 (b.2 ∙ (rooms ∙ sym a.2)) a.4.1 b.4.1 in
        (ap (λ (z : List (T × P)). Err (TrySendError.Full z)) t.0, t.1)
    sends_same pairs (Err (TrySendError.Memory u)) (Err (TrySendError.Memory v)) a b count =
        let c = (parts_long pairs a.0 u a.1).1 in let d = (parts_long pairs b.0 v b.1).1 in
        let t = fronts_same pairs a.0 u b.0 v a.1 b.1 (sym d ∙ (count ∙ c)) a.4.1 b.4.1 in
        (ap (λ (z : List (T × P)). Err (TrySendError.Memory z)) t.0, t.1)
    sends_same pairs x y a b count =
        let closed = same_closed is_clone same in let more = rooms in
        absurd (grind (arith, length-append {A = T × P}, length-take {A = T × P}))

    pub closes_same : (x y : Bool) → Says cmp s left does Call.Close (Answer.Close x) → Says cmp r left' does' Call.Close (Answer.Close y) → (y ≡ x) × OneChange
    closes_same true true a b = (refl, (Change.Shuts, a.1, b.1))
    closes_same false false a b = (refl, none_same a.1 b.1)
    closes_same x y a b = let e = same_closed is_clone same in absurd (cc)

    pub looks_same : {A : Type 0} {v w x y : A} → w ≡ v → (x ≡ v) × does Change.Nothing → (y ≡ w) × does' Change.Nothing → (y ≡ x) × OneChange
    looks_same e a b = (b.0 ∙ (e ∙ sym a.0), none_same a.1 b.1)

    pub clones_same : (side : Side) (n m : ℕ) (x y : Bool) → m ≡ n → Clones cmp s left does side n x → Clones cmp r left' does' side m y → (y ≡ x) × OneChange
    clones_same side n m true true e a b = (refl, (Change.Counts side (n + 1), a.1, rw e at b.1))
    clones_same side n m false false e a b = (refl, none_same a.1 b.1)
    clones_same side n m x y e a b = absurd (omega arith)

    -- what goes out at one place, and what is left
    taken_same : (place : ℕ) (p q : T × P) (t : TakesOne s.pending p left) (u : TakesOne r.pending q left') → length t.before ≡ place → length u.before ≡ place
        → (Some q ≡ Some p) × (left' ≡ left)
    taken_same place p q t u at there =
        let one = split_same t.before (p ∷ t.after) u.before (q ∷ u.after) (sym t.split ∙ sym (same_pending is_clone same) ∙ u.split) (there ∙ sym at) in
        (head_same p q t.after u.after one.1, u.closed_up ∙ (λ i. one.0 i ++ tail_same p q t.after u.after one.1 i) ∙ sym t.closed_up)
      where
        head_same : (p q : T × P) (xs ys : List (T × P)) → q ∷ ys ≡ p ∷ xs → Some q ≡ Some p
        head_same p q xs ys e = cc

        tail_same : (p q : T × P) (xs ys : List (T × P)) → q ∷ ys ≡ p ∷ xs → ys ≡ xs
        tail_same p q xs ys e = cc

    pub takes_same : (place : ℕ) (x y : Option (T × P)) → Says cmp s left does (Call.TakeWhere place) (Answer.TakeWhere x) → Says cmp r left' does' (Call.TakeWhere place) (Answer.TakeWhere y) → (y ≡ x) × OneChange
    takes_same place (Some p) (Some q) a b = let out = taken_same place p q a.0 b.0 a.1 b.1 in (out.0, (Change.GoesOut left, a.2, rw out.1 at b.2))
    takes_same place None None a b = (refl, none_same a.1 b.1)
    takes_same place x y a b = let pending = ap length (same_pending is_clone same) in absurd (grind (arith, length-append {A = T × P}))

    pub changes_same : (place : ℕ) (priority : P) (x y : Result P P) → Says cmp s left does (Call.ChangePriority place priority) (Answer.ChangePriority x)
        → Says cmp r left' does' (Call.ChangePriority place priority) (Answer.ChangePriority y) → (y ≡ x) × OneChange
    changes_same place priority (Ok was) (Ok had) a b =
        let t = a.0 in let u = b.0 in
        let one = split_same t.before ((t.msg, was) ∷ t.after) u.before ((u.msg, had) ∷ u.after) (sym t.split ∙ sym (same_pending is_clone same) ∙ u.split) (b.1 ∙ sym a.1) in
        let heads = same_heads t.msg u.msg was had t.after u.after one.1 in
        let lefts : left' ≡ left = u.changed ∙ (λ i. one.0 i ++ (heads.0 i, priority) ∷ heads.2 i) ∙ sym t.changed in
        (ap (λ (p : P). Ok p) heads.1, (Change.Reprices left, a.2, rw lefts at b.2))
      where
        same_heads : (m n : T) (p q : P) (xs ys : List (T × P)) → (n, q) ∷ ys ≡ (m, p) ∷ xs → (n ≡ m) × (q ≡ p) × (ys ≡ xs)
        same_heads m n p q xs ys e = let rest : ys ≡ xs = cc in let pair : (n, q) ≡ (m, p) = cc in (ap (λ (z : T × P). z.0) pair, ap (λ (z : T × P). z.1) pair, rest)
    changes_same place priority (Err back) (Err again) a b = (ap (λ (p : P). Err p) (b.1 ∙ sym a.1), none_same a.2 b.2)
    changes_same place priority x y a b = let pending = ap length (same_pending is_clone same) in absurd (grind (arith, length-append {A = T × P}))

    pub reserves_same : (x y : SendReply (Unit {0})) → Says cmp s left does Call.TryReserve (Answer.TryReserve x) → Says cmp r left' does' Call.TryReserve (Answer.TryReserve y) → is_memory {T = T} {P = P} (Answer.TryReserve y) ≡ is_memory {T = T} {P = P} (Answer.TryReserve x)
        → (y ≡ x) × OneChange
    reserves_same (Ok d) (Ok e) a b memory = (refl, (Change.Holds, a.2, b.2))
    reserves_same (Err (TrySendError.Closed u)) (Err (TrySendError.Closed v)) a b memory = (refl, none_same a.1 b.1)
    reserves_same (Err (TrySendError.Full u)) (Err (TrySendError.Full v)) a b memory = (refl, none_same a.2 b.2)
    reserves_same (Err (TrySendError.Memory u)) (Err (TrySendError.Memory v)) a b memory = (refl, none_same a.2 b.2)
    reserves_same x y a b memory =
        let closed = same_closed is_clone same in let more = rooms in
        absurd (grind arith)

    pub puts_same : (pair : T × P) (x y : Result (Unit {0}) (T × P)) → Says cmp s left does (Call.Put pair.0 pair.1) (Answer.Put x) → Says cmp r left' does' (Call.Put pair.0 pair.1) (Answer.Put y) → (y ≡ x) × OneChange
    puts_same pair (Ok d) (Ok e) a b = (refl, (Change.Fills pair, a.1, b.1))
    puts_same pair (Err u) (Err v) a b = (ap (λ (z : T × P). Err z) (b.1 ∙ sym a.1), none_same a.2 b.2)
    puts_same pair x y a b = let held = same_held is_clone same in absurd (grind arith)

    pub frees_same : (x y : Bool) → Says cmp s left does Call.Free (Answer.Free x) → Says cmp r left' does' Call.Free (Answer.Free y) → (y ≡ x) × OneChange
    frees_same true true a b = (refl, (Change.Frees, a.1, b.1))
    frees_same false false a b = (refl, none_same a.1 b.1)
    frees_same x y a b = let held = same_held is_clone same in absurd (grind arith)

    pub receives_same : (x y : RecvReply (T × P)) → Says cmp s left does Call.TryRecv (Answer.TryRecv x) → Says cmp r left' does' Call.TryRecv (Answer.TryRecv y) → (y ≡ x) × OneChange
    receives_same (Ok p) (Ok q) a b =
        let one = one_greatest o s.pending q p left' left (rw (same_pending is_clone same) at b.0) a.0 in
        (ap (λ (z : T × P). Ok z) one.0, (Change.GoesOut left, a.1, rw one.1 at b.1))
    receives_same (Err TryRecvError.Closed) (Err TryRecvError.Closed) a b = (refl, none_same a.2 b.2)
    receives_same (Err TryRecvError.Empty) (Err TryRecvError.Empty) a b = (refl, none_same a.2 b.2)
    receives_same x y a b =
        let closed = same_closed is_clone same in let held = same_held is_clone same in let pending = ap length (same_pending is_clone same) in
        absurd (grind (arith, length-append {A = T × P}))

    pub leases_same : (x y : LeaseReply (T × P)) → Says cmp s left does Call.TryLease (Answer.TryLease x) → Says cmp r left' does' Call.TryLease (Answer.TryLease y) → is_memory {T = T} {P = P} (Answer.TryLease y) ≡ is_memory {T = T} {P = P} (Answer.TryLease x)
        → (y ≡ x) × OneChange
    leases_same (Ok p) (Ok q) a b memory =
        let one = one_greatest o s.pending q p left' left (rw (same_pending is_clone same) at b.0) a.0 in
        (ap (λ (z : T × P). Ok z) one.0, (Change.Lends left, a.1, rw one.1 at b.1))
    leases_same (Err TryRecvManyError.Closed) (Err TryRecvManyError.Closed) a b memory = (refl, none_same a.2 b.2)
    leases_same (Err TryRecvManyError.Empty) (Err TryRecvManyError.Empty) a b memory = (refl, none_same a.2 b.2)
    leases_same (Err TryRecvManyError.Memory) (Err TryRecvManyError.Memory) a b memory = (refl, none_same a.2 b.2)
    leases_same x y a b memory =
        let closed = same_closed is_clone same in let held = same_held is_clone same in let pending = ap length (same_pending is_clone same) in
        absurd (grind (arith, length-append {A = T × P}))

    pub leases_at_same : (place : ℕ) (x y : Result (Option (T × P)) TryRecvManyError) → Says cmp s left does (Call.LeaseWhere place) (Answer.LeaseWhere x) → Says cmp r left' does' (Call.LeaseWhere place) (Answer.LeaseWhere y)
        → is_memory {T = T} {P = P} (Answer.LeaseWhere y) ≡ is_memory {T = T} {P = P} (Answer.LeaseWhere x) → (y ≡ x) × OneChange
    leases_at_same place (Ok (Some p)) (Ok (Some q)) a b memory =
        let out = taken_same place p q a.0 b.0 a.1 b.1 in (ap (λ (z : Option (T × P)). Ok z) out.0, (Change.Lends left, a.2, rw out.1 at b.2))
    leases_at_same place (Ok None) (Ok None) a b memory = (refl, none_same a.2 b.2)
    leases_at_same place (Err TryRecvManyError.Closed) (Err TryRecvManyError.Closed) a b memory = (refl, none_same a.2 b.2)
    leases_at_same place (Err TryRecvManyError.Empty) (Err TryRecvManyError.Empty) a b memory = (refl, none_same a.2 b.2)
    leases_at_same place (Err TryRecvManyError.Memory) (Err TryRecvManyError.Memory) a b memory = (refl, none_same a.2 b.2)
    leases_at_same place x y a b memory =
        let closed = same_closed is_clone same in let held = same_held is_clone same in let pending = ap length (same_pending is_clone same) in
        absurd (grind (arith, length-append {A = T × P}))
