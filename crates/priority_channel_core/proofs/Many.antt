-- Many receives, one after another.
use Rattle.std.proofs.Common.{◌≡◌, ℕ, ◌+◌, ◌*◌, ◌≤◌, List, [], ◌∷◌, ◌++◌, length, length-append, refl, sym, ap, subst, ◌∙◌, append_assoc, arith, Ok, Err, min}
use Rattle.std.proofs.lemmas.Nat.{mul-le}
use Rattle.priority_channel_core.specs.Prelude.{TryRecvError, State, Handed, nobody, Step, Operation, Run, in_turn, receives, ReceivesInTurn, Ordering, Call, Answer}
use Rattle.priority_channel_core.specs.bag.Prelude.{digits}
use Rattle.priority_channel_core.proofs.items.Digits.{digits-mono}
use Rattle.priority_channel_core.proofs.Running.{Run-more}

module _ {T P W : Type 0} where
  receives-push : (pairs : List (T × P)) (pair : T × P) → in_turn {W = W} receives (pairs ++ pair ∷ []) nobody ≡ in_turn receives pairs nobody ++ in_turn receives (pair ∷ []) nobody
  receives-push [] pair = refl
  receives-push (p ∷ pairs) pair =
      ap (λ (l : List (Operation T P W)). record { call = Call.TryRecv; answer = Answer.TryRecv (Ok p); handed = nobody } ∷ l) (receives-push pairs pair)

module _ {T P W : Type 0} (cmp : P → P → Ordering) (is_clone : W → W → Type 0) where
  -- `count` receives succeeded, and what they gave stands behind what was there before
  pub record Received (old : State T P W) (before : List (T × P)) (count : ℕ) (new : State T P W) (now : List (T × P)) : Type 0 where
    pub pairs : List (T × P)
    pub items : now ≡ before ++ pairs
    pub long : length pairs ≡ count
    pub counted : count + length new.pending ≡ length old.pending
    pub run : Run cmp is_clone old (in_turn receives pairs nobody) new
    pub nobody_waits : new.waiters.room ≡ []

  pub first_length : (old mid : State T P W) (pair : T × P) (handed : Handed W)
      → Step cmp is_clone old Call.TryRecv (Answer.TryRecv (Ok pair)) handed mid → length old.pending ≡ length mid.pending + 1
  first_length old mid pair handed s = let taken = s.moves.0 in grind (arith, length-append)

  pub received_more : (old mid new : State T P W) (before now after : List (T × P)) (count : ℕ) (pair : T × P) (handed : Handed W)
      → Received old before count mid now → Step cmp is_clone mid Call.TryRecv (Answer.TryRecv (Ok pair)) handed new → after ≡ now ++ pair ∷ []
      → Received old before (count + 1) new after
  received_more old mid new before now after count pair handed r s is =
      let handed_is : handed ≡ nobody = s.moves.1.0 ∙ ap (λ (l : List (ℕ × W)). record { room = l; message = [] }) r.nobody_waits in
      let taken = first_length mid new pair handed s in
      record {
        pairs = r.pairs ++ pair ∷ [];
        items = is ∙ ap (λ (l : List (T × P)). l ++ pair ∷ []) r.items ∙ append_assoc before r.pairs (pair ∷ []);
        long = omega (arith, length-append r.pairs (pair ∷ []), r.long);
        counted = omega (arith, taken, r.counted);
        run = subst (λ (run : List (Operation T P W)). Run cmp is_clone old run new) (sym (receives-push r.pairs pair))
            (Run-more cmp is_clone old mid new (in_turn receives r.pairs nobody) (record { call = Call.TryRecv; answer = Answer.TryRecv (Ok pair); handed = nobody }) r.run
            (subst (λ (h : Handed W). Step cmp is_clone mid Call.TryRecv (Answer.TryRecv (Ok pair)) h new) handed_is s));
        nobody_waits = ap (λ (s : State T P W). s.waiters.room) s.moves.1.1;
      }

  pub received_first : (old mid new : State T P W) (before first now pairs : List (T × P)) (pair : T × P) (handed : Handed W)
      → Step cmp is_clone old Call.TryRecv (Answer.TryRecv (Ok pair)) handed mid → first ≡ before ++ pair ∷ []
      → now ≡ first ++ pairs → ReceivesInTurn cmp is_clone mid pairs nobody new
      → (now ≡ before ++ (pair ∷ pairs)) × ReceivesInTurn cmp is_clone old (pair ∷ pairs) handed new
  received_first old mid new before first now pairs pair handed s is items more = (
    items ∙ ap (λ (l : List (T × P)). l ++ pairs) is ∙ append_assoc before (pair ∷ []) pairs,
    record { run = (mid, s, more.run); nobody_for_none = λ none. let n = ap length none in absurd (omega arith) },
  )

  pub refusal_costs : (old new : State T P W) (error : TryRecvError) (handed : Handed W)
      → Step cmp is_clone old Call.TryRecv (Answer.TryRecv (Err error)) handed new → digits (length old.pending) ≡ 0
  unfolding digits
  refusal_costs old new error handed s = grind arith

pub min_next : (n x y a b : ℕ) → n ≡ min x y → x + 1 ≡ a → y + 1 ≡ b → n + 1 ≡ min a b
min_next n x y a b e p q = omega arith

pub receive_costs : (n left all : ℕ) → left ≤ all → n * (2 * digits all) + 2 * digits left ≤ (n + 1) * (2 * digits all)
receive_costs n left all le = grind (arith, digits-mono)

pub receives_cost : (n left all : ℕ) → left ≤ all → 2 * digits all + n * (2 * digits left) ≤ (n + 1) * (2 * digits all)
receives_cost n left all le = let h = digits-mono left all le in let m = mul-le n (2 * digits left) n (2 * digits all) in grind arith
