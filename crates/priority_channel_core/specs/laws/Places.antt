-- How many held places calls got, and gave back, read only from their answers.
use Rattle.std.specs.Prelude.{ℕ, List, true, Some, Ok, sum_by}
use Rattle.priority_channel_core.specs.Prelude.{Answers, Operation, Answer}

module _ {T P : Type 0} where
  abbrev pub got_by : Answers T P → ℕ
  got_by (Answer.TryReserve (Ok done)) = 1
  got_by (Answer.TryLease (Ok pair)) = 1
  got_by (Answer.LeaseWhere (Ok (Some pair))) = 1
  got_by _ = 0

  abbrev pub given_by : Answers T P → ℕ
  given_by (Answer.Put (Ok done)) = 1
  given_by (Answer.Free true) = 1
  given_by _ = 0

module _ {T P W : Type 0} where
  abbrev pub got_in : List (Operation T P W) → ℕ
  got_in run = sum_by (λ made. got_by made.answer) run

  abbrev pub given_in : List (Operation T P W) → ℕ
  given_in run = sum_by (λ made. given_by made.answer) run
