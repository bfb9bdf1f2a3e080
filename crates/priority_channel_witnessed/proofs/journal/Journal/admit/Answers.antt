use Rattle.std.proofs.Common.{◌≡◌, arith}
use Rattle.priority_channel_witnessed.proofs.Leaving.{given_more, shared_come}
use Rattle.priority_channel_witnessed.proofs.journal.Journal.admit.Goals as goal

pub invariant_of-self-2 : goal.invariant_of-self-2
invariant_of-self-2 g c =
    let before = c.self.invariant in
    let pushed = c.in-Ok.ensures in
    let same : c.split_off.new.self.amount ≡ c.self.inside.rest.amount = omega (arith, c.split_off.ensures.amount_left) in (
      before.0,
      omega (arith, before.1, c.split_off.ensures.parts_left, pushed.len),
      rw pushed.items (given_more _ _ before.2),
      rw (pushed.items, same) (shared_come _ _ _ _ before.3),
    )
