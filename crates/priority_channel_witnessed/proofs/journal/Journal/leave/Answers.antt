use Rattle.std.proofs.Common.{arith}
use Rattle.priority_channel_witnessed.proofs.Leaving.{given_less, shared_go}
use Rattle.priority_channel_witnessed.proofs.journal.Journal.leave.Goals as goal

pub invariant_of-self : goal.invariant_of-self
invariant_of-self g c =
    let before = c.self.invariant in
    let left = c.leave.ensures in (
      before.0,
      omega (arith, before.1, left.parts, c.strike.ensures.count),
      given_less _ _ _ _ c.strike.ensures.struck before.2,
      rw left.amount (shared_go _ _ _ _ c.number-number.result c.args.pass.count c.self.inside.made before.3 c.strike.ensures.struck (rw c.number-number.ensures left.counted)),
    )
