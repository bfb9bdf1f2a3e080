use Rattle.std.proofs.Common.{rules, ap, arith}
use Rattle.priority_channel_c.proofs.Many.{makes_many, given_list}
use Rattle.priority_channel_c.proofs.state.Core.try_send_many.Goals as goal

pub returns : goal.returns
returns c =
    let grown = ap (λ s. s.accepted) c.try_sendv-wakes.ensures.front.1.1 in
    makes_many c.peekable.result c.try_sendv-wakes.result.0 c.try_sendv-wakes.ensures.step (given_list _ _ (search rules) (search rules)) (search rules) (search rules)
    (omega (arith, grown, c.accepted.ensures, c.accepted-before.ensures)) (search rules) (search rules)
