use Rattle.std.proofs.Common.{rules}
use Rattle.priority_channel_c.proofs.Tested.{changed}
use Rattle.priority_channel_c.proofs.keys.change_priority.Goals as goal

pub returns-clause-first : goal.returns-clause-first
returns-clause-first c = changed (λ pair tells. search rules) (λ pair tells. search rules) _ _ _ c.change_priority.result c.change_priority.ensures.first
