use Rattle.std.proofs.Common.{rules}
use Rattle.priority_channel_recorded.proofs.recorder.History.entries.Goals as goal

pub returns : goal.returns
returns g c = search rules
