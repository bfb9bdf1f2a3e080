use Rattle.std.proofs.Common.{rules}
use Rattle.priority_channel_witnessed.proofs.witnessed.Witnessed.new.Goals as goal

pub invariant_of-kept : goal.invariant_of-kept
invariant_of-kept g c = search rules
