use Rattle.std.proofs.Common.{rules}
use Rattle.priority_channel_core.proofs.awaitable_atomics.AwaitableAtomicCounterAndBit.incr.Goals as goal

pub returns-clause-handed : goal.returns-clause-handed
returns-clause-handed g c = search rules

pub returns-clause-word : goal.returns-clause-word
returns-clause-word g c = search rules
