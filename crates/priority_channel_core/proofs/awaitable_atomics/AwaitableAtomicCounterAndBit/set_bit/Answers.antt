use Rattle.std.proofs.Common.{refl}
use Rattle.priority_channel_core.proofs.Packed.{closed_bit-set, count_below-set}
use Rattle.priority_channel_core.proofs.awaitable_atomics.AwaitableAtomicCounterAndBit.set_bit.Goals as goal

pub returns-clause-word : goal.returns-clause-word
returns-clause-word g c =
    rw (closed_bit-set c.self.inside.packed, count_below-set c.self.inside.packed, c.take-room.ensures.empty, c.take-message.ensures.empty, ← c.self.view_is) refl
