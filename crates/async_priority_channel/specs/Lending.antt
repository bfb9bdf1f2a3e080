-- What a lease ends as, once a reference to its message has ended.
use Rattle.std.specs.Prelude.{[]}
use Rattle.std.specs.Borrow.{Fml, RattleType, MutBor, Lends}
use Rattle.std.specs.BTreeMap.Lent.{OrdMembers}
use Rattle.std.specs.declared.alloc.Allocator as alloc
use Rattle.std.specs.declared.clone.Clone as clone
use mir.Syntax.{named}
use Rattle.async_priority_channel.specs.Handles.{Leased, with_message}
use Rattle.async_priority_channel.specs.contracts.lease.Lease.{the_row}

-- the lease has the last message written through `msg`, and is otherwise as it was
abbrev pub LendsMessage : (T P R A : RattleType) → OrdMembers P.Denot → clone.Ghosts R.Denot
    → alloc.Ghosts A.Denot → MutBor (Leased T.Denot P.Denot) → MutBor T.Denot → Fml
LendsMessage T P R A order copies heap lease msg =
    Lends
    (the_row (record { mir = named 1; lft = [] }) T P R A (record { cmp = order.cmp })
    (record { eq = order.eq }) (record { partial_cmp = order.partial_cmp }) copies heap)
    T lease msg (with_message lease.now)
