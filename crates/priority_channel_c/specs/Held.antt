-- What a handle owns: nothing, or what a `Box` of the core owns.
use base.Fml.{Fml, ftrue}
use base.Stored.{Coded}
use denote.RawPtr.{Ptr}
use Rattle.std.specs.Prelude.{Option, None, Some}
use Rattle.std.specs.Coded.{coded_option}
use Rattle.std.specs.Box.Ownership.{box_owns}
use Rattle.std.specs.Global.{Global}
use Rattle.std_heap.specs.contracts.GlobalAllocator.TheImpl.{ghosts}
use Rattle.priority_channel_c.specs.contracts.state.Core.{the_row}

abbrev pub held : Global → Ptr → Option the_row.Denot → Fml
held alloc at None = ftrue
held alloc at (Some x) = box_owns (ghosts.dealloc_token alloc) the_row at x

abbrev pub held_coded : Coded (Option the_row.Denot)
held_coded = coded_option the_row.coded
