-- A handle may go to another thread: what lies behind it may, and any thread may free its memory.
use mir.Raw.{raw}
use base.Shift.{Keyless}
use denote.Memory.{lone}
use denote.RawPtr.{Ptr}
use denote.Struct.Struct.{exits_of}
use denote.Struct.Owning.{shape, fields, to}
use denote.Param.Send.{IsSend, AllSend, owning_send, struct_send, sendable}
use Rattle.std.specs.Prelude.{Option, None, Some}
use Rattle.std.specs.Global.{Global}
use Rattle.std.proofs.Crossing as heap
use Rattle.std_alloc.proofs.SendSync.{quiet, lies}
use Rattle.std_heap.proofs.Global.TheSendSync as handle
use Rattle.priority_channel_c.specs.Held.{held}
use Rattle.priority_channel_c.specs.contracts.state.Core as Core
use Rattle.priority_channel_c.proofs.state.Core.TheSendSync.{the_send as core}
use Rattle.priority_channel_c.specs.contracts.handle.Handle.{the_row, the_type}

crosses : (alloc : Global) (at : Ptr) (value : Option Core.the_row.Denot) → Keyless (held alloc at value)
crosses alloc at None = tt
crosses alloc at (Some x) = (lies Core.the_row core at x, heap.frees.frees alloc (raw (lone Core.the_row.mir)) at)

pub send : IsSend the_row
send =
    let all : AllSend (fields the_type) = (search sendable, (handle.the_field_send, tt)) in
    owning_send the_type all (λ d. crosses d.alloc d.at d.value)
    (λ k. quiet (to the_type) (exits_of k (fields the_type)) ((struct_send (shape the_type) all).leaving k))
