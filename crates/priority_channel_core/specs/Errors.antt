-- What the errors of sends and receives hold and print.
use Rattle.std.specs.Prelude.{ℕ, List, codes}
use Rattle.priority_channel_core.specs.Types.{TrySendError, Full, Closed, Memory, TryRecvError, TryRecvManyError, SendFault, RecvFault}

module _ {A : Type 0} where
  abbrev pub rest_of : TrySendError A → A
  rest_of (Closed held) = held
  rest_of (Full held) = held
  rest_of (Memory held) = held

  abbrev pub unsent : SendFault A → A
  unsent (SendFault.Closed error) = error.0
  unsent (SendFault.Memory held) = held

  -- the error of a send that does not wait, for the same reason
  abbrev pub refusal_for : SendFault A → TrySendError A
  refusal_for (SendFault.Closed error) = Closed error.0
  refusal_for (SendFault.Memory held) = Memory held

  -- `{}` output, and `{:?}` output: the variant, and nothing of what it gives back
  abbrev pub try_send_error_text : TrySendError A → List ℕ
  try_send_error_text (Full held) = codes "sending into a full channel"
  try_send_error_text (Closed held) = codes "sending into a closed channel"
  try_send_error_text (Memory held) = codes "no memory for sending"

  abbrev pub try_send_error_debug : TrySendError A → List ℕ
  try_send_error_debug (Full held) = codes "Full(..)"
  try_send_error_debug (Closed held) = codes "Closed(..)"
  try_send_error_debug (Memory held) = codes "Memory(..)"

  abbrev pub send_fault_text : SendFault A → List ℕ
  send_fault_text fault = try_send_error_text (refusal_for fault)

  abbrev pub send_fault_debug : SendFault A → List ℕ
  send_fault_debug fault = try_send_error_debug (refusal_for fault)

abbrev pub batch_error_for : TryRecvError → TryRecvManyError
batch_error_for TryRecvError.Empty = TryRecvManyError.Empty
batch_error_for TryRecvError.Closed = TryRecvManyError.Closed

abbrev pub try_recv_many_error_text : TryRecvManyError → List ℕ
try_recv_many_error_text TryRecvManyError.Empty = codes "receiving from an empty channel"
try_recv_many_error_text TryRecvManyError.Closed = codes "receiving from an empty and closed channel"
try_recv_many_error_text TryRecvManyError.Memory = codes "no memory for receiving"

abbrev pub try_recv_error_text : TryRecvError → List ℕ
try_recv_error_text error = try_recv_many_error_text (batch_error_for error)

abbrev pub recv_fault_text : RecvFault → List ℕ
recv_fault_text (RecvFault.Closed error) = codes "receiving from an empty and closed channel"
recv_fault_text RecvFault.Memory = codes "no memory for waiting"
