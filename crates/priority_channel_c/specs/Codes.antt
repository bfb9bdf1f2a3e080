-- What C is told of an answer: a code, and the pair and the ticket that came with it.
use Rattle.std.specs.Prelude.{ℕ, Bool, true, false, Option, Some, None, Result, Ok, Err}
use Rattle.priority_channel_core.specs.Prelude.{Answers}
use Rattle.priority_channel_core.specs.declared.errors.TrySendError.{TrySendError}
use Rattle.priority_channel_core.specs.declared.errors.TryRecvError.{TryRecvError}
use Rattle.priority_channel_core.specs.declared.errors.SendFault.{SendFault}
use Rattle.priority_channel_core.specs.declared.errors.RecvFault.{RecvFault}
use Rattle.priority_channel_core.specs.declared.calls.Answer.TheVariants.{TrySend, TrySendv, TrySendEvicting, TryRecv, TakeWhere, ChangePriority, Close, CloneSender, CloneReceiver, PollSend, PollRecv, TryReserve, TryLease, LeaseWhere, Put, Free}
use Rattle.priority_channel_core.specs.declared.calls.CorePoll.TheVariants as poll
use Rattle.priority_channel_core.specs.declared.errors.TryRecvManyError.{TryRecvManyError}
use Rattle.priority_channel_core.specs.declared.errors.TrySendError.TheVariants as send
use Rattle.priority_channel_core.specs.declared.errors.TryRecvError.TheVariants as recv
use Rattle.priority_channel_core.specs.declared.errors.TryRecvManyError.TheVariants as lease
use Rattle.priority_channel_core.specs.declared.errors.SendFault.TheVariants as send_fault
use Rattle.priority_channel_core.specs.declared.errors.RecvFault.TheVariants as recv_fault
use Rattle.priority_channel_c.specs.declared.codes.Code.{Code}
use Rattle.priority_channel_c.specs.declared.codes.Code.TheVariants.{Done, Full, Empty, Closed, Memory, Pending, Displaced, Nothing, Due, BadCapacity}
use Rattle.priority_channel_c.specs.declared.priority.Priority.{Priority}

-- the numbers of the header
abbrev pub number : Code → ℕ
number Done = 0
number Full = 1
number Empty = 2
number Closed = 3
number Memory = 4
number Pending = 5
number Displaced = 6
number Nothing = 7
number Due = 8
number BadCapacity = 9

abbrev pub refusal : {K : Type 0} → TrySendError K → Code
refusal (send.Full held) = Full
refusal (send.Closed held) = Closed
refusal (send.Memory held) = Memory

abbrev pub reply_code : {K : Type 0} → Result (Unit {0}) (TrySendError K) → Code
reply_code (Ok done) = Done
reply_code (Err error) = refusal error

abbrev pub absence : TryRecvError → Code
absence recv.Empty = Empty
absence recv.Closed = Closed

abbrev pub lease_absence : TryRecvManyError → Code
lease_absence lease.Empty = Empty
lease_absence lease.Closed = Closed
lease_absence lease.Memory = Memory

abbrev pub send_end : {K : Type 0} → SendFault K → Code
send_end (send_fault.Closed error) = Closed
send_end (send_fault.Memory held) = Memory

abbrev pub recv_end : RecvFault → Code
recv_end (recv_fault.Closed error) = Closed
recv_end recv_fault.Memory = Memory

-- whether there was what was asked for
abbrev pub found : Bool → Code
found true = Done
found false = Nothing

abbrev pub code_of : Answers ℕ Priority → Code
code_of (TrySend reply) = reply_code reply
code_of (TrySendv reply) = reply_code reply
code_of (TrySendEvicting (Ok None)) = Done
code_of (TrySendEvicting (Ok (Some out))) = Displaced
code_of (TrySendEvicting (Err error)) = refusal error
code_of (TryRecv (Ok pair)) = Done
code_of (TryRecv (Err error)) = absence error
code_of (TakeWhere (Some pair)) = Done
code_of (TakeWhere None) = Nothing
code_of (ChangePriority (Ok was)) = Done
code_of (ChangePriority (Err back)) = Nothing
code_of (Close was_open) = found was_open
code_of (CloneSender done) = found done
code_of (CloneReceiver done) = found done
code_of (PollSend (poll.Ready (Ok done))) = Done
code_of (PollSend (poll.Ready (Err fault))) = send_end fault
code_of (PollSend (poll.Pending held ticket)) = Pending
code_of (PollRecv (poll.Ready (Ok pair))) = Done
code_of (PollRecv (poll.Ready (Err fault))) = recv_end fault
code_of (PollRecv (poll.Pending none ticket)) = Pending
code_of (TryReserve reply) = reply_code reply
code_of (TryLease (Ok pair)) = Done
code_of (TryLease (Err error)) = lease_absence error
code_of (LeaseWhere (Ok (Some pair))) = Done
code_of (LeaseWhere (Ok None)) = Nothing
code_of (LeaseWhere (Err error)) = lease_absence error
code_of (Put (Ok done)) = Done
code_of (Put (Err back)) = Nothing
code_of (Free done) = found done
code_of answer = Done

-- the pair that goes to the caller; of a change of priority, what the priority was
abbrev pub pair_of : Answers ℕ Priority → Option (ℕ × Priority)
pair_of (TrySendEvicting (Ok (Some out))) = Some out
pair_of (TryRecv (Ok pair)) = Some pair
pair_of (TakeWhere (Some pair)) = Some pair
pair_of (PollRecv (poll.Ready (Ok pair))) = Some pair
pair_of (TryLease (Ok pair)) = Some pair
pair_of (LeaseWhere (Ok (Some pair))) = Some pair
pair_of answer = None

-- the ticket under which the caller waits
abbrev pub ticket_of : Answers ℕ Priority → Option ℕ
ticket_of (PollSend (poll.Pending held ticket)) = Some ticket
ticket_of (PollRecv (poll.Pending none ticket)) = Some ticket
ticket_of answer = None
