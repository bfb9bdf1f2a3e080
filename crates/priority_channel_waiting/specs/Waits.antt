-- What a call that waits on its thread does, and what it returns without success.
use Rattle.std.specs.Prelude.{◌≡◌, ℕ, List, Option, Some, None, Result, Ok, Err, codes}
use Rattle.priority_channel_core.specs.declared.errors.SendFault.{SendFault}
use Rattle.priority_channel_core.specs.declared.errors.RecvError.{RecvError}
use Rattle.priority_channel_core.specs.declared.errors.RecvFault.{RecvFault}
use Rattle.priority_channel_core.specs.declared.errors.TrySendError.TheVariants as try_send
use Rattle.priority_channel_core.specs.declared.errors.TryRecvError.TheVariants as try_recv
use Rattle.priority_channel_core.specs.declared.errors.SendFault.TheVariants as send_fault
use Rattle.priority_channel_core.specs.declared.errors.RecvFault.TheVariants as recv_fault
use Rattle.priority_channel_waiting.specs.declared.retry.Outcome.{Outcome}
use Rattle.priority_channel_waiting.specs.declared.retry.Outcome.TheVariants.{Done, Blocked, Closed, Memory}
use Rattle.priority_channel_core.specs.declared.errors.TryRecvManyError.TheVariants as try_lease
use Rattle.priority_channel_waiting.specs.declared.timeouts.Ended.{Ended}
use Rattle.priority_channel_waiting.specs.declared.timeouts.Ended.TheVariants as ended
use Rattle.priority_channel_waiting.specs.declared.timeouts.SendTimeoutError.{SendTimeoutError}
use Rattle.priority_channel_waiting.specs.declared.timeouts.SendTimeoutError.TheVariants as send_timeout
use Rattle.priority_channel_waiting.specs.declared.timeouts.RecvTimeoutError.{RecvTimeoutError}
use Rattle.priority_channel_waiting.specs.declared.timeouts.RecvTimeoutError.TheVariants as recv_timeout
use Rattle.priority_channel_core.specs.declared.errors.TrySendError.{TrySendError}
use Rattle.priority_channel_core.specs.declared.errors.TryRecvManyError.{TryRecvManyError}
use Rattle.priority_channel_core.specs.Prelude.{RecvReply}

module _ {D C : Type 0} where
  abbrev pub left_over : Outcome D C → Option C
  left_over (Done done) = None
  left_over (Blocked rest) = Some rest
  left_over (Closed rest) = Some rest
  left_over (Memory rest) = Some rest

  -- what the last call of a wait told that ended so, and what is left of it
  abbrev pub outcome_of_end : {O : Type 0} → Result D (Ended C O) → Outcome D C
  outcome_of_end (Ok done) = Done done
  outcome_of_end (Err (ended.Over rest over)) = Blocked rest
  outcome_of_end (Err (ended.Closed rest)) = Closed rest
  outcome_of_end (Err (ended.Memory rest)) = Memory rest

  abbrev pub left_at_end : {O : Type 0} → Result D (Ended C O) → Option C
  left_at_end result = left_over (outcome_of_end result)

-- what the answers of a send, of a receive and of a lease tell
abbrev pub outcome_of_send : {D C : Type 0} → Result D (TrySendError C) → Outcome D C
outcome_of_send (Ok done) = Done done
outcome_of_send (Err (try_send.Full rest)) = Blocked rest
outcome_of_send (Err (try_send.Closed rest)) = Closed rest
outcome_of_send (Err (try_send.Memory rest)) = Memory rest

abbrev pub outcome_of_recv : {X : Type 0} → RecvReply X → Outcome X (Unit {0})
outcome_of_recv (Ok pair) = Done pair
outcome_of_recv (Err try_recv.Empty) = Blocked tt
outcome_of_recv (Err try_recv.Closed) = Closed tt

abbrev pub outcome_of_lease : {X : Type 0} → Result X TryRecvManyError → Outcome X (Unit {0})
outcome_of_lease (Ok leased) = Done leased
outcome_of_lease (Err try_lease.Empty) = Blocked tt
outcome_of_lease (Err try_lease.Closed) = Closed tt
outcome_of_lease (Err try_lease.Memory) = Memory tt

module _ {C O : Type 0} where
  abbrev pub given_back : Ended C O → C
  given_back (ended.Over call over) = call
  given_back (ended.Closed call) = call
  given_back (ended.Memory call) = call

  -- the error is the reason why a wait ended without success
  abbrev pub TellsSendFault : Ended C O → SendFault C → Type 0
  TellsSendFault (ended.Over call over) fault = ⊥
  TellsSendFault (ended.Closed call) fault = fault ≡ send_fault.Closed (record { 0 = call })
  TellsSendFault (ended.Memory call) fault = fault ≡ send_fault.Memory call

  abbrev pub TellsSendTimeout : Ended C O → SendTimeoutError C → Type 0
  TellsSendTimeout (ended.Over call over) error = error ≡ send_timeout.Timeout call
  TellsSendTimeout (ended.Closed call) error = error ≡ send_timeout.Closed call
  TellsSendTimeout (ended.Memory call) error = error ≡ send_timeout.Memory call

  abbrev pub TellsRecvFault : Ended C O → RecvFault → Type 0
  TellsRecvFault (ended.Over call over) fault = ⊥
  TellsRecvFault (ended.Closed call) fault = (e : RecvError) × (fault ≡ recv_fault.Closed e)
  TellsRecvFault (ended.Memory call) fault = fault ≡ recv_fault.Memory

  abbrev pub TellsRecvTimeout : Ended C O → RecvTimeoutError → Type 0
  TellsRecvTimeout (ended.Over call over) error = error ≡ recv_timeout.Timeout
  TellsRecvTimeout (ended.Closed call) error = error ≡ recv_timeout.Closed
  TellsRecvTimeout (ended.Memory call) error = error ≡ recv_timeout.Memory

module _ {A : Type 0} where
  abbrev pub unsent_in_time : SendTimeoutError A → A
  unsent_in_time (send_timeout.Timeout held) = held
  unsent_in_time (send_timeout.Closed held) = held
  unsent_in_time (send_timeout.Memory held) = held

  -- the same error, of a call with a time limit
  abbrev pub send_fault_in_time : SendFault A → SendTimeoutError A
  send_fault_in_time (send_fault.Closed error) = send_timeout.Closed error.0
  send_fault_in_time (send_fault.Memory held) = send_timeout.Memory held

  -- `{}` output, and `{:?}` output: the variant, and nothing of what it has not sent
  abbrev pub send_timeout_text : SendTimeoutError A → List ℕ
  send_timeout_text (send_timeout.Timeout held) = codes "sending into a full channel timed out"
  send_timeout_text (send_timeout.Closed held) = codes "sending into a closed channel"
  send_timeout_text (send_timeout.Memory held) = codes "no memory for sending"

  abbrev pub send_timeout_debug : SendTimeoutError A → List ℕ
  send_timeout_debug (send_timeout.Timeout held) = codes "Timeout(..)"
  send_timeout_debug (send_timeout.Closed held) = codes "Closed(..)"
  send_timeout_debug (send_timeout.Memory held) = codes "Memory(..)"

abbrev pub recv_fault_in_time : RecvFault → RecvTimeoutError
recv_fault_in_time (recv_fault.Closed error) = recv_timeout.Closed
recv_fault_in_time recv_fault.Memory = recv_timeout.Memory

abbrev pub recv_timeout_text : RecvTimeoutError → List ℕ
recv_timeout_text recv_timeout.Timeout = codes "receiving from an empty channel timed out"
recv_timeout_text recv_timeout.Closed = codes "receiving from an empty and closed channel"
recv_timeout_text recv_timeout.Memory = codes "no memory for waiting"
