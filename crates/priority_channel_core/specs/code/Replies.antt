-- Facts for one kind of reply.
use Rattle.std.specs.Prelude.{ℕ, ⊤, Option, Some, None, Ok, Err}
use Rattle.priority_channel_core.specs.Types.{CorePoll, Ready, Pending, Full, Memory, SendReply, SendPoll, SendFault}
use Rattle.priority_channel_core.specs.Errors.{unsent}

module _ {A : Type 0} where
  abbrev pub OnFull : SendReply A → Type 0 → Type 0
  OnFull (Err (Full held)) fact = fact
  OnFull reply fact = ⊤

  abbrev pub OnMemory : SendReply A → Type 0 → Type 0
  OnMemory (Err (Memory held)) fact = fact
  OnMemory reply fact = ⊤

  abbrev pub OnMemoryFault : SendPoll A → Type 0 → Type 0
  OnMemoryFault (Ready (Err (SendFault.Memory held))) fact = fact
  OnMemoryFault answer fact = ⊤

  abbrev pub kept_by : SendPoll A → Option A
  kept_by (Ready (Ok done)) = None
  kept_by (Ready (Err fault)) = Some (unsent fault)
  kept_by (Pending held ticket) = Some held

abbrev pub waits_under : {A K : Type 0} → CorePoll A K → Option ℕ
waits_under (Ready answer) = None
waits_under (Pending kept ticket) = Some ticket
