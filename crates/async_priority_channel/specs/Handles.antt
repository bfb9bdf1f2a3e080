-- What handles and futures show of their channel. No value shows what is behind its lock.
use Rattle.std.specs.Prelude.{◌≡◌, ℕ, Bool, true, List, [], Option, None}
use Rattle.priority_channel_core.specs.declared.side.Side.{Side}
use Rattle.priority_channel_core.specs.declared.side.Side.TheVariants.{Room, Message}
use Rattle.priority_channel_waiting.specs.declared.selecting.Sight.{Sight}
use Rattle.priority_channel_waiting.specs.declared.selecting.Sight.TheVariants.{First, All, Close}
use Rattle.priority_channel_waiting.specs.Holding.{Holding}

-- the parts of a channel that never change: its capacity, and the sources at which tasks wait on
-- the send side (`room`), on the receive side (`message`), and for the close (`closing`)
pub record Channel : Type 0 where
  pub capacity : ℕ
  pub room : ℕ
  pub message : ℕ
  pub closing : ℕ

-- the source at which tasks wait on this side
abbrev pub source_of : Side → Channel → ℕ
source_of Room channel = channel.room
source_of Message channel = channel.message

-- the source at which tasks wait that look at this beside the core
abbrev pub source_beside : Sight → Channel → ℕ
source_beside First channel = channel.message
source_beside All channel = channel.message
source_beside Close channel = channel.closing

-- handles of the same channel
abbrev pub SameChannel : Channel → Channel → Type 0
SameChannel one other = other ≡ one

-- a future over a channel, and its state between polls
pub record Underway (K : Type 0) : Type 0 where
  pub channel : Channel
  pub state : Holding K

-- a message that keeps its place, with its priority
pub record Leased (T P : Type 0) : Type 0 where
  pub channel : Channel
  pub pair : T × P

-- the same lease with this message
abbrev pub with_message : {T P : Type 0} → Leased T P → T → Leased T P
with_message lease msg = record lease { pair = (msg, lease.pair.1) }

-- a stream of a channel's messages, and whether it has ended
pub record Streaming : Type 0 where
  pub channel : Channel
  pub has_ended : Bool

-- what a stream may yield: nothing more once it has ended
abbrev pub MayYield : {X : Type 0} → Streaming → List X → Option X → Type 0
MayYield stream pairs next = stream.has_ended ≡ true → (pairs ≡ []) × (next ≡ None)

-- a future that receives up to `limit` messages into a batch, and whether it has answered
pub record Batching (X : Type 0) : Type 0 where
  pub channel : Channel
  pub limit : ℕ
  pub batch : List X
  pub is_done : Bool

-- a future that waits for a place or for a message that keeps its place, the ticket under which it
-- is listed, and whether it has answered
pub record Watching : Type 0 where
  pub channel : Channel
  pub ticket : Option ℕ
  pub is_done : Bool

-- a future that waits with a condition, or for the close
pub record Sought (C : Type 0) : Type 0 where
  pub channel : Channel
  pub seek : C
  pub ticket : Option ℕ
  pub is_done : Bool
