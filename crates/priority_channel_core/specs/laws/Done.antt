-- What closes a channel, whether or not all is done.
use Rattle.std.specs.Prelude.{◌≡◌, ⊤}
use Rattle.priority_channel_core.specs.declared.calls.Call.TheVariants.{Close, DropSender, DropReceiver}
use Rattle.priority_channel_core.specs.Prelude.{State, Calls}

abbrev pub Closes : {T P W : Type 0} → State T P W → Calls T P W → Type 0
Closes old Close = ⊤
Closes old DropSender = old.sender_count ≡ 1
Closes old DropReceiver = old.receiver_count ≡ 1
Closes old _ = ⊥
