-- A counter may move to another thread.
use denote.Param.Send.{IsSend, owning_send, sendable}
use Rattle.priority_channel_core.specs.contracts.comparisons.Comparisons.{the_row, the_type}

pub send : IsSend the_row
send = owning_send the_type (search sendable, tt) (λ d. tt) (λ k x w. tt)
