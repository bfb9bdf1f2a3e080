use Rattle.priority_channel_core.proofs.Waiting.{rising-behind}
use Rattle.priority_channel_core.proofs.waiting_list.WaitingList.take_first.Goals as goal

pub invariant_of-self : goal.invariant_of-self
invariant_of-self g c =
    rising-behind c.take_first.result c.take_first.new.self (rw (← c.take_first.ensures.taken) c.self.invariant)
