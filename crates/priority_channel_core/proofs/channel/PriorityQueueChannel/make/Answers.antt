use Rattle.std.proofs.Common.{refl, true, false}
use Rattle.priority_channel_core.specs.Types.{Call, Answer}
use Rattle.priority_channel_core.specs.bag.Prelude.{Tells}
use Rattle.priority_channel_core.proofs.Running.{makes_as, makes_performed, taking_meets, leasing_meets, change_meets}
use Rattle.priority_channel_core.proofs.channel.PriorityQueueChannel.make.Goals as goal

pub returns-in-TakeWhere-clause-step : goal.returns-in-TakeWhere-clause-step
returns-in-TakeWhere-clause-step g c =
    rw (c.in-TakeWhere.is, c.new-in-TakeWhere.ensures.answer, c.new-in-TakeWhere.ensures.handed)
    (record { at = λ meant same. (Answer.TakeWhere c.take_where-taken.result.0, refl, c.take_where-taken.ensures.step) })

pub returns-in-TakeWhere-clause-meets : goal.returns-in-TakeWhere-clause-meets
returns-in-TakeWhere-clause-meets g c =
    taking_meets (λ test pair. Tells g.F.Fn test pair true) (λ test pair. Tells g.F.Fn test pair false) _ _ _ _ c.in-TakeWhere.test c.take_where-taken.result.0
    c.in-TakeWhere.is c.new-in-TakeWhere.ensures.answer c.take_where-taken.ensures.meets c.take_where-taken.ensures.none

pub returns-in-ChangePriority-clause-step : goal.returns-in-ChangePriority-clause-step
returns-in-ChangePriority-clause-step g c =
    rw (c.in-ChangePriority.is, c.without_wakes.ensures.answer, c.without_wakes.ensures.handed)
    (record { at = λ meant same. (Answer.ChangePriority c.change_priority-changed.result, refl, c.change_priority-changed.ensures.step) })

pub returns-in-ChangePriority-clause-meets : goal.returns-in-ChangePriority-clause-meets
returns-in-ChangePriority-clause-meets g c =
    change_meets (λ test pair. Tells g.F.Fn test pair true) (λ test pair. Tells g.F.Fn test pair false) _ _ _ _ c.in-ChangePriority.test c.in-ChangePriority.priority
    c.change_priority-changed.result c.in-ChangePriority.is c.without_wakes.ensures.answer c.change_priority-changed.ensures.first c.change_priority-changed.ensures.none

pub returns-in-TrySendv-clause-step : goal.returns-in-TrySendv-clause-step
returns-in-TrySendv-clause-step g c =
    rw (c.in-TrySendv.is, c.new-in-TrySendv.ensures.answer, c.new-in-TrySendv.ensures.handed)
    (makes_performed _ _ _ _ _ _ _ _ (Call.TrySendv c.in-TrySendv.msgs) c.try_sendv-reply.ensures.step (λ other same. same))

pub returns-in-TrySendv-clause-adds : goal.returns-in-TrySendv-clause-adds
returns-in-TrySendv-clause-adds g c =
    let front = c.try_sendv-reply.ensures.front in rw (c.in-TrySendv.is, c.new-in-TrySendv.ensures.handed) (front.0, front.1)

pub returns-in-PollSendv-clause-adds : goal.returns-in-PollSendv-clause-adds
returns-in-PollSendv-clause-adds g c =
    let front = c.poll_sendv-poll.ensures.front in rw (c.in-PollSendv.is, c.new-in-PollSendv.ensures.handed) (front.0, front.1)

pub returns-in-PollSendv-clause-step : goal.returns-in-PollSendv-clause-step
returns-in-PollSendv-clause-step g c =
    rw (c.in-PollSendv.is, c.new-in-PollSendv.ensures.answer, c.new-in-PollSendv.ensures.handed)
    (makes_performed _ _ _ _ _ _ _ _ (Call.PollSendv c.in-PollSendv.msgs c.in-PollSendv.ticket c.in-PollSendv.waker) c.poll_sendv-poll.ensures.step (λ other same. same))

-- A search finds these too, but then the proof of this function takes nearly twice as long.
pub returns-in-TrySend-clause-step : goal.returns-in-TrySend-clause-step
returns-in-TrySend-clause-step g c = makes_as c.in-TrySend.is c.new.ensures.answer c.new.ensures.handed (λ other is. is) refl c.try_send-reply.ensures.step

pub returns-in-TrySendEvicting-clause-step : goal.returns-in-TrySendEvicting-clause-step
returns-in-TrySendEvicting-clause-step g c = makes_as c.in-TrySendEvicting.is c.new-in-TrySendEvicting.ensures.answer c.new-in-TrySendEvicting.ensures.handed (λ other is. is) refl c.try_send_evicting-reply.ensures.step

pub returns-in-TryRecv-clause-step : goal.returns-in-TryRecv-clause-step
returns-in-TryRecv-clause-step g c = makes_as c.in-TryRecv.is c.new-in-TryRecv.ensures.answer c.new-in-TryRecv.ensures.handed (λ other is. is) refl c.try_recv-reply.ensures.step

pub returns-in-Close-clause-step : goal.returns-in-Close-clause-step
returns-in-Close-clause-step g c = makes_as c.in-Close.is c.new-in-Close.ensures.answer c.new-in-Close.ensures.handed (λ other is. is) refl c.close-was_open.ensures.step

pub returns-in-IsClosed-clause-step : goal.returns-in-IsClosed-clause-step
returns-in-IsClosed-clause-step g c = makes_as c.in-IsClosed.is c.without_wakes-in-IsClosed.ensures.answer c.without_wakes-in-IsClosed.ensures.handed (λ other is. is) refl c.is_closed.ensures.step

pub returns-in-IsEmpty-clause-step : goal.returns-in-IsEmpty-clause-step
returns-in-IsEmpty-clause-step g c = makes_as c.in-IsEmpty.is c.without_wakes-in-IsEmpty.ensures.answer c.without_wakes-in-IsEmpty.ensures.handed (λ other is. is) refl c.is_empty.ensures.step

pub returns-in-IsFull-clause-step : goal.returns-in-IsFull-clause-step
returns-in-IsFull-clause-step g c = makes_as c.in-IsFull.is c.without_wakes-in-IsFull.ensures.answer c.without_wakes-in-IsFull.ensures.handed (λ other is. is) refl c.is_full.ensures.step

pub returns-in-Len-clause-step : goal.returns-in-Len-clause-step
returns-in-Len-clause-step g c = makes_as c.in-Len.is c.without_wakes-in-Len.ensures.answer c.without_wakes-in-Len.ensures.handed (λ other is. is) refl c.len.ensures.step

pub returns-in-Capacity-clause-step : goal.returns-in-Capacity-clause-step
returns-in-Capacity-clause-step g c = makes_as c.in-Capacity.is c.without_wakes-in-Capacity.ensures.answer c.without_wakes-in-Capacity.ensures.handed (λ other is. is) refl c.capacity.ensures.step

pub returns-in-SenderCount-clause-step : goal.returns-in-SenderCount-clause-step
returns-in-SenderCount-clause-step g c = makes_as c.in-SenderCount.is c.without_wakes-in-SenderCount.ensures.answer c.without_wakes-in-SenderCount.ensures.handed (λ other is. is) refl c.sender_count.ensures.step

pub returns-in-ReceiverCount-clause-step : goal.returns-in-ReceiverCount-clause-step
returns-in-ReceiverCount-clause-step g c = makes_as c.in-ReceiverCount.is c.without_wakes-in-ReceiverCount.ensures.answer c.without_wakes-in-ReceiverCount.ensures.handed (λ other is. is) refl c.receiver_count.ensures.step

pub returns-in-CloneSender-clause-step : goal.returns-in-CloneSender-clause-step
returns-in-CloneSender-clause-step g c = makes_as c.in-CloneSender.is c.without_wakes-in-CloneSender.ensures.answer c.without_wakes-in-CloneSender.ensures.handed (λ other is. is) refl c.clone_sender-is_cloned.ensures.step

pub returns-in-CloneReceiver-clause-step : goal.returns-in-CloneReceiver-clause-step
returns-in-CloneReceiver-clause-step g c = makes_as c.in-CloneReceiver.is c.without_wakes-in-CloneReceiver.ensures.answer c.without_wakes-in-CloneReceiver.ensures.handed (λ other is. is) refl c.clone_receiver-is_cloned.ensures.step

pub returns-in-DropSender-clause-step : goal.returns-in-DropSender-clause-step
returns-in-DropSender-clause-step g c = makes_as c.in-DropSender.is c.new-in-DropSender.ensures.answer c.new-in-DropSender.ensures.handed (λ other is. is) refl c.drop_sender.ensures.step

pub returns-in-DropReceiver-clause-step : goal.returns-in-DropReceiver-clause-step
returns-in-DropReceiver-clause-step g c = makes_as c.in-DropReceiver.is c.new-in-DropReceiver.ensures.answer c.new-in-DropReceiver.ensures.handed (λ other is. is) refl c.drop_receiver.ensures.step

pub returns-in-PollSend-clause-step : goal.returns-in-PollSend-clause-step
returns-in-PollSend-clause-step g c = makes_as c.in-PollSend.is c.new-in-PollSend.ensures.answer c.new-in-PollSend.ensures.handed (λ other is. is) refl c.poll_send-poll.ensures.step

pub returns-in-PollRecv-clause-step : goal.returns-in-PollRecv-clause-step
returns-in-PollRecv-clause-step g c = makes_as c.in-PollRecv.is c.new-in-PollRecv.ensures.answer c.new-in-PollRecv.ensures.handed (λ other is. is) refl c.poll_recv-poll.ensures.step

pub returns-in-GiveUp-clause-step : goal.returns-in-GiveUp-clause-step
returns-in-GiveUp-clause-step g c = makes_as c.in-GiveUp.is c.without_wakes-in-GiveUp.ensures.answer c.without_wakes-in-GiveUp.ensures.handed (λ other is. is) refl c.give_up.ensures.step

pub returns-in-CloseWhenDone-clause-step : goal.returns-in-CloseWhenDone-clause-step
returns-in-CloseWhenDone-clause-step g c = makes_as c.in-CloseWhenDone.is c.new-in-CloseWhenDone.ensures.answer c.new-in-CloseWhenDone.ensures.handed (λ other is. is) refl c.close_when_done.ensures.step

pub returns-in-TryReserve-clause-step : goal.returns-in-TryReserve-clause-step
returns-in-TryReserve-clause-step g c = makes_as c.in-TryReserve.is c.without_wakes-in-TryReserve.ensures.answer c.without_wakes-in-TryReserve.ensures.handed (λ other is. is) refl c.try_reserve-reply.ensures.step

pub returns-in-TryLease-clause-step : goal.returns-in-TryLease-clause-step
returns-in-TryLease-clause-step g c = makes_as c.in-TryLease.is c.without_wakes-in-TryLease.ensures.answer c.without_wakes-in-TryLease.ensures.handed (λ other is. is) refl c.try_lease-reply.ensures.step

pub returns-in-LeaseWhere-clause-step : goal.returns-in-LeaseWhere-clause-step
returns-in-LeaseWhere-clause-step g c =
    rw (c.in-LeaseWhere.is, c.without_wakes-in-LeaseWhere.ensures.answer, c.without_wakes-in-LeaseWhere.ensures.handed)
    (record { at = λ meant same. (Answer.LeaseWhere c.try_lease_where-reply.result, refl, c.try_lease_where-reply.ensures.step) })

pub returns-in-LeaseWhere-clause-meets : goal.returns-in-LeaseWhere-clause-meets
returns-in-LeaseWhere-clause-meets g c =
    leasing_meets (λ test pair. Tells g.F.Fn test pair true) (λ test pair. Tells g.F.Fn test pair false) _ _ _ _ c.in-LeaseWhere.test c.try_lease_where-reply.result
    c.in-LeaseWhere.is c.without_wakes-in-LeaseWhere.ensures.answer c.try_lease_where-reply.ensures.meets c.try_lease_where-reply.ensures.none

pub returns-in-Put-clause-step : goal.returns-in-Put-clause-step
returns-in-Put-clause-step g c = makes_as c.in-Put.is c.new-in-Put.ensures.answer c.new-in-Put.ensures.handed (λ other is. is) refl c.put-reply.ensures.step

pub returns-in-Free-clause-step : goal.returns-in-Free-clause-step
returns-in-Free-clause-step g c = makes_as c.in-Free.is c.new-in-Free.ensures.answer c.new-in-Free.ensures.handed (λ other is. is) refl c.free-is_freed.ensures.step

pub returns-in-Held-clause-step : goal.returns-in-Held-clause-step
returns-in-Held-clause-step g c = makes_as c.in-Held.is c.without_wakes-in-Held.ensures.answer c.without_wakes-in-Held.ensures.handed (λ other is. is) refl c.held.ensures.step
