use Rattle.std.proofs.Common.{refl}
use Rattle.priority_channel_core.specs.declared.calls.Answer.TheVariants as answer
use Rattle.priority_channel_core.specs.Prelude.{nobody}
use Rattle.priority_channel_recorded.proofs.Histories.{is_step}
use Rattle.priority_channel_recorded.proofs.book.make.Goals as goal

pub returns-in-TrySend : goal.returns-in-TrySend
returns-in-TrySend g c =
    rw (c.in-TrySend.is, c.unwoken.ensures) (is_step g.P.Ord.cmp _ _ _ _ (answer.TrySend c.try_send.result.0) c.try_send.result.1 refl c.try_send.ensures.step)

pub returns-in-TrySendEvicting : goal.returns-in-TrySendEvicting
returns-in-TrySendEvicting g c =
    rw (c.in-TrySendEvicting.is, c.unwoken-in-TrySendEvicting.ensures) (is_step g.P.Ord.cmp _ _ _ _ (answer.TrySendEvicting c.try_send_evicting.result.0) c.try_send_evicting.result.1 refl c.try_send_evicting.ensures.step)

pub returns-in-TryRecv : goal.returns-in-TryRecv
returns-in-TryRecv g c =
    rw (c.in-TryRecv.is, c.unwoken-in-TryRecv.ensures) (is_step g.P.Ord.cmp _ _ _ _ (answer.TryRecv c.try_recv.result.0) c.try_recv.result.1 refl c.try_recv.ensures.step)

pub returns-in-Close : goal.returns-in-Close
returns-in-Close g c =
    rw (c.in-Close.is, c.unwoken-in-Close.ensures) (is_step g.P.Ord.cmp _ _ _ _ (answer.Close c.close.result.0) c.close.result.1 refl c.close.ensures.step)

pub returns-in-IsClosed : goal.returns-in-IsClosed
returns-in-IsClosed g c =
    rw (c.in-IsClosed.is) (is_step g.P.Ord.cmp _ _ _ _ (answer.IsClosed c.is_closed.result) nobody refl c.is_closed.ensures.step)

pub returns-in-IsEmpty : goal.returns-in-IsEmpty
returns-in-IsEmpty g c =
    rw (c.in-IsEmpty.is) (is_step g.P.Ord.cmp _ _ _ _ (answer.IsEmpty c.is_empty.result) nobody refl c.is_empty.ensures.step)

pub returns-in-IsFull : goal.returns-in-IsFull
returns-in-IsFull g c =
    rw (c.in-IsFull.is) (is_step g.P.Ord.cmp _ _ _ _ (answer.IsFull c.is_full.result) nobody refl c.is_full.ensures.step)

pub returns-in-Len : goal.returns-in-Len
returns-in-Len g c =
    rw (c.in-Len.is) (is_step g.P.Ord.cmp _ _ _ _ (answer.Len c.len.result) nobody refl c.len.ensures.step)
