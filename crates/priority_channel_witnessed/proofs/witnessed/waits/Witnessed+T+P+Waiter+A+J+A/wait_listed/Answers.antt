use Rattle.std.proofs.Common.{refl, inl}
use Rattle.priority_channel_core.specs.declared.calls.CorePoll.TheVariants.{Ready}
use Rattle.priority_channel_witnessed.specs.Waits.{at_last, before, polls}
use Rattle.priority_channel_witnessed.proofs.Waits.{left_at_last, may_poll}
use Rattle.priority_channel_witnessed.proofs.witnessed.waits.Witnessed+T+P+Waiter+A+J+A.wait_listed.Goals as goal

pub returns-in-Ready-clause-told : goal.returns-in-Ready-clause-told
returns-in-Ready-clause-told g c = rw c.in_time.ensures.same (c.loop.invariant.goes_on _ _ (at_last c.in-Ready.ensures.told.1 (polls _ refl (may_poll (Ready c.in-Ready.answer)))))

pub loop-preserved : goal.loop-preserved
loop-preserved g c = record {
  can_make = rw c.again-rest.ensures c.in-Pending.ensures.gives.0;
  leaves = rw c.again-rest.ensures (λ last more. g.met.C.Retry.still _ c.in-Pending.left last (c.loop.invariant.leaves _ c.in-Pending.ensures.gives.1) more);
  goes_on = rw c.again-rest.ensures (λ ending later more. c.loop.invariant.goes_on ending later (before c.in-Pending.ensures.told.1 (polls _ refl tt) more));
}

pub returns-in-Err-clause-told : goal.returns-in-Err-clause-told
returns-in-Err-clause-told g c =
    let last = rw c.again.ensures at c.try_last-last.ensures.told _ (inl c.end_late.ensures.told) in
    c.loop.invariant.goes_on _ _ (before c.in-Pending.ensures.told.1 (polls _ refl tt) last)

pub returns-in-Err-clause-left : goal.returns-in-Err-clause-left
returns-in-Err-clause-left g c =
    left_at_last (λ rest. g.C.CoreCall.can_make (g.C.Retry.call_of rest)) (g.C.Retry.leaves c.again.result) (g.C.Retry.leaves c.args.call) (g.U.Until.has_come c.args.until.now) _ c.in-Err.over _
    c.end_late.ensures.told c.try_last-last.ensures.left (rw c.again.ensures (λ last more. g.met.C.Retry.still _ c.in-Pending.left last (c.loop.invariant.leaves _ c.in-Pending.ensures.gives.1) more)) c.end_late.ensures.over c.in-Err.ensures
