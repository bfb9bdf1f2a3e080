use Rattle.priority_channel_waiting.proofs.states.State.poll_on.Goals as goal

pub returns-clause-step : goal.returns-clause-step
returns-clause-step g c =
    rw c.in-Some.ensures.taken (c.poll_on-answer.result.0, c.poll_on-answer.ensures.step, c.keep.ensures.told, c.keep.ensures.left)
