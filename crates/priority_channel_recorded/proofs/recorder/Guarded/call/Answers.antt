use Rattle.std.proofs.Common.{rules}
use Rattle.priority_channel_recorded.proofs.recorder.Guarded.call.Goals as goal

pub enter-requires-clause-who : goal.enter-requires-clause-who
enter-requires-clause-who g c = search rules

pub returns-clause-told : goal.returns-clause-told
returns-clause-told g c = search rules

pub returns-clause-entered : goal.returns-clause-entered
returns-clause-entered g c = search rules

pub returns-in_err-reply-clause-refused : goal.returns-in_err-reply-clause-refused
returns-in_err-reply-clause-refused g c = search rules

pub returns-in_err-reply-clause-full : goal.returns-in_err-reply-clause-full
returns-in_err-reply-clause-full g c = search rules

pub enter-requires-clause-legal : goal.enter-requires-clause-legal
enter-requires-clause-legal g c = search rules

pub invariant_of-self-2 : goal.invariant_of-self-2
invariant_of-self-2 g c = search rules

pub returns-clause-step : goal.returns-clause-step
returns-clause-step g c = search rules
