use Rattle.std.proofs.Common.{refl}
use Rattle.priority_channel_core.specs.bag.Prelude.{digits}
use Rattle.priority_channel_core.proofs.items.Digits.{lt-digits, digits-least}
use Rattle.priority_channel_core.proofs.laws.digits_law.Goals as goal

pub returns-clause-above : goal.returns-clause-above
returns-clause-above c = lt-digits

pub returns-clause-least : goal.returns-clause-least
returns-clause-least c = digits-least

pub returns-clause-samples : goal.returns-clause-samples
unfolding digits
returns-clause-samples c = (refl, refl, refl, refl, refl, refl, refl)
