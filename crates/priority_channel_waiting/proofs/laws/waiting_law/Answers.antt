use Rattle.priority_channel_waiting.proofs.worlds.Events.{nobody_is_forgotten, given_once, numbers_rise, called_by}
use Rattle.priority_channel_waiting.proofs.laws.waiting_law.Goals as goal

pub returns-clause-forgotten : goal.returns-clause-forgotten
returns-clause-forgotten g c = nobody_is_forgotten g.W.Clone.is_clone g.P.Ord.cmp

pub returns-clause-once : goal.returns-clause-once
returns-clause-once g c = given_once g.W.Clone.is_clone g.P.Ord.cmp

pub returns-clause-called : goal.returns-clause-called
returns-clause-called g c = called_by g.W.Clone.is_clone g.P.Ord.cmp

pub returns-clause-rising : goal.returns-clause-rising
returns-clause-rising g c = numbers_rise g.W.Clone.is_clone g.P.Ord.cmp
