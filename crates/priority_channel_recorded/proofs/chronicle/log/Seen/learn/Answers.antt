use Rattle.priority_channel_recorded.proofs.Lines.{seen_front}
use Rattle.priority_channel_recorded.proofs.chronicle.log.Seen.learn.Goals as goal

pub returns-clause-this : goal.returns-clause-this
returns-clause-this g c = seen_front c.self.inside.token.log c.learn.new.self.log c.args.self.now c.self.view_is c.learn.ensures.2

pub returns-clause-that : goal.returns-clause-that
returns-clause-that g c = seen_front c.other.inside.token.log c.learn.new.self.log c.args.other.now c.other.view_is c.learn.ensures.3
