use Rattle.std.proofs.Common.{[], ◌∷◌, rules, Err}
use Rattle.priority_channel_core.specs.Prelude.{Full}
use Rattle.priority_channel_core.proofs.Sends.{refuses_full}
use Rattle.priority_channel_core.proofs.channel.PriorityQueueChannel.list.Goals as goal

pub returns-clause-sends : goal.returns-clause-sends
returns-clause-sends g c = λ room pair answer is.
    let old = c.args.self.now.state in
    let blocked = rw room at c.requires in
    record {
      moves = record {
        reply = Err (Full pair);
        ticket = c.listen.result;
        mid = old;
        tried = refuses_full old (pair ∷ []) blocked.1 blocked.0;
        answered = is;
        ends = rw (← room) (search rules);
      };
      good = search rules;
    }
