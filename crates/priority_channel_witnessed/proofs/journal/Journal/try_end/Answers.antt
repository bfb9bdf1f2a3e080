use Rattle.std.proofs.Common.{rules}
use Rattle.priority_channel_witnessed.proofs.Leaving.{exact, out_apart, all_calls}
use Rattle.priority_channel_witnessed.proofs.journal.Journal.try_end.Goals as goal

pub end-requires : goal.end-requires
end-requires g c = search rules

pub returns-clause-apart : goal.returns-clause-apart
returns-clause-apart g c =
    out_apart c.args.passes.items c.self.inside.out.items c.strike_all.new.out.items c.self.inside.next c.strike_all.ensures.struck c.self.invariant.2

-- the shares of these passes and the rest are all parts, so their amounts are all calls
pub returns-clause-accounts : goal.returns-clause-accounts
returns-clause-accounts g c =
    exact c.args.passes.items c.self.inside.out.items c.strike_all.new.out.items c.self.inside.next c.self.inside.rest.amount c.end.result
    c.strike_all.ensures.struck (rw c.end.ensures.same c.self.invariant.3) c.end.ensures.counted c.end.ensures.length

pub returns-clause-length : goal.returns-clause-length
returns-clause-length g c =
    all_calls c.args.passes.items c.end.result (returns-clause-apart g c) (returns-clause-accounts g c)
