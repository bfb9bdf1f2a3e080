use Rattle.std.proofs.Common.{◌-◌, ◌*◌, ◌<◌, [], ◌∷◌, length, refl, sym, ap, rules, arith, append-nil}
use Rattle.priority_channel_core.specs.bag.Prelude.{digits}
use Rattle.priority_channel_core.proofs.Many.{received_first, first_length, refusal_costs, receives_cost, min_next}
use Rattle.priority_channel_core.proofs.channel.PriorityQueueChannel.try_recv_many.Goals as goal
use Rattle.priority_channel_core.proofs.channel.PriorityQueueChannel.try_recv_many.Goals.{else-limit-eq0-via-then-limit-eq0+else-not-is_empty, else-limit-eq0-via-else-limit-eq0}

pub returns-then-not-is_empty-clause-received : goal.returns-then-not-is_empty-clause-received
returns-then-not-is_empty-clause-received g c = ([], refl, sym (append-nil _), record { run = refl; nobody_for_none = λ _. c.nobody.ensures })

pub returns-in-Err-clause-cost : goal.returns-in-Err-clause-cost
returns-in-Err-clause-cost g c =
    let cost = c.try_recv-first.ensures.cost in
    let nothing = refusal_costs g.P.Ord.cmp g.W.Clone.is_clone c.args.self.now.state c.try_recv-first.new.self.state c.in-Err.error c.try_recv-first.result.1
    (rw c.in-Err.is at c.try_recv-first.ensures.step) in
    (omega (arith, cost.0, nothing), omega (arith, cost.1), cost.2)

pub returns-in-Ok-clause-received : goal.returns-in-Ok-clause-received
returns-in-Ok-clause-received g c =
    let r = c.receive_more-more.ensures.received in
    let f = received_first g.P.Ord.cmp g.W.Clone.is_clone c.args.self.now.state c.try_recv-first.new.self.state c.receive_more-more.new.self.state
    c.args.batch.now.items c.push_reserved.new.self.items c.receive_more-more.new.batch.items r.0 c.in-Ok.pair c.try_recv-first.result.1
    (rw c.in-Ok.is at c.try_recv-first.ensures.step) c.push_reserved.ensures.items r.2 r.3 in
    (c.in-Ok.pair ∷ r.0, omega (arith, r.1), f.0, f.1)

pub returns-in-Ok-clause-count : goal.returns-in-Ok-clause-count
returns-in-Ok-clause-count g c =
    let s = rw c.in-Ok.is at c.try_recv-first.ensures.step in
    let first = first_length g.P.Ord.cmp g.W.Clone.is_clone c.args.self.now.state c.try_recv-first.new.self.state c.in-Ok.pair c.try_recv-first.result.1 s in
    let some : 0 < c.args.limit =
    elim c.else-limit-eq0.branch [
      | else-limit-eq0-via-then-limit-eq0+else-not-is_empty w ↦ search rules
      | else-limit-eq0-via-else-limit-eq0 w ↦ search rules
    ] in
    min_next c.receive_more-more.result (c.args.limit - 1) (length c.try_recv-first.new.self.state.pending) _ _
    c.receive_more-more.ensures.count (omega arith) (sym first)

pub returns-in-Ok-clause-cost : goal.returns-in-Ok-clause-cost
returns-in-Ok-clause-cost g c =
    let all = length c.args.self.now.state.pending in
    let left = length c.try_recv-first.new.self.state.pending in
    let s = rw c.in-Ok.is at c.try_recv-first.ensures.step in
    let first = first_length g.P.Ord.cmp g.W.Clone.is_clone c.args.self.now.state c.try_recv-first.new.self.state c.in-Ok.pair c.try_recv-first.result.1 s in
    let total = receives_cost c.receive_more-more.result left all (omega (arith, first)) in
    let count = ap (λ n. n * (2 * digits all)) (returns-in-Ok-clause-count g c) in
    let one = c.try_recv-first.ensures.cost in
    let more = c.receive_more-more.ensures.cost in
    (omega (arith, total, count, one.0, more.0), omega (arith, one.1, more.1), λ known. more.2 (one.2 known))

pub returns-in-Err-clause-pending : goal.returns-in-Err-clause-pending
returns-in-Err-clause-pending g c = search rules
