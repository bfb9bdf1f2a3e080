use Rattle.std.proofs.Common.{◌≡◌, ◌+◌, ◌<◌, ◌^◌, ◌⊎◌, false, [], ◌∷◌, length, refl, ap, rules, arith, length-append}
use Rattle.priority_channel_core.specs.Prelude.{room, state_of}
use Rattle.priority_channel_core.proofs.Sends.{refuses_full, refuses_first}
use Rattle.priority_channel_core.proofs.Channels.{adds, sound_adds}
use Rattle.priority_channel_core.proofs.channel.PriorityQueueChannel.try_send.Goals as goal

pub returns-then-count-held-clause-step : goal.returns-then-count-held-clause-step
returns-then-count-held-clause-step g c =
    let s = c.args.self.now.state in
    rw c.nobody-then-count-held.ensures (record {
      moves = refuses_full s ((c.args.msg, c.args.priority) ∷ []) (search rules) (search rules);
      good = search rules;
    })

pub returns-then-not-prepare-clause-step : goal.returns-then-not-prepare-clause-step
returns-then-not-prepare-clause-step g c =
    let inside = c.self.inside in
    let s = state_of inside.bag inside.word.word inside.capacity inside.is_reserved inside.sender_count inside.receiver_count in
    let why : (inside.is_reserved ≡ false) ⊎ (inside.bag.accepted + inside.word.word.held + 1 ≡ 2 ^ 64) = search rules in
    let some : 0 < room s = search rules in
    let opened : s.is_closed ≡ false = search rules in
    rw (c.nobody-then-not-prepare.ensures, c.prepare.ensures.same, ← c.self.view_is) (record {
      moves = refuses_first s ((c.args.msg, c.args.priority) ∷ []) (omega arith) some opened why;
      good = c.self.invariant.good;
    })

pub invariant_of-self-2 : goal.invariant_of-self-2
invariant_of-self-2 g c =
    let before = c.self.inside in
    let ready = c.prepare.ensures.ready (search rules) in
    let longer = ap length c.push.ensures.pending in
    let added = length-append c.prepare.new.bag.pending ((c.args.msg, c.args.priority) ∷ []) in
    sound_adds before.bag c.push.new.self before.word.word c.incr-wakes.new.self.word c.incr-wakes.result.1
    before.capacity before.is_reserved before.sender_count before.receiver_count 1 ((c.args.msg, c.args.priority) ∷ [])
    refl (search rules) (search rules) (search rules) (search rules) c.self.invariant
    (search rules) (search rules) (search rules) (omega (arith, ready.0, longer, added, c.push.ensures.slots)) (omega (arith, ready.0, ready.2, longer, added)) (search rules) c.incr-wakes.ensures.tickets

pub returns-clause-step : goal.returns-clause-step
returns-clause-step g c =
    let before = c.self.inside in
    let added = adds before.bag c.push.new.self before.word.word c.incr-wakes.new.self.word c.incr-wakes.result.1
    before.capacity before.is_reserved before.sender_count before.receiver_count 1 ((c.args.msg, c.args.priority) ∷ [])
    refl (search rules) (search rules) (search rules) (search rules) in
    record {
      moves = rw (← c.self.view_is) (search rules, search rules, (search rules, added));
      good = (invariant_of-self-2 g c).good;
    }
