use Rattle.std.proofs.Common.{◌≡◌, ℕ, ◌<◌, ◌⊎◌, ◌+◌, ◌-◌, ◌≤◌, ◌^◌, false, length, rules}
use Rattle.priority_channel_core.specs.Prelude.{sent_before}
use Rattle.priority_channel_core.proofs.Channels.{sound_adds, refused_in_channel}
use Rattle.priority_channel_core.proofs.Fronts.{sent_within, stops_for}
use Rattle.priority_channel_core.proofs.channel.PriorityQueueChannel.send_while_room.Goals as goal

pub invariant_of-self : goal.invariant_of-self
invariant_of-self g c =
    let before = c.self.inside in
    let front = c.send_front-stop.ensures in
    let within = sent_within g.I.Iterator.next_gives _ _ _ _ front.stops in
    sound_adds before.bag c.send_front-stop.new.bag before.word.word c.incr-wakes.new.self.word c.incr-wakes.result.1
    before.capacity before.is_reserved before.sender_count before.receiver_count (sent_before c.send_front-stop.result) front.moved.front
    front.moved.long front.moved.pending front.accepted (search rules) (search rules) c.self.invariant
    (search rules) (search rules) front.slots (search rules) (search rules) (search rules) c.incr-wakes.ensures.tickets

pub returns-clause-good : goal.returns-clause-good
returns-clause-good g c = (invariant_of-self g c).good

pub returns-clause-stops : goal.returns-clause-stops
returns-clause-stops g c =
    let before = c.self.inside in
    let after = c.send_front-stop.new.bag in
    let front = c.send_front-stop.ensures in
    let was : ℕ → Type 0 = λ n. after.accepted + before.word.word.held + 1 < 2 ^ 64 → after.slots ≤ length after.pending + before.word.word.held in
    let is_refused : ℕ → Type 0 = λ n. (c.args.self.now.state.is_reserved ≡ false) ⊎ (c.args.self.now.state.accepted + c.args.self.now.state.held + n ≡ 2 ^ 64 - 1) in
    stops_for g.I.Iterator.next_gives was is_refused c.args.room c.send_front-stop.result c.send_front-stop.new.msgs
    (λ within refused. rw (← c.self.view_is) (refused_in_channel before.bag after before.word.word c.incr-wakes.new.self.word c.incr-wakes.result.1
    before.capacity before.is_reserved before.sender_count before.receiver_count (sent_before c.send_front-stop.result) front.moved.front
    front.moved.long front.moved.pending front.accepted (search rules) (search rules) c.self.invariant (search rules) front.slots (search rules) refused)) (rw c.held.ensures at front.stops)
