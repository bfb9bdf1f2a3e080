use Rattle.std.proofs.Common.{◌≡◌, false, [], ◌∷◌, refl, rules}
use Rattle.priority_channel_core.specs.Prelude.{room, state_of}
use Rattle.priority_channel_core.proofs.Evicting.{evicts_displaced, none_or_some, one_below}
use Rattle.priority_channel_core.proofs.Sends.{refuses_full}
use Rattle.priority_channel_core.proofs.channel.PriorityQueueChannel.try_send_evicting.Goals as goal
use Rattle.priority_channel_core.proofs.channel.PriorityQueueChannel.try_send_evicting.Goals.{in-Ok, in-Err}

pub returns-clause-step : goal.returns-clause-step
returns-clause-step g c =
    let own = c.self.inside in
    let old = state_of own.bag own.word.word own.capacity own.is_reserved own.sender_count own.receiver_count in
    let opened : old.is_closed ≡ false = search rules in
    let full : room old ≡ 0 = search rules in
    elim c.match-displace.branch [
      | in-Ok w ↦
          let evicts = evicts_displaced g.P.Ord.cmp old _ (c.args.msg, c.args.priority) w.in-Ok.out c.self.invariant.good opened full w.in-Ok.ensures.displaced (search rules) (search rules) in
          rw (w.reply-is, c.nobody-2.ensures, ← c.self.view_is) (record { moves = evicts.0; good = evicts.1 })
      | in-Err w ↦
          let refused = w.in-Err.ensures.refused in
          rw (w.reply-is, c.nobody-2.ensures, ← c.self.view_is, refused.0, w.in-Err.ensures.unchanged.0, w.in-Err.ensures.unchanged.1)
          (record { moves = (refused.1, refuses_full old ((c.args.msg, c.args.priority) ∷ []) full opened); good = c.self.invariant.good })
    ]

pub returns-clause-full : goal.returns-clause-full
returns-clause-full g c = λ full fits none.
    elim c.match-displace.branch [
      | in-Ok w ↦ absurd (none_or_some g.P.Ord.cmp c.self.inside.bag.pending c.args.priority
          (one_below g.P.Ord.cmp c.self.inside.bag.pending c.displace.new.self.pending (c.args.msg, c.args.priority) w.in-Ok.out w.in-Ok.ensures.displaced)
          (rw (← c.self.view_is) at none))
      | in-Err w ↦ rw (w.reply-is, w.in-Err.ensures.refused.0) refl
    ]

pub returns-clause-displaces : goal.returns-clause-displaces
returns-clause-displaces g c = λ full fits some.
    elim c.match-displace.branch [
      | in-Ok w ↦ (w.in-Ok.out, w.reply-is)
      | in-Err w ↦ absurd (none_or_some g.P.Ord.cmp c.self.inside.bag.pending c.args.priority (rw (← c.self.view_is) at some) w.in-Err.ensures.refused.1)
    ]
