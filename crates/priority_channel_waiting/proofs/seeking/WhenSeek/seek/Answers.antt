use Rattle.std.proofs.Common.{refl, sym, ◌∙◌, subst, inr}
use Rattle.priority_channel_core.specs.bag.Prelude.{Tells}
use Rattle.priority_channel_core.proofs.items.Extremes.{one_greatest}
use Rattle.priority_channel_core.proofs.Lists.{has_item}
use Rattle.priority_channel_calls.proofs.Runs.{the_step}
use Rattle.priority_channel_waiting.proofs.seeking.WhenSeek.seek.Goals as goal
use Rattle.priority_channel_waiting.proofs.seeking.WhenSeek.seek.Goals.{in-Some+in_default-check_due, in_default, in-Ok, in-Err-Closed, in-Err-Empty}

pub returns-clause-met : goal.returns-clause-met
returns-clause-met g c = elim c.match-received.branch [
  | in-Ok w ↦
      let taken = (the_step g.P.Ord.cmp _ _ _ _ _ _ (rw w.in-Ok.is at c.make_on-received.ensures.made)).moves.0 in
      rw w.sought-is (elim c.match-peek.branch [
        | in-Some+in_default-check_due v ↦
            let same = one_greatest g.met.P.Ord.total _ _ _ _ _ v.in-Some.ensures.1 taken in
            let told : Tells g.F.Fn c.args.self.now.when (v.in-Some.msg.now, v.in-Some.priority.now) v.when-due.result = record { msg = _; priority = _; shows = (refl, refl); says = record { met = v.when-due.ensures } } in
            (v.when-due.result, subst (λ pair. Tells g.F.Fn c.args.self.now.when pair v.when-due.result) same.0 told, v.in_default-check_due.ensures.comes)
        | in_default v ↦ absurd (has_item taken.before _ _ (sym taken.split ∙ v.in_default.ensures))
      ])
  | in-Err-Closed w ↦ rw w.sought-is tt
  | in-Err-Empty w ↦ rw w.sought-is tt
]

pub returns-in-Err-clause-none : goal.returns-in-Err-clause-none
returns-in-Err-clause-none g c =
    let told : Tells g.F.Fn c.args.self.now.when (c.in-Some.msg.now, c.in-Some.priority.now) c.when-due.result = record { msg = _; priority = _; shows = (refl, refl); says = record { met = c.when-due.ensures } } in
    inr (_, c.in-Some.ensures.0, c.in-Some.ensures.1, c.when-due.result, told, c.in-Err.ensures.waits)
