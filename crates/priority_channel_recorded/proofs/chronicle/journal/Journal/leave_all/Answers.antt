use Rattle.std.proofs.Common.{◌≤◌, [], ◌∷◌, All, arith, rules, sym, ◌∙◌, subst, length-append, map-id}
use Rattle.std.proofs.lemmas.List.Sums.{sum_by_push}
use Rattle.std.proofs.lemmas.List.Elements.{All-push}
use Rattle.std.proofs.lemmas.Iterator.Adapters.{YieldsList-from_vec}
use Rattle.std.proofs.lemmas.Iterator.Consumers.{YieldsList-end}
use mathlib.Core.List.{IsPrefix}
use Rattle.priority_channel_recorded.specs.chronicle.Passes.{calls_of}
use Rattle.priority_channel_recorded.proofs.chronicle.journal.Journal.leave_all.Goals as goal

pub loop-pass-preserved : goal.loop-pass-preserved
loop-pass-preserved g c =
    let before = c.loop-pass.invariant in
    let left = c.leave.ensures in
    let history = c.args.self.now in
    record {
      parts = omega (arith, before.parts, left.parts, length-append c.loop-pass.yielded (c.in-Some.pass ∷ []));
      amount = omega (arith, before.amount, left.amount, sum_by_push (λ p. p.count) c.loop-pass.yielded c.in-Some.pass);
      seen = All-push (λ p. IsPrefix p.seen history) _ _ before.seen left.seen;
      counted = All-push (λ p. p.count ≤ calls_of g.H.Chronicle.who p.number history) _ _ before.counted left.counted;
    }

pub returns-clause-seen : goal.returns-clause-seen
returns-clause-seen g c =
    let road = YieldsList-from_vec c.args.passes.items c.into_iter-pass-iterator.ensures.into_iter_gives.0 (search rules) in
    let end = YieldsList-end road c.loop-pass.yielded c.loop-pass.pass-iterator c.loop-pass.yielded_by c.next.result c.next.new.self c.in-None.is c.next.ensures.steps in
    subst (λ ps. All (λ p. IsPrefix p.seen c.args.self.now) ps) (sym (map-id c.loop-pass.yielded) ∙ end.0) c.loop-pass.invariant.seen
