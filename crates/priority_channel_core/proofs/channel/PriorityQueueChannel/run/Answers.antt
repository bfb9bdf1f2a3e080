use Rattle.std.proofs.Common.{refl, arith, true, false, length, length-append}
use Rattle.std.specs.Iterator.Adapters.{peekable_can}
use Rattle.std.proofs.lemmas.List.{reverse-append, reverse-reverse}
use Rattle.std.proofs.lemmas.List.Elements.{All-head, All-tail}
use Rattle.priority_channel_core.specs.bag.Prelude.{Tells}
use Rattle.priority_channel_core.specs.Prelude.{HasList, MayCall}
use Rattle.priority_channel_core.proofs.Handles.{AllowsRun-first, AllowsRun-more}
use Rattle.priority_channel_core.proofs.Running.{RunsFront-none, RunsFront-more, meets_more, at_ok, drop-past}
use Rattle.priority_channel_core.proofs.channel.PriorityQueueChannel.run.Goals as goal
use Rattle.priority_channel_core.proofs.channel.PriorityQueueChannel.run.Goals.{then-loop-done-test+else-is_ok, else-loop-done-test}

pub loop-done-init : goal.loop-done-init
loop-done-init g c = record {
  allowed = rw (c.reverse.ensures.items, reverse-reverse) c.requires.allowed;
  callable = rw (c.reverse.ensures.items, reverse-reverse) c.requires.callable;
  meets = rw c.new-done.ensures.items refl;
  left = rw (c.new-done.ensures.items, c.reverse.ensures.items) (reverse-reverse _);
  runs = rw (c.new-done.ensures.items, c.reverse.ensures.items, reverse-reverse) (RunsFront-none _ _ _ _ _);
}

pub make-requires : goal.make-requires
make-requires g c = record {
  allowed = AllowsRun-first _ _ _ (rw (c.in-Some.ensures.items, reverse-append) at c.loop-done.invariant.allowed);
  callable = All-head (MayCall (peekable_can g.I.Iterator.can_next) (goal.F-IsAlwaysCallable g)) _ _ (rw (c.in-Some.ensures.items, reverse-append) at c.loop-done.invariant.callable);
}

pub push_reserved-requires : goal.push_reserved-requires
push_reserved-requires g c =
    omega (arith, at_ok c.reserve.result c.is_ok.result c.is_ok.ensures.value c.if-is_ok.true c.reserve.ensures.ok)

pub loop-done-preserved : goal.loop-done-preserved
loop-done-preserved g c = record {
  allowed = AllowsRun-more _ _ _ _ c.make.ensures.handles (rw (c.in-Some.ensures.items, reverse-append) at c.loop-done.invariant.allowed);
  callable = All-tail (MayCall (peekable_can g.I.Iterator.can_next) (goal.F-IsAlwaysCallable g)) _ _ (rw (c.in-Some.ensures.items, reverse-append) at c.loop-done.invariant.callable);
  meets = rw (c.push_reserved.ensures.items, c.reserve.ensures.items)
      (meets_more (λ test pair. Tells g.F.Fn test pair true) (λ test pair. Tells g.F.Fn test pair false) (HasList g.I.Iterator.next_gives) g.P.Ord.cmp g.W.Clone.is_clone _ _ _
      c.args.calls.items _ c.loop-done.done.items _ c.make.result
      (rw (c.in-Some.ensures.items, reverse-append) at c.loop-done.invariant.left) c.loop-done.invariant.meets c.make.ensures.step c.make.ensures.adds c.make.ensures.meets);
  left = rw (c.push_reserved.ensures.items, c.reserve.ensures.items, length-append)
      (drop-past (length c.loop-done.done.items) c.args.calls.items _ _ (rw (c.in-Some.ensures.items, reverse-append) at c.loop-done.invariant.left));
  runs = rw (c.push_reserved.ensures.items, c.reserve.ensures.items)
      (RunsFront-more _ _ _ _ _ _ _ _ _ _ c.make.result (rw (c.in-Some.ensures.items, reverse-append) at c.loop-done.invariant.runs) c.make.ensures.step);
}

pub returns-clause-run : goal.returns-clause-run
returns-clause-run g c =
    rw c.reverse-2.ensures.items
    (elim c.loop-done-test.branch [
      | then-loop-done-test+else-is_ok w ↦ rw (w.done-is, w.reserve.ensures.items) c.loop-done.invariant.runs
      | else-loop-done-test w ↦ rw w.done-is c.loop-done.invariant.runs
    ])

pub returns-clause-meets : goal.returns-clause-meets
returns-clause-meets g c =
    elim c.loop-done-test.branch [
      | then-loop-done-test+else-is_ok w ↦ rw (w.done-is, w.reserve.ensures.items) c.loop-done.invariant.meets
      | else-loop-done-test w ↦ rw w.done-is c.loop-done.invariant.meets
    ]

pub returns-clause-left : goal.returns-clause-left
returns-clause-left g c =
    rw c.reverse-2.ensures.items
    (elim c.loop-done-test.branch [
      | then-loop-done-test+else-is_ok w ↦ rw (w.done-is, w.reserve.ensures.items) c.loop-done.invariant.left
      | else-loop-done-test w ↦ rw w.done-is c.loop-done.invariant.left
    ])

pub returns-clause-allowed : goal.returns-clause-allowed
returns-clause-allowed g c = rw c.reverse-2.ensures.items c.loop-done.invariant.allowed

pub returns-clause-callable : goal.returns-clause-callable
returns-clause-callable g c = rw c.reverse-2.ensures.items c.loop-done.invariant.callable
