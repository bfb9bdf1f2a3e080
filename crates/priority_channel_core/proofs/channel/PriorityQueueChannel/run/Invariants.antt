use Rattle.std.proofs.Common.{◌≡◌, true, false, vec_len, reverse, length, drop, All}
use Rattle.std.specs.Iterator.Adapters.{peekable_can}
use Rattle.priority_channel_core.specs.Prelude.{HasList, AllowsRun, MayCall, RunsFront, AllMeetTests}
use Rattle.priority_channel_core.specs.bag.Prelude.{Tells}
use Rattle.priority_channel_core.proofs.channel.PriorityQueueChannel.run.Given as goal

-- the calls are kept in reverse, so that the next call is at the end
abbrev pub invariant-loop-done : goal.invariant-loop-done
invariant-loop-done g l = record {
  allowed : AllowsRun l.self.state (reverse l.calls.items);
  callable : All (MayCall (peekable_can g.I.Iterator.can_next) (goal.F-IsAlwaysCallable g)) (reverse l.calls.items);
  meets : AllMeetTests (λ test pair. Tells g.F.Fn test pair true) (λ test pair. Tells g.F.Fn test pair false) (HasList g.I.Iterator.next_gives) g.P.Ord.cmp g.W.Clone.is_clone
      l.fn.self.state l.fn.calls.items l.done.items l.self.state;
  left : reverse l.calls.items ≡ drop (length l.done.items) l.fn.calls.items;
  runs : RunsFront (HasList g.I.Iterator.next_gives) g.P.Ord.cmp g.W.Clone.is_clone l.fn.self.state l.fn.calls.items l.done.items (reverse l.calls.items) l.self.state;
}

abbrev pub decreases-loop-done : goal.decreases-loop-done
decreases-loop-done g l = vec_len l.calls
