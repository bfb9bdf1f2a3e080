use Rattle.std.proofs.Common.{◌≡◌, None}
use Rattle.priority_channel_witnessed.specs.Waits.{ComesTo, IsCall}
use Rattle.priority_channel_witnessed.proofs.witnessed.waits.Witnessed+T+P+Waiter+A+J+A.wait_listed.Given as goal

-- what the wait comes to from here it comes to from the beginning
abbrev pub invariant-loop : goal.invariant-loop
invariant-loop g l = record {
  can_make : g.C.CoreCall.can_make l.rest;
  leaves : (left : _) → g.C.Retry.leaves l.rest left → g.C.Retry.leaves l.fn.call left;
  goes_on : (ending : _) (later : _)
      → ComesTo g.P.Ord.cmp (λ waiter other. other ≡ waiter) g.J.Recording.capacity g.J.Recording.is_reserved g.C.Retry.call_of (IsCall g.C.CoreCall.told g.C.Retry.says g.C.Awaited.polled) l.pass l.rest l.ticket ending later
      → ComesTo g.P.Ord.cmp (λ waiter other. other ≡ waiter) g.J.Recording.capacity g.J.Recording.is_reserved g.C.Retry.call_of (IsCall g.C.CoreCall.told g.C.Retry.says g.C.Awaited.polled) l.fn.pass l.fn.call None ending later;
}
