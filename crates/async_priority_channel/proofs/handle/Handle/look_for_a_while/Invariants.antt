use Rattle.async_priority_channel.proofs.handle.Handle.look_for_a_while.Given as goal

-- what is left may be made again, and is left of the call
abbrev pub invariant-loop : goal.invariant-loop
invariant-loop g l = g.C.CoreCall.can_make (g.C.Retry.call_of l.rest)
    × g.C.Retry.leaves (g.C.Retry.call_of l.fn.left) l.rest
