use Rattle.async_priority_channel.proofs.handle.Handle.look_for_a_while.Goals as goal

pub loop-init : goal.loop-init
loop-init g c = (c.requires, g.met.C.Retry.whole c.args.left)
