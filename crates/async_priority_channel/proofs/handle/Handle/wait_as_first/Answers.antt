use Rattle.async_priority_channel.proofs.handle.Handle.wait_as_first.Goals as goal

pub loop-init : goal.loop-init
loop-init g c = (c.requires, g.met.C.Retry.whole c.args.left)
