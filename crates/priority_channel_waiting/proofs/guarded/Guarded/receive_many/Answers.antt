use Rattle.priority_channel_waiting.proofs.guarded.Guarded.receive_many.Goals as goal

pub returns-clause-received : goal.returns-clause-received
returns-clause-received g c = rw (← c.self.view_is) c.try_recv_many-received.ensures.received
