use Rattle.async_priority_channel.proofs.leasing.Receiver+T+P+R+A.lease_when_timeout.Goals as goal

pub returns-clause-due : goal.returns-clause-due
returns-clause-due g c = rw c.of.ensures c.in_ok-leased.ensures.found
