use Rattle.std.proofs.Common.{◌≡◌, ◌+◌, ◌*◌, ◌<◌, ◌≤◌, ◌^◌, length}
use Rattle.std.specs.Iterator.Adapters.{peekable_can}
use Rattle.priority_channel_core.specs.bag.Prelude.{digits}
use Rattle.priority_channel_core.specs.Prelude.{MovesFront}
use Rattle.priority_channel_core.proofs.channel.bulk.send_front.Given as goal

abbrev pub invariant-loop-sent : goal.invariant-loop-sent
invariant-loop-sent g l = record {
  callable : peekable_can g.I.Iterator.can_next l.msgs;
  moved : MovesFront g.I.Iterator.next_gives l.fn.bag l.fn.msgs l.sent l.bag l.msgs;
  accepted : l.bag.accepted ≡ l.fn.bag.accepted + l.sent;
  numbered : l.fn.bag.accepted + l.fn.held < 2 ^ 64 → l.bag.accepted + l.fn.held < 2 ^ 64;
  slots : l.fn.bag.slots ≤ l.bag.slots;
  least : l.bag.knows_least ≡ l.fn.bag.knows_least;
  limit : length l.fn.bag.pending + l.fn.held < 2 ^ 63 → length l.bag.pending + l.fn.held < 2 ^ 63;
  held_slots : length l.fn.bag.pending + l.fn.held ≤ l.fn.bag.slots → length l.bag.pending + l.fn.held ≤ l.bag.slots;
  cost : l.bag.comparisons ≤ l.fn.bag.comparisons + l.sent * digits (length l.bag.pending);
}
