use Rattle.std.proofs.Common.{◌-◌, ◌+◌, ◌<◌, ◌≤◌, length}
use Rattle.std.specs.List.{AllWithin}
use Rattle.priority_channel_core.specs.bag.Prelude.{digits}
use Rattle.priority_channel_core.proofs.waiting_list.WaitingList.position_of.Given as goal

abbrev pub invariant-loop-low : goal.invariant-loop-low
invariant-loop-low g l =
    let xs = l.self-inside.entries in
    record {
      in_order : l.low ≤ l.high;
      in_list : l.high ≤ length xs;
      below : AllWithin (λ a. a.0 < l.ticket) xs 0 l.low;
      above : AllWithin (λ a. l.ticket < a.0) xs l.high (length xs);
      cost : l.comparisons.count + digits (l.high - l.low) ≤ l.initial.comparisons.count + digits (length xs);
    }

abbrev pub decreases-loop-low : goal.decreases-loop-low
decreases-loop-low g l = l.high - l.low
