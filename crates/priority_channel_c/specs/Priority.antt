-- The order of priorities: the high words decide, and between equal ones the low words.
use Rattle.std.specs.Ordering.{nat_cmp, on, then_cmp}
use Rattle.std.specs.declared.cmp.Ordering.{Ordering}
use Rattle.priority_channel_c.specs.declared.priority.Priority.{Priority}

abbrev pub priority_cmp : Priority → Priority → Ordering
priority_cmp = then_cmp (on (λ p. p.high) nat_cmp) (on (λ p. p.low) nat_cmp)
