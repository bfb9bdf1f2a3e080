-- Threads may share a counter.
use denote.Param.Send.{IsSync, cell_keyless}
use denote.Memory.{part_of, raw_all}
use Rattle.priority_channel_core.specs.contracts.comparisons.Comparisons.{the_row}

-- A `&` to a counter reads a place of no bytes.
pub sync : IsSync the_row
unfolding part_of
sync = record { shared = λ d b o κ q bytes. (cell_keyless q (raw_all the_row.mir) bytes b o, (λ _. (tt, (tt, tt)), tt)) }
