use Rattle.bench.proofs.witnessed.steady.Given as goal

abbrev pub ghosts-steady_on-J-Recording : goal.ghosts-steady_on-J-Recording
ghosts-steady_on-J-Recording g a = record {
  log = a.fresh.log;
  capacity = a.fresh.capacity;
  is_reserved = a.fresh.is_reserved;
}

abbrev pub ghosts-steady_on-J-Ledger : goal.ghosts-steady_on-J-Ledger
ghosts-steady_on-J-Ledger g a = record { name = a.fresh.ledger; parts = a.fresh.passes }
