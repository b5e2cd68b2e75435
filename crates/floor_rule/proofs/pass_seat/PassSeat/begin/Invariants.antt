use Rattle.floor_rule.proofs.pass_seat.PassSeat.begin.Given as goal

abbrev pub ghosts-begin_named : goal.ghosts-begin_named
ghosts-begin_named a = record { call = record { event = a.event.now; count = a.count } }
