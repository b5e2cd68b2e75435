use Rattle.floor_rule.proofs.rec_seat.RecSeat.publish.Given as goal

abbrev pub ghosts-store_named : goal.ghosts-store_named
ghosts-store_named a = record { entry = record { entry = a.entry.now; mark = a.mark.now } }
