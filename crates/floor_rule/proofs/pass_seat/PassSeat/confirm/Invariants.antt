use Rattle.floor_rule.proofs.pass_seat.PassSeat.confirm.Given as goal

abbrev pub ghosts-confirm_named : goal.ghosts-confirm_named
ghosts-confirm_named a = record { at = (a.sub, a.index) }
