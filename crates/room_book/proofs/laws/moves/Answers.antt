use Rattle.room_book.proofs.Moves.{coming_in, entries_follow, going_out, log_of_member, one_log_changes, same_streams_fit}
use Rattle.room_book.proofs.laws.moves.Goals as goal

pub returns-clause-entries : goal.returns-clause-entries
returns-clause-entries c = entries_follow

pub returns-clause-coming : goal.returns-clause-coming
returns-clause-coming c = coming_in

pub returns-clause-going : goal.returns-clause-going
returns-clause-going c = going_out

pub returns-clause-log : goal.returns-clause-log
returns-clause-log c = log_of_member

pub returns-clause-change : goal.returns-clause-change
returns-clause-change c = one_log_changes

pub returns-clause-streams : goal.returns-clause-streams
returns-clause-streams c = same_streams_fit
