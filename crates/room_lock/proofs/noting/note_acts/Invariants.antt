use Rattle.std.proofs.Common.{◌≡◌, ◌≤◌, ◌-◌, ◌+◌, ◌++◌, map, take, length}
use Rattle.std.specs.Prelude.{vec_len, vec_capacity}
use Rattle.room_book.specs.declared.book.BookEntry.TheVariants.{Act}
use Rattle.room_lock.proofs.noting.note_acts.Given as goal

-- the acts that were noted so far
abbrev pub invariant-loop-i : goal.invariant-loop-i
invariant-loop-i l = record {
  noted : l.book.items ≡ l.fn.book.items ++ map Act (take l.i l.acts);
  room : vec_len l.book + (length l.acts - l.i) ≤ vec_capacity l.book;
}
