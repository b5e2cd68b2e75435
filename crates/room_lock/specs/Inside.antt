-- The contents of a room, as contracts see them.
use Rattle.pcm_group.specs.Inside.{members_in}
use Rattle.room_lock.specs.declared.contents.Contents.{Contents}
use Rattle.room_lock.specs.InRoom.{RoomView}

abbrev pub view_of : {N : Type 0} → Contents N → RoomView
view_of c = record { number = c.number; members = members_in c.group; recs = c.recs.items; book = c.book.items }
