use Rattle.room_book.proofs.Links.{link_replies_agree, wakes_keep}
use Rattle.room_book.proofs.laws.links.Goals as goal

pub returns-clause-wakes : goal.returns-clause-wakes
returns-clause-wakes c = wakes_keep

pub returns-clause-replies : goal.returns-clause-replies
returns-clause-replies c = link_replies_agree
