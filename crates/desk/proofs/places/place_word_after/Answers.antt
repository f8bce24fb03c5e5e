use Rattle.desk.proofs.places.Changes.{changed-there, changed-elsewhere}
use Rattle.desk.proofs.places.place_word_after.Goals as goal

pub returns-then-i-j : goal.returns-then-i-j
returns-then-i-j c = changed-there _ c.in-Sent.is c.requires.0 _ _ c.if-i-j.true c.sent_word.ensures

pub returns-then-i-j-2 : goal.returns-then-i-j-2
returns-then-i-j-2 c = changed-there _ c.in-Served.is c.requires.0 _ _ c.if-i-j-2.true c.served_word.ensures

pub returns-else-i-j : goal.returns-else-i-j
returns-else-i-j c = changed-elsewhere _ c.in-Sent.is c.requires.0 _ _ c.if-i-j.false c.place_word.ensures

pub returns-else-i-j-2 : goal.returns-else-i-j-2
returns-else-i-j-2 c = changed-elsewhere _ c.in-Served.is c.requires.0 _ _ c.if-i-j-2.false c.place_word-in-Served.ensures
