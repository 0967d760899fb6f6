use Rattle.journal_model.proofs.Growing.{group_follows}
use Rattle.journal_model.proofs.Rooms.{room_suffices, room_grows, group_room, group_no_reply}
use Rattle.journal_model.proofs.laws.room_suffices.Goals as goal

pub returns-clause-long : goal.returns-clause-long
returns-clause-long c = λ o journal legal. room_suffices o journal legal

pub returns-clause-grows : goal.returns-clause-grows
returns-clause-grows c = λ o past more. room_grows o past more

pub returns-clause-group : goal.returns-clause-group
returns-clause-group c = λ o past rest e g. group_room o past e rest (group_follows o past e rest g).1

pub returns-clause-no_reply : goal.returns-clause-no_reply
returns-clause-no_reply c = λ o past e rest g h. group_no_reply o past e rest (group_follows o past e rest g).1 h
