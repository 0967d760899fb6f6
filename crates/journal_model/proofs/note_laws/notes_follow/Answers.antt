use Rattle.journal_model.proofs.Noting.{with_notes-counts, with_notes-order, current_of_book, one_book}
use Rattle.journal_model.proofs.note_laws.notes_follow.Goals as goal

pub returns-clause-counts : goal.returns-clause-counts
returns-clause-counts c = λ book notes order key uuid chunk. with_notes-counts book notes order key uuid chunk

pub returns-clause-order : goal.returns-clause-order
returns-clause-order c = λ book notes order. with_notes-order book notes order

pub returns-clause-current : goal.returns-clause-current
returns-clause-current c = λ o past key layouts gives. current_of_book o past key layouts gives.0 gives.1

pub returns-clause-one : goal.returns-clause-one
returns-clause-one c = λ a b p q alike. one_book a b p q alike
