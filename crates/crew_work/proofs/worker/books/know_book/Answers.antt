use Rattle.crew_work.proofs.WorkerLemmas.Sizes.{notes_sized}
use Rattle.crew_work.proofs.worker.books.know_book.Goals as goal

pub returns : goal.returns
returns c = record { order = c.line-line.ensures.order; sized = notes_sized c.args.book.now c.line-line.ensures.notes }
