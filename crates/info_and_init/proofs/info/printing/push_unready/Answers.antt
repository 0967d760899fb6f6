use Rattle.std.proofs.Common.{sym}
use Rattle.info_and_init.proofs.InfoLemmas.Told.{refused}
use Rattle.info_and_init.proofs.info.printing.push_unready.Goals as goal

pub returns-in-Some : goal.returns-in-Some
returns-in-Some c =
    let told = refused c.args.journal.now.entries c.args.child c.in-Some.at (sym c.in-Some.ensures) in
    rw (told, ← c.text_at.ensures) c.push_line.ensures.printed
