use Rattle.std.proofs.Common.{◌∙◌, ◌≤◌, length, refl, arith}
use Rattle.ann_outside.specs.declared.file_desk.DeskError.TheVariants as E
use Rattle.journal_text.specs.Lines.JournalTexts.{journal_lines}
use Rattle.journal_text.proofs.FileLemmas.Added.{adding_nothing, adding_more, appends, added_refused, grown_refused, added_last, grown_last, refused_nothing}
use Rattle.journal_text.proofs.file.writing.append_lines.Goals as goal

pub loop-n-init : goal.loop-n-init
loop-n-init g c = record { adding = adding_nothing _ _ _ _ c.new-piece.ensures.items; quiet = refl }

pub loop-n-preserved : goal.loop-n-preserved
loop-n-preserved g c = record {
  adding = adding_more c.args.name.now (journal_lines c.args.opening.now c.args.journal.now.entries) c.loop-n.n _ _ _ _ _ _ _ _ _ c.in-Ok.ensures c.loop-n.invariant.adding c.in_default-take_up.ensures.ok;
  quiet = c.in_default-take_up.ensures.causes.done ∙ c.loop-n.invariant.quiet;
}

pub returns-in_default-clause-calls : goal.returns-in_default-clause-calls
returns-in_default-clause-calls g c =
    added_refused c.args.name.now (journal_lines c.args.opening.now c.args.journal.now.entries) c.loop-n.n _ _ _ _ _ _ _ c.loop-n.invariant.adding E.NoMemory (refused_nothing _ _ c.args.name.now c.loop-n.piece.items)

pub returns-in_default-clause-files : goal.returns-in_default-clause-files
returns-in_default-clause-files g c =
    grown_refused c.args.name.now (journal_lines c.args.opening.now c.args.journal.now.entries) c.loop-n.n _ _ _ _ _ _ _ c.loop-n.invariant.adding E.NoMemory (refused_nothing _ _ c.args.name.now c.loop-n.piece.items)

pub returns-in-Err-clause-calls : goal.returns-in-Err-clause-calls
returns-in-Err-clause-calls g c =
    added_refused c.args.name.now (journal_lines c.args.opening.now c.args.journal.now.entries) c.loop-n.n _ _ _ _ _ _ _ c.loop-n.invariant.adding c.in-Err.error c.in-Err.ensures.err

pub returns-in-Err-clause-files : goal.returns-in-Err-clause-files
returns-in-Err-clause-files g c =
    grown_refused c.args.name.now (journal_lines c.args.opening.now c.args.journal.now.entries) c.loop-n.n _ _ _ _ _ _ _ c.loop-n.invariant.adding c.in-Err.error c.in-Err.ensures.err

pub returns-clause-calls : goal.returns-clause-calls
returns-clause-calls g c =
    let past : length (journal_lines c.args.opening.now c.args.journal.now.entries) ≤ c.loop-n.n = omega (arith, c.requires.lines, c.loop-n-test.false) in
    added_last c.args.name.now (journal_lines c.args.opening.now c.args.journal.now.entries) c.loop-n.n _ _ _ _ _ _ _ c.loop-n.invariant.adding past c.append.result
    (appends c.args.name.now (journal_lines c.args.opening.now c.args.journal.now.entries) c.loop-n.n _ _ _ _ _ _ _ c.loop-n.invariant.adding c.as_slice.result.now c.append.result c.as_slice.ensures.value c.append.ensures.log c.append.ensures.files)

pub returns-clause-files : goal.returns-clause-files
returns-clause-files g c =
    let past : length (journal_lines c.args.opening.now c.args.journal.now.entries) ≤ c.loop-n.n = omega (arith, c.requires.lines, c.loop-n-test.false) in
    grown_last c.args.name.now (journal_lines c.args.opening.now c.args.journal.now.entries) c.loop-n.n _ _ _ _ _ _ _ c.loop-n.invariant.adding past c.append.result
    (appends c.args.name.now (journal_lines c.args.opening.now c.args.journal.now.entries) c.loop-n.n _ _ _ _ _ _ _ c.loop-n.invariant.adding c.as_slice.result.now c.append.result c.as_slice.ensures.value c.append.ensures.log c.append.ensures.files)
