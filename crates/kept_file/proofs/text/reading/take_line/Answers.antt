use Rattle.std.proofs.Common.{◌≡◌, [], ◌++◌, Some, Option, OnOk, sym, ap, subst, ◌∙◌}
use Rattle.std.specs.List.{cons_option}
use Rattle.ann_key.specs.KeyRefs.{text_of}
use Rattle.kept_file.specs.Text.KeptLines.{KeptLine, Chunks, kept_reading, note_of}
use Rattle.kept_file.specs.Text.KeptFiles.{CountsAs}
use Rattle.kept_file.specs.Text.Shown.{kept_shown}
use Rattle.kept_file.proofs.TextLemmas.Spelled.{read_fits}
use Rattle.kept_file.proofs.text.reading.take_line.Goals as goal

pub take_chunks-requires : goal.take_chunks-requires
take_chunks-requires c =
    let read : kept_reading c.args.line.now ≡ Some (Chunks (text_of c.in-Some-Chunks.key) c.in-Some-Chunks.log.now) =
    sym c.in-Some-Chunks.ensures ∙ ap (λ k. Some (kept_shown k)) c.in-Some-Chunks.field-0-is in
    read_fits (Chunks (text_of c.in-Some-Chunks.key) c.in-Some-Chunks.log.now) c.args.line.now read c.requires

pub set-requires : goal.set-requires
set-requires c = read_fits (kept_shown c.in-Some.kept) c.args.line.now (sym c.in-Some.ensures) c.requires

pub returns-in-Some-Chunks-clause-notes : goal.returns-in-Some-Chunks-clause-notes
returns-in-Some-Chunks-clause-notes c =
    let read : kept_reading c.args.line.now ≡ Some (Chunks (text_of c.in-Some-Chunks.key) c.in-Some-Chunks.log.now) =
    sym c.in-Some-Chunks.ensures ∙ ap (λ k. Some (kept_shown k)) c.in-Some-Chunks.field-0-is in
    subst (λ (k : Option KeptLine). OnOk c.take_chunks.result (CountsAs c.take_chunks.new.notes (c.args.notes.now ++ cons_option (note_of k) [])))
    (sym read) c.take_chunks.ensures.notes
