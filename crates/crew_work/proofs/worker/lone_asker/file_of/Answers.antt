use Rattle.std.proofs.Common.{◌≡◌, ◌∙◌, ap, sym, true}
use Rattle.std.specs.Str.{is_utf8}
use Rattle.std.proofs.lemmas.Str.{is_utf8-from_IsUtf8}
use Rattle.crew_work.proofs.worker.lone_asker.file_of.Goals as goal

pub returns-in-Transfer : goal.returns-in-Transfer
returns-in-Transfer c =
    let text : is_utf8 c.view.result.now ≡ true = is_utf8-from_IsUtf8 c.view.result.now c.view.utf8 in
    rw c.in-Transfer.is (ap is_utf8 (sym c.view.ensures) ∙ text)

pub returns-in-TransferExport : goal.returns-in-TransferExport
returns-in-TransferExport c =
    let text : is_utf8 c.view-in-TransferExport.result.now ≡ true = is_utf8-from_IsUtf8 c.view-in-TransferExport.result.now c.view-in-TransferExport.utf8 in
    rw c.in-TransferExport.is (ap is_utf8 (sym c.view-in-TransferExport.ensures) ∙ text)

pub returns-in-RenameExport : goal.returns-in-RenameExport
returns-in-RenameExport c =
    let text : is_utf8 c.view-in-RenameExport.result.now ≡ true = is_utf8-from_IsUtf8 c.view-in-RenameExport.result.now c.view-in-RenameExport.utf8 in
    rw c.in-RenameExport.is (ap is_utf8 (sym c.view-in-RenameExport.ensures) ∙ text)
