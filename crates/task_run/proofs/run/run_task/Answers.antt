use Rattle.std.proofs.Common.{ap}
use Rattle.task_model.specs.Ran.{may_note}
use Rattle.task_model.proofs.Causes.{from_quiet, from_content}
use Rattle.task_run.proofs.AllRuns.{from_asking, from_noting, from_store, from_get}
use Rattle.task_run.proofs.run.run_task.Goals as goal

pub store-requires-clause-may : goal.store-requires-clause-may
store-requires-clause-may g c = c.requires.notes (ap may_note c.in-Store.is)

pub returns-in-Store-clause-ran : goal.returns-in-Store-clause-ran
returns-in-Store-clause-ran g c = from_store _ _ _ _ _ _ _ _ _ _ _ c.store.ensures.ran

pub returns-in-Get-clause-ran : goal.returns-in-Get-clause-ran
returns-in-Get-clause-ran g c = from_get _ _ _ _ _ _ _ _ _ _ _ c.get_key.ensures.ran c.get_key.ensures.notes

pub returns-in-Check-clause-ran : goal.returns-in-Check-clause-ran
returns-in-Check-clause-ran g c = from_asking _ _ _ _ _ _ _ _ _ _ c.check.ensures.ran c.check.ensures.notes

pub returns-in-Drop-clause-ran : goal.returns-in-Drop-clause-ran
returns-in-Drop-clause-ran g c = from_noting _ _ _ _ _ _ _ _ _ _ c.drop_key.ensures.ran

pub drop_key-requires-clause-may_note : goal.drop_key-requires-clause-may_note
drop_key-requires-clause-may_note g c = c.requires.notes (ap may_note c.in-Drop.is)

pub returns-in-Store-clause-causes : goal.returns-in-Store-clause-causes
returns-in-Store-clause-causes g c = from_quiet _ _ _ c.store.ensures.causes

pub returns-in-Check-clause-causes : goal.returns-in-Check-clause-causes
returns-in-Check-clause-causes g c = from_content _ _ c.check.ensures.content

pub returns-in-Drop-clause-causes : goal.returns-in-Drop-clause-causes
returns-in-Drop-clause-causes g c = from_content _ _ c.drop_key.ensures.content

pub returns-in-XStore-clause-ran : goal.returns-in-XStore-clause-ran
returns-in-XStore-clause-ran g c = from_get _ _ _ _ _ _ _ _ _ _ _ (c.store_export.ensures.ran _ _) c.store_export.ensures.notes

pub returns-in-XGet-clause-ran : goal.returns-in-XGet-clause-ran
returns-in-XGet-clause-ran g c = from_get _ _ _ _ _ _ _ _ _ _ _ c.get_export.ensures.ran c.get_export.ensures.notes

pub returns-in-XCheck-clause-ran : goal.returns-in-XCheck-clause-ran
returns-in-XCheck-clause-ran g c = from_asking _ _ _ _ _ _ _ _ _ _ c.check_export.ensures.ran c.check_export.ensures.notes

pub returns-in-XDrop-clause-ran : goal.returns-in-XDrop-clause-ran
returns-in-XDrop-clause-ran g c = from_asking _ _ _ _ _ _ _ _ _ _ c.drop_export.ensures.ran c.drop_export.ensures.notes

pub returns-in-XRename-clause-ran : goal.returns-in-XRename-clause-ran
returns-in-XRename-clause-ran g c = from_asking _ _ _ _ _ _ _ _ _ _ c.rename_export.ensures.ran c.rename_export.ensures.notes

pub returns-in-XStore-clause-causes : goal.returns-in-XStore-clause-causes
returns-in-XStore-clause-causes g c = from_quiet _ _ _ c.store_export.ensures.causes

pub returns-in-XGet-clause-causes : goal.returns-in-XGet-clause-causes
returns-in-XGet-clause-causes g c = from_quiet _ _ _ c.get_export.ensures.causes

pub returns-in-XCheck-clause-causes : goal.returns-in-XCheck-clause-causes
returns-in-XCheck-clause-causes g c = from_content _ _ c.check_export.ensures.content

pub returns-in-XDrop-clause-causes : goal.returns-in-XDrop-clause-causes
returns-in-XDrop-clause-causes g c = from_content _ _ c.drop_export.ensures.content

pub returns-in-XRename-clause-causes : goal.returns-in-XRename-clause-causes
returns-in-XRename-clause-causes g c = from_content _ _ c.rename_export.ensures.content
