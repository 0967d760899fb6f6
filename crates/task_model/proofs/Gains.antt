-- What one call adds to a log.
use Rattle.std.proofs.Common.{◌≡◌, ◌∙◌, ℕ, List, refl}
use Rattle.std.specs.Prelude.{Option, Ok, Err}
use Rattle.ann_outside.specs.Calls.{Log, Gained, logged}
use Rattle.ann_outside.specs.declared.file_desk.DeskError.{DeskError}
use Rattle.ann_outside.specs.declared.file_desk.DeskError.TheVariants as E
use Rattle.ann_outside.specs.declared.file_desk.Call.TheVariants.{Size, Create, Rename, Remove}
use Rattle.task_model.proofs.CopyingLemmas.CopyLaws.{gained_without, gained_call}
use Rattle.task_model.specs.Fetching.{Outcome, if_made}

-- a call without a value, refused or not
pub gained_create : (old new : Option Log) (name : List ℕ) (r : Outcome) → new ≡ logged old (Create name r) → Gained old new (if_made r (Create name r))
gained_create old new name (Ok tt') e = e ∙ gained_call old (Create name (Ok tt')) refl
gained_create old new name (Err E.Failed) e = e ∙ gained_call old (Create name (Err E.Failed)) refl
gained_create old new name (Err E.Missing) e = e ∙ gained_call old (Create name (Err E.Missing)) refl
gained_create old new name (Err E.NoMemory) e = e ∙ gained_without old (Create name (Err E.NoMemory)) refl

pub gained_remove : (old new : Option Log) (name : List ℕ) (r : Outcome) → new ≡ logged old (Remove name r) → Gained old new (if_made r (Remove name r))
gained_remove old new name (Ok tt') e = e ∙ gained_call old (Remove name (Ok tt')) refl
gained_remove old new name (Err E.Failed) e = e ∙ gained_call old (Remove name (Err E.Failed)) refl
gained_remove old new name (Err E.Missing) e = e ∙ gained_call old (Remove name (Err E.Missing)) refl
gained_remove old new name (Err E.NoMemory) e = e ∙ gained_without old (Remove name (Err E.NoMemory)) refl

pub gained_rename : (old new : Option Log) (from to : List ℕ) (r : Outcome) → new ≡ logged old (Rename from to r) → Gained old new (if_made r (Rename from to r))
gained_rename old new from to (Ok tt') e = e ∙ gained_call old (Rename from to (Ok tt')) refl
gained_rename old new from to (Err E.Failed) e = e ∙ gained_call old (Rename from to (Err E.Failed)) refl
gained_rename old new from to (Err E.Missing) e = e ∙ gained_call old (Rename from to (Err E.Missing)) refl
gained_rename old new from to (Err E.NoMemory) e = e ∙ gained_without old (Rename from to (Err E.NoMemory)) refl

pub gained_size_refused : (old new : Option Log) (name : List ℕ) (e : DeskError) → new ≡ logged old (Size name (Err e)) → Gained old new (if_made (Err e) (Size name (Err e)))
gained_size_refused old new name E.Failed e = e ∙ gained_call old (Size name (Err E.Failed)) refl
gained_size_refused old new name E.Missing e = e ∙ gained_call old (Size name (Err E.Missing)) refl
gained_size_refused old new name E.NoMemory e = e ∙ gained_without old (Size name (Err E.NoMemory)) refl
