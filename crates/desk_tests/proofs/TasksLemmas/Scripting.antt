-- A verdict that the asker gives is one that some answer ends with, and it keeps what it was asked.
use Rattle.std.proofs.Common.{◌≡◌, List, [], ◌∷◌, ◌++◌, refl}
use Rattle.std.specs.Prelude.{true, Some, map}
use Rattle.std.proofs.lemmas.List.{map-append}
use Rattle.annex_model.specs.Messages.{HostMessage, Transfer, Checkpresent, Remove, Transferexport, Checkpresentexport, Removeexport, Renameexport, TransferSuccess, CheckpresentFailure, RemoveSuccess, RenameexportSuccess}
use Rattle.journal_model.specs.declared.verdict.Verdict.{Verdict}
use Rattle.journal_model.specs.declared.verdict.Verdict.TheVariants.{Done, Absent, Unsent}
use Rattle.journal_model.specs.Projection.{IsNamed}
use Rattle.host_talk.specs.declared.request.request.Request.{Request}
use Rattle.host_talk.specs.Request.Requests.{message_of, name_of}
use Rattle.task_model.specs.Askers.{AsksOne}
use Rattle.desk_tests.specs.Tasks.Scripts.{can_have, pair_of}
use Rattle.ann_key.proofs.Lists.{same_name as same_bytes}
use Rattle.task_model.proofs.Across.{said_kept}
use Rattle.annex_model.proofs.Across.{same_way}

pub is_named : (q : HostMessage) (v : Verdict) → can_have q v ≡ true → IsNamed q v
is_named (Transfer store key file) (Done at) h = (Some (TransferSuccess store key) ∷ [], rw (same_way store, same_bytes key) refl)
is_named (Remove key) (Done at) h = (Some (RemoveSuccess key) ∷ [], rw (same_bytes key) refl)
is_named (Checkpresent key) (Absent at) h = (Some (CheckpresentFailure key) ∷ [], rw (same_bytes key) refl)
is_named (Transferexport store key file) (Done at) h = (Some (TransferSuccess store key) ∷ [], rw (same_way store, same_bytes key) refl)
is_named (Removeexport key) (Done at) h = (Some (RemoveSuccess key) ∷ [], rw (same_bytes key) refl)
is_named (Renameexport key onto) (Done at) h = (Some (RenameexportSuccess key) ∷ [], rw (same_bytes key) refl)
is_named (Checkpresentexport key) (Absent at) h = (Some (CheckpresentFailure key) ∷ [], rw (same_bytes key) refl)
is_named q Unsent h = tt
is_named _ _ h = absurd cc

pub asked_more : (asked : List (Request × Verdict)) (request : Request) (v : Verdict) → AsksOne (map pair_of asked) (map pair_of (asked ++ (request, v) ∷ [])) (name_of request) (message_of request) v
asked_more asked request v = record { request = Some (message_of request); kept = refl; added = rw (said_kept (name_of request) (message_of request)) (map-append pair_of asked ((request, v) ∷ [])) }
