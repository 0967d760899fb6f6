-- The files that the logs of desks began with.
use Rattle.ann_outside.specs.Told.{DeskTold}
use Rattle.std.proofs.Common.{◌≡◌, ◌∙◌, ℕ, ◌+◌, List, [], ◌∷◌, ◌++◌, refl, sym, ap, subst, Option, Some, None}
use Rattle.std.specs.Prelude.{map, option_map, IfSome}
use Rattle.ann_outside.specs.Calls.{Log, Gained, IsLogFrom, log_origin}
use Rattle.ann_outside.specs.Desks.{Made}
use Rattle.ann_outside.specs.Files.{Files}
use Rattle.ann_outside.specs.Played.{ArePlayed}
use Rattle.ann_outside.specs.declared.file_desk.Call.{Call}
use Rattle.journal_model.specs.declared.entry.Entry.{Entry}
use Rattle.journal_model.specs.declared.opening.Opening.{Opening}
use Rattle.task_model.specs.declared.setup.Setup.{Setup}
use Rattle.crew_work.specs.Worker.Works.{all_calls}
use Rattle.run_children.specs.Desks.{DesksDid}
use Rattle.run_and_check.specs.Run.Runs.{ArePlayedAt, BeganAs, origins_of}

gained_origin : (old new : Option Log) (calls : List Call) → Gained old new calls → log_origin new ≡ log_origin old
gained_origin old new calls g = ap log_origin g ∙ same old
  where
    same : (o : Option Log) → log_origin (option_map {U = Log} (λ (told : Log). record { origin = told.origin; calls = told.calls ++ calls }) o) ≡ log_origin o
    same None = refl
    same (Some told) = refl

-- so it began with the same files
pub from_gained : (old new : Option Log) (calls : List Call) (files : Option Files) → Gained old new calls → IsLogFrom old files → IsLogFrom new files
from_gained old new calls files g from = subst (λ (x : Option (Option Files)). IfSome x (λ origin. origin ≡ files)) (sym (gained_origin old new calls g)) from

-- what desks did leaves them as it was
did_origins : (o : Opening) (setup : Setup) (limit : ℕ) (journal past entries : List Entry) (k : ℕ) (ds es : List DeskTold) → DesksDid o setup limit journal past entries k ds es → origins_of es ≡ origins_of ds
did_origins o setup limit journal past entries k [] [] did = refl
did_origins o setup limit journal past entries k [] (e ∷ es) did = absurd did
did_origins o setup limit journal past entries k (d ∷ ds) [] did = absurd did
did_origins o setup limit journal past entries k (d ∷ ds) (e ∷ es) did =
    ap (λ (x : Option (Option Files)). x ∷ origins_of es) (gained_origin d.log e.log (all_calls did.0.done) did.0.log_is)
    ∙ ap (λ (xs : List (Option (Option Files))). log_origin d.log ∷ xs) (did_origins o setup limit journal past entries (k + 1) ds es did.1)

module _ {D : Type 0} (told : D → DeskTold) where
  pub origins_stay : (o : Opening) (setup : Setup) (limit : ℕ) (journal : List Entry) (ks ks' : List D) → DesksDid o setup limit journal [] journal 1 (map told ks) (map told ks')
      → origins_of (map told ks') ≡ origins_of (map told ks)
  origins_stay o setup limit journal ks ks' did = did_origins o setup limit journal [] journal 1 (map told ks) (map told ks') did

  -- the law of each desk, of all
  pub played_at : ((d : D) → ∥ ArePlayed (told d).log (told d).files ∥₁) → (ks : List D) → ArePlayedAt (map told ks)
  played_at law [] = tt
  played_at law (k ∷ ks) = (law k, played_at law ks)

-- ---- desks that were made

-- other tables whose logs began with the same
pub began_same : (more : List Made) (tables tables' : List DeskTold) → origins_of tables' ≡ origins_of tables → BeganAs more tables → BeganAs more tables'
began_same [] [] [] e h = tt
began_same [] [] (t' ∷ ts') e h = absurd cc
began_same [] (t ∷ ts) ts' e h = absurd h
began_same (m ∷ more) [] ts' e h = absurd h
began_same (m ∷ more) (t ∷ ts) [] e h = absurd cc
began_same (m ∷ more) (t ∷ ts) (t' ∷ ts') e h =
    let first : log_origin t'.log ≡ log_origin t.log = cc in
    let rest : origins_of ts' ≡ origins_of ts = cc in
    (subst (λ (x : Option (Option Files)). IfSome x (λ origin. origin ≡ m.files)) (sym first) h.0, began_same more ts ts' rest h.1)

-- one more
pub began_more : (more : List Made) (tables : List DeskTold) (m : Made) (table : DeskTold) → BeganAs more tables → IsLogFrom table.log m.files → BeganAs (more ++ m ∷ []) (tables ++ table ∷ [])
began_more [] [] m table h one = (one, tt)
began_more [] (t ∷ ts) m table h one = absurd h
began_more (x ∷ more) [] m table h one = absurd h
began_more (x ∷ more) (t ∷ ts) m table h one = (h.0, began_more more ts m table h.1 one)
