use Rattle.std.proofs.Common.{◌≡◌, ◌∙◌, ℕ, List, refl, sym, subst}
use Rattle.ann_key.specs.KeyRefs.{text_of}
use Rattle.dir_remote.specs.Answers.{Works, StoreDoes, is_of_transfer}
use Rattle.dir_remote.specs.declared.outcome.Outcome.{Outcome}
use Rattle.dir_remote.specs.declared.outcome.Outcome.TheVariants as O
use Rattle.dir_remote.specs.Contents.{IsContentName}
use Rattle.dir_remote.specs.Outcomes.{refusal_of}
use Rattle.std.specs.Prelude.{is_some, Ok, Err}
use Rattle.ann_outside.specs.Files.{WhereTold, OthersStay, RenameDoes}
use Rattle.ann_outside.specs.declared.file_desk.DeskError.TheVariants.{Failed}
use Rattle.dir_remote.specs.Copies.{Spares}
use Rattle.dir_remote.proofs.SpareLaws.{leaves_all, leaves_by, free_on, free_spares}
use Rattle.dir_remote.proofs.CauseLaws.{refused_copy, calm_copy, calm_same, calm_cleared}
use Rattle.dir_remote.proofs.TraceLaws.{store_idle_traced, store_uncopied_traced, store_done_traced, store_unnamed_traced}
use Rattle.dir_remote.proofs.WorkLaws.{causes_done_behind, causes_behind, causes_cleared, transfer_refused, store_idle, store_uncopied, store_done, store_unnamed, store_cleared}
use Rattle.dir_remote.proofs.works.store.Goals as goal

pub returns-in-Err-clause-spared : goal.returns-in-Err-clause-spared
returns-in-Err-clause-spared g c = leaves_all c.args.mark.now c.args.directory.now (text_of c.args.key) (g.D.Desk.told c.args.desk.now).files

pub returns-in-Err-temporary_place-clause-spared : goal.returns-in-Err-temporary_place-clause-spared
returns-in-Err-temporary_place-clause-spared g c = leaves_all c.args.mark.now c.args.directory.now (text_of c.args.key) (g.D.Desk.told c.args.desk.now).files

pub returns-in-Err-copy-clause-spared : goal.returns-in-Err-copy-clause-spared
returns-in-Err-copy-clause-spared g c =
    let S : List ℕ → Type 0 = λ l. WhereTold (g.D.Desk.told c.args.desk.now).files (g.D.Desk.told c.copy.new.desk).files (Spares l (Err c.in-Err-copy.error)) in
    leaves_by c.args.mark.now c.args.directory.now (text_of c.args.key) c.in-Err-copy.error (g.D.Desk.told c.args.desk.now).files (g.D.Desk.told c.copy.new.desk).files
    (λ marked. subst S (c.view-beside.ensures ∙ c.in-Ok-temporary_place.ensures) (c.in-Err-copy.ensures.spared (c.is_some-alone.ensures ∙ marked)))

pub returns-in-Ok-rename-clause-spared : goal.returns-in-Ok-rename-clause-spared
returns-in-Ok-rename-clause-spared g c =
    let S : List ℕ → Type 0 = λ l. WhereTold (g.D.Desk.told c.args.desk.now).files (g.D.Desk.told c.rename.new.self).files (Spares l (Err Failed)) in
    leaves_by c.args.mark.now c.args.directory.now (text_of c.args.key) Failed (g.D.Desk.told c.args.desk.now).files (g.D.Desk.told c.rename.new.self).files
    (λ marked. subst S (c.view-beside.ensures ∙ c.in-Ok-temporary_place.ensures)
    (free_spares c.view-beside.result.now Failed (g.D.Desk.told c.args.desk.now).files (g.D.Desk.told c.rename.new.self).files
    (free_on c.view-beside.result.now (RenameDoes c.view-beside.result.now c.view-place.result.now (Ok tt)) (g.D.Desk.told c.args.desk.now).files (g.D.Desk.told c.copy.new.desk).files (g.D.Desk.told c.rename.new.self).files
    (c.in_default.ensures.spared (c.is_some-alone.ensures ∙ marked)) c.in-Ok-rename.ensures.files)))

pub returns-clause-spared : goal.returns-clause-spared
returns-clause-spared g c =
    let S : List ℕ → Type 0 = λ l. WhereTold (g.D.Desk.told c.args.desk.now).files (g.D.Desk.told c.give_up.new.desk).files (Spares l (Err Failed)) in
    leaves_by c.args.mark.now c.args.directory.now (text_of c.args.key) Failed (g.D.Desk.told c.args.desk.now).files (g.D.Desk.told c.give_up.new.desk).files
    (λ marked. subst S (c.view-beside.ensures ∙ c.in-Ok-temporary_place.ensures)
    (free_spares c.view-beside.result.now Failed (g.D.Desk.told c.args.desk.now).files (g.D.Desk.told c.give_up.new.desk).files
    (free_on c.view-beside.result.now (OthersStay (λ other. other ≡ c.view-beside.result.now)) (g.D.Desk.told c.args.desk.now).files (g.D.Desk.told c.rename.new.self).files (g.D.Desk.told c.give_up.new.desk).files
    (free_on c.view-beside.result.now (RenameDoes c.view-beside.result.now c.view-place.result.now (Err c.in-Err-rename.error)) (g.D.Desk.told c.args.desk.now).files (g.D.Desk.told c.copy.new.desk).files (g.D.Desk.told c.rename.new.self).files
    (c.in_default.ensures.spared (c.is_some-alone.ensures ∙ marked)) c.in-Err-rename.ensures.files)
    c.give_up.ensures.others)))

pub returns-in-Err-clause-works : goal.returns-in-Err-clause-works
returns-in-Err-clause-works g c =
    store_idle c.args.directory.now (text_of c.args.key) c.args.file.now (g.D.Desk.told c.args.desk.now) c.in-Err.outcome c.in-Err.ensures

pub returns-in-Err-temporary_place-clause-works : goal.returns-in-Err-temporary_place-clause-works
returns-in-Err-temporary_place-clause-works g c =
    store_idle c.args.directory.now (text_of c.args.key) c.args.file.now (g.D.Desk.told c.args.desk.now) c.in-Err-temporary_place.outcome c.in-Err-temporary_place.ensures

pub returns-in-Err-copy-clause-works : goal.returns-in-Err-copy-clause-works
returns-in-Err-copy-clause-works g c =
    let W : Outcome → Type 0 = λ o. Works is_of_transfer (StoreDoes c.args.directory.now (text_of c.args.key) c.args.file.now) (text_of c.args.key)
    (g.D.Desk.told c.args.desk.now) (g.D.Desk.told c.copy.new.desk) o in
    subst W (sym c.refusal.ensures)
    (transfer_refused (StoreDoes c.args.directory.now (text_of c.args.key) c.args.file.now) (text_of c.args.key)
    (g.D.Desk.told c.args.desk.now) (g.D.Desk.told c.copy.new.desk) c.in-Err-copy.error
    c.in-Ok.ensures.1
    (refused_copy c.is_some-alone.result (g.D.Desk.told c.args.desk.now).counts (g.D.Desk.told c.copy.new.desk).counts c.in-Err-copy.error c.in-Err-copy.ensures.causes)
    (store_uncopied c.args.mark.now c.requires c.args.directory.now (text_of c.args.key) c.args.file.now c.view-beside.result.now c.in-Err-copy.error (g.D.Desk.told c.args.desk.now).files (g.D.Desk.told c.copy.new.desk).files
    (c.view-beside.ensures ∙ c.in-Ok-temporary_place.ensures) c.in-Err-copy.ensures.others c.in-Err-copy.ensures.copied))

pub returns-in-Ok-rename-clause-works : goal.returns-in-Ok-rename-clause-works
returns-in-Ok-rename-clause-works g c =
    let P : List ℕ → Type 0 = λ l. IsContentName c.args.directory.now (text_of c.args.key) l in
    record {
      word = refl;
      prepared = λ e. cc;
      text = c.in-Ok.ensures.1;
      causes = causes_done_behind {T = Unit {0}} (g.D.Desk.told c.args.desk.now).counts (g.D.Desk.told c.copy.new.desk).counts (g.D.Desk.told c.rename.new.self).counts tt c.in_default.ensures.causes.done c.in-Ok-rename.ensures.causes;
      files_do = store_done c.args.mark.now c.requires c.args.directory.now (text_of c.args.key) c.args.file.now c.view-beside.result.now c.view-place.result.now (g.D.Desk.told c.args.desk.now).files (g.D.Desk.told c.copy.new.desk).files (g.D.Desk.told c.rename.new.self).files
          (c.view-beside.ensures ∙ c.in-Ok-temporary_place.ensures) (subst P (sym c.view-place.ensures) c.in-Ok.ensures.0) c.in_default.ensures.others c.in_default.ensures.copied c.in-Ok-rename.ensures.files;
    }

pub returns-clause-works : goal.returns-clause-works
returns-clause-works g c =
    let P : List ℕ → Type 0 = λ l. IsContentName c.args.directory.now (text_of c.args.key) l in
    let W : Outcome → Type 0 = λ o. Works is_of_transfer (StoreDoes c.args.directory.now (text_of c.args.key) c.args.file.now) (text_of c.args.key)
    (g.D.Desk.told c.args.desk.now) (g.D.Desk.told c.give_up.new.desk) o in
    subst W (sym c.refusal-in-Err-rename.ensures)
    (transfer_refused (StoreDoes c.args.directory.now (text_of c.args.key) c.args.file.now) (text_of c.args.key)
    (g.D.Desk.told c.args.desk.now) (g.D.Desk.told c.give_up.new.desk) c.in-Err-rename.error
    c.in-Ok.ensures.1
    (causes_cleared (g.D.Desk.told c.args.desk.now).counts (g.D.Desk.told c.rename.new.self).counts (g.D.Desk.told c.give_up.new.desk).counts (refusal_of c.in-Err-rename.error)
    (causes_behind {T = Unit {0}} (g.D.Desk.told c.args.desk.now).counts (g.D.Desk.told c.copy.new.desk).counts (g.D.Desk.told c.rename.new.self).counts c.in-Err-rename.error c.in_default.ensures.causes.done c.in-Err-rename.ensures.causes)
    c.give_up.ensures.later c.give_up.ensures.missing)
    (store_cleared c.args.mark.now c.requires c.args.directory.now (text_of c.args.key) c.args.file.now c.view-beside.result.now (refusal_of c.in-Err-rename.error) (g.D.Desk.told c.args.desk.now).files (g.D.Desk.told c.rename.new.self).files (g.D.Desk.told c.give_up.new.desk).files
    (c.view-beside.ensures ∙ c.in-Ok-temporary_place.ensures)
    (store_unnamed c.args.mark.now c.requires c.args.directory.now (text_of c.args.key) c.args.file.now c.view-beside.result.now c.view-place.result.now c.in-Err-rename.error (g.D.Desk.told c.args.desk.now).files (g.D.Desk.told c.copy.new.desk).files (g.D.Desk.told c.rename.new.self).files
    (c.view-beside.ensures ∙ c.in-Ok-temporary_place.ensures) c.in_default.ensures.others c.in_default.ensures.copied c.in-Err-rename.ensures.files)
    c.give_up.ensures.others))

pub returns-in-Err-clause-traced : goal.returns-in-Err-clause-traced
returns-in-Err-clause-traced g c = store_idle_traced c.args.mark.now c.args.directory.now (text_of c.args.key) c.args.file.now c.in-Err.outcome (g.D.Desk.told c.args.desk.now).log c.in-Err.ensures

pub returns-in-Err-temporary_place-clause-traced : goal.returns-in-Err-temporary_place-clause-traced
returns-in-Err-temporary_place-clause-traced g c =
    store_idle_traced c.args.mark.now c.args.directory.now (text_of c.args.key) c.args.file.now c.in-Err-temporary_place.outcome (g.D.Desk.told c.args.desk.now).log c.in-Err-temporary_place.ensures

pub returns-in-Err-copy-clause-traced : goal.returns-in-Err-copy-clause-traced
returns-in-Err-copy-clause-traced g c =
    rw c.refusal.ensures
    (store_uncopied_traced c.args.mark.now c.args.directory.now (text_of c.args.key) c.args.file.now c.view-beside.result.now c.is_some-alone.result c.in-Err-copy.error _ _ c.is_some-alone.ensures
    (c.view-beside.ensures ∙ c.in-Ok-temporary_place.ensures) c.in-Err-copy.ensures.traced)

pub returns-in-Ok-rename-clause-traced : goal.returns-in-Ok-rename-clause-traced
returns-in-Ok-rename-clause-traced g c =
    let P : List ℕ → Type 0 = λ l. IsContentName c.args.directory.now (text_of c.args.key) l in
    store_done_traced c.args.mark.now c.args.directory.now (text_of c.args.key) c.args.file.now c.view-beside.result.now c.view-place.result.now c.is_some-alone.result _ _ _
    (c.view-beside.ensures ∙ c.in-Ok-temporary_place.ensures) (subst P (sym c.view-place.ensures) c.in-Ok.ensures.0) c.in_default.ensures.traced c.in-Ok-rename.ensures.log

pub returns-clause-traced : goal.returns-clause-traced
returns-clause-traced g c =
    let P : List ℕ → Type 0 = λ l. IsContentName c.args.directory.now (text_of c.args.key) l in
    rw c.refusal-in-Err-rename.ensures
    (store_unnamed_traced c.args.mark.now c.args.directory.now (text_of c.args.key) c.args.file.now c.view-beside.result.now c.view-place.result.now c.is_some-alone.result c.in-Err-rename.error _ _ _ _ c.is_some-alone.ensures
    (c.view-beside.ensures ∙ c.in-Ok-temporary_place.ensures) (subst P (sym c.view-place.ensures) c.in-Ok.ensures.0) c.in_default.ensures.traced c.in-Err-rename.ensures.log c.give_up.ensures.traced)

pub returns-in-Err-copy-clause-calm : goal.returns-in-Err-copy-clause-calm
returns-in-Err-copy-clause-calm g c =
    rw (c.refusal.ensures, sym c.is_some-alone.ensures) (calm_copy c.is_some-alone.result (g.D.Desk.told c.args.desk.now).counts (g.D.Desk.told c.copy.new.desk).counts c.in-Err-copy.error c.in-Err-copy.ensures.causes)

pub returns-in-Ok-rename-clause-calm : goal.returns-in-Ok-rename-clause-calm
returns-in-Ok-rename-clause-calm g c = calm_same (is_some c.args.mark.now) (g.D.Desk.told c.args.desk.now).counts (g.D.Desk.told c.rename.new.self).counts O.Done (c.in-Ok-rename.ensures.causes.done ∙ c.in_default.ensures.causes.done)

pub returns-clause-calm : goal.returns-clause-calm
returns-clause-calm g c =
    rw (c.refusal-in-Err-rename.ensures, sym c.is_some-alone.ensures)
    (calm_cleared c.is_some-alone.result (g.D.Desk.told c.args.desk.now).counts (g.D.Desk.told c.copy.new.desk).counts (g.D.Desk.told c.rename.new.self).counts (g.D.Desk.told c.give_up.new.desk).counts c.in-Err-rename.error c.in_default.ensures.causes.done c.in-Err-rename.ensures.causes c.in-Err-rename.ensures.apart c.give_up.ensures.calm)

pub returns-in-Err-clause-calm : goal.returns-in-Err-clause-calm
returns-in-Err-clause-calm g c = calm_same (is_some c.args.mark.now) (g.D.Desk.told c.args.desk.now).counts (g.D.Desk.told c.args.desk.now).counts c.in-Err.outcome refl

pub returns-in-Err-temporary_place-clause-calm : goal.returns-in-Err-temporary_place-clause-calm
returns-in-Err-temporary_place-clause-calm g c = calm_same (is_some c.args.mark.now) (g.D.Desk.told c.args.desk.now).counts (g.D.Desk.told c.args.desk.now).counts c.in-Err-temporary_place.outcome refl
