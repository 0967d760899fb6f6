use Rattle.std.proofs.Common.{◌∙◌, ℕ, List, Ok, Err, false, refl, sym, subst}
use Rattle.ann_key.specs.KeyRefs.{text_of}
use Rattle.dir_remote.specs.Answers.{Works, RetrieveDoes, is_of_transfer}
use Rattle.dir_remote.specs.declared.outcome.Outcome.{Outcome}
use Rattle.dir_remote.specs.declared.outcome.Outcome.TheVariants as O
use Rattle.ann_outside.specs.declared.file_desk.Call.TheVariants.{Size}
use Rattle.dir_remote.specs.Traces.{Each, IsRetrieveCall}
use Rattle.dir_remote.specs.Contents.{IsContentName}
use Rattle.dir_remote.proofs.WorkLaws.{causes_same_done, causes_refused, transfer_refused, retrieve_idle, retrieve_unfound, retrieve_done, retrieve_uncopied}
use Rattle.dir_remote.proofs.CauseLaws.{behind, refused_copy, calm_copy, calm_same, calm_refused}
use Rattle.dir_remote.proofs.TraceLaws.{traced_none, traced_one, retrieve_traced}
use Rattle.dir_remote.proofs.works.retrieve.Goals as goal

pub returns-in-Err-clause-works : goal.returns-in-Err-clause-works
returns-in-Err-clause-works g c =
    retrieve_idle c.args.directory.now (text_of c.args.key) c.args.file.now (g.D.Desk.told c.args.desk.now) c.in-Err.outcome c.in-Err.ensures

pub returns-in-Err-size-clause-works : goal.returns-in-Err-size-clause-works
returns-in-Err-size-clause-works g c =
    let P : List ℕ → Type 0 = λ l. IsContentName c.args.directory.now (text_of c.args.key) l in
    let W : Outcome → Type 0 = λ o. Works is_of_transfer (RetrieveDoes c.args.directory.now (text_of c.args.key) c.args.file.now) (text_of c.args.key)
    (g.D.Desk.told c.args.desk.now) (g.D.Desk.told c.size.new.self) o in
    subst W (sym c.refusal.ensures)
    (transfer_refused (RetrieveDoes c.args.directory.now (text_of c.args.key) c.args.file.now) (text_of c.args.key)
    (g.D.Desk.told c.args.desk.now) (g.D.Desk.told c.size.new.self) c.in-Err-size.error
    c.in-Ok.ensures.1
    (causes_refused {T = ℕ} (g.D.Desk.told c.args.desk.now).counts (g.D.Desk.told c.size.new.self).counts c.in-Err-size.error c.in-Err-size.ensures.causes)
    (retrieve_unfound c.args.directory.now (text_of c.args.key) c.args.file.now c.view-place.result.now c.in-Err-size.error (g.D.Desk.told c.args.desk.now).files (g.D.Desk.told c.size.new.self).files
    (subst P (sym c.view-place.ensures) c.in-Ok.ensures.0) c.in-Err-size.ensures.files c.in-Err-size.ensures.told))

pub returns-in-Ok-copy-clause-works : goal.returns-in-Ok-copy-clause-works
returns-in-Ok-copy-clause-works g c =
    let P : List ℕ → Type 0 = λ l. IsContentName c.args.directory.now (text_of c.args.key) l in
    record {
      word = refl;
      prepared = λ e. cc;
      text = c.in-Ok.ensures.1;
      causes = causes_same_done (g.D.Desk.told c.args.desk.now).counts (g.D.Desk.told c.copy.new.desk).counts (c.in-Ok-copy.ensures.causes.done ∙ c.in_default.ensures.causes.done);
      files_do = retrieve_done c.args.directory.now (text_of c.args.key) c.args.file.now c.view-place.result.now (g.D.Desk.told c.args.desk.now).files (g.D.Desk.told c.size.new.self).files (g.D.Desk.told c.copy.new.desk).files
          (subst P (sym c.view-place.ensures) c.in-Ok.ensures.0) c.in_default.ensures.files c.in-Ok-copy.ensures.others c.in-Ok-copy.ensures.copied;
    }

pub returns-clause-works : goal.returns-clause-works
returns-clause-works g c =
    let P : List ℕ → Type 0 = λ l. IsContentName c.args.directory.now (text_of c.args.key) l in
    let W : Outcome → Type 0 = λ o. Works is_of_transfer (RetrieveDoes c.args.directory.now (text_of c.args.key) c.args.file.now) (text_of c.args.key)
    (g.D.Desk.told c.args.desk.now) (g.D.Desk.told c.copy.new.desk) o in
    subst W (sym c.refusal-in-Err-copy.ensures)
    (transfer_refused (RetrieveDoes c.args.directory.now (text_of c.args.key) c.args.file.now) (text_of c.args.key)
    (g.D.Desk.told c.args.desk.now) (g.D.Desk.told c.copy.new.desk) c.in-Err-copy.error
    c.in-Ok.ensures.1
    (refused_copy false (g.D.Desk.told c.args.desk.now).counts (g.D.Desk.told c.copy.new.desk).counts c.in-Err-copy.error (behind false (g.D.Desk.told c.args.desk.now).counts (g.D.Desk.told c.size.new.self).counts (g.D.Desk.told c.copy.new.desk).counts (Err c.in-Err-copy.error) c.in_default.ensures.causes.done c.in-Err-copy.ensures.causes))
    (retrieve_uncopied c.args.directory.now (text_of c.args.key) c.args.file.now c.view-place.result.now c.in_default.field-0 c.in-Err-copy.error (g.D.Desk.told c.args.desk.now).files (g.D.Desk.told c.size.new.self).files (g.D.Desk.told c.copy.new.desk).files
    (subst P (sym c.view-place.ensures) c.in-Ok.ensures.0) c.in_default.ensures.files c.in_default.ensures.told c.in-Err-copy.ensures.others c.in-Err-copy.ensures.copied))

pub returns-in-Err-size-clause-calm : goal.returns-in-Err-size-clause-calm
returns-in-Err-size-clause-calm g c = rw c.refusal.ensures (calm_refused false (g.D.Desk.told c.args.desk.now).counts (g.D.Desk.told c.size.new.self).counts c.in-Err-size.error c.in-Err-size.ensures.causes c.in-Err-size.ensures.apart)

pub returns-in-Ok-copy-clause-calm : goal.returns-in-Ok-copy-clause-calm
returns-in-Ok-copy-clause-calm g c = calm_same false (g.D.Desk.told c.args.desk.now).counts (g.D.Desk.told c.copy.new.desk).counts O.Done (c.in-Ok-copy.ensures.causes.done ∙ c.in_default.ensures.causes.done)

pub returns-clause-calm : goal.returns-clause-calm
returns-clause-calm g c = rw c.refusal-in-Err-copy.ensures (calm_copy false (g.D.Desk.told c.args.desk.now).counts (g.D.Desk.told c.copy.new.desk).counts c.in-Err-copy.error (behind false (g.D.Desk.told c.args.desk.now).counts (g.D.Desk.told c.size.new.self).counts (g.D.Desk.told c.copy.new.desk).counts (Err c.in-Err-copy.error) c.in_default.ensures.causes.done c.in-Err-copy.ensures.causes))

pub returns-in-Err-clause-traced : goal.returns-in-Err-clause-traced
returns-in-Err-clause-traced g c = traced_none (Each (IsRetrieveCall c.args.directory.now (text_of c.args.key) c.args.file.now)) (g.D.Desk.told c.args.desk.now).log tt

pub returns-in-Err-clause-calm : goal.returns-in-Err-clause-calm
returns-in-Err-clause-calm g c = calm_same false (g.D.Desk.told c.args.desk.now).counts (g.D.Desk.told c.args.desk.now).counts c.in-Err.outcome refl

pub returns-in-Err-size-clause-traced : goal.returns-in-Err-size-clause-traced
returns-in-Err-size-clause-traced g c =
    let P : List ℕ → Type 0 = λ l. IsContentName c.args.directory.now (text_of c.args.key) l in
    traced_one (IsRetrieveCall c.args.directory.now (text_of c.args.key) c.args.file.now) _ _ (Size c.view-place.result.now (Err c.in-Err-size.error)) c.in-Err-size.ensures.log (subst P (sym c.view-place.ensures) c.in-Ok.ensures.0)

pub returns-in-Ok-copy-clause-traced : goal.returns-in-Ok-copy-clause-traced
returns-in-Ok-copy-clause-traced g c =
    let P : List ℕ → Type 0 = λ l. IsContentName c.args.directory.now (text_of c.args.key) l in
    retrieve_traced c.args.directory.now (text_of c.args.key) c.args.file.now c.view-place.result.now (Ok c.in_default.field-0) (Ok tt) (g.D.Desk.told c.args.desk.now).log (g.D.Desk.told c.size.new.self).log (g.D.Desk.told c.copy.new.desk).log (subst P (sym c.view-place.ensures) c.in-Ok.ensures.0) c.in_default.ensures.log c.in-Ok-copy.ensures.traced

pub returns-clause-traced : goal.returns-clause-traced
returns-clause-traced g c =
    let P : List ℕ → Type 0 = λ l. IsContentName c.args.directory.now (text_of c.args.key) l in
    retrieve_traced c.args.directory.now (text_of c.args.key) c.args.file.now c.view-place.result.now (Ok c.in_default.field-0) (Err c.in-Err-copy.error) (g.D.Desk.told c.args.desk.now).log (g.D.Desk.told c.size.new.self).log (g.D.Desk.told c.copy.new.desk).log (subst P (sym c.view-place.ensures) c.in-Ok.ensures.0) c.in_default.ensures.log c.in-Err-copy.ensures.traced
