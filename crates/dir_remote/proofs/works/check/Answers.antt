use Rattle.std.proofs.Common.{ℕ, List, false, refl, sym, subst, Ok, Err, IfSome}
use Rattle.ann_key.specs.KeyRefs.{text_of}
use Rattle.ann_outside.specs.DeskCauses.{HasCauses}
use Rattle.ann_outside.specs.Files.{SizeIs}
use Rattle.ann_outside.specs.declared.file_desk.DeskError.{DeskError}
use Rattle.dir_remote.specs.Contents.{IsContentName}
use Rattle.dir_remote.proofs.WorkLaws.{causes_done, causes_not_there, check_idle, check_found, check_missing}
use Rattle.ann_outside.specs.declared.file_desk.Call.TheVariants.{Size}
use Rattle.dir_remote.specs.Traces.{Each, IsCheckCall}
use Rattle.dir_remote.proofs.CauseLaws.{calm_same}
use Rattle.dir_remote.proofs.TraceLaws.{traced_none, traced_one}
use Rattle.dir_remote.proofs.works.check.Goals as goal

pub returns-in-Err-clause-works : goal.returns-in-Err-clause-works
returns-in-Err-clause-works g c =
    check_idle c.args.directory.now (text_of c.args.key) (g.D.Desk.told c.args.desk.now) c.in-Err.outcome c.in-Err.ensures

pub returns-in-Ok-size-clause-works : goal.returns-in-Ok-size-clause-works
returns-in-Ok-size-clause-works g c =
    let P : List ℕ → Type 0 = λ l. IsContentName c.args.directory.now (text_of c.args.key) l in
    record {
      word = refl;
      prepared = λ e. cc;
      text = c.in-Ok.ensures.1;
      causes = causes_done (g.D.Desk.told c.args.desk.now).counts (g.D.Desk.told c.size.new.self).counts (Ok c.in-Ok-size.field-0) c.in-Ok-size.ensures.causes;
      files_do = check_found c.args.directory.now (text_of c.args.key) c.view-place.result.now c.in-Ok-size.field-0 (g.D.Desk.told c.args.desk.now).files (g.D.Desk.told c.size.new.self).files
          (subst P (sym c.view-place.ensures) c.in-Ok.ensures.0) c.in-Ok-size.ensures.files c.in-Ok-size.ensures.told;
    }

pub returns-in-Err-Missing-clause-works : goal.returns-in-Err-Missing-clause-works
returns-in-Err-Missing-clause-works g c =
    let P : List ℕ → Type 0 = λ l. IsContentName c.args.directory.now (text_of c.args.key) l in
    let Q : DeskError → Type 0 = λ e. HasCauses {T = ℕ} (g.D.Desk.told c.args.desk.now).counts (g.D.Desk.told c.size.new.self).counts (Err e) in
    let R : DeskError → Type 0 = λ e. IfSome (g.D.Desk.told c.args.desk.now).files (λ fs. SizeIs c.view-place.result.now fs (Err e)) in
    record {
      word = refl;
      prepared = λ e. cc;
      text = c.in-Ok.ensures.1;
      causes = causes_not_there {T = ℕ} (g.D.Desk.told c.args.desk.now).counts (g.D.Desk.told c.size.new.self).counts (subst Q c.in-Err-Missing.field-0-is c.in-Err-Missing.ensures.causes);
      files_do = check_missing c.args.directory.now (text_of c.args.key) c.view-place.result.now (g.D.Desk.told c.args.desk.now).files (g.D.Desk.told c.size.new.self).files
          (subst P (sym c.view-place.ensures) c.in-Ok.ensures.0) c.in-Err-Missing.ensures.files (subst R c.in-Err-Missing.field-0-is c.in-Err-Missing.ensures.told);
    }

pub returns-in-Err-clause-traced : goal.returns-in-Err-clause-traced
returns-in-Err-clause-traced g c = traced_none (Each (IsCheckCall c.args.directory.now (text_of c.args.key))) (g.D.Desk.told c.args.desk.now).log tt

pub returns-in-Err-clause-calm : goal.returns-in-Err-clause-calm
returns-in-Err-clause-calm g c = calm_same false (g.D.Desk.told c.args.desk.now).counts (g.D.Desk.told c.args.desk.now).counts c.in-Err.outcome refl

pub returns-in-Ok-size-clause-traced : goal.returns-in-Ok-size-clause-traced
returns-in-Ok-size-clause-traced g c =
    let P : List ℕ → Type 0 = λ l. IsContentName c.args.directory.now (text_of c.args.key) l in
    traced_one (IsCheckCall c.args.directory.now (text_of c.args.key)) _ _ (Size c.view-place.result.now (Ok c.in-Ok-size.field-0)) c.in-Ok-size.ensures.log (subst P (sym c.view-place.ensures) c.in-Ok.ensures.0)

pub returns-in-Err-Missing-clause-traced : goal.returns-in-Err-Missing-clause-traced
returns-in-Err-Missing-clause-traced g c =
    let P : List ℕ → Type 0 = λ l. IsContentName c.args.directory.now (text_of c.args.key) l in
    traced_one (IsCheckCall c.args.directory.now (text_of c.args.key)) _ _ (Size c.view-place.result.now (Err c.in-Err-Missing.field-0)) c.in-Err-Missing.ensures.log (subst P (sym c.view-place.ensures) c.in-Ok.ensures.0)

pub returns-in-Err-Failed-clause-traced : goal.returns-in-Err-Failed-clause-traced
returns-in-Err-Failed-clause-traced g c =
    let P : List ℕ → Type 0 = λ l. IsContentName c.args.directory.now (text_of c.args.key) l in
    traced_one (IsCheckCall c.args.directory.now (text_of c.args.key)) _ _ (Size c.view-place.result.now (Err c.in-Err-Failed.field-0)) c.in-Err-Failed.ensures.log (subst P (sym c.view-place.ensures) c.in-Ok.ensures.0)

pub returns-clause-traced : goal.returns-clause-traced
returns-clause-traced g c =
    let P : List ℕ → Type 0 = λ l. IsContentName c.args.directory.now (text_of c.args.key) l in
    traced_one (IsCheckCall c.args.directory.now (text_of c.args.key)) _ _ (Size c.view-place.result.now (Err c.in-Err-NoMemory.field-0)) c.in-Err-NoMemory.ensures.log (subst P (sym c.view-place.ensures) c.in-Ok.ensures.0)
