use Rattle.std.proofs.Common.{◌∙◌, sym, subst, ap, List, ℕ}
use Rattle.std.specs.Str.{IsUtf8}
use Rattle.ann_key.specs.KeyRefs.{parts_of}
use Rattle.ann_digest.specs.Directories.{lower_of}
use Rattle.dir_remote.specs.Contents.{place_of}
use Rattle.dir_remote.proofs.PlaceLaws.{lower_text, base_of}
use Rattle.dir_remote.proofs.places.content_place.Goals as goal

pub unreachable-requires : goal.unreachable-requires
unreachable-requires c =
    let base = base_of c.args.key in
    let P : List ℕ → Type 0 = λ l. IsUtf8 l in
    c.in_default.ensures.cases.0 (subst P (sym (c.lower-folder.ensures base.0 base.1)) (lower_text base.0))

pub returns-in-Ok-place : goal.returns-in-Ok-place
returns-in-Ok-place c =
    let base = base_of c.args.key in
    let folder = c.in-Ok.ensures.cases.0 ∙ c.lower-folder.ensures base.0 base.1 in
    let file = c.view.ensures ∙ c.in_ok-file.ensures.0 in (
      record {
        parts = parts_of c.args.key;
        read = c.args.key.spelled;
        base = base.0;
        base_is = base.1;
        whole =
            c.in-Ok-place.ensures
            ∙ ap (λ l. place_of c.args.directory.now l c.view.result.now) folder
            ∙ ap (λ f. place_of c.args.directory.now (lower_of base.0) f) file;
      },
      c.in_ok-file.ensures.1,
    )
