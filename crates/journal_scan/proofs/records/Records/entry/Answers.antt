use Rattle.std.proofs.Common.{◌≡◌, List, Some, None, slice_get, option_map, sym, ap, ◌∙◌}
use Rattle.std.proofs.lemmas.Option.{slice_get-map}
use Rattle.journal_scan.specs.declared.record.Record.{Record}
use Rattle.journal_scan.specs.Kept.{entry_kept, what_kept}
use Rattle.journal_scan.proofs.records.Records.entry.Goals as goal

pub returns-in-Some : goal.returns-in-Some
returns-in-Some c =
    let old = c.self.inside in
    let f = entry_kept old.lines.lines old.digests.items in
    (λ i. Some (record { by = c.in-Some.record.by; what = c.lent.ensures i }))
    ∙ (λ i. Some (record { by = c.in-Some.record.by; what = what_kept old.lines.lines (c.as_slice-in-Some.ensures.value i) c.in-Some.record.what }))
    ∙ ap (option_map f) (c.in-Some.ensures ∙ ap (λ (rs : List Record). slice_get rs c.args.at) c.as_slice.ensures.value)
    ∙ sym (slice_get-map f old.records.items c.args.at)
    ∙ ap (λ v. slice_get v.entries c.args.at) c.self.view_is

pub returns-in-None : goal.returns-in-None
returns-in-None c =
    let old = c.self.inside in
    let f = entry_kept old.lines.lines old.digests.items in
    ap (option_map f) (c.in-None.ensures ∙ ap (λ (rs : List Record). slice_get rs c.args.at) c.as_slice.ensures.value)
    ∙ sym (slice_get-map f old.records.items c.args.at)
    ∙ ap (λ v. slice_get v.entries c.args.at) c.self.view_is
