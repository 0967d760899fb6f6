use Rattle.std.proofs.Common.{◌≡◌, ◌+◌, ◌-◌, ◌<◌, ◌≤◌, List, [], ◌∷◌, ◌++◌, length, map, sym, ap, subst, vec_capacity, ◌∙◌, arith}
use Rattle.std.proofs.lemmas.List.{map-append}
use Rattle.journal_scan.specs.Tables.Lines.{total}
use Rattle.journal_model.specs.Journal.{line_bytes}
use Rattle.journal_model.specs.declared.entry.Entry.{Entry}
use Rattle.journal_scan.specs.declared.record.Record.{Record}
use Rattle.journal_scan.specs.Kept.{AreRecords, entry_kept}
use Rattle.journal_scan.proofs.Keeping.{bytes_with, entries_same, few_kept, fits_kept, records_pushed}
use Rattle.journal_scan.proofs.records.Records.push.Goals as goal

pub keep-kept-requires-clause-line : goal.keep-kept-requires-clause-line
keep-kept-requires-clause-line c =
    let old = c.self.inside in
    let few = few_kept old.records.items (entry_kept old.lines.lines old.digests.items) _ _ old.room (ap (λ v. v.entries) c.self.view_is) (ap (λ v. v.room) c.self.view_is) c.requires.room in
    let roomy = c.self.invariant.for_lines in
    omega (arith, few, roomy)

pub keep-kept-requires-clause-bytes : goal.keep-kept-requires-clause-bytes
keep-kept-requires-clause-bytes c =
    let old = c.self.inside in
    fits_kept (total old.lines.lines) old.lines.space (line_bytes c.args.entry.what) _ c.self.invariant.bytes (ap (λ v. v.spare) c.self.view_is) c.requires.spare

pub keep-kept-requires-clause-digest : goal.keep-kept-requires-clause-digest
keep-kept-requires-clause-digest c =
    let old = c.self.inside in
    let few = few_kept old.records.items (entry_kept old.lines.lines old.digests.items) _ _ old.room (ap (λ v. v.entries) c.self.view_is) (ap (λ v. v.room) c.self.view_is) c.requires.room in
    let roomy = c.self.invariant.for_digests in
    let many = old.digests.ok.0 in
    omega (arith, few, roomy, many)

pub invariant_of-self : goal.invariant_of-self
invariant_of-self c =
    let old = c.self.inside in
    let few = few_kept old.records.items (entry_kept old.lines.lines old.digests.items) _ _ old.room (ap (λ v. v.entries) c.self.view_is) (ap (λ v. v.room) c.self.view_is) c.requires.room in
    let fits = fits_kept (total old.lines.lines) old.lines.space (line_bytes c.args.entry.what) _ c.self.invariant.bytes (ap (λ v. v.spare) c.self.view_is) c.requires.spare in
    let r : Record = record { by = c.args.entry.by; what = c.keep-kept.result } in
    let pushed : c.push.new.self.items ≡ old.records.items ++ r ∷ [] = c.in-Ok.ensures.items in
    subst (λ (rs : List Record). AreRecords rs c.keep-kept.new.lines c.keep-kept.new.digests.items old.room (vec_capacity c.push.new.self) (vec_capacity c.keep-kept.new.digests)) (sym pushed)
    (records_pushed old.records.items old.lines c.keep-kept.new.lines old.digests.items c.keep-kept.new.digests.items old.room _ _ _ _ c.args.entry.what r c.self.invariant
    (record { line_is = c.keep-kept.ensures.lines; digest_is = c.keep-kept.ensures.digests; room_is = c.keep-kept.ensures.room.0; space_is = c.keep-kept.ensures.room.1 })
    few fits c.push.ensures.capacity c.keep-kept.ensures.room.2 c.keep-kept.ensures.kept.within)

pub returns-clause-entries : goal.returns-clause-entries
returns-clause-entries c =
    let old = c.self.inside in
    let r : Record = record { by = c.args.entry.by; what = c.keep-kept.result } in
    let lines = c.keep-kept.new.lines.lines in
    let digests = c.keep-kept.new.digests.items in
    ap (map (entry_kept lines digests)) c.in-Ok.ensures.items
    ∙ map-append (entry_kept lines digests) old.records.items (r ∷ [])
    ∙ (λ i. map (entry_kept (c.keep-kept.ensures.lines i) (c.keep-kept.ensures.digests i)) old.records.items ++ record { by = c.args.entry.by; what = c.keep-kept.ensures.kept.says i } ∷ [])
    ∙ ap (λ (es : List Entry). es ++ c.args.entry ∷ []) (entries_same old.lines.lines old.digests.items c.args.entry.what old.records.items c.self.invariant.within ∙ ap (λ v. v.entries) c.self.view_is)

pub returns-clause-spare : goal.returns-clause-spare
returns-clause-spare c =
    let old = c.self.inside in
    let heavy : total c.keep-kept.new.lines.lines ≡ total old.lines.lines + line_bytes c.args.entry.what = ap total c.keep-kept.ensures.lines ∙ bytes_with old.lines.lines c.args.entry.what in
    let space = c.keep-kept.ensures.room.1 in
    let spare = ap (λ v. v.spare) c.self.view_is in
    omega (arith, heavy, space, spare)
