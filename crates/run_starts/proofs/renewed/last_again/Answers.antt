use Rattle.std.proofs.Common.{◌≡◌, ◌-◌, ◌<◌, sym, subst, ℕ, length, ap, ◌∙◌, Option}
use Rattle.std.specs.Prelude.{option_map, slice_get}
use Rattle.journal_model.specs.declared.entry.Entry.{Entry}
use Rattle.journal_scan.specs.Shown.{entry_shown}
use Rattle.run_starts.proofs.LastAgain.{found_last, still_none}
use Rattle.run_starts.proofs.renewed.last_again.Goals as goal

pub returns-in-Some : goal.returns-in-Some
returns-in-Some c =
    let xs = c.args.journal.now.entries in
    let n : c.len-len.result ≡ length xs = c.len-len.ensures in
    let within : c.entries.back < length xs = subst (λ (k : ℕ). c.entries.back < k) n c.entries-test.true in
    sym (found_last xs c.args.task c.entries.back within c.entry.result (c.entry.ensures ∙ ap (λ (k : ℕ). slice_get xs (k - 1 - c.entries.back)) n)
    c.again_of.result c.again_of.ensures c.entries.invariant c.in-Some.answer c.in-Some.is)

pub entries-preserved : goal.entries-preserved
entries-preserved c =
    let xs = c.args.journal.now.entries in
    let n : c.len-len.result ≡ length xs = c.len-len.ensures in
    let within : c.entries.back < length xs = subst (λ (k : ℕ). c.entries.back < k) n c.entries-test.true in
    still_none xs c.args.task c.entries.back within c.entry.result (c.entry.ensures ∙ ap (λ (k : ℕ). slice_get xs (k - 1 - c.entries.back)) n)
    c.again_of.result c.again_of.ensures c.entries.invariant c.in-None.is
