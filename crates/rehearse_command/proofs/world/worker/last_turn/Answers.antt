use Rattle.std.proofs.Common.{ℕ, ◌≡◌, ◌-◌, ◌<◌, length, Some, sym, ap, ◌∙◌, arith}
use Rattle.std.specs.Prelude.{slice_get}
use Rattle.journal_scan.specs.Shown.{entry_shown}
use Rattle.rehearse_command.proofs.WorldLemmas.Turns.{turn_found, turn_before}
use Rattle.rehearse_command.proofs.world.worker.last_turn.Goals as goal

pub returns-in-Some-turn_in : goal.returns-in-Some-turn_in
returns-in-Some-turn_in c =
    let entries = c.args.journal.now.entries in
    let within : c.entries.back < length entries = omega (arith, c.entries-test.true, c.len-len.ensures) in
    sym (turn_found c.args.child c.entries.back entries (entry_shown c.in-Some.entry) c.in-Some-turn_in.turn within
    (ap (λ (n : ℕ). slice_get entries (n - 1 - c.entries.back)) (sym c.len-len.ensures) ∙ sym c.in-Some.ensures) (sym c.in-Some-turn_in.ensures) c.entries.invariant)

pub entries-preserved : goal.entries-preserved
entries-preserved c =
    let entries = c.args.journal.now.entries in
    let within : c.entries.back < length entries = omega (arith, c.entries-test.true, c.len-len.ensures) in
    turn_before c.args.child c.entries.back entries (entry_shown c.in-Some.entry) within
    (ap (λ (n : ℕ). slice_get entries (n - 1 - c.entries.back)) (sym c.len-len.ensures) ∙ sym c.in-Some.ensures) (sym c.in_default-turn_in.ensures) c.entries.invariant
