-- The line of a request in its turn is read back as that request.
use Rattle.std.proofs.Common.{◌≡◌, ◌∙◌, ℕ, ◌<◌, ◌≤◌, ◌^◌, List, [], ◌∷◌, refl, ap, Bool, true, false, cond, Option, Some, None, arith, length}
use Rattle.std.specs.Prelude.{◌&&◌, bytes_eq}
use Rattle.std.specs.List.{cons_option}
use Rattle.std.proofs.lemmas.Slice.Eq.{bytes_eq-Decides}
use Rattle.annex_model.specs.Messages.{HostMessage, host_line, host_reading, is_askable}
use Rattle.annex_model.specs.Tags.{untag, tagged_line}
use Rattle.annex_model.proofs.Readings.{canonical_read}
use Rattle.annex_model.proofs.Classes.{test_askable}
use Rattle.annex_model.proofs.TagReadings.{untag_of_tagged}
use Rattle.journal_model.specs.declared.entry.Entry.{Entry}
use Rattle.journal_model.specs.Journal.{asks, asked_jobs, is_tagged, by_tag, addressed, on_wire, open_jobs, first_of}
use Rattle.journal_model.specs.Legality.{is_in_turn, asks_in_turn}
use Rattle.host_core.specs.Steps.{next_job}

-- ---- a request in its turn

pub wired_text : (past : List Entry) (c j : ℕ) (message : List ℕ) → j < 2 ^ 64 → (addressed past c (on_wire past c j message)).1 ≡ message
wired_text past c j message h = go (is_tagged past c)
  where
    go : (b : Bool) → (cond {A = Option ℕ × List ℕ} b (by_tag (cond b (tagged_line j message) message) (untag (cond b (tagged_line j message) message)))
        (first_of (open_jobs past c), cond b (tagged_line j message) message)).1 ≡ message
    go true = ap (λ (t : Option (ℕ × List ℕ)). (by_tag (tagged_line j message) t).1) (untag_of_tagged j message h)
    go false = refl

pub wired_turn : (past : List Entry) (c j : ℕ) (q : HostMessage) → j < 2 ^ 64 → is_in_turn past c j q ≡ true → is_askable q ≡ true
    → asks_in_turn past c j (on_wire past c j (host_line q)) (host_reading (addressed past c (on_wire past c j (host_line q))).1) ≡ true
wired_turn past c j q h turn ask =
    let line = on_wire past c j (host_line q) in
    let read : host_reading (addressed past c line).1 ≡ Some q = ap host_reading (wired_text past c j (host_line q) h) ∙ canonical_read q (test_askable q ask) in
    let own : (is_in_turn past c j q && bytes_eq line line) ≡ true = rw (turn, (bytes_eq-Decides line line).1 refl) refl in
    ap (asks_in_turn past c j line) read ∙ own

-- a child has no more jobs than the journal has entries
pub few_jobs : (past : List Entry) (c : ℕ) → next_job past c ≤ length past
few_jobs [] c = omega arith
few_jobs (e ∷ past) c = go (asks c e.what) (few_jobs past c)
  where
    go : (o : Option ℕ) → next_job past c ≤ length past → length (cons_option o (asked_jobs past c)) ≤ length (e ∷ past)
    go (Some j) h = omega (arith, h)
    go None h = omega (arith, h)
