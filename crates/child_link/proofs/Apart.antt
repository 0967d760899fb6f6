-- What a child says makes entries of that child alone.
use Rattle.std.proofs.Common.{◌≡◌, ℕ, List, [], ◌∷◌, refl, Bool, true, false, cond, not, ◌||◌, Some}
use Rattle.std.specs.List.{list_all}
use Rattle.annex_model.specs.Lines.{has_newline}
use Rattle.journal_model.specs.declared.verdict.Why.TheVariants.{Full}
use Rattle.journal_model.specs.declared.entry.What.{What}
use Rattle.journal_model.specs.declared.entry.What.TheVariants.{Got, End}
use Rattle.journal_model.specs.declared.entry.Entry.{Entry}
use Rattle.journal_model.specs.declared.opening.Opening.{Opening}
use Rattle.journal_model.specs.Journal.{is_started, is_ended, is_full}
use Rattle.journal_model.specs.Due.{due_by, made_by}
use Rattle.journal_model.specs.Shares.{by_ear}
use Rattle.host_core.specs.Steps.{append, gone, odd, only, step_of}
use Rattle.host_core.specs.declared.event.Event.TheVariants.{Got as GotEvent}
use Rattle.host_core.specs.declared.event.Reply.TheVariants.{Done, Gone}
use Rattle.child_link.proofs.Ears.{ending_by_ear, got_by_ear}
use Rattle.std.proofs.lemmas.Bool.{and_parts as both}

are_of : (n c : ℕ) (ws : List What) → list_all (by_ear c) ws ≡ true → list_all (λ (e : Entry). by_ear c e.what) (made_by n ws) ≡ true
are_of n c [] h = refl
are_of n c (w ∷ ws) h = (let t = both (by_ear c w) (list_all (by_ear c) ws) h in rw (t.0, are_of n c ws t.1) refl)

gots_apart : (o : Opening) (past : List Entry) (by c : ℕ) (line : List ℕ) (started newline ended full : Bool)
    → list_all (λ (e : Entry). by_ear c e.what)
    (cond (not started || newline) odd (cond ended (only (gone past c)) (cond full (append o past by (End c Full) (Gone (Some Full))) (append o past by (Got c line) Done)))).group
    ≡ true
gots_apart o past by c line false newline ended full = refl
gots_apart o past by c line true true ended full = refl
gots_apart o past by c line true false true full = refl
gots_apart o past by c line true false false true = are_of by c (End c Full ∷ due_by o past (End c Full)) (ending_by_ear past c Full refl)
gots_apart o past by c line true false false false = are_of by c (Got c line ∷ due_by o past (Got c line)) (got_by_ear o past c line)

pub got_apart : (o : Opening) (past : List Entry) (by c : ℕ) (line : List ℕ) → list_all (λ (e : Entry). by_ear c e.what) (step_of o past by (GotEvent c line)).group ≡ true
got_apart o past by c line = gots_apart o past by c line (is_started past c) (has_newline line) (is_ended past c) (is_full past)
