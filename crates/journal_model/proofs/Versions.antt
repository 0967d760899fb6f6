-- A live child that has spoken said its version first.
use Rattle.std.proofs.Common.{◌≡◌, ℕ, List, [], ◌∷◌, ◌++◌, refl, sym, ap, subst, ◌∙◌, length, Bool, true, false, not, ◌==◌, cond, Some, None}
use Rattle.std.specs.Prelude.{◌||◌}
use Rattle.std.specs.List.{cons_option, list_all}
use Rattle.journal_model.specs.declared.verdict.Why.{Why}
use Rattle.journal_model.specs.declared.verdict.Why.TheVariants.{Error as ErrorAt, Version as VersionFault}
use Rattle.journal_model.specs.declared.verdict.Verdict.TheVariants.{Ended}
use Rattle.annex_model.specs.Messages.{remote_reading}
use Rattle.journal_model.specs.declared.entry.What.{What}
use Rattle.journal_model.specs.declared.entry.What.TheVariants.{Put, Mute, Got, End, Verdict as Settled}
use Rattle.journal_model.specs.declared.entry.Entry.{Entry}
use Rattle.journal_model.specs.declared.opening.Opening.{Opening}
use Rattle.journal_model.specs.Journal.{first_of, line_from, ends, got_from, has_spoken, got_lines, is_ended, addressed, open_jobs}
use Rattle.journal_model.specs.Due.{after_line, due_by, due_by_got, due_after, ending, made_by, is_error, is_version_one}
use Rattle.journal_model.specs.Legality.{Legal, said_version}
use Rattle.journal_model.proofs.Growing.{Legal-induction}
use Rattle.journal_model.proofs.Looks.{each_of-append, any-append, silent_lines}
use Rattle.journal_model.proofs.Soft.{is_soft, soft_got, soft_mute, soft_verdicts}
use Rattle.std.proofs.lemmas.Bool.{and_parts as both, eqb-true as same_number}
use Rattle.ann_key.proofs.Numbers.{same_number as same}
use Rattle.ann_key.proofs.Booleans.{true_and_false as true_not_false, left_false as either_left, right_false as either_right}

-- an entry with what it makes due
abbrev group_of : Opening → List Entry → ℕ → What → List Entry
group_of o past by w = record { by = by; what = w } ∷ due_after o past (record { by = by; what = w })

own : (b : Bool) (line : List ℕ) (rest : List (List ℕ)) → b ≡ true → first_of (cons_option (cond b (Some line) None) rest) ≡ Some line
own true line rest e = refl
own false line rest e = absurd cc

said : (journal : List Entry) (c : ℕ) (line : List ℕ) → first_of (got_lines journal c) ≡ Some line → said_version journal c ≡ is_version_one (remote_reading line)
said journal c line e = rw e refl

-- any other first line ends the child
other_ends : (o : Opening) (past : List Entry) (by c : ℕ) (line : List ℕ) → has_spoken past c ≡ false → is_version_one (remote_reading line) ≡ false
    → is_ended (group_of o past by (Got c line)) c ≡ true
other_ends o past by c line silent other = go (is_error (remote_reading (addressed past c line).1))
  where
    late : List What
    late = after_line o past c (addressed past c line).0 (remote_reading (addressed past c line).1)

    fault : (why : Why) → is_ended (made_by by (Got c line ∷ ending past c why)) c ≡ true
    fault why = rw (same c) refl

    go : (b : Bool) → is_ended (made_by by (Got c line ∷ cond b (ending past c (ErrorAt (length past)))
        (cond (not (has_spoken past c)) (cond (is_version_one (remote_reading line)) [] (ending past c (VersionFault (length past)))) late))) c ≡ true
    go true = fault (ErrorAt (length past))
    go false = rw (silent, other) (fault (VersionFault (length past)))

first_is : (o : Opening) (past : List Entry) (by c : ℕ) (line : List ℕ) → has_spoken past c ≡ false → first_of (got_lines (past ++ group_of o past by (Got c line)) c) ≡ Some line
first_is o past by c line silent =
    let group : List Entry = group_of o past by (Got c line) in
    ap first_of (each_of-append (line_from c) past group)
    ∙ ap (λ (ls : List (List ℕ)). first_of (ls ++ got_lines group c)) (silent_lines past c silent)
    ∙ own (c == c) line (got_lines (made_by by (due_by_got o past c line)) c) (same c)

version_heard : (o : Opening) (past : List Entry) (by c : ℕ) (line : List ℕ) → has_spoken past c ≡ false → is_ended (past ++ group_of o past by (Got c line)) c ≡ false
    → said_version (past ++ group_of o past by (Got c line)) c ≡ true
version_heard o past by c line silent live = go (is_version_one (remote_reading line)) refl
  where
    new : List Entry
    new = past ++ group_of o past by (Got c line)

    go : (b : Bool) → is_version_one (remote_reading line) ≡ b → said_version new c ≡ true
    go true e = said new c line (first_is o past by c line silent) ∙ e
    go false e =
        true_not_false (is_ended (group_of o past by (Got c line)) c) (other_ends o past by c line silent e)
        (either_right (is_ended past c) (is_ended (group_of o past by (Got c line)) c) (sym (any-append (ends c) past (group_of o past by (Got c line))) ∙ live))

soft_silent : (by c : ℕ) (ws : List What) → list_all is_soft ws ≡ true → has_spoken (made_by by ws) c ≡ false
soft_silent by c [] h = refl
soft_silent by c (Settled child job verdict ∷ ws) h = soft_silent by c ws h
soft_silent by c (Put child job line ∷ ws) h = soft_silent by c ws h
soft_silent by c (End child why ∷ ws) h = soft_silent by c ws (both (is_soft (End child why)) (list_all is_soft ws) h).1
soft_silent by c (w ∷ ws) h = absurd cc

due_silent : (o : Opening) (past : List Entry) (by c : ℕ) (w : What) → has_spoken (made_by by (due_by o past w)) c ≡ false
due_silent o past by c (Got child line) = soft_silent by c (due_by_got o past child line) (soft_got o past child line)
due_silent o past by c (End child why) = soft_silent by c (due_by o past (End child why)) (soft_verdicts child (Ended why) (open_jobs past child))
due_silent o past by c (Mute child) = soft_silent by c (due_by o past (Mute child)) (soft_mute o past child)
due_silent o past by c w = refl

pub none_spoke : (past : List Entry) (c : ℕ) → got_lines past c ≡ [] → has_spoken past c ≡ false
none_spoke [] c h = refl
none_spoke (e ∷ past) c h = step e.what h (none_spoke past c)
  where
    step : (w : What) → cons_option (line_from c w) (got_lines past c) ≡ [] → (got_lines past c ≡ [] → has_spoken past c ≡ false) → (got_from c w || has_spoken past c) ≡ false
    step (Got child line) h r = go (child == c) h
      where
        go : (b : Bool) → cons_option (cond b (Some line) None) (got_lines past c) ≡ [] → (b || has_spoken past c) ≡ false
        go true h = absurd cc
        go false h = r h
    step w h r = r h

-- what was said first stays the first
version_on : (past more : List Entry) (c : ℕ) → has_spoken past c ≡ true → said_version past c ≡ true → said_version (past ++ more) c ≡ true
version_on past more c spoken v = go (got_lines past c) refl
  where
    go : (ls : List (List ℕ)) → got_lines past c ≡ ls → said_version (past ++ more) c ≡ true
    go [] e = true_not_false (has_spoken past c) spoken (none_spoke past c e)
    go (l ∷ ls) e =
        let before : is_version_one (remote_reading l) ≡ true = sym (said past c l (ap first_of e)) ∙ v in
        said (past ++ more) c l (ap first_of (each_of-append (line_from c) past more) ∙ ap (λ (x : List (List ℕ)). first_of (x ++ got_lines more c)) e) ∙ before

abbrev Spoke : List Entry → Type 0
Spoke past = (c : ℕ) → has_spoken past c ≡ true → is_ended past c ≡ false → said_version past c ≡ true

spoke_more : (o : Opening) (past : List Entry) (by : ℕ) (w : What) → Spoke past → Spoke (past ++ group_of o past by w)
spoke_more o past by w before c spoken live = go (has_spoken past c) refl
  where
    group : List Entry
    group = group_of o past by w

    alive : is_ended past c ≡ false
    alive = either_left (is_ended past c) (is_ended group c) (sym (any-append (ends c) past group) ∙ live)

    now : has_spoken past c ≡ false → (got_from c w || has_spoken (made_by by (due_by o past w)) c) ≡ true
    now silent = ap (λ (b : Bool). b || (got_from c w || has_spoken (made_by by (due_by o past w)) c)) (sym silent) ∙ sym (any-append (got_from c) past group) ∙ spoken

    by_what : (v : What) → w ≡ v → has_spoken past c ≡ false → (got_from c v || has_spoken (made_by by (due_by o past v)) c) ≡ true → said_version (past ++ group_of o past by v) c ≡ true
    by_what (Got child line) e silent h = by_child (child == c) refl
      where
        by_child : (b : Bool) → (child == c) ≡ b → said_version (past ++ group_of o past by (Got child line)) c ≡ true
        by_child true t =
            let is : child ≡ c = same_number child c t in
            let live' : is_ended (past ++ group_of o past by (Got child line)) c ≡ false = ap (λ (x : What). is_ended (past ++ group_of o past by x) c) (sym e) ∙ live in
            subst (λ (k : ℕ). is_ended (past ++ group_of o past by (Got k line)) c ≡ false → said_version (past ++ group_of o past by (Got k line)) c ≡ true) (sym is)
            (version_heard o past by c line silent) live'
        by_child false t = true_not_false (has_spoken (made_by by (due_by_got o past child line)) c) (rw t at h) (due_silent o past by c (Got child line))
    by_what v e silent h = true_not_false (has_spoken (made_by by (due_by o past v)) c) h (due_silent o past by c v)

    go : (b : Bool) → has_spoken past c ≡ b → said_version (past ++ group) c ≡ true
    go true e = version_on past group c e (before c e alive)
    go false e = by_what w refl e (now e)

pub spoke_version : (o : Opening) (journal : List Entry) → Legal o journal → (c : ℕ) → has_spoken journal c ≡ true → is_ended journal c ≡ false → said_version journal c ≡ true
spoke_version o journal legal =
    Legal-induction o Spoke (λ c h live. absurd cc) (λ past e l before may. spoke_more o past e.by e.what before) journal legal
