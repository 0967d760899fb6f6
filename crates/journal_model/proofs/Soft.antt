-- A stretch of verdicts, of replies, and of an end by a line leaves a child's lines as they were.
use Rattle.std.proofs.Common.{◌≡◌, ℕ, List, [], ◌∷◌, refl, sym, ap, subst, ◌∙◌, Bool, true, false, not, cond, Some, None, Option, length}
use Rattle.std.specs.Prelude.{◌==◌, map, filter, option_and_then, find}
use Rattle.std.specs.List.{list_all}
use Rattle.journal_model.specs.declared.verdict.Why.{Why}
use Rattle.journal_model.specs.declared.verdict.Why.TheVariants.{Foul, Error as ErrorAt, Version as VersionFault}
use Rattle.journal_model.specs.declared.verdict.Verdict.{Verdict}
use Rattle.journal_model.specs.declared.verdict.Verdict.TheVariants.{Ended, Unsent}
use Rattle.annex_model.specs.declared.final_line.Final.{Final}
use Rattle.annex_model.specs.Messages.{RemoteMessage, remote_reading}
use Rattle.journal_model.specs.declared.entry.What.{What}
use Rattle.journal_model.specs.declared.entry.What.TheVariants.{Put, Mute, End, Verdict as Settled}
use Rattle.journal_model.specs.declared.entry.Entry.{Entry}
use Rattle.journal_model.specs.declared.opening.Opening.{Opening}
use Rattle.journal_model.specs.Journal.{any, sends, mutes, ends, end_why, why_of, got_lines, has_spoken, open_jobs, is_open, is_live, is_unsent, addressed}
use Rattle.journal_model.specs.Parts.{part}
use Rattle.journal_model.specs.Due.{verdict_at, ending, foul, replies, replies_said, replying, due_by, due_by_got, after_hearing, after_late, after_message, after_line, is_passed, is_error, is_version_one, made_by}
use Rattle.annex_model.specs.Hearings.{Hearing, Aside, Part, Settles, Strange, hearing}
use Rattle.std.proofs.lemmas.Bool.{and_parts as both}

-- a line was due to end the child
abbrev pub is_soft_why : Why → Bool
is_soft_why (Foul at) = true
is_soft_why (ErrorAt at) = true
is_soft_why (VersionFault at) = true
is_soft_why _ = false

abbrev pub is_soft : What → Bool
is_soft (Settled child job verdict) = true
is_soft (Put child job line) = true
is_soft (End child why) = is_soft_why why
is_soft _ = false

-- ---- what a line makes due

-- What holds of nothing, of an end of the child that a line brings, of the verdict of one open job, and of replies in one, holds of
-- what a line makes due.
module _ (P : List What → Type 0) (o : Opening) (past : List Entry) (c : ℕ) (line : List ℕ)
    (nothing : P []) (stop : (why : Why) → is_soft_why why ≡ true → P (ending past c why))
    (verdict : (j : ℕ) (f : Final) → is_open past c j ≡ true → P (Settled c j (verdict_at f (length past)) ∷ []))
    (answer : (j : ℕ) (lines : List (List ℕ)) → is_open past c j ≡ true → (addressed past c line).0 ≡ Some j
    → lines ≡ replies_said o past (remote_reading (addressed past c line).1) → P (replying past c j lines)) where
  foul_case : P (foul past c)
  foul_case = stop (Foul (length past)) refl

  quiet_or_foul : (b : Bool) → P (cond b [] (foul past c))
  quiet_or_foul true = nothing
  quiet_or_foul false = foul_case

  hearing_case : (j : ℕ) (m : RemoteMessage) (h : Hearing) → is_open past c j ≡ true → (addressed past c line).0 ≡ Some j
      → remote_reading (addressed past c line).1 ≡ Some m → P (after_hearing o past c j m h)
  hearing_case j m Aside opened for spelled = answer j (replies o past m) opened for (sym (ap (replies_said o past) spelled))
  hearing_case j m Part opened for spelled = nothing
  hearing_case j m (Settles f) opened for spelled = verdict j f opened
  hearing_case j m Strange opened for spelled = foul_case

  message_case : (job : Option ℕ) (m : RemoteMessage) → (addressed past c line).0 ≡ job → remote_reading (addressed past c line).1 ≡ Some m
      → P (after_message o past c job m)
  message_case None m for spelled = quiet_or_foul (is_passed past c None m)
  message_case (Some j) m for spelled = go (is_open past c j) refl
    where
      go : (b : Bool) → is_open past c j ≡ b → P (cond b (after_hearing o past c j m (hearing (part past c j) m)) (after_late past c (Some j) m))
      go true opened = hearing_case j m (hearing (part past c j) m) opened for spelled
      go false shut = quiet_or_foul (is_passed past c (Some j) m)

  line_case : (m : Option RemoteMessage) → remote_reading (addressed past c line).1 ≡ m → P (after_line o past c (addressed past c line).0 m)
  line_case None spelled = foul_case
  line_case (Some m) spelled = message_case (addressed past c line).0 m refl spelled

  pub got_cases : P (due_by_got o past c line)
  got_cases = go (is_error (remote_reading (addressed past c line).1)) (not (has_spoken past c)) (is_version_one (remote_reading line))
    where
      go : (e b v : Bool) → P (cond e (ending past c (ErrorAt (length past)))
          (cond b (cond v [] (ending past c (VersionFault (length past)))) (after_line o past c (addressed past c line).0 (remote_reading (addressed past c line).1))))
      go true b v = stop (ErrorAt (length past)) refl
      go false true true = nothing
      go false true false = stop (VersionFault (length past)) refl
      go false false v = line_case (remote_reading (addressed past c line).1) refl

-- ---- what is due is soft, but for an end that the entry itself is

pub soft_verdicts : (c : ℕ) (v : Verdict) (jobs : List ℕ) → list_all is_soft (map (λ j. Settled c j v) jobs) ≡ true
soft_verdicts c v [] = refl
soft_verdicts c v (j ∷ jobs) = soft_verdicts c v jobs

soft_ending : (past : List Entry) (c : ℕ) (why : Why) → is_soft_why why ≡ true → list_all is_soft (ending past c why) ≡ true
soft_ending past c why h = rw (h, soft_verdicts c (Ended why) (open_jobs past c)) refl

pub soft_replies : (past : List Entry) (c j : ℕ) (lines : List (List ℕ)) → list_all is_soft (replying past c j lines) ≡ true
soft_replies past c j [] = refl
soft_replies past c j (l ∷ ls) = soft_replies past c j ls

pub soft_got : (o : Opening) (past : List Entry) (c : ℕ) (line : List ℕ) → list_all is_soft (due_by_got o past c line) ≡ true
soft_got o past c line = got_cases (λ ws. list_all is_soft ws ≡ true) o past c line refl (soft_ending past c) (λ j f opened. refl) (λ j ls opened for owed. soft_replies past c j ls)

pub soft_mute : (o : Opening) (past : List Entry) (c : ℕ) → list_all is_soft (due_by o past (Mute c)) ≡ true
soft_mute o past c = go (is_live past c)
  where
    go : (b : Bool) → list_all is_soft (cond b (map (λ j. Settled c j Unsent) (filter (is_unsent past c) (open_jobs past c))) []) ≡ true
    go true = soft_verdicts c Unsent (filter (is_unsent past c) (open_jobs past c))
    go false = refl

-- ---- a soft stretch

pub record IsSoft (c : ℕ) (more : List Entry) : Type 0 where
  pub got : got_lines more c ≡ []
  pub sent : filter (λ e. sends c e.what) more ≡ []
  pub muted : any (mutes c) more ≡ false
  pub why : (w : Why) → why_of more c ≡ Some w → is_soft_why w ≡ true

soft_end : (c by child : ℕ) (why : Why) (more : List Entry) → is_soft_why why ≡ true → IsSoft c more → IsSoft c (record { by = by; what = End child why } ∷ more)
soft_end c by child why more s h = record {
  got = h.got;
  sent = h.sent;
  muted = h.muted;
  why = λ w e. go (child == c) refl w e;
}
  where
    go : (b : Bool) → (child == c) ≡ b → (w : Why)
        → option_and_then (λ (e : Entry). end_why c e.what) (cond b (Some (record { by = by; what = End child why })) (find (λ (e : Entry). ends c e.what) more)) ≡ Some w
        → is_soft_why w ≡ true
    go false e w is = h.why w is
    go true e w is =
        let here : cond {A = Option Why} (child == c) (Some why) None ≡ Some why = rw e refl in
        let same : why ≡ w = some_same why w (sym here ∙ is) in
        subst (λ (x : Why). is_soft_why x ≡ true) same s
      where
        some_same : (x y : Why) → Some x ≡ Some y → x ≡ y
        some_same x y e = cc

pub soft_stretch : (c by : ℕ) (ws : List What) → list_all is_soft ws ≡ true → IsSoft c (made_by by ws)
soft_stretch c by [] h = record { got = refl; sent = refl; muted = refl; why = λ w e. none_some w e }
  where
    none_some : (w : Why) → None ≡ Some w → is_soft_why w ≡ true
    none_some w e = absurd cc
soft_stretch c by (Settled child job verdict ∷ ws) h =
    let r = soft_stretch c by ws h in
    record { got = r.got; sent = r.sent; muted = r.muted; why = r.why }
soft_stretch c by (Put child job line ∷ ws) h =
    let r = soft_stretch c by ws h in
    record { got = r.got; sent = r.sent; muted = r.muted; why = r.why }
soft_stretch c by (End child why ∷ ws) h =
    let t : (is_soft_why why ≡ true) × (list_all is_soft ws ≡ true) = both (is_soft_why why) (list_all is_soft ws) h in
    soft_end c by child why (made_by by ws) t.0 (soft_stretch c by ws t.1)
soft_stretch c by (w ∷ ws) h = absurd cc
