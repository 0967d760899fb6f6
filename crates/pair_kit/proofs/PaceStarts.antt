-- A child that starts is silent, and one that ends need keep step no longer.
use Rattle.std.proofs.Common.{ℕ, ◌≡◌, ◌==◌, inl, Bool, true, false, not, cond, List, [], ◌∷◌, ◌++◌, map, Option, Some, None, refl, sym, ap, ◌∙◌}
use Rattle.std.specs.Prelude.{◌&&◌, ◌||◌}
use Rattle.std.specs.List.{list_any, cons_option}
use Rattle.std.specs.Option.{option_or}
use Rattle.std.proofs.lemmas.Bool.{and_right}
use Rattle.journal_model.specs.declared.verdict.Why.{Why}
use Rattle.journal_model.specs.declared.verdict.Verdict.{Verdict}
use Rattle.journal_model.specs.declared.verdict.Verdict.TheVariants.{Ended}
use Rattle.journal_model.specs.declared.entry.What.{What}
use Rattle.journal_model.specs.declared.entry.What.TheVariants.{Start, Lead, Ask, Put, End, Verdict as Settled}
use Rattle.journal_model.specs.declared.entry.Entry.{Entry}
use Rattle.journal_model.specs.declared.opening.Opening.{Opening}
use Rattle.journal_model.specs.Journal.{any, each_of, asks, writes, ends, mutes, offers, line_from, asked_jobs, open_jobs, is_started, is_ended, is_live, accepts_async, verdict_of}
use Rattle.journal_model.specs.Legality.{Legal}
use Rattle.journal_model.proofs.Fresh.{fresh}
use Rattle.journal_model.proofs.Looks.{entry, is_asked, any-append, verdict_of-append, settled_all}
use Rattle.journal_model.proofs.Soft.{soft_stretch, soft_verdicts}
use Rattle.journal_model.proofs.Verdicts.{unasked_none}
use Rattle.host_core.specs.Steps.{group_of}
use Rattle.pair_kit.specs.Paces.{written_lines, IsExpected}
use Rattle.pair_kit.proofs.PaceEntries.{ChildInStep, touches, any_same, each_same, expected_same}
use Rattle.ann_key.proofs.Numbers.{same_number as same}
use Rattle.ann_key.proofs.Booleans.{or_true}

-- ---- a start

-- a job is asked by a line
none_asked : (past : List Entry) (c : ℕ) → each_of (writes c) past ≡ [] → asked_jobs past c ≡ []
none_asked [] c h = refl
none_asked (e ∷ past) c h = step e.what h (none_asked past c)
  where
    step : (w : What) → cons_option (writes c w) (each_of (writes c) past) ≡ [] → (each_of (writes c) past ≡ [] → asked_jobs past c ≡ []) → cons_option (asks c w) (asked_jobs past c) ≡ []
    step (Lead child job line) h r = go (child == c) h
      where
        go : (b : Bool) → cons_option (cond {A = Option (Option ℕ × List ℕ)} b (Some (None, line)) None) (each_of (writes c) past) ≡ [] → asked_jobs past c ≡ []
        go true h = absurd cc
        go false h = r h
    step (Ask child job task line) h r = go (child == c) h
      where
        go : (b : Bool) → cons_option (cond {A = Option (Option ℕ × List ℕ)} b (Some (Some job, line)) None) (each_of (writes c) past) ≡ []
            → cons_option (cond {A = Option ℕ} b (Some job) None) (asked_jobs past c) ≡ []
        go true h = absurd cc
        go false h = r h
    step (Put child job line) h r = go (child == c) h
      where
        go : (b : Bool) → cons_option (cond {A = Option (Option ℕ × List ℕ)} b (Some (None, line)) None) (each_of (writes c) past) ≡ [] → asked_jobs past c ≡ []
        go true h = absurd cc
        go false h = r h
    step w h r = r h

nothing_written : (journal : List Entry) (c : ℕ) → written_lines journal c ≡ [] → IsExpected journal c
nothing_written journal c none = expected_same [] journal c none (record { lines = refl; expected = refl })

pub starts_in_step : (o : Opening) (past : List Entry) (by c slot : ℕ) (offer : Bool) → Legal o past → is_started past c ≡ false
    → ChildInStep (past ++ entry by (Start c slot offer) ∷ []) c
starts_in_step o past by c slot offer legal off =
    let n = fresh o past legal c off in
    let one : List Entry = entry by (Start c slot offer) ∷ [] in
    let now : List Entry = past ++ one in
    let writes_none : each_of (writes c) now ≡ [] = each_same (writes c) past one refl ∙ n.written in
    let lines : written_lines now c ≡ [] = ap (map (λ (w : Option ℕ × List ℕ). w.1)) writes_none in
    let asked : asked_jobs now c ≡ [] = none_asked now c writes_none in
    let unasked : is_asked past c 0 ≡ false = ap (list_any (λ (k : ℕ). k == 0)) (none_asked past c n.written) in
    let verdict : verdict_of now c 0 ≡ None = verdict_of-append c 0 past one ∙ ap (λ (v : Option Verdict). option_or v None) (unasked_none o past legal c 0 unasked) in
    record {
      unmuted = any_same (mutes c) past one refl ∙ n.mutes;
      expected = nothing_written now c lines;
      steps = λ live. record {
        untagged = ap (λ (v : Option Verdict). any (offers c) now && accepts_async now v) verdict ∙ and_right (any (offers c) now) false refl;
        turn = inl (record { got = each_same (line_from c) past one refl ∙ n.got; written = lines; asked = asked });
      };
    }

-- ---- an end

verdicts_write_none : (c by child : ℕ) (v : Verdict) (ks : List ℕ) → each_of (writes c) (settled_all by child v ks) ≡ []
verdicts_write_none c by child v [] = refl
verdicts_write_none c by child v (k ∷ ks) = verdicts_write_none c by child v ks

pub verdicts_apart : (c by child : ℕ) (v : Verdict) (ks : List ℕ) → (child == c) ≡ false → any (touches c) (settled_all by child v ks) ≡ false
verdicts_apart c by child v [] n = refl
verdicts_apart c by child v (k ∷ ks) n = rw n (verdicts_apart c by child v ks n)

-- an end touches no other child
pub end_apart : (o : Opening) (past : List Entry) (by child c : ℕ) (why : Why) → (child == c) ≡ false → any (touches c) (group_of o past by (End child why)) ≡ false
end_apart o past by child c why n = rw n (verdicts_apart c by child (Ended why) (open_jobs past child) n)

pub ends_in_step : (o : Opening) (past : List Entry) (by c : ℕ) (why : Why) → ChildInStep past c → ChildInStep (past ++ group_of o past by (End c why)) c
ends_in_step o past by c why h =
    let settled = settled_all by c (Ended why) (open_jobs past c) in
    let group : List Entry = entry by (End c why) ∷ settled in
    let now : List Entry = past ++ group in
    let over : is_ended group c ≡ true = rw (same c) refl in
    let ended : is_ended now c ≡ true = any-append (ends c) past group ∙ ap (λ (b : Bool). is_ended past c || b) over ∙ or_true (is_ended past c) in
    record {
      unmuted = any_same (mutes c) past group (soft_stretch c by (map (λ (j : ℕ). Settled c j (Ended why)) (open_jobs past c)) (soft_verdicts c (Ended why) (open_jobs past c))).muted ∙ h.unmuted;
      expected = expected_same past now c (ap (map (λ (w : Option ℕ × List ℕ). w.1)) (each_same (writes c) past group (verdicts_write_none c by c (Ended why) (open_jobs past c)))) h.expected;
      steps = λ live. (let off : is_live now c ≡ false = ap (λ (b : Bool). is_started now c && not b) ended ∙ and_right (is_started now c) false refl in
          let bad : true ≡ false = sym live ∙ off in absurd cc);
    }
