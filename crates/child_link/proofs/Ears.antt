-- What an ear does keeps it wired to the journal, and so does what others do.
use Rattle.std.proofs.Common.{◌≡◌, ℕ, ◌<◌, ◌≤◌, length, List, [], ◌∷◌, ◌++◌, refl, sym, subst, Bool, true, false, inl, inr, map}
use Rattle.std.specs.Prelude.{IfSome}
use Rattle.std.specs.List.{list_all}
use Rattle.annex_model.specs.Lines.{Cut}
use Rattle.journal_model.specs.declared.verdict.Why.{Why}
use Rattle.journal_model.specs.declared.verdict.Why.TheVariants.{Eof, ReadFault, Closed}
use Rattle.journal_model.specs.declared.verdict.Verdict.TheVariants.{Ended}
use Rattle.journal_model.specs.declared.verdict.Verdict.{Verdict}
use Rattle.journal_model.specs.declared.entry.What.{What}
use Rattle.journal_model.specs.declared.entry.What.TheVariants.{Got, End, Verdict as Settled}
use Rattle.journal_model.specs.declared.entry.Entry.{Entry}
use Rattle.journal_model.specs.declared.opening.Opening.{Opening}
use Rattle.journal_model.specs.Journal.{any, is_ended, open_jobs}
use Rattle.journal_model.specs.Due.{replying, due_by, due_by_got, ending, made_by}
use Rattle.journal_model.specs.Limits.{longest_line}
use Rattle.journal_model.specs.Wires.{RestFits}
use Rattle.journal_model.proofs.Soft.{is_soft_why, soft_stretch, soft_got, soft_verdicts, got_cases}
use Rattle.journal_model.specs.Shares.{is_closed, is_heard, by_ear, Moved}
use Rattle.child_link.specs.Doors.{Passed, Appended, Ends}
use Rattle.journal_model.specs.Halves.{EarValue, EarWired}
use Rattle.child_link.proofs.Roles.{moved_by, moved_on}
use Rattle.journal_model.proofs.Ears.{ear_apart, ear_got, ear_stop}
use Rattle.ann_key.proofs.Numbers.{same_number as same}

-- ---- what it makes is an ear's

verdicts_by_ear : (c : ℕ) (v : Verdict) (jobs : List ℕ) → list_all (by_ear c) (map (λ j. Settled c j v) jobs) ≡ true
verdicts_by_ear c v [] = refl
verdicts_by_ear c v (j ∷ jobs) = rw (same c, verdicts_by_ear c v jobs) refl

pub ending_by_ear : (past : List Entry) (c : ℕ) (why : Why) → is_closed why ≡ false → list_all (by_ear c) (ending past c why) ≡ true
ending_by_ear past c why kept = rw (same c, kept, verdicts_by_ear c (Ended why) (open_jobs past c)) refl

soft_kept : (why : Why) → is_soft_why why ≡ true → is_closed why ≡ false
soft_kept Closed h = absurd cc
soft_kept why h = refl

replies_by_ear : (past : List Entry) (c j : ℕ) (lines : List (List ℕ)) → list_all (by_ear c) (replying past c j lines) ≡ true
replies_by_ear past c j [] = refl
replies_by_ear past c j (l ∷ ls) = rw (same c, replies_by_ear past c j ls) refl

pub got_by_ear : (o : Opening) (past : List Entry) (c : ℕ) (line : List ℕ) → list_all (by_ear c) (Got c line ∷ due_by o past (Got c line)) ≡ true
got_by_ear o past c line =
    rw (
      same c,
      got_cases (λ ws. list_all (by_ear c) ws ≡ true) o past c line refl (λ why soft. ending_by_ear past c why (soft_kept why soft))
          (λ j f opened. (rw (same c) refl)) (λ j ls opened for owed. replies_by_ear past c j ls),
    ) refl

-- ---- what it did

-- others alone went on
pub ear_on : {n : ℕ} {a : Bool} {old new : List Entry} {makes : What → Bool} (v : EarValue) → Passed n a old new → Moved n a makes (is_heard v.child) old new (EarWired old v) (EarWired new v)
ear_on {old = old} v s = moved_on s (λ none h. subst (λ (j : List Entry). EarWired j v) (sym s.is) (ear_apart old s.others v none h))

-- what was so before others went on
before : {n : ℕ} {a : Bool} {old past : List Entry} (v : EarValue) (s : Passed n a old past) → any (is_heard v.child) s.others ≡ false → EarWired old v → EarWired past v
before {old = old} v s none h = subst (λ (j : List Entry). EarWired j v) (sym s.is) (ear_apart old s.others v none h)

module _ {n : ℕ} {a : Bool} {o : Opening} {old new : List Entry} where
  -- the child ended
  pub ear_ends : (why : Why) (v : EarValue) → is_closed why ≡ false → RestFits why v.held → (why ≡ Eof → IfSome v.left (λ bytes. bytes ≡ [])) → (why ≡ ReadFault → 0 < v.faults)
      → Ends o n a old new v.child why → Moved n a (by_ear v.child) (is_heard v.child) old new (EarWired old v) (EarWired new v)
  ear_ends why v kept fits eof fault (inr s) = ear_on v s.0
  ear_ends why v kept fits eof fault (inl s) =
      moved_by s (ending_by_ear s.past v.child why kept) (λ none h.
      subst (λ (j : List Entry). EarWired j v) (sym s.is)
      (ear_stop s.past (made_by n (due_by o s.past (End v.child why))) n why v
      (soft_stretch v.child n (due_by o s.past (End v.child why)) (soft_verdicts v.child (Ended why) (open_jobs s.past v.child))) s.found fits eof fault (before v s.passed none h)))

  -- a line was fed
  pub ear_takes : (line : List ℕ) (v w : EarValue) → w ≡ record v { held = w.held } → length line ≤ longest_line → length w.held ≤ length v.held
      → ((bytes : List ℕ) (lines : List (List ℕ)) → Cut bytes lines v.held → Cut bytes (lines ++ line ∷ []) w.held)
      → Appended o n a old new (Got v.child line) (λ past. is_ended past v.child ≡ false) → Moved n a (by_ear v.child) (is_heard v.child) old new (EarWired old v) (EarWired new w)
  ear_takes line v w same fits fewer cut s =
      moved_by s (got_by_ear o s.past v.child line) (λ none h.
      subst (EarWired new) (sym same)
      (subst (λ (j : List Entry). EarWired j (record v { held = w.held })) (sym s.is)
      (ear_got s.past (made_by n (due_by_got o s.past v.child line)) n line w.held v
      (soft_stretch v.child n (due_by_got o s.past v.child line) (soft_got o s.past v.child line)) s.found fits fewer cut (before v s.passed none h))))
