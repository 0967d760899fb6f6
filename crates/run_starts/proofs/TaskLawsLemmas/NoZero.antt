-- Where all goes well with the children, no start failed.
use Rattle.std.proofs.Common.{◌≡◌, ◌∙◌, ◌⊎◌, inl, inr, ℕ, ◌==◌, Bool, true, false, not, List, [], ◌∷◌, ◌++◌, refl, sym, ap}
use Rattle.std.specs.Prelude.{◌&&◌, cond, if◌then◌else◌, Option, Some, None, is_some, is_none, option_and_then, find}
use Rattle.std.specs.List.{list_all, cons_option, last_or}
use Rattle.std.proofs.lemmas.Bool.{and_parts, or_parts}
use Rattle.journal_model.specs.declared.answer.Answer.TheVariants.{Unsent}
use Rattle.journal_model.specs.declared.verdict.Verdict.{Verdict}
use Rattle.journal_model.specs.declared.verdict.Why.{Why}
use Rattle.journal_model.specs.declared.verdict.Why.TheVariants.{Eof, ReadFault, LongLine, Full, Memory, Closed, Foul, Error, Version}
use Rattle.journal_model.specs.declared.entry.What.{What}
use Rattle.journal_model.specs.declared.entry.What.TheVariants.{Claim, Start, NoStart, Mute, End, Verdict as Settled}
use Rattle.journal_model.specs.declared.entry.Entry.{Entry}
use Rattle.journal_model.specs.Journal.{any, each_of, first_of, ends, mutes, is_ended, is_mute, verdict_in, verdict_of, end_why, why_of}
use Rattle.journal_model.specs.Legality.{is_done}
use Rattle.journal_model.specs.Shares.{is_closed}
use Rattle.task_model.specs.TaskRuns.{refused_at, refusal_of, or_refusal, ended_answer, gone_answer, unready_answer, failed_start}
use Rattle.run_starts.specs.Rounds.{turn_of, start_untaken}
use Rattle.run_starts.specs.TaskLaws.ChildrenWell.{is_no_start, is_refusal, is_unclosed_end, is_muting, ChildrenWell}
use Rattle.ann_key.proofs.Booleans.{false_is_true as apart}

-- ---- of the entries before a place

pub before : (p : What → Bool) (xs ys : List Entry) → any p (xs ++ ys) ≡ false → any p xs ≡ false
before p [] ys h = refl
before p (x ∷ xs) ys h =
    let parts = or_parts (p x.what) (any p (xs ++ ys)) h in
    let one : p x.what ≡ false = parts.0 in
    let rest : any p xs ≡ false = before p xs ys parts.1 in
    rw (one, rest) refl

-- ---- no child is mute, ended unless it was closed, or refused

none_mute : (past : List Entry) (c : ℕ) → any is_muting past ≡ false → is_mute past c ≡ false
none_mute [] c h = refl
none_mute (e ∷ past) c h =
    let parts = or_parts (is_muting e.what) (any is_muting past) h in
    let one : mutes c e.what ≡ false = by_what e.what parts.0 in
    let rest : is_mute past c ≡ false = none_mute past c parts.1 in
    rw (one, rest) refl
  where
    by_what : (w : What) → is_muting w ≡ false → mutes c w ≡ false
    by_what (Mute child) k = apart (sym k)
    by_what w k = refl

-- an end that isn't unclosed is a closing
closing_is : (why : Why) → not (is_closed why) ≡ false → why ≡ Closed
closing_is Closed h = refl
closing_is Eof h = apart (sym h)
closing_is ReadFault h = apart (sym h)
closing_is LongLine h = apart (sym h)
closing_is Full h = apart (sym h)
closing_is Memory h = apart (sym h)
closing_is (Foul at) h = apart (sym h)
closing_is (Error at) h = apart (sym h)
closing_is (Version at) h = apart (sym h)

all_closed : (past : List Entry) (c : ℕ) → any is_unclosed_end past ≡ false → (why_of past c ≡ None) ⊎ (why_of past c ≡ Some Closed)
all_closed [] c h = inl refl
all_closed (e ∷ past) c h =
    by_test (ends c e.what) refl (or_parts (is_unclosed_end e.what) (any is_unclosed_end past) h).0 (all_closed past c (or_parts (is_unclosed_end e.what) (any is_unclosed_end past) h).1)
  where
    by_what : (w : What) → ends c w ≡ true → is_unclosed_end w ≡ false → (end_why c w ≡ None) ⊎ (end_why c w ≡ Some Closed)
    by_what (End child why) t k = inr (ap (λ (b : Bool). if b then Some why else None) t ∙ ap (λ (x : Why). Some x) (closing_is why k))
    by_what w t k = apart t

    by_test : (b : Bool) → ends c e.what ≡ b → is_unclosed_end e.what ≡ false → (why_of past c ≡ None) ⊎ (why_of past c ≡ Some Closed)
        → (option_and_then (λ (x : Entry). end_why c x.what) (cond b (Some e) (find (λ (x : Entry). ends c x.what) past)) ≡ None)
        ⊎ (option_and_then (λ (x : Entry). end_why c x.what) (cond b (Some e) (find (λ (x : Entry). ends c x.what) past)) ≡ Some Closed)
    by_test true t k rest = by_what e.what t k
    by_test false t k rest = rest

none_refused : (past : List Entry) (c : ℕ) → any is_refusal past ≡ false → list_all (λ v. is_none (refused_at v)) (each_of (verdict_in c 1) past) ≡ true
none_refused [] c h = refl
none_refused (e ∷ past) c h = by_what e.what (or_parts (is_refusal e.what) (any is_refusal past) h).0 (none_refused past c (or_parts (is_refusal e.what) (any is_refusal past) h).1)
  where
    both : (a b : Bool) (o : Option ℕ) → (b && is_some o) ≡ false → (a && b) ≡ true → is_none o ≡ true
    both true true None k t = refl
    both true true (Some at) k t = apart (sym k)
    both true false o k t = apart t
    both false b o k t = apart t

    by_what : (w : What) → is_refusal w ≡ false → list_all (λ v. is_none (refused_at v)) (each_of (verdict_in c 1) past) ≡ true
        → list_all (λ v. is_none (refused_at v)) (cons_option (verdict_in c 1 w) (each_of (verdict_in c 1) past)) ≡ true
    by_what (Settled child job verdict) k rest = by_test (child == c && job == 1) refl
      where
        by_test : (b : Bool) → (child == c && job == 1) ≡ b → list_all (λ v. is_none (refused_at v)) (cons_option (if b then Some verdict else None) (each_of (verdict_in c 1) past)) ≡ true
        by_test true t = let one : is_none (refused_at verdict) ≡ true = both (child == c) (job == 1) (refused_at verdict) k t in rw (one, rest) refl
        by_test false t = rest
    by_what w k rest = rest

no_refusal : (past : List Entry) (c : ℕ) → any is_refusal past ≡ false → refusal_of past c ≡ None
no_refusal past c h = of_first (each_of (verdict_in c 1) past) (none_refused past c h)
  where
    none_is : (o : Option ℕ) → is_none o ≡ true → o ≡ None
    none_is None k = refl
    none_is (Some at) k = apart k

    of_first : (vs : List Verdict) → list_all (λ v. is_none (refused_at v)) vs ≡ true → option_and_then refused_at (first_of vs) ≡ None
    of_first [] k = refl
    of_first (v ∷ vs) k = none_is (refused_at v) (and_parts (is_none (refused_at v)) (list_all (λ w. is_none (refused_at w)) vs) k).0

-- what is so before a place
pub record Calm (past : List Entry) : Type 0 where
  pub started : any is_no_start past ≡ false
  pub mute : (c : ℕ) → is_mute past c ≡ false
  pub closing : (c : ℕ) → (why_of past c ≡ None) ⊎ (why_of past c ≡ Some Closed)
  pub refusal : (c : ℕ) → refusal_of past c ≡ None

pub calm : (past more : List Entry) → ChildrenWell (past ++ more) → Calm past
calm past more w = record {
  started = before is_no_start past more w.started;
  mute = λ c. none_mute past c (before is_muting past more w.heard);
  closing = λ c. all_closed past c (before is_unclosed_end past more w.closed);
  refusal = λ c. no_refusal past c (before is_refusal past more w.ready);
}

-- ---- no start failed

not_gone : (past : List Entry) (c : ℕ) → Calm past → gone_answer past c ≡ None
not_gone past c k = by_test (is_ended past c) (k.closing c)
  where
    mute : (if is_mute past c then Some Unsent else None) ≡ None
    mute = rw (k.mute c) refl

    by_test : (b : Bool) → (why_of past c ≡ None) ⊎ (why_of past c ≡ Some Closed) → (if b then ended_answer (why_of past c) else (if is_mute past c then Some Unsent else None)) ≡ None
    by_test true (inl e) = ap ended_answer e
    by_test true (inr e) = ap ended_answer e
    by_test false e = mute

not_unready : (past : List Entry) (c : ℕ) → Calm past → unready_answer past c ≡ None
not_unready past c k = by_test (is_done (verdict_of past c 1))
  where
    by_test : (b : Bool) → (if b then None else or_refusal (gone_answer past c) (refusal_of past c)) ≡ None
    by_test true = refl
    by_test false = ap (or_refusal (gone_answer past c)) (k.refusal c) ∙ not_gone past c k

-- a turn is no start that failed
abbrev is_kept : Option (Option ℕ) → Bool
is_kept None = true
is_kept (Some None) = false
is_kept (Some (Some c)) = true

turns_kept : (past : List Entry) → any is_no_start past ≡ false → list_all is_kept (each_of turn_of past) ≡ true
turns_kept [] h = refl
turns_kept (e ∷ past) h = by_what e.what (or_parts (is_no_start e.what) (any is_no_start past) h).0 (turns_kept past (or_parts (is_no_start e.what) (any is_no_start past) h).1)
  where
    by_what : (w : What) → is_no_start w ≡ false → list_all is_kept (each_of turn_of past) ≡ true → list_all is_kept (cons_option (turn_of w) (each_of turn_of past)) ≡ true
    by_what (Start child slot offer) k rest = by_test (slot == 0)
      where
        by_test : (b : Bool) → list_all is_kept (cons_option (if b then Some (Some (Some child)) else None) (each_of turn_of past)) ≡ true
        by_test true = rest
        by_test false = rest
    by_what (NoStart slot) k rest = apart (sym k)
    by_what (Claim task child) k rest = rest
    by_what w k rest = rest

abbrev is_last_kept : Option (Option (Option ℕ)) → Bool
is_last_kept None = true
is_last_kept (Some turn) = is_kept turn

last_kept : (d : Option (Option (Option ℕ))) (turns : List (Option (Option ℕ))) → is_last_kept d ≡ true → list_all is_kept turns ≡ true → is_last_kept (last_or d turns) ≡ true
last_kept d [] h k = h
last_kept d (x ∷ turns) h k = last_kept (Some x) turns (and_parts (is_kept x) (list_all is_kept turns) k).0 (and_parts (is_kept x) (list_all is_kept turns) k).1

pub none_failed : (past : List Entry) → Calm past → failed_start past (start_untaken past) ≡ None
none_failed past k = by_turn (last_or None (each_of turn_of past)) (last_kept None (each_of turn_of past) refl (turns_kept past k.started))
  where
    by_turn : (last : Option (Option (Option ℕ))) → is_last_kept last ≡ true → failed_start past (option_and_then (λ (turn : Option (Option ℕ)). turn) last) ≡ None
    by_turn None h = refl
    by_turn (Some None) h = refl
    by_turn (Some (Some None)) h = apart h
    by_turn (Some (Some (Some c))) h = not_unready past c k
