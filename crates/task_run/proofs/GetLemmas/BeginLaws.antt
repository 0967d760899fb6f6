-- How the calls that begin part come about.
use Rattle.std.proofs.Common.{◌≡◌, ◌∙◌, ℕ, ◌-◌, ◌≤◌, List, [], ◌∷◌, ◌++◌, length, refl, subst, arith, ◌⊎◌, inl, inr}
use Rattle.std.specs.Prelude.{Option, Some, None, IfSome, OnOk, Result, Ok, Err, false}
use Rattle.std.specs.List.{concat}
use Rattle.ann_key.specs.declared.bytes.NoMemory.{NoMemory}
use Rattle.ann_digest.specs.declared.checker.Checker.{Checker}
use Rattle.ann_outside.specs.Calls.{Log, Gained, logged}
use Rattle.ann_outside.specs.Causes.{Rose}
use Rattle.ann_outside.specs.DeskCauses.{Counts, HasCauses}
use Rattle.ann_outside.specs.Files.{Files, content, SizeIs, CanCut}
use Rattle.ann_outside.specs.declared.file_desk.DeskError.{DeskError}
use Rattle.ann_outside.specs.declared.file_desk.DeskError.TheVariants as E
use Rattle.ann_outside.specs.declared.file_desk.Call.{Call}
use Rattle.ann_outside.specs.declared.file_desk.Call.TheVariants.{Size, Create, Cut}
use Rattle.task_text.specs.Layouts.Layouts.{held_of}
use Rattle.task_model.specs.declared.copying.copied.Copied.TheVariants.{Done}
use Rattle.task_model.specs.Copying.Copies.{refusal_of}
use Rattle.task_model.specs.Copying.Resumes.{IsNotBegun, EndsReading, Resumes, read_calls, refused_read}
use Rattle.task_model.proofs.CopyingLemmas.CopyLaws.{gained_more, gained_call}
use Rattle.journal_model.specs.declared.answer.Answer.{Answer}
use Rattle.journal_model.specs.declared.answer.Answer.TheVariants.{Got}
use Rattle.task_run.specs.declared.get.get_begin.Begun.{Begun}
use Rattle.task_run.specs.declared.get.get_begin.Begun.TheVariants as B
use Rattle.task_model.specs.Ran.{refusal, tells_of_refusal, HasQuietCauses}
use Rattle.task_model.specs.Fetching.{if_made}
use Rattle.task_run.specs.Get.ChunkFetches.{over_with, answer_in}
use Rattle.task_run.specs.Get.PartBegins.{Unlooked, Unmade, Made, Uncut, Unread, Resumed, keep_of, unbegun, Begins, answer_begun}
use Rattle.task_model.specs.Ran.{HasTaskCauses}
use Rattle.task_model.proofs.Gains.{gained_create, gained_size_refused}

pub begins_unlooked : (part : List ℕ) (size chunk : ℕ) (k : Checker) (a b : Option Log) (e : DeskError) → (e ≡ E.Missing → ⊥) → b ≡ logged a (Size part (Err e))
    → Begins part size chunk k k a b (unbegun (refusal e))
begins_unlooked part size chunk k a b e ne l = record { how = Unlooked e; calls = gained_size_refused a b part e l; result_is = refl; so = ne }

pub begins_unmade : (part : List ℕ) (size chunk : ℕ) (k : Checker) (a b c : Option Log) (e : DeskError) → b ≡ logged a (Size part (Err E.Missing)) → c ≡ logged b (Create part (Err e))
    → Begins part size chunk k k a c (unbegun (refusal e))
begins_unmade part size chunk k a b c e l m = record {
  how = Unmade e;
  calls = gained_more a b c (Size part (Err E.Missing) ∷ []) (if_made (Err e) (Create part (Err e))) (l ∙ gained_call a (Size part (Err E.Missing)) refl) (gained_create b c part (Err e) m);
  result_is = refl;
  so = tt;
}

pub begins_made : (part : List ℕ) (size chunk : ℕ) (k : Checker) (a b c : Option Log) → b ≡ logged a (Size part (Err E.Missing)) → c ≡ logged b (Create part (Ok tt))
    → Begins part size chunk k k a c (Ok (B.Held (held_of size chunk 0)))
begins_made part size chunk k a b c l m = record {
  how = Made;
  calls = gained_more a b c (Size part (Err E.Missing) ∷ []) (Create part (Ok tt) ∷ []) (l ∙ gained_call a (Size part (Err E.Missing)) refl) (m ∙ gained_call b (Create part (Ok tt)) refl);
  result_is = refl;
  so = refl;
}

behind_size : (part : List ℕ) (n : ℕ) (a b c : Option Log) (more : List Call) → b ≡ logged a (Size part (Ok n)) → Gained b c more → Gained a c (Size part (Ok n) ∷ more)
behind_size part n a b c more l g = gained_more a b c (Size part (Ok n) ∷ []) more (l ∙ gained_call a (Size part (Ok n)) refl) g

-- what the copy's refusals are to a get
refused_as : (e : DeskError) → Result Begun NoMemory
refused_as e = unbegun (refusal e)

pub begins_resumed : (part : List ℕ) (size chunk n d : ℕ) (before after : Checker) (a b c : Option Log) → b ≡ logged a (Size part (Ok n))
    → Resumes b c part (keep_of size chunk n) before after (Ok (Done d)) → Begins part size chunk before after a c (Ok (B.Held (held_of size chunk n)))
begins_resumed part size chunk n d before after a b c l (inl r) = record {
  how = Resumed n r.pieces r.ending;
  calls = behind_size part n a b c _ l r.calls;
  result_is = refl;
  so = (r.ends, r.most, r.checked);
}
begins_resumed part size chunk n d before after a b c l (inr r) = absurd r.0

unread_calls : (part : List ℕ) (at left : ℕ) (ending : List Call) (e : DeskError) → EndsReading part at left (refusal_of e) ending → ending ≡ refused_read e part at
unread_calls part at left ending E.NoMemory h = h
unread_calls part at left ending E.Failed h = h
unread_calls part at left ending E.Missing h = h

uncut_calls : (part : List ℕ) (keep : ℕ) (b c : Option Log) (e : DeskError) → IsNotBegun (λ answer. Cut part keep answer) b c (refusal_of e) → Gained b c (if_made (Err e) (Cut part keep (Err e)))
uncut_calls part keep b c E.NoMemory h = h
uncut_calls part keep b c E.Failed h = h
uncut_calls part keep b c E.Missing h = h

pub begins_unresumed : (part : List ℕ) (size chunk n : ℕ) (before after : Checker) (a b c : Option Log) (e : DeskError) → b ≡ logged a (Size part (Ok n))
    → Resumes b c part (keep_of size chunk n) before after (refusal_of e) → Begins part size chunk before after a c (unbegun (refusal e))
begins_unresumed part size chunk n before after a b c e l (inl r) = record {
  how = Unread n r.pieces e;
  calls = let P : List Call → Type 0 = λ x. Gained a c (Size part (Ok n) ∷ Cut part (keep_of size chunk n) (Ok tt) ∷ (read_calls part 0 r.pieces ++ x)) in
      subst P (unread_calls part (length (concat r.pieces)) (keep_of size chunk n - length (concat r.pieces)) r.ending e r.ends) (behind_size part n a b c _ l r.calls);
  result_is = refl;
  so = tt;
}
begins_unresumed part size chunk n before after a b c e l (inr r) = record {
  how = Uncut n e;
  calls = behind_size part n a b c (if_made (Err e) (Cut part (keep_of size chunk n) (Err e))) l (uncut_calls part (keep_of size chunk n) b c e r.0);
  result_is = refl;
  so = tt;
}

-- ---- causes

pub causes_behind : (a b d : Counts) (before result : Result Answer NoMemory) → HasTaskCauses a b before → tells_of_refusal before ≡ false → HasTaskCauses b d result → HasTaskCauses a d result
causes_behind a b d before result g calm h = record {
  faults_later = let e = g.faults_later in let f = h.faults_later in omega (arith, e, f);
  missing_later = let e = g.missing_later in let f = h.missing_later in omega (arith, e, f);
  fault = λ is. let e = g.faults_later in let r = h.fault is in omega (arith, e, r);
  no_file = λ is. let e = g.missing_later in let r = h.no_file is in omega (arith, e, r);
  untold = λ q. both (g.untold calm) (h.untold q);
}
  where
    both : Rose a.missing b.missing ⊎ (b ≡ a) → Rose b.missing d.missing ⊎ (d ≡ b) → Rose a.missing d.missing ⊎ (d ≡ a)
    both (inl r) x = inl (let m = h.missing_later in omega (arith, r, m))
    both (inr e) (inl r) = inl (let m = g.missing_later in omega (arith, r, m))
    both (inr e) (inr f) = inr (f ∙ e)

pub causes_call : {T : Type 0} (old new : Counts) (e : DeskError) (r : Result T DeskError) → r ≡ Err e → HasCauses old new r → HasTaskCauses old new (refusal e)
causes_call old new E.NoMemory r is h = record { faults_later = h.faults_later; missing_later = h.missing_later; fault = λ e. absurd cc; no_file = λ e. absurd cc; untold = λ q. inr (h.no_memory is) }
causes_call old new E.Failed r is h = record { faults_later = h.faults_later; missing_later = h.missing_later; fault = λ e. h.failed is; no_file = λ e. absurd cc; untold = λ q. absurd cc }
causes_call old new E.Missing r is h = record { faults_later = h.faults_later; missing_later = h.missing_later; fault = λ e. absurd cc; no_file = λ e. h.missing is; untold = λ q. absurd cc }

-- part was missing
pub causes_missed : {T : Type 0} (old new : Counts) (r : Result T DeskError) → r ≡ Err E.Missing → HasCauses old new r → HasTaskCauses old new (Ok Got)
causes_missed old new r is h = record { faults_later = h.faults_later; missing_later = h.missing_later; fault = λ e. absurd cc; no_file = λ e. absurd cc; untold = λ q. inl (h.missing is) }

pub causes_done : {T : Type 0} (old new : Counts) (x : T) (r : Result T DeskError) → r ≡ Ok x → HasCauses old new r → HasTaskCauses old new (Ok Got)
causes_done old new x r is h = let P : Result _ DeskError → Type 0 = λ r. OnOk r (new ≡ old) in record { faults_later = h.faults_later; missing_later = h.missing_later; fault = λ e. absurd cc; no_file = λ e. absurd cc; untold = λ q. inr (subst P is h.done) }

-- ---- what a found length allows

pub can_cut : (name : List ℕ) (n keep : ℕ) (files : Option Files) → keep ≤ n → IfSome files (λ fs. SizeIs name fs (Ok n)) → IfSome files (λ fs. CanCut name keep fs)
can_cut name n keep None h s = tt
can_cut name n keep (Some fs) h s = by_content (content name fs) refl
  where
    by_content : (o : Option (List ℕ)) → content name fs ≡ o → CanCut name keep fs
    by_content None e = rw e tt
    by_content (Some bytes) e = let l = s.1 bytes e in rw e (omega (arith, h, l))

pub back : (old new : Counts) (r : Result Answer NoMemory) → HasTaskCauses old new r → HasTaskCauses old new (answer_begun (unbegun r))
back old new (Ok answer) h = h
back old new (Err e) h = h

pub over_back : (old new : Counts) (r : Result Answer NoMemory) → HasTaskCauses old new r → HasTaskCauses old new (answer_in (over_with r))
over_back old new (Ok answer) h = h
over_back old new (Err e) h = h

-- a call that was refused after calls that weren't
pub refused_quiet : {T : Type 0} (old mid new : Counts) (e : DeskError) → mid ≡ old → HasCauses {T = T} mid new (Err e) → HasQuietCauses old new (refusal e)
refused_quiet {T} old mid new e m h = let P : Counts → Type 0 = λ x. HasQuietCauses x new (refusal e) in subst P m (by_error e h)
  where
    by_error : (e : DeskError) → HasCauses {T = T} mid new (Err e) → HasQuietCauses mid new (refusal e)
    by_error E.NoMemory h = record { faults_later = h.faults_later; missing_later = h.missing_later; fault = λ e. absurd cc; no_file = λ e. absurd cc; untold = λ q. inr (h.no_memory refl); quiet = λ q. h.no_memory refl }
    by_error E.Failed h = record { faults_later = h.faults_later; missing_later = h.missing_later; fault = λ e. h.failed refl; no_file = λ e. absurd cc; untold = λ q. absurd cc; quiet = λ q. absurd cc }
    by_error E.Missing h = record { faults_later = h.faults_later; missing_later = h.missing_later; fault = λ e. absurd cc; no_file = λ e. h.missing refl; untold = λ q. absurd cc; quiet = λ q. absurd cc }

pub quiet_refused : {T : Type 0} (old mid new : Counts) (e : DeskError) → mid ≡ old → HasCauses {T = T} mid new (Err e) → HasQuietCauses old new (answer_in (over_with (refusal e)))
quiet_refused old mid new e m h = of_either (refusal e) (refused_quiet old mid new e m h)
  where
    of_either : (r : Result Answer NoMemory) → HasQuietCauses old new r → HasQuietCauses old new (answer_in (over_with r))
    of_either (Ok answer) q = q
    of_either (Err x) q = q
