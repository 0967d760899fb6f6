-- How the parts of a store in chunks come about.
use Rattle.std.proofs.Common.{◌≡◌, ◌∙◌, ℕ, zero, suc, ◌+◌, ◌-◌, ◌*◌, ◌<◌, ◌≤◌, List, [], ◌++◌, refl, sym, ap, subst, arith, append-nil, inl, inr}
use Rattle.std.specs.Prelude.{Bool, true, false, is_some, Option, Some, None, Result, Ok, Err}
use Rattle.std.specs.Bool.{MatchBool}
use Rattle.std.specs.Prelude.{◌==◌}
use Rattle.std.specs.Int.{div_ceil}
use Rattle.std.proofs.Math.Nat.{mul-le-mul_right, suc-mul, zero-mul}
use Rattle.std.proofs.lemmas.Grind.{div_ceil_times}
use Rattle.ann_key.specs.Keys.{Parts, IsKey, key_reading}
use Rattle.ann_key.specs.declared.bytes.NoMemory.{NoMemory}
use Rattle.ann_key.proofs.Spelling.{read_of_spelled}
use Rattle.annex_model.specs.Messages.{HostMessage, Checkpresent, Transfer}
use Rattle.journal_model.specs.declared.verdict.Verdict.{Verdict}
use Rattle.journal_model.specs.declared.verdict.Verdict.TheVariants.{Done as DoneAt, Failed, Absent, Unknown, Unsupported, Ended, Unsent}
use Rattle.journal_model.specs.declared.answer.Answer.{Answer}
use Rattle.journal_model.specs.declared.answer.Answer.TheVariants as A
use Rattle.ann_outside.specs.Calls.{Log, Gained, logged}
use Rattle.ann_outside.specs.Files.{Files}
use Rattle.ann_outside.specs.declared.file_desk.DeskError.TheVariants as E
use Rattle.ann_outside.specs.declared.file_desk.Call.TheVariants.{Remove}
use Rattle.task_model.specs.declared.copying.copied.Copied.TheVariants.{Done, Fault, Missing}
use Rattle.task_model.specs.Copying.CopiesOut.{CopiesOut}
use Rattle.task_model.proofs.CopyingLemmas.CopyLaws.{gained_nothing, gained_more}
use Rattle.task_model.specs.Askers.{Asking, KeepsRequest, AskAdds}
use Rattle.task_text.specs.Layouts.Layouts.{from_of, to_of, count_of}
use Rattle.task_model.specs.Stops.{verdict_stop}
use Rattle.task_model.specs.Requests.{AsksFor}
use Rattle.task_model.specs.Checks.{present_request}
use Rattle.task_model.specs.Ran.{is_verdict_of, undone_answer}
use Rattle.task_model.specs.Fetching.{Outcome, if_made}
use Rattle.task_run.specs.Store.ChunkStoring.{AsksNext, AsksOneFor, from_file, NotMade, NotCopied, CutShort, Unasked, Undone, Settled, cut_calls, StoresChunk, NotWhole, CopiesChunk, SettlesChunk, is_settled_at, removal_result}
use Rattle.task_model.proofs.PlainRuns.{asks_for_check}
use Rattle.task_model.proofs.Gains.{gained_remove}
use Rattle.ann_key.proofs.Booleans.{false_is_true as apart}

-- ---- requests

pub chunk_there : (text : List ℕ) (key : Parts) (before after : List Asking) (r : Result Verdict NoMemory) → IsKey text key → AskAdds before after None (Checkpresent text) r
    → AsksNext present_request key before after r
chunk_there text key before after (Err e) k a = a
chunk_there text key before after (Ok v) k a = record { request = a.request; asks = asks_for_check text key a.request v 1 (read_of_spelled text key k) a.kept; added = a.added }

asks_from : (text name : List ℕ) (key : Parts) (request : Option HostMessage) (v : Verdict) → key_reading text ≡ Some key → KeepsRequest (Transfer true text name) request v
    → AsksFor (from_file name) 1 key (record { request = request; name = None; verdict = v })
asks_from text name key None v e k = k
asks_from text name key (Some q) v e k = rw k (refl, e)

pub chunk_from : (text name : List ℕ) (key : Parts) (before after : List Asking) (r : Result Verdict NoMemory) → IsKey text key → AskAdds before after None (Transfer true text name) r
    → AsksNext (from_file name) key before after r
chunk_from text name key before after (Err e) k a = a
chunk_from text name key before after (Ok v) k a = record { request = a.request; asks = asks_from text name key a.request v (read_of_spelled text key k) a.kept; added = a.added }

-- ---- copies

pub copied_short : (file name : List ℕ) (from to n : ℕ) (old new : Option Log) (before after : Option Files) → CopiesOut old new before after file from to name (Ok (Done n)) → (file ≡ name → n ≡ 0) → n < to - from
    → NotWhole file name from to old new (Ok (Some (A.Size n)))
copied_short file name from to n old new before after (inr h) own low = absurd h.0
copied_short file name from to n old new before after (inl h) own low = record {
  how = CutShort h.0.pieces h.0.ending;
  calls = h.0.calls;
  result_is = ap (λ k. Ok (Some (A.Size k))) h.0.count;
  so = λ key. (record { ends = h.0.ends; within = h.0.within; itself = λ e. sym h.0.count ∙ own e }, omega (arith, h.0.count, low));
  unasked = refl;
}

pub copied_fault : (file name : List ℕ) (from to : ℕ) (old new : Option Log) (before after : Option Files) → CopiesOut old new before after file from to name (Ok Fault) → NotWhole file name from to old new (Ok (Some A.FileFault))
copied_fault file name from to old new before after (inr h) = record { how = NotMade E.Failed; calls = h.0; result_is = refl; so = λ key. tt; unasked = refl }
copied_fault file name from to old new before after (inl h) = record { how = NotCopied h.0.pieces h.0.ending E.Failed; calls = h.0.calls; result_is = refl; so = λ key. (h.0.ends, h.0.within); unasked = refl }

pub copied_missing : (file name : List ℕ) (from to : ℕ) (old new : Option Log) (before after : Option Files) → CopiesOut old new before after file from to name (Ok Missing) → NotWhole file name from to old new (Ok (Some A.NoFile))
copied_missing file name from to old new before after (inr h) = record { how = NotMade E.Missing; calls = h.0; result_is = refl; so = λ key. tt; unasked = refl }
copied_missing file name from to old new before after (inl h) = record { how = NotCopied h.0.pieces h.0.ending E.Missing; calls = h.0.calls; result_is = refl; so = λ key. (h.0.ends, h.0.within); unasked = refl }

pub copied_without : (file name : List ℕ) (from to : ℕ) (old new : Option Log) (before after : Option Files) (e : NoMemory) → CopiesOut old new before after file from to name (Err e) → NotWhole file name from to old new (Err e)
copied_without file name from to old new before after e (inr h) = record { how = NotMade E.NoMemory; calls = h.0; result_is = refl; so = λ key. tt; unasked = refl }
copied_without file name from to old new before after e (inl h) = record { how = NotCopied h.0.pieces h.0.ending E.NoMemory; calls = h.0.calls; result_is = refl; so = λ key. (h.0.ends, h.0.within); unasked = refl }

-- ---- one chunk

pub not_whole : (file name : List ℕ) (from to : ℕ) (key : Parts) (pairs : List Asking) (old new : Option Log) (result : Result (Option Answer) NoMemory)
    → NotWhole file name from to old new result → StoresChunk file name from to key pairs pairs old new result
not_whole file name from to key pairs old new result h = record {
  how = h.how;
  pairs_are = sym (ap (λ l. pairs ++ l) h.unasked ∙ append-nil pairs);
  calls = h.calls;
  result_is = h.result_is;
  so = h.so key;
}

pub not_begun_chunk : (file name : List ℕ) (from to : ℕ) (key : Parts) (pairs : List Asking) (log : Option Log) (e : NoMemory) → StoresChunk file name from to key pairs pairs log log (Err e)
not_begun_chunk file name from to key pairs log e = record { how = NotMade E.NoMemory; pairs_are = sym (append-nil pairs); calls = gained_nothing log; result_is = refl; so = tt }

pub not_asked : (file name : List ℕ) (from to : ℕ) (key : Parts) (before after : List Asking) (old new : Option Log) (e : NoMemory)
    → CopiesChunk file name from to old new (Ok None) → after ≡ before → StoresChunk file name from to key before after old new (Err e)
not_asked file name from to key before after old new e h same = record {
  how = Unasked h.0 h.1;
  pairs_are = same ∙ sym (append-nil before);
  calls = h.2;
  result_is = refl;
  so = (h.3, h.4);
}

unsettled_stops : (v : Verdict) → is_verdict_of (Transfer true [] []) v ≡ true → is_settled_at v ≡ false → is_some (verdict_stop false v) ≡ true
unsettled_stops (DoneAt at) h k = apart (sym k)
unsettled_stops (Failed at) h k = apart (sym k)
unsettled_stops (Absent at) h k = apart h
unsettled_stops (Unknown at) h k = apart h
unsettled_stops (Unsupported at) h k = refl
unsettled_stops (Ended why) h k = refl
unsettled_stops Unsent h k = refl

pub settled_chunk : (file name : List ℕ) (from to : ℕ) (key : Parts) (before after : List Asking) (a b d : Option Log) (v : Verdict) (result : Result (Option Answer) NoMemory)
    → CopiesChunk file name from to a b (Ok None) → AsksOneFor (from_file name) key before after v → is_verdict_of (Transfer true [] []) v ≡ true → SettlesChunk name v b d result
    → StoresChunk file name from to key before after a d result
settled_chunk file name from to key before after a b d v result h o k s = by_test (is_settled_at v) refl s
  where
    one : Asking
    one = record { request = o.request; name = None; verdict = v }

    by_test : (t : Bool) → is_settled_at v ≡ t → MatchBool t ((r : Outcome) × (d ≡ logged b (Remove name r)) × (result ≡ removal_result (undone_answer v) r)) ((d ≡ b) × (result ≡ Ok (undone_answer v)))
        → StoresChunk file name from to key before after a d result
    by_test true e s = record {
      how = Settled h.0 h.1 (record { request = o.request; name = None; verdict = v }) s.0;
      pairs_are = o.added;
      calls = gained_more a b d (cut_calls file name from h.0 h.1) (if_made s.0 (Remove name s.0)) h.2 (gained_remove b d name s.0 s.1);
      result_is = s.2;
      so = (h.3, h.4, o.asks, e);
    }
    by_test false e s = record {
      how = Undone h.0 h.1 (record { request = o.request; name = None; verdict = v });
      pairs_are = o.added;
      calls = let P : Option Log → Type 0 = λ l. Gained a l (cut_calls file name from h.0 h.1) in subst P (sym s.0) h.2;
      result_is = s.1;
      so = (h.3, h.4, o.asks, unsettled_stops v k e);
    }

pub range_rises : (size chunk n : ℕ) → 0 < n → n ≤ count_of size chunk → 0 < chunk → from_of chunk n ≤ to_of size chunk n
range_rises size chunk n first last some = by_test (size == 0) refl last
  where
    one_more : (k : ℕ) → 0 < k → k * chunk ≡ (k - 1) * chunk + chunk
    one_more zero h = absurd (omega arith)
    one_more (suc k) h = let e : suc k - 1 ≡ k = omega arith in rw e (suc-mul k chunk)

    by_test : (b : Bool) → (size == 0) ≡ b → n ≤ count_of size chunk → from_of chunk n ≤ to_of size chunk n
    by_test true e h =
        let m : count_of size chunk ≡ 1 = rw e refl in
        let one : n ≡ 1 = omega arith in
        let none : (n - 1) * chunk ≡ 0 = rw one (zero-mul chunk) in
        omega (arith, none)
    by_test false e h =
        let m : count_of size chunk ≡ div_ceil size chunk = rw e refl in
        let most : n * chunk ≤ div_ceil size chunk * chunk = mul-le-mul_right chunk (omega arith) in
        let step : n * chunk ≡ (n - 1) * chunk + chunk = one_more n first in
        let end : div_ceil size chunk * chunk < size + chunk = (div_ceil_times size chunk some).1 in
        omega arith
