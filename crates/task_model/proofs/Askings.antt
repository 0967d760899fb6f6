-- What a longer journal says of the requests of a task.
use Rattle.std.proofs.Common.{◌≡◌, ℕ, List, [], ◌∷◌, ◌++◌, refl, sym, ap, ◌∙◌, append_assoc, Bool, true, false, ◌==◌, cond, Some, None, Option}
use Rattle.std.specs.Prelude.{option_map}
use Rattle.std.specs.List.{cons_option}
use Rattle.std.proofs.lemmas.List.{append-nil}
use Rattle.journal_model.specs.declared.verdict.Verdict.{Verdict}
use Rattle.annex_model.specs.Messages.{HostMessage, host_reading}
use Rattle.journal_model.specs.declared.entry.What.{What}
use Rattle.journal_model.specs.declared.entry.What.TheVariants.{Ask, Lost}
use Rattle.journal_model.specs.declared.entry.Entry.{Entry}
use Rattle.journal_model.specs.Journal.{any, each_of, asks, verdict_of, why_of, addressed}
use Rattle.journal_model.specs.Legality.{job_for, has_open_job}
use Rattle.journal_model.proofs.Looks.{entry}
use Rattle.task_model.specs.TaskRuns.{Asking, asking_of, askings_from, askings, lost_verdict}
use Rattle.task_model.specs.Askings.{name_before}
use Rattle.ann_key.proofs.Booleans.{left_false as either_left, right_false as either_right}
use Rattle.ann_key.proofs.Lists.{cons_option-append}
use Rattle.ann_key.proofs.Numbers.{same_number as same}
use Rattle.journal_model.proofs.Working.{SameVerdicts, all_asked, same_verdicts}

-- the entry is a request of task t, or stands for one
abbrev pub asks_for : ℕ → What → Bool
asks_for t (Ask child job task line) = task == t
asks_for t (Lost child task) = task == t
asks_for t _ = false

-- ---- along the list

pub askings_from-append : (journal : List Entry) (t : ℕ) (past xs ys : List Entry)
    → askings_from journal t past (xs ++ ys) ≡ askings_from journal t past xs ++ askings_from journal t (past ++ xs) ys
askings_from-append journal t past [] ys = ap (λ (p : List Entry). askings_from journal t p ys) (sym (append-nil past))
askings_from-append journal t past (e ∷ xs) ys =
    let o = asking_of journal t past e.what in
    let one = askings_from journal t (past ++ e ∷ []) xs in
    ap (cons_option o) (askings_from-append journal t (past ++ e ∷ []) xs ys
    ∙ ap (λ (p : List Entry). one ++ askings_from journal t p ys) (append_assoc past (e ∷ []) xs))
    ∙ sym (cons_option-append o one (askings_from journal t (past ++ e ∷ xs) ys))

unasked_entry : (journal : List Entry) (t : ℕ) (past : List Entry) (w : What) → asks_for t w ≡ false → asking_of journal t past w ≡ None
unasked_entry journal t past (Ask child job task line) h = rw h refl
unasked_entry journal t past (Lost child task) h = rw h refl
unasked_entry journal t past w h = refl

-- entries that ask nothing for the task
pub askings_from-none : (journal : List Entry) (t : ℕ) (past xs : List Entry) → any (asks_for t) xs ≡ false → askings_from journal t past xs ≡ []
askings_from-none journal t past [] h = refl
askings_from-none journal t past (e ∷ xs) h =
    ap (λ (o : Option Asking). cons_option o (askings_from journal t (past ++ e ∷ []) xs))
    (unasked_entry journal t past e.what (either_left (asks_for t e.what) (any (asks_for t) xs) h))
    ∙ askings_from-none journal t (past ++ e ∷ []) xs (either_right (asks_for t e.what) (any (asks_for t) xs) h)

-- ---- the same verdicts

abbrev pub Alike : List Entry → List Entry → ℕ → List Entry → What → Type 0
Alike j k t past w = asking_of j t past w ≡ asking_of k t past w

-- an entry asks alike in both, where its job is settled alike
pub alike : (j k : List Entry) (t : ℕ) (past xs : List Entry) (w : What) → SameVerdicts j k (cons_option (job_for t w) (each_of (job_for t) xs))
    → Alike j k t past w × SameVerdicts j k (each_of (job_for t) xs)
alike j k t past xs (Ask child job task line) h = go (task == t) h
  where
    asked : Verdict → Asking
    asked v = record { request = host_reading (addressed past child line).1; name = name_before past child job; verdict = v }

    go : (b : Bool) → SameVerdicts j k (cons_option (cond b (Some (child, job)) None) (each_of (job_for t) xs))
        → (cond b (option_map asked (verdict_of j child job)) None ≡ cond b (option_map asked (verdict_of k child job)) None) × SameVerdicts j k (each_of (job_for t) xs)
    go true h = (ap (option_map asked) h.0, h.1)
    go false h = (refl, h)
alike j k t past xs (Lost child task) h = (refl, h)
alike j k t past xs w h = (refl, h)

pub askings_alike : (j k : List Entry) (t : ℕ) (past xs : List Entry) → SameVerdicts j k (each_of (job_for t) xs) → askings_from j t past xs ≡ askings_from k t past xs
askings_alike j k t past [] h = refl
askings_alike j k t past (e ∷ xs) h =
    let a = alike j k t past xs e.what h in
    ap (λ (o : Option Asking). cons_option o (askings_from j t (past ++ e ∷ []) xs)) a.0
    ∙ ap (cons_option (asking_of k t past e.what)) (askings_alike j k t (past ++ e ∷ []) xs a.1)

-- ---- the askings of a longer journal

-- those of a task that has no open job, and then what is asked later
pub askings-append : (past more : List Entry) (t : ℕ) → has_open_job past t ≡ false
    → askings (past ++ more) t ≡ askings past t ++ askings_from (past ++ more) t past more
askings-append past more t h =
    askings_from-append (past ++ more) t [] past more
    ∙ ap (λ (xs : List Asking). xs ++ askings_from (past ++ more) t past more)
    (askings_alike (past ++ more) past t [] past (same_verdicts past more (each_of (job_for t) past) (all_asked t past) h))

-- entries that ask nothing for the task add nothing
pub askings-unasked : (past more : List Entry) (t : ℕ) → has_open_job past t ≡ false → any (asks_for t) more ≡ false
    → askings (past ++ more) t ≡ askings past t
askings-unasked past more t h none =
    askings-append past more t h
    ∙ ap (λ (xs : List Asking). askings past t ++ xs) (askings_from-none (past ++ more) t past more none)
    ∙ append-nil (askings past t)

-- a request that was settled in the end, and the name before it
pub askings-ask : (past more : List Entry) (t by child job : ℕ) (line : List ℕ) (request : Option HostMessage) (name : Option (List ℕ)) (v : Verdict)
    → has_open_job past t ≡ false → any (asks_for t) more ≡ false
    → host_reading (addressed past child line).1 ≡ request → name_before past child job ≡ name
    → verdict_of (past ++ entry by (Ask child job t line) ∷ more) child job ≡ Some v
    → askings (past ++ entry by (Ask child job t line) ∷ more) t ≡ askings past t ++ record { request = request; name = name; verdict = v } ∷ []
askings-ask past more t by child job line request name v h none reading named settled =
    let e = entry by (Ask child job t line) in
    let journal = past ++ e ∷ more in
    let rest : askings_from journal t (past ++ e ∷ []) more ≡ [] = askings_from-none journal t (past ++ e ∷ []) more none in
    let first : asking_of journal t past (Ask child job t line) ≡ Some (record { request = request; name = name; verdict = v }) =
    rw (same t) (rw settled (ap (λ (r : Option HostMessage). Some (record { request = r; name = name_before past child job; verdict = v })) reading
    ∙ ap (λ (n : Option (List ℕ)). Some (record { request = request; name = n; verdict = v })) named)) in
    askings-append past (e ∷ more) t h
    ∙ ap (λ (xs : List Asking). askings past t ++ xs)
    (ap (λ (o : Option Asking). cons_option o (askings_from journal t (past ++ e ∷ []) more)) first
    ∙ ap (cons_option (Some (record { request = request; name = name; verdict = v }))) rest)

-- a request that found its child ended or mute
pub askings-lost : (past more : List Entry) (t by child : ℕ) → has_open_job past t ≡ false → any (asks_for t) more ≡ false
    → askings (past ++ entry by (Lost child t) ∷ more) t ≡ askings past t ++ record { request = None; name = None; verdict = lost_verdict (why_of past child) } ∷ []
askings-lost past more t by child h none =
    let e = entry by (Lost child t) in
    let journal = past ++ e ∷ more in
    let rest : askings_from journal t (past ++ e ∷ []) more ≡ [] = askings_from-none journal t (past ++ e ∷ []) more none in
    let first : asking_of journal t past (Lost child t) ≡ Some (record { request = None; name = None; verdict = lost_verdict (why_of past child) }) = rw (same t) refl in
    askings-append past (e ∷ more) t h
    ∙ ap (λ (xs : List Asking). askings past t ++ xs)
    (ap (λ (o : Option Asking). cons_option o (askings_from journal t (past ++ e ∷ []) more)) first
    ∙ ap (cons_option (Some (record { request = None; name = None; verdict = lost_verdict (why_of past child) }))) rest)
