-- Entries of others leave a remote what it is to be called for.
use Rattle.std.proofs.Common.{◌≡◌, ◌≢◌, ◌⊎◌, inl, inr, ℕ, ◌+◌, List, [], ◌∷◌, ◌++◌, refl, sym, ap, subst, ◌∙◌, append_assoc, append-nil, Bool, true, false, not, ◌==◌, cond, Some, None, Option, arith}
use Rattle.std.specs.Prelude.{◌&&◌, ◌||◌, All, drop, find, filter, fold, map, nat_lt, is_none, is_some}
use Rattle.std.specs.List.{list_any}
use Rattle.std.proofs.lemmas.Bool.Decides.{nat_tests}
use Rattle.std.proofs.lemmas.List.Elements.{All-head, All-tail}
use Rattle.annex_model.specs.Messages.{host_reading}
use Rattle.threads.specs.declared.view.Link.{Link}
use Rattle.threads.specs.Log.{flat, NotBy, Allowed, Legal as LegalLog}
use Rattle.kit_serve.specs.declared.kit.call.Said.{Said}
use Rattle.kit_serve.specs.declared.kit.call.Call.{Call as RemoteCall}
use Rattle.kit_serve.specs.Kit.Calls.{is_line_said}
use Rattle.kit_serve.specs.Kit.Kits.{asked_by}
use Rattle.kit_async_model.specs.declared.setup.Setup.{Setup}
use Rattle.kit_async_model.specs.declared.job.Job.{Job}
use Rattle.kit_async_model.specs.declared.entry.Entry.{Entry}
use Rattle.kit_async_model.specs.declared.entry.Entry.TheVariants.{Heard, Take, Call, Say, Wrote, Close, Lack}
use Rattle.kit_async_model.specs.declared.hearing.Hearing.{Hearing}
use Rattle.kit_async_model.specs.declared.hearing.Hearing.TheVariants.{Foul, Unexpected, Aside, Asks, Replies}
use Rattle.kit_async_model.specs.Jobs.{is_making_ready, is_awaiting, is_for_any, is_number, is_worked_by, is_first_of_key, is_job_line, has_number, job_of, with_job, without_job, settles, finals_in, lines_in, due_in}
use Rattle.kit_async_model.specs.Hearings.{hearing_of, text_in, value_told}
use Rattle.kit_async_model.specs.Legality.{Legal, holds_back, is_idle, is_free, some_job, is_turn_of, is_called, is_said, may_come, comes_where, follows, legal_from}
use Rattle.kit_async_model.specs.Standings.{Standing, new_job, with_value, with_taken, with_call, due_of, answer_due, called_in, is_some_due, said_line, said_in, heard_as, after, standing}
use Rattle.kit_async_model.specs.Events.{IsMadeBy, MayStep}
use Rattle.kit_async_model.specs.Books.{AreApart}
use Rattle.kit_async_model.specs.Callings.{call_of, calls_from, calls_of}
use Rattle.kit_async_model.proofs.Apart.{Awaits, asks_new, replies_awaited, after_apart, standing_apart}
use Rattle.kit_async_model.proofs.Fronts.{parts, standing_append}
use Rattle.kit_async_model.proofs.Places.{passes_of}
use Rattle.kit_async_model.proofs.Askings.{Busy, InTurn, at_work, never, unequal_by, no_more, found_not, found_changed, found_kept, found_more, none_changed, none_kept, none_last, only_job, only_passes}
use Rattle.std.proofs.lemmas.Bool.{and_parts as both, eqb-true as equal_is}
use Rattle.ann_key.proofs.Booleans.{never_true as decided}

-- ---- what is done to the jobs

-- a job of another number changes, and isn't worked on by this remote then but where it was
change_keeps : (setup : Setup) (r n : ℕ) (change : Job → Job) → ((x : Job) → is_making_ready (change x) ≡ is_making_ready x)
    → ((x : Job) → is_worked_by r (change x) ≡ true → is_worked_by r x ≡ true) → (jobs : List Job) (job : Job) → has_number n job ≡ false
    → Busy setup r jobs job → Busy setup r (with_job n change jobs) job
change_keeps setup r n change same mono jobs job other (inl f) = inl (found_changed (at_work r) n change works jobs job f other)
  where
    works : (x : Job) → at_work r (change x) ≡ true → at_work r x ≡ true
    works x t =
        let b = both (not (is_making_ready (change x))) (is_worked_by r (change x)) t in
        let m : not (is_making_ready x) ≡ true = ap not (sym (same x)) ∙ b.0 in
        rw (m, mono x b.1) refl
change_keeps setup r n change same mono jobs job other (inr t) = inr (record {
  found = found_changed is_making_ready n change (λ x k. sym (same x) ∙ k) jobs job t.found other;
  turn = t.turn;
  idle = none_changed (is_worked_by r) n change mono jobs t.idle;
})

filter_keeps : (setup : Setup) (r : ℕ) (t : Job → Bool) (jobs : List Job) (job : Job) → t job ≡ true → Busy setup r jobs job → Busy setup r (filter t jobs) job
filter_keeps setup r t jobs job k (inl f) = inl (found_kept (at_work r) t jobs job f k)
filter_keeps setup r t jobs job k (inr b) = inr (record {
  found = found_kept is_making_ready t jobs job b.found k;
  turn = b.turn;
  idle = none_kept (is_worked_by r) t jobs b.idle;
})

last_keeps : (setup : Setup) (r : ℕ) (new : Job) (jobs : List Job) (job : Job) → is_worked_by r new ≡ false → Busy setup r jobs job → Busy setup r (jobs ++ new ∷ []) job
last_keeps setup r new jobs job k (inl f) = inl (found_more (at_work r) jobs (new ∷ []) job f)
last_keeps setup r new jobs job k (inr b) = inr (record {
  found = found_more is_making_ready jobs (new ∷ []) job b.found;
  turn = b.turn;
  idle = none_last (is_worked_by r) jobs new b.idle k;
})

-- ---- what is known of the job

-- some test finds it
record Listed (jobs : List Job) (job : Job) : Type 0 where
  test : Job → Bool
  found : find test jobs ≡ Some job

listed : (setup : Setup) (r : ℕ) (jobs : List Job) (job : Job) → Busy setup r jobs job → Listed jobs job
listed setup r jobs job (inl f) = record { test = at_work r; found = f }
listed setup r jobs job (inr t) = record { test = is_making_ready; found = t.found }

-- the lines that are due aren't its
abbrev pub DueApart : List (ℕ × List ℕ) → Bool → Job → Type 0
DueApart [] over job = Unit {0}
DueApart (d ∷ rest) over job = ((over ≡ true) ⊎ (has_number d.0 job ≡ false)) × DueApart rest over job

abbrev Lasts : Setup → ℕ → Standing → Job → Type 0
Lasts setup r s job = Busy setup r s.jobs job × DueApart s.due s.over job

mapped_apart : (over : Bool) (job : Job) (n : ℕ) (lines : List (List ℕ)) → has_number n job ≡ false → DueApart (map (λ line. (n, line)) lines) over job
mapped_apart over job n [] h = tt
mapped_apart over job n (line ∷ lines) h = (inr h, mapped_apart over job n lines h)

-- ---- a line is heard

holds : (setup : Setup) (r : ℕ) (tagged : Bool) (jobs : List Job) (job : Job) → InTurn setup r jobs job → list_any (holds_back setup tagged) jobs ≡ false → ⊥
holds setup r tagged jobs job t none =
    let m : is_making_ready job ≡ true = passes_of is_making_ready jobs job t.found in
    let b = both (not (is_awaiting setup job) && not job.settled && job.calls == r) (nat_lt r setup.remotes) t.turn in
    let c = both (not (is_awaiting setup job) && not job.settled) (job.calls == r) b.0 in
    let w : not (is_awaiting setup job) ≡ true = (both (not (is_awaiting setup job)) (not job.settled) c.0).0 in
    let k : holds_back setup tagged job ≡ false = found_not is_making_ready (holds_back setup tagged) jobs job t.found none in
    let h : holds_back setup tagged job ≡ true = ap (λ (b : Bool). cond b (not (is_awaiting setup job)) (not tagged)) m ∙ w in
    never (holds_back setup tagged job) h k

working : (setup : Setup) (r : ℕ) (tagged : Bool) (jobs : List Job) (job : Job) → Busy setup r jobs job → list_any (holds_back setup tagged) jobs ≡ false → find (at_work r) jobs ≡ Some job
working setup r tagged jobs job (inl f) none = f
working setup r tagged jobs job (inr t) none = absurd (holds setup r tagged jobs job t none)

-- the job that awaits a value is another
awaits_other : (setup : Setup) (r : ℕ) (jobs : List Job) (job : Job) (n : ℕ) → AreApart jobs → find (at_work r) jobs ≡ Some job → Awaits setup jobs n → has_number n job ≡ false
awaits_other setup r jobs job n a f w = decided (has_number n job) same
  where
    not_both : (b : Bool) → b ≡ true → not b ≡ true → ⊥
    not_both true x y = cc
    not_both false x y = cc

    same : has_number n job ≡ true → ⊥
    same h =
        let is : Some w.job ≡ Some job = sym w.found ∙ only_job (at_work r) jobs job n a f h in
        let one : w.job ≡ job = cc in
        let waits : is_awaiting setup job ≡ true = subst (λ (j : Job). is_awaiting setup j ≡ true) one w.awaits in
        let m : is_making_ready job ≡ true = (both (is_making_ready job) _ waits).0 in
        let k : not (is_making_ready job) ≡ true = (both (not (is_making_ready job)) (is_worked_by r job) (passes_of (at_work r) jobs job f)).0 in
        not_both (is_making_ready job) m k

found_due : (setup : Setup) (told : List (List ℕ)) (over : Bool) (job : Job) (jobs : List Job) (n : ℕ) → has_number n job ≡ false → DueApart (due_of setup told (job_of jobs n)) over job
found_due setup told over job jobs n h = go (job_of jobs n) refl
  where
    go : (o : Option Job) → job_of jobs n ≡ o → DueApart (due_of setup told o) over job
    go None e = tt
    go (Some j) e =
        let is : j.number ≡ n = equal_is j.number n (passes_of (has_number n) jobs j e) in
        mapped_apart over job j.number (lines_in setup told j) (subst (λ (m : ℕ). has_number m job ≡ false) (sym is) h)

heard_lasts : (setup : Setup) (r : ℕ) (s : Standing) (text : List ℕ) (job : Job) (h : Hearing) → find (at_work r) s.jobs ≡ Some job → s.due ≡ []
    → ((n : ℕ) → h ≡ Asks n → has_number n job ≡ false) → ((n : ℕ) → h ≡ Replies n → has_number n job ≡ false) → Lasts setup r (heard_as setup s text h) job
heard_lasts setup r s text job Foul f d new told = (inl f, rw d tt)
heard_lasts setup r s text job Unexpected f d new told = (inl f, (inl refl, tt))
heard_lasts setup r s text job Aside f d new told = (inl f, rw d tt)
heard_lasts setup r s text job (Asks n) f d new told = (
  last_keeps setup r (new_job n text s.prepared) s.jobs job refl (inl f),
  mapped_apart s.over job n (lines_in setup s.told (new_job n text s.prepared)) (new n refl),
)
heard_lasts setup r s text job (Replies n) f d new told = (
  change_keeps setup r n (with_value (value_told (host_reading text))) (λ x. refl) (λ x t. t) s.jobs job (told n refl) (inl f),
  found_due setup s.told s.over job (with_job n (with_value (value_told (host_reading text))) s.jobs) n (told n refl),
)

-- ---- a request is taken up, or a remote called

-- the job that another takes up is another
free_other : (setup : Setup) (r n : ℕ) (jobs : List Job) (job : Job) → AreApart jobs → Busy setup r jobs job → some_job (is_free setup jobs) n jobs ≡ true → has_number n job ≡ false
free_other setup r n jobs job a b s = decided (has_number n job) (λ h. taken b (only_passes (listed setup r jobs job b).test (is_free setup jobs) jobs job n a (listed setup r jobs job b).found h s))
  where
    none_and_some : (o : Option ℕ) → is_none o ≡ true → is_number r o ≡ true → ⊥
    none_and_some None x y = cc
    none_and_some (Some k) x y = cc

    making : (b : Bool) → b ≡ true → (not b && is_some (asked_by (due_in setup job))) ≡ true → ⊥
    making true x y = cc
    making false x y = cc

    taken : Busy setup r jobs job → is_free setup jobs job ≡ true → ⊥
    taken (inl f) t =
        let one = both (is_for_any setup job && is_none job.taken && job.calls == 0) (is_first_of_key jobs job) t in
        let two = both (is_for_any setup job && is_none job.taken) (job.calls == 0) one.0 in
        let three = both (is_for_any setup job) (is_none job.taken) two.0 in
        let w = both (not (is_making_ready job)) (is_worked_by r job) (passes_of (at_work r) jobs job f) in
        none_and_some job.taken three.1 (both (is_number r job.taken) (job.calls == 0) w.1).0
    taken (inr k) t =
        let one = both (is_for_any setup job && is_none job.taken && job.calls == 0) (is_first_of_key jobs job) t in
        let two = both (is_for_any setup job && is_none job.taken) (job.calls == 0) one.0 in
        let three = both (is_for_any setup job) (is_none job.taken) two.0 in
        making (is_making_ready job) (passes_of is_making_ready jobs job k.found) three.0

-- the job that another is called for is another
called_other : (setup : Setup) (r o n : ℕ) (jobs : List Job) (job : Job) → (o == r) ≡ false → AreApart jobs → Busy setup r jobs job → some_job (is_called setup jobs o) n jobs ≡ true
    → has_number n job ≡ false
called_other setup r o n jobs job apart a b s =
    decided (has_number n job) (λ h. same b (only_passes (listed setup r jobs job b).test (is_called setup jobs o) jobs job n a (listed setup r jobs job b).found h s))
  where
    two_numbers : (k : Option ℕ) → is_number o k ≡ true → is_number r k ≡ true → ⊥
    two_numbers None x y = cc
    two_numbers (Some k) x y = two_equal k x y
      where
        two_equal : (k : ℕ) → (k == o) ≡ true → (k == r) ≡ true → ⊥
        two_equal k x y = grind (arith, nat_tests)

    two_calls : (k : ℕ) → (k == o) ≡ true → (k == r) ≡ true → ⊥
    two_calls k x y = grind (arith, nat_tests)

    worked : (m : Bool) → is_making_ready job ≡ m → not m ≡ true → is_called setup jobs o job ≡ true → is_worked_by o job ≡ true
    worked true e n c = cc
    worked false e n c = subst (λ (m : Bool). cond m (is_turn_of setup jobs o job) (is_worked_by o job) ≡ true) e c

    turned : is_making_ready job ≡ true → is_called setup jobs o job ≡ true → is_turn_of setup jobs o job ≡ true
    turned e c = subst (λ (m : Bool). cond m (is_turn_of setup jobs o job) (is_worked_by o job) ≡ true) e c

    same : Busy setup r jobs job → is_called setup jobs o job ≡ true → ⊥
    same (inl f) c =
        let w = both (not (is_making_ready job)) (is_worked_by r job) (passes_of (at_work r) jobs job f) in
        let v : is_worked_by o job ≡ true = worked (is_making_ready job) refl w.0 c in
        two_numbers job.taken (both (is_number o job.taken) (job.calls == 0) v).0 (both (is_number r job.taken) (job.calls == 0) w.1).0
    same (inr k) c =
        let t = turned (passes_of is_making_ready jobs job k.found) c in
        let one = both (is_making_ready job && not (is_awaiting setup job) && not job.settled && job.calls == o && nat_lt o setup.remotes) (is_idle jobs o) t in
        let two = both (is_making_ready job && not (is_awaiting setup job) && not job.settled && job.calls == o) (nat_lt o setup.remotes) one.0 in
        let three = both (is_making_ready job && not (is_awaiting setup job) && not job.settled) (job.calls == o) two.0 in
        let mine = both (not (is_awaiting setup job) && not job.settled && job.calls == r) (nat_lt r setup.remotes) k.turn in
        let calls = both (not (is_awaiting setup job) && not job.settled) (job.calls == r) mine.0 in
        two_calls job.calls three.1 calls.1

answer_apart : (setup : Setup) (j : Job) (said : Said) (over now : Bool) (job : Job) → has_number j.number job ≡ false → DueApart (answer_due setup j said over) now job
answer_apart setup j said over now job h = go (not over && settles setup j said) refl
  where
    go : (b : Bool) → (not over && settles setup j said) ≡ b → DueApart (answer_due setup j said over) now job
    go true e = rw e (mapped_apart now job j.number (finals_in j said) h)
    go false e = rw e tt

called_lasts : (setup : Setup) (r n : ℕ) (s : Standing) (said : Said) (job : Job) → has_number n job ≡ false → s.due ≡ [] → Busy setup r s.jobs job
    → Lasts setup r (called_in setup s said (job_of s.jobs n)) job
called_lasts setup r n s said job other d b = go (job_of s.jobs n) refl
  where
    never_again : (x : Job) (settled : Bool) → is_worked_by r (with_call settled x) ≡ true → is_worked_by r x ≡ true
    never_again x settled t = let k = both (is_number r x.taken) (x.calls + 1 == 0) t in absurd (never (x.calls + 1 == 0) k.1 (no_more x.calls))

    go : (o : Option Job) → job_of s.jobs n ≡ o → Lasts setup r (called_in setup s said o) job
    go None e = (b, rw d tt)
    go (Some j) e =
        let is : j.number ≡ n = equal_is j.number n (passes_of (has_number n) s.jobs j e) in
        let h : has_number j.number job ≡ false = subst (λ (m : ℕ). has_number m job ≡ false) (sym is) other in (
          change_keeps setup r j.number (with_call (settles setup j said)) (λ x. refl) (λ x t. never_again x (settles setup j said) t) s.jobs job h b,
          answer_apart setup j said s.over s.over job h,
        )

-- ---- a line is said

not_number : (n k : ℕ) (job : Job) → n ≡ k → has_number k job ≡ false → not (has_number n job) ≡ true
not_number n k job e h = ap (λ (m : ℕ). not (has_number m job)) e ∙ ap not h

said_lasts : (setup : Setup) (r : ℕ) (s : Standing) (n : ℕ) (line : List ℕ) (job : Job) → (s.over ≡ true) ⊎ (has_number n job ≡ false) → DueApart (drop 1 s.due) s.over job
    → Busy setup r s.jobs job
    → Lasts setup r (said_in setup (said_line s line) (job_of s.jobs n)) job
said_lasts setup r s n line job apart more b = go (job_of s.jobs n) refl
  where
    over_or : (a b c : Bool) → b ≡ true → (a || b || c) ≡ false → ⊥
    over_or true b c x y = cc
    over_or false true c x y = cc
    over_or false false c x y = cc

    kept : (j : Job) → j.number ≡ n → (is_some_due (drop 1 s.due) || s.over || is_awaiting setup j) ≡ false → (s.over ≡ true) ⊎ (has_number n job ≡ false) → Busy setup r (without_job j.number s.jobs) job
    kept j is e (inl o) = absurd (over_or (is_some_due (drop 1 s.due)) s.over (is_awaiting setup j) o e)
    kept j is e (inr h) = filter_keeps setup r (λ x. not (has_number j.number x)) s.jobs job (not_number j.number n job is h) b

    settle : (j : Job) → j.number ≡ n → (t : Bool) → (is_some_due (drop 1 s.due) || s.over || is_awaiting setup j) ≡ t → Lasts setup r (said_in setup (said_line s line) (Some j)) job
    settle j is true e = rw e (b, more)
    settle j is false e = rw e (kept j is e apart, more)

    go : (o : Option Job) → job_of s.jobs n ≡ o → Lasts setup r (said_in setup (said_line s line) o) job
    go None e = (b, more)
    go (Some j) e = settle j (equal_is j.number n (passes_of (has_number n) s.jobs j e)) (is_some_due (drop 1 s.due) || s.over || is_awaiting setup j) refl

-- ---- any entry of another

comes_lasts : (setup : Setup) (r by : ℕ) (s : Standing) (e : Entry) (job : Job) → by ≢ r + 3 → AreApart s.jobs → Busy setup r s.jobs job → s.due ≡ [] → IsMadeBy by e
    → may_come setup s e ≡ true → Lasts setup r (after setup s e) job
comes_lasts setup r by s (Heard line) job other a b d made m =
    let quiet = both (not s.over && not s.closed) (not (list_any (holds_back setup s.tagged) s.jobs)) m in
    let none : list_any (holds_back setup s.tagged) s.jobs ≡ false = not_true (list_any (holds_back setup s.tagged) s.jobs) quiet.1 in
    let f = working setup r s.tagged s.jobs job b none in
    heard_lasts setup r s (text_in s.tagged line) job (hearing_of setup s.jobs s.tagged line) f d
    (λ n k. found_not (at_work r) (has_number n) s.jobs job f (asks_new setup s.jobs s.tagged line n k))
    (λ n k. awaits_other setup r s.jobs job n a f (replies_awaited setup s.jobs s.tagged line n k))
  where
    not_true : (x : Bool) → not x ≡ true → x ≡ false
    not_true true h = cc
    not_true false h = refl
comes_lasts setup r by s (Take n o) job other a b d made m =
    let k = both (not s.over && nat_lt o setup.remotes && is_idle s.jobs o) (some_job (is_free setup s.jobs) n s.jobs) m in
    let apart : (o == r) ≡ false = unequal_by by o r made other in
    let h = free_other setup r n s.jobs job a b k.1 in (
      change_keeps setup r n (with_taken o) (λ x. refl) (λ x t. absurd (never (o == r) (both (o == r) (x.calls == 0) t).0 apart)) s.jobs job h b,
      rw d tt,
    )
comes_lasts setup r by s (Call n o said) job other a b d made m =
    let k = both (is_line_said said) (some_job (is_called setup s.jobs o) n s.jobs) m in
    called_lasts setup r n s said job (called_other setup r o n s.jobs job (unequal_by by o r made other) a b k.1) d b
comes_lasts setup r by s (Say n line) job other a b d made m = cc
comes_lasts setup r by s Wrote job other a b d made m = (b, rw d tt)
comes_lasts setup r by s Close job other a b d made m = (b, rw d tt)
comes_lasts setup r by s Lack job other a b d made m = cc

due_lasts : (setup : Setup) (r : ℕ) (s : Standing) (d : ℕ × List ℕ) (rest : List (ℕ × List ℕ)) (e : Entry) (job : Job) → Busy setup r s.jobs job → s.due ≡ d ∷ rest
    → DueApart (d ∷ rest) s.over job → is_said d e ≡ true → Lasts setup r (after setup s e) job
due_lasts setup r s d rest (Heard line) job b k apart m = cc
due_lasts setup r s d rest (Take n o) job b k apart m = cc
due_lasts setup r s d rest (Call n o said) job b k apart m = cc
due_lasts setup r s d rest (Say n line) job b k apart m =
    let is : n ≡ d.0 = equal_is n d.0 (both (n == d.0) (is_job_line n d.1 line) m).0 in
    let more : DueApart (drop 1 s.due) s.over job = subst (λ (due : List (ℕ × List ℕ)). DueApart (drop 1 due) s.over job) (sym k) apart.1 in
    said_lasts setup r s n line job (moved apart.0 is) more b
  where
    moved : (s.over ≡ true) ⊎ (has_number d.0 job ≡ false) → n ≡ d.0 → (s.over ≡ true) ⊎ (has_number n job ≡ false)
    moved (inl o) is = inl o
    moved (inr h) is = inr (subst (λ (k : ℕ). has_number k job ≡ false) (sym is) h)
due_lasts setup r s d rest Wrote job b k apart m = cc
due_lasts setup r s d rest Close job b k apart m = cc
due_lasts setup r s d rest Lack job b k apart m = (b, tt)

entry_lasts : (setup : Setup) (r by : ℕ) (s : Standing) (e : Entry) (job : Job) → by ≢ r + 3 → AreApart s.jobs → Lasts setup r s job → IsMadeBy by e → follows setup s e ≡ true
    → Lasts setup r (after setup s e) job
entry_lasts setup r by s e job other a l made f = go s.due refl l.1 f
  where
    go : (due : List (ℕ × List ℕ)) → s.due ≡ due → DueApart due s.over job → comes_where setup s due e ≡ true → Lasts setup r (after setup s e) job
    go [] k apart m = comes_lasts setup r by s e job other a l.0 k made m
    go (d ∷ rest) k apart m = due_lasts setup r s d rest e job l.0 k apart m

group_lasts : (setup : Setup) (r by : ℕ) (s : Standing) (group : List Entry) (job : Job) → by ≢ r + 3 → AreApart s.jobs → Lasts setup r s job → All (IsMadeBy by) group
    → legal_from setup s group ≡ true → Lasts setup r (fold (after setup) s group) job
group_lasts setup r by s [] job other a l made f = l
group_lasts setup r by s (e ∷ group) job other a l made f =
    let k = both (follows setup s e) (legal_from setup (after setup s e) group) f in
    group_lasts setup r by (after setup s e) group job other (after_apart setup s e a)
    (entry_lasts setup r by s e job other a l (All-head (IsMadeBy by) e group made) k.0) (All-tail (IsMadeBy by) e group made) k.1

pub log_lasts : (setup : Setup) (r : ℕ) (past : List Entry) (ks : List (Link Entry)) (job : Job) → LegalLog (Allowed IsMadeBy MayStep) setup past ks → NotBy (r + 3) ks → Legal setup past
    → Busy setup r (standing setup past).jobs job → Busy setup r (standing setup (past ++ flat ks)).jobs job
log_lasts setup r past [] job h n l b = subst (λ (j : List Entry). Busy setup r (standing setup j).jobs job) (sym (append-nil past)) b
log_lasts setup r past (k ∷ ks) job h n l b =
    let legal : Legal setup (past ++ k.group) = h.0.2.1.legal in
    let more = group_lasts setup r k.by (standing setup past) k.group job n.0 (standing_apart setup past) (b, told (standing setup past).due l.told) h.0.2.0 (parts setup past k.group legal.follow).1 in
    subst (λ (j : List Entry). Busy setup r (standing setup j).jobs job) (append_assoc past k.group (flat ks))
    (log_lasts setup r (past ++ k.group) ks job h.1 n.1 legal (subst (λ (s : Standing). Busy setup r s.jobs job) (sym (standing_append setup past k.group)) more.0))
  where
    told : (due : List (ℕ × List ℕ)) → due ≡ [] → DueApart due (standing setup past).over job
    told [] e = tt
    told (d ∷ rest) e = cc

-- ---- others make no call of this remote

uncalled : (setup : Setup) (r by : ℕ) (s : Standing) (e : Entry) → by ≢ r + 3 → IsMadeBy by e → call_of setup s r e ≡ []
uncalled setup r by s (Heard line) other made = refl
uncalled setup r by s (Take n o) other made = refl
uncalled setup r by s (Call n o said) other made = rw (unequal_by by o r made other) refl
uncalled setup r by s (Say n line) other made = refl
uncalled setup r by s Wrote other made = refl
uncalled setup r by s Close other made = refl
uncalled setup r by s Lack other made = refl

uncalled_group : (setup : Setup) (r by : ℕ) (s : Standing) (group : List Entry) → by ≢ r + 3 → All (IsMadeBy by) group → calls_from setup s r group ≡ []
uncalled_group setup r by s [] other made = refl
uncalled_group setup r by s (e ∷ group) other made =
    rw (uncalled setup r by s e other (All-head (IsMadeBy by) e group made)) (uncalled_group setup r by (after setup s e) group other (All-tail (IsMadeBy by) e group made))

calls_from-append : (setup : Setup) (s : Standing) (r : ℕ) (xs ys : List Entry) → calls_from setup s r (xs ++ ys) ≡ calls_from setup s r xs ++ calls_from setup (fold (after setup) s xs) r ys
calls_from-append setup s r [] ys = refl
calls_from-append setup s r (e ∷ xs) ys =
    ap (λ (cs : List RemoteCall). call_of setup s r e ++ cs) (calls_from-append setup (after setup s e) r xs ys)
    ∙ sym (append_assoc (call_of setup s r e) (calls_from setup (after setup s e) r xs) (calls_from setup (fold (after setup) (after setup s e) xs) r ys))

pub calls_of-append : (setup : Setup) (r : ℕ) (xs ys : List Entry) → calls_of setup r (xs ++ ys) ≡ calls_of setup r xs ++ calls_from setup (standing setup xs) r ys
calls_of-append setup r xs ys = calls_from-append setup _ r xs ys

pub uncalled_log : (setup : Setup) (r : ℕ) (past : List Entry) (ks : List (Link Entry)) → LegalLog (Allowed IsMadeBy MayStep) setup past ks → NotBy (r + 3) ks
    → calls_of setup r (past ++ flat ks) ≡ calls_of setup r past
uncalled_log setup r past [] h n = ap (calls_of setup r) (append-nil past)
uncalled_log setup r past (k ∷ ks) h n =
    ap (calls_of setup r) (sym (append_assoc past k.group (flat ks)))
    ∙ uncalled_log setup r (past ++ k.group) ks h.1 n.1
    ∙ calls_of-append setup r past k.group
    ∙ ap (λ (cs : List RemoteCall). calls_of setup r past ++ cs) (uncalled_group setup r k.by (standing setup past) k.group n.0 h.0.2.0)
    ∙ append-nil (calls_of setup r past)
