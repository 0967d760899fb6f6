-- The numbers of jobs have 64 bits.
use Rattle.std.proofs.Common.{◌≡◌, ℕ, ◌<◌, ◌^◌, List, [], ◌∷◌, ◌++◌, refl, sym, subst, Bool, true, false, not, ◌==◌, cond, Some, None, Option, arith}
use Rattle.std.specs.Prelude.{◌&&◌, ◌||◌, fold, map, filter, nat_lt, nat_le, length}
use Rattle.std.specs.List.{list_all}
use Rattle.std.proofs.lemmas.Bool.Decides.{nat_tests}
use Rattle.ann_key.specs.Numbers.{is_digit, value_of}
use Rattle.annex_model.specs.Messages.{HostMessage, host_reading}
use Rattle.annex_model.specs.Tags.{untag}
use Rattle.annex_model.proofs.TagReadings.{tagged_of_read}
use Rattle.kit_serve.specs.declared.kit.call.Said.{Said}
use Rattle.kit_serve.specs.Kit.Kits.{is_error, is_unexpected, is_readying}
use Rattle.kit_async_model.specs.declared.setup.Setup.{Setup}
use Rattle.kit_async_model.specs.declared.job.Job.{Job}
use Rattle.kit_async_model.specs.declared.entry.Entry.{Entry}
use Rattle.kit_async_model.specs.declared.entry.Entry.TheVariants.{Heard, Take, Call, Say, Wrote, Close, Lack}
use Rattle.kit_async_model.specs.declared.hearing.Hearing.{Hearing}
use Rattle.kit_async_model.specs.declared.hearing.Hearing.TheVariants.{Foul, Unexpected, Aside, Asks, Replies}
use Rattle.kit_async_model.specs.Jobs.{has_number, job_of, with_job, is_awaiting, lines_in, settles, finals_in}
use Rattle.kit_async_model.specs.Hearings.{nonzero, parted, is_export, message_heard, strange_heard, reading_heard, text_heard, part_heard, hearing_of, awaits_in, is_open, has_some, text_in, value_told}
use Rattle.kit_async_model.specs.Standings.{Standing, opening, new_job, with_value, with_taken, with_call, due_of, answer_due, called_in, is_some_due, said_in, heard_as, after, standing}
use Rattle.std.proofs.lemmas.Bool.{eqb-true as equal_number, and_parts as both}

pub zero_small : 0 < 2 ^ 64
zero_small = omega arith

pub small_of : (n : ℕ) → nat_lt n (2 ^ 64) ≡ true → n < 2 ^ 64
small_of n h = grind (arith, nat_tests)

pub is_small_of : (n : ℕ) → n < 2 ^ 64 → nat_lt n (2 ^ 64) ≡ true
is_small_of n h = grind (arith, nat_tests)

-- ---- of a line

abbrev SmallPart : Option (ℕ × List ℕ) → Type 0
SmallPart None = Unit {0}
SmallPart (Some t) = t.0 < 2 ^ 64

tagged_small : (line : List ℕ) (number : ℕ) (rest : List ℕ) → untag line ≡ Some (number, rest) → number < 2 ^ 64
tagged_small line number rest e =
    let t = tagged_of_read line number rest e in
    let few = (both (nat_le 1 (length t.digits) && nat_le (length t.digits) 20 && list_all is_digit t.digits) (nat_lt (value_of t.digits) (2 ^ 64)) t.form).1 in
    subst (λ (n : ℕ). n < 2 ^ 64) t.value (small_of (value_of t.digits) few)

parted_small : (tagged : Bool) (line : List ℕ) → SmallPart (parted tagged line)
parted_small false line = zero_small
parted_small true line = go (untag line) refl
  where
    keep : (t : ℕ × List ℕ) → t.0 < 2 ^ 64 → (b : Bool) → SmallPart (cond {A = Option (ℕ × List ℕ)} b None (Some t))
    keep t h true = tt
    keep t h false = h

    go : (o : Option (ℕ × List ℕ)) → untag line ≡ o → SmallPart (nonzero o)
    go None e = tt
    go (Some t) e = keep t (tagged_small line t.0 t.1 e) (t.0 == 0)

-- ---- of what it is

abbrev pub SmallHearing : Hearing → Type 0
SmallHearing Foul = Unit {0}
SmallHearing Unexpected = Unit {0}
SmallHearing Aside = Unit {0}
SmallHearing (Asks n) = n < 2 ^ 64
SmallHearing (Replies n) = n < 2 ^ 64

if_small : (c : Bool) (x y : Hearing) → SmallHearing x → SmallHearing y → SmallHearing (cond c x y)
if_small true x y h k = h
if_small false x y h k = k

message_small : (a o b : Bool) (n : ℕ) (m : HostMessage) → n < 2 ^ 64 → SmallHearing (message_heard a o b n m)
message_small a o b n m h =
    if_small (is_error m) Foul _ tt
    (if_small (is_unexpected a m) Unexpected _ tt
    (if_small a (Replies n) _ h
    (if_small (o || (is_readying (Some m) && b)) Unexpected (Asks n) tt h)))

strange_small : (a o : Bool) (n : ℕ) → n < 2 ^ 64 → SmallHearing (strange_heard a o n)
strange_small a o n h = if_small a Foul _ tt (if_small o Unexpected (Asks n) tt h)

reading_small : (a o b : Bool) (n : ℕ) (m : Option HostMessage) → n < 2 ^ 64 → SmallHearing (reading_heard a o b n m)
reading_small a o b n None h = strange_small a o n h
reading_small a o b n (Some m) h = message_small a o b n m h

text_small : (a o b : Bool) (n : ℕ) (text : List ℕ) → n < 2 ^ 64 → SmallHearing (text_heard a o b n text)
text_small a o b n text h =
    if_small (is_export text) (cond a Unexpected Aside) _ (if_small a Unexpected Aside tt tt) (reading_small a o b n (host_reading text) h)

part_small : (setup : Setup) (jobs : List Job) (o : Option (ℕ × List ℕ)) → SmallPart o → SmallHearing (part_heard setup jobs o)
part_small setup jobs None h = tt
part_small setup jobs (Some t) h = text_small (awaits_in setup (job_of jobs t.0)) (is_open (job_of jobs t.0)) (has_some jobs) t.0 t.1 h

pub hearing_small : (setup : Setup) (jobs : List Job) (tagged : Bool) (line : List ℕ) → SmallHearing (hearing_of setup jobs tagged line)
hearing_small setup jobs tagged line = part_small setup jobs (parted tagged line) (parted_small tagged line)

-- ---- of jobs

abbrev pub has_small : Job → Bool
has_small job = nat_lt job.number (2 ^ 64)

abbrev pub AllSmall : List Job → Type 0
AllSmall jobs = list_all has_small jobs ≡ true

changed_small : (n : ℕ) (change : Job → Job) → ((job : Job) → (change job).number ≡ job.number) → (jobs : List Job) → AllSmall jobs → AllSmall (with_job n change jobs)
changed_small n change same [] h = refl
changed_small n change same (job ∷ jobs) h =
    let b = both (has_small job) (list_all has_small jobs) h in
    rw (one (has_number n job) b.0, changed_small n change same jobs b.1) refl
  where
    one : (t : Bool) → has_small job ≡ true → has_small (cond t (change job) job) ≡ true
    one true k = subst (λ (m : ℕ). nat_lt m (2 ^ 64) ≡ true) (sym (same job)) k
    one false k = k

kept_small : (test : Job → Bool) (jobs : List Job) → AllSmall jobs → AllSmall (filter test jobs)
kept_small test [] h = refl
kept_small test (job ∷ jobs) h =
    let b = both (has_small job) (list_all has_small jobs) h in
    go (test job) refl b.0 (kept_small test jobs b.1)
  where
    go : (t : Bool) → test job ≡ t → has_small job ≡ true → AllSmall (filter test jobs) → AllSmall (filter test (job ∷ jobs))
    go true e k more = rw (e, k, more) refl
    go false e k more = rw e more

added_small : (jobs : List Job) (job : Job) → AllSmall jobs → has_small job ≡ true → AllSmall (jobs ++ job ∷ [])
added_small [] job h k = rw k refl
added_small (j ∷ jobs) job h k =
    let b = both (has_small j) (list_all has_small jobs) h in
    rw (b.0, added_small jobs job b.1 k) refl

heard_small : (setup : Setup) (s : Standing) (text : List ℕ) (h : Hearing) → SmallHearing h → AllSmall s.jobs → AllSmall (heard_as setup s text h).jobs
heard_small setup s text Foul n a = a
heard_small setup s text Unexpected n a = a
heard_small setup s text Aside n a = a
heard_small setup s text (Asks number) n a = added_small s.jobs (new_job number text s.prepared) a (is_small_of number n)
heard_small setup s text (Replies number) n a = changed_small number (with_value (value_told (host_reading text))) (λ job. refl) s.jobs a

said_small : (setup : Setup) (s : Standing) (o : Option Job) → AllSmall s.jobs → AllSmall (said_in setup s o).jobs
said_small setup s None a = a
said_small setup s (Some job) a = go (is_some_due s.due || s.over || is_awaiting setup job) refl
  where
    go : (b : Bool) → (is_some_due s.due || s.over || is_awaiting setup job) ≡ b → AllSmall (said_in setup s (Some job)).jobs
    go true e = rw e a
    go false e = rw e (kept_small (λ j. not (has_number job.number j)) s.jobs a)

called_small : (setup : Setup) (s : Standing) (said : Said) (o : Option Job) → AllSmall s.jobs → AllSmall (called_in setup s said o).jobs
called_small setup s said None a = a
called_small setup s said (Some job) a = changed_small job.number (with_call (settles setup job said)) (λ j. refl) s.jobs a

after_small : (setup : Setup) (s : Standing) (e : Entry) → AllSmall s.jobs → AllSmall (after setup s e).jobs
after_small setup s (Heard line) a =
    heard_small setup s (text_in s.tagged line) (hearing_of setup s.jobs s.tagged line) (hearing_small setup s.jobs s.tagged line) a
after_small setup s (Take job remote) a = changed_small job (with_taken remote) (λ j. refl) s.jobs a
after_small setup s (Call job remote said) a = called_small setup s said (job_of s.jobs job) a
after_small setup s (Say job line) a = said_small setup _ (job_of s.jobs job) a
after_small setup s Wrote a = a
after_small setup s Close a = a
after_small setup s Lack a = a

small_from : (setup : Setup) (s : Standing) (entries : List Entry) → AllSmall s.jobs → AllSmall (fold (after setup) s entries).jobs
small_from setup s [] a = a
small_from setup s (e ∷ rest) a = small_from setup (after setup s e) rest (after_small setup s e a)

pub standing_small : (setup : Setup) (journal : List Entry) → AllSmall (standing setup journal).jobs
standing_small setup journal = small_from setup opening journal refl

-- ---- of what is due

abbrev pub SmallDue : List (ℕ × List ℕ) → Type 0
SmallDue [] = Unit {0}
SmallDue (due ∷ rest) = (due.0 < 2 ^ 64) × SmallDue rest

mapped_small : (n : ℕ) → n < 2 ^ 64 → (lines : List (List ℕ)) → SmallDue (map (λ line. (n, line)) lines)
mapped_small n h [] = tt
mapped_small n h (line ∷ lines) = (h, mapped_small n h lines)

-- the job of a small number
found_small : (setup : Setup) (told : List (List ℕ)) (jobs : List Job) (n : ℕ) → n < 2 ^ 64 → SmallDue (due_of setup told (job_of jobs n))
found_small setup told [] n h = tt
found_small setup told (job ∷ jobs) n h = go (has_number n job) refl (found_small setup told jobs n h)
  where
    go : (b : Bool) → has_number n job ≡ b → SmallDue (due_of setup told (job_of jobs n)) → SmallDue (due_of setup told (job_of (job ∷ jobs) n))
    go true e more = rw e (mapped_small job.number (subst (λ (m : ℕ). m < 2 ^ 64) (sym (equal_number job.number n e)) h) (lines_in setup told job))
    go false e more = rw e more

pub heard_due : (setup : Setup) (s : Standing) (text : List ℕ) (h : Hearing) → SmallHearing h → s.due ≡ [] → SmallDue (heard_as setup s text h).due
heard_due setup s text Foul n d = rw d tt
heard_due setup s text Unexpected n d = (zero_small, tt)
heard_due setup s text Aside n d = rw d tt
heard_due setup s text (Asks number) n d = mapped_small number n (lines_in setup s.told (new_job number text s.prepared))
heard_due setup s text (Replies number) n d = found_small setup s.told (with_job number (with_value (value_told (host_reading text))) s.jobs) number n

answer_small : (setup : Setup) (job : Job) (said : Said) (over : Bool) → job.number < 2 ^ 64 → SmallDue (answer_due setup job said over)
answer_small setup job said over h = go (not over && settles setup job said) refl
  where
    go : (b : Bool) → (not over && settles setup job said) ≡ b → SmallDue (answer_due setup job said over)
    go true e = rw e (mapped_small job.number h (finals_in job said))
    go false e = rw e tt

-- the job of any number, among small ones
called_due_from : (setup : Setup) (s : Standing) (said : Said) (jobs : List Job) (n : ℕ) → AllSmall jobs → s.due ≡ [] → SmallDue (called_in setup s said (job_of jobs n)).due
called_due_from setup s said [] n a d = rw d tt
called_due_from setup s said (job ∷ jobs) n a d =
    let b = both (has_small job) (list_all has_small jobs) a in
    go (has_number n job) refl (small_of job.number b.0) (called_due_from setup s said jobs n b.1 d)
  where
    go : (t : Bool) → has_number n job ≡ t → job.number < 2 ^ 64 → SmallDue (called_in setup s said (job_of jobs n)).due
        → SmallDue (called_in setup s said (job_of (job ∷ jobs) n)).due
    go true e k more = rw e (answer_small setup job said s.over k)
    go false e k more = rw e more

pub called_due : (setup : Setup) (s : Standing) (said : Said) (n : ℕ) → AllSmall s.jobs → s.due ≡ [] → SmallDue (called_in setup s said (job_of s.jobs n)).due
called_due setup s said n a d = called_due_from setup s said s.jobs n a d
