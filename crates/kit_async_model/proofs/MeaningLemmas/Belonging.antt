-- To which job a line that is said belongs, and a call.
use Rattle.std.proofs.Common.{◌≡◌, ◌⊎◌, inl, inr, ℕ, List, [], ◌∷◌, ◌++◌, refl, sym, ap, subst, ◌∙◌, Bool, true, false, not, ◌==◌, cond, Some, None, Option, drop}
use Rattle.std.specs.Prelude.{◌&&◌, ◌||◌, fold, map, bytes_eq, codes}
use Rattle.std.specs.List.{list_any}
use Rattle.annex_model.specs.Messages.{host_reading}
use Rattle.kit_serve.specs.declared.kit.call.Said.{Said}
use Rattle.kit_serve.specs.Kit.Calls.{is_line_said}
use Rattle.kit_async_model.specs.declared.setup.Setup.{Setup}
use Rattle.kit_async_model.specs.declared.job.Job.{Job}
use Rattle.kit_async_model.specs.declared.entry.Entry.{Entry}
use Rattle.kit_async_model.specs.declared.entry.Entry.TheVariants.{Heard, Take, Call, Say, Wrote, Close, Lack}
use Rattle.kit_async_model.specs.declared.hearing.Hearing.{Hearing}
use Rattle.kit_async_model.specs.declared.hearing.Hearing.TheVariants.{Foul, Unexpected, Aside, Asks, Replies}
use Rattle.kit_async_model.specs.Jobs.{is_awaiting, is_job_line, has_number, job_of, without_job, lines_in, settles, finals_in}
use Rattle.kit_async_model.specs.Hearings.{text_in, value_told, hearing_of, is_open}
use Rattle.kit_async_model.specs.Legality.{some_job, is_called, may_come, comes_where, is_said, follows, legal_from, is_legal}
use Rattle.kit_async_model.specs.Standings.{Standing, opening, unexpected_line, new_job, with_call, due_of, with_request, with_told, told_by, is_some_due, called_in, said_line, said_in, heard_as, after, standing}
use Rattle.kit_async_model.proofs.Apart.{asks_new}
use Rattle.kit_async_model.proofs.Askings.{never}
use Rattle.kit_async_model.proofs.Fronts.{parts_from}
use Rattle.kit_async_model.proofs.Places.{job_last, job_changed}
use Rattle.kit_async_model.specs.Meaning.Belonging.{IsOfOpen, Belongs}
use Rattle.kit_async_model.proofs.MeaningLemmas.Numbers.{number_of, none_passes}
use Rattle.std.proofs.lemmas.Bool.{eqb-true as equal_is, and_parts as both, not-true as not_true}
use Rattle.ann_key.proofs.Lists.{equal_bytes}
use Rattle.kit_async_model.proofs.Across.{live}

-- ---- what is due

-- each line that is due is of an open job, or the last words
abbrev IsOwnedLine : Standing → ℕ × List ℕ → Type 0
IsOwnedLine s due = IsOfOpen s due.0 ⊎ ((s.over ≡ true) × (due ≡ (0, unexpected_line)))

abbrev IsOwned : Standing → List (ℕ × List ℕ) → Type 0
IsOwned s [] = Unit {0}
IsOwned s (due ∷ rest) = IsOwnedLine s due × IsOwned s rest

none_owned : (s : Standing) (due : List (ℕ × List ℕ)) → due ≡ [] → IsOwned s due
none_owned s due d = subst (IsOwned s) (sym d) tt

mapped_owned : (s : Standing) (m : ℕ) (lines : List (List ℕ)) → IsOfOpen s m → IsOwned s (map (λ line. (m, line)) lines)
mapped_owned s m [] k = tt
mapped_owned s m (line ∷ lines) k = (inl k, mapped_owned s m lines k)

job_owned : (setup : Setup) (s : Standing) (m : ℕ) → s.over ≡ false → IsOwned s (due_of setup s.told (job_of s.jobs m))
job_owned setup s m o = go (job_of s.jobs m) refl
  where
    go : (j : Option Job) → job_of s.jobs m ≡ j → IsOwned s (due_of setup s.told j)
    go None e = tt
    go (Some job) e =
        let opened : is_open (job_of s.jobs job.number) ≡ true = ap (λ (k : ℕ). is_open (job_of s.jobs k)) (number_of s.jobs m job e) ∙ ap is_open e in
        mapped_owned s job.number (lines_in setup s.told job) (record { opened = opened; live = o })

heard_owned : (setup : Setup) (s : Standing) (text : List ℕ) (h : Hearing) → s.due ≡ [] → s.over ≡ false → ((m : ℕ) → h ≡ Asks m → list_any (has_number m) s.jobs ≡ false)
    → IsOwned (heard_as setup s text h) (heard_as setup s text h).due
heard_owned setup s text Foul d o new = none_owned (record s { over = true }) s.due d
heard_owned setup s text Unexpected d o new = (inr (refl, refl), tt)
heard_owned setup s text Aside d o new = none_owned s s.due d
heard_owned setup s text (Asks m) d o new =
    let job : Job = new_job m text s.prepared in
    mapped_owned (with_request setup s job) m (lines_in setup s.told job) (record { opened = ap is_open (job_last s.jobs job (new m refl)); live = o })
heard_owned setup s text (Replies m) d o new = job_owned setup (with_told setup s m (value_told (host_reading text))) m o

answer_owned : (setup : Setup) (s : Standing) (said : Said) (job : Job) → job_of s.jobs job.number ≡ Some job
    → IsOwned (called_in setup s said (Some job)) (called_in setup s said (Some job)).due
answer_owned setup s said job found = go (not s.over && settles setup job said) refl
  where
    go : (b : Bool) → (not s.over && settles setup job said) ≡ b → IsOwned (called_in setup s said (Some job)) (cond b (map (λ line. (job.number, line)) (finals_in job said)) [])
    go false e = tt
    go true e =
        mapped_owned (called_in setup s said (Some job)) job.number (finals_in job said)
        (record {
          opened = ap is_open (job_changed (with_call (settles setup job said)) s.jobs job.number job (λ j. refl) found);
          live = not_true s.over (both (not s.over) (settles setup job said) e).0;
        })

called_owned : (setup : Setup) (s : Standing) (m : ℕ) (said : Said) → s.due ≡ [] → (o : Option Job) → job_of s.jobs m ≡ o
    → IsOwned (called_in setup s said o) (called_in setup s said o).due
called_owned setup s m said d None e = none_owned s s.due d
called_owned setup s m said d (Some job) e =
    answer_owned setup s said job (ap (job_of s.jobs) (number_of s.jobs m job e) ∙ e)

-- what is due after the first of it is still of an open job
rest_owned : (s : Standing) (line : List ℕ) (rest : List (ℕ × List ℕ)) → IsOwned s rest → IsOwned (said_line s line) rest
rest_owned s line [] k = tt
rest_owned s line (due ∷ rest) k = (one k.0, rest_owned s line rest k.1)
  where
    one : IsOwnedLine s due → IsOwnedLine (said_line s line) due
    one (inl o) = inl (record { opened = o.opened; live = o.live })
    one (inr o) = inr o

said_owned : (setup : Setup) (s : Standing) (o : Option Job) → IsOwned s s.due → IsOwned (said_in setup s o) (said_in setup s o).due
said_owned setup s None k = k
said_owned setup s (Some job) k = go (is_some_due s.due) refl
  where
    empty : (due : List (ℕ × List ℕ)) → is_some_due due ≡ false → due ≡ []
    empty [] e = refl
    empty (d ∷ rest) e = absurd cc

    done : s.due ≡ [] → (b : Bool) → (is_some_due s.due || s.over || is_awaiting setup job) ≡ b → IsOwned (said_in setup s (Some job)) (said_in setup s (Some job)).due
    done d true e = rw e k
    done d false e = rw e (none_owned (record s { told = told_by s.prepared job s.told; jobs = without_job job.number s.jobs }) s.due d)

    go : (b : Bool) → is_some_due s.due ≡ b → IsOwned (said_in setup s (Some job)) (said_in setup s (Some job)).due
    go true e = let stays : (is_some_due s.due || s.over || is_awaiting setup job) ≡ true = rw e refl in rw stays k
    go false e = done (empty s.due e) (is_some_due s.due || s.over || is_awaiting setup job) refl

-- ---- each entry

comes_owned : (setup : Setup) (s : Standing) (e : Entry) → s.due ≡ [] → may_come setup s e ≡ true → IsOwned (after setup s e) (after setup s e).due
comes_owned setup s (Heard line) d h =
    heard_owned setup s (text_in s.tagged line) (hearing_of setup s.jobs s.tagged line) d (live setup s h) (λ m e. asks_new setup s.jobs s.tagged line m e)
comes_owned setup s (Take m remote) d h = none_owned (after setup s (Take m remote)) s.due d
comes_owned setup s (Call m remote said) d h = called_owned setup s m said d (job_of s.jobs m) refl
comes_owned setup s (Say m line) d h = absurd cc
comes_owned setup s Wrote d h = none_owned (after setup s Wrote) s.due d
comes_owned setup s Close d h = none_owned (after setup s Close) s.due d
comes_owned setup s Lack d h = absurd cc

due_owned : (setup : Setup) (s : Standing) (e : Entry) (due : ℕ × List ℕ) (rest : List (ℕ × List ℕ)) → s.due ≡ due ∷ rest → IsOwned s rest → is_said due e ≡ true
    → IsOwned (after setup s e) (after setup s e).due
due_owned setup s (Say m line) due rest d k h =
    let less : rest ≡ drop 1 s.due = ap (drop 1) (sym d) in
    said_owned setup (said_line s line) (job_of s.jobs m) (subst (IsOwned (said_line s line)) less (rest_owned s line rest k))
due_owned setup s Lack due rest d k h = tt
due_owned setup s other due rest d k h = absurd cc

entry_owned : (setup : Setup) (s : Standing) (e : Entry) → IsOwned s (drop 1 s.due) → follows setup s e ≡ true → IsOwned (after setup s e) (after setup s e).due
entry_owned setup s e k h = go s.due refl h
  where
    go : (due : List (ℕ × List ℕ)) → s.due ≡ due → comes_where setup s due e ≡ true → IsOwned (after setup s e) (after setup s e).due
    go [] d l = comes_owned setup s e d l
    go (due ∷ rest) d l = due_owned setup s e due rest d (subst (IsOwned s) (ap (drop 1) d) k) l

dropped_owned : (s : Standing) (due : List (ℕ × List ℕ)) → IsOwned s due → IsOwned s (drop 1 due)
dropped_owned s [] k = tt
dropped_owned s (due ∷ rest) k = k.1

owned_from : (setup : Setup) (s : Standing) (rest : List Entry) → IsOwned s s.due → legal_from setup s rest ≡ true → IsOwned (fold (after setup) s rest) (fold (after setup) s rest).due
owned_from setup s [] k h = k
owned_from setup s (e ∷ rest) k h =
    let b = both (follows setup s e) (legal_from setup (after setup s e) rest) h in
    owned_from setup (after setup s e) rest (entry_owned setup s e (dropped_owned s s.due k) b.0) b.1

-- ---- what belongs to what

due_said : (s : Standing) (past : List Entry) (m : ℕ) (line : List ℕ) (due : ℕ × List ℕ) → IsOwnedLine s due → is_said due (Say m line) ≡ true → Belongs past s (Say m line)
due_said s past m line due k h =
    let b = both (m == due.0) (is_job_line m due.1 line) h in
    let is : m ≡ due.0 = equal_is m due.0 b.0 in
    go is b.1 k
  where
    go : m ≡ due.0 → is_job_line m due.1 line ≡ true → IsOfOpen s due.0 ⊎ ((s.over ≡ true) × (due ≡ (0, unexpected_line))) → Belongs past s (Say m line)
    go is l (inl o) = inl (subst (IsOfOpen s) (sym is) o)
    go is l (inr o) =
        let none : m ≡ 0 = is ∙ ap (λ (t : ℕ × List ℕ). t.0) o.1 in
        let text : due.1 ≡ unexpected_line = ap (λ (t : ℕ × List ℕ). t.1) o.1 in
        let same : bytes_eq line due.1 ≡ true = subst (λ (k : ℕ). is_job_line k due.1 line ≡ true) none l in
        inr (inr (record { over = o.0; job_is = none; line_is = equal_bytes line due.1 same ∙ text }))

entry_belongs : (setup : Setup) (s : Standing) (past : List Entry) (e : Entry) → IsOwned s s.due → follows setup s e ≡ true → Belongs past s e
entry_belongs setup s past (Say m line) k h = go s.due refl h
  where
    go : (due : List (ℕ × List ℕ)) → s.due ≡ due → comes_where setup s due (Say m line) ≡ true → Belongs past s (Say m line)
    go [] d l = absurd cc
    go (due ∷ rest) d l = let owned : IsOwned s (due ∷ rest) = subst (IsOwned s) d k in due_said s past m line due owned.0 l
entry_belongs setup s past (Call m remote said) k h = go s.due h
  where
    opened : (o : Option Job) → job_of s.jobs m ≡ o → some_job (is_called setup s.jobs remote) m s.jobs ≡ true → is_open o ≡ true
    opened None e t = absurd (never (some_job (is_called setup s.jobs remote) m s.jobs) t (none_passes (is_called setup s.jobs remote) s.jobs m e))
    opened (Some job) e t = refl

    go : (due : List (ℕ × List ℕ)) → comes_where setup s due (Call m remote said) ≡ true → is_open (job_of s.jobs m) ≡ true
    go [] l = opened (job_of s.jobs m) refl (both (is_line_said said) (some_job (is_called setup s.jobs remote) m s.jobs) l).1
    go (due ∷ rest) l = absurd cc
entry_belongs setup s past (Heard line) k h = tt
entry_belongs setup s past (Take m remote) k h = tt
entry_belongs setup s past Wrote k h = tt
entry_belongs setup s past Close k h = tt
entry_belongs setup s past Lack k h = tt

-- at the very first the version is due
first_belongs : (setup : Setup) (e : Entry) → follows setup opening e ≡ true → Belongs [] opening e
first_belongs setup (Say m line) h =
    let b = both (m == 0) (is_job_line m (codes "VERSION 1") line) h in
    let none : m ≡ 0 = equal_is m 0 b.0 in
    let same : bytes_eq line (codes "VERSION 1") ≡ true = subst (λ (k : ℕ). is_job_line k (codes "VERSION 1") line ≡ true) none b.1 in
    inr (inl (record { past_is = refl; job_is = none; line_is = equal_bytes line (codes "VERSION 1") same }))
first_belongs setup Lack h = tt
first_belongs setup e h = absurd cc

pub each_belongs : (setup : Setup) (past rest : List Entry) (entry : Entry) → is_legal setup (past ++ entry ∷ rest) ≡ true → Belongs past (standing setup past) entry
each_belongs setup [] rest entry h = first_belongs setup entry (both (follows setup opening entry) (legal_from setup (after setup opening entry) rest) h).0
each_belongs setup (e ∷ past) rest entry h =
    let b = both (follows setup opening e) (legal_from setup (after setup opening e) (past ++ entry ∷ rest)) h in
    let p = parts_from setup (after setup opening e) past (entry ∷ rest) b.1 in
    let s : Standing = standing setup (e ∷ past) in
    let owned : IsOwned s s.due = owned_from setup (after setup opening e) past (entry_owned setup opening e tt b.0) p.0 in
    entry_belongs setup s (e ∷ past) entry owned (both (follows setup s entry) (legal_from setup (after setup s entry) rest) p.1).0
