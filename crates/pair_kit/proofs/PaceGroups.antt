-- What one event adds to the journal keeps every child in step, and ends none for what it said.
use Rattle.std.proofs.Common.{ℕ, ◌≡◌, ◌+◌, ◌==◌, Bool, true, false, not, List, [], ◌∷◌, ◌++◌, refl, sym, ap, subst, ◌∙◌, append-nil}
use Rattle.std.specs.Prelude.{◌&&◌, ◌||◌}
use Rattle.std.specs.List.{list_all}
use Rattle.std.proofs.lemmas.Bool.{not-true, and_parts as both, eqb-true as same_number}
use Rattle.annex_model.specs.Messages.{RemoteMessage}
use Rattle.registers.specs.Registers.{IsKept}
use Rattle.journal_model.specs.declared.verdict.Why.{Why}
use Rattle.journal_model.specs.declared.verdict.Why.TheVariants.{Foul, Error, Version}
use Rattle.journal_model.specs.declared.verdict.Verdict.{Verdict}
use Rattle.journal_model.specs.declared.verdict.Verdict.TheVariants.{Ended}
use Rattle.journal_model.specs.declared.entry.What.{What}
use Rattle.journal_model.specs.declared.entry.What.TheVariants.{Claim, Start, NoStart, Lead, Ask, Put, Sent, Mute, Got, End, Verdict as Settled, Lost, Answer as Answered, Note as Noted, Again}
use Rattle.journal_model.specs.declared.entry.Entry.{Entry}
use Rattle.journal_model.specs.declared.opening.Opening.{Opening}
use Rattle.journal_model.specs.Journal.{any, is_started, is_live, open_jobs}
use Rattle.journal_model.specs.Legality.{Legal, may_come, may_stop, needs_lead, count, is_start}
use Rattle.journal_model.specs.Registers.{HasNoLine, is_got, settings as settings_made}
use Rattle.journal_model.proofs.Growing.{Led, pair, is_lead}
use Rattle.journal_model.proofs.Looks.{entry, settled_all}
use Rattle.journal_model.proofs.PartsGrow.{come_names_none}
use Rattle.journal_model.proofs.Projecting.{invariant}
use Rattle.journal_model.proofs.Registering.{settings-append, settings_from-none}
use Rattle.host_core.specs.Steps.{group_of}
use Rattle.host_core.proofs.Stepping.{stands_plain, plain_may}
use Rattle.pair_kit.specs.Peace.{is_fault, finds_fault}
use Rattle.pair_kit.proofs.PaceAsks.{ask_apart, ask_in_step, pair_apart, led_in_step}
use Rattle.pair_kit.proofs.PaceEntries.{ChildInStep, touches, stays_in_step}
use Rattle.pair_kit.proofs.PaceStarts.{starts_in_step, ends_in_step, end_apart}

-- nothing is set, from registers that are kept, and every child is as it should be
pub record JournalInStep (o : Opening) (journal : List Entry) : Type 0 where
  pub kept : IsKept o.registers
  pub unset : settings_made journal ≡ []
  pub children : (c : ℕ) → ChildInStep journal c

-- so it is after the stretch, and no child is ended in it for what it said
pub record Goes (o : Opening) (past more : List Entry) : Type 0 where
  pub in_step : JournalInStep o (past ++ more)
  pub peaceful : any finds_fault more ≡ false

pub goes_nowhere : (o : Opening) (past more : List Entry) → JournalInStep o past → more ≡ [] → Goes o past more
goes_nowhere o past more h none = subst (λ (xs : List Entry). Goes o past xs) (sym none) (record { in_step = subst (λ (j : List Entry). JournalInStep o j) (sym (append-nil past)) h; peaceful = refl })

-- ---- a stretch that begins with an entry that may come

-- a stretch with no line sets nothing
pub unset_on : (o : Opening) (past : List Entry) (by : ℕ) (w : What) (due : List Entry) → may_come o past by w ≡ true → HasNoLine (entry by w ∷ due) → settings_made past ≡ []
    → settings_made (past ++ entry by w ∷ due) ≡ []
unset_on o past by w due may none unset =
    settings-append past (entry by w ∷ due) (λ c p. come_names_none o past c by w due may p)
    ∙ ap (λ (ms : List RemoteMessage). settings_made past ++ ms) (settings_from-none past (entry by w ∷ due) none)
    ∙ append-nil (settings_made past) ∙ unset

stays : (o : Opening) (past : List Entry) (by : ℕ) (w : What) (due : List Entry) (d : ℕ) → Legal o past → may_come o past by w ≡ true → any (touches d) (entry by w ∷ due) ≡ false
    → ChildInStep past d → ChildInStep (past ++ entry by w ∷ due) d
stays o past by w due d legal may none h = stays_in_step past (entry by w ∷ due) d ((invariant o past legal).placed d) (come_names_none o past d by w due may) none h

-- it touches no child
untouched : (o : Opening) (past : List Entry) (by : ℕ) (w : What) → Legal o past → JournalInStep o past → may_come o past by w ≡ true → ((d : ℕ) → touches d w ≡ false) → is_got w ≡ false
    → finds_fault w ≡ false → Goes o past (entry by w ∷ [])
untouched o past by w legal h may none quiet fair = record {
  in_step = record {
    kept = h.kept;
    unset = unset_on o past by w [] may (ap (λ (b : Bool). not b && true) quiet) h.unset;
    children = λ d. stays o past by w [] d legal may (ap (λ (b : Bool). b || false) (none d)) (h.children d);
  };
  peaceful = ap (λ (b : Bool). b || false) fair;
}

-- it touches one child
pub child_grows : (o : Opening) (past : List Entry) (by : ℕ) (w : What) (due : List Entry) (c : ℕ) → Legal o past → JournalInStep o past → may_come o past by w ≡ true
    → ((d : ℕ) → (c == d) ≡ false → any (touches d) (entry by w ∷ due) ≡ false) → settings_made (past ++ entry by w ∷ due) ≡ [] → ChildInStep (past ++ entry by w ∷ due) c
    → any finds_fault (entry by w ∷ due) ≡ false → Goes o past (entry by w ∷ due)
child_grows o past by w due c legal h may apart unset own fair = record {
  in_step = record { kept = h.kept; unset = unset; children = λ d. each d (c == d) refl };
  peaceful = fair;
}
  where
    each : (d : ℕ) (b : Bool) → (c == d) ≡ b → ChildInStep (past ++ entry by w ∷ due) d
    each d true e = subst (λ (x : ℕ). ChildInStep (past ++ entry by w ∷ due) x) (same_number c d e) own
    each d false e = stays o past by w due d legal may (apart d e) (h.children d)

-- ---- each kind of entry

-- an entry that hears a child, or finds that it can't be written to
abbrev pub is_heard : What → Bool
is_heard (Mute child) = true
is_heard (Got child line) = true
is_heard w = false

verdicts_no_line : (by child : ℕ) (v : Verdict) (ks : List ℕ) → list_all (λ (e : Entry). not (is_got e.what)) (settled_all by child v ks) ≡ true
verdicts_no_line by child v [] = refl
verdicts_no_line by child v (k ∷ ks) = verdicts_no_line by child v ks

verdicts_fair : (by child : ℕ) (v : Verdict) (ks : List ℕ) → any finds_fault (settled_all by child v ks) ≡ false
verdicts_fair by child v [] = refl
verdicts_fair by child v (k ∷ ks) = verdicts_fair by child v ks

-- why an event may end a child is no fault
stop_fair : (past : List Entry) (c : ℕ) (why : Why) → may_stop past c why ≡ true → is_fault why ≡ false
stop_fair past c (Foul at) h = absurd cc
stop_fair past c (Error at) h = absurd cc
stop_fair past c (Version at) h = absurd cc
stop_fair past c why h = refl

pub end_goes : (o : Opening) (past : List Entry) (by c : ℕ) (why : Why) → Legal o past → JournalInStep o past → may_come o past by (End c why) ≡ true → Goes o past (group_of o past by (End c why))
end_goes o past by c why legal h may =
    let due = settled_all by c (Ended why) (open_jobs past c) in
    child_grows o past by (End c why) due c legal h may (λ d apart. end_apart o past by c d why apart)
    (unset_on o past by (End c why) due may (verdicts_no_line by c (Ended why) (open_jobs past c)) h.unset)
    (ends_in_step o past by c why (h.children c))
    (ap (λ (b : Bool). b || any finds_fault due) (stop_fair past c why (both (is_live past c) (may_stop past c why) may).1) ∙ verdicts_fair by c (Ended why) (open_jobs past c))

pub led_goes : (o : Opening) (past : List Entry) (by c job task : ℕ) (name line : List ℕ) → Legal o past → JournalInStep o past → Led o past by c job task name line
    → Goes o past (pair by c job task name line)
led_goes o past by c job task name line legal h l =
    let due : List Entry = entry by (Ask c job task line) ∷ [] in
    child_grows o past by (Lead c job name) due c legal h l.first (λ d apart. pair_apart by c d job task name line apart)
    (unset_on o past by (Lead c job name) due l.first refl h.unset) (led_in_step o past by c job task name line legal (h.children c) l) refl

start_apart : (by child d slot : ℕ) (offer : Bool) → (child == d) ≡ false → any (touches d) (entry by (Start child slot offer) ∷ []) ≡ false
start_apart by child d slot offer n = rw n refl

-- a child that starts has a number of its own
abbrev pub IsNumbered : List Entry → Type 0
IsNumbered past = (c : ℕ) → (c == count is_start past + 1) ≡ true → is_started past c ≡ false

pub plain_goes : (o : Opening) (past : List Entry) (by : ℕ) (w : What) → Legal o past → JournalInStep o past → IsNumbered past → stands_plain o past by w ≡ true → is_heard w ≡ false
    → Goes o past (group_of o past by w)
plain_goes o past by (Claim task child) legal h new plain quiet = untouched o past by (Claim task child) legal h (plain_may o past by (Claim task child) plain) (λ d. refl) refl refl
plain_goes o past by (NoStart slot) legal h new plain quiet = untouched o past by (NoStart slot) legal h (plain_may o past by (NoStart slot) plain) (λ d. refl) refl refl
plain_goes o past by (Sent child) legal h new plain quiet = untouched o past by (Sent child) legal h (plain_may o past by (Sent child) plain) (λ d. refl) refl refl
plain_goes o past by (Lost child task) legal h new plain quiet = untouched o past by (Lost child task) legal h (plain_may o past by (Lost child task) plain) (λ d. refl) refl refl
plain_goes o past by (Answered task answer) legal h new plain quiet = untouched o past by (Answered task answer) legal h (plain_may o past by (Answered task answer) plain) (λ d. refl) refl refl
plain_goes o past by (Noted task chunk n) legal h new plain quiet = untouched o past by (Noted task chunk n) legal h (plain_may o past by (Noted task chunk n) plain) (λ d. refl) refl refl
plain_goes o past by (Again task answer) legal h new plain quiet = untouched o past by (Again task answer) legal h (plain_may o past by (Again task answer) plain) (λ d. refl) refl refl
plain_goes o past by (Start child slot offer) legal h new plain quiet =
    let may = plain_may o past by (Start child slot offer) plain in
    let number = (both _ _ (both _ _ may).0).1 in
    child_grows o past by (Start child slot offer) [] child legal h may (λ d apart. start_apart by child d slot offer apart)
    (unset_on o past by (Start child slot offer) [] may refl h.unset) (starts_in_step o past by child slot offer legal (new child number)) refl
plain_goes o past by (Ask child job task line) legal h new plain quiet =
    let w : What = Ask child job task line in
    let unled = not-true (needs_lead past w) (both (not (needs_lead past w)) (may_come o past by w) (both (not (is_lead w)) (not (needs_lead past w) && may_come o past by w) plain).1).0 in
    let may = plain_may o past by w plain in
    child_grows o past by w [] child legal h may (λ d apart. ask_apart by child d job task line apart) (unset_on o past by w [] may refl h.unset)
    (ask_in_step o past by child job task line legal (h.children child) may unled) refl
plain_goes o past by (End child why) legal h new plain quiet = end_goes o past by child why legal h (plain_may o past by (End child why) plain)
plain_goes o past by (Lead child job line) legal h new plain quiet = absurd cc
plain_goes o past by (Put child job line) legal h new plain quiet = absurd (let bad : false ≡ true = plain_may o past by (Put child job line) plain in cc)
plain_goes o past by (Settled child job verdict) legal h new plain quiet = absurd (let bad : false ≡ true = plain_may o past by (Settled child job verdict) plain in cc)
plain_goes o past by (Mute child) legal h new plain quiet = absurd cc
plain_goes o past by (Got child line) legal h new plain quiet = absurd cc
