-- From a greeting to a child that was asked about itself, and its closing.
use Rattle.std.proofs.Common.{◌≡◌, ◌⊎◌, ℕ, zero, suc, List, [], ◌∷◌, ◌++◌, length, refl, sym, ap, subst, ◌∙◌, ◌≤◌, arith, Bool, true, false, not, ◌==◌, Some, None, Option, inl, inr, append-nil}
use Rattle.std.specs.Prelude.{◌&&◌, ◌||◌, take, map, codes, option_and_then, IsSome, IfOk, Result, Ok, Err}
use Rattle.std.specs.Option.{option_or}
use Rattle.std.specs.List.{list_all}
use Rattle.journal_model.specs.declared.verdict.Why.{Why}
use Rattle.journal_model.specs.declared.verdict.Why.TheVariants.{Closed}
use Rattle.journal_model.specs.declared.verdict.Verdict.{Verdict}
use Rattle.journal_model.specs.declared.verdict.Verdict.TheVariants.{Failed as FailedAt, Unsupported as UnsupportedAt}
use Rattle.annex_model.specs.Messages.{host_line}
use Rattle.journal_model.specs.declared.entry.What.{What}
use Rattle.journal_model.specs.declared.entry.What.TheVariants.{Claim, Start, NoStart, Ask, Answer as Answered, Note as Noted, Again}
use Rattle.journal_model.specs.declared.entry.Entry.{Entry}
use Rattle.journal_model.specs.declared.opening.Opening.{Opening}
use Rattle.journal_model.specs.Journal.{any, starts, ends, mutes, offers, is_started, is_ended, is_mute, asked_jobs, open_jobs, verdict_of, why_of}
use Rattle.journal_model.specs.Shares.{are_by}
use Rattle.journal_model.specs.Legality.{Legal, count, may_stop}
use Rattle.journal_model.proofs.Looks.{any-append, each_of-append, verdict_of-append}
use Rattle.journal_model.proofs.Linking.{why_of-append}
use Rattle.task_model.specs.TaskRuns.{refused_at}
use Rattle.child_link.specs.Alone.{Closes}
use Rattle.child_life.specs.declared.start.greeting.Mode.TheVariants.{Serve}
use Rattle.child_life.specs.declared.start.greeting.Came.{Came}
use Rattle.child_life.specs.declared.start.greeting.Came.TheVariants.{Ready, Refused, Ended, Unsent}
use Rattle.child_life.specs.Start.Greetings.{CameTo, Greeted, IsReady, IsRefused, HasEnded, IsUnsent, is_greeting_line, is_of_greeting, loses}
use Rattle.child_life.proofs.StartLemmas.Losing.{count_behind, count_before}
use Rattle.info_and_init.specs.Info.Infos.{questions}
use Rattle.info_and_init.specs.Info.Askings.{line_to, asked_lines, is_of_asking, AsksFront, IsAnswered, HasFailed}
use Rattle.run_starts.specs.Once.Once.{is_of_task, start_in, starts_in}
use Rattle.run_starts.proofs.OnceLemmas.Beginning.{greeted_started, greeted_starts}
use Rattle.run_starts.proofs.OnceLemmas.Closing.{closing_of, closed_so, IsStill, closing_still, idle_may_stop, over_or}
use Rattle.info_and_init.specs.Info.Informs.{info_requests, IsAsked, IsComplete}
use Rattle.child_life.specs.End.Programs.{is_failed_start}
use Rattle.run_starts.specs.Stints.{main_entry}
use Rattle.info_and_init.specs.Info.Interviews.{IsInterviewed}
use Rattle.info_and_init.proofs.InfoLemmas.Greeted.{greeting_lines, is_early, begins}
use Rattle.ann_key.proofs.Booleans.{or_neither as either, and_false as off, or_true}
use Rattle.info_and_init.proofs.InfoLemmas.Asked.{greeting_offers as plain_greeting}
use Rattle.std.proofs.lemmas.Bool.{and_parts as both}
use Rattle.child_link.proofs.Roles.{by_append as main_both}
use Rattle.journal_model.proofs.Across.{none_so as any_none, all_in as all_weaken, idle_on}

-- ---- after the greeting

early_greeting : (c : ℕ) (w : What) → is_of_greeting c w ≡ true → is_early c w ≡ true
early_greeting c (Ask child job task line) h =
    let t = both (child == c) (task == 0 && is_greeting_line job line) h in
    rw (both (task == 0) (is_greeting_line job line) t.1).1 (or_true (not (child == c)))
early_greeting c w h = refl

taskless_greeting : (c : ℕ) (w : What) → is_of_greeting c w ≡ true → is_of_task w ≡ false
taskless_greeting c (Claim task child) h = absurd cc
taskless_greeting c (Answered task answer) h = absurd cc
taskless_greeting c (Noted task chunk count) h = absurd cc
taskless_greeting c (Again task answer) h = absurd cc
taskless_greeting c w h = refl

-- the child was asked the first lines of its greeting
greeted_lines : (o : Opening) (journal : List Entry) (c : ℕ) → Legal o journal → Greeted [] journal 0 false c → asked_lines journal c ≡ take (length (asked_jobs journal c)) greeting_lines
greeted_lines o journal c legal g =
    let plain : any (offers c) journal ≡ false =
    ap (any (offers c)) g.grown ∙ (rw (off (c == c), any_none (is_of_greeting c) (offers c) (plain_greeting c c) g.more g.own) refl) in
    let early : list_all (λ (e : Entry). is_early c e.what) journal ≡ true =
    ap (list_all (λ (e : Entry). is_early c e.what)) g.grown ∙ all_weaken (is_of_greeting c) (is_early c) (early_greeting c) g.more g.own in
    begins o journal legal c plain early

greeted_taskless : (journal : List Entry) (c : ℕ) → Greeted [] journal 0 false c → any is_of_task journal ≡ false
greeted_taskless journal c g =
    ap (any is_of_task) g.grown ∙ any_none (is_of_greeting c) is_of_task (taskless_greeting c) g.more g.own

greeted_main : (journal : List Entry) (c : ℕ) → Greeted [] journal 0 false c → are_by 0 journal ≡ true
greeted_main journal c g = ap (are_by 0) g.grown ∙ g.main

take_nothing : (n : ℕ) → take {A = List ℕ} n [] ≡ []
take_nothing zero = refl
take_nothing (suc n) = refl

front : (key : Option (List ℕ)) (n : ℕ) → (m : ℕ) × (take n greeting_lines ≡ take m (info_requests key))
front key zero = (0, refl)
front key (suc zero) = (1, refl)
front key (suc (suc n)) = (2, ap (λ (ls : List (List ℕ)). codes "EXTENSIONS INFO GETGITREMOTENAME" ∷ codes "PREPARE" ∷ ls) (take_nothing n))

from_nothing : (old new : List Entry) (c : ℕ) → old ≡ [] → Greeted old new 0 false c → Greeted [] new 0 false c
from_nothing old new c none g = subst (λ (j : List Entry). Greeted j new 0 false c) none g

-- a child that isn't ready
pub unready_talked : (o : Opening) (key : Option (List ℕ)) (old journal : List Entry) (c : ℕ) → old ≡ [] → Legal o journal → Greeted old journal 0 false c → IsInterviewed key journal c
unready_talked o key old journal c none legal greeted =
    let g = from_nothing old journal c none greeted in
    let f = front key (length (asked_jobs journal c)) in
    record {
      first = g.next;
      started = greeted_started journal c g;
      starts = greeted_starts journal c g;
      asked = (f.0, greeted_lines o journal c legal g ∙ f.1);
      lost = subst (λ (j : List Entry). count (loses c) j ≤ 1) (sym g.grown) g.lost;
      settled = g.idle;
      taskless = greeted_taskless journal c g;
      main = greeted_main journal c g;
    }

some_refused : (v : Verdict) (at : ℕ) → (v ≡ FailedAt at) ⊎ (v ≡ UnsupportedAt at) → IsSome (refused_at v)
some_refused v at (inl e) = rw e refl
some_refused v at (inr e) = rw e refl

refused_complete : (key : Option (List ℕ)) (old journal : List Entry) (c : ℕ) (v : Verdict) → old ≡ [] → Greeted old journal 0 false c → IsRefused journal c v → IsComplete key journal
refused_complete key old journal c v none greeted h =
    let one : c ≡ 1 = (from_nothing old journal c none greeted).next in
    let settled : verdict_of journal 1 1 ≡ Some v = subst (λ (x : ℕ). verdict_of journal x 1 ≡ Some v) one h.settled in
    inr (inr (inl (subst (λ (x : Option Verdict). IsSome (option_and_then refused_at x)) (sym settled) (some_refused v h.place h.refusal))))

ended_complete : (key : Option (List ℕ)) (old journal : List Entry) (c : ℕ) (why : Why) → old ≡ [] → Greeted old journal 0 false c → HasEnded journal c why → IsComplete key journal
ended_complete key old journal c why none greeted h =
    let one : c ≡ 1 = (from_nothing old journal c none greeted).next in
    inr (inr (inr (inl (why, subst (λ (x : ℕ). why_of journal x ≡ Some why) one h.ended, h.kept))))

unsent_complete : (key : Option (List ℕ)) (old journal : List Entry) (c : ℕ) → old ≡ [] → Greeted old journal 0 false c → IsUnsent journal c → IsComplete key journal
unsent_complete key old journal c none greeted h =
    let one : c ≡ 1 = (from_nothing old journal c none greeted).next in
    inr (inr (inr (inr (subst (λ (x : ℕ). is_mute journal x ≡ true) one h.mute))))

-- a child that isn't ready has said why
pub unready_complete : (key : Option (List ℕ)) (journal : List Entry) (c : ℕ) (came : Came) → Greeted [] journal 0 false c → ((tagged : Bool) → came ≡ Ready tagged → ⊥)
    → CameTo Serve journal c came → IsComplete key journal
unready_complete key journal c (Ready tagged) greeted unready h = absurd (unready tagged refl)
unready_complete key journal c (Refused verdict) greeted unready h = refused_complete key [] journal c verdict refl greeted h
unready_complete key journal c (Ended why) greeted unready h = ended_complete key [] journal c why refl greeted h
unready_complete key journal c Unsent greeted unready h = unsent_complete key [] journal c refl greeted h

-- ---- after the questions

ready_lines : (o : Opening) (journal : List Entry) (c : ℕ) → Legal o journal → Greeted [] journal 0 false c → IsReady journal c → asked_lines journal c ≡ greeting_lines
ready_lines o journal c legal g r = greeted_lines o journal c legal g ∙ ap (λ (js : List ℕ). take (length js) greeting_lines) r.jobs

map_take : {X Y : Type 0} (f : X → Y) (n : ℕ) (xs : List X) → map f (take n xs) ≡ take n (map f xs)
map_take f zero xs = refl
map_take f (suc n) [] = refl
map_take {Y = Y} f (suc n) (x ∷ xs) = ap (λ (ys : List Y). f x ∷ ys) (map_take f n xs)

taskless_asking : (c : ℕ) (w : What) → is_of_asking c w ≡ true → is_of_task w ≡ false
taskless_asking c (Claim task child) h = absurd cc
taskless_asking c (Answered task answer) h = absurd cc
taskless_asking c (Noted task chunk count) h = absurd cc
taskless_asking c (Again task answer) h = absurd cc
taskless_asking c w h = refl

startless_asking : (c : ℕ) (w : What) → is_of_asking c w ≡ true → start_in w ≡ None
startless_asking c (Start child slot offer) h = absurd cc
startless_asking c (NoStart slot) h = absurd cc
startless_asking c w h = refl

no_more_starts : (c : ℕ) (more : List Entry) → list_all (λ (e : Entry). is_of_asking c e.what) more ≡ true → starts_in more ≡ []
no_more_starts c [] h = refl
no_more_starts c (e ∷ more) h =
    let t = both (is_of_asking c e.what) (list_all (λ (x : Entry). is_of_asking c x.what) more) h in
    rw (startless_asking c e.what t.0, no_more_starts c more t.1) refl

pub ready_talked : (o : Opening) (key : Option (List ℕ)) (old mid journal : List Entry) (c d : ℕ) → old ≡ [] → Legal o mid → Greeted old mid 0 false c → IsReady mid c
    → AsksFront (questions key) mid journal c → d ≡ c → IsInterviewed key journal d
ready_talked o key old mid journal c d none legal greeted ready (n, a) same_child =
    let g = from_nothing old mid c none greeted in
    let lines : asked_lines journal c ≡ take (suc (suc n)) (info_requests key) =
    a.lines ∙ ap (λ (ls : List (List ℕ)). ls ++ map host_line (take n (questions key))) (ready_lines o mid c legal g ready)
    ∙ ap (λ (ls : List (List ℕ)). codes "EXTENSIONS INFO GETGITREMOTENAME" ∷ codes "PREPARE" ∷ ls) (map_take host_line n (questions key)) in
    subst (IsInterviewed key journal) (sym same_child) record {
      first = g.next;
      started = ap (λ (j : List Entry). is_started j c) a.is ∙ any-append (starts c) mid a.more ∙ ap (λ (b : Bool). b || any (starts c) a.more) (greeted_started mid c g);
      starts = ap starts_in a.is ∙ each_of-append start_in mid a.more ∙ (rw (greeted_starts mid c g, no_more_starts c a.more a.own) refl);
      asked = (suc (suc n), lines);
      lost = omega (arith, ap (count (loses c)) a.is ∙ count_behind c mid a.more ready.unlost, a.lost);
      settled = a.idle;
      taskless = ap (any is_of_task) a.is ∙ any-append is_of_task mid a.more
          ∙ either (any is_of_task mid) (any is_of_task a.more) (greeted_taskless mid c g) (any_none (is_of_asking c) is_of_task (taskless_asking c) a.more a.own);
      main = ap (are_by 0) a.is ∙ main_both 0 mid a.more (greeted_main mid c g) a.main;
    }

pub ready_complete : (o : Opening) (key : Option (List ℕ)) (old mid journal : List Entry) (c : ℕ) → old ≡ [] → Legal o mid → Greeted old mid 0 false c → IsReady mid c
    → IsAnswered (questions key) mid journal c ⊎ HasFailed journal c → IsComplete key journal
ready_complete o key old mid journal c none legal greeted ready came =
    let g = from_nothing old mid c none greeted in
    go g came
  where
    go : Greeted [] mid 0 false c → IsAnswered (questions key) mid journal c ⊎ HasFailed journal c → IsComplete key journal
    go g (inl a) =
        inl (subst (λ (x : ℕ). asked_lines journal x ≡ info_requests key) g.next
        (a.0.lines ∙ ap (λ (ls : List (List ℕ)). ls ++ map host_line (questions key)) (ready_lines o mid c legal g ready)))
    go g (inr (inl (why, ended, kept))) = inr (inr (inr (inl (why, subst (λ (x : ℕ). why_of journal x ≡ Some why) g.next ended, kept))))
    go g (inr (inr mute)) = inr (inr (inr (inr (subst (λ (x : ℕ). is_mute journal x ≡ true) g.next mute))))

-- ---- the child is closed

pub may_close : (key : Option (List ℕ)) (journal : List Entry) (c : ℕ) → IsInterviewed key journal c → may_stop journal c Closed ≡ true
may_close key journal c t = idle_may_stop journal c t.settled t.taskless

-- its closing asks nothing
unasked : (b : Bool) → asked_lines (closing_of b 1) 1 ≡ []
unasked true = refl
unasked false = refl

pub closed_asked : (key : Option (List ℕ)) (past journal : List Entry) (c : ℕ) → IsInterviewed key past c → Closes 0 c past journal → IsAsked key journal
closed_asked key past journal c t closes =
    let more : List Entry = closing_of (is_ended past 1) 1 in
    let s : IsStill more = closing_still (is_ended past 1) in
    let grown : journal ≡ past ++ more = closed_so 1 past journal (subst (λ (x : ℕ). Closes 0 x past journal) t.first closes) in
    let asked = t.asked in
    let before : asked_lines past 1 ≡ take asked.0 (info_requests key) = subst (λ (x : ℕ). asked_lines past x ≡ take asked.0 (info_requests key)) t.first asked.1 in
    let idle : open_jobs past 1 ≡ [] = subst (λ (x : ℕ). open_jobs past x ≡ []) t.first t.settled in
    let ended : is_ended (past ++ more) 1 ≡ true = any-append (ends 1) past more ∙ over_or (is_ended past 1) in
    let few : count (loses 1) past ≤ 1 = subst (λ (x : ℕ). count (loses x) past ≤ 1) t.first t.lost in
    subst (IsAsked key) (sym grown) record {
      once = inr (inl (each_of-append start_in past more ∙ (rw (t.starts, s.starts) refl)));
      asked = (asked.0, each_of-append (line_to 1) past more ∙ ap (λ (ls : List (List ℕ)). asked_lines past 1 ++ ls) (unasked (is_ended past 1)) ∙ append-nil (asked_lines past 1) ∙ before);
      lost = omega (arith, count_before 1 past more s.unlost, few);
      settled = idle_on past more 1 s.jobs idle;
      ended = rw ended (off (is_started (past ++ more) 1));
      taskless = any-append is_of_task past more ∙ either (any is_of_task past) (any is_of_task more) t.taskless s.taskless;
      main = main_both 0 past more t.main s.main;
    }

refused_on : (v w : Option Verdict) → IsSome (option_and_then refused_at v) → IsSome (option_and_then refused_at (option_or v w))
refused_on None w h = absurd cc
refused_on (Some v) w h = h

pub closed_complete : (key : Option (List ℕ)) (past journal : List Entry) (c : ℕ) → IsInterviewed key past c → Closes 0 c past journal → IsComplete key past → IsComplete key journal
closed_complete key past journal c t closes h =
    let grown : journal ≡ past ++ closing_of (is_ended past 1) 1 = closed_so 1 past journal (subst (λ (x : ℕ). Closes 0 x past journal) t.first closes) in
    subst (IsComplete key) (sym grown) (go (closing_of (is_ended past 1) 1) (unasked (is_ended past 1)) h)
  where
    go : (more : List Entry) → asked_lines more 1 ≡ [] → IsComplete key past → IsComplete key (past ++ more)
    go more none (inl all) = inl (each_of-append (line_to 1) past more ∙ ap (λ (ls : List (List ℕ)). asked_lines past 1 ++ ls) none ∙ append-nil (asked_lines past 1) ∙ all)
    go more none (inr (inl failed)) = inr (inl (any-append is_failed_start past more ∙ ap (λ (b : Bool). b || any is_failed_start more) failed))
    go more none (inr (inr (inl refused))) =
        inr (inr (inl (subst (λ (v : Option Verdict). IsSome (option_and_then refused_at v)) (sym (verdict_of-append 1 1 past more)) (refused_on (verdict_of past 1 1) (verdict_of more 1 1) refused))))
    go more none (inr (inr (inr (inl (why, ended, kept))))) =
        inr (inr (inr (inl (why, why_of-append past more 1 ∙ ap (λ (u : Option Why). option_or u (why_of more 1)) ended, kept))))
    go more none (inr (inr (inr (inr mute)))) = inr (inr (inr (inr (any-append (mutes 1) past more ∙ ap (λ (b : Bool). b || is_mute more 1) mute))))

-- ---- no child

no_more_than : (journal : List Entry) → count (loses 1) journal ≡ 0 → count (loses 1) journal ≤ 1
no_more_than journal none = omega (arith, none)

pub unstarted_asked : (key : Option (List ℕ)) (journal : List Entry) → journal ≡ main_entry (NoStart 0) ∷ [] → IsAsked key journal
unstarted_asked key journal e =
    subst (IsAsked key) (sym e) record { once = inr (inr refl); asked = (0, refl); lost = no_more_than (main_entry (NoStart 0) ∷ []) refl; settled = refl; ended = refl; taskless = refl; main = refl }

pub unstarted_complete : (key : Option (List ℕ)) (journal : List Entry) → journal ≡ main_entry (NoStart 0) ∷ [] → IsComplete key journal
unstarted_complete key journal e = inr (inl (ap (any is_failed_start) e))

pub nothing_asked : (key : Option (List ℕ)) (journal : List Entry) → journal ≡ [] → IsAsked key journal
nothing_asked key journal e =
    subst (IsAsked key) (sym e) record { once = inl refl; asked = (0, refl); lost = no_more_than [] refl; settled = refl; ended = refl; taskless = refl; main = refl }

pub if_ok : {T E : Type 0} (r : Result T E) (P Q : Type 0) → (P → Q) → IfOk r (λ _. P) → IfOk r (λ _. Q)
if_ok (Ok x) P Q f h = f h
if_ok (Err e) P Q f h = tt

pub closed_starts : (key : Option (List ℕ)) (past journal : List Entry) (c : ℕ) → IsInterviewed key past c → Closes 0 c past journal → starts_in journal ≡ Start 1 0 false ∷ []
closed_starts key past journal c t closes =
    let more : List Entry = closing_of (is_ended past 1) 1 in
    let s : IsStill more = closing_still (is_ended past 1) in
    let grown : journal ≡ past ++ more = closed_so 1 past journal (subst (λ (x : ℕ). Closes 0 x past journal) t.first closes) in
    ap starts_in grown ∙ each_of-append start_in past more ∙ (rw (t.starts, s.starts) refl)
