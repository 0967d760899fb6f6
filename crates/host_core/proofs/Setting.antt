-- What a group sets is what stands in its first line, where replies are due after it.
use Rattle.std.proofs.Common.{◌≡◌, ◌∙◌, ℕ, ◌<◌, List, [], ◌∷◌, ◌++◌, refl, sym, ap, subst, Bool, true, false, not, cond, Option, Some, None, length, map, append-nil, inl, inr}
use Rattle.std.specs.Prelude.{◌&&◌, ◌^◌, fold, filter, IsTrue}
use Rattle.annex_model.specs.Lines.{has_newline}
use Rattle.std.specs.List.{cons_option, list_all}
use Rattle.annex_model.specs.Messages.{RemoteMessage, remote_reading, Version, Extensions, UnsupportedRequest, Error, Progress, Debug, Info, Setconfig, Setcreds, Setwanted, Setstate, Seturlpresent, Seturlmissing}
use Rattle.annex_model.specs.Talks.{is_aside}
use Rattle.annex_model.specs.Hearings.{Hearing, Aside, hearing, hearing_of, request_in}
use Rattle.annex_model.specs.declared.final_line.Final.{Final}
use Rattle.registers.specs.Registers.{RegisterFile}
use Rattle.journal_model.specs.declared.verdict.Verdict.TheVariants.{Ended, Unsent}
use Rattle.journal_model.specs.declared.verdict.Why.{Why}
use Rattle.journal_model.specs.declared.verdict.Why.TheVariants.{Error as ErrorAt, Version as VersionFault}
use Rattle.journal_model.specs.declared.entry.What.{What}
use Rattle.journal_model.specs.declared.entry.What.TheVariants.{Claim, Start, NoStart, Lead, Ask, Put, Sent, Mute, Got, End, Verdict as Settled, Lost, Answer as Answered, Note as Noted, Again}
use Rattle.journal_model.specs.declared.entry.Entry.{Entry}
use Rattle.journal_model.specs.declared.opening.Opening.{Opening}
use Rattle.journal_model.specs.Journal.{is_open, is_live, is_full, has_spoken, addressed, asked_jobs, open_jobs, is_unsent}
use Rattle.journal_model.specs.Parts.{part, ends_at}
use Rattle.journal_model.specs.Due.{made_by, due_by_got, due_after, after_line, after_message, after_late, after_hearing, ending, replying, replies, is_error, is_version_one}
use Rattle.journal_model.specs.Legality.{Legal, may_come}
use Rattle.journal_model.specs.Replies.{is_setting, set_by, set_by_all}
use Rattle.journal_model.specs.Registers.{settings, settings_from, setting_of, if_setting, is_open_job, is_got, HasNoLine}
use Rattle.journal_model.proofs.Looks.{unasked_closed}
use Rattle.journal_model.proofs.PartsGrow.{come_names_none}
use Rattle.journal_model.proofs.Registering.{settings-append, settings_from-none}
use Rattle.journal_model.proofs.Projecting.{invariant}
use Rattle.host_core.specs.declared.due.Due.{Due}
use Rattle.host_core.specs.declared.due.Due.TheVariants.{Nothing, Settle, Request, Replies, EndOf, EndedJobs, UnsentJobs}
use Rattle.host_core.specs.declared.event.Event.{Event}
use Rattle.host_core.specs.Steps.{Step, step_of, group_of}
use Rattle.host_core.specs.Moves.{dues, group_made}
use Rattle.host_core.specs.Settings.{serves, serves_line, serves_message, is_reply, set_in, registers_after, is_line, IsLine, IsDueReply}
use Rattle.host_core.proofs.Stepping.{Came, plain_may, step_came}
use Rattle.host_core.proofs.Noting.{first_is, unset as neither}
use Rattle.host_core.proofs.Queueing.{rest_is}
use Rattle.ann_key.proofs.Numbers.{same_number as same}

-- ---- settings are asides, and no errors

setting_aside : (m : RemoteMessage) → is_setting m ≡ true → is_aside m ≡ true
setting_aside (Setconfig name value) h = refl
setting_aside (Setcreds setting user password) h = refl
setting_aside (Setwanted expression) h = refl
setting_aside (Setstate key value) h = refl
setting_aside (Seturlpresent key url) h = refl
setting_aside (Seturlmissing key url) h = refl
setting_aside m h = absurd cc

setting_no_error : (m : RemoteMessage) → is_setting m ≡ true → is_error (Some m) ≡ false
setting_no_error (Error text) h = absurd cc
setting_no_error m h = refl

setting_in : (r : Option RemoteMessage) (m : RemoteMessage) → if_setting r ≡ Some m → (r ≡ Some m) × (is_setting m ≡ true)
setting_in None m h = absurd cc
setting_in (Some k) m h = go (is_setting k) refl h
  where
    go : (b : Bool) → is_setting k ≡ b → cond b (Some k) None ≡ Some m → (Some k ≡ Some m) × (is_setting m ≡ true)
    go true e h = let same : k ≡ m = cc in (h, subst (λ (x : RemoteMessage). is_setting x ≡ true) same e)
    go false e h = absurd cc

-- the same is chosen by either test, where both hold of what there is
pick : (x : Option RemoteMessage) (b s : Bool) → ((m : RemoteMessage) → x ≡ Some m → b ≡ s) → cond b x None ≡ cond s x None
pick None true true f = refl
pick None true false f = refl
pick None false true f = refl
pick None false false f = refl
pick (Some m) b s f = ap (λ (t : Bool). cond t (Some m) None) (f m refl)

and_second : (a b d : Bool) → (a && b && d) ≡ true → b ≡ true
and_second true true d h = refl
and_second true false d h = absurd cc
and_second false b d h = absurd cc

-- ---- the end of a child at a line

puts_end_none : (past : List Entry) (by c j n : ℕ) (lines : List (List ℕ)) → ends_at c n (made_by by (replying past c j lines)) ≡ false
puts_end_none past by c j n [] = refl
puts_end_none past by c j n (l ∷ ls) = refl

silent_closed : (o : Opening) (past : List Entry) (c j : ℕ) → Legal o past → has_spoken past c ≡ false → is_open past c j ≡ false
silent_closed o past c j legal silent = unasked_closed c j past (let none : asked_jobs past c ≡ [] = (invariant o past legal).silent c silent in rw none refl)

silent_job : (o : Opening) (past : List Entry) (c : ℕ) (job : Option ℕ) → Legal o past → has_spoken past c ≡ false → is_open_job past c job ≡ false
silent_job o past c None legal silent = refl
silent_job o past c (Some j) legal silent = silent_closed o past c j legal silent

-- ---- the line that a group begins with

and_false_left : (a b : Bool) → a ≡ false → (a && b) ≡ false
and_false_left true b h = absurd cc
and_false_left false b h = refl

-- of a setting, the message is served where it gives a setting
served_so : (o : Opening) (past : List Entry) (by c : ℕ) (to : Option ℕ × List ℕ) (m : RemoteMessage) → is_setting m ≡ true → remote_reading to.1 ≡ Some m
    → (is_open_job past c to.0 && not (ends_at c (length past) (made_by by (after_message o past c to.0 m)))) ≡ serves_message past c to.0 m
served_so o past by c to m set e = by_job to.0
  where
    by_job : (job : Option ℕ) → (is_open_job past c job && not (ends_at c (length past) (made_by by (after_message o past c job m)))) ≡ serves_message past c job m
    by_job None = refl
    by_job (Some j) = by_open (is_open past c j)
      where
        by_open : (b : Bool)
            → (b && not (ends_at c (length past) (made_by by (cond b (after_hearing o past c j m (hearing (part past c j) m)) (after_late past c (Some j) m))))) ≡ (b && is_aside m)
        by_open false = refl
        by_open true =
            let aside : is_aside m ≡ true = setting_aside m set in
            let none = puts_end_none past by c j (length past) (replies o past m) in
            rw aside (rw none refl)

-- what the line makes due, where it spells that message
abbrev due_of : Opening → List Entry → ℕ → List ℕ → Option ℕ × List ℕ → Option RemoteMessage → List What
due_of o past c line to r =
    cond (is_error r) (ending past c (ErrorAt (length past)))
    (cond (not (has_spoken past c)) (cond (is_version_one (remote_reading line)) [] (ending past c (VersionFault (length past)))) (after_line o past c to.0 r))

abbrev serves_of : List Entry → ℕ → Option ℕ × List ℕ → Option RemoteMessage → Bool
serves_of past c to r = cond (is_error r) false (cond (not (has_spoken past c)) false (serves_line past c to.0 r))

setting_served : (o : Opening) (past : List Entry) (by c : ℕ) (line : List ℕ) (to : Option ℕ × List ℕ) (m : RemoteMessage) → Legal o past → is_setting m ≡ true
    → remote_reading to.1 ≡ Some m
    → (is_open_job past c to.0 && not (ends_at c (length past) (made_by by (due_of o past c line to (Some m))))) ≡ serves_of past c to (Some m)
setting_served o past by c line to m legal set e = rw (setting_no_error m set) (by_spoken (has_spoken past c) refl)
  where
    by_version : (v : Bool) → has_spoken past c ≡ false
        → (is_open_job past c to.0 && not (ends_at c (length past) (made_by by (cond v [] (ending past c (VersionFault (length past))))))) ≡ false
    by_version v silent = and_false_left (is_open_job past c to.0) (not (ends_at c (length past) (made_by by (cond v [] (ending past c (VersionFault (length past))))))) (silent_job o past c to.0 legal silent)

    by_spoken : (b : Bool) → has_spoken past c ≡ b
        → (is_open_job past c to.0 && not (ends_at c (length past) (made_by by (cond (not b) (cond (is_version_one (remote_reading line)) [] (ending past c (VersionFault (length past)))) (after_message o past c to.0 m)))))
        ≡ cond (not b) false (serves_message past c to.0 m)
    by_spoken true spoken = served_so o past by c to m set e
    by_spoken false silent = by_version (is_version_one (remote_reading line)) silent

setting_here : (o : Opening) (past : List Entry) (by c : ℕ) (line : List ℕ) (due : Due) → Legal o past → is_reply due ≡ serves past c (addressed past c line)
    → setting_of past (Got c line) (made_by by (due_by_got o past c line)) ≡ set_in past (Some (Got c line)) due
setting_here o past by c line due legal served =
    let to = addressed past c line in
    let r = remote_reading to.1 in
    let taken = is_open_job past c to.0 && not (ends_at c (length past) (made_by by (due_by_got o past c line))) in
    pick (if_setting r) taken (is_reply due)
    (λ m has. (let both = setting_in r m has in
    subst (λ (x : Option RemoteMessage). (is_open_job past c to.0 && not (ends_at c (length past) (made_by by (due_of o past c line to x)))) ≡ serves_of past c to x) (sym both.0)
    (setting_served o past by c line to m legal both.1 both.0))
    ∙ sym served)

-- ---- the group

no_line_made : (by : ℕ) (ws : List What) → list_all (λ w. not (is_got w)) ws ≡ true → HasNoLine (made_by by ws)
no_line_made by [] h = h
no_line_made by (w ∷ ws) h = go (is_got w) h (λ k. no_line_made by ws k)
  where
    go : (b : Bool) → (not b && list_all (λ v. not (is_got v)) ws) ≡ true → (list_all (λ v. not (is_got v)) ws ≡ true → HasNoLine (made_by by ws))
        → (not b && list_all (λ e. not (is_got e.what)) (made_by by ws)) ≡ true
    go true h rest = absurd cc
    go false h rest = rest h

none_got : {X : Type 0} (f : X → What) → ((x : X) → is_got (f x) ≡ false) → (xs : List X) → list_all (λ w. not (is_got w)) (map f xs) ≡ true
none_got f h [] = refl
none_got {X = X} f h (x ∷ xs) = let here = h x in rw here (none_got f h xs)

no_line_due : (past : List Entry) (due : Due) → list_all (λ w. not (is_got w)) (dues past due) ≡ true
no_line_due past Nothing = refl
no_line_due past (Settle child job verdict) = refl
no_line_due past (Request child job task line) = refl
no_line_due past (Replies child job lines) = none_got (λ line. Put child job line) (λ line. refl) lines.items
no_line_due past (EndOf child why) = none_got (λ j. Settled child j (Ended why)) (λ j. refl) (open_jobs past child)
no_line_due past (EndedJobs child why) = none_got (λ j. Settled child j (Ended why)) (λ j. refl) (open_jobs past child)
no_line_due past (UnsentJobs child) = none_got (λ j. Settled child j Unsent) (λ j. refl) (filter (is_unsent past child) (open_jobs past child))

-- what stands first sets what stands in it
setting_first : (o : Opening) (past : List Entry) (by : ℕ) (w : What) (due : Due) → Legal o past → IsDueReply past (Some w) due
    → made_by by (dues past due) ≡ due_after o past (record { by = by; what = w })
    → setting_of past w (made_by by (dues past due)) ≡ set_in past (Some w) due
setting_first o past by (Got c line) due legal served e =
    ap (setting_of past (Got c line)) e ∙ setting_here o past by c line due legal served
setting_first o past by (Claim task child) due legal served e = sym (neither (is_reply due))
setting_first o past by (Start child slot offer) due legal served e = sym (neither (is_reply due))
setting_first o past by (NoStart slot) due legal served e = sym (neither (is_reply due))
setting_first o past by (Lead child job line) due legal served e = sym (neither (is_reply due))
setting_first o past by (Ask child job task line) due legal served e = sym (neither (is_reply due))
setting_first o past by (Put child job line) due legal served e = sym (neither (is_reply due))
setting_first o past by (Sent child) due legal served e = sym (neither (is_reply due))
setting_first o past by (Mute child) due legal served e = sym (neither (is_reply due))
setting_first o past by (End child why) due legal served e = sym (neither (is_reply due))
setting_first o past by (Settled child job verdict) due legal served e = sym (neither (is_reply due))
setting_first o past by (Lost child task) due legal served e = sym (neither (is_reply due))
setting_first o past by (Answered task answer) due legal served e = sym (neither (is_reply due))
setting_first o past by (Noted task chunk count) due legal served e = sym (neither (is_reply due))
setting_first o past by (Again task answer) due legal served e = sym (neither (is_reply due))

pub settings_group : (o : Opening) (past : List Entry) (by : ℕ) (event : Event) (what : Option What) (due : Due) → length past < 2 ^ 64 → Legal o past → IsDueReply past what due
    → group_made past by what due ≡ (step_of o past by event).group
    → settings (past ++ group_made past by what due) ≡ settings past ++ cons_option (set_in past what due) []
settings_group o past by event None due few legal served e =
    ap settings (append-nil past) ∙ sym (append-nil (settings past)) ∙ ap (λ (x : Option RemoteMessage). settings past ++ cons_option x []) (sym (neither (is_reply due)))
settings_group o past by event (Some w) due few legal served e = go (step_of o past by event) (step_came o past by event few) e
  where
    due_list : List Entry
    due_list = made_by by (dues past due)

    first : Entry
    first = record { by = by; what = w }

    grown : (v : What) → may_come o past by v ≡ true → v ≡ w → setting_of past w due_list ≡ set_in past (Some w) due
        → settings (past ++ first ∷ due_list) ≡ settings past ++ cons_option (set_in past (Some w) due) []
    grown v may is sets =
        settings-append past (first ∷ due_list) (λ c p. come_names_none o past c by w due_list (subst (λ (x : What). may_come o past by x ≡ true) is may) p)
        ∙ ap (λ (ms : List RemoteMessage). settings past ++ ms)
        (ap (λ (ms : List RemoteMessage). cons_option (setting_of past w due_list) ms) (settings_from-none (past ++ first ∷ []) due_list (no_line_made by (dues past due) (no_line_due past due)))
        ∙ ap (λ (x : Option RemoteMessage). cons_option x []) sets)

    go : (s : Step) → Came o past by s → first ∷ due_list ≡ s.group → settings (past ++ first ∷ due_list) ≡ settings past ++ cons_option (set_in past (Some w) due) []
    go s (inl none) e = absurd (let no : first ∷ due_list ≡ [] = e ∙ none in cc)
    go s (inr (inr named)) e =
        let lead : What = Lead named.child named.job named.name in
        let head : first ≡ record { by = by; what = lead } = first_is first (record { by = by; what = lead }) due_list _ (e ∙ named.is) in
        let what_is : w ≡ lead = ap (λ (x : Entry). x.what) head in
        let unset : setting_of past lead due_list ≡ set_in past (Some lead) due = sym (neither (is_reply due)) in
        grown lead named.led.first (sym what_is) (subst (λ (x : What). setting_of past x due_list ≡ set_in past (Some x) due) (sym what_is) unset)
    go s (inr (inl some)) e =
        let whole = e ∙ some.2 in
        let head : first ≡ record { by = by; what = some.0 } = first_is first (record { by = by; what = some.0 }) due_list (due_after o past (record { by = by; what = some.0 })) whole in
        let what_is : some.0 ≡ w = sym (ap (λ (x : Entry). x.what) head) in
        let tail = rest_is first (record { by = by; what = some.0 }) due_list (due_after o past (record { by = by; what = some.0 })) whole in
        let rest : due_list ≡ due_after o past first = tail ∙ ap (λ (x : What). due_after o past (record { by = by; what = x })) what_is in
        grown some.0 (plain_may o past by some.0 some.1) what_is (setting_first o past by w due legal served rest)

-- a line that a group begins with has no byte 10
pub line_fits : (o : Opening) (past : List Entry) (by : ℕ) (event : Event) (what : Option What) (due : Due) → length past < 2 ^ 64
    → group_made past by what due ≡ (step_of o past by event).group → IsLine what
line_fits o past by event None due few e = tt
line_fits o past by event (Some w) due few e = go (step_of o past by event) (step_came o past by event few) e
  where
    clean : (v : What) → may_come o past by v ≡ true → is_line v ≡ true
    clean (Got child line) may = and_second (is_live past child) (not (has_newline line)) (not (is_full past)) may
    clean v may = refl

    go : (s : Step) → Came o past by s → record { by = by; what = w } ∷ made_by by (dues past due) ≡ s.group → is_line w ≡ true
    go s (inl none) e = absurd (let no : record { by = by; what = w } ∷ made_by by (dues past due) ≡ [] = e ∙ none in cc)
    go s (inr (inr named)) e =
        let head = first_is (record { by = by; what = w }) (record { by = by; what = Lead named.child named.job named.name }) (made_by by (dues past due)) _ (e ∙ named.is) in
        subst (λ (x : What). is_line x ≡ true) (sym (ap (λ (x : Entry). x.what) head)) refl
    go s (inr (inl some)) e =
        let head = first_is (record { by = by; what = w }) (record { by = by; what = some.0 }) (made_by by (dues past due)) (due_after o past (record { by = by; what = some.0 })) (e ∙ some.2) in
        subst (λ (x : What). is_line x ≡ true) (sym (ap (λ (x : Entry). x.what) head)) (clean some.0 (plain_may o past by some.0 some.1))

-- ---- the registers

set_all-append : (ms : List RemoteMessage) (r : RegisterFile) (ks : List RemoteMessage) → set_by_all r (ms ++ ks) ≡ set_by_all (set_by_all r ms) ks
set_all-append [] r ks = refl
set_all-append (m ∷ ms) r ks = set_all-append ms (set_by r m) ks

-- the registers after a group are those before it, with what the group sets
pub registers_grow : (o : Opening) (past grown : List Entry) (before after : RegisterFile) (x : Option RemoteMessage)
    → before ≡ registers_after o past → after ≡ set_by_all before (cons_option x []) → settings grown ≡ settings past ++ cons_option x [] → after ≡ registers_after o grown
registers_grow o past grown before after x was is sets =
    is ∙ ap (λ (r : RegisterFile). set_by_all r (cons_option x [])) was
    ∙ sym (ap (set_by_all o.registers) sets ∙ set_all-append (settings past) o.registers (cons_option x []))
