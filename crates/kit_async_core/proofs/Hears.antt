-- What the steps of a line of the host come to.
use Rattle.std.proofs.Common.{suc, ◌≡◌, ℕ, ◌+◌, ◌*◌, ◌≤◌, List, [], ◌∷◌, ◌++◌, refl, sym, ap, subst, ◌∙◌, Bool, true, false, ◌==◌, cond, Some, None, Option, length, get_or, length-append, arith}
use Rattle.std.specs.Prelude.{◌&&◌, ◌||◌, position, map, fold, set, slice_get, option_map, is_some, IfSome}
use Rattle.annex_model.specs.Messages.{Getconfig, host_reading, remote_line}
use Rattle.annex_model.specs.Messages.{HostMessage, AskExtensions, Prepare, Initremote, Transfer, Checkpresent, Remove, Listconfigs, Getcost, Getavailability, Getinfo, Whereis, Exportsupported, Export, Transferexport, Checkpresentexport, Removeexport, Renameexport, Value, Creds, HostError}
use Rattle.kit_serve.specs.Kit.Kits.{Due, is_prepare, is_readying}
use Rattle.kit_async_model.specs.declared.about.About.{About}
use Rattle.kit_async_model.specs.declared.setup.Setup.{Setup}
use Rattle.kit_async_model.specs.declared.job.Job.{Job}
use Rattle.kit_async_model.specs.declared.entry.Entry.{Entry}
use Rattle.kit_async_model.specs.declared.entry.Entry.TheVariants.{Heard, Say}
use Rattle.kit_async_model.specs.declared.event.Reply.{Reply}
use Rattle.kit_async_model.specs.declared.event.Reply.TheVariants.{Done, Last}
use Rattle.kit_async_model.specs.declared.hearing.Hearing.{Hearing}
use Rattle.kit_async_model.specs.declared.hearing.Hearing.TheVariants.{Foul, Unexpected, Aside, Asks, Replies}
use Rattle.kit_async_model.specs.Abouts.{told_of, lines_by, lines_or, lines_about}
use Rattle.kit_async_model.specs.Jobs.{request_of, request_due, due_in, is_making_ready, next_name, is_awaiting, if_prepared, lines_in, job_line, has_number, job_of, with_job, without_job}
use Rattle.kit_async_model.specs.Hearings.{text_in, hearing_of, value_told}
use Rattle.kit_async_model.specs.Standings.{Standing, unexpected_line, starts_tags, with_value, due_of_job, due_of, with_request, is_some_due, told_by, said_line, said_in, heard_as, after}
use Rattle.kit_async_model.specs.Legality.{may_hear, is_some_line}
use Rattle.kit_async_model.specs.Events.{Stepped, due_said, heard_reply, heard_step, hear_step}
use Rattle.kit_async_model.specs.Books.{BookValue, AreApart, most_calls, calls_owed, room_owed, Took, IsRequest, IsValue}
use Rattle.kit_async_model.proofs.Places.{found_none, found_place, read_is, job_last, removal_last, job_there, job_changed, change_there, calls_append, calls_set}
use Rattle.kit_async_model.proofs.Apart.{asks_new, replies_awaited}
use Rattle.kit_async_model.proofs.Askings.{never}
use Rattle.kit_async_model.proofs.FactLines.{not_zero}
use Rattle.std.proofs.lemmas.Bool.{and_parts as both, eqb-true as equal}
use Rattle.kit_async_model.proofs.Across.{live, over_said}
use Rattle.kit_async_core.proofs.Saying.{with_number, say_all, each_said, said_through, said_goes}

-- ---- any line

-- the standing after the line, what is due there, and all that is said of it
record After (setup : Setup) (s : Standing) (line : List ℕ) (t : Standing) (due : List (ℕ × List ℕ)) : Type 0 where
  may : may_hear setup s ≡ true
  after_is : after setup s (Heard line) ≡ t
  due_is : t.due ≡ due

heard_is : (setup : Setup) (s : Standing) (line : List ℕ) (t : Standing) (due : List (ℕ × List ℕ)) → After setup s line t due
    → hear_step setup s line ≡ record { group = Heard line ∷ due_said due; reply = heard_reply t.over }
heard_is setup s line t due a =
    rw a.may
    (ap (λ (u : Standing). heard_step u line) a.after_is
    ∙ ap (λ (o : List (ℕ × List ℕ)). record { group = Heard line ∷ due_said o; reply = heard_reply t.over }) a.due_is)

heard_took : (setup : Setup) (old new : BookValue) (line : List ℕ) (t : Standing) (due : List (ℕ × List ℕ)) (reply : Reply)
    → After setup old.stands line t due
    → reply ≡ heard_reply t.over
    → new.journal ≡ old.journal ++ Heard line ∷ due_said due
    → new.stands ≡ fold (after setup) t (due_said due)
    → (room_owed setup old.stands ≤ old.room → room_owed setup new.stands ≤ new.room)
    → Took setup old new (hear_step setup old.stands line) reply
heard_took setup old new line t due reply a r j s room =
    let is = heard_is setup old.stands line t due a in
    record {
      reply_is = r ∙ sym (ap (λ (step : Stepped). step.reply) is);
      journal = j ∙ sym (ap (λ (step : Stepped). old.journal ++ step.group) is);
      stands = s ∙ ap (λ (u : Standing). fold (after setup) u (due_said due)) (sym a.after_is)
          ∙ sym (ap (λ (step : Stepped). fold (after setup) old.stands step.group) is);
      room = room;
    }

heard_of : (setup : Setup) (s : Standing) (line : List ℕ) (h : Hearing) → hearing_of setup s.jobs s.tagged line ≡ h → after setup s (Heard line) ≡ heard_as setup s (text_in s.tagged line) h
heard_of setup s line h e = ap (heard_as setup s (text_in s.tagged line)) e

-- ---- lines that are no request

pub foul_took : (setup : Setup) (old new : BookValue) (line : List ℕ) → old.stands.due ≡ [] → may_hear setup old.stands ≡ true
    → hearing_of setup old.stands.jobs old.stands.tagged line ≡ Foul
    → new.journal ≡ old.journal ++ Heard line ∷ [] → new.stands ≡ record old.stands { over = true } → new.room ≡ old.room
    → Took setup old new (hear_step setup old.stands line) Last
foul_took setup old new line d m h j s r =
    heard_took setup old new line (record old.stands { over = true }) [] Last
    (record { may = m; after_is = heard_of setup old.stands line Foul h; due_is = d }) refl j s
    (λ k. let e : room_owed setup new.stands ≡ room_owed setup old.stands = ap (room_owed setup) s in omega (arith, e, k, r))

pub aside_took : (setup : Setup) (old new : BookValue) (line : List ℕ) → old.stands.due ≡ [] → may_hear setup old.stands ≡ true
    → hearing_of setup old.stands.jobs old.stands.tagged line ≡ Aside
    → new.journal ≡ old.journal ++ Heard line ∷ [] → new.stands ≡ old.stands → new.room ≡ old.room
    → Took setup old new (hear_step setup old.stands line) Done
aside_took setup old new line d m h j s r =
    heard_took setup old new line old.stands [] Done
    (record { may = m; after_is = heard_of setup old.stands line Aside h; due_is = d }) (ap heard_reply (sym (live setup old.stands m))) j s
    (λ k. let e : room_owed setup new.stands ≡ room_owed setup old.stands = ap (room_owed setup) s in omega (arith, e, k, r))

pub unexpected_took : (setup : Setup) (old new : BookValue) (line : List ℕ) → may_hear setup old.stands ≡ true
    → hearing_of setup old.stands.jobs old.stands.tagged line ≡ Unexpected
    → new.journal ≡ old.journal ++ Heard line ∷ Say 0 unexpected_line ∷ []
    → new.stands ≡ record old.stands { due = []; over = true; unwritten = old.stands.unwritten ++ unexpected_line ∷ [] } → new.room ≡ old.room + 1
    → Took setup old new (hear_step setup old.stands line) Last
unexpected_took setup old new line m h j s r =
    let t : Standing = record old.stands { over = true; due = (0, unexpected_line) ∷ [] } in
    heard_took setup old new line t ((0, unexpected_line) ∷ []) Last
    (record { may = m; after_is = heard_of setup old.stands line Unexpected h; due_is = refl }) refl j
    (s ∙ sym (over_said setup (said_line t unexpected_line) (job_of t.jobs 0) refl))
    (λ k.
    let e : room_owed setup new.stands ≡ 3 * calls_owed setup old.stands.jobs + length (old.stands.unwritten ++ unexpected_line ∷ []) = ap (room_owed setup) s in
    omega (arith, e, k, r, length-append old.stands.unwritten (unexpected_line ∷ [])))

-- ---- requests to get ready

-- the line that asks for a setting, if there is one
abbrev pub asks_for : Option (List ℕ) → List (List ℕ)
asks_for None = []
asks_for (Some name) = remote_line (Getconfig name) ∷ []

-- a request to get ready is none about the remotes
ready_told : (about : About) (told : List (List ℕ)) (r : Option HostMessage) → is_readying r ≡ true → told_of about told r ≡ None
ready_told about told None h = absurd cc
ready_told about told (Some Prepare) h = refl
ready_told about told (Some Initremote) h = refl
ready_told about told (Some (AskExtensions names)) h = absurd cc
ready_told about told (Some (Transfer store key file)) h = absurd cc
ready_told about told (Some (Checkpresent key)) h = absurd cc
ready_told about told (Some (Remove key)) h = absurd cc
ready_told about told (Some Listconfigs) h = absurd cc
ready_told about told (Some Getcost) h = absurd cc
ready_told about told (Some Getavailability) h = absurd cc
ready_told about told (Some Getinfo) h = absurd cc
ready_told about told (Some (Whereis key)) h = absurd cc
ready_told about told (Some Exportsupported) h = absurd cc
ready_told about told (Some (Export name)) h = absurd cc
ready_told about told (Some (Transferexport store key file)) h = absurd cc
ready_told about told (Some (Checkpresentexport key)) h = absurd cc
ready_told about told (Some (Removeexport key)) h = absurd cc
ready_told about told (Some (Renameexport key onto)) h = absurd cc
ready_told about told (Some (Value value)) h = absurd cc
ready_told about told (Some (Creds user password)) h = absurd cc
ready_told about told (Some (HostError text)) h = absurd cc

ready_lines : (about : Option About) (told : List (List ℕ)) (due : Due) (r : Option HostMessage) → is_readying r ≡ true → lines_about about told due r ≡ lines_by due
ready_lines None told due r h = refl
ready_lines (Some about) told due r h = ap (lines_or due) (ready_told about told r h)

-- it asks for the next setting, if there is one
ready_due : (next : Option (List ℕ)) (values : List (List ℕ)) (prepared : Bool) (r : Option HostMessage) → is_readying r ≡ true
    → lines_by (request_due next values prepared r) ≡ asks_for next
ready_due next values prepared None h = absurd cc
ready_due None values prepared (Some Prepare) h = refl
ready_due (Some name) values prepared (Some Prepare) h = refl
ready_due None values prepared (Some Initremote) h = refl
ready_due (Some name) values prepared (Some Initremote) h = refl
ready_due next values prepared (Some (AskExtensions names)) h = absurd cc
ready_due next values prepared (Some (Transfer store key file)) h = absurd cc
ready_due next values prepared (Some (Checkpresent key)) h = absurd cc
ready_due next values prepared (Some (Remove key)) h = absurd cc
ready_due next values prepared (Some Listconfigs) h = absurd cc
ready_due next values prepared (Some Getcost) h = absurd cc
ready_due next values prepared (Some Getavailability) h = absurd cc
ready_due next values prepared (Some Getinfo) h = absurd cc
ready_due next values prepared (Some (Whereis key)) h = absurd cc
ready_due next values prepared (Some Exportsupported) h = absurd cc
ready_due next values prepared (Some (Export name)) h = absurd cc
ready_due next values prepared (Some (Transferexport store key file)) h = absurd cc
ready_due next values prepared (Some (Checkpresentexport key)) h = absurd cc
ready_due next values prepared (Some (Removeexport key)) h = absurd cc
ready_due next values prepared (Some (Renameexport key onto)) h = absurd cc
ready_due next values prepared (Some (Value value)) h = absurd cc
ready_due next values prepared (Some (Creds user password)) h = absurd cc
ready_due next values prepared (Some (HostError text)) h = absurd cc

-- the lines of a request to get ready
ready_in : (setup : Setup) (told : List (List ℕ)) (job : Job) → is_making_ready job ≡ true → lines_in setup told job ≡ asks_for (next_name setup job)
ready_in setup told job h =
    ready_lines setup.about (if_prepared job.prepared told) (due_in setup job) (request_of job) h
    ∙ ready_due (next_name setup job) job.values job.prepared (request_of job) h

prepare_readies : (r : Option HostMessage) → is_prepare r ≡ true → is_readying r ≡ true
prepare_readies None h = absurd cc
prepare_readies (Some Prepare) h = refl
prepare_readies (Some Initremote) h = absurd cc
prepare_readies (Some (AskExtensions names)) h = absurd cc
prepare_readies (Some (Transfer store key file)) h = absurd cc
prepare_readies (Some (Checkpresent key)) h = absurd cc
prepare_readies (Some (Remove key)) h = absurd cc
prepare_readies (Some Listconfigs) h = absurd cc
prepare_readies (Some Getcost) h = absurd cc
prepare_readies (Some Getavailability) h = absurd cc
prepare_readies (Some Getinfo) h = absurd cc
prepare_readies (Some (Whereis key)) h = absurd cc
prepare_readies (Some Exportsupported) h = absurd cc
prepare_readies (Some (Export name)) h = absurd cc
prepare_readies (Some (Transferexport store key file)) h = absurd cc
prepare_readies (Some (Checkpresentexport key)) h = absurd cc
prepare_readies (Some (Removeexport key)) h = absurd cc
prepare_readies (Some (Renameexport key onto)) h = absurd cc
prepare_readies (Some (Value value)) h = absurd cc
prepare_readies (Some (Creds user password)) h = absurd cc
prepare_readies (Some (HostError text)) h = absurd cc

-- a PREPARE that is answered at once asks for a value, so nothing more is told of where a request is answered and closed
not_told : (setup : Setup) (told : List (List ℕ)) (job : Job) (text : List ℕ) (rest : List (List ℕ)) → lines_in setup told job ≡ text ∷ rest → is_awaiting setup job ≡ false
    → (prepared : Bool) → told_by prepared job told ≡ told
not_told setup told job text rest lines a prepared = go (is_prepare (request_of job)) refl prepared
  where
    none : (next : Option (List ℕ)) → (true && is_some next) ≡ false → asks_for next ≡ text ∷ rest → ⊥
    none None h k = cc
    none (Some name) h k = cc

    go : (b : Bool) → is_prepare (request_of job) ≡ b → (p : Bool) → told_by p job told ≡ told
    go true e p =
        let ready : is_making_ready job ≡ true = prepare_readies (request_of job) e in
        absurd (none (next_name setup job) (ap (λ (b : Bool). b && is_some (next_name setup job)) (sym ready) ∙ a) (sym (ready_in setup told job ready) ∙ lines))
    go false e true = rw e refl
    go false e false = refl

-- ---- requests

request_after : (setup : Setup) (s : Standing) (line : List ℕ) (job : Job) → IsRequest setup s line job → after setup s (Heard line) ≡ with_request setup s job
request_after setup s line job is = heard_of setup s line (Asks job.number) is.hearing ∙ ap (with_request setup s) (sym is.job_is)

fresh_calls : (setup : Setup) (s : Standing) (line : List ℕ) (job : Job) → IsRequest setup s line job → job.calls ≡ 0
fresh_calls setup s line job is = ap (λ (j : Job). j.calls) is.job_is

mapped_none : (setup : Setup) (told : List (List ℕ)) (job : Job) → lines_in setup told job ≡ [] → due_of_job setup told job ≡ []
mapped_none setup told job e = ap (with_number job.number) e

-- some line is due, and these stand on the wire
record SomeLine (setup : Setup) (told : List (List ℕ)) (job : Job) (said : List (List ℕ)) : Type 0 where
  text : List ℕ
  rest : List (List ℕ)
  lines : lines_in setup told job ≡ text ∷ rest
  wired : map (job_line job.number) (text ∷ rest) ≡ said

some_line : (setup : Setup) (told : List (List ℕ)) (job : Job) (said : List (List ℕ)) → map (job_line job.number) (lines_in setup told job) ≡ said → is_some_line said ≡ true → SomeLine setup told job said
some_line setup told job said e some = go (lines_in setup told job) refl e
  where
    go : (lines : List (List ℕ)) → lines_in setup told job ≡ lines → map (job_line job.number) lines ≡ said → SomeLine setup told job said
    go [] h k = let none : is_some_line said ≡ false = ap is_some_line (sym k) in absurd cc
    go (text ∷ rest) h k = record { text = text; rest = rest; lines = h; wired = k }

pub some_there : (lines : List (List ℕ)) → (length lines == 0) ≡ false → is_some_line lines ≡ true
some_there [] h = absurd cc
some_there (line ∷ lines) h = refl

pub none_wired : (n : ℕ) (lines said : List (List ℕ)) → map (job_line n) lines ≡ said → (length said == 0) ≡ true → lines ≡ []
none_wired n [] said e h = refl
none_wired n (line ∷ lines) said e h =
    let some : (suc (length (map (job_line n) lines)) == 0) ≡ true = subst (λ (ls : List (List ℕ)). (length ls == 0) ≡ true) (sym e) h in
    absurd (never (suc (length (map (job_line n) lines)) == 0) some (not_zero (length (map (job_line n) lines))))

pub begin_took : (setup : Setup) (old new : BookValue) (line : List ℕ) (job : Job) → may_hear setup old.stands ≡ true
    → IsRequest setup old.stands line job → lines_in setup old.stands.told job ≡ []
    → new.journal ≡ old.journal ++ Heard line ∷ []
    → new.stands ≡ record old.stands { due = []; tagged = old.stands.tagged || starts_tags (request_of job); jobs = old.stands.jobs ++ job ∷ [] }
    → new.room ≡ old.room + 3 * most_calls setup job
    → Took setup old new (hear_step setup old.stands line) Done
begin_took setup old new line job m is silent j s r =
    let t : Standing = with_request setup old.stands job in
    let due : t.due ≡ [] = mapped_none setup old.stands.told job silent in
    heard_took setup old new line t [] Done
    (record { may = m; after_is = request_after setup old.stands line job is; due_is = due })
    (ap heard_reply (sym (live setup old.stands m))) j
    (s ∙ ap (λ (o : List (ℕ × List ℕ)). record old.stands { due = o; tagged = old.stands.tagged || starts_tags (request_of job); jobs = old.stands.jobs ++ job ∷ [] }) (sym due))
    (λ k.
    let e : room_owed setup new.stands ≡ 3 * calls_owed setup (old.stands.jobs ++ job ∷ []) + length old.stands.unwritten = ap (room_owed setup) s in
    omega (arith, e, k, r, calls_append setup old.stands.jobs job, fresh_calls setup old.stands line job is))

-- what stands after the lines that are said for a new job
said_new : (setup : Setup) (s : Standing) (line : List ℕ) (job : Job) (said : List (List ℕ)) → IsRequest setup s line job → (some : SomeLine setup s.told job said)
    → fold (after setup) (with_request setup s job) (due_said (with_number job.number (some.text ∷ some.rest)))
    ≡ said_in setup (record (with_request setup s job) { due = []; unwritten = s.unwritten ++ said }) (Some job)
said_new setup s line job said is some =
    said_through setup (with_request setup s job) job some.text some.rest (ap (with_number job.number) some.lines) (job_last s.jobs job (asks_new setup s.jobs s.tagged line job.number is.hearing))
    ∙ ap (λ (ls : List (List ℕ)). said_in setup (record (with_request setup s job) { due = []; unwritten = s.unwritten ++ ls }) (Some job)) some.wired

said_stays : (setup : Setup) (u : Standing) (job : Job) → is_awaiting setup job ≡ true → said_in setup u (Some job) ≡ u
said_stays setup u job w = go (is_some_due u.due) u.over
  where
    go : (a b : Bool) → cond (a || b || is_awaiting setup job) u (record u { told = told_by u.prepared job u.told; jobs = without_job job.number u.jobs }) ≡ u
    go true b = refl
    go false true = refl
    go false false = rw w refl

pub ask_took : (setup : Setup) (old new : BookValue) (line : List ℕ) (job : Job) (said : List (List ℕ)) → may_hear setup old.stands ≡ true
    → IsRequest setup old.stands line job → map (job_line job.number) (lines_in setup old.stands.told job) ≡ said → is_some_line said ≡ true → is_awaiting setup job ≡ true
    → new.journal ≡ old.journal ++ Heard line ∷ say_all job.number said
    → new.stands ≡ record old.stands { due = []; tagged = old.stands.tagged || starts_tags (request_of job); jobs = old.stands.jobs ++ job ∷ []; unwritten = old.stands.unwritten ++ said }
    → new.room ≡ old.room + length said + 3 * most_calls setup job
    → Took setup old new (hear_step setup old.stands line) Done
ask_took setup old new line job said m is e n a j s r =
    let some = some_line setup old.stands.told job said e n in
    let t : Standing = with_request setup old.stands job in
    let u : Standing = record t { due = []; unwritten = old.stands.unwritten ++ said } in
    let due : List (ℕ × List ℕ) = with_number job.number (some.text ∷ some.rest) in
    heard_took setup old new line t due Done
    (record { may = m; after_is = request_after setup old.stands line job is; due_is = ap (with_number job.number) some.lines })
    (ap heard_reply (sym (live setup old.stands m)))
    (j ∙ ap (λ (ls : List (List ℕ)). old.journal ++ Heard line ∷ say_all job.number ls) (sym some.wired)
    ∙ ap (λ (es : List Entry). old.journal ++ Heard line ∷ es) (sym (each_said job.number (some.text ∷ some.rest))))
    (s ∙ sym (said_stays setup u job a) ∙ sym (said_new setup old.stands line job said is some))
    (λ k.
    let f : room_owed setup new.stands ≡ 3 * calls_owed setup (old.stands.jobs ++ job ∷ []) + length (old.stands.unwritten ++ said) = ap (room_owed setup) s in
    omega (arith, f, k, r, calls_append setup old.stands.jobs job, fresh_calls setup old.stands line job is, length-append old.stands.unwritten said))

pub answered_took : (setup : Setup) (old new : BookValue) (line : List ℕ) (job : Job) (said : List (List ℕ)) → may_hear setup old.stands ≡ true
    → IsRequest setup old.stands line job → map (job_line job.number) (lines_in setup old.stands.told job) ≡ said → is_some_line said ≡ true → is_awaiting setup job ≡ false
    → new.journal ≡ old.journal ++ Heard line ∷ say_all job.number said
    → new.stands ≡ record old.stands { due = []; tagged = old.stands.tagged || starts_tags (request_of job); unwritten = old.stands.unwritten ++ said }
    → new.room ≡ old.room + length said
    → Took setup old new (hear_step setup old.stands line) Done
answered_took setup old new line job said m is e n a j s r =
    let some = some_line setup old.stands.told job said e n in
    let t : Standing = with_request setup old.stands job in
    let u : Standing = record t { due = []; unwritten = old.stands.unwritten ++ said } in
    let due : List (ℕ × List ℕ) = with_number job.number (some.text ∷ some.rest) in
    let gone : without_job job.number (old.stands.jobs ++ job ∷ []) ≡ old.stands.jobs = removal_last old.stands.jobs job (asks_new setup old.stands.jobs old.stands.tagged line job.number is.hearing) in
    heard_took setup old new line t due Done
    (record { may = m; after_is = request_after setup old.stands line job is; due_is = ap (with_number job.number) some.lines })
    (ap heard_reply (sym (live setup old.stands m)))
    (j ∙ ap (λ (ls : List (List ℕ)). old.journal ++ Heard line ∷ say_all job.number ls) (sym some.wired)
    ∙ ap (λ (es : List Entry). old.journal ++ Heard line ∷ es) (sym (each_said job.number (some.text ∷ some.rest))))
    (s ∙ ap (λ (jobs : List Job). record u { jobs = jobs }) (sym gone)
    ∙ ap (λ (told : List (List ℕ)). record u { told = told; jobs = without_job job.number u.jobs }) (sym (not_told setup old.stands.told job some.text some.rest some.lines a u.prepared))
    ∙ sym (said_goes setup u job refl (live setup old.stands m) a)
    ∙ sym (said_new setup old.stands line job said is some))
    (λ k.
    let f : room_owed setup new.stands ≡ 3 * calls_owed setup old.stands.jobs + length (old.stands.unwritten ++ said) = ap (room_owed setup) s in
    omega (arith, f, k, r, length-append old.stands.unwritten said))

-- ---- values

-- the job with those values
abbrev with_values : List (List ℕ) → Job → Job
with_values values job = record job { values = values }

-- what is known of the job that a value is told to
record ToldTo (setup : Setup) (s : Standing) (line : List ℕ) (place : ℕ) (values : List (List ℕ)) (job : Job) : Type 0 where
  ready : is_making_ready job ≡ true
  after_is : after setup s (Heard line) ≡ record s { due = due_of_job setup s.told (with_values values job); jobs = set s.jobs place (with_values values job) }
  found : job_of (set s.jobs place (with_values values job)) job.number ≡ Some (with_values values job)
  lines_are : lines_in setup s.told (with_values values job) ≡ asks_for (slice_get setup.settings (length values))
  calls : calls_owed setup (set s.jobs place (with_values values job)) ≡ calls_owed setup s.jobs

told_to : (setup : Setup) (s : Standing) (line : List ℕ) (place : ℕ) (values : List (List ℕ)) → AreApart s.jobs → (v : IsValue setup s line place values)
    → ToldTo setup s line place values v.job
told_to setup s line place values a v =
    let job : Job = v.job in
    let value : List ℕ = value_told (host_reading (text_in s.tagged line)) in
    let w = replies_awaited setup s.jobs s.tagged line job.number v.hearing in
    let here : job_of s.jobs job.number ≡ Some job = job_there s.jobs place job a v.there in
    let same : w.job ≡ job = let both_are : Some w.job ≡ Some job = sym w.found ∙ here in cc in
    let awaits : is_awaiting setup job ≡ true = subst (λ (j : Job). is_awaiting setup j ≡ true) same w.awaits in
    let ready : is_making_ready job ≡ true = (both (is_making_ready job) _ awaits).0 in
    let is : with_value value job ≡ with_values values job = ap (λ (vs : List (List ℕ)). with_values vs job) (sym v.values_are) in
    let jobs : with_job job.number (with_value value) s.jobs ≡ set s.jobs place (with_values values job) =
    change_there (with_value value) s.jobs place job a v.there ∙ ap (λ (j : Job). set s.jobs place j) is in
    let found : job_of (with_job job.number (with_value value) s.jobs) job.number ≡ Some (with_values values job) =
    job_changed (with_value value) s.jobs job.number job (λ j. refl) here ∙ ap (λ (j : Job). Some j) is in
    let owed = calls_set setup s.jobs place job (with_values values job) v.there in
    record {
      ready = ready;
      after_is = heard_of setup s line (Replies job.number) v.hearing
          ∙ ap (λ (o : Option Job). record s { due = due_of setup s.told o; jobs = with_job job.number (with_value value) s.jobs }) found
          ∙ ap (λ (js : List Job). record s { due = due_of_job setup s.told (with_values values job); jobs = js }) jobs;
      found = ap (λ (js : List Job). job_of js job.number) (sym jobs) ∙ found;
      lines_are = ready_in setup s.told (with_values values job) ready;
      calls = omega (arith, owed);
    }

pub told_last_took : (setup : Setup) (old new : BookValue) (line : List ℕ) (place : ℕ) (values : List (List ℕ)) → may_hear setup old.stands ≡ true
    → AreApart old.stands.jobs → (v : IsValue setup old.stands line place values) → slice_get setup.settings (length values) ≡ None
    → new.journal ≡ old.journal ++ Heard line ∷ []
    → new.stands ≡ record old.stands { due = []; jobs = set old.stands.jobs place (record v.job { values = values }) }
    → new.room ≡ old.room
    → Took setup old new (hear_step setup old.stands line) Done
told_last_took setup old new line place values m a v last j s r =
    let k = told_to setup old.stands line place values a v in
    let job : Job = with_values values v.job in
    let t : Standing = record old.stands { due = due_of_job setup old.stands.told job; jobs = set old.stands.jobs place job } in
    let silent : lines_in setup old.stands.told job ≡ [] = k.lines_are ∙ ap asks_for last in
    let due : t.due ≡ [] = mapped_none setup old.stands.told job silent in
    heard_took setup old new line t [] Done
    (record { may = m; after_is = k.after_is; due_is = due })
    (ap heard_reply (sym (live setup old.stands m))) j
    (s ∙ ap (λ (o : List (ℕ × List ℕ)). record old.stands { due = o; jobs = set old.stands.jobs place job }) (sym due))
    (λ h.
    let e : room_owed setup new.stands ≡ 3 * calls_owed setup (set old.stands.jobs place job) + length old.stands.unwritten = ap (room_owed setup) s in
    omega (arith, e, h, r, k.calls))

record SomeName (setup : Setup) (n : ℕ) (number : ℕ) (said : List ℕ) : Type 0 where
  name : List ℕ
  there : slice_get setup.settings n ≡ Some name
  wired : job_line number (remote_line (Getconfig name)) ≡ said

some_name : (setup : Setup) (n number : ℕ) (said : List ℕ) → option_map (λ name. job_line number (remote_line (Getconfig name))) (slice_get setup.settings n) ≡ Some said
    → SomeName setup n number said
some_name setup n number said e = go (slice_get setup.settings n) refl e
  where
    go : (o : Option (List ℕ)) → slice_get setup.settings n ≡ o → option_map (λ name. job_line number (remote_line (Getconfig name))) o ≡ Some said → SomeName setup n number said
    go None h k = absurd cc
    go (Some name) h k = record { name = name; there = h; wired = let is : job_line number (remote_line (Getconfig name)) ≡ said = cc in is }

pub told_more_took : (setup : Setup) (old new : BookValue) (line : List ℕ) (place : ℕ) (values : List (List ℕ)) (said : List ℕ) → may_hear setup old.stands ≡ true
    → AreApart old.stands.jobs → (v : IsValue setup old.stands line place values)
    → option_map (λ name. job_line v.job.number (remote_line (Getconfig name))) (slice_get setup.settings (length values)) ≡ Some said
    → new.journal ≡ old.journal ++ Heard line ∷ Say v.job.number said ∷ []
    → new.stands ≡ record old.stands { due = []; jobs = set old.stands.jobs place (record v.job { values = values }); unwritten = old.stands.unwritten ++ said ∷ [] }
    → new.room ≡ old.room + 1
    → Took setup old new (hear_step setup old.stands line) Done
told_more_took setup old new line place values said m a v e j s r =
    let k = told_to setup old.stands line place values a v in
    let some = some_name setup (length values) v.job.number said e in
    let job : Job = with_values values v.job in
    let text : List ℕ = remote_line (Getconfig some.name) in
    let due : List (ℕ × List ℕ) = (job.number, text) ∷ [] in
    let asks : due_of_job setup old.stands.told job ≡ due = ap (with_number job.number) (k.lines_are ∙ ap asks_for some.there) in
    let t : Standing = record old.stands { due = due; jobs = set old.stands.jobs place job } in
    let after_is : after setup old.stands (Heard line) ≡ t = k.after_is ∙ ap (λ (o : List (ℕ × List ℕ)). record old.stands { due = o; jobs = set old.stands.jobs place job }) asks in
    let awaits : is_awaiting setup job ≡ true = rw (k.ready, some.there) refl in
    heard_took setup old new line t due Done
    (record { may = m; after_is = after_is; due_is = refl })
    (ap heard_reply (sym (live setup old.stands m)))
    (j ∙ ap (λ (l : List ℕ). old.journal ++ Heard line ∷ Say job.number l ∷ []) (sym some.wired))
    (s ∙ ap (λ (l : List ℕ). said_line t l) (sym some.wired)
    ∙ sym (said_stays setup (said_line t (job_line job.number text)) job awaits)
    ∙ sym (ap (said_in setup (said_line t (job_line job.number text))) k.found))
    (λ h.
    let f : room_owed setup new.stands ≡ 3 * calls_owed setup (set old.stands.jobs place job) + length (old.stands.unwritten ++ said ∷ []) = ap (room_owed setup) s in
    omega (arith, f, h, r, k.calls, length-append old.stands.unwritten (said ∷ [])))

-- ---- the job that a value is told to

pub never_none : (setup : Setup) (s : Standing) (line : List ℕ) (n : ℕ) → hearing_of setup s.jobs s.tagged line ≡ Replies n → position (has_number n) s.jobs ≡ None → ⊥
never_none setup s line n h p =
    let w = replies_awaited setup s.jobs s.tagged line n h in
    let none : job_of s.jobs n ≡ None = found_none (has_number n) s.jobs p in
    let both_are : Some w.job ≡ None = sym w.found ∙ none in
    absurd cc

pub is_value : (setup : Setup) (s : Standing) (line : List ℕ) (n place : ℕ) (values : List (List ℕ)) (job : Job) → hearing_of setup s.jobs s.tagged line ≡ Replies n
    → position (has_number n) s.jobs ≡ Some place → job ≡ get_or s.jobs place job
    → values ≡ job.values ++ value_told (host_reading (text_in s.tagged line)) ∷ [] → IsValue setup s line place values
is_value setup s line n place values job h p r v =
    let f = found_place (has_number n) s.jobs place p in
    let same : job ≡ f.job = read_is s.jobs place f.job job f.there r in
    let number : n ≡ f.job.number = sym (equal f.job.number n f.passes) in
    record {
      job = f.job;
      there = f.there;
      hearing = h ∙ ap (λ (m : ℕ). Replies m) number;
      values_are = v ∙ ap (λ (j : Job). j.values ++ value_told (host_reading (text_in s.tagged line)) ∷ []) same;
    }

map_twice : (n : ℕ) (o : Option (List ℕ)) → option_map (λ name. job_line n (remote_line (Getconfig name))) o ≡ option_map (job_line n) (option_map (λ name. remote_line (Getconfig name)) o)
map_twice n None = refl
map_twice n (Some name) = refl

pub more_said : (jobs : List Job) (n place : ℕ) (o : Option (List ℕ)) (said : List ℕ) → position (has_number n) jobs ≡ Some place
    → option_map (job_line n) (option_map (λ name. remote_line (Getconfig name)) o) ≡ Some said
    → IfSome (slice_get jobs place) (λ job. option_map (λ name. job_line job.number (remote_line (Getconfig name))) o ≡ Some said)
more_said jobs n place o said p e =
    let f = found_place (has_number n) jobs place p in
    let number : n ≡ f.job.number = sym (equal f.job.number n f.passes) in
    subst (λ (x : Option Job). IfSome x (λ job. option_map (λ name. job_line job.number (remote_line (Getconfig name))) o ≡ Some said)) (sym f.there)
    (subst (λ (m : ℕ). option_map (λ name. job_line m (remote_line (Getconfig name))) o ≡ Some said) number (map_twice n o ∙ e))
