-- Each job of a legal journal is as it is meant to be.
use Rattle.std.proofs.Common.{◌≡◌, inl, inr, ℕ, List, [], ◌∷◌, ◌++◌, refl, sym, ap, subst, ◌∙◌, Bool, true, false, Some, None, Option}
use Rattle.std.specs.Prelude.{map}
use Rattle.std.specs.List.{list_any}
use Rattle.annex_model.specs.Messages.{HostMessage, host_reading}
use Rattle.kit_serve.specs.Kit.Kits.{asked_by, Due, Silence, Line, Asks, is_readying}
use Rattle.kit_async_model.specs.declared.setup.Setup.{Setup}
use Rattle.kit_async_model.specs.declared.job.Job.{Job}
use Rattle.kit_async_model.specs.declared.entry.Entry.{Entry}
use Rattle.kit_async_model.specs.declared.entry.Entry.TheVariants.{Heard, Take, Call, Say, Wrote, Close, Lack}
use Rattle.kit_async_model.specs.declared.hearing.Hearing.{Hearing}
use Rattle.kit_async_model.specs.declared.hearing.Hearing.TheVariants.{Foul, Unexpected, Aside, Asks as AsksJob, Replies}
use Rattle.kit_async_model.specs.Abouts.{lines_about}
use Rattle.kit_async_model.specs.Books.{AreApart}
use Rattle.kit_async_model.specs.Jobs.{request_due, due_in, if_prepared, next_name, has_number, job_of}
use Rattle.kit_async_model.specs.Hearings.{text_in, hearing_of}
use Rattle.kit_async_model.specs.Legality.{may_come, comes_where, is_said, follows, legal_from, is_legal}
use Rattle.kit_async_model.specs.Standings.{Standing, new_job, due_of_job, with_request, heard_as, after, standing}
use Rattle.kit_async_model.specs.Meanings.{Item, Told, item_of, of_job, asks_for, begins_job, items_until, stays_open, job_items, IsSaid, IsByDue, IsSettledBy, IsMeant}
use Rattle.kit_async_model.proofs.Apart.{asks_new, after_apart, standing_apart}
use Rattle.kit_async_model.proofs.Fronts.{parts}
use Rattle.kit_async_model.proofs.Places.{job_last}
use Rattle.kit_async_model.proofs.MeaningLemmas.Requests.{Begins, SomeLines, begins, others_due, answers}
use Rattle.kit_async_model.proofs.MeaningLemmas.Numbers.{new_other}
use Rattle.kit_async_model.proofs.MeaningLemmas.Phases.{Phase, Saying, Working, asking, IsLeft, Ends, ends_by, asking_left, can_end, readied, worked}
use Rattle.kit_async_model.proofs.MeaningLemmas.Stands.{IsReadying, IsLast, IsIn, At, within_of, is_in_over}
use Rattle.kit_async_model.proofs.MeaningLemmas.Heards.{heard_step, told_in}
use Rattle.kit_async_model.proofs.MeaningLemmas.Workings.{take_step}
use Rattle.kit_async_model.proofs.MeaningLemmas.Callings.{call_step}
use Rattle.kit_async_model.proofs.MeaningLemmas.Sayings.{say_step}
use Rattle.kit_async_model.proofs.MeaningLemmas.Settled.{settled_from}
use Rattle.kit_async_model.proofs.MeaningLemmas.Steps.{Steps, none_due}
use Rattle.std.proofs.lemmas.Bool.{and_parts as both}
use Rattle.kit_async_model.proofs.Across.{live}

-- ---- any entry

comes_step : (setup : Setup) (s : Standing) (n : ℕ) (request : Option HostMessage) (e : Entry) (p : Phase) → AreApart s.jobs → At setup s n request p → s.due ≡ [] → may_come setup s e ≡ true
    → Steps setup n request p (of_job n (item_of setup s e)) (after setup s e)
comes_step setup s n request (Heard line) p a at d h = heard_step setup s n request line p at d (live setup s h)
comes_step setup s n request (Take m remote) p a at d h = take_step setup s n request m remote p at d h
comes_step setup s n request (Call m remote said) p a at d h = call_step setup s n request m remote said p a at d h
comes_step setup s n request (Say m line) p a at d h = absurd cc
comes_step setup s n request Wrote p a at d h = inl (record { none = refl; at = record { job = at.job; found = at.found; is = at.is } })
comes_step setup s n request Close p a at d h = inl (record { none = refl; at = record { job = at.job; found = at.found; is = at.is } })
comes_step setup s n request Lack p a at d h = absurd cc

due_step : (setup : Setup) (s : Standing) (n : ℕ) (request : Option HostMessage) (e : Entry) (p : Phase) (d : ℕ × List ℕ) (rest : List (ℕ × List ℕ)) → At setup s n request p
    → s.due ≡ d ∷ rest → is_said d e ≡ true → Steps setup n request p (of_job n (item_of setup s e)) (after setup s e)
due_step setup s n request (Say m line) p d rest at e h = say_step setup s n request m line p d rest at e h
due_step setup s n request Lack p d rest at e h =
    inl (record { none = refl; at = record { job = at.job; found = at.found; is = is_in_over setup n request at.job s.due [] s.over true p refl at.is } })
due_step setup s n request other p d rest at e h = absurd cc

entry_step : (setup : Setup) (s : Standing) (n : ℕ) (request : Option HostMessage) (e : Entry) (p : Phase) → AreApart s.jobs → At setup s n request p → follows setup s e ≡ true
    → Steps setup n request p (of_job n (item_of setup s e)) (after setup s e)
entry_step setup s n request e p a at h = go s.due refl h
  where
    go : (due : List (ℕ × List ℕ)) → s.due ≡ due → comes_where setup s due e ≡ true → Steps setup n request p (of_job n (item_of setup s e)) (after setup s e)
    go [] d k = comes_step setup s n request e p a at d k
    go (due ∷ rest) d k = due_step setup s n request e p due rest at d k

-- an open number is no new one
begins_none : (setup : Setup) (s : Standing) (n : ℕ) (job : Job) → job_of s.jobs n ≡ Some job → (e : Entry) → begins_job setup s n e ≡ false
begins_none setup s n job found (Heard line) = go (hearing_of setup s.jobs s.tagged line) refl
  where
    go : (h : Hearing) → hearing_of setup s.jobs s.tagged line ≡ h → asks_for n h ≡ false
    go (AsksJob m) e = new_other s.jobs n m job found (asks_new setup s.jobs s.tagged line m e)
    go Foul e = refl
    go Unexpected e = refl
    go Aside e = refl
    go (Replies m) e = refl
begins_none setup s n job found (Take m remote) = refl
begins_none setup s n job found (Call m remote said) = refl
begins_none setup s n job found (Say m line) = refl
begins_none setup s n job found Wrote = refl
begins_none setup s n job found Close = refl
begins_none setup s n job found Lack = refl

-- ---- all entries that follow

-- what is left of a job is what its items are
abbrev Left : Setup → Standing → ℕ → Option HostMessage → Phase → List Entry → Type 0
Left setup s n request p rest = Ends (stays_open setup s n rest) setup request p (items_until setup s n rest)

left_from : (setup : Setup) (s : Standing) (n : ℕ) (request : Option HostMessage) (p : Phase) (rest : List Entry) → AreApart s.jobs → At setup s n request p → legal_from setup s rest ≡ true
    → Left setup s n request p rest
left_from setup s n request p [] a at h =
    rw at.found (can_end setup request p (within_of setup n request at.job s.due s.over p at.is))
left_from setup s n request p (e ∷ rest) a at h =
    let b = both (follows setup s e) (legal_from setup (after setup s e) rest) h in
    let none : begins_job setup s n e ≡ false = begins_none setup s n at.job at.found e in
    rw none
    (go (entry_step setup s n request e p a at b.0) b.1 (λ (q : Phase) (now : At setup (after setup s e) n request q). left_from setup (after setup s e) n request q rest (after_apart setup s e a) now b.1))
  where
    go : Steps setup n request p (of_job n (item_of setup s e)) (after setup s e) → legal_from setup (after setup s e) rest ≡ true
        → ((q : Phase) → At setup (after setup s e) n request q → Left setup (after setup s e) n request q rest)
        → Ends (stays_open setup (after setup s e) n rest) setup request p (of_job n (item_of setup s e) ++ items_until setup (after setup s e) n rest)
    go (inl k) l more = rw k.none (more p k.at)
    go (inr (inl k)) l more =
        rw k.are
        (ends_by (stays_open setup (after setup s e) n rest) setup request p k.to k.item k.left (items_until setup (after setup s e) n rest) (more k.to k.at))
    go (inr (inr k)) l more = let o = settled_from setup (after setup s e) n rest k.gone l in rw (k.are, o.shut, o.items) k.left

-- ---- a request

-- what comes next of a request: its lines, or a call
abbrev said_phase : List (List ℕ) → Phase
said_phase [] = Saying [] []
said_phase (line ∷ lines) = Saying line lines

abbrev phase_by : Setup → List (List ℕ) → Due → Option HostMessage → Phase
phase_by setup told Silence request = said_phase (lines_about setup.about told Silence request)
phase_by setup told (Line line) request = said_phase (lines_about setup.about told (Line line) request)
phase_by setup told (Asks asked) request = Working asked

abbrev phase_of : Setup → List (List ℕ) → Bool → Option HostMessage → Bool → Phase
phase_of setup told prepared request true = asking [] setup.settings
phase_of setup told prepared request false = phase_by setup told (request_due None [] prepared request) request

-- a job that is new
new_readying : (setup : Setup) (n : ℕ) (text : List ℕ) (prepared : Bool) → is_readying (host_reading text) ≡ true
    → IsReadying setup (host_reading text) (new_job n text prepared) [] setup.settings 0
new_readying setup n text prepared r = record { request_is = refl; ready = r; values_are = refl; left_is = refl; calls_are = refl; unsettled = refl }

said_in_phase : (setup : Setup) (n : ℕ) (request : Option HostMessage) (job : Job) (due : List (ℕ × List ℕ)) (over : Bool) (lines : List (List ℕ)) → SomeLines lines
    → due ≡ map (λ line. (n, line)) lines → IsLast setup job → IsIn setup n request job due over (said_phase lines)
said_in_phase setup n request job due over [] some d last = let are = some.are in absurd cc
said_in_phase setup n request job due over (line ∷ lines) some d last = (last, inr d)

new_other_in : (setup : Setup) (n : ℕ) (text : List ℕ) (prepared : Bool) (told : List (List ℕ)) (over : Bool) → is_readying (host_reading text) ≡ false → Begins (host_reading text)
    → IsIn setup n (host_reading text) (new_job n text prepared) (due_of_job setup told (new_job n text prepared)) over
    (phase_by setup (if_prepared prepared told) (request_due None [] prepared (host_reading text)) (host_reading text))
new_other_in setup n text prepared told over r b = go (request_due None [] prepared (host_reading text)) refl
  where
    job : Job
    job = new_job n text prepared

    last : IsLast setup job
    last = record { told = rw r refl; uncalled = λ jobs remote. rw r refl }

    due : due_in setup job ≡ request_due None [] prepared (host_reading text)
    due = others_due setup (next_name setup job) prepared (host_reading text) r b

    lines : (d : Due) → request_due None [] prepared (host_reading text) ≡ d
        → due_of_job setup told job ≡ map (λ line. (n, line)) (lines_about setup.about (if_prepared prepared told) d (host_reading text))
    lines d e = ap (λ (x : Due). map (λ (line : List ℕ). (n, line)) (lines_about setup.about (if_prepared prepared told) x (host_reading text))) (due ∙ e)

    go : (d : Due) → request_due None [] prepared (host_reading text) ≡ d
        → IsIn setup n (host_reading text) job (due_of_job setup told job) over (phase_by setup (if_prepared prepared told) d (host_reading text))
    go Silence e =
        said_in_phase setup n (host_reading text) job (due_of_job setup told job) over (lines_about setup.about (if_prepared prepared told) Silence (host_reading text))
        (answers setup (if_prepared prepared told) prepared (host_reading text) b Silence e) (lines Silence e) last
    go (Line line) e =
        said_in_phase setup n (host_reading text) job (due_of_job setup told job) over (lines_about setup.about (if_prepared prepared told) (Line line) (host_reading text))
        (answers setup (if_prepared prepared told) prepared (host_reading text) b (Line line) e) (lines (Line line) e) last
    go (Asks asked) e =
        let none : lines_about setup.about (if_prepared prepared told) (Asks asked) (host_reading text) ≡ [] =
        answers setup (if_prepared prepared told) prepared (host_reading text) b (Asks asked) e in (
          record { request_is = refl; asks = ap asked_by (due ∙ e); unready = r; among = λ remote h. absurd cc },
          inr (none_due n (due_of_job setup told job) (lines (Asks asked) e ∙ ap (map (λ (line : List ℕ). (n, line))) none)),
        )

new_in : (setup : Setup) (n : ℕ) (text : List ℕ) (prepared : Bool) (told : List (List ℕ)) (over : Bool) → Begins (host_reading text) → (b : Bool) → is_readying (host_reading text) ≡ b
    → IsIn setup n (host_reading text) (new_job n text prepared) (due_of_job setup told (new_job n text prepared)) over
    (phase_of setup (if_prepared prepared told) prepared (host_reading text) b)
new_in setup n text prepared told over b true r = told_in setup told n (host_reading text) (new_job n text prepared) over [] setup.settings refl (new_readying setup n text prepared r)
new_in setup n text prepared told over b false r = new_other_in setup n text prepared told over r b

-- ---- a whole job

said_settled : (setup : Setup) (request : Option HostMessage) (lines : List (List ℕ)) → SomeLines lines → (items : List Item) → IsLeft setup request (said_phase lines) items
    → IsSaid lines request (Told request ∷ items)
said_settled setup request [] some items k = let are = some.are in absurd cc
said_settled setup request (line ∷ lines) some items k = ap (λ (xs : List Item). Told request ∷ xs) k

due_settled : (setup : Setup) (told : List (List ℕ)) (prepared : Bool) (request : Option HostMessage) → Begins request → (due : Due) → request_due None [] prepared request ≡ due
    → (items : List Item) → IsLeft setup request (phase_by setup told due request) items → IsByDue setup told due request (Told request ∷ items)
due_settled setup told prepared request b Silence e items k =
    said_settled setup request (lines_about setup.about told Silence request) (answers setup told prepared request b Silence e) items k
due_settled setup told prepared request b (Line line) e items k =
    said_settled setup request (lines_about setup.about told (Line line) request) (answers setup told prepared request b (Line line) e) items k
due_settled setup told prepared request b (Asks asked) e items k = worked setup asked request items k

settled_by : (setup : Setup) (s : Standing) (request : Option HostMessage) → Begins request → (b : Bool) → (items : List Item)
    → IsLeft setup request (phase_of setup (if_prepared s.prepared s.told) s.prepared request b) items → IsSettledBy b setup s request (Told request ∷ items)
settled_by setup s request b true items k = readied setup request items (asking_left setup request [] setup.settings items k)
settled_by setup s request b false items k =
    due_settled setup (if_prepared s.prepared s.told) s.prepared request b (request_due None [] s.prepared request) refl items k

meant_by : (opened : Bool) (setup : Setup) (s : Standing) (request : Option HostMessage) → Begins request → (items : List Item)
    → Ends opened setup request (phase_of setup (if_prepared s.prepared s.told) s.prepared request (is_readying request)) items → IsMeant opened setup s request (Told request ∷ items)
meant_by true setup s request b items k = (k.0, settled_by setup s request b (is_readying request) (items ++ k.0) k.1)
meant_by false setup s request b items k = settled_by setup s request b (is_readying request) items k

pub jobs_are_meant : (setup : Setup) (past rest : List Entry) (line : List ℕ) (number : ℕ) → is_legal setup (past ++ Heard line ∷ rest) ≡ true
    → hearing_of setup (standing setup past).jobs (standing setup past).tagged line ≡ AsksJob number
    → IsMeant (stays_open setup (after setup (standing setup past) (Heard line)) number rest) setup (standing setup past) (host_reading (text_in (standing setup past).tagged line))
    (job_items setup past line number rest)
jobs_are_meant setup past rest line number h heard =
    let s : Standing = standing setup past in
    let text : List ℕ = text_in s.tagged line in
    let request : Option HostMessage = host_reading text in
    let b = both (follows setup s (Heard line)) (legal_from setup (after setup s (Heard line)) rest) (parts setup past (Heard line ∷ rest) h).1 in
    let new : list_any (has_number number) s.jobs ≡ false = asks_new setup s.jobs s.tagged line number heard in
    let begun : Begins request = begins setup s.jobs s.tagged line number heard in
    let job : Job = new_job number text s.prepared in
    let is : after setup s (Heard line) ≡ with_request setup s job = ap (heard_as setup s text) heard in
    let p : Phase = phase_of setup (if_prepared s.prepared s.told) s.prepared request (is_readying request) in
    let at : At setup (with_request setup s job) number request p = record {
      job = job;
      found = job_last s.jobs job new;
      is = new_in setup number text s.prepared s.told s.over begun (is_readying request) refl;
    } in
    let now : At setup (after setup s (Heard line)) number request p = subst (λ (t : Standing). At setup t number request p) (sym is) at in
    let left = left_from setup (after setup s (Heard line)) number request p rest (after_apart setup s (Heard line) (standing_apart setup past)) now b.1 in
    meant_by (stays_open setup (after setup s (Heard line)) number rest) setup s request begun (items_until setup (after setup s (Heard line)) number rest) left
