-- What the lines and the calls of one job mean: what a kit that serves one job at a time says to its request.
use Rattle.std.specs.Prelude.{ℕ, ◌≡◌, ◌⊎◌, ◌+◌, ◌-◌, ◌≤◌, ◌==◌, ◌&&◌, Bool, true, false, if◌then◌else◌, List, [], ◌∷◌, ◌++◌, map, length, Option, Some, None, IsTrue}
use Rattle.std.specs.List.{list_all}
use Rattle.annex_model.specs.Messages.{HostMessage, Value, Getconfig, host_reading, remote_line}
use Rattle.annex_model.specs.Tags.{untag, without_tag}
use Rattle.kit_serve.specs.declared.kit.call.Said.{Said}
use Rattle.kit_serve.specs.declared.kit.call.Asked.{Asked}
use Rattle.kit_serve.specs.declared.kit.call.Asked.TheVariants.{Prepare as AskPrepare}
use Rattle.kit_serve.specs.Kit.Kits.{Due, Silence, Line, Asks, is_readying, is_yes, final_lines, asked_by}
use Rattle.kit_async_model.specs.declared.setup.Setup.{Setup}
use Rattle.kit_async_model.specs.declared.job.Job.{Job}
use Rattle.kit_async_model.specs.declared.entry.Entry.{Entry}
use Rattle.kit_async_model.specs.declared.entry.Entry.TheVariants.{Heard, Call, Say}
use Rattle.kit_async_model.specs.declared.hearing.Hearing.{Hearing}
use Rattle.kit_async_model.specs.declared.hearing.Hearing.TheVariants.{Asks as AsksJob, Replies}
use Rattle.kit_async_model.specs.Abouts.{lines_about}
use Rattle.kit_async_model.specs.Jobs.{request_due, due_in, if_prepared, job_of}
use Rattle.kit_async_model.specs.Hearings.{text_in, is_open, hearing_of}
use Rattle.kit_async_model.specs.Standings.{Standing, after, standing}
use Rattle.kit_async_model.specs.Legality.{is_legal}

-- ---- the lines of a job, and its calls

-- a message of the host, a line that is said, both without a tag; or a call of a remote, what it was called for, and what it said
pub data Item : Type 0 where
  Told : (message : Option HostMessage) → Item
  Says : (line : List ℕ) → Item
  Calls : (remote : ℕ) (asked : Option Asked) (said : Said) → Item

abbrev pub said_text : ℕ → List ℕ → List ℕ
said_text number line = if number == 0 then line else without_tag line (untag line)

abbrev pub told_item : List ℕ → Hearing → Option (ℕ × Item)
told_item text (AsksJob number) = Some (number, Told (host_reading text))
told_item text (Replies number) = Some (number, Told (host_reading text))
told_item text hearing = None

abbrev pub said_item : Standing → ℕ → List ℕ → Option (ℕ × Item)
said_item s job line = if is_open (job_of s.jobs job) && (if s.over then false else true) then Some (job, Says (said_text job line)) else None

-- what a remote is called for in the job
abbrev pub asked_in : Setup → Option Job → Option Asked
asked_in setup None = None
asked_in setup (Some job) = asked_by (due_in setup job)

-- What an entry is to which job. A line that ended the kit belongs to none, nor do the version and the last words.
abbrev pub item_of : Setup → Standing → Entry → Option (ℕ × Item)
item_of setup s (Heard line) = told_item (text_in s.tagged line) (hearing_of setup s.jobs s.tagged line)
item_of setup s (Call job remote said) = Some (job, Calls remote (asked_in setup (job_of s.jobs job)) said)
item_of setup s (Say job line) = said_item s job line
item_of setup s entry = None

abbrev pub of_job : ℕ → Option (ℕ × Item) → List Item
of_job number None = []
of_job number (Some item) = if item.0 == number then item.1 ∷ [] else []

abbrev pub asks_for : ℕ → Hearing → Bool
asks_for number (AsksJob n) = n == number
asks_for number hearing = false

-- the entry is a request with the number: a new job
abbrev pub begins_job : Setup → Standing → ℕ → Entry → Bool
begins_job setup s number (Heard line) = asks_for number (hearing_of setup s.jobs s.tagged line)
begins_job setup s number entry = false

-- the items of the number's job, up to its next
abbrev pub items_until : Setup → Standing → ℕ → List Entry → List Item
items_until setup s number [] = []
items_until setup s number (entry ∷ rest) =
    if begins_job setup s number entry then []
    else of_job number (item_of setup s entry) ++ items_until setup (after setup s entry) number rest

-- the job of that number is open after the entries, or before its number's next
abbrev pub stays_open : Setup → Standing → ℕ → List Entry → Bool
stays_open setup s number [] = is_open (job_of s.jobs number)
stays_open setup s number (entry ∷ rest) =
    if begins_job setup s number entry then is_open (job_of s.jobs number)
    else stays_open setup (after setup s entry) number rest

-- the items of the job that the line begins, which was heard after the past
abbrev pub job_items : Setup → List Entry → List ℕ → ℕ → List Entry → List Item
job_items setup past line number rest =
    Told (host_reading (text_in (standing setup past).tagged line))
    ∷ items_until setup (after setup (standing setup past) (Heard line)) number rest

-- ---- what they may be

-- each setting is asked for, and its value told
abbrev pub asked_values : List (List ℕ) → List (List ℕ) → List Item
asked_values [] values = []
asked_values (name ∷ names) [] = []
asked_values (name ∷ names) (value ∷ values) = Says (remote_line (Getconfig name)) ∷ Told (Some (Value value)) ∷ asked_values names values

-- one remote after the other was called for the same, from this one on
abbrev pub calls_from : ℕ → Asked → List Said → List Item
calls_from remote asked [] = []
calls_from remote asked (said ∷ more) = Calls remote (Some asked) said ∷ calls_from (remote + 1) asked more

-- PREPARE and INITREMOTE: with all values that were told, the remotes are called in order, until one doesn't say Yes.
pub record IsReadied (setup : Setup) (request : Option HostMessage) (items : List Item) : Type 0 where
  pub values : List (List ℕ)
  pub firsts : List Said
  pub last : Said
  pub all : length values ≡ length setup.settings
  -- the last that is called is one of them
  pub few : length firsts ≤ setup.remotes - 1
  pub agree : IsTrue (list_all is_yes firsts)
  pub ends : (is_yes last ≡ false) ⊎ (length firsts + 1 ≡ setup.remotes)
  pub are : items ≡ Told request ∷ asked_values setup.settings values ++ calls_from 0 (AskPrepare values) (firsts ++ last ∷ []) ++ map (λ line. Says (remote_line line)) (final_lines request last)

-- a request for a key: one call of one remote, and the lines for what it said
pub record IsWorked (setup : Setup) (asked : Asked) (request : Option HostMessage) (items : List Item) : Type 0 where
  pub remote : ℕ
  pub said : Said
  pub among : remote ≤ setup.remotes - 1
  pub are : items ≡ Told request ∷ Calls remote (Some asked) said ∷ map (λ line. Says (remote_line line)) (final_lines request said)

-- a request that is answered at once: its lines in their order, of which there is one at least
abbrev pub IsSaid : List (List ℕ) → Option HostMessage → List Item → Type 0
IsSaid [] request items = ⊥
IsSaid (line ∷ lines) request items = items ≡ Told request ∷ map (λ l. Says l) (line ∷ lines)

abbrev pub IsByDue : Setup → List (List ℕ) → Due → Option HostMessage → List Item → Type 0
IsByDue setup told Silence request items = IsSaid (lines_about setup.about told Silence request) request items
IsByDue setup told (Line line) request items = IsSaid (lines_about setup.about told (Line line) request) request items
IsByDue setup told (Asks asked) request items = IsWorked setup asked request items

abbrev pub IsSettledBy : Bool → Setup → Standing → Option HostMessage → List Item → Type 0
IsSettledBy true setup s request items = IsReadied setup request items
IsSettledBy false setup s request items = IsByDue setup (if_prepared s.prepared s.told) (request_due None [] s.prepared request) request items

-- the items of a settled job, whose request was heard when the kit stood so; None where its line spells no message
abbrev pub IsSettled : Setup → Standing → Option HostMessage → List Item → Type 0
IsSettled setup s request items = IsSettledBy (is_readying request) setup s request items

-- of a job that isn't settled they go on to such ones
abbrev pub GoesOn : Setup → Standing → Option HostMessage → List Item → Type 0
GoesOn setup s request items = (more : List Item) × IsSettled setup s request (items ++ more)

-- of a job that is open, or that is settled
abbrev pub IsMeant : Bool → Setup → Standing → Option HostMessage → List Item → Type 0
IsMeant true setup s request items = GoesOn setup s request items
IsMeant false setup s request items = IsSettled setup s request items

-- ---- what is to be shown of a legal journal

-- each job of it is as it is meant to be
abbrev pub JobsAreMeant : Type 0
JobsAreMeant =
    (setup : Setup) (past rest : List Entry) (line : List ℕ) (number : ℕ)
    → is_legal setup (past ++ Heard line ∷ rest) ≡ true
    → hearing_of setup (standing setup past).jobs (standing setup past).tagged line ≡ AsksJob number
    → IsMeant (stays_open setup (after setup (standing setup past) (Heard line)) number rest) setup (standing setup past) (host_reading (text_in (standing setup past).tagged line))
    (job_items setup past line number rest)
