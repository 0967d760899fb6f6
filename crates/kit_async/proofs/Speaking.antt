-- No answer of a kit is its version or the error, so these are said first and last.
use Rattle.std.proofs.Common.{◌≡◌, ℕ, ◌==◌, List, [], ◌∷◌, ◌++◌, refl, sym, ap, subst, ◌∙◌, Bool, true, false, not, ◌&&◌, ◌||◌, Some, None, Option, codes}
use Rattle.std.specs.Prelude.{bytes_eq, drop, fold, if◌then◌else◌, map, slice_get, slice_index}
use Rattle.std.specs.List.{list_all, list_any}
use Rattle.std.specs.Str.{is_utf8}
use Rattle.std.proofs.Math.Seq.{append_snoc}
use Rattle.std.proofs.lemmas.Slice.Eq.{bytes_eq-Decides}
use Rattle.annex_model.specs.Messages.{RemoteMessage, remote_line, Version, Error, Extensions, UnsupportedRequest, Progress, Debug, Info, Dirhash, DirhashLower, Getconfig, Setconfig, Getcreds, Setcreds, Getuuid, Getgitdir, Getgitremotename, Getwanted, Setwanted, Getstate, Setstate, Seturlpresent, Seturlmissing, Geturls, PrepareSuccess, PrepareFailure, InitremoteSuccess, InitremoteFailure, TransferSuccess, TransferFailure, CheckpresentSuccess, CheckpresentFailure, CheckpresentUnknown, RemoveSuccess, RemoveFailure, Config, Configend, Cost, Availability, Infofield, Infovalue, Infoend, WhereisSuccess, WhereisFailure, ExportsupportedSuccess, ExportsupportedFailure, RenameexportSuccess, RenameexportFailure}
use Rattle.annex_model.specs.Messages.{HostMessage, host_reading, AskExtensions, Prepare, Initremote, Transfer, Checkpresent, Remove, Listconfigs, Getcost, Getavailability, Getinfo, Whereis, Value, Creds, HostError, Exportsupported, Export, Transferexport, Checkpresentexport, Removeexport, Renameexport}
use Rattle.annex_model.specs.Tags.{untag}
use Rattle.kit_serve.specs.declared.kit.call.Said.{Said}
use Rattle.kit_serve.specs.declared.kit.call.Said.TheVariants.{Yes, No, Failure, Set}
use Rattle.kit_serve.specs.Kit.Kits.{Due, Silence, Line, Asks as AsksFor, final_lines, readying, refusal, transfer_asked, work_due}
use Rattle.kit_serve.specs.declared.kit.describe.Pair.{Pair}
use Rattle.kit_serve.specs.declared.kit.describe.Availability.{Availability as Reach}
use Rattle.kit_serve.specs.declared.kit.describe.Availability.TheVariants.{Global, Local}
use Rattle.kit_serve.specs.Kit.Descriptions.{Description, all_messages, availability_message, config_message, cost_message, list_messages, set_message}
use Rattle.kit_async_model.specs.declared.about.About.{About}
use Rattle.kit_async_model.specs.declared.about.Fact.{Fact}
use Rattle.kit_async_model.specs.declared.about.Fact.TheVariants.{Fixed, Setting}
use Rattle.kit_async_model.specs.declared.setup.Setup.{Setup}
use Rattle.kit_async_model.specs.declared.job.Job.{Job}
use Rattle.kit_async_model.specs.declared.entry.Entry.{Entry}
use Rattle.kit_async_model.specs.declared.entry.Entry.TheVariants.{Heard, Take, Call, Say, Wrote, Close, Lack}
use Rattle.kit_async_model.specs.declared.hearing.Hearing.{Hearing}
use Rattle.kit_async_model.specs.declared.hearing.Hearing.TheVariants.{Foul, Unexpected, Aside, Asks, Replies}
use Rattle.kit_async_model.specs.Abouts.{about_of, all_facts, ended, fact_lines, lines_about, lines_by, lines_or, or_unsupported, pair_lines, told_of}
use Rattle.kit_async_model.specs.Hearings.{hearing_of, text_in, value_told}
use Rattle.kit_async_model.specs.Jobs.{due_in, finals_in, if_prepared, is_awaiting, is_job_line, is_tagged_as, job_of, lines_in, next_name, request_due, request_of, settles, with_job, without_job}
use Rattle.kit_async_model.specs.Laws.{is_spoken}
use Rattle.kit_async_model.specs.Legality.{comes_where, follows, is_lack, is_legal, is_said, legal_from, may_come}
use Rattle.kit_async_model.specs.Lines.{said_lines}
use Rattle.kit_async_model.specs.Standings.{Standing, after, answer_due, called_in, due_of, heard_as, is_some_due, new_job, opening, said_in, said_line, standing, unexpected_line, with_value}
use Rattle.kit_async_model.proofs.Fronts.{standing_append}
use Rattle.kit_async_model.proofs.Overs.{over_is_last}
use Rattle.kit_async.specs.Laws.{AreSaidTo, TellsNoWord, about_lines, heard_from, is_own_word, is_unexpected, is_whole, unexpected_heard}
use Rattle.kit_async.specs.Served.{JournalValue, Serves, Tells}
use Rattle.kit_async.proofs.Ended.{called_over, not_memory, said_over, whole_had}
use Rattle.std.proofs.lemmas.Bool.{and_parts as both}
use Rattle.ann_key.proofs.Booleans.{both_false as neither}

-- ---- the messages that answer

abbrev is_answer : RemoteMessage → Bool
is_answer (Version number) = false
is_answer (Error text) = false
is_answer message = true

word_free : (message : RemoteMessage) → is_answer message ≡ true → is_own_word (remote_line message) ≡ false
word_free (Version number) h = absurd cc
word_free (Error text) h = absurd cc
word_free (Extensions names) h = refl
word_free UnsupportedRequest h = refl
word_free (Progress bytes) h = refl
word_free (Debug text) h = refl
word_free (Info text) h = refl
word_free (Dirhash key) h = refl
word_free (DirhashLower key) h = refl
word_free (Getconfig name) h = refl
word_free (Setconfig name value) h = refl
word_free (Getcreds setting) h = refl
word_free (Setcreds setting user password) h = refl
word_free Getuuid h = refl
word_free Getgitdir h = refl
word_free Getgitremotename h = refl
word_free Getwanted h = refl
word_free (Setwanted expression) h = refl
word_free (Getstate key) h = refl
word_free (Setstate key value) h = refl
word_free (Seturlpresent key url) h = refl
word_free (Seturlmissing key url) h = refl
word_free (Geturls key prefix) h = refl
word_free PrepareSuccess h = refl
word_free (PrepareFailure text) h = refl
word_free InitremoteSuccess h = refl
word_free (InitremoteFailure text) h = refl
word_free (TransferSuccess store key) h = refl
word_free (TransferFailure store key text) h = refl
word_free (CheckpresentSuccess key) h = refl
word_free (CheckpresentFailure key) h = refl
word_free (CheckpresentUnknown key text) h = refl
word_free (RemoveSuccess key) h = refl
word_free (RemoveFailure key text) h = refl
word_free (Config name description) h = refl
word_free Configend h = refl
word_free (Cost number) h = refl
word_free (Availability global) h = refl
word_free (Infofield name) h = refl
word_free (Infovalue value) h = refl
word_free Infoend h = refl
word_free (WhereisSuccess text) h = refl
word_free WhereisFailure h = refl
word_free ExportsupportedSuccess h = refl
word_free ExportsupportedFailure h = refl
word_free (RenameexportSuccess key) h = refl
word_free (RenameexportFailure key) h = refl

all_sets : (ps : List Pair) → list_all is_answer (all_messages set_message ps ++ InitremoteSuccess ∷ []) ≡ true
all_sets [] = refl
all_sets (p ∷ ps) = all_sets ps

final_answer : (request : Option HostMessage) (said : Said) → list_all is_answer (final_lines request said) ≡ true
final_answer None said = refl
final_answer (Some (AskExtensions names)) said = refl
final_answer (Some Prepare) Yes = refl
final_answer (Some Prepare) No = refl
final_answer (Some Prepare) (Failure text) = refl
final_answer (Some Prepare) (Set pairs) = refl
final_answer (Some Initremote) Yes = refl
final_answer (Some Initremote) No = refl
final_answer (Some Initremote) (Failure text) = refl
final_answer (Some Initremote) (Set pairs) = all_sets pairs
final_answer (Some (Transfer store key file)) Yes = refl
final_answer (Some (Transfer store key file)) No = refl
final_answer (Some (Transfer store key file)) (Failure text) = refl
final_answer (Some (Transfer store key file)) (Set pairs) = refl
final_answer (Some (Checkpresent key)) Yes = refl
final_answer (Some (Checkpresent key)) No = refl
final_answer (Some (Checkpresent key)) (Failure text) = refl
final_answer (Some (Checkpresent key)) (Set pairs) = refl
final_answer (Some (Remove key)) Yes = refl
final_answer (Some (Remove key)) No = refl
final_answer (Some (Remove key)) (Failure text) = refl
final_answer (Some (Remove key)) (Set pairs) = refl
final_answer (Some Listconfigs) said = refl
final_answer (Some Getcost) said = refl
final_answer (Some Getavailability) said = refl
final_answer (Some Getinfo) said = refl
final_answer (Some (Whereis key)) said = refl
final_answer (Some (Value value)) said = refl
final_answer (Some (Creds user password)) said = refl
final_answer (Some (HostError text)) said = refl
final_answer (Some Exportsupported) said = refl
final_answer (Some (Export name)) said = refl
final_answer (Some (Transferexport store key file)) said = refl
final_answer (Some (Checkpresentexport key)) said = refl
final_answer (Some (Removeexport key)) said = refl
final_answer (Some (Renameexport key onto)) said = refl

abbrev LineIsAnswer : Due → Type 0
LineIsAnswer Silence = Unit {0}
LineIsAnswer (Line message) = is_answer message ≡ true
LineIsAnswer (AsksFor asked) = Unit {0}

readying_answer : (next : Option (List ℕ)) (values : List (List ℕ)) → LineIsAnswer (readying next values)
readying_answer None values = tt
readying_answer (Some name) values = refl

transfer_answer : (text store : Bool) (key file : List ℕ)
    → LineIsAnswer (if text then AsksFor (transfer_asked store key file) else refusal (Transfer store key file) (codes "not text"))
transfer_answer true store key file = tt
transfer_answer false store key file = refl

work_answer : (next : Option (List ℕ)) (values : List (List ℕ)) (prepared : Bool) (m : HostMessage) → LineIsAnswer (work_due next values prepared m)
work_answer next values prepared (AskExtensions names) = refl
work_answer next values prepared Prepare = readying_answer next values
work_answer next values prepared Initremote = readying_answer next values
work_answer next values prepared (Value value) = readying_answer next values
work_answer next values false (Transfer store key file) = refl
work_answer next values true (Transfer store key file) = transfer_answer (is_utf8 file) store key file
work_answer next values false (Checkpresent key) = refl
work_answer next values true (Checkpresent key) = tt
work_answer next values false (Remove key) = refl
work_answer next values true (Remove key) = tt
work_answer next values prepared Listconfigs = refl
work_answer next values prepared Getcost = refl
work_answer next values prepared Getavailability = refl
work_answer next values prepared Getinfo = refl
work_answer next values prepared (Whereis key) = refl
work_answer next values prepared (Creds user password) = tt
work_answer next values prepared (HostError text) = tt
work_answer next values prepared Exportsupported = refl
work_answer next values prepared (Export name) = tt
work_answer next values prepared (Transferexport store key file) = refl
work_answer next values prepared (Checkpresentexport key) = refl
work_answer next values prepared (Removeexport key) = refl
work_answer next values prepared (Renameexport key onto) = refl

request_answer : (next : Option (List ℕ)) (values : List (List ℕ)) (prepared : Bool) (request : Option HostMessage) → LineIsAnswer (request_due next values prepared request)
request_answer next values prepared None = refl
request_answer next values prepared (Some (AskExtensions names)) = refl
request_answer next values prepared (Some Prepare) = work_answer next values prepared Prepare
request_answer next values prepared (Some Initremote) = work_answer next values prepared Initremote
request_answer next values prepared (Some (Transfer store key file)) = work_answer next values prepared (Transfer store key file)
request_answer next values prepared (Some (Checkpresent key)) = work_answer next values prepared (Checkpresent key)
request_answer next values prepared (Some (Remove key)) = work_answer next values prepared (Remove key)
request_answer next values prepared (Some Listconfigs) = work_answer next values prepared Listconfigs
request_answer next values prepared (Some Getcost) = work_answer next values prepared Getcost
request_answer next values prepared (Some Getavailability) = work_answer next values prepared Getavailability
request_answer next values prepared (Some Getinfo) = work_answer next values prepared Getinfo
request_answer next values prepared (Some (Whereis key)) = work_answer next values prepared (Whereis key)
request_answer next values prepared (Some (Value value)) = work_answer next values prepared (Value value)
request_answer next values prepared (Some (Creds user password)) = work_answer next values prepared (Creds user password)
request_answer next values prepared (Some (HostError text)) = work_answer next values prepared (HostError text)
request_answer next values prepared (Some Exportsupported) = work_answer next values prepared Exportsupported
request_answer next values prepared (Some (Export name)) = work_answer next values prepared (Export name)
request_answer next values prepared (Some (Transferexport store key file)) = work_answer next values prepared (Transferexport store key file)
request_answer next values prepared (Some (Checkpresentexport key)) = work_answer next values prepared (Checkpresentexport key)
request_answer next values prepared (Some (Removeexport key)) = work_answer next values prepared (Removeexport key)
request_answer next values prepared (Some (Renameexport key onto)) = work_answer next values prepared (Renameexport key onto)

-- ---- what is due

-- no line that is due is an own word
abbrev DueIsAnswer : List (ℕ × List ℕ) → Type 0
DueIsAnswer [] = Unit {0}
DueIsAnswer (due ∷ rest) = (is_own_word due.1 ≡ false) × DueIsAnswer rest

abbrev AreFree : List (List ℕ) → Type 0
AreFree lines = list_any is_own_word lines ≡ false

lines_answer : (number : ℕ) (lines : List (List ℕ)) → AreFree lines → DueIsAnswer (map (λ (line : List ℕ). (number, line)) lines)
lines_answer number [] h = tt
lines_answer number (line ∷ lines) h = let k = neither (is_own_word line) (list_any is_own_word lines) h in (k.0, lines_answer number lines k.1)

due_free : (due : Due) → LineIsAnswer due → AreFree (lines_by due)
due_free Silence h = refl
due_free (Line message) h = ap (λ (b : Bool). b || false) (word_free message h)
due_free (AsksFor asked) h = refl

supported_free : (lines : List (List ℕ)) → AreFree lines → AreFree (or_unsupported lines)
supported_free [] h = refl
supported_free (line ∷ lines) h = h

-- the lines of two lists
left_free : (xs ys : List (List ℕ)) → AreFree (xs ++ ys) → AreFree xs
left_free [] ys h = refl
left_free (x ∷ xs) ys h = let k = neither (is_own_word x) (list_any is_own_word (xs ++ ys)) h in rw (k.0, left_free xs ys k.1) refl

right_free : (xs ys : List (List ℕ)) → AreFree (xs ++ ys) → AreFree ys
right_free [] ys h = h
right_free (x ∷ xs) ys h = right_free xs ys (neither (is_own_word x) (list_any is_own_word (xs ++ ys)) h).1

both_free : (xs ys : List (List ℕ)) → AreFree xs → AreFree ys → AreFree (xs ++ ys)
both_free [] ys h k = k
both_free (x ∷ xs) ys h k = let n = neither (is_own_word x) (list_any is_own_word xs) h in rw (n.0, both_free xs ys n.1 k) refl

abbrev ToldFree : Option (List (List ℕ)) → Type 0
ToldFree None = Unit {0}
ToldFree (Some lines) = AreFree lines

pair_free : (name : List ℕ) (o : Option (List ℕ)) → AreFree (pair_lines name o)
pair_free name None = refl
pair_free name (Some text) = rw (word_free (Infofield name) refl, word_free (Infovalue text) refl) refl

fact_free : (told : List (List ℕ)) (fact : Fact) → AreFree (fact_lines told fact)
fact_free told (Fixed name text) = pair_free name (Some text)
fact_free told (Setting name number) = pair_free name (slice_get told number)

facts_free : (told : List (List ℕ)) (facts : List Fact) → AreFree (all_facts told facts)
facts_free told [] = refl
facts_free told (fact ∷ facts) = both_free (fact_lines told fact) (all_facts told facts) (fact_free told fact) (facts_free told facts)

ended_free : (lines : List (List ℕ)) → AreFree lines → AreFree (ended lines)
ended_free [] h = refl
ended_free (line ∷ lines) h = both_free (line ∷ lines) (remote_line Infoend ∷ []) h refl

told_free : (about : About) (told : List (List ℕ)) → AreFree (about.configs ++ about.cost ++ about.availability) → (r : Option HostMessage) → ToldFree (told_of about told r)
told_free about told h None = tt
told_free about told h (Some Listconfigs) = left_free about.configs about.cost (left_free (about.configs ++ about.cost) about.availability h)
told_free about told h (Some Getcost) = right_free about.configs about.cost (left_free (about.configs ++ about.cost) about.availability h)
told_free about told h (Some Getavailability) = right_free (about.configs ++ about.cost) about.availability h
told_free about told h (Some Getinfo) = ended_free (all_facts told about.facts) (facts_free told about.facts)
told_free about told h (Some (AskExtensions names)) = tt
told_free about told h (Some Prepare) = tt
told_free about told h (Some Initremote) = tt
told_free about told h (Some (Transfer store key file)) = tt
told_free about told h (Some (Checkpresent key)) = tt
told_free about told h (Some (Remove key)) = tt
told_free about told h (Some (Whereis key)) = tt
told_free about told h (Some (Value value)) = tt
told_free about told h (Some (Creds user password)) = tt
told_free about told h (Some (HostError text)) = tt
told_free about told h (Some Exportsupported) = tt
told_free about told h (Some (Export name)) = tt
told_free about told h (Some (Transferexport store key file)) = tt
told_free about told h (Some (Checkpresentexport key)) = tt
told_free about told h (Some (Removeexport key)) = tt
told_free about told h (Some (Renameexport key onto)) = tt

or_free : (due : Due) (told : Option (List (List ℕ))) → LineIsAnswer due → ToldFree told → AreFree (lines_or due told)
or_free due None h k = due_free due h
or_free due (Some lines) h k = supported_free lines k

about_free : (about : Option About) (told : List (List ℕ)) (due : Due) (r : Option HostMessage) → AreFree (about_lines about) → LineIsAnswer due → AreFree (lines_about about told due r)
about_free None told due r free h = due_free due h
about_free (Some about) told due r free h = or_free due (told_of about told r) h (told_free about told free r)

job_answer : (setup : Setup) → TellsNoWord setup → (told : List (List ℕ)) (o : Option Job) → DueIsAnswer (due_of setup told o)
job_answer setup free told None = tt
job_answer setup free told (Some job) =
    lines_answer job.number (lines_in setup told job)
    (about_free setup.about (if_prepared job.prepared told) (due_in setup job) (request_of job) free (request_answer (next_name setup job) job.values job.prepared (request_of job)))

-- ---- the lines of a description

messages_free : (ms : List RemoteMessage) → list_all is_answer ms ≡ true → AreFree (map remote_line ms)
messages_free [] h = refl
messages_free (m ∷ ms) h = let k = both (is_answer m) (list_all is_answer ms) h in rw (word_free m k.0, messages_free ms k.1) refl

all_configs : (ps : List Pair) → list_all is_answer (all_messages config_message ps ++ Configend ∷ []) ≡ true
all_configs [] = refl
all_configs (p ∷ ps) = all_configs ps

listed_configs : (ps : List Pair) → list_all is_answer (list_messages config_message Configend ps) ≡ true
listed_configs [] = refl
listed_configs (p ∷ ps) = all_configs ps

cost_answer : (o : Option ℕ) → list_all is_answer (cost_message o ∷ []) ≡ true
cost_answer None = refl
cost_answer (Some n) = refl

availability_answer : (o : Option Reach) → list_all is_answer (availability_message o ∷ []) ≡ true
availability_answer None = refl
availability_answer (Some Global) = refl
availability_answer (Some Local) = refl

pub descriptions_tell_no_word : (setup : Setup) (d : Description) (facts : List Fact) → setup.about ≡ Some (about_of d facts) → TellsNoWord setup
descriptions_tell_no_word setup d facts e =
    let configs : List (List ℕ) = map remote_line (list_messages config_message Configend d.configs) in
    let cost : List (List ℕ) = map remote_line (cost_message d.cost ∷ []) in
    let availability : List (List ℕ) = map remote_line (availability_message d.availability ∷ []) in
    subst (λ (o : Option About). AreFree (about_lines o)) (sym e)
    (both_free (configs ++ cost) availability
    (both_free configs cost (messages_free (list_messages config_message Configend d.configs) (listed_configs d.configs)) (messages_free (cost_message d.cost ∷ []) (cost_answer d.cost)))
    (messages_free (availability_message d.availability ∷ []) (availability_answer d.availability)))

-- ---- what an entry makes due

if_answer : (b : Bool) (number : ℕ) (lines : List (List ℕ)) → AreFree lines → DueIsAnswer (if b then map (λ (line : List ℕ). (number, line)) lines else [])
if_answer true number lines h = lines_answer number lines h
if_answer false number lines h = tt

called_answer : (setup : Setup) (s : Standing) (said : Said) (o : Option Job) → DueIsAnswer s.due → DueIsAnswer (called_in setup s said o).due
called_answer setup s said None h = h
called_answer setup s said (Some job) h =
    if_answer (not s.over && settles setup job said) job.number (finals_in job said) (messages_free (final_lines (request_of job) said) (final_answer (request_of job) said))

kept_due : (b : Bool) (s t : Standing) → t.due ≡ s.due → (if b then s else t).due ≡ s.due
kept_due true s t e = refl
kept_due false s t e = e

said_due : (setup : Setup) (s : Standing) (o : Option Job) → (said_in setup s o).due ≡ s.due
said_due setup s None = refl
said_due setup s (Some job) = kept_due (is_some_due s.due || s.over || is_awaiting setup job) s _ refl

-- ---- the lines that are said

-- an own word has no tag
own_untagged : (line : List ℕ) → is_own_word line ≡ true → untag line ≡ None
own_untagged line h = go (bytes_eq line (codes "VERSION 1")) refl h
  where
    go : (b : Bool) → bytes_eq line (codes "VERSION 1") ≡ b → (b || bytes_eq line unexpected_line) ≡ true → untag line ≡ None
    go true e k = ap untag ((bytes_eq-Decides line (codes "VERSION 1")).0 e)
    go false e k = ap untag ((bytes_eq-Decides line unexpected_line).0 k)

tagged_word : (n : ℕ) (text line : List ℕ) → is_tagged_as n text (untag line) ≡ true → (b : Bool) → is_own_word line ≡ b → b ≡ false
tagged_word n text line h false e = refl
tagged_word n text line h true e = let bad : false ≡ true = sym (ap (is_tagged_as n text) (own_untagged line e)) ∙ h in absurd cc

line_word : (n : ℕ) (text line : List ℕ) → is_own_word text ≡ false → is_job_line n text line ≡ true → is_own_word line ≡ false
line_word n text line w h = go (n == 0) h
  where
    go : (b : Bool) → (if b then bytes_eq line text else is_tagged_as n text (untag line) && not (slice_index line 2 == 48)) ≡ true → is_own_word line ≡ false
    go true k = ap is_own_word ((bytes_eq-Decides line text).0 k) ∙ w
    go false k = tagged_word n text line (both (is_tagged_as n text (untag line)) (not (slice_index line 2 == 48)) k).0 (is_own_word line) refl

-- without a tag the line is what is due
plain_line : (n : ℕ) (text line : List ℕ) → (n == 0) ≡ true → is_job_line n text line ≡ true → line ≡ text
plain_line n text line zero_is h = go (n == 0) zero_is h
  where
    go : (b : Bool) → b ≡ true → (if b then bytes_eq line text else is_tagged_as n text (untag line) && not (slice_index line 2 == 48)) ≡ true → line ≡ text
    go true e k = (bytes_eq-Decides line text).0 k
    go false e k = absurd cc

said_more : (unexpected : Bool) (line : List ℕ) (lines : List (List ℕ)) → is_own_word line ≡ false → AreSaidTo unexpected lines → AreSaidTo unexpected (line ∷ lines)
said_more true line lines w k = (line ∷ k.0, ap (λ (l : List (List ℕ)). line ∷ l) k.1, ap (λ (b : Bool). b || list_any is_own_word k.0) w ∙ k.2)
said_more false line lines w k = ap (λ (b : Bool). b || list_any is_own_word lines) w ∙ k

-- ---- nothing more is spoken

silent_said : (rest : List Entry) → list_any is_spoken rest ≡ false → said_lines rest ≡ []
silent_said [] h = refl
silent_said (Heard line ∷ rest) h = absurd cc
silent_said (Take job remote ∷ rest) h = silent_said rest h
silent_said (Call job remote said ∷ rest) h = silent_said rest h
silent_said (Say job line ∷ rest) h = absurd cc
silent_said (Wrote ∷ rest) h = silent_said rest h
silent_said (Close ∷ rest) h = silent_said rest h
silent_said (Lack ∷ rest) h = silent_said rest h

silent_heard : (setup : Setup) (s : Standing) (rest : List Entry) → list_any is_spoken rest ≡ false → heard_from is_unexpected setup s rest ≡ false
silent_heard setup s [] h = refl
silent_heard setup s (Heard line ∷ rest) h = absurd cc
silent_heard setup s (Take job remote ∷ rest) h = silent_heard setup (after setup s (Take job remote)) rest h
silent_heard setup s (Call job remote said ∷ rest) h = silent_heard setup (after setup s (Call job remote said)) rest h
silent_heard setup s (Say job line ∷ rest) h = absurd cc
silent_heard setup s (Wrote ∷ rest) h = silent_heard setup (after setup s Wrote) rest h
silent_heard setup s (Close ∷ rest) h = silent_heard setup (after setup s Close) rest h
silent_heard setup s (Lack ∷ rest) h = silent_heard setup (after setup s Lack) rest h

-- ---- along a journal

-- it stands so after the front of a legal journal
record Along (setup : Setup) (past rest : List Entry) (s : Standing) : Type 0 where
  legal : is_legal setup (past ++ rest) ≡ true
  stands : standing setup past ≡ s

along : (setup : Setup) (past : List Entry) (e : Entry) (rest : List Entry) (s : Standing) → Along setup past (e ∷ rest) s → Along setup (past ++ e ∷ []) rest (after setup s e)
along setup past e rest s a = record {
  legal = subst (λ (l : List Entry). is_legal setup l ≡ true) (sym (append_snoc past e rest)) a.legal;
  stands = standing_append setup past (e ∷ []) ∙ ap (λ (t : Standing). after setup t e) a.stands;
}

quiet : (setup : Setup) (past rest : List Entry) (s : Standing) → Along setup past rest s → s.over ≡ true → s.due ≡ [] → list_any is_spoken rest ≡ false
quiet setup past rest s a o d =
    over_is_last setup past rest a.legal (ap (λ (t : Standing). t.over) a.stands ∙ o) (ap (λ (t : Standing). t.due) a.stands ∙ d)

-- the error comes next
error_next : (setup : Setup) (s : Standing) (e : Entry) (rest : List Entry) → s.over ≡ true → is_said (0, unexpected_line) e ≡ true → is_lack e ≡ false
    → s.due ≡ (0, unexpected_line) ∷ [] → ((after setup s e).over ≡ true → (after setup s e).due ≡ [] → list_any is_spoken rest ≡ false) → said_lines (e ∷ rest) ≡ unexpected_line ∷ []
error_next setup s (Heard line) rest o f n d silent = absurd cc
error_next setup s (Take job remote) rest o f n d silent = absurd cc
error_next setup s (Call job remote said) rest o f n d silent = absurd cc
error_next setup s (Say job line) rest o f n d silent =
    let b = both (job == 0) (is_job_line job unexpected_line line) f in
    let none = silent_said rest (silent (said_over setup (said_line s line) (job_of s.jobs job) ∙ o)
    (said_due setup (said_line s line) (job_of s.jobs job) ∙ ap (λ (due : List (ℕ × List ℕ)). drop 1 due) d)) in
    ap (λ (x : List ℕ). x ∷ said_lines rest) (plain_line job unexpected_line line b.0 b.1) ∙ ap (λ (l : List (List ℕ)). unexpected_line ∷ l) none
error_next setup s Wrote rest o f n d silent = absurd cc
error_next setup s Close rest o f n d silent = absurd cc
error_next setup s Lack rest o f n d silent = absurd cc

last_word : (setup : Setup) (past rest : List Entry) (s : Standing) → Along setup past rest s → legal_from setup s rest ≡ true → s.over ≡ true → s.due ≡ (0, unexpected_line) ∷ []
    → (fold (after setup) s rest).due ≡ [] → list_any is_lack rest ≡ false → said_lines rest ≡ unexpected_line ∷ []
last_word setup past [] s a l o d t n = let bad : [] ≡ (0, unexpected_line) ∷ [] = sym t ∙ d in absurd cc
last_word setup past (e ∷ rest) s a l o d t n =
    let b = both (follows setup s e) (legal_from setup (after setup s e) rest) l in
    let f : is_said (0, unexpected_line) e ≡ true = subst (λ (due : List (ℕ × List ℕ)). comes_where setup s due e ≡ true) d b.0 in
    error_next setup s e rest o f (neither (is_lack e) (list_any is_lack rest) n).0 d (quiet setup (past ++ e ∷ []) rest (after setup s e) (along setup past e rest s a))

-- one entry, with what holds of the rest
module _ (setup : Setup) (s : Standing) (rest : List Entry) (free : TellsNoWord setup) where
  abbrev More : Standing → Type 0
  More t = t.over ≡ false → DueIsAnswer t.due → AreSaidTo (heard_from is_unexpected setup t rest) (said_lines rest)

  abbrev Quiet : Standing → Type 0
  Quiet t = t.over ≡ true → t.due ≡ [] → list_any is_spoken rest ≡ false

  abbrev Last : Standing → Type 0
  Last t = t.over ≡ true → t.due ≡ (0, unexpected_line) ∷ [] → said_lines rest ≡ unexpected_line ∷ []

  heard_words : (text : List ℕ) (h : Hearing) → s.over ≡ false → s.due ≡ [] → More (heard_as setup s text h) → Quiet (heard_as setup s text h) → Last (heard_as setup s text h)
      → AreSaidTo (is_unexpected h || heard_from is_unexpected setup (heard_as setup s text h) rest) (said_lines rest)
  heard_words text Foul o d more silent last =
      let none = silent refl d in
      subst (λ (b : Bool). AreSaidTo b (said_lines rest)) (sym (silent_heard setup (heard_as setup s text Foul) rest none))
      (subst (λ (l : List (List ℕ)). AreSaidTo false l) (sym (silent_said rest none)) refl)
  heard_words text Unexpected o d more silent last = ([], last refl refl, refl)
  heard_words text Aside o d more silent last = more o (subst DueIsAnswer (sym d) tt)
  heard_words text (Asks number) o d more silent last = more o (job_answer setup free s.told (Some (new_job number text s.prepared)))
  heard_words text (Replies number) o d more silent last =
      more o (let value = value_told (host_reading text) in job_answer setup free s.told (job_of (with_job number (with_value value) s.jobs) number))

  free_words : (e : Entry) → s.over ≡ false → s.due ≡ [] → may_come setup s e ≡ true → More (after setup s e) → Quiet (after setup s e) → Last (after setup s e)
      → AreSaidTo (heard_from is_unexpected setup s (e ∷ rest)) (said_lines (e ∷ rest))
  free_words (Heard line) o d f more silent last = heard_words (text_in s.tagged line) (hearing_of setup s.jobs s.tagged line) o d more silent last
  free_words (Take job remote) o d f more silent last = more o (subst DueIsAnswer (sym d) tt)
  free_words (Call job remote said) o d f more silent last =
      more (called_over setup s said (job_of s.jobs job) ∙ o) (called_answer setup s said (job_of s.jobs job) (subst DueIsAnswer (sym d) tt))
  free_words (Say job line) o d f more silent last = absurd cc
  free_words Wrote o d f more silent last = more o (subst DueIsAnswer (sym d) tt)
  free_words Close o d f more silent last = more o (subst DueIsAnswer (sym d) tt)
  free_words Lack o d f more silent last = absurd cc

  due_words : (e : Entry) (due : ℕ × List ℕ) (later : List (ℕ × List ℕ)) → s.due ≡ due ∷ later → s.over ≡ false → DueIsAnswer (due ∷ later) → is_said due e ≡ true → is_lack e ≡ false → More (after setup s e)
      → AreSaidTo (heard_from is_unexpected setup s (e ∷ rest)) (said_lines (e ∷ rest))
  due_words (Heard line) due later d o w f n more = absurd cc
  due_words (Take job remote) due later d o w f n more = absurd cc
  due_words (Call job remote said) due later d o w f n more = absurd cc
  due_words (Say job line) due later d o w f n more =
      let t : Standing = after setup s (Say job line) in
      said_more (heard_from is_unexpected setup t rest) line (said_lines rest) (line_word job due.1 line w.0 (both (job == due.0) (is_job_line job due.1 line) f).1)
      (more (said_over setup (said_line s line) (job_of s.jobs job) ∙ o) (subst DueIsAnswer (sym (said_due setup (said_line s line) (job_of s.jobs job) ∙ ap (λ (x : List (ℕ × List ℕ)). drop 1 x) d)) w.1))
  due_words Wrote due later d o w f n more = absurd cc
  due_words Close due later d o w f n more = absurd cc
  due_words Lack due later d o w f n more = absurd cc

  entry_words : (e : Entry) → s.over ≡ false → DueIsAnswer s.due → follows setup s e ≡ true → is_lack e ≡ false → More (after setup s e) → Quiet (after setup s e) → Last (after setup s e)
      → AreSaidTo (heard_from is_unexpected setup s (e ∷ rest)) (said_lines (e ∷ rest))
  entry_words e o w f n more silent last = go s.due refl
    where
      go : (due : List (ℕ × List ℕ)) → s.due ≡ due → AreSaidTo (heard_from is_unexpected setup s (e ∷ rest)) (said_lines (e ∷ rest))
      go [] d = free_words e o d (subst (λ (x : List (ℕ × List ℕ)). comes_where setup s x e ≡ true) d f) more silent last
      go (due ∷ later) d = due_words e due later d o (subst DueIsAnswer d w) (subst (λ (x : List (ℕ × List ℕ)). comes_where setup s x e ≡ true) d f) n more

words_from : (setup : Setup) → TellsNoWord setup → (past rest : List Entry) (s : Standing) → Along setup past rest s → legal_from setup s rest ≡ true → s.over ≡ false → DueIsAnswer s.due
    → (fold (after setup) s rest).due ≡ [] → list_any is_lack rest ≡ false → AreSaidTo (heard_from is_unexpected setup s rest) (said_lines rest)
words_from setup free past [] s a l o w t n = refl
words_from setup free past (e ∷ rest) s a l o w t n =
    let next : Standing = after setup s e in
    let b = both (follows setup s e) (legal_from setup next rest) l in
    let k = neither (is_lack e) (list_any is_lack rest) n in
    let on = along setup past e rest s a in
    entry_words setup s rest free e o w b.0 k.0 (λ o' w'. words_from setup free (past ++ e ∷ []) rest next on b.1 o' w' t k.1) (quiet setup (past ++ e ∷ []) rest next on)
    (λ o' d'. last_word setup (past ++ e ∷ []) rest next on b.1 o' d' t k.1)

-- ---- all

begun_words : (setup : Setup) → TellsNoWord setup → (rest : List Entry) → is_legal setup (Say 0 (codes "VERSION 1") ∷ rest) ≡ true
    → (standing setup (Say 0 (codes "VERSION 1") ∷ rest)).due ≡ [] → list_any is_lack (Say 0 (codes "VERSION 1") ∷ rest) ≡ false
    → AreSaidTo (unexpected_heard setup (Say 0 (codes "VERSION 1") ∷ rest)) (said_lines rest)
begun_words setup free rest l t n =
    let first : Entry = Say 0 (codes "VERSION 1") in
    let b = both (follows setup opening first) (legal_from setup (after setup opening first) rest) l in
    words_from setup free (first ∷ []) rest (after setup opening first) (record { legal = l; stands = refl }) b.1 refl tt t n

pub words_are_said : (setup : Setup) (old new : Tells) (journal : JournalValue) → TellsNoWord setup → Serves setup old new journal → is_whole journal.why ≡ true
    → (rest : List Entry) × (journal.entries ≡ Say 0 (codes "VERSION 1") ∷ rest) × AreSaidTo (unexpected_heard setup journal.entries) (said_lines rest)
words_are_said setup old new journal free s w =
    let never = not_memory journal.why w in
    let begins = s.begins never in
    let rest : List Entry = begins.0 in
    let is : journal.entries ≡ Say 0 (codes "VERSION 1") ∷ rest = begins.1 in (
      rest,
      is,
      subst (λ (l : List Entry). AreSaidTo (unexpected_heard setup l) (said_lines rest)) (sym is)
          (begun_words setup free rest (subst (λ (l : List Entry). is_legal setup l ≡ true) is s.legal)
          (subst (λ (l : List Entry). (standing setup l).due ≡ []) is (s.told never))
          (subst (λ (l : List Entry). list_any is_lack l ≡ false) is (whole_had setup journal.entries s.rest journal.why new.left w s.ended))),
    )
