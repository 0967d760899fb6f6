-- What a request makes due.
use Rattle.std.proofs.Common.{◌≡◌, ◌⊎◌, inl, inr, ℕ, List, [], ◌∷◌, ◌++◌, refl, ap, subst, ◌∙◌, Bool, true, false, not, cond, Some, None, Option}
use Rattle.std.specs.Prelude.{◌&&◌, ◌||◌, codes}
use Rattle.std.specs.Str.{is_utf8}
use Rattle.annex_model.specs.Messages.{RemoteMessage, Getconfig, UnsupportedRequest, remote_line, host_reading}
use Rattle.annex_model.specs.Messages.{HostMessage, Prepare, Initremote, Transfer, Listconfigs, Getcost, Getavailability, Getinfo, Export, Value, Creds, HostError}
use Rattle.annex_model.proofs.Readings.{spelled_of_host}
use Rattle.kit_serve.specs.declared.kit.call.Asked.{Asked}
use Rattle.kit_serve.specs.declared.kit.call.Asked.TheVariants.{Prepare as AskPrepare}
use Rattle.kit_serve.specs.Kit.Kits.{Due, Silence, Line, Asks, is_value, is_creds, is_error, is_unexpected, is_readying, refusal, transfer_asked, asked_by}
use Rattle.kit_async_model.specs.declared.about.About.{About}
use Rattle.kit_async_model.specs.declared.hearing.Hearing.TheVariants.{Foul, Unexpected, Aside, Asks as AsksJob, Replies}
use Rattle.kit_async_model.specs.declared.setup.Setup.{Setup}
use Rattle.kit_async_model.specs.declared.job.Job.{Job}
use Rattle.kit_async_model.specs.Abouts.{told_of, or_unsupported, lines_or, lines_about}
use Rattle.kit_async_model.specs.Jobs.{request_due, job_of}
use Rattle.kit_async_model.specs.Hearings.{parted, text_by, text_in, is_export, message_heard, reading_heard, text_heard, part_heard, hearing_of, awaits_in, is_open, has_some}
use Rattle.kit_async_model.proofs.Apart.{skip}
use Rattle.ann_key.proofs.Booleans.{both_false as neither}

-- ---- what is due

-- the line that asks for a setting
abbrev pub asked_lines : Option (List ℕ) → List (List ℕ)
asked_lines None = []
asked_lines (Some name) = remote_line (Getconfig name) ∷ []

-- a request to get ready asks for the next setting, if there is one
pub ready_lines : (about : Option About) (told : List (List ℕ)) (next : Option (List ℕ)) (values : List (List ℕ)) (prepared : Bool) (r : Option HostMessage) → is_readying r ≡ true
    → lines_about about told (request_due next values prepared r) r ≡ asked_lines next
ready_lines about told next values prepared None h = absurd cc
ready_lines None told None values prepared (Some Prepare) h = refl
ready_lines None told (Some name) values prepared (Some Prepare) h = refl
ready_lines (Some about) told None values prepared (Some Prepare) h = refl
ready_lines (Some about) told (Some name) values prepared (Some Prepare) h = refl
ready_lines None told None values prepared (Some Initremote) h = refl
ready_lines None told (Some name) values prepared (Some Initremote) h = refl
ready_lines (Some about) told None values prepared (Some Initremote) h = refl
ready_lines (Some about) told (Some name) values prepared (Some Initremote) h = refl
ready_lines about told next values prepared (Some m) h = absurd cc

-- and else the remotes for these values
pub ready_asked : (values : List (List ℕ)) (prepared : Bool) (r : Option HostMessage) → is_readying r ≡ true → asked_by (request_due None values prepared r) ≡ Some (AskPrepare values)
ready_asked values prepared None h = absurd cc
ready_asked values prepared (Some Prepare) h = refl
ready_asked values prepared (Some Initremote) h = refl
ready_asked values prepared (Some m) h = absurd cc

-- ---- what a request is

-- a message that begins a job
pub record IsAsking (m : HostMessage) : Type 0 where
  pub value : is_value m ≡ false
  pub creds : is_creds m ≡ false
  pub error : is_error m ≡ false
  pub export : (name : List ℕ) → m ≡ Export name → ⊥

-- so does a line that spells no message
abbrev pub Begins : Option HostMessage → Type 0
Begins None = Unit {0}
Begins (Some m) = IsAsking m

-- any but one to get ready asks for no value
pub others_due : (setup : Setup) (next : Option (List ℕ)) (prepared : Bool) (r : Option HostMessage) → is_readying r ≡ false → Begins r
    → request_due next [] prepared r ≡ request_due None [] prepared r
others_due setup next prepared None h b = refl
others_due setup next prepared (Some Prepare) h b = absurd cc
others_due setup next prepared (Some Initremote) h b = absurd cc
others_due setup next prepared (Some (Value value)) h b = let is = b.value in absurd cc
others_due setup next true (Some m) h b = refl
others_due setup next false (Some m) h b = refl

-- a message is answered
some_due : (prepared : Bool) (m : HostMessage) → IsAsking m → request_due None [] prepared (Some m) ≡ Silence → ⊥
some_due prepared Prepare b h = absurd cc
some_due prepared Initremote b h = absurd cc
some_due prepared (Export name) b h = b.export name refl
some_due prepared (Value value) b h = let is = b.value in absurd cc
some_due prepared (Creds user password) b h = let is = b.creds in absurd cc
some_due prepared (HostError text) b h = let is = b.error in absurd cc
some_due true (Transfer store key file) b h = some (is_utf8 file) h
  where
    some : (t : Bool) → cond t (Asks (transfer_asked store key file)) (refusal (Transfer store key file) (codes "not text")) ≡ Silence → ⊥
    some true k = absurd cc
    some false k = absurd cc
some_due true m b h = absurd cc
some_due false m b h = absurd cc

-- ---- the lines that answer it

-- there is one at least
pub record SomeLines (lines : List (List ℕ)) : Type 0 where
  pub first : List ℕ
  pub rest : List (List ℕ)
  pub are : lines ≡ first ∷ rest

or_some : (lines : List (List ℕ)) → SomeLines (or_unsupported lines)
or_some [] = record { first = remote_line UnsupportedRequest; rest = []; are = refl }
or_some (line ∷ lines) = record { first = line; rest = lines; are = refl }

line_or : (line : RemoteMessage) (o : Option (List (List ℕ))) → SomeLines (lines_or (Line line) o)
line_or line None = record { first = remote_line line; rest = []; are = refl }
line_or line (Some lines) = or_some lines

line_about : (about : Option About) (told : List (List ℕ)) (line : RemoteMessage) (r : Option HostMessage) → SomeLines (lines_about about told (Line line) r)
line_about None told line r = record { first = remote_line line; rest = []; are = refl }
line_about (Some about) told line r = line_or line (told_of about told r)

silence_about : (setup : Setup) (told : List (List ℕ)) (prepared : Bool) (r : Option HostMessage) → Begins r → request_due None [] prepared r ≡ Silence
    → SomeLines (lines_about setup.about told Silence r)
silence_about setup told prepared None b h = absurd cc
silence_about setup told prepared (Some m) b h = absurd (some_due prepared m b h)

-- what a remote is called for says nothing before
asks_about : (about : Option About) (told : List (List ℕ)) (prepared : Bool) (r : Option HostMessage) (asked : Asked) → request_due None [] prepared r ≡ Asks asked
    → lines_about about told (Asks asked) r ≡ []
asks_about None told prepared r asked h = refl
asks_about (Some about) told prepared None asked h = absurd cc
asks_about (Some about) told prepared (Some Listconfigs) asked h = absurd cc
asks_about (Some about) told prepared (Some Getcost) asked h = absurd cc
asks_about (Some about) told prepared (Some Getavailability) asked h = absurd cc
asks_about (Some about) told prepared (Some Getinfo) asked h = absurd cc
asks_about (Some about) told prepared (Some m) asked h = refl

-- at once, or after a call
abbrev pub Answers : Setup → List (List ℕ) → Due → Option HostMessage → Type 0
Answers setup told Silence r = SomeLines (lines_about setup.about told Silence r)
Answers setup told (Line line) r = SomeLines (lines_about setup.about told (Line line) r)
Answers setup told (Asks asked) r = lines_about setup.about told (Asks asked) r ≡ []

pub answers : (setup : Setup) (told : List (List ℕ)) (prepared : Bool) (r : Option HostMessage) → Begins r → (due : Due) → request_due None [] prepared r ≡ due → Answers setup told due r
answers setup told prepared r b Silence e = silence_about setup told prepared r b e
answers setup told prepared r b (Line line) e = line_about setup.about told line r
answers setup told prepared r b (Asks asked) e = asks_about setup.about told prepared r asked e

-- EXPORT reads as nothing else
pub export_read : (text name : List ℕ) → host_reading text ≡ Some (Export name) → is_export text ≡ true
export_read text name h =
    let s = spelled_of_host (Export name) text h in
    rw s.1 (ends s.0 s.2)
  where
    ends : (tail : List ℕ) → (tail ≡ 32 ∷ name) ⊎ ((tail ≡ []) × (name ≡ [])) → is_export (codes "EXPORT" ++ tail) ≡ true
    ends tail (inl e) = rw e refl
    ends tail (inr e) = rw e.0 refl

-- ---- what a line is

begins_message : (a o b : Bool) (number n : ℕ) (m : HostMessage) → ((name : List ℕ) → m ≡ Export name → ⊥) → message_heard a o b number m ≡ AsksJob n → IsAsking m
begins_message a o b number n m x e =
    let one = skip (is_error m) Foul _ (AsksJob n) (λ (k : Foul ≡ AsksJob n). absurd cc) e in
    let two = skip (is_unexpected a m) Unexpected _ (AsksJob n) (λ (k : Unexpected ≡ AsksJob n). absurd cc) one.1 in
    let three = skip a (Replies number) _ (AsksJob n) (λ (k : Replies number ≡ AsksJob n). absurd cc) two.1 in
    let parts = neither (is_value m) (is_creds m) (subst (λ (t : Bool). is_unexpected t m ≡ false) three.0 two.0) in
    record { value = parts.0; creds = parts.1; error = one.0; export = x }

begins_reading : (a o b : Bool) (number n : ℕ) (r : Option HostMessage) → ((name : List ℕ) → r ≡ Some (Export name) → ⊥)
    → reading_heard a o b number r ≡ AsksJob n → Begins r
begins_reading a o b number n None x e = tt
begins_reading a o b number n (Some m) x e = begins_message a o b number n m (λ name k. x name (ap (λ (t : HostMessage). Some t) k)) e

begins_text : (a o b : Bool) (number n : ℕ) (text : List ℕ) → text_heard a o b number text ≡ AsksJob n → Begins (host_reading text)
begins_text a o b number n text e = go (is_export text) refl e
  where
    none : (t : Bool) → cond t Unexpected Aside ≡ AsksJob n → Begins (host_reading text)
    none true l = absurd cc
    none false l = absurd cc

    go : (t : Bool) → is_export text ≡ t → cond t (cond a Unexpected Aside) (reading_heard a o b number (host_reading text)) ≡ AsksJob n
        → Begins (host_reading text)
    go true h k = none a k
    go false h k =
        begins_reading a o b number n (host_reading text)
        (λ name r. let other : is_export text ≡ true = export_read text name r in absurd cc) k

begins_part : (setup : Setup) (jobs : List Job) (n : ℕ) (o : Option (ℕ × List ℕ)) → part_heard setup jobs o ≡ AsksJob n → Begins (host_reading (text_by o))
begins_part setup jobs n None e = absurd cc
begins_part setup jobs n (Some t) e = begins_text (awaits_in setup (job_of jobs t.0)) (is_open (job_of jobs t.0)) (has_some jobs) t.0 n t.1 e

pub begins : (setup : Setup) (jobs : List Job) (tagged : Bool) (line : List ℕ) (n : ℕ) → hearing_of setup jobs tagged line ≡ AsksJob n → Begins (host_reading (text_in tagged line))
begins setup jobs tagged line n e = begins_part setup jobs n (parted tagged line) e

-- ---- what a value is

pub record Tells (text : List ℕ) : Type 0 where
  pub value : List ℕ
  pub reads : host_reading text ≡ Some (Value value)

value_of : (m : HostMessage) → is_value m ≡ true → (value : List ℕ) × (m ≡ Value value)
value_of (Value value) h = (value, refl)
value_of m h = absurd cc

tells_message : (a o b : Bool) (number n : ℕ) (text : List ℕ) (m : HostMessage) → host_reading text ≡ Some m → message_heard a o b number m ≡ Replies n → Tells text
tells_message a o b number n text m is e =
    let one = skip (is_error m) Foul _ (Replies n) (λ (k : Foul ≡ Replies n). absurd cc) e in
    let two = skip (is_unexpected a m) Unexpected _ (Replies n) (λ (k : Unexpected ≡ Replies n). absurd cc) one.1 in
    go a two.0 two.1
  where
    last : (t : Bool) → cond t Unexpected (AsksJob number) ≡ Replies n → ⊥
    last true k = absurd cc
    last false k = absurd cc

    expected : (v r : Bool) → (not v && not r) ≡ false → r ≡ false → v ≡ true
    expected true r h k = refl
    expected false true h k = absurd cc
    expected false false h k = absurd cc

    go : (t : Bool) → is_unexpected t m ≡ false → cond t (Replies number) (cond (o || (is_readying (Some m) && b)) Unexpected (AsksJob number)) ≡ Replies n → Tells text
    go true u k =
        let one = skip (is_error m) Foul _ (Replies n) (λ (k : Foul ≡ Replies n). absurd cc) e in
        let v = value_of m (expected (is_value m) (is_error m) u one.0) in
        record { value = v.0; reads = is ∙ ap (λ (t : HostMessage). Some t) v.1 }
    go false u k = absurd (last (o || (is_readying (Some m) && b)) k)

-- a line that spells no message tells none
tells_strange : {A : Type 0} (a o b : Bool) (number n : ℕ) → reading_heard a o b number None ≡ Replies n → A
tells_strange true o b number n e = absurd cc
tells_strange false true b number n e = absurd cc
tells_strange false false b number n e = absurd cc

tells_reading : (a o b : Bool) (number n : ℕ) (text : List ℕ) (r : Option HostMessage) → host_reading text ≡ r → reading_heard a o b number r ≡ Replies n → Tells text
tells_reading a o b number n text None is e = tells_strange a o b number n e
tells_reading a o b number n text (Some m) is e = tells_message a o b number n text m is e

tells_text : (a o b : Bool) (number n : ℕ) (text : List ℕ) → text_heard a o b number text ≡ Replies n → Tells text
tells_text a o b number n text e = go (is_export text) e
  where
    none : (t : Bool) → cond t Unexpected Aside ≡ Replies n → Tells text
    none true l = absurd cc
    none false l = absurd cc

    go : (t : Bool) → cond t (cond a Unexpected Aside) (reading_heard a o b number (host_reading text)) ≡ Replies n → Tells text
    go true k = none a k
    go false k = tells_reading a o b number n text (host_reading text) refl k

tells_part : (setup : Setup) (jobs : List Job) (n : ℕ) (o : Option (ℕ × List ℕ)) → part_heard setup jobs o ≡ Replies n → Tells (text_by o)
tells_part setup jobs n None e = absurd cc
tells_part setup jobs n (Some t) e = tells_text (awaits_in setup (job_of jobs t.0)) (is_open (job_of jobs t.0)) (has_some jobs) t.0 n t.1 e

pub tells : (setup : Setup) (jobs : List Job) (tagged : Bool) (line : List ℕ) (n : ℕ) → hearing_of setup jobs tagged line ≡ Replies n → Tells (text_in tagged line)
tells setup jobs tagged line n e = tells_part setup jobs n (parted tagged line) e
