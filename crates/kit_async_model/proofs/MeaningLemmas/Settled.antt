-- A number whose job is settled has no items, until its next request.
use Rattle.std.proofs.Common.{◌≡◌, ℕ, List, [], ◌∷◌, refl, sym, ap, subst, ◌∙◌, Bool, true, false, ◌==◌, cond, Some, None, Option}
use Rattle.std.specs.Prelude.{◌&&◌, ◌||◌}
use Rattle.annex_model.specs.Messages.{host_reading}
use Rattle.kit_serve.specs.declared.kit.call.Said.{Said}
use Rattle.kit_serve.specs.Kit.Calls.{is_line_said}
use Rattle.kit_async_model.specs.declared.setup.Setup.{Setup}
use Rattle.kit_async_model.specs.declared.job.Job.{Job}
use Rattle.kit_async_model.specs.declared.entry.Entry.{Entry}
use Rattle.kit_async_model.specs.declared.entry.Entry.TheVariants.{Heard, Take, Call, Say, Wrote, Close, Lack}
use Rattle.kit_async_model.specs.declared.hearing.Hearing.{Hearing}
use Rattle.kit_async_model.specs.declared.hearing.Hearing.TheVariants.{Foul, Unexpected, Aside, Asks, Replies}
use Rattle.kit_async_model.specs.Jobs.{is_awaiting, job_of, settles}
use Rattle.kit_async_model.specs.Hearings.{text_in, value_told, hearing_of, is_open}
use Rattle.kit_async_model.specs.Legality.{some_job, is_called, may_come, comes_where, follows, legal_from}
use Rattle.kit_async_model.specs.Standings.{Standing, new_job, with_value, with_taken, with_call, called_in, said_line, said_in, heard_as, after, is_some_due}
use Rattle.kit_async_model.specs.Meanings.{asked_in, Item, Told, Says, Calls, told_item, said_item, item_of, of_job, asks_for, begins_job, items_until, stays_open, said_text}
use Rattle.kit_async_model.proofs.Apart.{Awaits, replies_awaited}
use Rattle.kit_async_model.proofs.Askings.{never}
use Rattle.kit_async_model.proofs.MeaningLemmas.Numbers.{none_after, none_without, none_more, none_passes}
use Rattle.kit_async_model.proofs.MeaningLemmas.Steps.{of_other}
use Rattle.std.proofs.lemmas.Bool.{eqb-true as equal_is, and_parts as both}
use Rattle.ann_key.proofs.Booleans.{never_true as decided}

-- the entry is nothing to the number, which has no job after it either
pub record Rests (n : ℕ) (items : List Item) (t : Standing) : Type 0 where
  pub none : items ≡ []
  pub gone : job_of t.jobs n ≡ None

heard_rests : (setup : Setup) (s : Standing) (n : ℕ) (text : List ℕ) (h : Hearing) → job_of s.jobs n ≡ None → asks_for n h ≡ false
    → ((m : ℕ) → h ≡ Replies m → Awaits setup s.jobs m) → Rests n (of_job n (told_item text h)) (heard_as setup s text h)
heard_rests setup s n text Foul g a w = record { none = refl; gone = g }
heard_rests setup s n text Unexpected g a w = record { none = refl; gone = g }
heard_rests setup s n text Aside g a w = record { none = refl; gone = g }
heard_rests setup s n text (Asks m) g a w = record { none = of_other m n (Told (host_reading text)) a; gone = none_more s.jobs n (new_job m text s.prepared) g a }
heard_rests setup s n text (Replies m) g a w =
    let k = w m refl in
    let other : (m == n) ≡ false = decided (m == n) (λ (e : (m == n) ≡ true). let both_are : Some k.job ≡ None = sym k.found ∙ ap (job_of s.jobs) (equal_is m n e) ∙ g in absurd cc) in
    record { none = of_other m n (Told (host_reading text)) other; gone = none_after s.jobs n m (with_value (value_told (host_reading text))) (λ j. refl) g }

called_rests : (setup : Setup) (s : Standing) (n : ℕ) (said : Said) (o : Option Job) → job_of s.jobs n ≡ None → job_of (called_in setup s said o).jobs n ≡ None
called_rests setup s n said None g = g
called_rests setup s n said (Some j) g = none_after s.jobs n j.number (with_call (settles setup j said)) (λ x. refl) g

said_rests : (setup : Setup) (s : Standing) (n : ℕ) (o : Option Job) → job_of s.jobs n ≡ None → job_of (said_in setup s o).jobs n ≡ None
said_rests setup s n None g = g
said_rests setup s n (Some j) g = go (is_some_due s.due || s.over || is_awaiting setup j) refl
  where
    go : (b : Bool) → (is_some_due s.due || s.over || is_awaiting setup j) ≡ b → job_of (said_in setup s (Some j)).jobs n ≡ None
    go true e = rw e g
    go false e = rw e (none_without s.jobs n j.number g)

said_nothing : (s : Standing) (n m : ℕ) (line : List ℕ) → job_of s.jobs n ≡ None → of_job n (said_item s m line) ≡ []
said_nothing s n m line g = go (m == n) refl
  where
    some : (b : Bool) → (m == n) ≡ false → of_job n (cond b (Some (m, Says (said_text m line))) None) ≡ []
    some true e = of_other m n (Says (said_text m line)) e
    some false e = refl

    go : (b : Bool) → (m == n) ≡ b → of_job n (said_item s m line) ≡ []
    go false e = some (is_open (job_of s.jobs m) && cond s.over false true) e
    go true e = let shut : job_of s.jobs m ≡ None = ap (job_of s.jobs) (equal_is m n e) ∙ g in rw shut refl

comes_rests : (setup : Setup) (s : Standing) (n : ℕ) (e : Entry) → job_of s.jobs n ≡ None → begins_job setup s n e ≡ false → may_come setup s e ≡ true
    → Rests n (of_job n (item_of setup s e)) (after setup s e)
comes_rests setup s n (Heard line) g b h =
    heard_rests setup s n (text_in s.tagged line) (hearing_of setup s.jobs s.tagged line) g b (λ m e. replies_awaited setup s.jobs s.tagged line m e)
comes_rests setup s n (Take m remote) g b h = record { none = refl; gone = none_after s.jobs n m (with_taken remote) (λ j. refl) g }
comes_rests setup s n (Call m remote said) g b h =
    let some : some_job (is_called setup s.jobs remote) m s.jobs ≡ true = (both (is_line_said said) (some_job (is_called setup s.jobs remote) m s.jobs) h).1 in
    let other : (m == n) ≡ false =
    decided (m == n)
    (λ (e : (m == n) ≡ true). never (some_job (is_called setup s.jobs remote) n s.jobs) (subst (λ (k : ℕ). some_job (is_called setup s.jobs remote) k s.jobs ≡ true) (equal_is m n e) some) (none_passes (is_called setup s.jobs remote) s.jobs n g)) in
    record { none = of_other m n (Calls remote (asked_in setup (job_of s.jobs m)) said) other; gone = called_rests setup s n said (job_of s.jobs m) g }
comes_rests setup s n (Say m line) g b h = absurd cc
comes_rests setup s n Wrote g b h = record { none = refl; gone = g }
comes_rests setup s n Close g b h = record { none = refl; gone = g }
comes_rests setup s n Lack g b h = absurd cc

due_rests : (setup : Setup) (s : Standing) (n : ℕ) (d : ℕ × List ℕ) (more : List (ℕ × List ℕ)) (e : Entry) → job_of s.jobs n ≡ None → comes_where setup s (d ∷ more) e ≡ true
    → Rests n (of_job n (item_of setup s e)) (after setup s e)
due_rests setup s n d more (Say m line) g h = record { none = said_nothing s n m line g; gone = said_rests setup (said_line s line) n (job_of s.jobs m) g }
due_rests setup s n d more Lack g h = record { none = refl; gone = g }
due_rests setup s n d more e g h = absurd cc

rests : (setup : Setup) (s : Standing) (n : ℕ) (e : Entry) → job_of s.jobs n ≡ None → begins_job setup s n e ≡ false → follows setup s e ≡ true
    → Rests n (of_job n (item_of setup s e)) (after setup s e)
rests setup s n e g b h = go s.due h
  where
    go : (due : List (ℕ × List ℕ)) → comes_where setup s due e ≡ true → Rests n (of_job n (item_of setup s e)) (after setup s e)
    go [] k = comes_rests setup s n e g b k
    go (d ∷ more) k = due_rests setup s n d more e g k

-- nothing more is an item of it, and it isn't open
pub record IsOver (setup : Setup) (s : Standing) (n : ℕ) (rest : List Entry) : Type 0 where
  pub items : items_until setup s n rest ≡ []
  pub shut : stays_open setup s n rest ≡ false

pub settled_from : (setup : Setup) (s : Standing) (n : ℕ) (rest : List Entry) → job_of s.jobs n ≡ None → legal_from setup s rest ≡ true → IsOver setup s n rest
settled_from setup s n [] g h = record { items = refl; shut = rw g refl }
settled_from setup s n (e ∷ rest) g h =
    let b = both (follows setup s e) (legal_from setup (after setup s e) rest) h in
    go (begins_job setup s n e) refl b.0 (λ (k : job_of (after setup s e).jobs n ≡ None). settled_from setup (after setup s e) n rest k b.1)
  where
    go : (t : Bool) → begins_job setup s n e ≡ t → follows setup s e ≡ true → (job_of (after setup s e).jobs n ≡ None → IsOver setup (after setup s e) n rest) → IsOver setup s n (e ∷ rest)
    go true f l more = record { items = rw f refl; shut = rw (f, g) refl }
    go false f l more =
        let r = rests setup s n e g f l in
        let k = more r.gone in
        record { items = rw (f, r.none) k.items; shut = rw f k.shut }
