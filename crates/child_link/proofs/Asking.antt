-- What asking a request comes to, over journals.
use Rattle.std.proofs.Common.{◌≡◌, ℕ, List, [], ◌∷◌, ◌++◌, ◌<◌, ◌≤◌, ◌^◌, arith, length, append_assoc, refl, sym, ap, subst, ◌∙◌, Bool, true, false, Some, None, Option, inl, inr}
use Rattle.std.specs.Prelude.{◌==◌, ◌||◌, ◌&&◌}
use Rattle.std.specs.List.{list_all, list_any}
use Rattle.std.proofs.lemmas.List.Folds.{list_any-append}
use Rattle.journal_model.specs.declared.verdict.Why.{Why}
use Rattle.journal_model.specs.declared.verdict.Verdict.{Verdict}
use Rattle.annex_model.specs.Messages.{HostMessage, Export, host_line, host_reading, is_askable}
use Rattle.annex_model.proofs.Readings.{canonical_read}
use Rattle.journal_model.specs.declared.entry.What.{What}
use Rattle.journal_model.specs.declared.entry.What.TheVariants.{Lead, Ask}
use Rattle.journal_model.specs.declared.entry.Entry.{Entry}
use Rattle.journal_model.specs.declared.opening.Opening.{Opening}
use Rattle.journal_model.specs.Journal.{any, addressed, asks, asked_jobs, is_started, is_ended, is_settled, verdict_of, on_wire}
use Rattle.journal_model.specs.Due.{made_by}
use Rattle.journal_model.specs.Legality.{Legal, may_ask, is_in_turn}
use Rattle.journal_model.specs.Projection.{IsNamed}
use Rattle.journal_model.proofs.Projecting.{invariant}
use Rattle.journal_model.proofs.Naming.{named, named_led}
use Rattle.journal_model.proofs.Named.{same_addressed}
use Rattle.host_core.proofs.Wiring.{wired_text}
use Rattle.annex_model.proofs.Classes.{test_askable}
use Rattle.journal_model.proofs.Looks.{each_of-append, unsettled, verdict_of-append}
use Rattle.journal_model.proofs.Verdicts.{unasked_none}
use Rattle.std.specs.Option.{option_or}
use Rattle.journal_model.proofs.Closing.{ended_settled}
use Rattle.host_talk.specs.declared.request.request.Request.{Request}
use Rattle.host_talk.specs.Request.Requests.{message_of, name_of}
use Rattle.host_core.specs.Steps.{asking, is_asked, may_request, next_job, next_on_wire}
use Rattle.child_link.specs.declared.events.Asked.{Asked}
use Rattle.child_link.specs.declared.events.Asked.TheVariants.{Job, Lost, Odd}
use Rattle.journal_model.specs.Shares.{Moved, by_asker, by_asking, is_of_child, is_heard, is_said}
use Rattle.child_link.specs.Doors.{Passed}
use Rattle.child_link.specs.Events.{IsAsked}
use Rattle.child_link.specs.Asks.{HasAsked, lost_as, Grows, never}
use Rattle.journal_model.specs.Halves.{EarValue, MouthValue, LinkWired}
use Rattle.child_link.proofs.Roles.{asked_on, moved_by, moved_on, moved_both, moved_from, moved_wider, moved_still}
use Rattle.child_link.proofs.Linked.{link_makes, link_on}
use Rattle.ann_key.proofs.Booleans.{and_last as and_right, or_true}
use Rattle.ann_key.proofs.Numbers.{same_number as same}

-- what was asked, under its other names
pub asked_as : (o : Opening) (n : ℕ) (a : Bool) (old new : List Entry) {c d : ℕ} (t : ℕ) (r s : Request) (x y : Asked) → d ≡ c → s ≡ r → x ≡ y
    → IsAsked o n a old new d t (name_of s) (message_of s) x → IsAsked o n a old new c t (name_of r) (message_of r) y
asked_as o n a old new {c} {d} t r s x y ec er ex h =
    subst (λ (k : ℕ). IsAsked o n a old new k t (name_of r) (message_of r) y) ec
    (subst (λ (q : Request). IsAsked o n a old new d t (name_of q) (message_of q) y) er
    (subst (λ (z : Asked). IsAsked o n a old new d t (name_of s) (message_of s) z) ex h))

-- ---- a request, and the name before it

-- of neither is a kind that is none of a name and none of a request
pub none_made_of : (p : What → Bool) → ((child job : ℕ) (line : List ℕ) → p (Lead child job line) ≡ false) → ((child job task : ℕ) (line : List ℕ) → p (Ask child job task line) ≡ false)
    → (past : List Entry) (n t c : ℕ) (q : HostMessage) (name : Option (List ℕ)) → any p (made_by n (asking past t c name q)) ≡ false
none_made_of p f g past n t c q None = rw (g c (next_job past c) t (next_on_wire past c q)) refl
none_made_of p f g past n t c q (Some name) = rw (f c (next_job past c) (next_on_wire past c (Export name)), g c (next_job past c) t (next_on_wire past c q)) refl

module _ (past : List Entry) (n t c : ℕ) (q : HostMessage) where
  -- they ask the next job
  pub asks_next : (name : Option (List ℕ)) → asked_jobs (made_by n (asking past t c name q)) c ≡ next_job past c ∷ []
  asks_next None = rw (same c) refl
  asks_next (Some name) = rw (same c) refl

  -- and settle none
  pub asks_settle : (j : ℕ) (name : Option (List ℕ)) → verdict_of (made_by n (asking past t c name q)) c j ≡ None
  asks_settle j None = refl
  asks_settle j (Some name) = refl

  pub asker_asks : (name : Option (List ℕ)) → list_all (by_asker c) (asking past t c name q) ≡ true
  asker_asks None = rw (same c) refl
  asker_asks (Some name) = rw (same c) refl

  pub asking_asks : (name : Option (List ℕ)) → list_all (by_asking c) (asking past t c name q) ≡ true
  asking_asks None = rw (same c) refl
  asking_asks (Some name) = rw (same c) refl

module _ (o : Opening) (n : ℕ) (a : Bool) (old mid : List Entry) (c t : ℕ) (name : Option (List ℕ)) (q : HostMessage) where
  pub asked_now : (j : ℕ) → IsAsked o n a old mid c t name q (Job j) → is_asked mid c j ≡ true
  asked_now j s =
      let group : List Entry = made_by n (asking s.past t c name q) in
      let own : list_any (λ k. k == j) (asked_jobs group c) ≡ true =
      ap (list_any (λ k. k == j)) (asks_next s.past n t c q name) ∙ ap (λ (k : ℕ). k == j || false) (sym s.found.next) ∙ (rw (same j) refl) in
      ap (λ (x : List Entry). is_asked x c j) s.is ∙ ap (list_any (λ k. k == j)) (each_of-append (asks c) s.past group)
      ∙ list_any-append (λ k. k == j) (asked_jobs s.past c) (asked_jobs group c) ∙ ap (λ (b : Bool). list_any (λ k. k == j) (asked_jobs s.past c) || b) own
      ∙ or_true (list_any (λ k. k == j) (asked_jobs s.past c))

  -- the job is new, so it has no verdict yet
  pub unsettled_now : (j : ℕ) → Legal o old → IsAsked o n a old mid c t name q (Job j) → verdict_of mid c j ≡ None
  unsettled_now j legal s =
      let few : length (asked_jobs s.past c) ≤ j = omega (arith, s.found.next) in
      let none : verdict_of s.past c j ≡ None = unasked_none o s.past (s.legal legal) c j ((invariant o s.past (s.legal legal)).fresh c j few) in
      ap (λ (l : List Entry). verdict_of l c j) s.is
      ∙ verdict_of-append c j s.past (made_by n (asking s.past t c name q)) ∙ ap (λ (v : Option Verdict). option_or v (verdict_of (made_by n (asking s.past t c name q)) c j)) none
      ∙ asks_settle s.past n t c q j name

  pub settled_so : {m : ℕ} {b : Bool} {makes : What → Bool} {new : List Entry} {P : Type 0} (Known : ℕ → Type 0) (j : ℕ) (v : Verdict) → j < 2 ^ 64 → m ≡ n → b ≡ a
      → IsAsked o n a old mid c t name q (Job j) → P → Moved m b makes (is_of_child c) mid new P (Known j) → verdict_of new c j ≡ Some v → HasAsked o n a makes old new c t name q Known v
  settled_so {m} {b} {makes} {new} {P} Known j v small en ea h known s' e =
      let s : Moved n a makes (is_of_child c) mid new P (Known j) =
      subst (λ (k : ℕ). Moved k a makes (is_of_child c) mid new P (Known j)) en (subst (λ (k : Bool). Moved m k makes (is_of_child c) mid new P (Known j)) ea s') in
      inl (record {
        job = j;
        small = small;
        mid = mid;
        asked = h;
        on = moved_from (λ u. known) s;
        settled = e;
      })

  pub lost_so : {makes : What → Bool} (Known : ℕ → Type 0) (why : Option Why) → IsAsked o n a old mid c t name q (Lost why) → HasAsked o n a makes old mid c t name q Known (lost_as why)
  lost_so Known why h = inr (record { past = h.past; passed = h.passed; legal = h.legal; found = (h.found.0, ap lost_as h.found.1); is = h.is })

-- ---- a link stays wired

pub link_asked : (o : Opening) {n : ℕ} {a : Bool} {old mid : List Entry} (t : ℕ) (name : Option (List ℕ)) (q : HostMessage) (e : EarValue) (m : MouthValue) → m.child ≡ e.child → (x : Asked) → IsAsked o n a old mid e.child t name q x
    → Moved n a (by_asker e.child) (is_of_child e.child) old mid (LinkWired old e m) (LinkWired mid e m)
link_asked o {n} t name q e m is (Job j) h =
    link_makes e m is h (asker_asks h.past n t e.child q name)
    (none_made_of (is_heard e.child) (λ child job line. refl) (λ child job task line. refl) h.past n t e.child q name)
    (none_made_of (is_said e.child) (λ child job line. refl) (λ child job task line. refl) h.past n t e.child q name)
link_asked o t name q e m is (Lost why) h = link_makes e m is h (rw (same e.child) refl) refl refl
link_asked o t name q e m is Odd h = link_on e m is h

-- ---- what was asked is settled where the child has ended

pub asked_moved : {n : ℕ} {a : Bool} {makes mine : What → Bool} {old new : List Entry} {P Q : Type 0} (c d j : ℕ) → d ≡ c → Moved n a makes mine old new P Q → is_asked old c j ≡ true → is_asked new d j ≡ true
asked_moved {old = old} {new = new} c d j e s h = ap (λ (k : ℕ). is_asked new k j) e ∙ asked_on old s.more new c j s.is h

settled_some : (past : List Entry) (c j : ℕ) → is_settled past c j ≡ true → verdict_of past c j ≡ None → ⊥
settled_some past c j s n = let u : is_settled past c j ≡ false = unsettled past c j n in let bad : true ≡ false = sym s ∙ u in absurd cc

pub has_verdict : (o : Opening) (journal : List Entry) (c j : ℕ) → Legal o journal → is_ended journal c ≡ true → is_asked journal c j ≡ true → verdict_of journal c j ≡ None → ⊥
has_verdict o journal c j legal ended asked none = settled_some journal c j (ended_settled o journal legal c j ended asked) none

-- ---- waiting

-- others alone went on
pub grows_on : {n : ℕ} {a : Bool} {old new : List Entry} {makes : What → Bool} → Passed n a old new → Grows n a makes old new
grows_on s = moved_on s (λ none u. u)

-- and the journal is seen by another name
pub grows_seen : {n : ℕ} {a : Bool} {makes : What → Bool} {x y z : List Entry} → z ≡ y → Grows n a makes x y → Grows n a makes x z
grows_seen {n} {a} {makes} {x} e s = subst (λ (j : List Entry). Grows n a makes x j) (sym e) s

never_all : (p : What → Bool) (w : What) → never w ≡ true → p w ≡ true
never_all p w h = absurd cc

-- a request, and then nothing
pub grows_asked : (o : Opening) {n m : ℕ} {a b : Bool} {old mid new : List Entry} (c t : ℕ) (name : Option (List ℕ)) (q : HostMessage) (x : Asked) → m ≡ n → b ≡ a → IsAsked o n a old mid c t name q x → Grows m b never mid new
    → Grows n a (by_asking c) old new
grows_asked o {n} {m} {a} {b} {old} {mid} {new} c t name q x en ea h s = moved_both en ea (first x h) (moved_wider (never_all (by_asking c)) (λ w k. k) s (λ k f u. u))
  where
    first : (y : Asked) → IsAsked o n a old mid c t name q y → Grows n a (by_asking c) old mid
    first (Job j) k = moved_by k (asking_asks k.past n t c q name) (λ none u. u)
    first (Lost why) k = moved_by k (rw (same c) refl) (λ none u. u)
    first Odd k = grows_on k

pub asked_grown : (o : Opening) {n : ℕ} {a : Bool} {old mid : List Entry} (c t : ℕ) (name : Option (List ℕ)) (q : HostMessage) (x : Asked) → IsAsked o n a old mid c t name q x → Grows n a (by_asking c) old mid
asked_grown o {n} {a} {old} {mid} c t name q x h = grows_asked o c t name q x refl refl h (moved_still refl (λ u. u))

-- ---- its verdict is one that the request may have

answer_none : (why : Option Why) (q : HostMessage) → IsNamed q (lost_as why)
answer_none None q = tt
answer_none (Some why) q = tt

job_named : (o : Opening) (past more : List Entry) (n c t : ℕ) (name : Option (List ℕ)) (q : HostMessage) (verdict : Verdict) → may_request past n t c q ≡ true → next_job past c < 2 ^ 64 → Legal o past
    → Legal o (past ++ (made_by n (asking past t c name q) ++ more)) → verdict_of (past ++ (made_by n (asking past t c name q) ++ more)) c (next_job past c) ≡ Some verdict → IsNamed q verdict
job_named o past more n c t name q verdict may small before after v = by_name name after v
  where
    job : ℕ
    job = next_job past c

    said : HostMessage → List ℕ
    said m = on_wire past c job (host_line m)

    fresh : is_asked past c job ≡ false
    fresh = (invariant o past before).fresh c job (omega arith)

    askable : is_askable q ≡ true
    askable = and_right (is_started past c && may_ask past n t c && is_in_turn past c (next_job past c) q) (is_askable q) may

    reads : host_reading (addressed past c (said q)).1 ≡ Some q
    reads = ap host_reading (wired_text past c job (host_line q) small) ∙ canonical_read q (test_askable q askable)

    by_name : (name : Option (List ℕ)) → Legal o (past ++ (made_by n (asking past t c name q) ++ more)) → verdict_of (past ++ (made_by n (asking past t c name q) ++ more)) c job ≡ Some verdict → IsNamed q verdict
    by_name None after v = named o past more c n job t (said q) q before fresh reads after verdict v
    by_name (Some name) after v =
        let names : host_reading (addressed past c (said (Export name))).1 ≡ Some (Export name) =
        ap host_reading (wired_text past c job (host_line (Export name)) small) ∙ canonical_read (Export name) tt in
        let still : host_reading (addressed (past ++ record { by = n; what = Lead c job (said (Export name)) } ∷ []) c (said q)).1 ≡ Some q =
        ap (λ (r : Option ℕ × List ℕ). host_reading r.1) (same_addressed past n c job (said (Export name)) c (said q)) ∙ reads in
        named_led o past more c n job t (said (Export name)) (said q) name q before fresh names still after verdict v

-- what it was settled as
pub settled_named : (o o' : Opening) (n m : ℕ) (a b : Bool) (old mid new : List Entry) (c t : ℕ) (name : Option (List ℕ)) (q : HostMessage) (j : ℕ) (v : Verdict) {makes mine : What → Bool} {P Q : Type 0}
    → o' ≡ o → j < 2 ^ 64 → Legal o old → Legal o' new → IsAsked o n a old mid c t name q (Job j) → Moved m b makes mine mid new P Q → verdict_of new c j ≡ Some v → IsNamed q v
settled_named o o' n m a b old mid new c t name q j v same_o small before after k s e =
    let group : List Entry = made_by n (asking k.past t c name q) in
    let is : new ≡ k.past ++ (group ++ s.more) = s.is ∙ ap (λ (l : List Entry). l ++ s.more) k.is ∙ append_assoc k.past group s.more in
    let next : j ≡ next_job k.past c = k.found.next in
    job_named o k.past s.more n c t name q v k.found.may (subst (λ (i : ℕ). i < 2 ^ 64) next small) (k.legal before)
    (subst (λ (l : List Entry). Legal o l) is (subst (λ (x : Opening). Legal x new) same_o after))
    (subst (λ (l : List Entry). verdict_of l c (next_job k.past c) ≡ Some v) is (ap (verdict_of new c) (sym next) ∙ e))

pub lost_named : (why : Option Why) (q : HostMessage) → IsNamed q (lost_as why)
lost_named why q = answer_none why q

-- what a role made, as far as the child is concerned
pub grows_child : {n : ℕ} {a : Bool} {makes mine : What → Bool} {x y : List Entry} → Grows n a makes x y → Moved n a makes mine x y (Unit {0}) (Unit {0})
grows_child s = record { more = s.more; is = s.is; own = s.own; lone = s.lone; kept = λ h u. u }
