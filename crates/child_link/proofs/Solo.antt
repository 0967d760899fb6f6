-- Where nobody else steps the core, what a link does is what it did alone.
use Rattle.std.proofs.Common.{◌≡◌, ℕ, List, [], ◌∷◌, ◌++◌, refl, sym, ap, subst, ◌∙◌, Bool, true, false, not, Some, None, Option, append-nil, inl, inr}
use Rattle.std.specs.Prelude.{◌==◌, ◌||◌, cond}
use Rattle.std.specs.List.{list_all, cons_option}
use Rattle.journal_model.specs.declared.verdict.Why.TheVariants.{Memory, Closed}
use Rattle.journal_model.specs.declared.verdict.Verdict.{Verdict}
use Rattle.annex_model.specs.Messages.{HostMessage}
use Rattle.journal_model.specs.declared.entry.What.{What}
use Rattle.journal_model.specs.declared.entry.What.TheVariants.{Ask, End, Lost}
use Rattle.journal_model.specs.declared.entry.Entry.{Entry}
use Rattle.journal_model.specs.declared.opening.Opening.{Opening}
use Rattle.journal_model.specs.Journal.{asks, asked_jobs, ends, is_started, is_ended, is_mute, open_jobs, verdict_of, why_of}
use Rattle.journal_model.specs.Due.{made_by}
use Rattle.journal_model.specs.Legality.{Legal, is_empty, may_stop, has_busy_task}
use Rattle.journal_model.specs.Halves.{EarWired}
use Rattle.journal_model.proofs.Ears.{ear_stop}
use Rattle.journal_model.proofs.Mouths.{mouth_apart}
use Rattle.journal_model.proofs.Heard.{heard_on}
use Rattle.journal_model.proofs.Soft.{IsSoft, soft_stretch}
use Rattle.journal_model.proofs.Looks.{any-append, each_of-append}
use Rattle.journal_model.proofs.Linking.{why_alone}
use Rattle.host_core.specs.declared.event.Event.TheVariants.{Stop}
use Rattle.host_core.specs.declared.event.Reply.{Reply}
use Rattle.host_core.specs.Steps.{asking, group_of, step_of, is_gone, next_job}
use Rattle.journal_model.specs.Shares.{are_by, makes_only, Moved, by_link, is_of_child}
use Rattle.child_link.specs.Doors.{Passed, Made, Ends}
use Rattle.child_link.specs.Asks.{HasAsked, HeardOut, IsHeardOut, lost_as}
use Rattle.child_link.specs.Alone.{GoesOn, Closes, AskedAlone, HearsLink, KeepsLink}
use Rattle.child_link.specs.Writings.{is_written_first, LoneWired}
use Rattle.journal_model.specs.Halves.{EarValue, MouthValue, LinkWired, IsSameEar, IsSameMouth}
use Rattle.child_link.proofs.Roles.{by_own}
use Rattle.child_link.proofs.Writings.{written_on, written_unasked}
use Rattle.std.proofs.lemmas.Bool.{and_parts as both}
use Rattle.ann_key.proofs.Numbers.{same_number as same}
use Rattle.ann_key.proofs.Booleans.{or_true}

quiet : (n c : ℕ) (es : List Entry) → are_by n es ≡ true → makes_only (by_link c) n es ≡ true → list_all (λ (e : Entry). by_link c e.what) es ≡ true
quiet n c [] h k = refl
quiet n c (e ∷ es) h k =
    let t : ((e.by == n) ≡ true) × (are_by n es ≡ true) = both (e.by == n) (are_by n es) h in
    let u : ((not (e.by == n) || by_link c e.what) ≡ true) × (makes_only (by_link c) n es ≡ true) = both (not (e.by == n) || by_link c e.what) (makes_only (by_link c) n es) k in
    let own : by_link c e.what ≡ true = go (e.by == n) (by_link c e.what) t.0 u.0 in
    rw (own, quiet n c es t.1 u.1) refl
  where
    go : (a b : Bool) → a ≡ true → (not a || b) ≡ true → b ≡ true
    go true b h k = k
    go false b h k = absurd cc

pub goes_alone : {n : ℕ} {a : Bool} {mine : What → Bool} {old new : List Entry} {P Q : Type 0} (c : ℕ) → a ≡ true → Moved n a (by_link c) mine old new P Q → GoesOn n c old new
goes_alone {n} c alone s = record { more = s.more; is = s.is; quiet = quiet n c s.more (s.lone alone) s.own; own = s.lone alone }

pub kept_alone : {n : ℕ} {a : Bool} {makes mine : What → Bool} {old new : List Entry} {P Q : Type 0} → a ≡ true → Moved n a makes mine old new P Q → P → Q
kept_alone {n} {mine = mine} alone s p = s.kept (by_own mine n s.more (s.lone alone)) p

pub still_alone : {n : ℕ} {a : Bool} {old new : List Entry} → a ≡ true → Passed n a old new → new ≡ old
still_alone {old = old} alone s = s.is ∙ ap (λ (l : List Entry). old ++ l) (s.none alone) ∙ append-nil old

pub asked_alone : (o : Opening) (n : ℕ) (a : Bool) (old new : List Entry) (c t : ℕ) (name : Option (List ℕ)) (q : HostMessage) (v : Verdict) → a ≡ true → HasAsked o n a (by_link c) old new c t name q (λ j. HeardOut c j new) v
    → AskedAlone o old new n c t name q v
asked_alone o n a old new c t name q v alone (inr s) =
    let e = still_alone alone s.passed in
    inr (record {
      gone = ap (λ (j : List Entry). is_gone j c) (sym e) ∙ s.found.0;
      made = s.is ∙ ap (λ (j : List Entry). j ++ group_of o j n (Lost c t)) e;
      lost = s.found.1 ∙ ap (λ (j : List Entry). lost_as (why_of j c)) e;
    })
asked_alone o n a old new c t name q v alone (inl s) =
    let k = s.asked in
    let e = still_alone alone k.passed in
    let f = k.found in
    let job : s.job ≡ next_job old c = f.next ∙ ap (λ (j : List Entry). next_job j c) e in
    let mid : s.mid ≡ old ++ made_by n (asking old t c name q) = k.is ∙ ap (λ (j : List Entry). j ++ made_by n (asking j t c name q)) e in
    inl (record {
      live = ap (λ (j : List Entry). is_ended j c) (sym e) ∙ f.live;
      loud = ap (λ (j : List Entry). is_mute j c) (sym e) ∙ f.loud;
      goes = subst (λ (j : List Entry). GoesOn n c j new) mid (goes_alone c alone s.on);
      settled = ap (verdict_of new c) (sym job) ∙ s.settled;
      heard = λ line. subst (λ (i : ℕ). IsHeardOut c i v new) job (s.on.kept (by_own (is_of_child c) n s.on.more (s.on.lone alone)) tt v s.settled line);
    })

pub memory_alone : (o : Opening) (n : ℕ) (a : Bool) (old new : List Entry) (c : ℕ) → Ends o n a old new c Memory → a ≡ true → is_ended old c ≡ false → why_of new c ≡ Some Memory
memory_alone o n a old new c (inr s) alone live =
    let e = still_alone alone s.0 in let bad : true ≡ false = sym s.1 ∙ ap (λ (j : List Entry). is_ended j c) e ∙ live in absurd cc
memory_alone o n a old new c (inl s) alone live =
    ap (λ (j : List Entry). why_of j c) s.is ∙ why_alone s.past (group_of o s.past n (End c Memory)) c s.found ∙ (rw (same c) (rw (same c) refl))

-- ---- closing

none_open : (js : List ℕ) → is_empty js ≡ true → js ≡ []
none_open [] h = refl
none_open (j ∷ js) h = absurd cc

pub closes_alone : (o : Opening) (n : ℕ) (a : Bool) (old new : List Entry) (c : ℕ) (reply : Reply) → a ≡ true → is_started old c ≡ true → may_stop old c Closed ≡ true
    → Made o n a old new (Stop c Closed) reply → Closes n c old new
closes_alone o n a old new c reply alone started may m =
    m.is ∙ ap (λ (j : List Entry). j ++ (step_of o j n (Stop c Closed)).group) (still_alone alone m.passed) ∙ go (is_ended old c) refl
  where
    jobs : open_jobs old c ≡ []
    jobs = none_open (open_jobs old c) (both (is_empty (open_jobs old c)) (not (has_busy_task old c)) may).0

    go : (b : Bool) → is_ended old c ≡ b → old ++ (step_of o old n (Stop c Closed)).group ≡ cond b old (old ++ record { by = n; what = End c Closed } ∷ [])
    go true e = rw (started, may, e) (append-nil old)
    go false e = rw (started, may, e, jobs) refl

pub closed_over : (n c : ℕ) (old new : List Entry) → Closes n c old new → is_ended new c ≡ true
closed_over n c old new h = go (is_ended old c) refl h
  where
    go : (b : Bool) → is_ended old c ≡ b → new ≡ cond b old (old ++ record { by = n; what = End c Closed } ∷ []) → is_ended new c ≡ true
    go true e h = ap (λ (j : List Entry). is_ended j c) h ∙ e
    go false e h =
        ap (λ (j : List Entry). is_ended j c) h ∙ any-append (ends c) old (record { by = n; what = End c Closed } ∷ []) ∙ ap (λ (b : Bool). is_ended old c || (b || false)) (same c)
        ∙ or_true (is_ended old c)

-- ---- the link

-- a closing leaves the link as it is
pub closed_link : (n c : ℕ) (old new : List Entry) (e : EarValue) (m : MouthValue) → e.child ≡ c → m.child ≡ e.child → Closes n c old new → LoneWired old e m → LoneWired new e m
closed_link n c old new e m ec mc h w = go (is_ended old c) refl h
  where
    one : List Entry
    one = record { by = n; what = End c Closed } ∷ []

    go : (b : Bool) → is_ended old c ≡ b → new ≡ cond b old (old ++ one) → LoneWired new e m
    go true f h = subst (λ (j : List Entry). LoneWired j e m) (sym h) w
    go false f h = subst (λ (j : List Entry). LoneWired j e m) (sym h) (record {
      link = record {
        ear = subst (λ (k : ℕ). EarWired (old ++ record { by = n; what = End k Closed } ∷ []) e) ec
            (ear_stop old [] n Closed e nothing (subst (λ (k : ℕ). is_ended old k ≡ false) (sym ec) f) tt (λ x. absurd cc) (λ x. absurd cc) w.link.ear);
        mouth = mouth_apart old one m refl w.link.mouth;
        turn = heard_on e.child old one refl w.link.turn;
      };
      written = written_on old one e.child refl w.written;
    })
      where
        nothing : IsSoft e.child []
        nothing = soft_stretch e.child n [] refl

-- what a link did where it is alone
pub keeps_alone : {n : ℕ} {a : Bool} {makes mine : What → Bool} {old new : List Entry} {e e' : EarValue} {m m' : MouthValue} → a ≡ true
    → Moved n a makes mine old new (LoneWired old e m) (LoneWired new e' m') → IsSameEar e e' × IsSameMouth m m' → KeepsLink old new e e' m m'
keeps_alone alone s same_link = record { wired = kept_alone alone s; same_ear = same_link.0; same_mouth = same_link.1 }

pub link_asks_none : (c : ℕ) (w : What) → by_link c w ≡ true → asks c w ≡ None
link_asks_none c (Ask child job task line) h = absurd cc
link_asks_none c w h = refl

-- what a link does asks nothing
unasked_on : (n c : ℕ) (old new : List Entry) → GoesOn n c old new → asked_jobs old c ≡ [] → asked_jobs new c ≡ []
unasked_on n c old new g none =
    ap (λ (j : List Entry). asked_jobs j c) g.is ∙ each_of-append (asks c) old g.more ∙ ap (λ (ks : List ℕ). ks ++ asked_jobs g.more c) none ∙ no_jobs g.more g.quiet
  where
    no_jobs : (es : List Entry) → list_all (λ (e : Entry). by_link c e.what) es ≡ true → asked_jobs es c ≡ []
    no_jobs [] h = refl
    no_jobs (e ∷ es) h =
        let t : (by_link c e.what ≡ true) × (list_all (λ (e : Entry). by_link c e.what) es ≡ true) = both (by_link c e.what) (list_all (λ (e : Entry). by_link c e.what) es) h in
        ap (λ (o : Option ℕ). cons_option o (asked_jobs es c)) (link_asks_none c e.what t.0) ∙ no_jobs es t.1

-- what a link heard before anything was asked
pub hears_alone : {n : ℕ} {a : Bool} {mine : What → Bool} {old new : List Entry} {e e' : EarValue} {m m' : MouthValue} (o : Opening) → a ≡ true → Legal o new
    → Moved n a (by_link e.child) mine old new (LinkWired old e m) (LinkWired new e' m') → IsSameEar e e' × IsSameMouth m m' → HearsLink old new e e' m m'
hears_alone {n} {old = old} {new = new} {e = e} o alone legal s same_link = record {
  wired = kept_alone alone s;
  written = λ none. written_unasked o new e.child legal (unasked_on n e.child old new (goes_alone e.child alone s) none);
  same_ear = same_link.0;
  same_mouth = same_link.1;
}

-- so that it keeps what it keeps later
pub keeps_first : {old new : List Entry} {e e' : EarValue} {m m' : MouthValue} → asked_jobs old e.child ≡ [] → HearsLink old new e e' m m' → KeepsLink old new e e' m m'
keeps_first {new = new} {e' = e'} {m' = m'} none s = record {
  wired = λ w. record { link = s.wired w.link; written = subst (λ (c : ℕ). is_written_first new c ≡ true) (sym s.same_ear.0) (s.written none) };
  same_ear = s.same_ear;
  same_mouth = s.same_mouth;
}

-- and where it did nothing
pub keeps_own : {old new : List Entry} {e : EarValue} {m : MouthValue} → (LoneWired old e m → LoneWired new e m) → KeepsLink old new e e m m
keeps_own f = record { wired = f; same_ear = (refl, refl); same_mouth = (refl, refl) }

pub keeps_both : {a b d : List Entry} {e e' e'' : EarValue} {m m' m'' : MouthValue} → KeepsLink a b e e' m m' → KeepsLink b d e' e'' m' m'' → KeepsLink a d e e'' m m''
keeps_both s t = record {
  wired = λ h. t.wired (s.wired h);
  same_ear = (t.same_ear.0 ∙ s.same_ear.0, t.same_ear.1 ∙ s.same_ear.1);
  same_mouth = (t.same_mouth.0 ∙ s.same_mouth.0, t.same_mouth.1 ∙ s.same_mouth.1);
}

-- where nothing changes in the journal
pub keeps_still : {a b d : List Entry} {e e' : EarValue} {m m' : MouthValue} → d ≡ b → KeepsLink a b e e' m m' → KeepsLink a d e e' m m'
keeps_still {a} {e = e} {e' = e'} {m = m} {m' = m'} is s = subst (λ (j : List Entry). KeepsLink a j e e' m m') (sym is) s
