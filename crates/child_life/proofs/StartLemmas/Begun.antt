-- A child that was started just now has begun: it has said nothing and was asked nothing, and its link is wired to it.
use Rattle.std.proofs.Common.{◌≡◌, ◌≢◌, ℕ, ◌+◌, ◌<◌, List, [], ◌∷◌, ◌++◌, refl, sym, ap, subst, ◌∙◌, append-nil, arith, Bool, true, false, ◌==◌, None, Option}
use Rattle.std.specs.Prelude.{◌&&◌, ◌||◌, IfSome, is_some}
use Rattle.std.specs.List.{list_all}
use Rattle.std.proofs.lemmas.List.Folds.{list_all-append}
use Rattle.journal_model.specs.declared.verdict.Verdict.TheVariants.{Ended}
use Rattle.journal_model.specs.declared.entry.What.{What}
use Rattle.journal_model.specs.declared.entry.What.TheVariants.{Start, Lead, Ask, Mute, Got, End, Lost}
use Rattle.journal_model.specs.declared.entry.Entry.{Entry}
use Rattle.journal_model.specs.declared.opening.Opening.{Opening}
use Rattle.journal_model.specs.Journal.{any, starts, ends, offers, line_from, is_started, is_ended, has_spoken, got_lines, open_jobs}
use Rattle.journal_model.specs.Due.{due_by, due_by_got, due_after, made_by}
use Rattle.journal_model.specs.Legality.{Legal, IsDue, MayStand, led_by, still_owed, owed_from, owed_after, may_come, count, is_start}
use Rattle.journal_model.proofs.Growing.{Legal-induction, StandsFrom-split}
use Rattle.journal_model.proofs.Looks.{entry, any-append, each_of-append}
use Rattle.journal_model.proofs.Soft.{is_soft, soft_got, soft_mute, soft_verdicts}
use Rattle.journal_model.proofs.Fresh.{Nothing, fresh}
use Rattle.journal_model.proofs.Linking.{Adds, nothing_both, why_is_end}
use Rattle.journal_model.proofs.Ears.{ear_start}
use Rattle.journal_model.proofs.Mouths.{mouth_start}
use Rattle.journal_model.specs.Halves.{EarValue, MouthValue}
use Rattle.child_link.specs.Writings.{LoneWired}
use Rattle.child_link.proofs.Writings.{written_unasked}
use Rattle.journal_model.proofs.Heard.{heard_on}
use Rattle.journal_model.proofs.Projecting.{invariant}
use Rattle.annex_model.specs.Extensions.{names_of}
use Rattle.child_life.specs.Start.Greetings.{loses}
use Rattle.child_life.specs.Start.Stages.{HasBegun}
use Rattle.ann_key.proofs.Booleans.{or_neither as neither, or_true, or_false}
use Rattle.journal_model.proofs.Versions.{none_spoke as silent_said}
use Rattle.std.proofs.lemmas.Bool.{and_parts as both, eqb-true as same_number, ne_eqb as differ}
use Rattle.ann_key.proofs.Numbers.{same_number as same}
use Rattle.journal_model.proofs.Across.{count-append}

-- ---- what is due is no start

soft_entries : (by : ℕ) (ws : List What) → list_all is_soft ws ≡ true → list_all (λ (e : Entry). is_soft e.what) (made_by by ws) ≡ true
soft_entries by [] h = refl
soft_entries by (w ∷ ws) h =
    let t : (is_soft w ≡ true) × (list_all is_soft ws ≡ true) = both (is_soft w) (list_all is_soft ws) h in
    rw (t.0, soft_entries by ws t.1) refl

due_soft : (o : Opening) (past : List Entry) (by : ℕ) (w : What) → list_all (λ (e : Entry). is_soft e.what) (due_after o past (entry by w)) ≡ true
due_soft o past by (Got child line) = soft_entries by (due_by_got o past child line) (soft_got o past child line)
due_soft o past by (End child why) = soft_entries by (due_by o past (End child why)) (soft_verdicts child (Ended why) (open_jobs past child))
due_soft o past by (Mute child) = soft_entries by (due_by o past (Mute child)) (soft_mute o past child)
due_soft o past by w = refl

-- what may be due: what an entry makes due, or a request after a name
abbrev is_owing : What → Bool
is_owing (Ask child job task line) = true
is_owing w = is_soft w

soft_owing : (w : What) → is_soft w ≡ true → is_owing w ≡ true
soft_owing (Ask child job task line) h = refl
soft_owing w h = h

soft_owed : (es : List Entry) → list_all (λ (e : Entry). is_soft e.what) es ≡ true → list_all (λ (e : Entry). is_owing e.what) es ≡ true
soft_owed [] h = refl
soft_owed (e ∷ es) h =
    let t : (is_soft e.what ≡ true) × (list_all (λ (x : Entry). is_soft x.what) es ≡ true) = both (is_soft e.what) (list_all (λ (x : Entry). is_soft x.what) es) h in
    rw (soft_owing e.what t.0, soft_owed es t.1) refl

led_owed : (by : ℕ) (w : What) → list_all (λ (e : Entry). is_owing e.what) (led_by by w) ≡ true
led_owed by (Lead child job line) = refl
led_owed by w = refl

next_owed : (o : Opening) (past : List Entry) (e : Entry) → list_all (λ (x : Entry). is_owing x.what) (still_owed o past [] e) ≡ true
next_owed o past e =
    list_all-append (λ (x : Entry). is_owing x.what) (due_after o past e) (led_by e.by e.what)
    ∙ ap (λ (b : Bool). b && list_all (λ (x : Entry). is_owing x.what) (led_by e.by e.what)) (soft_owed (due_after o past e) (due_soft o past e.by e.what))
    ∙ led_owed e.by e.what

all_owed : (o : Opening) (past owed xs : List Entry) → list_all (λ (e : Entry). is_owing e.what) owed ≡ true → list_all (λ (e : Entry). is_owing e.what) (owed_from o past owed xs) ≡ true
all_owed o past owed [] h = h
all_owed o past [] (e ∷ xs) h = all_owed o (past ++ e ∷ []) (still_owed o past [] e) xs (next_owed o past e)
all_owed o past (d ∷ ds) (e ∷ xs) h = all_owed o (past ++ e ∷ []) ds xs (both (is_owing d.what) (list_all (λ (e : Entry). is_owing e.what) ds) h).1

no_start_due : (o : Opening) (past : List Entry) (by c slot : ℕ) (offer : Bool) (d : Entry) → is_owing d.what ≡ true → IsDue o past d.what d (entry by (Start c slot offer)) → ⊥
no_start_due o past by c slot offer d owing due = go d.what due
  where
    go : (w : What) → IsDue o past w d (entry by (Start c slot offer)) → ⊥
    go (Ask child job task line) h =
        let bad : false ≡ true = (both (by == d.by && false) false (both (by == d.by && false && false) (may_come o past by (Start c slot offer)) h).0).1 in
        cc
    go w h = let bad : false ≡ true = subst (λ (x : Entry). is_owing x.what ≡ true) (sym h) owing in cc

-- the journal before a start was legal
pub legal_before : (o : Opening) (past : List Entry) (by c slot : ℕ) (offer : Bool) → Legal o (past ++ entry by (Start c slot offer) ∷ []) → Legal o past
legal_before o past by c slot offer l =
    let s = StandsFrom-split o [] [] past (entry by (Start c slot offer) ∷ []) l.stands in
    record { stands = s.0; nothing_due = go (owed_after o past) refl s.1.0 }
  where
    go : (ds : List Entry) → owed_after o past ≡ ds → MayStand o past ds (entry by (Start c slot offer)) → owed_after o past ≡ []
    go [] e h = e
    go (d ∷ ds) e h =
        let owing : list_all (λ (x : Entry). is_owing x.what) (d ∷ ds) ≡ true =
        subst (λ (l : List Entry). list_all (λ (x : Entry). is_owing x.what) l ≡ true) e (all_owed o [] [] past refl) in
        absurd (no_start_due o past by c slot offer d (both (is_owing d.what) (list_all (λ (x : Entry). is_owing x.what) ds) owing).0 h)

-- ---- children are numbered in turn

soft_starts : (c : ℕ) (more : List Entry) → list_all (λ (e : Entry). is_soft e.what) more ≡ true → is_started more c ≡ false
soft_starts c [] h = refl
soft_starts c (e ∷ more) h =
    let t : (is_soft e.what ≡ true) × (list_all (λ (e : Entry). is_soft e.what) more ≡ true) = both (is_soft e.what) (list_all (λ (e : Entry). is_soft e.what) more) h in
    step e.what t.0 (soft_starts c more t.1)
  where
    step : (w : What) → is_soft w ≡ true → is_started more c ≡ false → (starts c w || is_started more c) ≡ false
    step (Start child slot offer) s r = absurd cc
    step w s r = r

-- the group of an entry that may come starts no child of a later number
group_starts : (o : Opening) (past : List Entry) (c by : ℕ) (w : What) → may_come o past by w ≡ true
    → count is_start (past ++ entry by w ∷ due_after o past (entry by w)) < c → is_started (entry by w ∷ due_after o past (entry by w)) c ≡ false
group_starts o past c by (Start child slot offer) may few =
    let more : List Entry = entry by (Start child slot offer) ∷ [] in
    let number : child ≡ count is_start past + 1 =
    same_number child (count is_start past + 1) (both (by == 0) (child == count is_start past + 1) (both (by == 0 && child == count is_start past + 1) _ may).0).1 in
    let other : child ≢ c = λ e. absurd (omega (arith, number, e, few, count-append past more)) in
    neither (child == c) false (differ child c other) refl
group_starts o past c by (Got child line) may few = soft_starts c (due_after o past (entry by (Got child line))) (due_soft o past by (Got child line))
group_starts o past c by (End child why) may few = soft_starts c (due_after o past (entry by (End child why))) (due_soft o past by (End child why))
group_starts o past c by (Mute child) may few = soft_starts c (due_after o past (entry by (Mute child))) (due_soft o past by (Mute child))
group_starts o past c by w may few = refl

-- no child has a number greater than that of the starts
pub later_unstarted : (o : Opening) (journal : List Entry) → Legal o journal → (c : ℕ) → count is_start journal < c → is_started journal c ≡ false
later_unstarted o journal l =
    Legal-induction o (λ past. (c : ℕ) → count is_start past < c → is_started past c ≡ false) (λ c few. refl)
    (λ past e legal before may. step past e.by e.what before may) journal l
  where
    step : (past : List Entry) (by : ℕ) (w : What) → ((c : ℕ) → count is_start past < c → is_started past c ≡ false) → may_come o past by w ≡ true
        → (c : ℕ) → count is_start (past ++ entry by w ∷ due_after o past (entry by w)) < c → is_started (past ++ entry by w ∷ due_after o past (entry by w)) c ≡ false
    step past by w before may c few =
        let more : List Entry = entry by w ∷ due_after o past (entry by w) in
        let fewer : count is_start past < c = omega (arith, few, count-append past more) in
        any-append (starts c) past more ∙ neither (is_started past c) (is_started more c) (before c fewer) (group_starts o past c by w may few)

-- ---- of a child that was not started no request is lost

soft_unlost : (c : ℕ) (more : List Entry) → list_all (λ (e : Entry). is_soft e.what) more ≡ true → any (loses c) more ≡ false
soft_unlost c [] h = refl
soft_unlost c (e ∷ more) h =
    let t : (is_soft e.what ≡ true) × (list_all (λ (e : Entry). is_soft e.what) more ≡ true) = both (is_soft e.what) (list_all (λ (e : Entry). is_soft e.what) more) h in
    step e.what t.0 (soft_unlost c more t.1)
  where
    step : (w : What) → is_soft w ≡ true → any (loses c) more ≡ false → (loses c w || any (loses c) more) ≡ false
    step (Lost child task) s r = absurd cc
    step w s r = r

group_unlost : (o : Opening) (past : List Entry) (c by : ℕ) (w : What) → may_come o past by w ≡ true → is_started past c ≡ false
    → any (loses c) (entry by w ∷ due_after o past (entry by w)) ≡ false
group_unlost o past c by (Lost child task) may none = go (child == c) refl
  where
    go : (b : Bool) → (child == c) ≡ b → (b || false) ≡ false
    go false e = refl
    go true e =
        let was : is_started past child ≡ true = (both (is_started past child) _ (both _ _ may).0).0 in
        let bad : true ≡ false = sym was ∙ ap (is_started past) (same_number child c e) ∙ none in
        absurd cc
group_unlost o past c by (Got child line) may none = soft_unlost c (due_after o past (entry by (Got child line))) (due_soft o past by (Got child line))
group_unlost o past c by (End child why) may none = soft_unlost c (due_after o past (entry by (End child why))) (due_soft o past by (End child why))
group_unlost o past c by (Mute child) may none = soft_unlost c (due_after o past (entry by (Mute child))) (due_soft o past by (Mute child))
group_unlost o past c by w may none = refl

unstarted_unlost : (o : Opening) (journal : List Entry) → Legal o journal → (c : ℕ) → is_started journal c ≡ false → any (loses c) journal ≡ false
unstarted_unlost o journal l =
    Legal-induction o (λ past. (c : ℕ) → is_started past c ≡ false → any (loses c) past ≡ false) (λ c none. refl)
    (λ past e legal before may. step past e.by e.what before may) journal l
  where
    earlier : (a b : Bool) → (a || b) ≡ false → a ≡ false
    earlier false b h = refl
    earlier true b h = absurd cc

    step : (past : List Entry) (by : ℕ) (w : What) → ((c : ℕ) → is_started past c ≡ false → any (loses c) past ≡ false) → may_come o past by w ≡ true
        → (c : ℕ) → is_started (past ++ entry by w ∷ due_after o past (entry by w)) c ≡ false → any (loses c) (past ++ entry by w ∷ due_after o past (entry by w)) ≡ false
    step past by w before may c none =
        let more : List Entry = entry by w ∷ due_after o past (entry by w) in
        let was : is_started past c ≡ false = earlier (is_started past c) (is_started more c) (sym (any-append (starts c) past more) ∙ none) in
        any-append (loses c) past more ∙ neither (any (loses c) past) (any (loses c) more) (before c was) (group_unlost o past c by w may was)

-- ---- a child that was started just now

-- ASYNC is offered by a start alone
pub unstarted_offers : (past : List Entry) (c : ℕ) → is_started past c ≡ false → any (offers c) past ≡ false
unstarted_offers [] c h = refl
unstarted_offers (e ∷ past) c h = step e.what h (unstarted_offers past c)
  where
    step : (w : What) → (starts c w || is_started past c) ≡ false → (is_started past c ≡ false → any (offers c) past ≡ false) → (offers c w || any (offers c) past) ≡ false
    step (Start child slot offer) h r = go (child == c) h
      where
        go : (b : Bool) → (b || is_started past c) ≡ false → ((b && offer) || any (offers c) past) ≡ false
        go true h = absurd cc
        go false h = r h
    step w h r = r h

module _ (o : Opening) (old new : List Entry) (c slot : ℕ) (offer : Bool) (number : c ≡ count is_start old + 1)
    (is : new ≡ old ++ entry 0 (Start c slot offer) ∷ []) (legal : Legal o new) where
  abbrev one : List Entry
  one = entry 0 (Start c slot offer) ∷ []

  before : Legal o old
  before = legal_before o old 0 c slot offer (subst (Legal o) is legal)

  unstarted : is_started old c ≡ false
  unstarted = later_unstarted o old before c (omega (arith, number))

  nothing : Nothing c old
  nothing = fresh o old before c unstarted

  no_lines : got_lines new c ≡ []
  no_lines = ap (λ (x : List Entry). got_lines x c) is ∙ each_of-append (line_from c) old one ∙ append-nil (got_lines old c) ∙ nothing.got

  silent : has_spoken new c ≡ false
  silent = silent_said new c no_lines

  live : is_ended new c ≡ false
  live =
      ap (λ (x : List Entry). is_ended x c) is ∙ any-append (ends c) old one
      ∙ ap (λ (b : Bool). b || false) (sym (why_is_end old c) ∙ ap is_some nothing.ends)

  offered : any (offers c) new ≡ offer
  offered =
      ap (any (offers c)) is ∙ any-append (offers c) old one ∙ ap (λ (b : Bool). b || any (offers c) one) (unstarted_offers old c unstarted)
      ∙ ap (λ (b : Bool). (b && offer) || false) (same c) ∙ or_false offer

  pub has_begun : HasBegun new c offer
  has_begun = record {
    started = ap (λ (x : List Entry). is_started x c) is ∙ any-append (starts c) old one ∙ ap (λ (b : Bool). is_started old c || (b || false)) (same c) ∙ or_true (is_started old c);
    live = live;
    silent = silent;
    jobs = (invariant o new legal).silent c silent;
    unlost = ap (any (loses c)) is ∙ any-append (loses c) old one ∙ ap (λ (b : Bool). b || false) (unstarted_unlost o old before c unstarted);
    names = ap names_of offered;
  }

  adds : Adds c new [] [] 0 false None
  adds = subst (λ (x : List Entry). Adds c x [] [] 0 false None) (sym is) (nothing_both c old one nothing (record { got = refl; written = refl; covers = refl; mutes = refl; ends = refl }))

  -- halves that gave and took nothing
  pub is_wired : (given left : Option (List ℕ)) (read_faults : ℕ) (outlet_number : Option ℕ) (taken : Option (List ℕ)) (write_faults : ℕ) (inlet_number : Option ℕ) (e : EarValue) (m : MouthValue)
      → e ≡ record { child = c; given = given; left = left; faults = read_faults; number = outlet_number; held = [] } → m ≡ record { child = c; taken = taken; faults = write_faults; number = inlet_number }
      → IfSome given (λ xs. xs ≡ []) → IfSome taken (λ xs. xs ≡ []) → LoneWired new e m
  is_wired given left read_faults outlet_number taken write_faults inlet_number e m ear mouth g t =
      let begun_ear : EarValue = record { child = c; given = given; left = left; faults = read_faults; number = outlet_number; held = [] } in
      let begun_mouth : MouthValue = record { child = c; taken = taken; faults = write_faults; number = inlet_number } in
      subst (λ (x : EarValue). LoneWired new x m) (sym ear)
      (subst (λ (x : MouthValue). LoneWired new begun_ear x) (sym mouth) (record {
        link = record {
          ear = ear_start new begun_ear no_lines adds.ends refl g;
          mouth = mouth_start new begun_mouth adds.covers adds.written adds.mutes t;
          turn = heard_on c [] new no_lines refl;
        };
        written = written_unasked o new c legal has_begun.jobs;
      }))
