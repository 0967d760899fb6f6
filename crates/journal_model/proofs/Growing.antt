-- A legal journal grows by groups.
use Rattle.std.proofs.Common.{◌≡◌, ℕ, List, [], ◌∷◌, ◌++◌, refl, sym, ap, subst, ◌∙◌, append_assoc, Bool, true, false, not, ◌==◌, ◌⊎◌, inl, inr}
use Rattle.std.specs.Prelude.{◌&&◌, IsTrue}
use Rattle.std.specs.List.{list_all}
use Rattle.std.proofs.lemmas.List.{append-nil}
use Rattle.journal_model.specs.declared.opening.Opening.{Opening}
use Rattle.journal_model.specs.declared.verdict.Verdict.TheVariants.{Ended}
use Rattle.journal_model.specs.declared.entry.What.{What}
use Rattle.journal_model.specs.declared.entry.What.TheVariants.{Lead, Ask, Put, Mute, Got, End, Verdict as Settled}
use Rattle.journal_model.specs.declared.entry.Entry.{Entry}
use Rattle.journal_model.specs.Journal.{open_jobs}
use Rattle.journal_model.specs.Due.{due_after, due_by, due_by_got, made_by}
use Rattle.journal_model.specs.Legality.{StandsFrom, Legal, may_come, owed_from, owed_after, still_owed, led_by, asks_job, needs_lead, IsDue, MayStand, Follows, LegalByGroups, IsGroup, IsGroups, LegalByPlaces}
use Rattle.journal_model.specs.Room.{is_ask}
use Rattle.journal_model.proofs.Looks.{entry}
use Rattle.journal_model.proofs.Soft.{is_soft, is_soft_why, soft_got, soft_mute, soft_verdicts}
use Rattle.std.proofs.lemmas.Bool.{and_parts as both, eqb-true as same_number}
use Rattle.ann_key.proofs.Numbers.{same_number as same}

-- ---- two stretches, one after the other

pub owed_from-append : (o : Opening) (past owed xs ys : List Entry)
    → owed_from o past owed (xs ++ ys) ≡ owed_from o (past ++ xs) (owed_from o past owed xs) ys
owed_from-append o past owed [] ys = ap (λ (p : List Entry). owed_from o p owed ys) (sym (append-nil past))
owed_from-append o past owed (e ∷ xs) ys =
    owed_from-append o (past ++ e ∷ []) (still_owed o past owed e) xs ys
    ∙ ap (λ (p : List Entry). owed_from o p (owed_from o past owed (e ∷ xs)) ys) (append_assoc past (e ∷ []) xs)

pub StandsFrom-append : (o : Opening) (past owed xs ys : List Entry)
    → StandsFrom o past owed xs → StandsFrom o (past ++ xs) (owed_from o past owed xs) ys → StandsFrom o past owed (xs ++ ys)
StandsFrom-append o past owed [] ys h k = subst (λ (p : List Entry). StandsFrom o p owed ys) (append-nil past) k
StandsFrom-append o past owed (e ∷ xs) ys h k =
    let k' = subst (λ (p : List Entry). StandsFrom o p (owed_from o past owed (e ∷ xs)) ys) (sym (append_assoc past (e ∷ []) xs)) k in
    (h.0, StandsFrom-append o (past ++ e ∷ []) (still_owed o past owed e) xs ys h.1 k')

pub StandsFrom-split : (o : Opening) (past owed xs ys : List Entry)
    → StandsFrom o past owed (xs ++ ys) → StandsFrom o past owed xs × StandsFrom o (past ++ xs) (owed_from o past owed xs) ys
StandsFrom-split o past owed [] ys h = (tt, subst (λ (p : List Entry). StandsFrom o p owed ys) (sym (append-nil past)) h)
StandsFrom-split o past owed (e ∷ xs) ys h =
    let r = StandsFrom-split o (past ++ e ∷ []) (still_owed o past owed e) xs ys h.1 in
    ((h.0, r.0), subst (λ (p : List Entry). StandsFrom o p (owed_from o past owed (e ∷ xs)) ys) (append_assoc past (e ∷ []) xs) r.1)

-- ---- a group

-- the entry says a name
abbrev pub is_lead : What → Bool
is_lead (Lead child job line) = true
is_lead w = false

asks_ask : (c j : ℕ) (w : What) → asks_job c j w ≡ true → is_ask w ≡ true
asks_ask c j (Ask child job task line) h = refl
asks_ask c j w h = absurd cc

-- what comes where a request is due asks
due_asks : (c j : ℕ) (numbered led may : Bool) (w : What) → (numbered && asks_job c j w && led && may) ≡ true → is_ask w ≡ true
due_asks c j numbered led may w h =
    let asking : Bool = numbered && asks_job c j w in
    asks_ask c j w (both numbered (asks_job c j w) (both asking led (both (asking && led) may h).0).0).1

-- none of the entries asks
abbrev pub none_asks : List Entry → Bool
none_asks xs = list_all (λ e. not (is_ask e.what)) xs

soft_none_asks : (by : ℕ) (ws : List What) → list_all is_soft ws ≡ true → none_asks (made_by by ws) ≡ true
soft_none_asks by [] h = refl
soft_none_asks by (Settled child job verdict ∷ ws) h = soft_none_asks by ws h
soft_none_asks by (Put child job line ∷ ws) h = soft_none_asks by ws h
soft_none_asks by (End child why ∷ ws) h = soft_none_asks by ws (both (is_soft_why why) (list_all is_soft ws) h).1
soft_none_asks by (w ∷ ws) h = absurd cc

-- no request is due, but after a name
pub due_none_asks : (o : Opening) (past : List Entry) (e : Entry) → none_asks (due_after o past e) ≡ true
due_none_asks o past e = go e.by e.what
  where
    go : (by : ℕ) (w : What) → none_asks (made_by by (due_by o past w)) ≡ true
    go by (Got c line) = soft_none_asks by (due_by_got o past c line) (soft_got o past c line)
    go by (End c why) = soft_none_asks by (due_by o past (End c why)) (soft_verdicts c (Ended why) (open_jobs past c))
    go by (Mute c) = soft_none_asks by (due_by o past (Mute c)) (soft_mute o past c)
    go by w = refl

-- what is due and asks nothing is what comes
pub owed_is : (o : Opening) (past : List Entry) (d e : Entry) → is_ask d.what ≡ false → IsDue o past d.what d e → e ≡ d
owed_is o past d e h due = go d.what h due
  where
    go : (w : What) → is_ask w ≡ false → IsDue o past w d e → e ≡ d
    go (Ask child job task line) h due = absurd cc
    go w h due = due

pub is_owed : (o : Opening) (past : List Entry) (d : Entry) → is_ask d.what ≡ false → IsDue o past d.what d d
is_owed o past d h = go d.what h
  where
    go : (w : What) → is_ask w ≡ false → IsDue o past w d d
    go (Ask child job task line) h = absurd cc
    go w h = refl

pub no_request : (d : Entry) (ds : List Entry) → none_asks (d ∷ ds) ≡ true → (is_ask d.what ≡ false) × (none_asks ds ≡ true)
no_request d ds h = let s = both (not (is_ask d.what)) (none_asks ds) h in (off (is_ask d.what) s.0, s.1)
  where
    off : (b : Bool) → not b ≡ true → b ≡ false
    off true h = absurd cc
    off false h = refl

-- what is due may follow, and then nothing is due
pub StandsFrom-owed : (o : Opening) (past owed : List Entry) → none_asks owed ≡ true → StandsFrom o past owed owed
StandsFrom-owed o past [] h = tt
StandsFrom-owed o past (d ∷ ds) h = let s = no_request d ds h in (is_owed o past d s.0, StandsFrom-owed o (past ++ d ∷ []) ds s.1)

pub owed_from-owed : (o : Opening) (past owed : List Entry) → owed_from o past owed owed ≡ []
owed_from-owed o past [] = refl
owed_from-owed o past (d ∷ ds) = owed_from-owed o (past ++ d ∷ []) ds

-- but for a name an entry makes due what it makes due, and no request
pub unled : (o : Opening) (past : List Entry) (e : Entry) → is_lead e.what ≡ false → still_owed o past [] e ≡ due_after o past e
unled o past e h = go e.what h
  where
    go : (w : What) → is_lead w ≡ false → due_after o past e ++ led_by e.by w ≡ due_after o past e
    go (Lead child job line) h = absurd cc
    go w h = append-nil (due_after o past e)

-- A name may come, and then this request that it leads.
pub record Led (o : Opening) (past : List Entry) (by child job task : ℕ) (name line : List ℕ) : Type 0 where
  pub first : may_come o past by (Lead child job name) ≡ true
  pub led : needs_lead (past ++ entry by (Lead child job name) ∷ []) (Ask child job task line) ≡ true
  pub second : may_come o (past ++ entry by (Lead child job name) ∷ []) by (Ask child job task line) ≡ true

-- the two entries
abbrev pub pair : ℕ → ℕ → ℕ → ℕ → List ℕ → List ℕ → List Entry
pair by child job task name line = entry by (Lead child job name) ∷ entry by (Ask child job task line) ∷ []

-- a whole group keeps the journal legal
pub group_keeps : (o : Opening) (past group : List Entry) → Legal o past → IsGroup o past group → Legal o (past ++ group)
group_keeps o past group l g = record {
  stands = StandsFrom-append o [] [] past group l.stands (subst (λ (ds : List Entry). StandsFrom o past ds group) (sym l.nothing_due) g.stands);
  nothing_due = owed_from-append o [] [] past group ∙ ap (λ (ds : List Entry). owed_from o past ds group) l.nothing_due ∙ g.whole;
}

-- where a front of what is owed stands, the rest is still owed
owed_front : (o : Opening) (past front rest : List Entry) → owed_from o past (front ++ rest) front ≡ rest
owed_front o past [] rest = refl
owed_front o past (d ∷ ds) rest = owed_front o (past ++ d ∷ []) ds rest

-- an entry that may stand and is no name is one, with what it makes due
pub due_group : (o : Opening) (past : List Entry) (e : Entry) → MayStand o past [] e → is_lead e.what ≡ false → IsGroup o past (e ∷ due_after o past e)
due_group o past e may plain = record {
  some = λ h. cc;
  stands = (may, subst (λ (ds : List Entry). StandsFrom o (past ++ e ∷ []) ds due) (sym owes) (StandsFrom-owed o (past ++ e ∷ []) due (due_none_asks o past e)));
  whole = ap (λ (ds : List Entry). owed_from o (past ++ e ∷ []) ds due) owes ∙ owed_from-owed o (past ++ e ∷ []) due;
  one = one;
}
  where
    due : List Entry
    due = due_after o past e

    owes : still_owed o past [] e ≡ due
    owes = unled o past e plain

    one : (front rest : List Entry) → e ∷ due ≡ front ++ rest → owed_from o past [] front ≡ [] → (front ≡ []) ⊎ (rest ≡ [])
    one [] rest is nothing = inl refl
    one (x ∷ xs) rest is nothing =
        let first : e ≡ x = cc is in
        let more : due ≡ xs ++ rest = cc is in
        inr (sym (owed_front o (past ++ e ∷ []) xs rest)
        ∙ ap (λ (ds : List Entry). owed_from o (past ++ e ∷ []) ds xs) (sym more ∙ sym owes)
        ∙ ap (λ (y : Entry). owed_from o (past ++ y ∷ []) (still_owed o past [] y) xs) first
        ∙ nothing)

-- a request that a name leads is the one that is due
led_due : (o : Opening) (past : List Entry) (by child job task : ℕ) (line : List ℕ) → needs_lead past (Ask child job task line) ≡ true
    → may_come o past by (Ask child job task line) ≡ true
    → IsDue o past (Ask child job 0 []) (entry by (Ask child job 0 [])) (entry by (Ask child job task line))
led_due o past by child job task line led comes =
    all (by == by) (child == child) (job == job) (needs_lead past (Ask child job task line)) (may_come o past by (Ask child job task line)) (same by) (same child) (same job) led comes
  where
    all : (a b c d e : Bool) → a ≡ true → b ≡ true → c ≡ true → d ≡ true → e ≡ true → (a && (b && c) && d && e) ≡ true
    all a b c d e p q r s t = rw (p, q, r, s, t) refl

-- and so are a name and the request that it leads
pub pair_group : (o : Opening) (past : List Entry) (by child job task : ℕ) (name line : List ℕ) → Led o past by child job task name line
    → IsGroup o past (pair by child job task name line)
pair_group o past by child job task name line l = record {
  some = λ h. cc;
  stands = (l.first, (led_due o (past ++ entry by (Lead child job name) ∷ []) by child job task line l.led l.second, tt));
  whole = refl;
  one = one;
}
  where
    one : (front rest : List Entry) → pair by child job task name line ≡ front ++ rest → owed_from o past [] front ≡ [] → (front ≡ []) ⊎ (rest ≡ [])
    one [] rest is nothing = inl refl
    one (x ∷ []) rest is nothing =
        let first : entry by (Lead child job name) ≡ x = cc is in
        absurd (let bad : still_owed o past [] (entry by (Lead child job name)) ≡ [] = ap (still_owed o past []) first ∙ nothing in cc)
    one (x ∷ y ∷ xs) rest is nothing =
        let more : [] ≡ xs ++ rest = cc is in
        inr (ends xs more)
      where
        ends : (ys : List Entry) → [] ≡ ys ++ rest → rest ≡ []
        ends [] h = sym h
        ends (z ∷ ys) h = absurd cc

-- an entry that may stand and is no name keeps the journal legal, with what it makes due
pub Legal-group : (o : Opening) (past : List Entry) (e : Entry) → Legal o past → MayStand o past [] e → is_lead e.what ≡ false → Legal o (past ++ e ∷ due_after o past e)
Legal-group o past e h may plain = group_keeps o past (e ∷ due_after o past e) h (due_group o past e may plain)

-- ---- induction over the groups

-- What is kept by each entry that may stand and is no name, with what it makes due, and by each name with the request that it leads.
pub record Steps (o : Opening) (P : List Entry → Type 0) : Type 0 where
  pub plain : (p : List Entry) (e : Entry) → P p → MayStand o p [] e → is_lead e.what ≡ false → P (p ++ e ∷ due_after o p e)
  pub pairs : (p : List Entry) (by child job task : ℕ) (name line : List ℕ) → P p → Led o p by child job task name line → P (p ++ pair by child job task name line)

-- A name was said that may come, and a request that it leads is due.
record Waiting (o : Opening) (P : List Entry → Type 0) (past owed : List Entry) : Type 0 where
  front : List Entry
  by : ℕ
  child : ℕ
  job : ℕ
  name : List ℕ
  is : past ≡ front ++ entry by (Lead child job name) ∷ []
  owes : owed ≡ entry by (Ask child job 0 []) ∷ []
  held : P front
  may : may_come o front by (Lead child job name) ≡ true

-- How far a group has come: what is due is known, and all of it is kept; or a name waits for its request.
abbrev Stage : Opening → (List Entry → Type 0) → List Entry → List Entry → Type 0
Stage o P past owed = ((none_asks owed ≡ true) × P (past ++ owed)) ⊎ Waiting o P past owed

module _ (o : Opening) (P : List Entry → Type 0) (steps : Steps o P) where
  abbrev Comes : List Entry → ℕ → ℕ → ℕ → ℕ → List ℕ → Type 0
  Comes past by child job task line =
      needs_lead past (Ask child job task line) ≡ true → may_come o past by (Ask child job task line) ≡ true → P (past ++ entry by (Ask child job task line) ∷ [])

  -- the request that a name leads
  named_comes : (front : List Entry) (by child job : ℕ) (name : List ℕ) (b : ℕ) (w : What) → P front → may_come o front by (Lead child job name) ≡ true
      → IsDue o (front ++ entry by (Lead child job name) ∷ []) (Ask child job 0 []) (entry by (Ask child job 0 [])) (entry b w)
      → P ((front ++ entry by (Lead child job name) ∷ []) ++ entry b w ∷ [])
  named_comes front by child job name b (Ask c j task line) held may due =
      let lead : List Entry = entry by (Lead child job name) ∷ [] in
      let mid : List Entry = front ++ lead in
      let three = both _ _ due in
      let two = both _ _ three.0 in
      let one = both _ _ two.0 in
      let number = both (c == child) (j == job) one.1 in
      let its : Comes mid by child job task line =
      λ led comes. subst P (sym (append_assoc front lead (entry by (Ask child job task line) ∷ [])))
      (steps.pairs front by child job task name line held (record { first = may; led = led; second = comes })) in
      let of_job : Comes mid by child j task line = subst (λ (x : ℕ). Comes mid by child x task line) (sym (same_number j job number.1)) its in
      let of_child : Comes mid by c j task line = subst (λ (x : ℕ). Comes mid by x j task line) (sym (same_number c child number.0)) of_job in
      let of_number : Comes mid b c j task line = subst (λ (x : ℕ). Comes mid x c j task line) (sym (same_number b by one.0)) of_child in
      of_number two.1 three.1
  named_comes front by child job name b w held may due =
      absurd (let mid : List Entry = front ++ entry by (Lead child job name) ∷ [] in
      let bad : is_ask w ≡ true = due_asks child job (b == by) (needs_lead mid w) (may_come o mid b w) w due in
      cc)

  -- an entry that may stand
  first_comes : (past : List Entry) (by : ℕ) (w : What) → P past → MayStand o past [] (entry by w) → Stage o P (past ++ entry by w ∷ []) (still_owed o past [] (entry by w))
  first_comes past by (Lead child job name) held may =
      inr (record { front = past; by = by; child = child; job = job; name = name; is = refl; owes = refl; held = held; may = may })
  first_comes past by w held may =
      let e : Entry = entry by w in
      let there : P ((past ++ e ∷ []) ++ due_after o past e) = subst P (sym (append_assoc past (e ∷ []) (due_after o past e))) (steps.plain past e held may refl) in
      subst (λ (ds : List Entry). Stage o P (past ++ e ∷ []) ds) (sym (unled o past e refl)) (inl (due_none_asks o past e, there))

  next_comes : (past owed : List Entry) (e : Entry) → Stage o P past owed → MayStand o past owed e → Stage o P (past ++ e ∷ []) (still_owed o past owed e)
  next_comes past [] e (inl h) may = first_comes past e.by e.what (subst P (append-nil past) h.1) may
  next_comes past (d ∷ ds) e (inl h) may =
      let q = no_request d ds h.0 in
      inl (q.1, subst P (ap (λ (x : Entry). past ++ x ∷ ds) (sym (owed_is o past d e q.0 may)) ∙ sym (append_assoc past (e ∷ []) ds)) h.1)
  next_comes past owed e (inr w) may = there
    where
      mid : List Entry
      mid = w.front ++ entry w.by (Lead w.child w.job w.name) ∷ []

      due : IsDue o mid (Ask w.child w.job 0 []) (entry w.by (Ask w.child w.job 0 [])) e
      due = subst (λ (p : List Entry). MayStand o p (entry w.by (Ask w.child w.job 0 []) ∷ []) e) w.is (subst (λ (ds : List Entry). MayStand o past ds e) w.owes may)

      held : P ((past ++ e ∷ []) ++ [])
      held =
          subst P (sym (append-nil (past ++ e ∷ [])))
          (subst (λ (p : List Entry). P (p ++ e ∷ [])) (sym w.is) (named_comes w.front w.by w.child w.job w.name e.by e.what w.held w.may due))

      there : Stage o P (past ++ e ∷ []) (still_owed o past owed e)
      there = subst (λ (ds : List Entry). Stage o P (past ++ e ∷ []) (still_owed o past ds e)) (sym w.owes) (inl (refl, held))

  stages : (past owed rest : List Entry) → Stage o P past owed → StandsFrom o past owed rest → owed_from o past owed rest ≡ [] → P (past ++ rest)
  stages past owed [] (inl h) s n = subst (λ (ds : List Entry). P (past ++ ds)) n h.1
  stages past owed [] (inr w) s n = absurd (let bad : entry w.by (Ask w.child w.job 0 []) ∷ [] ≡ [] = sym w.owes ∙ n in cc)
  stages past owed (e ∷ rest) stage s n =
      subst P (append_assoc past (e ∷ []) rest) (stages (past ++ e ∷ []) (still_owed o past owed e) rest (next_comes past owed e stage s.0) s.1 n)

  pub groups_from : (past owed rest : List Entry) → none_asks owed ≡ true → P (past ++ owed) → StandsFrom o past owed rest → owed_from o past owed rest ≡ [] → P (past ++ rest)
  groups_from past owed rest real h s n = stages past owed rest (inl (real, h)) s n

-- what holds of the empty journal, and is kept by each group of a legal journal, holds of each legal journal
pub groups_induction : (o : Opening) (P : List Entry → Type 0) → P []
    → ((p group : List Entry) → Legal o p → P p → IsGroup o p group → P (p ++ group))
    → (journal : List Entry) → Legal o journal → P journal
groups_induction o P base step journal l =
    let Both : List Entry → Type 0 = λ p. Legal o p × P p in
    let empty : Legal o [] = record { stands = tt; nothing_due = refl } in
    let next : (p group : List Entry) → Both p → IsGroup o p group → Both (p ++ group) = λ p group b g. (group_keeps o p group b.0 g, step p group b.0 b.1 g) in
    let r : Both journal = groups_from o Both record {
      plain = λ p e b may plain. next p (e ∷ due_after o p e) b (due_group o p e may plain);
      pairs = λ p by child job task name line b led. next p (pair by child job task name line) b (pair_group o p by child job task name line led);
    } [] [] journal refl (empty, base) l.stands l.nothing_due in
    r.1

-- The journal is legal, or would be but for a name at its end.
pub record NameLast (o : Opening) (journal : List Entry) : Type 0 where
  pub front : List Entry
  pub by : ℕ
  pub child : ℕ
  pub job : ℕ
  pub name : List ℕ
  pub is : journal ≡ front ++ entry by (Lead child job name) ∷ []
  pub legal : Legal o front
  pub may : may_come o front by (Lead child job name) ≡ true

abbrev pub Near : Opening → List Entry → Type 0
Near o journal = Legal o journal ⊎ NameLast o journal

-- The same by single entries that may come, with what they make due: a name makes nothing due here, and a request may come after it.
pub Near-induction : (o : Opening) (P : List Entry → Type 0) → P []
    → ((p : List Entry) (e : Entry) → Near o p → P p → IsTrue (may_come o p e.by e.what) → P (p ++ e ∷ due_after o p e))
    → (journal : List Entry) → Near o journal → P journal
Near-induction o P base step journal near = by_kind near
  where
    Both : List Entry → Type 0
    Both p = Legal o p × P p

    pairs : (p : List Entry) (by child job task : ℕ) (name line : List ℕ) → Both p → Led o p by child job task name line → Both (p ++ pair by child job task name line)
    pairs p by child job task name line b led =
        let lead : Entry = entry by (Lead child job name) in
        let named : P (p ++ lead ∷ []) = step p lead (inl b.0) b.1 led.first in
        let near : Near o (p ++ lead ∷ []) = inr record { front = p; by = by; child = child; job = job; name = name; is = refl; legal = b.0; may = led.first } in
        let asked : P ((p ++ lead ∷ []) ++ entry by (Ask child job task line) ∷ []) = step (p ++ lead ∷ []) (entry by (Ask child job task line)) near named led.second in (
          group_keeps o p (pair by child job task name line) b.0 (pair_group o p by child job task name line led),
          subst P (append_assoc p (lead ∷ []) (entry by (Ask child job task line) ∷ [])) asked,
        )

    of_legal : (j : List Entry) → Legal o j → P j
    of_legal j l =
        let empty : Legal o [] = record { stands = tt; nothing_due = refl } in
        let r : Both j = groups_from o Both record {
          plain = λ p e b may plain. (Legal-group o p e b.0 may plain, step p e (inl b.0) b.1 (both (not (needs_lead p e.what)) (may_come o p e.by e.what) may).1);
          pairs = pairs;
        } [] [] j refl (empty, base) l.stands l.nothing_due in
        r.1

    by_kind : Near o journal → P journal
    by_kind (inl l) = of_legal journal l
    by_kind (inr n) = subst P (sym n.is) (step n.front (entry n.by (Lead n.child n.job n.name)) (inl n.legal) (of_legal n.front n.legal) n.may)

-- what holds of the empty journal, and is kept by each such entry, holds of each legal journal
pub Legal-induction : (o : Opening) (P : List Entry → Type 0) → P []
    → ((p : List Entry) (e : Entry) → Near o p → P p → IsTrue (may_come o p e.by e.what) → P (p ++ e ∷ due_after o p e))
    → (journal : List Entry) → Legal o journal → P journal
Legal-induction o P base step journal l = Near-induction o P base step journal (inl l)

-- ---- each group is so

-- entries that stand where something is owed are what is owed, or begin with it
owed_or_more : (o : Opening) (past owed xs : List Entry) → none_asks owed ≡ true → StandsFrom o past owed xs → owed_from o past owed xs ≡ []
    → (more : List Entry) × (xs ≡ owed ++ more)
owed_or_more o past [] xs real s w = (xs, refl)
owed_or_more o past (d ∷ ds) [] real s w = absurd (let bad : d ∷ ds ≡ [] = w in cc)
owed_or_more o past (d ∷ ds) (x ∷ xs) real s w =
    let q = no_request d ds real in
    let r = owed_or_more o (past ++ x ∷ []) ds xs q.1 s.1 w in
    (r.0, ap (λ (y : Entry). y ∷ xs) (owed_is o past d x q.0 s.0) ∙ ap (λ (ys : List Entry). d ∷ ys) r.1)

pub group_follows : (o : Opening) (past : List Entry) (e : Entry) (rest : List Entry) → IsGroup o past (e ∷ rest) → MayStand o past [] e × Follows o past e rest
group_follows o past e rest g = (g.stands.0, by_kind e.by e.what g)
  where
    by_kind : (by : ℕ) (w : What) → IsGroup o past (entry by w ∷ rest) → Follows o past (entry by w) rest
    by_kind by (Lead child job name) g = go rest g
      where
        l : Entry
        l = entry by (Lead child job name)

        go : (rest : List Entry) → IsGroup o past (l ∷ rest) → Follows o past l rest
        go [] g = absurd (let bad : still_owed o past [] l ≡ [] = g.whole in cc)
        go (a ∷ more) g = (a, ap (λ (xs : List Entry). a ∷ xs) (alone (g.one (l ∷ a ∷ []) more refl refl)), g.stands.1.0)
          where
            alone : (l ∷ a ∷ [] ≡ []) ⊎ (more ≡ []) → more ≡ []
            alone (inl bad) = absurd cc
            alone (inr h) = h
    by_kind by w g =
        let e : Entry = entry by w in
        let due : List Entry = due_after o past e in
        let owes = unled o past e refl in
        let r = owed_or_more o (past ++ e ∷ []) due rest (due_none_asks o past e) (subst (λ (ds : List Entry). StandsFrom o (past ++ e ∷ []) ds rest) owes g.stands.1)
        (subst (λ (ds : List Entry). owed_from o (past ++ e ∷ []) ds rest ≡ []) owes g.whole) in
        let alone = g.one (e ∷ due) r.0 (ap (λ (xs : List Entry). e ∷ xs) r.1) (ap (λ (ds : List Entry). owed_from o (past ++ e ∷ []) ds due) owes ∙ owed_from-owed o (past ++ e ∷ []) due) in
        r.1 ∙ none alone r.0 refl
      where
        none : {front rest : List Entry} {e : Entry} → (e ∷ front ≡ []) ⊎ (rest ≡ []) → (more : List Entry) → more ≡ rest → front ++ more ≡ front
        none (inl bad) more is = absurd cc
        none {front = front} (inr h) more is = ap (λ (xs : List Entry). front ++ xs) (is ∙ h) ∙ append-nil front

-- and the other way round
pub follows_group : (o : Opening) (past : List Entry) (e : Entry) (rest : List Entry) → MayStand o past [] e → Follows o past e rest → IsGroup o past (e ∷ rest)
follows_group o past e rest may f = by_kind e.by e.what may f
  where
    by_kind : (by : ℕ) (w : What) → MayStand o past [] (entry by w) → Follows o past (entry by w) rest → IsGroup o past (entry by w ∷ rest)
    by_kind by (Lead child job name) may f =
        subst (λ (xs : List Entry). IsGroup o past (l ∷ xs)) (sym f.1) record { some = λ h. cc; stands = (may, (f.2, tt)); whole = refl; one = one }
      where
        l : Entry
        l = entry by (Lead child job name)

        one : (front more : List Entry) → l ∷ f.0 ∷ [] ≡ front ++ more → owed_from o past [] front ≡ [] → (front ≡ []) ⊎ (more ≡ [])
        one [] more is nothing = inl refl
        one (x ∷ []) more is nothing =
            let first : l ≡ x = cc is in
            absurd (let bad : still_owed o past [] l ≡ [] = ap (still_owed o past []) first ∙ nothing in cc)
        one (x ∷ y ∷ xs) more is nothing = inr (ends xs (cc is))
          where
            ends : (ys : List Entry) → [] ≡ ys ++ more → more ≡ []
            ends [] h = sym h
            ends (z ∷ ys) h = absurd cc
    by_kind by w may f = subst (λ (xs : List Entry). IsGroup o past (entry by w ∷ xs)) (sym f) (due_group o past (entry by w) may refl)

module _ (o : Opening) (past : List Entry) where
  -- a name is followed by a request alone
  pub one_ask : (P : List Entry → Type 0) → (by child job : ℕ) (name : List ℕ) (rest : List Entry) → Follows o past (entry by (Lead child job name)) rest
      → ((b c j t : ℕ) (line : List ℕ) → P (entry b (Ask c j t line) ∷ [])) → P rest
  one_ask P by child job name rest f ask = subst P (sym f.1) (go f.0.by f.0.what f.2)
    where
      go : (b : ℕ) (w : What) → IsDue o (past ++ entry by (Lead child job name) ∷ []) (Ask child job 0 []) (entry by (Ask child job 0 [])) (entry b w) → P (entry b w ∷ [])
      go b (Ask c j t line) due = ask b c j t line
      go b w due =
          absurd (let mid : List Entry = past ++ entry by (Lead child job name) ∷ [] in
          let bad : is_ask w ≡ true = due_asks child job (b == by) (needs_lead mid w) (may_come o mid b w) w due in
          cc)

-- ---- the other forms

IsGroups-push : (o : Opening) (past : List Entry) (groups : List (List Entry)) (journal group : List Entry) → IsGroups o past groups journal
    → IsGroup o journal group → IsGroups o past (groups ++ group ∷ []) (journal ++ group)
IsGroups-push o past [] journal group h g = subst (λ (p : List Entry). IsGroup o p group × (journal ++ group ≡ p ++ group)) h (g, refl)
IsGroups-push o past (f ∷ groups) journal group h g = (h.0, IsGroups-push o (past ++ f) groups journal group h.1 g)

pub Legal-groups : (o : Opening) (journal : List Entry) → Legal o journal → LegalByGroups o journal
Legal-groups o journal l =
    groups_induction o (LegalByGroups o) ([], refl)
    (λ p group legal before g. (before.0 ++ group ∷ [], IsGroups-push o [] before.0 p group before.1 g)) journal l

IsGroups-legal : (o : Opening) (past : List Entry) (groups : List (List Entry)) (journal : List Entry) → Legal o past → IsGroups o past groups journal → Legal o journal
IsGroups-legal o past [] journal l h = subst (Legal o) (sym h) l
IsGroups-legal o past (group ∷ groups) journal l h = IsGroups-legal o (past ++ group) groups journal (group_keeps o past group l h.0) h.1

pub groups-Legal : (o : Opening) (journal : List Entry) → LegalByGroups o journal → Legal o journal
groups-Legal o journal h = IsGroups-legal o [] h.0 journal (record { stands = tt; nothing_due = refl }) h.1

pub Legal-places : (o : Opening) (journal : List Entry) → Legal o journal → LegalByPlaces o journal
Legal-places o journal l = record {
  each = λ past rest e there.
      (let r = StandsFrom-split o [] [] past (e ∷ rest) (subst (λ (j : List Entry). StandsFrom o [] [] j) there l.stands) in
      r.1.0);
  nothing_due = l.nothing_due;
}

each_stands : (o : Opening) (past rest : List Entry)
    → ((p r : List Entry) (e : Entry) → past ++ rest ≡ p ++ e ∷ r → MayStand o p (owed_after o p) e) → StandsFrom o past (owed_after o past) rest
each_stands o past [] each = tt
each_stands o past (e ∷ rest) each =
    let more : StandsFrom o (past ++ e ∷ []) (owed_after o (past ++ e ∷ [])) rest =
    each_stands o (past ++ e ∷ []) rest (λ p r d there. each p r d (sym (append_assoc past (e ∷ []) rest) ∙ there)) in
    (each past rest e refl, subst (λ (ds : List Entry). StandsFrom o (past ++ e ∷ []) ds rest) (owed_from-append o [] [] past (e ∷ [])) more)

pub places-Legal : (o : Opening) (journal : List Entry) → LegalByPlaces o journal → Legal o journal
places-Legal o journal h = record { stands = each_stands o [] journal h.each; nothing_due = h.nothing_due }
