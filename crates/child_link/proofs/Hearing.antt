-- What an ear's steps come to.
use Rattle.std.proofs.Common.{◌≡◌, ◌<◌, ◌≤◌, ℕ, List, [], ◌∷◌, ◌++◌, refl, sym, ap, subst, ◌∙◌, Bool, true, false, not, inl, inr, length, arith}
use Rattle.std.specs.Prelude.{IfSome, IsTrue, map, ◌⊎◌, ◌||◌}
use Rattle.journal_model.specs.declared.verdict.Why.{Why}
use Rattle.journal_model.specs.declared.verdict.Why.TheVariants.{Eof, ReadFault, LongLine, Full}
use Rattle.journal_model.specs.declared.verdict.Verdict.TheVariants.{Ended}
use Rattle.journal_model.specs.declared.entry.What.TheVariants.{Got, End}
use Rattle.journal_model.specs.declared.entry.Entry.{Entry}
use Rattle.journal_model.specs.declared.opening.Opening.{Opening}
use Rattle.journal_model.specs.Journal.{got_from, has_spoken, is_started, is_ended, open_jobs}
use Rattle.journal_model.specs.Legality.{is_empty}
use Rattle.journal_model.proofs.Looks.{any-append}
use Rattle.host_core.specs.Steps.{group_of, is_awaited}
use Rattle.child_link.specs.declared.events.Listening.{Listening}
use Rattle.child_link.specs.declared.events.Listening.TheVariants.{Read as ToRead, Rest as ToRest, Over as IsOver}
use Rattle.journal_model.specs.Due.{due_by}
use Rattle.journal_model.specs.Wires.{RestFits, IsLittle, may_hear}
use Rattle.journal_model.proofs.Soft.{soft_stretch, soft_verdicts}
use Rattle.journal_model.specs.Limits.{longest_line}
use Rattle.wire_line.specs.HeldBytes.{has_line, first_line, TakesLine}
use Rattle.journal_model.specs.Shares.{Moved, by_ear, is_heard, is_of_child, is_closed}
use Rattle.child_link.specs.Doors.{Passed, Appended, Ends, Takes}
use Rattle.journal_model.specs.Halves.{EarValue, EarWired}
use Rattle.child_link.specs.Fills.{Fills}
use Rattle.child_link.specs.Events.{Says, IsListening, is_read}
use Rattle.host_core.specs.declared.event.Event.TheVariants.{Listen, Fetch}
use Rattle.host_core.specs.declared.event.Reply.{Reply}
use Rattle.host_core.specs.declared.event.Reply.TheVariants.{Over, Wait, Read}
use Rattle.std.specs.List.{list_all}
use Rattle.std.proofs.Common.{append_assoc}
use Rattle.journal_model.specs.Legality.{Legal}
use Rattle.journal_model.specs.declared.entry.What.TheVariants.{Verdict as Settled}
use Rattle.child_link.specs.declared.ear.Heard.{Heard}
use Rattle.child_link.specs.declared.ear.Heard.TheVariants.{Fed as HeardLine, Read as HeardMore, Over as HeardOver}
use Rattle.child_link.specs.Hearings.{IsLong, by_long, Shorter, IsFeeding, IsHearing, IsNextFed, IsAllFed}
use Rattle.child_link.specs.Asks.{Grows}
use Rattle.child_link.proofs.Roles.{moved_by, moved_on, moved_from, others_append}
use Rattle.child_link.proofs.Ears.{ear_ends, ear_takes, ending_by_ear, got_by_ear}
use Rattle.journal_model.proofs.Ears.{ear_read}
use Rattle.child_link.proofs.Turns.{InTurn, turn_on, turn_makes, turn_takes}
use Rattle.ann_key.proofs.Numbers.{same_number as same}
use Rattle.ann_key.proofs.Booleans.{or_true}
use Rattle.wire_line.proofs.Limits.{short_line}

-- a reason that is neither the end of the output nor a fault of reading
abbrev is_other : Why → Bool
is_other Eof = false
is_other ReadFault = false
is_other w = true

pub not_eof : {A : Type 0} (w : Why) → is_other w ≡ true → w ≡ Eof → A
not_eof w h e = let bad : false ≡ true = subst (λ (x : Why). is_other x ≡ true) e h in absurd cc

pub not_fault : {A : Type 0} (w : Why) → is_other w ≡ true → w ≡ ReadFault → A
not_fault w h e = let bad : false ≡ true = subst (λ (x : Why). is_other x ≡ true) e h in absurd cc

pub eof_not_fault : {A : Type 0} → Eof ≡ ReadFault → A
eof_not_fault e = absurd cc

pub fault_not_eof : {A : Type 0} → ReadFault ≡ Eof → A
fault_not_eof e = absurd cc

-- no line stands among the first bytes, which are more than a line may have
pub too_long : (held : List ℕ) → IsTrue (not (has_line longest_line held)) × (longest_line < length held) → RestFits LongLine held
too_long held h = (omega (arith, h.1), h.0)

module _ {n : ℕ} {a : Bool} {o : Opening} {old new : List Entry} (v : EarValue) (c : ℕ) (is : c ≡ v.child) where
  -- the child ended
  pub ear_over : (why : Why) → is_closed why ≡ false → RestFits why v.held → (why ≡ Eof → IfSome v.left (λ bytes. bytes ≡ [])) → (why ≡ ReadFault → 0 < v.faults)
      → Ends o n a old new c why → Moved n a (by_ear v.child) (is_heard v.child) old new (EarWired old v) (EarWired new v)
  ear_over why kept fits eof fault s = ear_ends why v kept fits eof fault (subst (λ (k : ℕ). Ends o n a old new k why) is s)

  -- for a reason that asks nothing of its output
  pub ear_gives_up : (why : Why) → is_closed why ≡ false → is_other why ≡ true → RestFits why v.held → Ends o n a old new c why
      → Moved n a (by_ear v.child) (is_heard v.child) old new (EarWired old v) (EarWired new v)
  ear_gives_up why kept other fits s = ear_over why kept fits (not_eof why other) (not_fault why other) s

  pub turn_over : (why : Why) → is_closed why ≡ false → Ends o n a old new c why
      → Moved n a (by_ear v.child) (is_of_child v.child) old new (InTurn v.child old) (InTurn v.child new)
  turn_over why kept e = go (subst (λ (k : ℕ). Ends o n a old new k why) is e)
    where
      go : Ends o n a old new v.child why → Moved n a (by_ear v.child) (is_of_child v.child) old new (InTurn v.child old) (InTurn v.child new)
      go (inr s) = turn_on v.child s.0
      go (inl s) =
          turn_makes v.child s (ending_by_ear s.past v.child why kept)
          (soft_stretch v.child n (due_by o s.past (End v.child why)) (soft_verdicts v.child (Ended why) (open_jobs s.past v.child))).got

module _ {n : ℕ} {a : Bool} (o : Opening) {old new : List Entry} (v : EarValue) (c : ℕ) (is : c ≡ v.child) where
  taken : (line : List ℕ) (b : Bool) → b ≡ true → Takes o n a old new c line b → Appended o n a old new (Got v.child line) (λ past. is_ended past v.child ≡ false)
  taken line b t s = subst (λ (k : ℕ). Takes o n a old new k line true) is (subst (λ (x : Bool). Takes o n a old new c line x) t s)

  pub untaken : (line : List ℕ) (b : Bool) → b ≡ false → Takes o n a old new c line b → Ends o n a old new c Full
  untaken line b t s = subst (λ (x : Bool). Takes o n a old new c line x) t s

  -- a line was fed
  pub ear_fed : (w : EarValue) (line : List ℕ) (b : Bool) → b ≡ true → w ≡ record v { held = w.held } → IsTrue (has_line longest_line v.held) × (line ≡ first_line v.held) → TakesLine v.held (first_line v.held) w.held
      → length w.held < length v.held
      → Takes o n a old new c line b → Moved n a (by_ear v.child) (is_heard v.child) old new (EarWired old v) (EarWired new w)
  ear_fed w line b t same e cut fewer s =
      ear_takes line v w same (omega (arith, ap (λ (l : List ℕ). length l) e.1, short_line longest_line v.held e.0)) (omega (arith, fewer))
      (subst (λ (l : List ℕ). TakesLine v.held l w.held) (sym e.1) cut) (taken line b t s)

  pub turn_fed : (line : List ℕ) (b : Bool) → b ≡ true → Takes o n a old new c line b
      → Moved n a (by_ear v.child) (is_of_child v.child) old new ((may_hear old v.child ≡ true) × InTurn v.child old) (InTurn v.child new)
  turn_fed line b t s = let k = taken line b t s in turn_takes v.child line k (got_by_ear o k.past v.child line)

-- more was read
pub ear_filled : (past : List Entry) (v w : EarValue) → Fills v w → IsLittle w.held → is_ended past v.child ≡ false → EarWired past v → EarWired past w
ear_filled past v w f little live h = ear_read past f.reads.piece v w f.same live f.reads.told f.reads.silent little f.reads.cut h

-- and then the child ended
pub ear_read_over : {n : ℕ} {a : Bool} {o : Opening} {old new : List Entry} (v w : EarValue) (c : ℕ) (why : Why) → c ≡ v.child → Fills v w → w.held ≡ v.held → length v.held ≤ longest_line → is_ended old v.child ≡ false
    → is_closed why ≡ false → RestFits why w.held → (why ≡ Eof → IfSome w.left (λ bytes. bytes ≡ [])) → (why ≡ ReadFault → 0 < w.faults)
    → Ends o n a old new c why → Moved n a (by_ear v.child) (is_heard v.child) old new (EarWired old v) (EarWired new w)
ear_read_over {n} {a} {o} {old} {new} v w c why is f unread few live kept fits eof fault s =
    let e : w.child ≡ v.child = ap (λ (x : EarValue). x.child) f.same in
    moved_from (ear_filled old v w f (omega (arith, few, ap (λ (bs : List ℕ). length bs) unread)) live)
    (subst (λ (k : ℕ). Moved n a (by_ear k) (is_heard k) old new (EarWired old w) (EarWired new w)) e (ear_over w c (is ∙ sym e) why kept fits eof fault s))

-- ---- what the core says, by other names

pub says_listen : {o p : Opening} {n m c d : ℕ} (journal : List Entry) (reply : Reply) → p ≡ o → m ≡ n → d ≡ c → Says p m journal (Listen d) reply → Says o n journal (Listen c) reply
says_listen {o} {p} {n} {m} {c} {d} journal reply eo en ec h =
    subst (λ (x : Opening). Says x n journal (Listen c) reply) eo (subst (λ (k : ℕ). Says p k journal (Listen c) reply) en (subst (λ (k : ℕ). Says p m journal (Listen k) reply) ec h))

pub says_fetch : {o p : Opening} {n m c d : ℕ} (journal : List Entry) (reply : Reply) → p ≡ o → m ≡ n → d ≡ c → Says p m journal (Fetch d) reply → Says o n journal (Fetch c) reply
says_fetch {o} {p} {n} {m} {c} {d} journal reply eo en ec h =
    subst (λ (x : Opening). Says x n journal (Fetch c) reply) eo (subst (λ (k : ℕ). Says p k journal (Fetch c) reply) en (subst (λ (k : ℕ). Says p m journal (Fetch k) reply) ec h))

-- a child that has ended is over
pub ended_listen : (o : Opening) (n c : ℕ) (journal : List Entry) → is_started journal c ≡ true → is_ended journal c ≡ true → Says o n journal (Listen c) Over
ended_listen o n c journal s e = (false, (rw (s, e) refl))

pub ended_fetch : (o : Opening) (n c : ℕ) (journal : List Entry) → is_started journal c ≡ true → is_ended journal c ≡ true → Says o n journal (Fetch c) Over
ended_fetch o n c journal s e = (false, (rw (s, e) refl))

-- a line was fed, so the child has spoken
pub takes_spoken : (o : Opening) (n : ℕ) (a : Bool) (old new : List Entry) (c : ℕ) (line : List ℕ) (b : Bool) → b ≡ true → Takes o n a old new c line b → has_spoken new c ≡ true
takes_spoken o n a old new c line b t s' =
    let s = subst (λ (x : Bool). Takes o n a old new c line x) t s' in
    let group : List Entry = group_of o s.past n (Got c line) in
    let own : has_spoken group c ≡ true = rw (same c) refl in
    ap (λ (j : List Entry). has_spoken j c) s.is ∙ any-append (got_from c) s.past group ∙ ap (λ (x : Bool). has_spoken s.past c || x) own ∙ or_true (has_spoken s.past c)

abbrev is_read_reply : Reply → Bool
is_read_reply Read = true
is_read_reply r = false

settled_by : (o : Opening) (n c : ℕ) (journal : List Entry) → is_started journal c ≡ true → (r : Reply) → is_read_reply r ≡ false → Says o n journal (Listen c) r
    → (is_ended journal c ≡ true) ⊎ (has_spoken journal c ≡ true)
settled_by o n c journal started r other h = by_end (is_ended journal c) refl
  where
    by_spoken : (b : Bool) → has_spoken journal c ≡ b → is_ended journal c ≡ false → (is_ended journal c ≡ true) ⊎ (has_spoken journal c ≡ true)
    by_spoken true s e = inr s
    by_spoken false s e =
        let awaited : is_awaited journal c ≡ true = rw s (or_true (not (is_empty (open_jobs journal c)))) in
        let reads : r ≡ Read = h.1 ∙ (rw (started, e, awaited) refl) in
        let bad : true ≡ false = sym (ap is_read_reply reads) ∙ other in
        absurd cc

    by_end : (b : Bool) → is_ended journal c ≡ b → (is_ended journal c ≡ true) ⊎ (has_spoken journal c ≡ true)
    by_end true e = inl e
    by_end false e = by_spoken (has_spoken journal c) refl e

-- a child of which nothing is to be read yet has ended, or has spoken
pub begun_so : (o : Opening) (n c : ℕ) (journal : List Entry) (l : Listening) → is_started journal c ≡ true → is_read l ≡ false → IsListening o n journal c l
    → (is_ended journal c ≡ true) ⊎ (has_spoken journal c ≡ true)
begun_so o n c journal ToRead started r h = absurd cc
begun_so o n c journal ToRest started r h = settled_by o n c journal started Wait refl h
begun_so o n c journal IsOver started r h = settled_by o n c journal started Over refl h

-- ---- what each step comes to

both_not : {A : Type 0} (b : Bool) → b ≡ true → not b ≡ true → A
both_not true h k = absurd cc
both_not false h k = absurd cc

pub line_not_long : {A : Type 0} (held : List ℕ) → IsTrue (has_line longest_line held) → IsLong held → A
line_not_long held h l = both_not (has_line longest_line held) h l.0

pub short_not_long : {A : Type 0} (held : List ℕ) → IsTrue (not (has_line longest_line held)) × (length held ≤ longest_line) → IsLong held → A
short_not_long held h l = absurd (omega (arith, h.1, l.1))

-- others, and then others
pub passed_both : {n m : ℕ} {a b : Bool} {x y z : List Entry} → m ≡ n → b ≡ a → Passed n a x y → Passed m b y z → Passed n a x z
passed_both {n} {m} {a} {b} {x} {y} {z} en ea s t' =
    let t : Passed n a y z = subst (λ (k : ℕ). Passed k a y z) en (subst (λ (k : Bool). Passed m k y z) ea t') in
    record {
      others = s.others ++ t.others;
      is = t.is ∙ ap (λ (l : List Entry). l ++ t.others) s.is ∙ append_assoc x s.others t.others;
      apart = others_append n s.others t.others s.apart t.apart;
      none = λ h. ap (λ (l : List Entry). l ++ t.others) (s.none h) ∙ t.none h;
    }

module _ {o p : Opening} {n m : ℕ} {a b : Bool} {old mid new : List Entry} (c : ℕ) (why : Why) (eo : p ≡ o) (en : m ≡ n) (ea : b ≡ a) (s : Passed n a old mid)
    (legal : Legal o old → Legal p mid) where
  -- others went on, and then the child was ended
  pub ends_behind : Ends p m b mid new c why → Ends o n a old new c why
  ends_behind t' = go (subst (λ (x : Opening). Ends x n a mid new c why) eo (subst (λ (k : ℕ). Ends p k a mid new c why) en (subst (λ (k : Bool). Ends p m k mid new c why) ea t')))
    where
      go : Ends o n a mid new c why → Ends o n a old new c why
      go (inr t) = inr (passed_both refl refl s t.0, t.1)
      go (inl t) = inl (record { past = t.past; passed = passed_both refl refl s t.passed; legal = λ h. t.legal (subst (λ (x : Opening). Legal x mid) eo (legal h)); found = t.found; is = t.is })

module _ {o : Opening} {n : ℕ} {a : Bool} {old new : List Entry} (v w : EarValue) (c : ℕ) (is : c ≡ v.child) where
  here : (why : Why) → Ends o n a old new c why → Ends o n a old new v.child why
  here why s = subst (λ (k : ℕ). Ends o n a old new k why) is s

  pub over_heard : (why : Why) → is_closed why ≡ false → (IsLong v.held → why ≡ LongLine) → Ends o n a old new c why → IsHearing o n a old new v w HeardOver
  over_heard why kept long s = (why, here why s, kept, long)

  pub unfed_came : (why : Why) → is_closed why ≡ false → w ≡ v → Ends o n a old new c why → IsFeeding o n a old new v w false
  unfed_came why kept e s = (e, (why, here why s, kept))

  pub fed_came : (line : List ℕ) (b : Bool) → b ≡ true → IsTrue (has_line longest_line v.held) → w ≡ record v { held = w.held } → length w.held < length v.held
      → Takes o n a old new c line b → IsFeeding o n a old new v w true
  fed_came line b t whole same fewer s =
      ((line, subst (λ (k : ℕ). Takes o n a old new k line true) is (subst (λ (x : Bool). Takes o n a old new c line x) t s)), record { line = whole; same = same; fewer = fewer })

module _ (o : Opening) (n : ℕ) (a : Bool) (old new : List Entry) (v w : EarValue) (b : Bool) (h : IsFeeding o n a old new v w b) where
  pub fed_heard : b ≡ true → IsHearing o n a old new v w HeardLine
  fed_heard t = subst (IsFeeding o n a old new v w) t h

  pub unfed_heard : b ≡ false → IsTrue (has_line longest_line v.held) → IsHearing o n a old new v w HeardOver
  unfed_heard t line =
      let k : IsFeeding o n a old new v w false = subst (IsFeeding o n a old new v w) t h in
      (k.1.0, k.1.1, k.1.2, λ long. line_not_long v.held line long)

  pub next_fed : (b ≡ false → is_ended new v.child ≡ true) → IsNextFed v w new b
  next_fed over = go b refl h
    where
      go : (x : Bool) → b ≡ x → IsFeeding o n a old new v w x → IsNextFed v w new x
      go true e k = k.1
      go false e k = (k.0, inr (over e))

-- lines were fed after the first
pub fed_all : (v w x : EarValue) (journal : List Entry) → Shorter v w → IsAllFed w x journal
    → IsTrue (has_line longest_line v.held) × (length x.held < length v.held) × IsAllFed v x journal
fed_all v w x journal s t =
    let fewer : length x.held < length v.held = omega (arith, s.fewer, t.fewer) in
    (s.line, fewer, record { same = t.same ∙ ap (λ (y : EarValue). record y { held = x.held }) s.same; fewer = omega (arith, fewer); none = t.none })

pub the_next : (v w : EarValue) (journal : List Entry) (b : Bool) → b ≡ true → IsNextFed v w journal b → Shorter v w
the_next v w journal b t h = subst (IsNextFed v w journal) t h

pub less_then : {x y z : ℕ} → x < y → y ≤ z → x ≤ z
less_then h k = omega (arith, h, k)

-- no more line is held whole
pub all_fed : (v w x : EarValue) (journal : List Entry) (b : Bool) → b ≡ false → w ≡ record v { held = w.held } → length w.held ≤ length v.held → IsNextFed w x journal b → IsAllFed v x journal
all_fed v w x journal b f only fewer h =
    let k : IsNextFed w x journal false = subst (IsNextFed w x journal) f h in
    subst (λ (y : EarValue). IsAllFed v y journal) (sym k.0) (record { same = only; fewer = fewer; none = k.1 })

-- ---- a line that is too long

verdicts_by_long : (c : ℕ) (jobs : List ℕ) → list_all (by_long c) (map (λ j. Settled c j (Ended LongLine)) jobs) ≡ true
verdicts_by_long c [] = refl
verdicts_by_long c (j ∷ jobs) = rw (same c, verdicts_by_long c jobs) refl

pub long_grows : (o : Opening) (n : ℕ) (a : Bool) (old new : List Entry) (v w : EarValue) (r : Heard) → IsHearing o n a old new v w r → IsLong v.held → Grows n a (by_long v.child) old new
long_grows o n a old new v w HeardLine h long = line_not_long v.held h.1.line long
long_grows o n a old new v w HeardMore h long = short_not_long v.held h.1.0 long
long_grows o n a old new v w HeardOver h long = go (subst (λ (y : Why). Ends o n a old new v.child y) (h.3 long) h.1)
  where
    go : Ends o n a old new v.child LongLine → Grows n a (by_long v.child) old new
    go (inr s) = moved_on s.0 (λ none u. u)
    go (inl s) = moved_by s (rw (same v.child, verdicts_by_long v.child (open_jobs s.past v.child)) refl) (λ none u. u)
