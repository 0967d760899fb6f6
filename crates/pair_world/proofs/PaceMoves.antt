-- Each move keeps host and kits in step, and neither finds fault with the other.
use Rattle.std.proofs.Common.{ℕ, zero, suc, ◌≡◌, ◌+◌, ◌-◌, ◌<◌, ◌^◌, ◌==◌, Bool, true, false, not, cond, List, [], ◌∷◌, ◌++◌, length, get_or, set, Option, Some, None, refl, sym, ap, subst, ◌∙◌, arith, append-nil}
use Rattle.std.specs.Prelude.{◌&&◌, ◌||◌}
use Rattle.std.specs.List.{list_all, list_any}
use Rattle.std.proofs.lemmas.Bool.Decides.{nat_tests}
use Rattle.std.proofs.lemmas.List.Folds.{list_all-append}
use Rattle.annex_model.specs.Lines.{has_newline}
use Rattle.annex_model.specs.Messages.{HostMessage}
use Rattle.wire_line.specs.HeldBytes.{first_line}
use Rattle.registers.specs.Registers.{IsKept}
use Rattle.journal_model.specs.declared.verdict.Why.{Why}
use Rattle.journal_model.specs.declared.verdict.Why.TheVariants.{Eof, LongLine, Full}
use Rattle.journal_model.specs.declared.entry.What.TheVariants.{Got, End as EndEntry}
use Rattle.journal_model.specs.declared.entry.Entry.{Entry}
use Rattle.journal_model.specs.declared.opening.Opening.{Opening}
use Rattle.journal_model.specs.Beginnings.{MayBegin}
use Rattle.journal_model.specs.Journal.{any, is_started, is_ended, is_mute, is_live, is_full, unsent}
use Rattle.journal_model.specs.Legality.{is_empty, may_come}
use Rattle.journal_model.specs.Registers.{settings as settings_made}
use Rattle.journal_model.proofs.Looks.{any-append}
use Rattle.host_core.specs.declared.event.Event.{Event}
use Rattle.host_core.specs.declared.event.Event.TheVariants.{Got as GotEvent, Stop as StopEvent, Sent as SentEvent}
use Rattle.host_core.specs.declared.event.Reply.{Reply}
use Rattle.host_core.specs.declared.event.Reply.TheVariants.{Child}
use Rattle.host_core.specs.Steps.{Step, step_of, group_of}
use Rattle.pair_kit.specs.declared.taken.Taken.{Taken}
use Rattle.pair_world.specs.declared.step.Move.{Move}
use Rattle.pair_world.specs.declared.step.Move.TheVariants.{Event as EventMove, Write, ToKit, Work, ToHost, Hear, End as EndMove}
use Rattle.pair_world.specs.declared.step.Moved.{Moved}
use Rattle.pair_world.specs.declared.step.Moved.TheVariants.{Did, Not}
use Rattle.pair_kit.specs.Pairs.{PairValue, no_pair, said_lines, is_child, pair_of, with_pair, moved_to_kit, moved_to_host, written_to}
use Rattle.pair_kit.specs.Works.{call_for, is_waiting, next_message}
use Rattle.pair_kit.specs.Worlds.{WorldValue, AreLinked}
use Rattle.pair_world.specs.Moves.{Moves, IsMade, is_barred, is_odd, is_unended, DoesEvent, DoesWrite, DoesToKit, DoesToHost, DoesTake, DoesWork, DoesHear, DoesEnd, stepped, reply_to, begun_by, line_of, is_amiss, is_silent, is_long, heard_event, left_at}
use Rattle.pair_kit.specs.Paces.{is_line_call, is_whole, IsExpected, KeepsStep, AreInStep}
use Rattle.pair_kit.specs.Peace.{finds_fault, is_error_line, AtPeace}
use Rattle.pair_world.proofs.Linking.{pair_at, no_child, there, not_silent, step_got}
use Rattle.pair_world.proofs.PaceEvents.{event_goes, stop_goes, sent_goes}
use Rattle.pair_kit.proofs.Kits.{call_is_line}
use Rattle.pair_kit.proofs.PaceGroups.{JournalInStep, Goes, IsNumbered, goes_nowhere, end_goes}
use Rattle.pair_kit.proofs.PaceHeard.{has_taken}
use Rattle.pair_kit.proofs.PaceHears.{hear_goes}
use Rattle.ann_key.proofs.Booleans.{left_false as first_false, right_false as second_false}
use Rattle.wire_line.proofs.Firsts.{no_newline_before as first_whole}

-- ---- what each kit took is whole

abbrev IsWhole : PairValue → Type 0
IsWhole p = list_all is_whole p.taken ≡ true

abbrev AreWhole : List PairValue → Type 0
AreWhole pairs = (n : ℕ) → IsWhole (get_or pairs n no_pair)

to_places : (pairs : List PairValue) → ((c : ℕ) → IsWhole (pair_of pairs c)) → AreWhole pairs
to_places pairs h n =
    let low : 0 < n + 1 = omega arith in
    let at : n + 1 - 1 ≡ n = omega arith in
    subst IsWhole (pair_at pairs (n + 1) low ∙ ap (λ (k : ℕ). get_or pairs k no_pair) at) (h (n + 1))

from_places : (pairs : List PairValue) → AreWhole pairs → (c : ℕ) → IsWhole (pair_of pairs c)
from_places pairs h c = go (c == 0)
  where
    go : (b : Bool) → IsWhole (cond b no_pair (get_or pairs (c - 1) no_pair))
    go true = refl
    go false = h (c - 1)

whole_more : (pairs more : List PairValue) → AreWhole pairs → AreWhole more → AreWhole (pairs ++ more)
whole_more [] more a b n = b n
whole_more (p ∷ pairs) more a b zero = a zero
whole_more (p ∷ pairs) more a b (suc n) = whole_more pairs more (λ k. a (suc k)) b n

whole_set : (pairs : List PairValue) (k : ℕ) (p : PairValue) → AreWhole pairs → IsWhole p → AreWhole (set pairs k p)
whole_set [] k p a own n = a n
whole_set (q ∷ pairs) zero p a own zero = own
whole_set (q ∷ pairs) zero p a own (suc n) = a (suc n)
whole_set (q ∷ pairs) (suc k) p a own zero = a zero
whole_set (q ∷ pairs) (suc k) p a own (suc n) = whole_set pairs k p (λ i. a (suc i)) own n

whole_begun : (reply : Reply) → AreWhole (begun_by reply)
whole_begun (Child number) zero = refl
whole_begun (Child number) (suc n) = refl
whole_begun reply n = refl

-- a pair takes another's place that took the same
whole_put : (old new : WorldValue) (c : ℕ) (p : PairValue) → AreInStep old → IsWhole p → new.pairs ≡ with_pair old.pairs c p → (d : ℕ) → IsWhole (pair_of new.pairs d)
whole_put old new c p h own pairs d =
    subst (λ (ps : List PairValue). IsWhole (pair_of ps d)) (sym pairs) (from_places (with_pair old.pairs c p) (whole_set old.pairs (c - 1) p (to_places old.pairs h.whole) own) d)

-- ---- what a move adds to the journal

-- The journal has grown by what keeps every child in step, and what the kits took is whole.
record MovesOn (old new : WorldValue) : Type 0 where
  more : List Entry
  opening : new.opening ≡ old.opening
  journal : new.journal ≡ old.journal ++ more
  goes : Goes old.opening old.journal more
  whole : (c : ℕ) → IsWhole (pair_of new.pairs c)

journal_of : (w : WorldValue) → AreInStep w → JournalInStep w.opening w.journal
journal_of w h = record { kept = h.kept; unset = h.unset; children = λ c. record { unmuted = h.unmuted c; expected = h.expected c; steps = h.steps c } }

numbered : (w : WorldValue) → AreLinked w → IsNumbered w.journal
numbered w h c next =
    let number = h.numbers in
    let none : is_child w.pairs c ≡ false = grind (arith, nat_tests) in
    h.started c ∙ none

-- the journal stays
still : (old new : WorldValue) → AreInStep old → new.opening ≡ old.opening → new.journal ≡ old.journal → ((c : ℕ) → IsWhole (pair_of new.pairs c)) → MovesOn old new
still old new h opening journal whole = record {
  more = [];
  opening = opening;
  journal = journal ∙ sym (append-nil old.journal);
  goes = goes_nowhere old.opening old.journal [] (journal_of old h) refl;
  whole = whole;
}

-- ---- each move

moves_event : (old : WorldValue) (by : ℕ) (event : Event) (reply : Reply) (new : WorldValue) → is_barred event ≡ false → DoesEvent old by event reply new → AreLinked old → AreInStep old → MovesOn old new
moves_event old by event reply new unbarred d l h = record {
  more = (step_of old.opening old.journal by event).group;
  opening = ap (λ (w : WorldValue). w.opening) d.goes;
  journal = ap (λ (w : WorldValue). w.journal) d.goes;
  goes = event_goes old.opening old.journal by event unbarred l.few l.legal (journal_of old h) (numbered old l);
  whole = λ c. subst (λ (ps : List PairValue). IsWhole (pair_of ps c)) (sym (ap (λ (w : WorldValue). w.pairs) d.goes))
      (from_places (old.pairs ++ begun_by reply) (whole_more old.pairs (begun_by reply) (to_places old.pairs h.whole) (whole_begun reply)) c);
}

moves_write : (old : WorldValue) (c : ℕ) (reply : Reply) (new : WorldValue) → DoesWrite old c reply new → AreLinked old → AreInStep old → MovesOn old new
moves_write old c reply new d l h = record {
  more = (step_of old.opening old.journal 0 (SentEvent c)).group;
  opening = ap (λ (w : WorldValue). w.opening) d.goes;
  journal = ap (λ (w : WorldValue). w.journal) d.goes;
  goes = sent_goes old.opening old.journal 0 c l.few l.legal (journal_of old h) (numbered old l);
  whole = whole_put old new c (written_to (line_of (unsent old.journal c)) (pair_of old.pairs c)) h (h.whole c) (ap (λ (w : WorldValue). w.pairs) d.goes);
}

moves_take : (old : WorldValue) (c : ℕ) (m : HostMessage) (new : WorldValue) → DoesTake old c m new → AreInStep old → MovesOn old new
moves_take old c m new d h =
    still old new h (ap (λ (w : WorldValue). w.opening) d.goes) (ap (λ (w : WorldValue). w.journal) d.goes) (whole_put old new c d.pair h own (ap (λ (w : WorldValue). w.pairs) d.goes))
  where
    taken : Taken
    taken = record { line = first_line (pair_of old.pairs c).at_kit; call = call_for old.keys old.files d.asked }

    own : IsWhole d.pair
    own =
        ap (λ (p : PairValue). list_all is_whole p.taken) d.takes.goes ∙ list_all-append is_whole (pair_of old.pairs c).taken (taken ∷ [])
        ∙ ap (λ (b : Bool). b && (is_whole taken && true)) (h.whole c)
        ∙ ap (λ (b : Bool). (not b && is_line_call taken.call) && true) (first_whole (pair_of old.pairs c).at_kit)
        ∙ ap (λ (b : Bool). b && true) (call_is_line old.keys old.files d.asked)

moves_work : (old : WorldValue) (c : ℕ) (m : Option HostMessage) (reply : Reply) (new : WorldValue) → DoesWork old c m reply new → AreInStep old → MovesOn old new
moves_work old c None reply new d h =
    still old new h (ap (λ (w : WorldValue). w.opening) d.1) (ap (λ (w : WorldValue). w.journal) d.1)
    (λ x. subst (λ (w : WorldValue). IsWhole (pair_of w.pairs x)) (sym d.1) (h.whole x))
moves_work old c (Some m) reply new d h = moves_take old c m new d.1 h

moves_stop : (old new : WorldValue) (c : ℕ) (why : Why) → new.journal ≡ (stepped old 0 (StopEvent c why)).journal → new.opening ≡ old.opening → ((d : ℕ) → IsWhole (pair_of new.pairs d))
    → AreLinked old → AreInStep old → MovesOn old new
moves_stop old new c why journal opening whole l h = record {
  more = (step_of old.opening old.journal 0 (StopEvent c why)).group;
  opening = opening;
  journal = journal;
  goes = stop_goes old.opening old.journal 0 c why l.few l.legal (journal_of old h) (numbered old l);
  whole = whole;
}

-- a line that is heard, where the journal is full or isn't
moves_got : (old new : WorldValue) (c : ℕ) (full : Bool) → is_full old.journal ≡ full → is_started old.journal c ≡ true → is_ended old.journal c ≡ false → is_child old.pairs c ≡ true
    → has_newline (pair_of old.pairs c).at_host ≡ true → new.journal ≡ (stepped old 0 (GotEvent c (first_line (pair_of old.pairs c).at_host))).journal → new.opening ≡ old.opening
    → ((d : ℕ) → IsWhole (pair_of new.pairs d)) → AreLinked old → AreInStep old → MovesOn old new
moves_got old new c true full started unended is whole_line journal opening whole l h =
    let line = first_line (pair_of old.pairs c).at_host in
    let step = step_got old.opening old.journal c line true started (first_whole (pair_of old.pairs c).at_host) unended full in
    let may : may_come old.opening old.journal 0 (EndEntry c Full) ≡ true = rw (started, unended, full) refl in
    record {
      more = group_of old.opening old.journal 0 (EndEntry c Full);
      opening = opening;
      journal = journal ∙ ap (λ (s : Step). old.journal ++ s.group) step;
      goes = end_goes old.opening old.journal 0 c Full l.legal (journal_of old h) may;
      whole = whole;
    }
moves_got old new c false full started unended is whole_line journal opening whole l h =
    let p = pair_of old.pairs c in
    let line = first_line p.at_host in
    let single = first_whole p.at_host in
    let step = step_got old.opening old.journal c line false started single unended full in
    let may : may_come old.opening old.journal 0 (Got c line) ≡ true = rw (started, unended, single, full) refl in
    record {
      more = group_of old.opening old.journal 0 (Got c line);
      opening = opening;
      journal = journal ∙ ap (λ (s : Step). old.journal ++ s.group) step;
      goes = hear_goes old.opening old.journal c p l.legal (journal_of old h) (l.linked c is) (h.whole c) may whole_line;
      whole = whole;
    }

moves_hear : (old : WorldValue) (c : ℕ) (reply : Reply) (new : WorldValue) → is_ended old.journal c ≡ false → is_silent (pair_of old.pairs c).at_host ≡ false → DoesHear old c reply new
    → is_child old.pairs c ≡ true → AreLinked old → AreInStep old → MovesOn old new
moves_hear old c reply new unended some d is l h = by_length (is_long (pair_of old.pairs c).at_host) refl
  where
    p : PairValue
    p = pair_of old.pairs c

    whole : (x : ℕ) → IsWhole (pair_of new.pairs x)
    whole = whole_put old new c (record p { at_host = left_at reply p.at_host }) h (h.whole c) (ap (λ (w : WorldValue). w.pairs) d.goes)

    opening : new.opening ≡ old.opening
    opening = ap (λ (w : WorldValue). w.opening) d.goes

    journal : new.journal ≡ (stepped old 0 (heard_event c p.at_host)).journal
    journal = ap (λ (w : WorldValue). w.journal) d.goes

    by_length : (b : Bool) → is_long p.at_host ≡ b → MovesOn old new
    by_length true e =
        let event : heard_event c p.at_host ≡ StopEvent c LongLine = rw e refl in
        moves_stop old new c LongLine (journal ∙ ap (λ (x : Event). (stepped old 0 x).journal) event) opening whole l h
    by_length false e =
        let event : heard_event c p.at_host ≡ GotEvent c (first_line p.at_host) = rw e refl in
        moves_got old new c (is_full old.journal) refl (l.started c ∙ is) unended is (not_silent p.at_host some e) (journal ∙ ap (λ (x : Event). (stepped old 0 x).journal) event) opening whole l h

-- ---- all moves

by_made : (b : Bool) (old : WorldValue) (Does : Reply → WorldValue → Type 0) (moved : Moved) (new : WorldValue) → IsMade b old Does moved new → AreInStep old
    → ((reply : Reply) → b ≡ false → Does reply new → MovesOn old new) → MovesOn old new
by_made true old Does Not new is h f =
    still old new h (ap (λ (w : WorldValue). w.opening) is) (ap (λ (w : WorldValue). w.journal) is) (λ c. subst (λ (w : WorldValue). IsWhole (pair_of w.pairs c)) (sym is) (h.whole c))
by_made true old Does (Did reply) new is h f = absurd is
by_made false old Does Not new is h f = absurd is
by_made false old Does (Did reply) new is h f = f reply refl is

moves_on : (old : WorldValue) (step : Move) (moved : Moved) (new : WorldValue) → Moves old step moved new → AreLinked old → AreInStep old → MovesOn old new
moves_on old (EventMove by event) moved new is l h =
    by_made (is_barred event || is_odd (reply_to old by event)) old (DoesEvent old by event) moved new is h
    (λ reply b d. moves_event old by event reply new (first_false (is_barred event) (is_odd (reply_to old by event)) b) d l h)
moves_on old (Write c) moved new is l h =
    by_made (is_empty (unsent old.journal c) || is_ended old.journal c) old (DoesWrite old c) moved new is h (λ reply b d. moves_write old c reply new d l h)
moves_on old (ToKit c n) moved new is l h =
    by_made (is_amiss n (pair_of old.pairs c).to_kit) old (DoesToKit old c n) moved new is h
    (λ reply b d. still old new h (ap (λ (w : WorldValue). w.opening) d.goes) (ap (λ (w : WorldValue). w.journal) d.goes)
    (whole_put old new c (moved_to_kit n (pair_of old.pairs c)) h (h.whole c) (ap (λ (w : WorldValue). w.pairs) d.goes)))
moves_on old (Work c) moved new is l h =
    by_made (is_waiting (pair_of old.pairs c).at_kit) old (DoesWork old c (next_message (pair_of old.pairs c).at_kit)) moved new is h
    (λ reply b d. moves_work old c (next_message (pair_of old.pairs c).at_kit) reply new d h)
moves_on old (ToHost c n) moved new is l h =
    by_made (is_amiss n (pair_of old.pairs c).to_host) old (DoesToHost old c n) moved new is h
    (λ reply b d. still old new h (ap (λ (w : WorldValue). w.opening) d.goes) (ap (λ (w : WorldValue). w.journal) d.goes)
    (whole_put old new c (moved_to_host n (pair_of old.pairs c)) h (h.whole c) (ap (λ (w : WorldValue). w.pairs) d.goes)))
moves_on old (Hear c) moved new is l h =
    by_made (is_ended old.journal c || is_silent (pair_of old.pairs c).at_host) old (DoesHear old c) moved new is h
    (λ reply b d.
    (let some = second_false (is_ended old.journal c) (is_silent (pair_of old.pairs c).at_host) b in
    moves_hear old c reply new (first_false (is_ended old.journal c) (is_silent (pair_of old.pairs c).at_host) b) some d (there old.pairs c (λ p. is_silent p.at_host) refl some) l h))
moves_on old (EndMove c) moved new is l h =
    by_made (is_unended old c) old (DoesEnd old c) moved new is h
    (λ reply b d. moves_stop old new c Eof (ap (λ (w : WorldValue). w.journal) d.goes) (ap (λ (w : WorldValue). w.opening) d.goes)
    (λ x. subst (λ (w : WorldValue). IsWhole (pair_of w.pairs x)) (sym d.goes) (h.whole x)) l h)

-- ---- host and kits keep step

-- a world with no journal and no child
pub in_step_empty : (w : WorldValue) → MayBegin w.opening → IsKept w.opening.registers → w.journal ≡ [] → w.pairs ≡ [] → AreInStep w
in_step_empty w begins kept journal pairs = record {
  begins = begins;
  kept = kept;
  unset = ap settings_made journal;
  unmuted = λ c. ap (λ (j : List Entry). is_mute j c) journal;
  expected = λ c. subst (λ (j : List Entry). IsExpected j c) (sym journal) (record { lines = refl; expected = refl });
  whole = λ c. subst (λ (ps : List PairValue). IsWhole (pair_of ps c)) (sym pairs) (from_places [] (λ n. refl) c);
  steps = λ c live. (let bad : true ≡ false = sym live ∙ ap (λ (j : List Entry). is_live j c) journal in absurd cc);
}

pub in_step_moved : (old : WorldValue) (step : Move) (moved : Moved) (new : WorldValue) → Moves old step moved new → AreLinked old → AreInStep old → length new.journal < 2 ^ 64 → AreInStep new
in_step_moved old step moved new is l h few =
    let m = moves_on old step moved new is l h in
    let back : old.journal ++ m.more ≡ new.journal = sym m.journal in
    let s = m.goes.in_step in
    record {
      begins = subst MayBegin (sym m.opening) h.begins;
      kept = subst (λ (o : Opening). IsKept o.registers) (sym m.opening) h.kept;
      unset = subst (λ (j : List Entry). settings_made j ≡ []) back s.unset;
      unmuted = λ c. subst (λ (j : List Entry). is_mute j c ≡ false) back (s.children c).unmuted;
      expected = λ c. subst (λ (j : List Entry). IsExpected j c) back (s.children c).expected;
      whole = m.whole;
      steps = λ c. (subst (λ (j : List Entry). is_live j c ≡ true → KeepsStep j c) back (s.children c).steps);
    }

-- ---- and neither finds fault

kits_fair : (w : WorldValue) → AreLinked w → AreInStep w → (c : ℕ) → list_any is_error_line (said_lines (pair_of w.pairs c).taken) ≡ false
kits_fair w l h c = go (is_child w.pairs c) refl
  where
    go : (b : Bool) → is_child w.pairs c ≡ b → list_any is_error_line (said_lines (pair_of w.pairs c).taken) ≡ false
    go true e = (has_taken w.journal c (pair_of w.pairs c) (h.expected c) (l.linked c e) (h.whole c)).says.fair
    go false e = ap (λ (p : PairValue). list_any is_error_line (said_lines p.taken)) (no_child w.pairs c e)

pub peace_empty : (w : WorldValue) → w.journal ≡ [] → w.pairs ≡ [] → AreLinked w → AreInStep w → AtPeace w
peace_empty w journal pairs l h = record { host = ap (any finds_fault) journal; kits = kits_fair w l h }

pub peace_moved : (old : WorldValue) (step : Move) (moved : Moved) (new : WorldValue) → Moves old step moved new → AreLinked old → AreLinked new → AreInStep old → AreInStep new → AtPeace old → AtPeace new
peace_moved old step moved new is l after h next peace =
    let m = moves_on old step moved new is l h in
    record {
      host = ap (any finds_fault) m.journal ∙ any-append finds_fault old.journal m.more ∙ ap (λ (b : Bool). b || any finds_fault m.more) peace.host ∙ m.goes.peaceful;
      kits = kits_fair new after next;
    }
