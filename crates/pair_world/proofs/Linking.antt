-- Each move leaves the world linked.
use Rattle.std.proofs.Common.{ℕ, ◌≡◌, ◌+◌, ◌-◌, ◌<◌, ◌≤◌, ◌^◌, zero, suc, Bool, true, false, not, cond, List, [], ◌∷◌, ◌++◌, length, take, drop, get_or, Option, Some, None, refl, sym, ap, subst, ◌∙◌, arith, append_assoc, append-nil, length-append}
use Rattle.std.specs.Prelude.{◌||◌, ◌&&◌, ◌==◌, nat_le, map, codes, is_some}
use Rattle.std.proofs.Math.Seq.{get_or-append_seam}
use Rattle.std.proofs.lemmas.Bool.Decides.{nat_tests}
use Rattle.std.proofs.lemmas.List.{map-append, take-append-drop, length-set, get_or_append_left, get_or-set_same, get_or-set_other, get_or_past}
use Rattle.std.proofs.lemmas.List.Folds.{list_all-append}
use Rattle.annex_model.specs.Lines.{text, has_newline}
use Rattle.annex_model.specs.Messages.{HostMessage, host_reading}
use Rattle.wire_line.specs.HeldBytes.{first_line, after_line}
use Rattle.pair_kit.proofs.Lines.{first_all, first_split}
use Rattle.journal_model.specs.declared.verdict.Why.{Why}
use Rattle.journal_model.specs.declared.verdict.Why.TheVariants.{Eof, LongLine, Full}
use Rattle.journal_model.specs.declared.entry.What.TheVariants.{Start, Sent, Got, End}
use Rattle.journal_model.specs.declared.entry.Entry.{Entry}
use Rattle.journal_model.specs.declared.opening.Opening.{Opening}
use Rattle.journal_model.specs.Journal.{starts, is_started, is_ended, is_full, got_lines, unsent, each_of, writes}
use Rattle.journal_model.specs.Legality.{Legal, count, is_start, is_empty}
use Rattle.journal_model.specs.Wires.{sent_lines}
use Rattle.journal_model.proofs.Looks.{any-append}
use Rattle.journal_model.proofs.Linking.{sent_count, got_more}
use Rattle.journal_model.proofs.Mouths.{lines_same, covered_more}
use Rattle.journal_model.proofs.Fresh.{fresh}
use Rattle.kit_serve.specs.declared.kit.call.Asked.{Asked}
use Rattle.kit_serve.specs.Kit.Kits.{Heard, lines_said, lines_to}
use Rattle.kit_serve.proofs.KitLemmas.Behind.{lines_behind-push}
use Rattle.host_core.specs.declared.event.Event.{Event}
use Rattle.host_core.specs.declared.event.Event.TheVariants.{Got as GotEvent, Stop as StopEvent, Sent as SentEvent}
use Rattle.host_core.specs.declared.event.Reply.{Reply}
use Rattle.host_core.specs.declared.event.Reply.TheVariants.{Done, Gone}
use Rattle.host_core.specs.Steps.{Step, step_of, group_of, append}
use Rattle.host_core.proofs.Stepping.{Legal-step}
use Rattle.pair_kit.specs.Shelves.{Items}
use Rattle.pair_kit.specs.Cues.{settings}
use Rattle.pair_world.specs.declared.step.Move.{Move}
use Rattle.pair_world.specs.declared.step.Move.TheVariants.{Event as EventMove, Write, ToKit, Work, ToHost, Hear, End as EndMove}
use Rattle.pair_world.specs.declared.step.Moved.{Moved}
use Rattle.pair_world.specs.declared.step.Moved.TheVariants.{Did, Not}
use Rattle.pair_kit.specs.declared.taken.Taken.{Taken}
use Rattle.pair_kit.specs.Pairs.{PairValue, heard, is_spelled, are_spelled, taken_lines, said_lines, new_pair, no_pair, is_child, pair_of, with_pair, moved_to_kit, moved_to_host, written_to}
use Rattle.pair_kit.specs.Works.{call_for, is_waiting, next_message, Takes}
use Rattle.pair_kit.specs.Worlds.{WorldValue, IsLinked, AreLinked}
use Rattle.pair_world.specs.Moves.{Moves, IsMade, is_barred, is_odd, is_unended, DoesEvent, DoesWrite, DoesToKit, DoesToHost, DoesWork, DoesHear, DoesEnd, stepped, reply_to, begun_by, line_of, is_amiss, is_silent, is_long, heard_event, left_at}
use Rattle.pair_world.proofs.Journals.{Calm, calm_none, calm_end, calm_got, calm_sent, quiet_stop, Grows, Starts, Stays, grows_event, fed_on, read_on, sent_one, got_one}
use Rattle.pair_kit.proofs.Taking.{heard_more}
use Rattle.ann_key.proofs.Booleans.{or_false, left_false as first_false, right_false as second_false}
use Rattle.wire_line.proofs.Firsts.{no_newline_before as first_whole}
use Rattle.ann_key.proofs.Numbers.{same_number as same}
use Rattle.journal_look.proofs.Across.{text_line}
use Rattle.journal_model.proofs.Across.{count-append}
use Rattle.annex_model.proofs.Across.{text-append}

-- ---- children by their numbers

pub child_low : (pairs : List PairValue) (c : ℕ) → is_child pairs c ≡ true → 0 < c
child_low pairs c h = grind (arith, nat_tests)

child_high : (pairs : List PairValue) (c : ℕ) → is_child pairs c ≡ true → c ≤ length pairs
child_high pairs c h = grind (arith, nat_tests)

pub pair_at : (pairs : List PairValue) (c : ℕ) → 0 < c → pair_of pairs c ≡ get_or pairs (c - 1) no_pair
pair_at pairs c low = go (c == 0) refl
  where
    go : (b : Bool) → (c == 0) ≡ b → cond b no_pair (get_or pairs (c - 1) no_pair) ≡ get_or pairs (c - 1) no_pair
    go false e = refl
    go true e = absurd (grind (arith, nat_tests))

pub set_same : (pairs : List PairValue) (c : ℕ) (p : PairValue) → is_child pairs c ≡ true → pair_of (with_pair pairs c p) c ≡ p
set_same pairs c p k =
    let low = child_low pairs c k in
    let high = child_high pairs c k in
    pair_at (with_pair pairs c p) c low ∙ get_or-set_same pairs (c - 1) p no_pair (omega arith)

pub set_other : (pairs : List PairValue) (c d : ℕ) (p : PairValue) → 0 < c → 0 < d → (c == d) ≡ false → pair_of (with_pair pairs c p) d ≡ pair_of pairs d
set_other pairs c d p low there apart =
    pair_at (with_pair pairs c p) d there
    ∙ get_or-set_other pairs (c - 1) (d - 1) p no_pair (λ e. (let equal : d ≡ c = omega arith in absurd (differ (ap (λ n. c == n) (sym equal) ∙ apart))))
    ∙ sym (pair_at pairs d there)
  where
    differ : (c == c) ≡ false → ⊥
    differ e = let bad : true ≡ false = sym (same c) ∙ e in cc

is_child_set : (pairs : List PairValue) (c d : ℕ) (p : PairValue) → is_child (with_pair pairs c p) d ≡ is_child pairs d
is_child_set pairs c d p = ap (λ (n : ℕ). not (d == 0) && nat_le d n) (length-set pairs (c - 1) p)

linked_on : (past more : List Entry) (c : ℕ) (p : PairValue) → got_lines more c ≡ [] → sent_count more c ≡ 0 → IsLinked past c p → IsLinked (past ++ more) c p
linked_on past more c p got sent h = record { heard = h.heard; fed = fed_on past more c p sent h.fed; read = read_on past more c p got h.read }

-- ---- one child's pair changes, over a stretch that is calm for the others

links_pair : (old new : WorldValue) (c : ℕ) (p : PairValue) (more : List Entry) → AreLinked old → is_child old.pairs c ≡ true
    → new.journal ≡ old.journal ++ more → new.pairs ≡ with_pair old.pairs c p → Legal new.opening new.journal → length new.journal < 2 ^ 64
    → count is_start more ≡ 0 → ((d : ℕ) → is_started more d ≡ false) → ((d : ℕ) → (c == d) ≡ false → Calm d more)
    → IsLinked (old.journal ++ more) c p → AreLinked new
links_pair old new c p more h k journal pairs legal few none started calm linked = record {
  legal = legal;
  few = few;
  numbers = omega (arith, ap (count is_start) journal, count-append old.journal more, none, h.numbers, ap (λ (ps : List PairValue). length ps) pairs, length-set old.pairs (c - 1) p);
  started = λ d.
      ap (λ (j : List Entry). is_started j d) journal ∙ any-append (starts d) old.journal more ∙ ap (λ (b : Bool). is_started old.journal d || b) (started d)
      ∙ or_false (is_started old.journal d) ∙ h.started d ∙ sym (ap (λ (ps : List PairValue). is_child ps d) pairs ∙ is_child_set old.pairs c d p);
  linked = λ d is. subst (λ (j : List Entry). IsLinked j d (pair_of new.pairs d)) (sym journal)
      (subst (λ (ps : List PairValue). IsLinked (old.journal ++ more) d (pair_of ps d)) (sym pairs)
      (one d (sym (is_child_set old.pairs c d p) ∙ (sym (ap (λ (ps : List PairValue). is_child ps d) pairs) ∙ is)) (c == d) refl));
}
  where
    one : (d : ℕ) → is_child old.pairs d ≡ true → (b : Bool) → (c == d) ≡ b → IsLinked (old.journal ++ more) d (pair_of (with_pair old.pairs c p) d)
    one d is true e =
        let equal : c ≡ d = grind (arith, nat_tests) in
        subst (λ (x : ℕ). IsLinked (old.journal ++ more) x (pair_of (with_pair old.pairs c p) x)) equal
        (subst (IsLinked (old.journal ++ more) c) (sym (set_same old.pairs c p k)) linked)
    one d is false e =
        subst (IsLinked (old.journal ++ more) d) (sym (set_other old.pairs c d p (child_low old.pairs c k) (child_low old.pairs d is) e))
        (linked_on old.journal more d (pair_of old.pairs d) (calm d e).got (calm d e).sent (h.linked d is))

-- the same where the journal stays
links_still : (old new : WorldValue) (c : ℕ) (p : PairValue) → AreLinked old → is_child old.pairs c ≡ true
    → new ≡ record old { keys = new.keys; files = new.files; pairs = with_pair old.pairs c p; answers = new.answers } → IsLinked old.journal c p → AreLinked new
links_still old new c p h k is linked =
    let journal : new.journal ≡ old.journal = ap (λ (w : WorldValue). w.journal) is in
    links_pair old new c p [] h k (journal ∙ sym (append-nil old.journal)) (ap (λ (w : WorldValue). w.pairs) is)
    (subst (λ (w : WorldValue). Legal w.opening w.journal) (sym is) h.legal) (subst (λ (w : WorldValue). length w.journal < 2 ^ 64) (sym is) h.few)
    refl (λ d. refl) (λ d e. calm_none d) (subst (λ (j : List Entry). IsLinked j c p) (sym (append-nil old.journal)) linked)

-- ---- bytes that are moved

moved_bytes : (front side pipe : List ℕ) (n : ℕ) → front ++ (side ++ take n pipe) ++ drop n pipe ≡ front ++ side ++ pipe
moved_bytes front side pipe n =
    ap (λ (l : List ℕ). l ++ drop n pipe) (sym (append_assoc front side (take n pipe))) ∙ append_assoc (front ++ side) (take n pipe) (drop n pipe)
    ∙ ap (λ (l : List ℕ). front ++ side ++ l) (take-append-drop n pipe)

linked_to_kit : (journal : List Entry) (c n : ℕ) (p : PairValue) → IsLinked journal c p → IsLinked journal c (moved_to_kit n p)
linked_to_kit journal c n p h = record {
  heard = record { follows = h.heard.follows; spelled = h.heard.spelled };
  fed = record { covered = h.fed.covered; bytes = h.fed.bytes ∙ sym (moved_bytes (text (taken_lines p.taken)) p.at_kit p.to_kit n) };
  read = record { bytes = h.read.bytes };
}

linked_to_host : (journal : List Entry) (c n : ℕ) (p : PairValue) → IsLinked journal c p → IsLinked journal c (moved_to_host n p)
linked_to_host journal c n p h = record {
  heard = record { follows = h.heard.follows; spelled = h.heard.spelled };
  fed = record { covered = h.fed.covered; bytes = h.fed.bytes };
  read = record { bytes = moved_bytes (text (got_lines journal c)) p.at_host p.to_host n ∙ h.read.bytes };
}

-- ---- a line that is written

linked_written : (past : List Entry) (by c : ℕ) (p : PairValue) (w : Option ℕ × List ℕ) (ws : List (Option ℕ × List ℕ)) → unsent past c ≡ w ∷ ws
    → IsLinked past c p → IsLinked (past ++ record { by = by; what = Sent c } ∷ []) c (written_to w.1 p)
linked_written past by c p w ws next h =
    let one : List Entry = record { by = by; what = Sent c } ∷ [] in
    let sent = sent_one past by c w ws next h.fed.covered in
    let front = text (taken_lines p.taken) ++ p.at_kit in
    record {
      heard = record { follows = h.heard.follows; spelled = h.heard.spelled };
      fed = record {
        covered = sent.1;
        bytes =
            ap text sent.0 ∙ text-append (sent_lines past c) (w.1 ∷ []) ∙ ap (λ (l : List ℕ). l ++ (w.1 ++ 10 ∷ [])) h.fed.bytes
            ∙ append_assoc front p.to_kit (w.1 ++ 10 ∷ []) ∙ ap (λ (l : List ℕ). front ++ l) (sym (append_assoc p.to_kit w.1 (10 ∷ [])));
      };
      read = record {
        bytes =
            ap (λ (ls : List (List ℕ)). text ls ++ p.at_host ++ p.to_host) (got_more past one c [] refl ∙ append-nil (got_lines past c)) ∙ h.read.bytes;
      };
    }

-- ---- a line that is taken

-- the text of one line more, before what waits and what is on its way
taken_bytes : (front line rest pipe : List ℕ) → front ++ (line ++ 10 ∷ rest) ++ pipe ≡ front ++ (line ++ 10 ∷ []) ++ rest ++ pipe
taken_bytes front line rest pipe =
    ap (λ (l : List ℕ). front ++ l ++ pipe) (sym (append_assoc line (10 ∷ []) rest)) ∙ ap (λ (l : List ℕ). l ++ pipe) (sym (append_assoc front (line ++ 10 ∷ []) rest))

all_more : (taken : List Taken) (x : Taken) → are_spelled taken ≡ true → is_spelled x ≡ true → are_spelled (taken ++ x ∷ []) ≡ true
all_more taken x a b = list_all-append is_spelled taken (x ∷ []) ∙ ap (λ (p : Bool). p && (is_spelled x && true)) a ∙ ap (λ (p : Bool). p && true) b

linked_taken : (journal : List Entry) (c : ℕ) (keys files : Items) (old new : PairValue) (m : HostMessage) (asked : Option Asked) (answer : Option (List ℕ))
    → has_newline old.at_kit ≡ true → host_reading (first_line old.at_kit) ≡ Some m → Takes keys files old new m asked answer → IsLinked journal c old → IsLinked journal c new
linked_taken journal c keys files old new m asked answer whole reads t h =
    let line = first_line old.at_kit in
    let call = call_for keys files asked in
    let one : Taken = record { line = line; call = call } in
    let e : Heard = record { message = m; call = call } in
    let say = lines_to settings (heard old.taken) e in
    let taken : new.taken ≡ old.taken ++ one ∷ [] = ap (λ (p : PairValue). p.taken) t.goes in
    let front = text (taken_lines old.taken) in
    let said : lines_said settings (heard old.taken ++ e ∷ []) ≡ lines_said settings (heard old.taken) ++ say = lines_behind-push settings [] (heard old.taken) e in
    record {
      heard = record {
        follows = t.follows;
        spelled = ap are_spelled taken ∙ all_more old.taken one h.heard.spelled (ap is_some reads);
      };
      fed = record {
        covered = h.fed.covered;
        bytes =
            h.fed.bytes ∙ ap (λ (l : List ℕ). front ++ l ++ old.to_kit) (first_split old.at_kit whole) ∙ taken_bytes front line (after_line old.at_kit) old.to_kit
            ∙ ap (λ (l : List ℕ). l ++ after_line old.at_kit ++ old.to_kit)
            (sym (text_line (taken_lines old.taken) line) ∙ ap text (sym (map-append (λ (x : Taken). x.line) old.taken (one ∷ []))))
            ∙ sym (ap (λ (p : PairValue). text (taken_lines p.taken) ++ p.at_kit ++ p.to_kit) t.goes);
      };
      read = record {
        bytes =
            ap (λ (p : PairValue). text (got_lines journal c) ++ p.at_host ++ p.to_host) t.goes
            ∙ sym (append_assoc (text (got_lines journal c) ++ old.at_host) old.to_host (text say))
            ∙ ap (λ (l : List ℕ). l ++ text say) h.read.bytes
            ∙ sym (text-append (said_lines old.taken) say)
            ∙ ap (λ (ls : List (List ℕ)). text (codes "VERSION 1" ∷ ls)) (sym said)
            ∙ ap (λ (hs : List Heard). text (codes "VERSION 1" ∷ lines_said settings hs)) (sym (heard_more old.taken line call m reads))
            ∙ ap (λ (ts : List Taken). text (said_lines ts)) (sym taken);
      };
    }

-- ---- a line that is heard

linked_heard : (o : Opening) (past : List Entry) (c : ℕ) (p : PairValue) → has_newline p.at_host ≡ true → IsLinked past c p
    → IsLinked (past ++ group_of o past 0 (Got c (first_line p.at_host))) c (record p { at_host = after_line p.at_host })
linked_heard o past c p whole h =
    let line = first_line p.at_host in
    let more = group_of o past 0 (Got c line) in
    let got = got_one o past 0 c line in
    let front = text (got_lines past c) in
    record {
      heard = record { follows = h.heard.follows; spelled = h.heard.spelled };
      fed = record {
        covered = covered_more past more c got.1 h.fed.covered;
        bytes = ap text (lines_same past more c got.1 h.fed.covered) ∙ h.fed.bytes;
      };
      read = record {
        bytes =
            ap (λ (ls : List (List ℕ)). text ls ++ after_line p.at_host ++ p.to_host) got.0
            ∙ ap (λ (l : List ℕ). l ++ after_line p.at_host ++ p.to_host) (text_line (got_lines past c) line)
            ∙ sym (ap (λ (l : List ℕ). front ++ l ++ p.to_host) (first_split p.at_host whole) ∙ taken_bytes front line (after_line p.at_host) p.to_host)
            ∙ h.read.bytes;
      };
    }

-- ---- the moves

-- a move of child c can be made only where there is such a child
pub none_amiss : (n : ℕ) → is_amiss n [] ≡ true
none_amiss n = grind (arith, nat_tests)

-- with no child of that number, nothing is at its sides
pub no_child : (pairs : List PairValue) (c : ℕ) → is_child pairs c ≡ false → pair_of pairs c ≡ no_pair
no_child pairs c h = go (c == 0) refl
  where
    go : (b : Bool) → (c == 0) ≡ b → cond b no_pair (get_or pairs (c - 1) no_pair) ≡ no_pair
    go true e = refl
    go false e = let past : length pairs ≤ c - 1 = grind (arith, nat_tests) in get_or_past pairs (c - 1) no_pair past

-- so a child whose pipe or side passes a test that nothing passes is there
pub there : (pairs : List PairValue) (c : ℕ) (f : PairValue → Bool) → f no_pair ≡ true → f (pair_of pairs c) ≡ false → is_child pairs c ≡ true
there pairs c f none some = go (is_child pairs c) refl
  where
    go : (b : Bool) → is_child pairs c ≡ b → b ≡ true
    go true e = refl
    go false e = let bad : true ≡ false = sym none ∙ ap f (sym (no_child pairs c e)) ∙ some in cc

-- ---- the journal grows, and the children stay

links_calm : (old new : WorldValue) (more : List Entry) → AreLinked old → new.journal ≡ old.journal ++ more → new.pairs ≡ old.pairs → Legal new.opening new.journal
    → length new.journal < 2 ^ 64 → ((d : ℕ) → Calm d more) → AreLinked new
links_calm old new more h journal pairs legal few calm = record {
  legal = legal;
  few = few;
  numbers = omega (arith, ap (count is_start) journal, count-append old.journal more, (calm 0).starts, h.numbers, ap (λ (ps : List PairValue). length ps) pairs);
  started = λ d.
      ap (λ (j : List Entry). is_started j d) journal ∙ any-append (starts d) old.journal more ∙ ap (λ (b : Bool). is_started old.journal d || b) (calm d).started
      ∙ or_false (is_started old.journal d) ∙ h.started d ∙ sym (ap (λ (ps : List PairValue). is_child ps d) pairs);
  linked = λ d is. subst (λ (j : List Entry). IsLinked j d (pair_of new.pairs d)) (sym journal)
      (subst (λ (ps : List PairValue). IsLinked (old.journal ++ more) d (pair_of ps d)) (sym pairs)
      (linked_on old.journal more d (pair_of old.pairs d) (calm d).got (calm d).sent (h.linked d (sym (ap (λ (ps : List PairValue). is_child ps d) pairs) ∙ is))));
}

abbrev texts : List (Option ℕ × List ℕ) → List (List ℕ)
texts ws = map (λ w. w.1) ws

-- a child that nothing was said of has nothing on its way but its version
linked_new : (o : Opening) (journal : List Entry) (c : ℕ) → Legal o journal → is_started journal c ≡ false → IsLinked journal c new_pair
linked_new o journal c legal none =
    let n = fresh o journal legal c none in
    record {
      heard = record { follows = record { served = tt; prepared = refl; stage = refl }; spelled = refl };
      fed = record {
        covered = omega (arith, n.covers);
        bytes = ap (λ (k : ℕ). text (texts (take k (each_of (writes c) journal)))) n.covers;
      };
      read = record { bytes = ap (λ (ls : List (List ℕ)). text ls ++ [] ++ text (codes "VERSION 1" ∷ [])) n.got };
    }

-- the child after the others
last_pair : (pairs : List PairValue) (p : PairValue) (d : ℕ) → d ≡ length pairs + 1 → pair_of (pairs ++ p ∷ []) d ≡ p
last_pair pairs p d e =
    pair_at (pairs ++ p ∷ []) d (omega (arith, e))
    ∙ ap (λ (k : ℕ). get_or (pairs ++ p ∷ []) k no_pair) (let k : d - 1 ≡ length pairs = omega (arith, e) in k) ∙ get_or-append_seam pairs p [] no_pair

earlier_pair : (pairs : List PairValue) (p : PairValue) (d : ℕ) → is_child pairs d ≡ true → pair_of (pairs ++ p ∷ []) d ≡ pair_of pairs d
earlier_pair pairs p d is =
    let low = child_low pairs d is in
    let high = child_high pairs d is in
    pair_at (pairs ++ p ∷ []) d low ∙ get_or_append_left pairs (p ∷ []) no_pair (d - 1) (omega arith) ∙ sym (pair_at pairs d low)

is_child_more : (pairs : List PairValue) (p : PairValue) (n d : ℕ) → n ≡ length pairs → (is_child pairs d || (n + 1 == d)) ≡ is_child (pairs ++ p ∷ []) d
is_child_more pairs p n d e =
    let longer : length (pairs ++ p ∷ []) ≡ length pairs + 1 = length-append pairs (p ∷ []) in
    let more : (not (d == 0) && nat_le d (length pairs) || (n + 1 == d)) ≡ (not (d == 0) && nat_le d (length pairs + 1)) = grind (arith, nat_tests) in
    more ∙ ap (λ (k : ℕ). not (d == 0) && nat_le d k) (sym longer)

links_start : (old new : WorldValue) (by slot : ℕ) (offer : Bool) → AreLinked old
    → new.journal ≡ old.journal ++ record { by = by; what = Start (count is_start old.journal + 1) slot offer } ∷ [] → new.pairs ≡ old.pairs ++ new_pair ∷ []
    → Legal new.opening new.journal → length new.journal < 2 ^ 64 → AreLinked new
links_start old new by slot offer h journal pairs legal few =
    let n = count is_start old.journal in
    let one : List Entry = record { by = by; what = Start (n + 1) slot offer } ∷ [] in
    record {
      legal = legal;
      few = few;
      numbers = omega (arith, ap (count is_start) journal, count-append old.journal one, h.numbers, ap (λ (ps : List PairValue). length ps) pairs, length-append old.pairs (new_pair ∷ []));
      started = λ d.
          ap (λ (j : List Entry). is_started j d) journal ∙ any-append (starts d) old.journal one ∙ ap (λ (b : Bool). is_started old.journal d || b) (or_false (n + 1 == d))
          ∙ ap (λ (b : Bool). b || (n + 1 == d)) (h.started d) ∙ is_child_more old.pairs new_pair n d h.numbers ∙ sym (ap (λ (ps : List PairValue). is_child ps d) pairs);
      linked = λ d is. subst (λ (j : List Entry). IsLinked j d (pair_of new.pairs d)) (sym journal)
          (subst (λ (ps : List PairValue). IsLinked (old.journal ++ one) d (pair_of ps d)) (sym pairs)
          (each d one refl refl (is_child old.pairs d) refl (is_child_more old.pairs new_pair n d h.numbers ∙ is_child_now d is)));
    }
  where
    is_child_now : (d : ℕ) → is_child new.pairs d ≡ true → is_child (old.pairs ++ new_pair ∷ []) d ≡ true
    is_child_now d is = sym (ap (λ (ps : List PairValue). is_child ps d) pairs) ∙ is

    each : (d : ℕ) (one : List Entry) → got_lines one d ≡ [] → sent_count one d ≡ 0 → (b : Bool) → is_child old.pairs d ≡ b
        → (is_child old.pairs d || (count is_start old.journal + 1 == d)) ≡ true → IsLinked (old.journal ++ one) d (pair_of (old.pairs ++ new_pair ∷ []) d)
    each d one got sent true e is =
        subst (IsLinked (old.journal ++ one) d) (sym (earlier_pair old.pairs new_pair d e)) (linked_on old.journal one d (pair_of old.pairs d) got sent (h.linked d e))
    each d one got sent false e is =
        let here : d ≡ length old.pairs + 1 = number d (sym (ap (λ (b : Bool). b || (count is_start old.journal + 1 == d)) e) ∙ is) in
        subst (IsLinked (old.journal ++ one) d) (sym (last_pair old.pairs new_pair d here))
        (linked_on old.journal one d new_pair got sent (linked_new old.opening old.journal d h.legal (h.started d ∙ e)))
      where
        number : (d : ℕ) → (false || (count is_start old.journal + 1 == d)) ≡ true → d ≡ length old.pairs + 1
        number d is = let e = h.numbers in grind (arith, nat_tests)

-- ---- each move

legal_step : (w : WorldValue) (by : ℕ) (event : Event) → AreLinked w → Legal w.opening (w.journal ++ (step_of w.opening w.journal by event).group)
legal_step w by event h = Legal-step w.opening w.journal by event h.few h.legal

links_event : (old : WorldValue) (by : ℕ) (event : Event) (reply : Reply) (new : WorldValue) → is_barred event ≡ false → DoesEvent old by event reply new
    → AreLinked old → length new.journal < 2 ^ 64 → AreLinked new
links_event old by event reply new barred d h few = go (grows_event old.opening old.journal by old.shut event barred)
  where
    pairs : (ps : List PairValue) → begun_by (reply_to old by event) ≡ ps → new.pairs ≡ old.pairs ++ ps
    pairs ps e = ap (λ (w : WorldValue). w.pairs) d.goes ∙ ap (λ (l : List PairValue). old.pairs ++ l) (ap begun_by d.reply_is ∙ e)

    journal : new.journal ≡ old.journal ++ (step_of old.opening old.journal by event).group
    journal = ap (λ (w : WorldValue). w.journal) d.goes

    legal : Legal new.opening new.journal
    legal = subst (λ (w : WorldValue). Legal w.opening w.journal) (sym d.goes) (legal_step old by event h)

    go : Grows old.opening old.journal by old.shut event → AreLinked new
    go (Starts slot offer begun group) =
        links_start old new by slot offer h (journal ∙ ap (λ (g : List Entry). old.journal ++ g) group) (pairs (new_pair ∷ []) begun) legal few
    go (Stays begun calm) =
        links_calm old new (step_of old.opening old.journal by event).group h journal (pairs [] begun ∙ append-nil old.pairs) legal few calm

links_stop : (old new : WorldValue) (c : ℕ) (why : Why) → new.journal ≡ (stepped old 0 (StopEvent c why)).journal → new.opening ≡ old.opening → new.pairs ≡ old.pairs
    → AreLinked old → length new.journal < 2 ^ 64 → AreLinked new
links_stop old new c why journal opening pairs h few =
    links_calm old new (step_of old.opening old.journal 0 (StopEvent c why)).group h journal pairs
    (subst (λ (o : Opening). Legal o new.journal) (sym opening) (subst (Legal old.opening) (sym journal) (legal_step old 0 (StopEvent c why) h))) few (quiet_stop old.opening old.journal 0 c why).1

drop_none : (n : ℕ) → drop n (let e : List (Option ℕ × List ℕ) = [] in e) ≡ []
drop_none zero = refl
drop_none (suc n) = refl

-- with no child of that number, no line is to be written
pub none_unsent : (w : WorldValue) (c : ℕ) → AreLinked w → is_child w.pairs c ≡ false → unsent w.journal c ≡ []
none_unsent w c h e =
    let n = fresh w.opening w.journal h.legal c (h.started c ∙ e) in
    ap (λ (ws : List (Option ℕ × List ℕ)). drop (sent_count w.journal c) ws) n.written ∙ drop_none (sent_count w.journal c)

-- the next line to the child is in its pipe and covered
links_write : (old : WorldValue) (c : ℕ) (reply : Reply) (new : WorldValue) → is_empty (unsent old.journal c) ≡ false → DoesWrite old c reply new
    → AreLinked old → length new.journal < 2 ^ 64 → AreLinked new
links_write old c reply new some d h few = go (unsent old.journal c) refl
  where
    is_there : (ws : List (Option ℕ × List ℕ)) → unsent old.journal c ≡ ws → is_empty ws ≡ false → (b : Bool) → is_child old.pairs c ≡ b → b ≡ true
    is_there ws e f true k = refl
    is_there ws e f false k = let bad : true ≡ false = ap is_empty (sym (none_unsent old c h k) ∙ e) ∙ f in cc

    go : (ws : List (Option ℕ × List ℕ)) → unsent old.journal c ≡ ws → AreLinked new
    go [] e = let bad : true ≡ false = sym (ap is_empty e) ∙ some in absurd cc
    go (w ∷ ws) e =
        let k : is_child old.pairs c ≡ true = is_there (w ∷ ws) e refl (is_child old.pairs c) refl in
        let group : (step_of old.opening old.journal 0 (SentEvent c)).group ≡ group_of old.opening old.journal 0 (Sent c) = rw e refl in
        let goes : new ≡ record (stepped old 0 (SentEvent c)) { pairs = with_pair old.pairs c (written_to w.1 (pair_of old.pairs c)) } =
        d.goes ∙ ap (λ (l : List (Option ℕ × List ℕ)). let x : WorldValue = record (stepped old 0 (SentEvent c)) { pairs = with_pair old.pairs c (written_to (line_of l) (pair_of old.pairs c)) } in x) e in
        links_pair old new c (written_to w.1 (pair_of old.pairs c)) (group_of old.opening old.journal 0 (Sent c)) h k
        (ap (λ (x : WorldValue). x.journal) goes ∙ ap (λ (g : List Entry). old.journal ++ g) group)
        (ap (λ (x : WorldValue). x.pairs) goes)
        (subst (λ (x : WorldValue). Legal x.opening x.journal) (sym goes) (legal_step old 0 (SentEvent c) h)) few refl (λ x. refl)
        (λ x apart. calm_sent old.opening old.journal x 0 c apart)
        (linked_written old.journal 0 c (pair_of old.pairs c) w ws e (h.linked c k))

-- a message is read only of a whole line
pub message_reads : (side : List ℕ) (m : HostMessage) → next_message side ≡ Some m → (has_newline side ≡ true) × (host_reading (first_line side) ≡ Some m)
message_reads side m e = go (has_newline side) (nat_le (length (first_line side)) 131072) refl e
  where
    go : (a b : Bool) → has_newline side ≡ a → cond (a && b) (host_reading (first_line side)) None ≡ Some m → (has_newline side ≡ true) × (host_reading (first_line side) ≡ Some m)
    go true true k f = (k, f)
    go true false k f = cc
    go false b k f = cc

links_work : (old : WorldValue) (c : ℕ) (m : Option HostMessage) (reply : Reply) (new : WorldValue) → next_message (pair_of old.pairs c).at_kit ≡ m → DoesWork old c m reply new
    → is_child old.pairs c ≡ true → AreLinked old → AreLinked new
links_work old c None reply new e d k h = subst AreLinked (sym d.1) h
links_work old c (Some m) reply new e d k h =
    let t = d.1 in
    let r = message_reads (pair_of old.pairs c).at_kit m e in
    links_still old new c t.pair h k
    (t.goes ∙ ap (λ (w : WorldValue). let x : WorldValue = record old { keys = w.keys; files = w.files; pairs = with_pair old.pairs c t.pair; answers = w.answers } in x) (sym t.goes))
    (linked_taken old.journal c old.keys old.files (pair_of old.pairs c) t.pair m t.asked t.line r.0 r.1 t.takes (h.linked c k))

-- where something is at the host's side and its first line isn't too long, the line is whole
pub not_silent : (side : List ℕ) → is_silent side ≡ false → is_long side ≡ false → has_newline side ≡ true
not_silent side some short = go (has_newline side) refl
  where
    go : (b : Bool) → has_newline side ≡ b → b ≡ true
    go true e = refl
    go false e =
        let all : length (first_line side) ≡ length side = ap (λ (l : List ℕ). length l) (first_all side e) in
        let long : nat_le (length side) 65536 ≡ false = ap (λ (b : Bool). not b && nat_le (length side) 65536) (sym e) ∙ some in
        absurd (grind (arith, nat_tests))

-- the two ways of a line of a live child: it is got, or the journal is full and ends the child
pub step_got : (o : Opening) (past : List Entry) (c : ℕ) (line : List ℕ) (full : Bool) → is_started past c ≡ true → has_newline line ≡ false → is_ended past c ≡ false
    → is_full past ≡ full
    → step_of o past 0 (GotEvent c line) ≡ cond full (append o past 0 (End c Full) (Gone (Some Full))) (append o past 0 (Got c line) Done)
step_got o past c line full s n e f = rw (s, n, e, f) refl

links_got : (old : WorldValue) (c : ℕ) (reply : Reply) (new : WorldValue) (p : PairValue) (full : Bool) → pair_of old.pairs c ≡ p
    → is_long p.at_host ≡ false → has_newline p.at_host ≡ true
    → step_of old.opening old.journal 0 (GotEvent c (first_line p.at_host)) ≡ cond full (append old.opening old.journal 0 (End c Full) (Gone (Some Full))) (append old.opening old.journal 0 (Got c (first_line p.at_host)) Done)
    → reply ≡ (step_of old.opening old.journal 0 (GotEvent c (first_line p.at_host))).reply
    → new ≡ record (stepped old 0 (GotEvent c (first_line p.at_host))) { pairs = with_pair old.pairs c (record p { at_host = left_at reply p.at_host }) }
    → is_child old.pairs c ≡ true → AreLinked old → length new.journal < 2 ^ 64 → AreLinked new
links_got old c reply new p true same short whole step is goes k h few =
    let line = first_line p.at_host in
    let more = group_of old.opening old.journal 0 (End c Full) in
    let group : (step_of old.opening old.journal 0 (GotEvent c line)).group ≡ more = ap (λ (s : Step). s.group) step in
    let gone : reply ≡ Gone (Some Full) = is ∙ ap (λ (s : Step). s.reply) step in
    let left : left_at reply p.at_host ≡ p.at_host = ap (λ (r : Reply). left_at r p.at_host) gone ∙ rw short refl in
    links_pair old new c p more h k (ap (λ (x : WorldValue). x.journal) goes ∙ ap (λ (g : List Entry). old.journal ++ g) group)
    (ap (λ (x : WorldValue). x.pairs) goes ∙ ap (λ (l : List ℕ). with_pair old.pairs c (let q : PairValue = record p { at_host = l } in q)) left)
    (subst (λ (x : WorldValue). Legal x.opening x.journal) (sym goes) (legal_step old 0 (GotEvent c line) h)) few
    (calm_end old.opening old.journal c 0 c Full).starts (λ x. (calm_end old.opening old.journal x 0 c Full).started) (λ x apart. calm_end old.opening old.journal x 0 c Full)
    (let calm = calm_end old.opening old.journal c 0 c Full in linked_on old.journal more c p calm.got calm.sent (subst (IsLinked old.journal c) same (h.linked c k)))
links_got old c reply new p false same short whole step is goes k h few =
    let line = first_line p.at_host in
    let more = group_of old.opening old.journal 0 (Got c line) in
    let group : (step_of old.opening old.journal 0 (GotEvent c line)).group ≡ more = ap (λ (s : Step). s.group) step in
    let done : reply ≡ Done = is ∙ ap (λ (s : Step). s.reply) step in
    let left : left_at reply p.at_host ≡ after_line p.at_host = ap (λ (r : Reply). left_at r p.at_host) done ∙ rw short refl in
    let got = got_one old.opening old.journal 0 c line in
    links_pair old new c (record p { at_host = after_line p.at_host }) more h k (ap (λ (x : WorldValue). x.journal) goes ∙ ap (λ (g : List Entry). old.journal ++ g) group)
    (ap (λ (x : WorldValue). x.pairs) goes ∙ ap (λ (l : List ℕ). with_pair old.pairs c (let q : PairValue = record p { at_host = l } in q)) left)
    (subst (λ (x : WorldValue). Legal x.opening x.journal) (sym goes) (legal_step old 0 (GotEvent c line) h)) few
    got.2 got.3 (λ x apart. calm_got old.opening old.journal x 0 c line apart)
    (linked_heard old.opening old.journal c p whole (subst (IsLinked old.journal c) same (h.linked c k)))

links_hear : (old : WorldValue) (c : ℕ) (reply : Reply) (new : WorldValue) → is_ended old.journal c ≡ false → is_silent (pair_of old.pairs c).at_host ≡ false
    → DoesHear old c reply new → is_child old.pairs c ≡ true → AreLinked old → length new.journal < 2 ^ 64 → AreLinked new
links_hear old c reply new live some d k h few = by_length (is_long (pair_of old.pairs c).at_host) refl
  where
    by_length : (b : Bool) → is_long (pair_of old.pairs c).at_host ≡ b → AreLinked new
    by_length true long =
        let p = pair_of old.pairs c in
        let goes : new ≡ record (stepped old 0 (StopEvent c LongLine)) { pairs = with_pair old.pairs c (record p { at_host = p.at_host }) } = d.goes ∙ rw long refl in
        let more = (step_of old.opening old.journal 0 (StopEvent c LongLine)).group in
        let calm = (quiet_stop old.opening old.journal 0 c LongLine).1 in
        links_pair old new c p more h k (ap (λ (x : WorldValue). x.journal) goes) (ap (λ (x : WorldValue). x.pairs) goes)
        (subst (λ (x : WorldValue). Legal x.opening x.journal) (sym goes) (legal_step old 0 (StopEvent c LongLine) h)) few (calm c).starts (λ x. (calm x).started) (λ x apart. calm x)
        (linked_on old.journal more c p (calm c).got (calm c).sent (h.linked c k))
    by_length false short =
        let p = pair_of old.pairs c in
        let whole : has_newline p.at_host ≡ true = not_silent p.at_host some short in
        let event : heard_event c p.at_host ≡ GotEvent c (first_line p.at_host) = rw short refl in
        links_got old c reply new p (is_full old.journal) refl short whole
        (step_got old.opening old.journal c (first_line p.at_host) (is_full old.journal) (h.started c ∙ k) (first_whole p.at_host) live refl)
        (d.reply_is ∙ ap (λ (e : Event). reply_to old 0 e) event)
        (d.goes ∙ ap (λ (e : Event). let x : WorldValue = record (stepped old 0 e) { pairs = with_pair old.pairs c (record p { at_host = left_at reply p.at_host }) } in x) event)
        k h few

-- ---- all moves

by_made : (b : Bool) (old : WorldValue) (Does : Reply → WorldValue → Type 0) (moved : Moved) (new : WorldValue) → IsMade b old Does moved new → AreLinked old
    → ((reply : Reply) → b ≡ false → Does reply new → AreLinked new) → AreLinked new
by_made true old Does Not new is h f = subst AreLinked (sym is) h
by_made true old Does (Did reply) new is h f = absurd is
by_made false old Does Not new is h f = absurd is
by_made false old Does (Did reply) new is h f = f reply refl is

pub links_moved : (old : WorldValue) (step : Move) (moved : Moved) (new : WorldValue) → Moves old step moved new → AreLinked old → length new.journal < 2 ^ 64 → AreLinked new
links_moved old (EventMove by event) moved new is h few =
    by_made (is_barred event || is_odd (reply_to old by event)) old (DoesEvent old by event) moved new is h
    (λ reply b d. links_event old by event reply new (first_false (is_barred event) (is_odd (reply_to old by event)) b) d h few)
links_moved old (Write c) moved new is h few =
    by_made (is_empty (unsent old.journal c) || is_ended old.journal c) old (DoesWrite old c) moved new is h
    (λ reply b d. links_write old c reply new (first_false (is_empty (unsent old.journal c)) (is_ended old.journal c) b) d h few)
links_moved old (ToKit c n) moved new is h few =
    by_made (is_amiss n (pair_of old.pairs c).to_kit) old (DoesToKit old c n) moved new is h
    (λ reply b d.
    (let k = there old.pairs c (λ p. is_amiss n p.to_kit) (none_amiss n) b in
    links_still old new c (moved_to_kit n (pair_of old.pairs c)) h k
    (d.goes ∙ ap (λ (w : WorldValue). let x : WorldValue = record old { keys = w.keys; files = w.files; pairs = with_pair old.pairs c (moved_to_kit n (pair_of old.pairs c)); answers = w.answers } in x) (sym d.goes))
    (linked_to_kit old.journal c n (pair_of old.pairs c) (h.linked c k))))
links_moved old (Work c) moved new is h few =
    by_made (is_waiting (pair_of old.pairs c).at_kit) old (DoesWork old c (next_message (pair_of old.pairs c).at_kit)) moved new is h
    (λ reply b d. links_work old c (next_message (pair_of old.pairs c).at_kit) reply new refl d (there old.pairs c (λ p. is_waiting p.at_kit) refl b) h)
links_moved old (ToHost c n) moved new is h few =
    by_made (is_amiss n (pair_of old.pairs c).to_host) old (DoesToHost old c n) moved new is h
    (λ reply b d.
    (let k = there old.pairs c (λ p. is_amiss n p.to_host) (none_amiss n) b in
    links_still old new c (moved_to_host n (pair_of old.pairs c)) h k
    (d.goes ∙ ap (λ (w : WorldValue). let x : WorldValue = record old { keys = w.keys; files = w.files; pairs = with_pair old.pairs c (moved_to_host n (pair_of old.pairs c)); answers = w.answers } in x) (sym d.goes))
    (linked_to_host old.journal c n (pair_of old.pairs c) (h.linked c k))))
links_moved old (Hear c) moved new is h few =
    by_made (is_ended old.journal c || is_silent (pair_of old.pairs c).at_host) old (DoesHear old c) moved new is h
    (λ reply b d.
    (let live = first_false (is_ended old.journal c) (is_silent (pair_of old.pairs c).at_host) b in
    let some = second_false (is_ended old.journal c) (is_silent (pair_of old.pairs c).at_host) b in
    links_hear old c reply new live some d (there old.pairs c (λ p. is_silent p.at_host) refl some) h few))
links_moved old (EndMove c) moved new is h few =
    by_made (is_unended old c) old (DoesEnd old c) moved new is h
    (λ reply b d. links_stop old new c Eof (ap (λ (w : WorldValue). w.journal) d.goes) (ap (λ (w : WorldValue). w.opening) d.goes) (ap (λ (w : WorldValue). w.pairs) d.goes) h few)

-- a world with no child is linked
pub links_empty : (w : WorldValue) → w.journal ≡ [] → w.pairs ≡ [] → AreLinked w
links_empty w journal pairs = record {
  legal = subst (Legal w.opening) (sym journal) (record { stands = tt; nothing_due = refl });
  few = omega (arith, ap (λ (j : List Entry). length j) journal);
  numbers = ap (count is_start) journal ∙ sym (ap (λ (ps : List PairValue). length ps) pairs);
  started = λ c. ap (λ (j : List Entry). is_started j c) journal ∙ sym (none c);
  linked = λ c is. (let bad : true ≡ false = sym is ∙ none c in absurd cc);
}
  where
    nobody : (c : ℕ) → (not (c == 0) && nat_le c 0) ≡ false
    nobody c = grind (arith, nat_tests)

    none : (c : ℕ) → is_child w.pairs c ≡ false
    none c = ap (λ (ps : List PairValue). is_child ps c) pairs ∙ nobody c
