-- One turn of a reader, and many.
use Rattle.std.proofs.Common.{◌≡◌, ◌⊎◌, inl, inr, ⊎_elim, ℕ, ◌+◌, ◌<◌, ◌≤◌, List, [], ◌∷◌, ◌++◌, refl, sym, ap, subst, ◌∙◌, append_assoc, append-nil, length, Bool, true, false, ◌&&◌, Some, None, Option, IsTrue, Result, Ok, Err, arith}
use Rattle.std.specs.List.{list_all}
use Rattle.std.specs.Io.KnownBytes.{Appends}
use Rattle.std.proofs.lemmas.Bool.Decides.{nat_tests}
use Rattle.std.proofs.lemmas.List.Folds.{list_all-append}
use Rattle.ann_outside.specs.Causes.{Rose, StaysUntold}
use Rattle.ann_outside.specs.Told.{SourceTold}
use Rattle.ann_outside.proofs.Telling.{appends_both}
use Rattle.annex_model.specs.Lines.{has_newline, Cut}
use Rattle.threads.specs.Passes.{seen_of}
use Rattle.wire_line.specs.HeldBytes.{first_line, has_line, TakesLine}
use Rattle.kit_serve.specs.Limits.{longest_line, is_short, next_line}
use Rattle.kit_serve.specs.Turns.{Half, IsSpent, Leaves, ReadsOn, end_of, source_half}
use Rattle.kit_serve.specs.declared.end.End.{End}
use Rattle.kit_serve.specs.declared.end.End.TheVariants.{Eof as EndEof, ReadFault as EndReadFault, Bad as EndBad, WriteFault as EndWriteFault, Memory as EndMemory}
use Rattle.kit_serve.proofs.Talks.{leaves_as, leaves_both}
use Rattle.kit_async_model.specs.declared.entry.Entry.{Entry}
use Rattle.kit_async_model.specs.declared.event.Event.{Event}
use Rattle.kit_async_model.specs.declared.event.Event.TheVariants.{Hear, Take as TakeUp, Close as Deafen, Break}
use Rattle.kit_async_model.specs.declared.event.Reply.{Reply}
use Rattle.kit_async_model.specs.declared.event.Reply.TheVariants.{Done, Last, Wait, Over, Odd, Unsaid, Broken, Work, Line}
use Rattle.kit_async_model.specs.Lines.{heard_lines, hears}
use Rattle.kit_async_core.specs.Halls.{KitHall, KitPass}
use Rattle.kit_async_core.proofs.Listening.{reader_hears}
use Rattle.kit_async.specs.declared.work.why.Why.{Why}
use Rattle.kit_async.specs.declared.work.why.Why.TheVariants.{Eof, ReadFault, Long, Memory}
use Rattle.kit_async.specs.declared.work.turn.Turn.{Turn}
use Rattle.kit_async.specs.declared.work.turn.Turn.TheVariants.{Went, Over as TurnOver}
use Rattle.kit_async.specs.Work.Passes.{Stands, Enters, why_of}
use Rattle.kit_async.specs.Work.Reading.{EarValue, Hears, IsQuiet, Reads, ReadingEnds, ReaderRan, ear_of, is_taken, why_ended}
use Rattle.kit_async.proofs.WorkLemmas.Groups.{stands_on, stands_still}
use Rattle.wire_line.proofs.Limits.{short_line}

-- ---- what was heard

hears_taken : (line : List ℕ) (reply : Reply) → is_taken reply ≡ true → hears (Hear line) reply ≡ line ∷ []
hears_taken line Done t = refl
hears_taken line Last t = refl
hears_taken line Wait t = cc
hears_taken line Over t = cc
hears_taken line Odd t = cc
hears_taken line Unsaid t = cc
hears_taken line Broken t = cc
hears_taken line (Work asked) t = cc
hears_taken line (Line l) t = cc

hears_none : (line : List ℕ) (reply : Reply) → is_taken reply ≡ false → hears (Hear line) reply ≡ []
hears_none line Done t = cc
hears_none line Last t = cc
hears_none line Wait t = refl
hears_none line Over t = refl
hears_none line Odd t = refl
hears_none line Unsaid t = refl
hears_none line Broken t = refl
hears_none line (Work asked) t = refl
hears_none line (Line l) t = refl

-- nothing was heard
pub silent : (h : KitHall) (p q : KitPass) (event : Event) (reply : Reply) (held : List ℕ) → Stands h 1 p → Stands h p.number q → Enters h p q event reply → hears event reply ≡ []
    → Hears h p q held held
silent h p q event reply held s t e none = record {
  stands = stands_on h 1 p q s t;
  lines = [];
  heard = reader_hears h p q event reply s.number_is e ∙ ap (λ (ls : List (List ℕ)). heard_lines (seen_of p) ++ ls) none;
  cut = λ bytes before c. subst (λ (ls : List (List ℕ)). Cut bytes ls held) (sym (append-nil before)) c;
  short = refl;
}

-- nothing was told
pub unheard : (h : KitHall) (p q : KitPass) (held : List ℕ) → Stands h 1 p → q ≡ p → Hears h p q held held
unheard h p q held s same = record {
  stands = subst (Stands h 1) (sym same) s;
  lines = [];
  heard = ap (λ (r : KitPass). heard_lines (seen_of r)) same ∙ sym (append-nil (heard_lines (seen_of p)));
  cut = λ bytes before c. subst (λ (ls : List (List ℕ)). Cut bytes ls held) (sym (append-nil before)) c;
  short = refl;
}

pub broken : (h : KitHall) (p q : KitPass) (held : List ℕ) → Stands h 1 p → Stands h p.number q → ((reply : Reply) × Enters h p q Break reply) → Hears h p q held held
broken h p q held s t e = silent h p q Break e.0 held s t e.1 refl

pub closed : (h : KitHall) (p q : KitPass) (reply : Reply) (held : List ℕ) → Stands h 1 p → Stands h p.number q → Enters h p q Deafen reply → Hears h p q held held
closed h p q reply held s t e = silent h p q Deafen reply held s t e refl

-- it looked whether the kit is broken off, by an event that is another's
pub looked : (h : KitHall) (p q : KitPass) (reply : Reply) (held : List ℕ) → Stands h 1 p → Stands h p.number q → Enters h p q TakeUp reply → Hears h p q held held
looked h p q reply held s t e = silent h p q TakeUp reply held s t e refl

-- the first line was told
pub told : (h : KitHall) (p q : KitPass) (reply : Reply) (line held held' : List ℕ) (taken : Bool) → Stands h 1 p → Stands h p.number q → Enters h p q (Hear line) reply
    → IsTrue (has_line longest_line held) → line ≡ first_line held → taken ≡ is_taken reply
    → (taken ≡ true → TakesLine held (first_line held) held') → (taken ≡ false → held' ≡ held) → Hears h p q held held'
told h p q reply line held held' true s t e has first is takes keeps = record {
  stands = stands_on h 1 p q s t;
  lines = line ∷ [];
  heard = reader_hears h p q (Hear line) reply s.number_is e ∙ ap (λ (ls : List (List ℕ)). heard_lines (seen_of p) ++ ls) (hears_taken line reply (sym is));
  cut = λ bytes before c. subst (λ (l : List ℕ). Cut bytes (before ++ l ∷ []) held') (sym first) (takes refl bytes before c);
  short = (let few = subst (λ (l : List ℕ). length l ≤ longest_line) (sym first) (short_line longest_line held has) in
      let this : is_short line ≡ true = grind (arith, nat_tests) in ap (λ (b : Bool). b && true) this);
}
told h p q reply line held held' false s t e has first is takes keeps =
    subst (λ (x : List ℕ). Hears h p q held x) (sym (keeps refl)) (silent h p q (Hear line) reply held s t e (hears_none line reply (sym is)))

-- ---- what was read

pub still : (x : Half) (fault : Type 0) → x.is_open ≡ true → (fault → ⊥) → Leaves x x fault
still x fault o none = record { later = omega arith; cause = λ f. absurd (none f); quiet = λ _. refl; opened = o; number = refl }

no_fault : (why : Option Why) → IsQuiet why → why ≡ Some ReadFault → ⊥
no_fault why (inl n) f = let bad : None ≡ Some ReadFault = sym n ∙ f in absurd cc
no_fault why (inr m) f = let bad : Some Memory ≡ Some ReadFault = sym m ∙ f in absurd cc

quiet_ends : (why : Option Why) (ear : EarValue) → IsQuiet why → ReadingEnds why ear
quiet_ends why ear (inl n) = subst (λ (w : Option Why). ReadingEnds w ear) (sym n) tt
quiet_ends why ear (inr m) = subst (λ (w : Option Why). ReadingEnds w ear) (sym m) tt

-- what was read stands, with these lines
pub hearing_reads : (h : KitHall) (p q : KitPass) (e : EarValue) (held' : List ℕ) → Hears h p q e.held held' → (begun : Option (List ℕ)) → Reads begun (seen_of p) e
    → Reads begun (seen_of q) (record e { held = held' })
hearing_reads h p q e held' k begun r = record {
  bytes = r.bytes;
  gave = r.gave;
  silent = r.silent;
  cut = subst (λ (ls : List (List ℕ)). Cut r.bytes ls held') (sym k.heard) (k.cut r.bytes (heard_lines (seen_of p)) r.cut);
  short = ap (λ (ls : List (List ℕ)). list_all is_short ls) k.heard ∙ list_all-append is_short (heard_lines (seen_of p)) k.lines
      ∙ ap (λ (b : Bool). b && list_all is_short k.lines) r.short ∙ k.short;
}

-- nothing was read, and it ended so
pub ran_for : (h : KitHall) (p q : KitPass) (tells : SourceTold) (held held' : List ℕ) (why : Option Why) → Hears h p q held held' → tells.is_open ≡ true
    → (why ≡ Some ReadFault → ⊥) → ReadingEnds why (ear_of tells held') → ReaderRan h p q (ear_of tells held) (ear_of tells held') why
ran_for h p q tells held held' why k o none ends = record {
  stands = k.stands;
  reads = hearing_reads h p q (ear_of tells held) held' k;
  source = still (source_half tells) (why ≡ Some ReadFault) o none;
  ends = ends;
}

pub ran_quiet : (h : KitHall) (p q : KitPass) (tells : SourceTold) (held held' : List ℕ) (why : Option Why) → Hears h p q held held' → tells.is_open ≡ true
    → IsQuiet why → ReaderRan h p q (ear_of tells held) (ear_of tells held') why
ran_quiet h p q tells held held' why k o quiet =
    ran_for h p q tells held held' why k o (no_fault why quiet) (quiet_ends why (ear_of tells held') quiet)

-- a line that is too long stands first
pub ran_long : (h : KitHall) (p q : KitPass) (tells : SourceTold) (held : List ℕ) (turn : Turn) → ((held : List ℕ) → Hears h p q held held) → tells.is_open ≡ true
    → turn ≡ TurnOver (Some Long) → longest_line < length (next_line held) → ReaderRan h p q (ear_of tells held) (ear_of tells held) (why_of turn)
ran_long h p q tells held turn k o e long =
    subst (λ (t : Turn). ReaderRan h p q (ear_of tells held) (ear_of tells held) (why_of t)) (sym e)
    (ran_for h p q tells held held (Some Long) (k held) o (λ (bad : Some Long ≡ Some ReadFault). absurd cc) long)

-- a read, and then a step that heard nothing
pub read_reads : {T : Type 0} (begun : Option (List ℕ)) (journal : List Entry) (e f : EarValue) (result : Result T End) → ReadsOn e.given f.given e.held f.held result → Reads begun journal e
    → Reads begun journal f
read_reads begun journal e f result r k = record {
  bytes = k.bytes ++ r.piece;
  gave = appends_both begun e.given f.given k.bytes r.piece k.gave r.told;
  silent = λ untold. r.silent (k.silent untold);
  cut = r.cut k.bytes (heard_lines journal) k.cut;
  short = k.short;
}

pub ran_read : {T : Type 0} (h : KitHall) (p q : KitPass) (tells tells' : SourceTold) (held held' : List ℕ) (result : Result T End) (why : Option Why)
    → Hears h p q held' held' → ReadsOn tells.given tells'.given held held' result → Leaves (source_half tells) (source_half tells') (why ≡ Some ReadFault) → ReadingEnds why (ear_of tells' held')
    → ReaderRan h p q (ear_of tells held) (ear_of tells' held') why
ran_read h p q tells tells' held held' result why k r source ends = record {
  stands = k.stands;
  reads = λ begun j. hearing_reads h p q (ear_of tells' held') held' k begun
      (read_reads begun (seen_of p) (ear_of tells held) (ear_of tells' held') result r j);
  source = source;
  ends = ends;
}

-- it read some
pub ran_on : {T : Type 0} (h : KitHall) (p : KitPass) (tells tells' : SourceTold) (held held' : List ℕ) (result : Result T End) → Stands h 1 p
    → ReadsOn tells.given tells'.given held held' result → Leaves (source_half tells) (source_half tells') (end_of result ≡ Some EndReadFault) → (end_of result ≡ Some EndReadFault → ⊥)
    → ReaderRan h p p (ear_of tells held) (ear_of tells' held') None
ran_on h p tells tells' held held' result s r l none =
    ran_read h p p tells tells' held held' result None (unheard h p p held' s refl) r
    (leaves_as (source_half tells) (source_half tells') (end_of result ≡ Some EndReadFault) (None ≡ Some ReadFault) l none (λ (bad : None ≡ Some ReadFault). absurd cc)) tt

-- the host's lines came to an end
pub ran_eof : {T : Type 0} (h : KitHall) (p q : KitPass) (tells tells' : SourceTold) (held held' : List ℕ) (result : Result T End) (turn : Turn)
    → ((held : List ℕ) → Hears h p q held held) → turn ≡ TurnOver (Some Eof) → result ≡ Err EndEof → ReadsOn tells.given tells'.given held held' result → Leaves (source_half tells) (source_half tells') (end_of result ≡ Some EndReadFault)
    → held' ≡ held → has_newline held ≡ false → IsSpent (end_of result) tells'.left → ReaderRan h p q (ear_of tells held) (ear_of tells' held') (why_of turn)
ran_eof {T = T} h p q tells tells' held held' result turn k e is r l same none spent =
    subst (λ (t : Turn). ReaderRan h p q (ear_of tells held) (ear_of tells' held') (why_of t)) (sym e)
    (ran_read h p q tells tells' held held' result (Some Eof) (k held') r
    (leaves_as (source_half tells) (source_half tells') (end_of result ≡ Some EndReadFault) (Some Eof ≡ Some ReadFault) l
    (λ f. let bad : Some EndEof ≡ Some EndReadFault = sym (ap (λ (x : Result T End). end_of x) is) ∙ f in absurd cc) (λ (bad : Some Eof ≡ Some ReadFault). absurd cc))
    (ap has_newline same ∙ none, spent (ap (λ (x : Result T End). end_of x) is)))

-- reading failed
pub ran_fault : {T : Type 0} (h : KitHall) (p q : KitPass) (tells tells' : SourceTold) (held held' : List ℕ) (result : Result T End) (turn : Turn)
    → ((held : List ℕ) → Hears h p q held held) → turn ≡ TurnOver (Some ReadFault) → result ≡ Err EndReadFault → ReadsOn tells.given tells'.given held held' result
    → Leaves (source_half tells) (source_half tells') (end_of result ≡ Some EndReadFault) → held' ≡ held → has_newline held ≡ false
    → ReaderRan h p q (ear_of tells held) (ear_of tells' held') (why_of turn)
ran_fault {T = T} h p q tells tells' held held' result turn k e is r l same none =
    subst (λ (t : Turn). ReaderRan h p q (ear_of tells held) (ear_of tells' held') (why_of t)) (sym e)
    (ran_read h p q tells tells' held held' result (Some ReadFault) (k held') r
    (record { later = l.later; cause = λ f. l.cause (ap (λ (x : Result T End). end_of x) is); quiet = λ no. absurd (no refl); opened = l.opened; number = l.number })
    (ap has_newline same ∙ none))

-- no memory was found for a read
pub ran_memory : {T : Type 0} (h : KitHall) (p q : KitPass) (tells tells' : SourceTold) (held held' : List ℕ) (result : Result T End) (turn : Turn)
    → Hears h p q held' held' → turn ≡ TurnOver (Some Memory) → ReadsOn tells.given tells'.given held held' result → Leaves (source_half tells) (source_half tells') (end_of result ≡ Some EndReadFault)
    → (end_of result ≡ Some EndReadFault → ⊥) → ReaderRan h p q (ear_of tells held) (ear_of tells' held') (why_of turn)
ran_memory h p q tells tells' held held' result turn k e r l none =
    subst (λ (t : Turn). ReaderRan h p q (ear_of tells held) (ear_of tells' held') (why_of t)) (sym e)
    (ran_read h p q tells tells' held held' result (Some Memory) k r
    (leaves_as (source_half tells) (source_half tells') (end_of result ≡ Some EndReadFault) (Some Memory ≡ Some ReadFault) l none (λ (bad : Some Memory ≡ Some ReadFault). absurd cc)) tt)

-- ---- many turns

quiet_source : (x y : Half) → Leaves x y (None ≡ Some ReadFault) → Leaves x y ⊥
quiet_source x y l = record { later = l.later; cause = λ f. absurd f; quiet = λ _. l.quiet (λ (bad : None ≡ Some ReadFault). absurd cc); opened = l.opened; number = l.number }

pub ran_both : (h : KitHall) (p q r : KitPass) (e f g : EarValue) (why : Option Why) → ReaderRan h p q e f None → ReaderRan h q r f g why → ReaderRan h p r e g why
ran_both h p q r e f g why a b = record {
  stands = b.stands;
  reads = λ begun j. b.reads begun (a.reads begun j);
  source = leaves_both e.half f.half g.half (why ≡ Some ReadFault) (quiet_source e.half f.half a.source) b.source;
  ends = b.ends;
}

pub ran_none : (h : KitHall) (p : KitPass) (e : EarValue) → Stands h 1 p → e.half.is_open ≡ true → ReaderRan h p p e e None
ran_none h p e s o = record { stands = s; reads = λ begun r. r; source = still e.half (None ≡ Some ReadFault) o (λ (bad : None ≡ Some ReadFault). absurd cc); ends = tt }

-- ---- the functions

-- no memory was found for what it told, and the kit was broken off
pub untold : (h : KitHall) (p q v : KitPass) (held : List ℕ) → Stands h 1 p → q ≡ p → Stands h q.number v → ((reply : Reply) × Enters h q v Break reply) → Hears h p v held held
untold h p q v held s same t e = subst (λ (x : KitPass). Hears h x v held held) same (broken h q v held (stands_still h 1 p q s same) t e)

-- it ends because no memory was found
pub quiet_stop : (turn : Turn) → turn ≡ TurnOver (Some Memory) → IsQuiet (why_of turn)
quiet_stop turn e = inr (ap why_of e)

pub ran_stopped : (h : KitHall) (p q : KitPass) (tells : SourceTold) (held : List ℕ) (turn : Turn) → Hears h p q held held → tells.is_open ≡ true
    → turn ≡ TurnOver (Some Memory) → ReaderRan h p q (ear_of tells held) (ear_of tells held) (why_of turn)
ran_stopped h p q tells held turn k o e = ran_quiet h p q tells held held (why_of turn) k o (quiet_stop turn e)

pub read_on : {T : Type 0} (result : Result T End) (x : T) → result ≡ Ok x → end_of result ≡ Some EndReadFault → ⊥
read_on {T = T} result x is f =
    let bad : None ≡ Some EndReadFault = sym (ap (λ (r : Result T End). end_of r) is) ∙ f in absurd cc

-- a read that ended otherwise
not_fault : {T : Type 0} (result : Result T End) (end : End) → result ≡ Err end → (end ≡ EndReadFault → ⊥) → end_of result ≡ Some EndReadFault → ⊥
not_fault {T = T} result end is none f =
    let same : Some end ≡ Some EndReadFault = sym (ap (λ (x : Result T End). end_of x) is) ∙ f in
    let bad : end ≡ EndReadFault = cc in none bad

-- no more was read
pub ran_ended : {T : Type 0} (h : KitHall) (p q : KitPass) (tells tells' : SourceTold) (held held' : List ℕ) (result : Result T End) (end : End) (turn : Turn)
    → ((held : List ℕ) → Hears h p q held held) → turn ≡ TurnOver (Some (why_ended end)) → result ≡ Err end → ReadsOn tells.given tells'.given held held' result
    → Leaves (source_half tells) (source_half tells') (end_of result ≡ Some EndReadFault) → held' ≡ held → has_newline held ≡ false → IsSpent (end_of result) tells'.left
    → ReaderRan h p q (ear_of tells held) (ear_of tells' held') (why_of turn)
ran_ended h p q tells tells' held held' result EndEof turn k e is r l same none spent =
    ran_eof h p q tells tells' held held' result turn k e is r l same none spent
ran_ended h p q tells tells' held held' result EndReadFault turn k e is r l same none spent =
    ran_fault h p q tells tells' held held' result turn k e is r l same none
ran_ended h p q tells tells' held held' result EndBad turn k e is r l same none spent =
    ran_memory h p q tells tells' held held' result turn (k held') e r l (not_fault result EndBad is (λ (bad : EndBad ≡ EndReadFault). absurd cc))
ran_ended h p q tells tells' held held' result EndWriteFault turn k e is r l same none spent =
    ran_memory h p q tells tells' held held' result turn (k held') e r l (not_fault result EndWriteFault is (λ (bad : EndWriteFault ≡ EndReadFault). absurd cc))
ran_ended h p q tells tells' held held' result EndMemory turn k e is r l same none spent =
    ran_memory h p q tells tells' held held' result turn (k held') e r l (not_fault result EndMemory is (λ (bad : EndMemory ≡ EndReadFault). absurd cc))

-- a rest changes nothing
pub ran_rested : (h : KitHall) (p q r : KitPass) (e f : EarValue) → ReaderRan h p q e f None → r ≡ q → ReaderRan h p r e f None
ran_rested h p q r e f a same = subst (λ (x : KitPass). ReaderRan h p x e f None) (sym same) a
