-- One turn more, and the end.
use Rattle.std.proofs.Common.{◌≡◌, ℕ, ◌+◌, ◌<◌, ◌≤◌, ◌==◌, suc, cond, false, List, [], ◌∷◌, ◌++◌, length, take, Option, Some, None, Result, Ok, Err, OnOk, IfErr, IsTrue, refl, sym, ap, ◌∙◌, subst, append_assoc}
use Rattle.std.specs.Io.KnownBytes.{Appends}
use Rattle.std.proofs.lemmas.List.{append-nil}
use Rattle.std.proofs.Math.Seq.{take-append-add}
use Rattle.ann_outside.proofs.Telling.{appends_both}
use Rattle.annex_model.specs.Lines.{has_newline}
use Rattle.wire_line.specs.HeldBytes.{has_line, first_line, TakesLine}
use Rattle.plain_lines.specs.declared.carry.end.End.{End}
use Rattle.plain_lines.specs.declared.carry.end.End.TheVariants.{Eof, Long, ReadFault, WriteFault, Memory}
use Rattle.plain_lines.specs.Carry.Carries.{longest_line, Passing, AllPass, passed_text, text_passed, IsEnd, IsWritten, Told, Carried, Gains, Going, Carries}
use Rattle.plain_lines.specs.Carry.Turns.{ReadsOn, Writes, Falters, Passes}
use Rattle.ann_key.proofs.Lists.{appends_nothing}
use Rattle.wire_line.proofs.Limits.{short_line, short_push}

-- ---- a read

pub going_read : (P : Passing) (begun : Told) (given given' taken : Option (List ℕ)) (held held' : List ℕ)
    → ReadsOn given given' held held' → Going P begun given taken held → Going P begun given' taken held'
going_read P begun given given' taken held held' r g = record {
  bytes = g.bytes ++ r.piece;
  lines = g.lines;
  passed = g.passed;
  gains = record {
    gave = appends_both begun.given given given' g.bytes r.piece g.gains.gave r.told;
    gave_silent = λ untold. r.silent (g.gains.gave_silent untold);
    took = g.gains.took;
    took_silent = g.gains.took_silent;
  };
  carried = record { cut = r.cut g.bytes g.lines g.carried.cut; short = g.carried.short; pass = g.carried.pass };
}

-- ---- a line

pass_push : (P : Passing) (lines : List (List ℕ)) (passed : List (Option (List ℕ))) (line : List ℕ) (p : Option (List ℕ))
    → AllPass P lines passed → P line p → AllPass P (lines ++ line ∷ []) (passed ++ p ∷ [])
pass_push P [] [] line p all this = (this, tt)
pass_push P [] (q ∷ qs) line p all this = absurd all
pass_push P (l ∷ ls) [] line p all this = absurd all
pass_push P (l ∷ ls) (q ∷ qs) line p all this = (all.0, pass_push P ls qs line p all.1 this)

text_push : (passed : List (Option (List ℕ))) (p : Option (List ℕ)) → text_passed passed ++ passed_text p ≡ text_passed (passed ++ p ∷ [])
text_push [] p = sym (append-nil (passed_text p))
text_push (q ∷ qs) p = append_assoc (passed_text q) (text_passed qs) (passed_text p) ∙ ap (λ (l : List ℕ). passed_text q ++ l) (text_push qs p)

carried_push : (P : Passing) (bytes : List ℕ) (lines : List (List ℕ)) (held held' : List ℕ) (passed : List (Option (List ℕ))) (line : List ℕ) (p : Option (List ℕ))
    → Carried P bytes lines held passed → TakesLine held line held' → length line ≤ longest_line → P line p
    → Carried P bytes (lines ++ line ∷ []) held' (passed ++ p ∷ [])
carried_push P bytes lines held held' passed line p c takes fits may = record {
  cut = takes bytes lines c.cut;
  short = short_push longest_line lines line c.short fits;
  pass = pass_push P lines passed line p c.pass may;
}

gains_push : (begun : Told) (given taken taken' : Option (List ℕ)) (bytes out more : List ℕ)
    → Gains begun (record { given = given; taken = taken }) bytes out → Appends taken taken' more → (taken ≡ None → taken' ≡ None)
    → Gains begun (record { given = given; taken = taken' }) bytes (out ++ more)
gains_push begun given taken taken' bytes out more g took silent = record {
  gave = g.gave;
  gave_silent = g.gave_silent;
  took = appends_both begun.taken taken taken' out more g.took took;
  took_silent = λ untold. silent (g.took_silent untold);
}

going_writes : (P : Passing) (begun : Told) (given taken taken' : Option (List ℕ)) (held held' line : List ℕ)
    → Writes P taken taken' line → TakesLine held line held' → length line ≤ longest_line
    → Going P begun given taken held → Going P begun given taken' held'
going_writes P begun given taken taken' held held' line w takes fits g = record {
  bytes = g.bytes;
  lines = g.lines ++ line ∷ [];
  passed = g.passed ++ w.passed ∷ [];
  gains = subst (λ (o : List ℕ). Gains begun (record { given = given; taken = taken' }) g.bytes o) (text_push g.passed w.passed)
      (gains_push begun given taken taken' g.bytes (text_passed g.passed) (passed_text w.passed) g.gains w.took w.silent);
  carried = carried_push P g.bytes g.lines held held' g.passed line w.passed g.carried takes fits w.may;
}

-- ---- the end

-- nothing more came of it
ended_now : (P : Passing) (begun : Told) (given taken taken' : Option (List ℕ)) (held : List ℕ) (end : End)
    → Going P begun given taken held → taken' ≡ taken → ((out : List ℕ) → IsWritten end out out) → IsEnd end held
    → Carries P begun (record { given = given; taken = taken' }) end
ended_now P begun given taken taken' held end g same written ends = record {
  bytes = g.bytes;
  lines = g.lines;
  rest = held;
  passed = g.passed;
  out = text_passed g.passed;
  gains = record {
    gave = g.gains.gave;
    gave_silent = g.gains.gave_silent;
    took = subst (λ (t : Option (List ℕ)). Appends begun.taken t (text_passed g.passed)) (sym same) g.gains.took;
    took_silent = λ untold. same ∙ g.gains.took_silent untold;
  };
  carried = g.carried;
  written = written (text_passed g.passed);
  ends = ends;
}

falters_end : (P : Passing) (begun : Told) (given taken taken' : Option (List ℕ)) (held held' line : List ℕ)
    → Falters P taken taken' line → TakesLine held line held' → length line ≤ longest_line
    → Going P begun given taken held → Carries P begun (record { given = given; taken = taken' }) WriteFault
falters_end P begun given taken taken' held held' line f takes fits g = record {
  bytes = g.bytes;
  lines = g.lines ++ line ∷ [];
  rest = held';
  passed = g.passed ++ f.passed ∷ [];
  out = text_passed g.passed ++ take f.n (passed_text f.passed);
  gains = gains_push begun given taken taken' g.bytes (text_passed g.passed) (take f.n (passed_text f.passed)) g.gains f.took f.silent;
  carried = carried_push P g.bytes g.lines held held' g.passed line f.passed g.carried takes fits f.may;
  written = (
    length (text_passed g.passed) + f.n,
    sym (take-append-add (text_passed g.passed) (passed_text f.passed) f.n) ∙ ap (take (length (text_passed g.passed) + f.n)) (text_push g.passed f.passed),
  );
  ends = tt;
}

-- ---- a turn

pub line_goes : {T : Type 0} (P : Passing) (given taken taken' : Option (List ℕ)) (held held' : List ℕ) (result : Result T End)
    → Passes P taken taken' (first_line held) result → TakesLine held (first_line held) held' → IsTrue (has_line longest_line held)
    → OnOk result ((begun : Told) → Going P begun given taken held → Going P begun given taken' held')
line_goes P given taken taken' held held' (Ok x) w takes has = λ begun g.
    going_writes P begun given taken taken' held held' (first_line held) w takes (short_line longest_line held has) g
line_goes P given taken taken' held held' (Err e) w takes has = tt

pub line_ends : {T : Type 0} (P : Passing) (given taken taken' : Option (List ℕ)) (held held' : List ℕ) (result : Result T End)
    → Passes P taken taken' (first_line held) result → TakesLine held (first_line held) held' → IsTrue (has_line longest_line held)
    → IfErr result (λ end. (begun : Told) → Going P begun given taken held → Carries P begun (record { given = given; taken = taken' }) end)
line_ends P given taken taken' held held' (Ok x) w takes has = tt
line_ends P given taken taken' held held' (Err WriteFault) f takes has = λ begun g.
    falters_end P begun given taken taken' held held' (first_line held) f takes (short_line longest_line held has) g
line_ends P given taken taken' held held' (Err Memory) same takes has = λ begun g.
    ended_now P begun given taken taken' held Memory g same (λ out. refl) tt
line_ends P given taken taken' held held' (Err Eof) w takes has = absurd w
line_ends P given taken taken' held held' (Err Long) w takes has = absurd w
line_ends P given taken taken' held held' (Err ReadFault) w takes has = absurd w

pub long_ends : (P : Passing) (given taken : Option (List ℕ)) (held : List ℕ) → longest_line < length (first_line held)
    → (begun : Told) → Going P begun given taken held → Carries P begun (record { given = given; taken = taken }) Long
long_ends P given taken held long begun g = ended_now P begun given taken taken held Long g refl (λ out. refl) long

pub read_goes : {T E : Type 0} (P : Passing) (given given' taken : Option (List ℕ)) (held held' : List ℕ) (result : Result T E)
    → ReadsOn given given' held held'
    → OnOk result ((begun : Told) → Going P begun given taken held → Going P begun given' taken held')
read_goes P given given' taken held held' (Ok x) r = λ begun g. going_read P begun given given' taken held held' r g
read_goes P given given' taken held held' (Err e) r = tt

pub read_ends : {T : Type 0} (P : Passing) (given given' taken : Option (List ℕ)) (held held' : List ℕ) (result : Result T End)
    → ReadsOn given given' held held' → IfErr result (λ _. held' ≡ held) → has_newline held ≡ false
    → (result ≡ Err Long → ⊥) → (result ≡ Err WriteFault → ⊥)
    → IfErr result (λ end. (begun : Told) → Going P begun given taken held → Carries P begun (record { given = given'; taken = taken }) end)
read_ends P given given' taken held held' (Ok x) r kept none not_long not_write = tt
read_ends P given given' taken held held' (Err Eof) r kept none not_long not_write = λ begun g.
    ended_now P begun given' taken taken held' Eof (going_read P begun given given' taken held held' r g) refl (λ out. refl) (ap has_newline kept ∙ none)
read_ends P given given' taken held held' (Err ReadFault) r kept none not_long not_write = λ begun g.
    ended_now P begun given' taken taken held' ReadFault (going_read P begun given given' taken held held' r g) refl (λ out. refl) (ap has_newline kept ∙ none)
read_ends P given given' taken held held' (Err Memory) r kept none not_long not_write = λ begun g.
    ended_now P begun given' taken taken held' Memory (going_read P begun given given' taken held held' r g) refl (λ out. refl) tt
read_ends P given given' taken held held' (Err Long) r kept none not_long not_write = absurd (not_long refl)
read_ends P given given' taken held held' (Err WriteFault) r kept none not_long not_write = absurd (not_write refl)

-- ---- the whole

-- no more turns are taken
pub going_stops : (P : Passing) (given taken : Option (List ℕ)) (held : List ℕ) (begun : Told)
    → Going P begun given taken held → Carries P begun (record { given = given; taken = taken }) Memory
going_stops P given taken held begun g = ended_now P begun given taken taken held Memory g refl (λ out. refl) tt

-- nothing was read
pub going_begins : (P : Passing) (given taken : Option (List ℕ)) (held : List ℕ) → held ≡ [] → Going P (record { given = given; taken = taken }) given taken held
going_begins P given taken held empty = record {
  bytes = [];
  lines = [];
  passed = [];
  gains = record { gave = appends_nothing given; gave_silent = λ untold. untold; took = appends_nothing taken; took_silent = λ untold. untold };
  carried = record { cut = record { whole = sym empty; apart = refl }; short = refl; pass = tt };
}
