-- What taking an input byte by byte keeps.
use Rattle.std.proofs.Common.{◌≡◌, ℕ, ◌+◌, ◌<◌, ◌≤◌, Bool, true, false, not, List, [], ◌∷◌, ◌++◌, Option, Some, None, Result, Ok, Err, length, refl, sym, ap, subst, ◌∙◌, arith, append_assoc, append-nil, length-append}
use Rattle.std.specs.Prelude.{◌==◌, ◌||◌, ◌&&◌}
use Rattle.std.specs.List.{list_all}
use Rattle.std.proofs.lemmas.Bool.{and_from}
use Rattle.std.proofs.lemmas.Bool.Decides.{nat_tests}
use Rattle.std.proofs.lemmas.List.Folds.{list_any-append, list_all-append}
use Rattle.annex_model.specs.Lines.{text, has_newline, Cut}
use Rattle.journal_look.specs.declared.journal.Journal.{Journal}
use Rattle.journal_model.specs.declared.opening.Opening.{Opening}
use Rattle.cli_words.specs.TaskInput.InputLines.{lines_of, with_rest}
use Rattle.audit_command.specs.Inputs.{passes, lines_within, IsRefused}
use Rattle.audit_command.specs.Intakes.{IsWithin, IsPast, Took, TookBy}
use Rattle.audit_command.specs.Standing.{Stands}
use Rattle.audit_command.specs.Steps.{Comes, Ends, IsRefusedBehind}
use Rattle.audit_command.specs.declared.intake.Intake.{Intake}
use Rattle.audit_command.specs.declared.lines.Lines.{Lines}
use Rattle.audit_command.specs.declared.limits.Limits.{Limits}
use Rattle.audit_command.specs.declared.error.AuditError.{AuditError}
use Rattle.audit_command.specs.declared.error.AuditError.TheVariants.{Entry, Cut as CutText, Failed, NoMemory}
use Rattle.audit_command.proofs.Limiting.{passes_bytes, within_bytes, passes_lines, within_lines, all_are, passes_none, within_none}
use Rattle.journal_look.proofs.Across.{text_line as text_more}

-- ---- lines and a rest, one byte longer

module _ (bytes : List ℕ) (lines : List (List ℕ)) (rest : List ℕ) (cut : Cut bytes lines rest) where
  cut_byte : (b : ℕ) → Cut (bytes ++ b ∷ []) lines (rest ++ b ∷ [])
  cut_byte b = record { whole = ap (λ (bs : List ℕ). bs ++ b ∷ []) cut.whole ∙ append_assoc (text lines) rest (b ∷ []); apart = cut.apart }

  cut_end : has_newline rest ≡ false → Cut (bytes ++ 10 ∷ []) (lines ++ rest ∷ []) []
  cut_end ended = record {
    whole =
        ap (λ (bs : List ℕ). bs ++ 10 ∷ []) cut.whole ∙ append_assoc (text lines) rest (10 ∷ [])
        ∙ sym (text_more lines rest) ∙ sym (append-nil (text (lines ++ rest ∷ [])));
    apart =
        list_all-append (λ (l : List ℕ). not (has_newline l)) lines (rest ∷ [])
        ∙ and_from (list_all (λ (l : List ℕ). not (has_newline l)) lines) (list_all (λ (l : List ℕ). not (has_newline l)) (rest ∷ [])) cut.apart
        (ap (λ (s : Bool). not s && true) ended);
  }

no_newline : (rest : List ℕ) (b : ℕ) → has_newline rest ≡ false → (b == 10) ≡ false → has_newline (rest ++ b ∷ []) ≡ false
no_newline rest b h k =
    list_any-append (λ (c : ℕ). c == 10) rest (b ∷ []) ∙ ap (λ (s : Bool). s || ((b == 10) || false)) h ∙ ap (λ (s : Bool). s || false) k

-- ---- one byte

-- how many bytes and lines there may be, and which number the line has, stay while nothing is passed
module _ (limits : Limits) (bytes : List ℕ) (old new : Intake) (b : ℕ) (w : IsWithin limits bytes old) where
  count_byte : length (bytes ++ b ∷ []) ≡ length bytes + 1
  count_byte = length-append bytes (b ∷ [])

  pub byte_held : old.bytes < limits.bytes → old.number ≤ limits.lines → (b == 10) ≡ false → new.number ≡ old.number → new.bytes ≡ old.bytes + 1
      → Stands w.lines (w.rest ++ b ∷ []) new.lines → IsWithin limits (bytes ++ b ∷ []) new
  byte_held below within other number size stands =
      let count = count_byte in
      let size_was = w.size in
      let number_was = w.number in record {
        lines = w.lines;
        rest = w.rest ++ b ∷ [];
        cut = cut_byte bytes w.lines w.rest w.cut b;
        ended = no_newline w.rest b w.ended other;
        number = number ∙ w.number;
        size = omega arith;
        few = w.few;
        small = omega arith;
        full = λ e. absurd (omega arith);
        stands = stands;
      }

  pub line_ended : old.bytes < limits.bytes → old.number ≤ limits.lines → b ≡ 10 → new.number ≡ old.number + 1 → new.bytes ≡ old.bytes + 1
      → Stands (w.lines ++ w.rest ∷ []) [] new.lines → IsWithin limits (bytes ++ b ∷ []) new
  line_ended below within end number size stands =
      let count = count_byte in
      let size_was = w.size in
      let number_was = w.number in
      let long = length-append w.lines (w.rest ∷ []) in
      let P : ℕ → Type 0 = λ c. Cut (bytes ++ c ∷ []) (w.lines ++ w.rest ∷ []) [] in record {
        lines = w.lines ++ w.rest ∷ [];
        rest = [];
        cut = subst P (sym end) (cut_end bytes w.lines w.rest w.cut w.ended);
        ended = refl;
        number = omega arith;
        size = omega arith;
        few = omega arith;
        small = omega arith;
        full = λ e. refl;
        stands = stands;
      }

  -- a limit is passed
  refused_for : (lines : List (List ℕ)) (all : List (List ℕ)) (number : ℕ) → all ≡ lines → IsRefused lines true number → IsRefused all true number
  refused_for lines all number e h = let P : List (List ℕ) → Type 0 = λ l. IsRefused l true number in subst P (sym e) h

  one_byte : (more : List ℕ) → (bytes ++ b ∷ []) ++ more ≡ bytes ++ b ∷ more
  one_byte more = append_assoc bytes (b ∷ []) more

  pub past_bytes : (number : ℕ) → limits.bytes ≤ old.bytes → new.lines.bad ≡ Some number → IsRefused w.lines true number → IsPast limits (bytes ++ b ∷ []) new
  past_bytes number over bad refused =
      let full : length bytes ≡ limits.bytes = (let size_was = w.size in let small = w.small in omega arith) in record {
        number = number;
        bad = bad;
        passed = λ more. ap (passes limits) (one_byte more) ∙ passes_bytes limits bytes b more full;
        refused = λ more.
            refused_for w.lines (lines_within limits ((bytes ++ b ∷ []) ++ more)) number
            (ap (lines_within limits) (one_byte more) ∙ within_bytes limits bytes b more full w.lines w.rest w.cut w.ended w.few) refused;
      }

  pub past_lines : (number : ℕ) → limits.lines < old.number → new.lines.bad ≡ Some number → IsRefused w.lines true number → IsPast limits (bytes ++ b ∷ []) new
  past_lines number over bad refused =
      let full : length w.lines ≡ limits.lines = (let number_was = w.number in let few = w.few in omega arith) in
      let P : List ℕ → Type 0 = λ r. Cut bytes w.lines r in
      let cut : Cut bytes w.lines [] = subst P (w.full full) w.cut in record {
        number = number;
        bad = bad;
        passed = λ more. ap (passes limits) (one_byte more) ∙ passes_lines limits bytes w.lines cut full b more;
        refused = λ more.
            refused_for w.lines (lines_within limits ((bytes ++ b ∷ []) ++ more)) number
            (ap (lines_within limits) (one_byte more) ∙ within_lines limits bytes w.lines cut full b more w.small) refused;
      }

-- what follows where a limit was passed changes nothing
pub past_more : (limits : Limits) (bytes more : List ℕ) (k : Intake) → IsPast limits bytes k → IsPast limits (bytes ++ more) k
past_more limits bytes more k p = record {
  number = p.number;
  bad = p.bad;
  passed = λ rest. ap (passes limits) (append_assoc bytes more rest) ∙ p.passed (more ++ rest);
  refused = λ rest.
      (let P : List ℕ → Type 0 = λ bs. IsRefused (lines_within limits bs) true p.number in
      subst P (sym (append_assoc bytes more rest)) (p.refused (more ++ rest)));
}

-- ---- the end

-- where a limit was passed
pub comes_past : (limits : Limits) (bytes more : List ℕ) (k : Intake) → IsPast limits bytes k → (r : Result (Opening × Journal) AuditError) → ((n : ℕ) → k.lines.bad ≡ Some n → r ≡ Err (Entry n))
    → Comes limits (bytes ++ more) r
comes_past limits bytes more k p r h =
    let P : Result (Opening × Journal) AuditError → Type 0 = Comes limits (bytes ++ more) in
    let Q : Bool → Type 0 = λ s. IsRefused (lines_within limits (bytes ++ more)) s p.number in
    subst P (sym (h p.number p.bad)) (subst Q (sym (p.passed more)) (p.refused more))

-- where none was, and nothing is left
module _ (limits : Limits) (bytes : List ℕ) (k : Intake) (w : IsWithin limits bytes k) where
  none : passes limits bytes ≡ false
  none = passes_none limits bytes w.lines w.rest w.cut w.ended w.small w.few w.full

  all : lines_of true bytes ≡ with_rest w.lines w.rest
  all = all_are limits bytes w.lines w.rest w.cut w.ended w.small w.few w.full

  pub comes_within : (r : Result (Opening × Journal) AuditError) → Ends (with_rest w.lines w.rest) r → Comes limits bytes r
  comes_within (Ok (opening, journal)) h = (none, let P : List (List ℕ) → Type 0 = λ l. Ends l (Ok (opening, journal)) in subst P (sym all) h)
  comes_within (Err (Entry number)) h =
      let P : List (List ℕ) → Type 0 = λ l. IsRefused l false number in
      let Q : Bool → Type 0 = λ s. IsRefused (lines_within limits bytes) s number in
      subst Q (sym none) (subst P (sym (within_none limits bytes w.lines w.rest w.cut w.ended w.small w.few w.full)) h)
  comes_within (Err (CutText number)) h = (none, let P : List (List ℕ) → Type 0 = λ l. Ends l (Err (CutText number)) in subst P (sym all) h)
  comes_within (Err Failed) h = absurd h
  comes_within (Err NoMemory) h = tt

-- ---- as the code has it

pub within : (limits : Limits) (bytes : List ℕ) (k : Intake) → k.past ≡ false → Took limits bytes k → IsWithin limits bytes k
within limits bytes k e t = let P : Bool → Type 0 = λ p. TookBy p limits bytes k in subst P e t

pub past : (limits : Limits) (bytes : List ℕ) (k : Intake) → k.past ≡ true → Took limits bytes k → IsPast limits bytes k
past limits bytes k e t = let P : Bool → Type 0 = λ p. TookBy p limits bytes k in subst P e t

took_within : (limits : Limits) (bytes : List ℕ) (k : Intake) → k.past ≡ false → IsWithin limits bytes k → Took limits bytes k
took_within limits bytes k e w = let P : Bool → Type 0 = λ p. TookBy p limits bytes k in subst P (sym e) w

took_past : (limits : Limits) (bytes : List ℕ) (k : Intake) → k.past ≡ true → IsPast limits bytes k → Took limits bytes k
took_past limits bytes k e p = let P : Bool → Type 0 = λ b. TookBy b limits bytes k in subst P (sym e) p

pub took_nothing : (limits : Limits) (k : Intake) → k.past ≡ false → k.number ≡ 1 → k.bytes ≡ 0 → Stands [] [] k.lines → Took limits [] k
took_nothing limits k e n b s =
    took_within limits [] k e (record {
      lines = [];
      rest = [];
      cut = record { whole = refl; apart = refl };
      ended = refl;
      number = n;
      size = b;
      few = omega arith;
      small = omega arith;
      full = λ h. refl;
      stands = s;
    })

pub took_on : (limits : Limits) (bytes more : List ℕ) (k : Intake) → k.past ≡ true → Took limits bytes k → Took limits (bytes ++ more) k
took_on limits bytes more k e t = took_past limits (bytes ++ more) k e (past_more limits bytes more k (past limits bytes k e t))

-- what a limit that is passed says of the line
abbrev pub Refuses : Intake → Option ℕ → Type 0
Refuses old bad = (lines : List (List ℕ)) (rest : List ℕ) → Stands lines rest old.lines → old.number ≡ length lines + 1 → IsRefusedBehind lines bad

refused_of : (lines : List (List ℕ)) (bad : Option ℕ) → IsRefusedBehind lines bad → (n : ℕ) × (bad ≡ Some n) × IsRefused lines true n
refused_of lines None h = absurd h
refused_of lines (Some n) h = (n, refl, h)

module _ (limits : Limits) (bytes : List ℕ) (old new : Intake) (b : ℕ) (was : old.past ≡ false) where
  pub took_past_bytes : limits.bytes ≤ old.bytes → new.past ≡ true → Refuses old new.lines.bad → Took limits bytes old → Took limits (bytes ++ b ∷ []) new
  took_past_bytes over is refuses t =
      let w = within limits bytes old was t in
      let r = refused_of w.lines new.lines.bad (refuses w.lines w.rest w.stands w.number) in
      took_past limits (bytes ++ b ∷ []) new is (past_bytes limits bytes old new b w r.0 over r.1 r.2)

  pub took_past_lines : limits.lines < old.number → new.past ≡ true → Refuses old new.lines.bad → Took limits bytes old → Took limits (bytes ++ b ∷ []) new
  took_past_lines over is refuses t =
      let w = within limits bytes old was t in
      let r = refused_of w.lines new.lines.bad (refuses w.lines w.rest w.stands w.number) in
      took_past limits (bytes ++ b ∷ []) new is (past_lines limits bytes old new b w r.0 over r.1 r.2)

  pub took_byte : old.bytes < limits.bytes → old.number ≤ limits.lines → (b ≡ 10 → ⊥) → new.past ≡ false → new.number ≡ old.number → new.bytes ≡ old.bytes + 1
      → ((lines : List (List ℕ)) (rest : List ℕ) → Stands lines rest old.lines → Stands lines (rest ++ b ∷ []) new.lines) → Took limits bytes old → Took limits (bytes ++ b ∷ []) new
  took_byte below few other is number size stands t =
      let w = within limits bytes old was t in
      let no : (b == 10) ≡ false = grind (arith, nat_tests) in
      took_within limits (bytes ++ b ∷ []) new is (byte_held limits bytes old new b w below few no number size (stands w.lines w.rest w.stands))

  pub took_end : old.bytes < limits.bytes → old.number ≤ limits.lines → b ≡ 10 → new.past ≡ false → new.number ≡ old.number + 1 → new.bytes ≡ old.bytes + 1
      → ((lines : List (List ℕ)) (rest : List ℕ) → Stands lines rest old.lines → Stands (lines ++ rest ∷ []) [] new.lines) → Took limits bytes old → Took limits (bytes ++ b ∷ []) new
  took_end below few end is number size stands t =
      let w = within limits bytes old was t in
      took_within limits (bytes ++ b ∷ []) new is (line_ended limits bytes old new b w below few end number size (stands w.lines w.rest w.stands))

pub ends_past : (limits : Limits) (bytes more : List ℕ) (k : Intake) (r : Result (Opening × Journal) AuditError) → k.past ≡ true → Took limits bytes k
    → ((n : ℕ) → k.lines.bad ≡ Some n → r ≡ Err (Entry n)) → Comes limits (bytes ++ more) r
ends_past limits bytes more k r e t h = comes_past limits bytes more k (past limits bytes k e t) r h

pub ends_within : (limits : Limits) (bytes more : List ℕ) (k : Intake) (last : Lines) (r : Result (Opening × Journal) AuditError) → k.past ≡ false → Took limits bytes k
    → ((lines : List (List ℕ)) (rest : List ℕ) → Stands lines rest k.lines → Stands (with_rest lines rest) [] last) → ((lines : List (List ℕ)) → Stands lines [] last → Ends lines r)
    → more ≡ [] → Comes limits (bytes ++ more) r
ends_within limits bytes more k last r e t ended ends none =
    let w = within limits bytes k e t in
    let P : List ℕ → Type 0 = λ bs. Comes limits bs r in
    subst P (sym (ap (λ (m : List ℕ). bytes ++ m) none ∙ append-nil bytes))
    (comes_within limits bytes k w r (ends (with_rest w.lines w.rest) (ended w.lines w.rest w.stands)))
