-- An ear's half of a wire: what others leave of it, and how it goes on.
use Rattle.std.proofs.Common.{◌≡◌, ℕ, ◌<◌, ◌≤◌, length, arith, List, [], ◌∷◌, ◌++◌, refl, sym, ap, subst, ◌∙◌, Bool, true, false, not, cond, None, Some, Option, append-nil}
use Rattle.std.specs.Prelude.{IfSome, ◌==◌, ◌&&◌, nat_le, option_and_then, find}
use Rattle.std.specs.Option.{option_or}
use Rattle.std.specs.List.{cons_option}
use Rattle.std.specs.Io.KnownBytes.{Appends}
use Rattle.std.proofs.lemmas.Bool.Decides.{nat_tests}
use Rattle.annex_model.specs.Lines.{Cut}
use Rattle.journal_model.specs.declared.verdict.Why.{Why}
use Rattle.journal_model.specs.declared.verdict.Why.TheVariants.{Eof, ReadFault, LongLine, Memory}
use Rattle.journal_model.specs.declared.entry.What.{What}
use Rattle.journal_model.specs.declared.entry.What.TheVariants.{Got, End}
use Rattle.journal_model.specs.declared.entry.Entry.{Entry}
use Rattle.journal_model.specs.Journal.{any, ends, end_why, line_from, is_ended, is_mute, why_of, got_lines}
use Rattle.journal_model.specs.Wires.{RestFits, Wired, Caused, Took, are_short, IsLittle}
use Rattle.journal_model.specs.Limits.{longest_line}
use Rattle.journal_model.specs.Shares.{is_memory, is_heard}
use Rattle.journal_model.specs.Halves.{EarValue, EarWired, MouthValue, MouthWired}
use Rattle.journal_model.proofs.Looks.{each_of-append}
use Rattle.journal_model.proofs.Testing.{all-join}
use Rattle.journal_model.proofs.Soft.{IsSoft, is_soft_why}
use Rattle.journal_model.proofs.Linking.{got_more, why_of-append, why_alone, unended}
use Rattle.ann_key.proofs.Numbers.{same_number as same}
use Rattle.ann_key.proofs.Booleans.{left_false as either_left, right_false as either_right, true_and_false as true_not_false}

-- ---- halves that tell

pub told_grows : (P Q : List ℕ → Type 0) (old new : Option (List ℕ)) (bs : List ℕ) → Appends old new bs → (old ≡ None → new ≡ None)
    → ((t : List ℕ) → P t → Q (t ++ bs)) → IfSome old P → IfSome new Q
told_grows P Q None None bs a s f h = tt
told_grows P Q None (Some y) bs a s f h = let e : Some y ≡ None = s refl in absurd cc
told_grows P Q (Some x) None bs a s f h = absurd a
told_grows P Q (Some x) (Some y) bs a s f h = subst Q (sym a) (f x h)

pub told_maps : (P Q : List ℕ → Type 0) (o : Option (List ℕ)) → ((t : List ℕ) → P t → Q t) → IfSome o P → IfSome o Q
told_maps P Q None f h = tt
told_maps P Q (Some x) f h = f x h

-- ---- what others leave

pub no_gots : (c : ℕ) (more : List Entry) → any (is_heard c) more ≡ false → got_lines more c ≡ []
no_gots c [] h = refl
no_gots c (e ∷ more) h = step e.what (either_left (is_heard c e.what) (any (is_heard c) more) h) (no_gots c more (either_right (is_heard c e.what) (any (is_heard c) more) h))
  where
    step : (w : What) → is_heard c w ≡ false → got_lines more c ≡ [] → cons_option (line_from c w) (got_lines more c) ≡ []
    step (Got child line) h r = rw h r
    step w h r = r

abbrev MemoryOnly : Option Why → Type 0
MemoryOnly o = IfSome o (λ w. is_memory w ≡ true)

memory_only : (c : ℕ) (more : List Entry) → any (is_heard c) more ≡ false → MemoryOnly (why_of more c)
memory_only c [] h = tt
memory_only c (e ∷ more) h = step e.what (either_left (is_heard c e.what) (any (is_heard c) more) h) (memory_only c more (either_right (is_heard c e.what) (any (is_heard c) more) h))
  where
    here : (child : ℕ) (why : Why) → (child == c && not (is_memory why)) ≡ false → (b : Bool) → (child == c) ≡ b → MemoryOnly (why_of more c)
        → MemoryOnly (option_and_then (λ (x : Entry). end_why c x.what) (cond b (Some (record { by = e.by; what = End child why })) (find (λ (x : Entry). ends c x.what) more)))
    here child why h false f r = r
    here child why h true f r = rw f (last (is_memory why) refl (rw f at h))
      where
        last : (b : Bool) → is_memory why ≡ b → not (is_memory why) ≡ false → is_memory why ≡ true
        last true g k = g
        last false g k = let bad : true ≡ false = ap not (sym g) ∙ k in absurd cc

    step : (w : What) → is_heard c w ≡ false → MemoryOnly (why_of more c)
        → MemoryOnly (option_and_then (λ (x : Entry). end_why c x.what) (cond (ends c w) (Some (record { by = e.by; what = w })) (find (λ (x : Entry). ends c x.what) more)))
    step (End child why) h r = here child why h (child == c) refl r
    step w h r = r

fits_on : (o p : Option Why) (held : List ℕ) → MemoryOnly p → IfSome o (λ why. RestFits why held) → IfSome (option_or o p) (λ why. RestFits why held)
fits_on (Some w) p held m h = h
fits_on None None held m h = tt
fits_on None (Some Memory) held m h = tt
fits_on None (Some w) held m h = absurd cc

cause_on : (o p : Option Why) (w : Why) → is_memory w ≡ false → MemoryOnly p → option_or o p ≡ Some w → o ≡ Some w
cause_on (Some v) p w n m e = e
cause_on None None w n m e = absurd cc
cause_on None (Some v) w n m e = let s : v ≡ w = some_same v w e in true_not_false (is_memory w) (subst (λ (x : Why). is_memory x ≡ true) s m) n
  where
    some_same : (x y : Why) → Some x ≡ Some y → x ≡ y
    some_same x y e = cc

-- a stretch in which nothing is known of the child's output
pub ear_apart : (past more : List Entry) (v : EarValue) → any (is_heard v.child) more ≡ false → EarWired past v → EarWired (past ++ more) v
ear_apart past more v none h =
    let c = v.child in
    let only : MemoryOnly (why_of more c) = memory_only c more none in
    let ended : why_of (past ++ more) c ≡ option_or (why_of past c) (why_of more c) = why_of-append past more c in
    let same : got_lines (past ++ more) c ≡ got_lines past c = got_more past more c [] (no_gots c more none) ∙ append-nil (got_lines past c) in
    record {
      heard = told_maps (λ read. Cut read (got_lines past c) v.held) (λ read. Cut read (got_lines (past ++ more) c) v.held) v.given
          (λ read x. subst (λ (ls : List (List ℕ)). Cut read ls v.held) (sym same) x) h.heard;
      short = ap are_short same ∙ h.short;
      little = h.little;
      ended = subst (λ (o : Option Why). IfSome o (λ why. RestFits why v.held)) (sym ended) (fits_on (why_of past c) (why_of more c) v.held only h.ended);
      eof = λ e. h.eof (cause_on (why_of past c) (why_of more c) Eof refl only (sym ended ∙ e));
      fault = λ e. h.fault (cause_on (why_of past c) (why_of more c) ReadFault refl only (sym ended ∙ e));
    }

-- ---- what it does itself

none_some : {A : Type 0} (o : Option Why) (w : Why) → o ≡ None → o ≡ Some w → A
none_some o w n e = let bad : None ≡ Some w = sym n ∙ e in absurd cc

soft_fits : (o : Option Why) (rest : List ℕ) → ((w : Why) → o ≡ Some w → is_soft_why w ≡ true) → IfSome o (λ why. RestFits why rest)
soft_fits None rest h = tt
soft_fits (Some Eof) rest h = let e : is_soft_why Eof ≡ true = h Eof refl in absurd cc
soft_fits (Some ReadFault) rest h = let e : is_soft_why ReadFault ≡ true = h ReadFault refl in absurd cc
soft_fits (Some LongLine) rest h = let e : is_soft_why LongLine ≡ true = h LongLine refl in absurd cc
soft_fits (Some w) rest h = tt

-- a line was fed, and what it makes due follows it
pub ear_got : (past due : List Entry) (by : ℕ) (line held : List ℕ) (v : EarValue) → IsSoft v.child due → is_ended past v.child ≡ false
    → length line ≤ longest_line → length held ≤ length v.held
    → ((bytes : List ℕ) (lines : List (List ℕ)) → Cut bytes lines v.held → Cut bytes (lines ++ line ∷ []) held)
    → EarWired past v → EarWired (past ++ record { by = by; what = Got v.child line } ∷ due) (record v { held = held })
ear_got past due by line held v soft live fits fewer cut h = record {
  heard = told_maps (λ read. Cut read (got_lines past c) v.held) (λ read. Cut read (got_lines (past ++ more) c) held) v.given
      (λ read x. subst (λ (ls : List (List ℕ)). Cut read ls held) (sym (got_more past more c (line ∷ []) gots)) (cut read (got_lines past c) x)) h.heard;
  short = ap are_short (got_more past more c (line ∷ []) gots) ∙ all-join (λ (l : List ℕ). nat_le (length l) longest_line) (got_lines past c) (line ∷ []) h.short (short_line (length line) fits);
  little = omega (arith, fewer, h.little);
  ended = subst (λ (o : Option Why). IfSome o (λ why. RestFits why held)) (sym ended) (soft_fits (why_of due c) held soft.why);
  eof = λ e. absurd (hard Eof refl (soft.why Eof (sym ended ∙ e)));
  fault = λ e. absurd (hard ReadFault refl (soft.why ReadFault (sym ended ∙ e)));
}
  where
    c : ℕ
    c = v.child

    more : List Entry
    more = record { by = by; what = Got v.child line } ∷ due

    short_line : (n : ℕ) → n ≤ longest_line → (nat_le n longest_line && true) ≡ true
    short_line n h = let a : nat_le n longest_line ≡ true = grind (arith, nat_tests) in rw a refl

    gots : got_lines more c ≡ line ∷ []
    gots = rw (same c) (ap (λ (x : List (List ℕ)). line ∷ x) soft.got)

    ended : why_of (past ++ more) c ≡ why_of due c
    ended = why_alone past more c live

    hard : (w : Why) → is_soft_why w ≡ false → is_soft_why w ≡ true → ⊥
    hard w f t = let e : false ≡ true = sym f ∙ t in absurd cc

-- the child was ended
pub ear_stop : (past due : List Entry) (by : ℕ) (why : Why) (v : EarValue) → IsSoft v.child due → is_ended past v.child ≡ false → RestFits why v.held
    → (why ≡ Eof → IfSome v.left (λ bytes. bytes ≡ [])) → (why ≡ ReadFault → 0 < v.faults)
    → EarWired past v → EarWired (past ++ record { by = by; what = End v.child why } ∷ due) v
ear_stop past due by why v soft live fits eof fault h = record {
  heard = told_maps (λ read. Cut read (got_lines past c) v.held) (λ read. Cut read (got_lines (past ++ more) c) v.held) v.given
      (λ read x. subst (λ (ls : List (List ℕ)). Cut read ls v.held) (sym unheard) x) h.heard;
  short = ap are_short unheard ∙ h.short;
  little = h.little;
  ended = subst (λ (o : Option Why). IfSome o (λ w. RestFits w v.held)) (sym ended) fits;
  eof = λ e. eof (some_same why Eof (sym ended ∙ e));
  fault = λ e. fault (some_same why ReadFault (sym ended ∙ e));
}
  where
    c : ℕ
    c = v.child

    more : List Entry
    more = record { by = by; what = End v.child why } ∷ due

    unheard : got_lines (past ++ more) c ≡ got_lines past c
    unheard = got_more past more c [] soft.got ∙ append-nil (got_lines past c)

    ended : why_of (past ++ more) c ≡ Some why
    ended = why_alone past more c live ∙ (rw (same c, same c) refl)

    some_same : (x y : Why) → Some x ≡ Some y → x ≡ y
    some_same x y e = cc

-- more was read of a child that hadn't ended
pub ear_read : (past : List Entry) (piece : List ℕ) (v w : EarValue) → w ≡ record v { given = w.given; left = w.left; faults = w.faults; held = w.held }
    → is_ended past v.child ≡ false → Appends v.given w.given piece → (v.given ≡ None → w.given ≡ None) → IsLittle w.held
    → ((bytes : List ℕ) (lines : List (List ℕ)) → Cut bytes lines v.held → Cut (bytes ++ piece) lines w.held)
    → EarWired past v → EarWired past w
ear_read past piece v w same live grows silent little cut h =
    let none : why_of past v.child ≡ None = unended past v.child live in
    subst (EarWired past) (sym same) (record {
      heard = told_grows (λ read. Cut read (got_lines past v.child) v.held) (λ read. Cut read (got_lines past v.child) w.held) v.given w.given piece grows silent
          (λ read x. cut read (got_lines past v.child) x) h.heard;
      short = h.short;
      little = little;
      ended = subst (λ (o : Option Why). IfSome o (λ y. RestFits y w.held)) (sym none) tt;
      eof = λ e. none_some (why_of past v.child) Eof none e;
      fault = λ e. none_some (why_of past v.child) ReadFault none e;
    })

-- ---- at the start

-- an outlet that gave nothing, where nothing was heard of the child
pub ear_start : (journal : List Entry) (v : EarValue) → got_lines journal v.child ≡ [] → why_of journal v.child ≡ None → v.held ≡ [] → IfSome v.given (λ read. read ≡ []) → EarWired journal v
ear_start journal v gots none held given = record {
  heard = told_maps (λ read. read ≡ []) (λ read. Cut read (got_lines journal v.child) v.held) v.given
      (λ read e. subst (λ (ls : List (List ℕ)). Cut read ls v.held) (sym gots) (subst (λ (h : List ℕ). Cut read [] h) (sym held) (record { whole = e; apart = refl }))) given;
  short = ap are_short gots;
  little = omega (arith, ap (λ (h : List ℕ). length h) held);
  ended = subst (λ (o : Option Why). IfSome o (λ why. RestFits why v.held)) (sym none) tt;
  eof = λ e. none_some (why_of journal v.child) Eof none e;
  fault = λ e. none_some (why_of journal v.child) ReadFault none e;
}

-- ---- a wire

-- what was known of the child's output and input is a wire
pub halves_wire : (journal : List Entry) (e : EarValue) (m : MouthValue) → m.child ≡ e.child → EarWired journal e → MouthWired journal m
    → Wired journal e.child e.given m.taken e.held × Caused journal e.child e.left e.faults m.faults
halves_wire journal e m is h k = (
  record { heard = h.heard; short = h.short; little = h.little; ended = h.ended; took = subst (λ (c : ℕ). IfSome m.taken (Took journal c)) is k.took },
  record { eof = h.eof; read = h.fault; mute = subst (λ (c : ℕ). is_mute journal c ≡ true → 0 < m.faults) is k.fault },
)
