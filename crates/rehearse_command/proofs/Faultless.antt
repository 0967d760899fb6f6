-- Where the halves of all children count no fault, the journal tells of none.
use Rattle.std.proofs.Common.{◌≡◌, ◌≤◌, ◌<◌, ℕ, suc, ◌+◌, List, [], ◌∷◌, ◌++◌, refl, sym, ap, subst, ◌∙◌, Bool, true, false, not, cond, None, Some, Option, arith}
use Rattle.std.specs.Prelude.{◌-◌, ◌^◌, ◌==◌, ◌&&◌, ◌||◌, All, filter, min}
use Rattle.std.specs.List.{AllByRecursion, list_all, list_any, cons_option}
use Rattle.std.specs.Option.{option_or}
use Rattle.std.proofs.lemmas.List.Elements.{recursion_from_All}
use Rattle.ann_outside.specs.Starts.{Starts}
use Rattle.journal_model.specs.declared.verdict.Why.{Why}
use Rattle.journal_model.specs.declared.verdict.Why.TheVariants.{Eof, ReadFault, LongLine, Full, Memory, Closed, Foul, Error, Version}
use Rattle.journal_model.specs.declared.verdict.Verdict.{Verdict}
use Rattle.journal_model.specs.declared.entry.What.{What}
use Rattle.journal_model.specs.declared.entry.What.TheVariants.{Claim, Start, NoStart, Ask, Put, Sent, Mute, End, Verdict as Settled, Lost, Answer as Answered, Note as Noted}
use Rattle.journal_model.specs.declared.entry.Entry.{Entry}
use Rattle.journal_model.specs.declared.opening.Opening.{Opening}
use Rattle.journal_model.specs.Due.{due_after, due_by, made_by}
use Rattle.journal_model.specs.Journal.{any, ends, is_ended, is_live, is_mute, is_started, mutes, starts, why_of}
use Rattle.journal_model.specs.Legality.{Legal, count, may_come, may_stop}
use Rattle.journal_model.proofs.Fresh.{fresh}
use Rattle.journal_model.proofs.Growing.{Near, Legal-induction}
use Rattle.journal_model.proofs.Linking.{why_alone, why_of-append}
use Rattle.journal_model.proofs.Looks.{any-append}
use Rattle.journal_model.proofs.Soft.{is_soft}
use Rattle.child_life.specs.End.Programs.{RoseBy, is_failed_start}
use Rattle.child_link.specs.Wires.{WireValue}
use Rattle.child_life.specs.End.Wires.{AreWires, IsWire, came, came_in}
use Rattle.rehearse_command.specs.Rehearsals.{IsQuiet, is_fault}
use Rattle.ann_key.proofs.Booleans.{true_and_false as not_both, left_false as either_left, right_false as either_right}
use Rattle.journal_model.proofs.Bounds.{due_soft}
use Rattle.std.proofs.lemmas.Bool.{and_parts as both, eqb-true as same_number}
use Rattle.ann_key.proofs.Numbers.{same_number as same}

-- ---- an end by a fault of reading

abbrev pub is_read_fault : What → Bool
is_read_fault (End child ReadFault) = true
is_read_fault w = false

soft_quiet : (by : ℕ) (ws : List What) → list_all is_soft ws ≡ true → any is_read_fault (made_by by ws) ≡ false
soft_quiet by [] h = refl
soft_quiet by (w ∷ ws) h = let t = both (is_soft w) (list_all is_soft ws) h in rw (one w t.0, soft_quiet by ws t.1) refl
  where
    one : (w : What) → is_soft w ≡ true → is_read_fault w ≡ false
    one (End child ReadFault) s = absurd cc
    one (End child Eof) s = refl
    one (End child LongLine) s = refl
    one (End child Full) s = refl
    one (End child Memory) s = refl
    one (End child Closed) s = refl
    one (End child (Foul at)) s = refl
    one (End child (Error at)) s = refl
    one (End child (Version at)) s = refl
    one w s = refl

first_why : (a b : Option Why) (why : Why) → a ≡ Some why → option_or a b ≡ Some why
first_why a b why h = rw h refl

-- where no child ended by it, no entry ends one so
pub no_read_fault : (o : Opening) (journal : List Entry) → Legal o journal → ((c : ℕ) → why_of journal c ≡ Some ReadFault → ⊥) → any is_read_fault journal ≡ false
no_read_fault o journal legal =
    Legal-induction o (λ past. ((c : ℕ) → why_of past c ≡ Some ReadFault → ⊥) → any is_read_fault past ≡ false) (λ none. refl) step journal legal
  where
    step : (p : List Entry) (e : Entry) → Near o p → (((c : ℕ) → why_of p c ≡ Some ReadFault → ⊥) → any is_read_fault p ≡ false) → may_come o p e.by e.what ≡ true
        → ((c : ℕ) → why_of (p ++ e ∷ due_after o p e) c ≡ Some ReadFault → ⊥) → any is_read_fault (p ++ e ∷ due_after o p e) ≡ false
    step p e l before may none =
        any-append is_read_fault p (e ∷ due_after o p e)
        ∙ rw (before (λ c h. none c (why_of-append p (e ∷ due_after o p e) c ∙ first_why (why_of p c) (why_of (e ∷ due_after o p e) c) ReadFault h)), here e.what refl, soft_quiet e.by (due_by o p e.what) (due_soft o p e.what)) refl
      where
        here : (w : What) → e.what ≡ w → is_read_fault w ≡ false
        here (End child ReadFault) is =
            let may' : may_come o p e.by (End child ReadFault) ≡ true = subst (λ (x : What). may_come o p e.by x ≡ true) is may in
            let live = both (is_live p child) (may_stop p child ReadFault) may' in
            let unended : not (is_ended p child) ≡ true = (both (is_started p child) (not (is_ended p child)) live.0).1 in
            absurd (none child (why_alone p (e ∷ due_after o p e) child (not_true (is_ended p child) unended) ∙ ends_so e.what is))
          where
            not_true : (b : Bool) → not b ≡ true → b ≡ false
            not_true true h = absurd cc
            not_true false h = refl

            ends_so : (w : What) → w ≡ End child ReadFault → why_of (record { by = e.by; what = w } ∷ due_after o p e) child ≡ Some ReadFault
            ends_so w h = subst (λ (x : What). why_of (record { by = e.by; what = x } ∷ due_after o p e) child ≡ Some ReadFault) (sym h) (rw (same child) (ap (λ (b : Bool). cond {A = Option Why} b (Some ReadFault) None) (same child)))
        here (End child Eof) is = refl
        here (End child LongLine) is = refl
        here (End child Full) is = refl
        here (End child Memory) is = refl
        here (End child Closed) is = refl
        here (End child (Foul at)) is = refl
        here (End child (Error at)) is = refl
        here (End child (Version at)) is = refl
        here w is = refl

-- ---- a mute

abbrev pub is_muting : What → Bool
is_muting (Mute child) = true
is_muting w = false

pub no_mute : (journal : List Entry) → ((c : ℕ) → is_mute journal c ≡ false) → any is_muting journal ≡ false
no_mute [] none = refl
no_mute (e ∷ journal) none = rw (here e.what (λ c. either_left (mutes c e.what) (is_mute journal c) (none c)), no_mute journal (λ c. either_right (mutes c e.what) (is_mute journal c) (none c))) refl
  where
    here : (w : What) → ((c : ℕ) → mutes c w ≡ false) → is_muting w ≡ false
    here (Mute child) h = not_both (child == child) (same child) (h child)
    here w h = refl

-- ---- all of them

pub none_of_all : (journal : List Entry) → any is_failed_start journal ≡ false → any is_muting journal ≡ false → any is_read_fault journal ≡ false → any is_fault journal ≡ false
none_of_all [] a b c = refl
none_of_all (e ∷ journal) a b c =
    rw (
      here e.what (either_left (is_failed_start e.what) (any is_failed_start journal) a) (either_left (is_muting e.what) (any is_muting journal) b) (either_left (is_read_fault e.what) (any is_read_fault journal) c),
      none_of_all journal (either_right (is_failed_start e.what) (any is_failed_start journal) a) (either_right (is_muting e.what) (any is_muting journal) b) (either_right (is_read_fault e.what) (any is_read_fault journal) c),
    ) refl
  where
    here : (w : What) → is_failed_start w ≡ false → is_muting w ≡ false → is_read_fault w ≡ false → is_fault w ≡ false
    here (NoStart slot) x y z = absurd cc
    here (Mute child) x y z = absurd cc
    here (End child ReadFault) x y z = absurd cc
    here (End child Eof) x y z = refl
    here (End child LongLine) x y z = refl
    here (End child Full) x y z = refl
    here (End child Memory) x y z = refl
    here (End child Closed) x y z = refl
    here (End child (Foul at)) x y z = refl
    here (End child (Error at)) x y z = refl
    here (End child (Version at)) x y z = refl
    here w x y z = refl

-- ---- the wires

abbrev pub has_child : ℕ → List (Option ℕ) → Bool
has_child c [] = false
has_child c (None ∷ cs) = has_child c cs
has_child c (Some d ∷ cs) = d == c || has_child c cs

pub came_of : (journal : List Entry) (c : ℕ) → is_started journal c ≡ has_child c (came journal)
came_of [] c = refl
came_of (e ∷ journal) c = here e.what (came_of journal c)
  where
    here : (w : What) → is_started journal c ≡ has_child c (came journal) → (starts c w || is_started journal c) ≡ has_child c (cons_option (came_in w) (came journal))
    here (Start child slot offer) h = ap (λ (b : Bool). child == c || b) h
    here (NoStart slot) h = h
    here w h = h

abbrev pub IsSilent : List Entry → ℕ → Type 0
IsSilent journal c = (why_of journal c ≡ Some ReadFault → ⊥) × (is_mute journal c ≡ false)

silent : (starts : Option Starts) (journal : List Entry) (n : ℕ) (wire : WireValue) → IsQuiet wire → IsWire starts journal n wire → IsSilent journal wire.child
silent starts journal n wire quiet is =
    ((λ h. let more : 0 < wire.read_faults = is.caused.read h in let bad : 0 < 0 = subst (λ (k : ℕ). 0 < k) quiet.0 more in omega (arith, bad)), muted (is_mute journal wire.child) refl)
  where
    muted : (b : Bool) → is_mute journal wire.child ≡ b → is_mute journal wire.child ≡ false
    muted false h = h
    muted true h = let more : 0 < wire.write_faults = is.caused.mute h in let bad : 0 < 0 = subst (λ (k : ℕ). 0 < k) quiet.1 more in absurd (let no : ⊥ = omega (arith, bad) in no)

pub wires_silent : (starts : Option Starts) (journal : List Entry) (n : ℕ) (cs : List (Option ℕ)) (wires : List WireValue) → AreWires starts journal n cs wires → AllByRecursion IsQuiet wires
    → (c : ℕ) → has_child c cs ≡ true → IsSilent journal c
wires_silent starts journal n [] wires h quiet c there = absurd (let bad : false ≡ true = there in cc)
wires_silent starts journal n (None ∷ cs) wires h quiet c there = wires_silent starts journal (n + 1) cs wires h quiet c there
wires_silent starts journal n (Some d ∷ cs) [] h quiet c there = absurd h
wires_silent starts journal n (Some d ∷ cs) (wire ∷ wires) h quiet c there = here (d == c) refl (λ k. wires_silent starts journal (n + 1) cs wires h.2 quiet.1 c k)
  where
    here : (b : Bool) → (d == c) ≡ b → (has_child c cs ≡ true → IsSilent journal c) → IsSilent journal c
    here true e rest = subst (IsSilent journal) (h.0 ∙ same_number d c e) (silent starts journal (n + 1) wire quiet.0 h.1)
    here false e rest = rest (subst (λ (b : Bool). (b || has_child c cs) ≡ true) e there)

-- ---- the starts

-- what counts none isn't there
none_counted : (p : What → Bool) (xs : List Entry) → count p xs ≡ 0 → any p xs ≡ false
none_counted p [] h = refl
none_counted p (e ∷ xs) h = here (p e.what) refl (none_counted p xs)
  where
    here : (b : Bool) → p e.what ≡ b → (count p xs ≡ 0 → any p xs ≡ false) → any p (e ∷ xs) ≡ false
    here true is rest =
        let more : count p (e ∷ xs) ≡ suc (count p xs) = rw is refl in
        absurd (let no : ⊥ = omega (arith, more, h) in no)
    here false is rest =
        let same : count p (e ∷ xs) ≡ count p xs = rw is refl in
        rw (is, rest (sym same ∙ h)) refl

-- a count of faults that stays 0 counted no failed start
none_failed : (journal : List Entry) (before after : ℕ) → RoseBy (count is_failed_start journal) before after → before ≡ 0 → after ≡ 0 → any is_failed_start journal ≡ false
none_failed journal before after rose first last =
    none_counted is_failed_start journal (let n = count is_failed_start journal in let more : min (before + n) (2 ^ 64 - 1) ≤ after = rose in omega (arith, more, first, last))

-- ---- the journal

pub faultless : (o : Opening) (journal : List Entry) (starts : Option Starts) (wires : List WireValue) (before after : ℕ) → Legal o journal → AreWires starts journal 0 (came journal) wires → All IsQuiet wires
    → RoseBy (count is_failed_start journal) before after → before ≡ 0 → after ≡ 0 → any is_fault journal ≡ false
faultless o journal starts wires before after legal laid quiet rose first last =
    none_of_all journal (none_failed journal before after rose first last) (no_mute journal (λ c. (each c).1)) (no_read_fault o journal legal (λ c. (each c).0))
  where
    each : (c : ℕ) → IsSilent journal c
    each c = here (is_started journal c) refl
      where
        here : (b : Bool) → is_started journal c ≡ b → IsSilent journal c
        here true e = wires_silent starts journal 0 (came journal) wires laid (recursion_from_All IsQuiet wires quiet) c (sym (came_of journal c) ∙ e)
        here false e =
            let nothing = fresh o journal legal c e in
            ((λ h. let bad : None ≡ Some ReadFault = sym nothing.ends ∙ h in absurd cc), nothing.mutes)
