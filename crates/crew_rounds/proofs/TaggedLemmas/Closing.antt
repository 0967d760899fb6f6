-- The hall of a round over a tagged child is closed.
use Rattle.ann_outside.specs.Told.{DeskTold}
use Rattle.std.proofs.Common.{◌≡◌, ℕ, suc, ◌+◌, List, [], ◌∷◌, ◌++◌, true, ◌==◌, refl, sym, ap, subst, ◌∙◌, Some, length, arith, append-nil, slice_get, eq-eqb}
use Rattle.std.specs.Prelude.{All}
use Rattle.std.specs.List.{range_with_len}
use Rattle.std.proofs.lemmas.List.Elements.{All-nil, All-cons, All-head, All-tail}
use Rattle.threads.specs.declared.view.Link.{Link}
use Rattle.threads.specs.Log.{flat, groups_by}
use Rattle.threads.specs.Passes.{HallValue, HasAllOf, IsPassOf}
use Rattle.threads.proofs.Logs.{get-from_all}
use Rattle.journal_model.specs.declared.entry.Entry.{Entry}
use Rattle.journal_model.specs.declared.opening.Opening.{Opening}
use Rattle.crew_work.specs.Laws.Laws.{GoesOn, MayBeginTagged, Over, numbers_of}
use Rattle.crew_work.specs.Laws.Rounds.{CorePass, LinkValue}
use Rattle.crew_work.proofs.LawsLemmas.Halls.{AllHave, have}
use Rattle.task_model.specs.declared.setup.Setup.{Setup}
use Rattle.crew_rounds.specs.Tagged.Crewing.{AllManned, WorkerTells}
use Rattle.crew_rounds.specs.Tagged.TaggedRounds.{TaggedLeaves, desks_of, passes_of}
use Rattle.crew_rounds.proofs.TaggedLemmas.TaggedRounds.{tagged_closes}
use Rattle.crew_rounds.specs.declared.tagged.outcome.Outcome.{Outcome}
use Rattle.crew_rounds.specs.declared.tagged.outcome.Outcome.TheVariants.{Done, NoMemory, NoThreads}
use Rattle.crew_rounds.specs.Tagged.Outcomes.{IfDone, IfKept}
use Rattle.crew_rounds.specs.Tagged.Tagged.{AreFresh, CrewLeft, TaggedCan}

-- ---- nothing was done

unlinked : (h : HallValue Entry Opening) (first : ℕ) (ps : List CorePass) → AreFresh h first ps → All (λ (p : CorePass). p.links ≡ []) ps
unlinked h first [] all = All-nil (λ (p : CorePass). p.links ≡ [])
unlinked h first (p ∷ ps) all = All-cons (λ (p : CorePass). p.links ≡ []) p ps all.0.0.none (unlinked h (first + 1) ps all.1)

-- a hall whose passes are fresh has no log
pub kept_same : (h : HallValue Entry Opening) (first : ℕ) (ps : List CorePass) (final : List Entry) (fixed : Opening) → Over h ps final fixed → AreFresh h first ps → final ≡ h.start
kept_same h first ps final fixed over fresh =
    over.0.is ∙ go over.0.log (have ps over.0.log over.0.once) (get-from_all (HasAllOf over.0.log) ps over.0.each)
  where
    linked : (k : Link Entry) (ks : List (Link Entry)) (p : CorePass) → p.number ≡ k.by → p.links ≡ [] → groups_by p.number (k ∷ ks) ≡ groups_by p.number p.links → ⊥
    linked k ks p is none own =
        let mine : (k.by == p.number) ≡ true = eq-eqb k.by p.number (sym is) in
        let shape : groups_by p.number (k ∷ ks) ≡ k ∷ groups_by p.number ks = rw mine refl in
        let left : groups_by p.number p.links ≡ [] = ap (groups_by p.number) none in
        cc

    go : (log : List (Link Entry)) → AllHave log ps → ((i : ℕ) (p : CorePass) → slice_get ps i ≡ Some p → HasAllOf log p) → h.start ++ flat log ≡ h.start
    go [] has each = append-nil h.start
    go (k ∷ ks) has each =
        absurd (linked k ks has.0.pass has.0.is (get-from_all (λ (p : CorePass). p.links ≡ []) ps (unlinked h first ps fresh) has.0.place has.0.pass has.0.there)
        (each has.0.place has.0.pass has.0.there).own)

pub kept_opening : (h : HallValue Entry Opening) (ps : List CorePass) (final : List Entry) (fixed : Opening) → Over h ps final fixed → fixed ≡ h.fixed
kept_opening h ps final fixed over = over.0.kept

-- ---- a round that is over

manned_numbers : (h : HallValue Entry Opening) (setup : Setup) (c first : ℕ) (ds : List DeskTold) (es : List WorkerTells) → AllManned h setup c first ds es
    → numbers_of (passes_of es) ≡ range_with_len first (length ds)
manned_numbers h setup c first [] [] all = refl
manned_numbers h setup c first [] (e ∷ es) all = absurd all
manned_numbers h setup c first (d ∷ ds) [] all = absurd all
manned_numbers h setup c first (d ∷ ds) (e ∷ es) all =
    let here : e.pass.number ≡ first = all.0.number_is in
    let more : numbers_of (passes_of es) ≡ range_with_len (first + 1) (length ds) = manned_numbers h setup c (first + 1) ds es all.1 in
    cc

crew_numbers : (main ear mouth : CorePass) (ps : List CorePass) (n : ℕ) → (main.number ≡ 1) × (ear.number ≡ 2) × (mouth.number ≡ 3) → numbers_of ps ≡ range_with_len 4 n
    → numbers_of (main ∷ ear ∷ mouth ∷ ps) ≡ range_with_len 1 (3 + n)
crew_numbers main ear mouth ps n is more =
    let one = is.0 in let two = is.1 in let three = is.2 in
    let shape : numbers_of (main ∷ ear ∷ mouth ∷ ps) ≡ 1 ∷ 2 ∷ 3 ∷ range_with_len 4 n = cc in
    let count : suc (suc (suc n)) ≡ 3 + n = omega arith in
    shape ∙ ap (range_with_len 1) count

pub closes : (h : HallValue Entry Opening) (setup : Setup) (l l' : LinkValue) (passes : List CorePass) (final : List Entry) (fixed : Opening) (desks desks' : List DeskTold)
    → Over h passes final fixed → TaggedCan h.fixed h.start l → CrewLeft h setup l.ear.child l' passes desks desks'
    → GoesOn h.start final (λ rest. TaggedLeaves h.fixed setup (range_with_len 1 (3 + length desks)) h.start rest l' desks desks')
closes h setup l l' passes final fixed desks desks' over can before =
    subst (λ (ds : List DeskTold). GoesOn h.start final (λ rest. TaggedLeaves h.fixed setup (range_with_len 1 (3 + length desks)) h.start rest l' desks ds)) (sym left.desks_are)
    (subst (λ (ns : List ℕ). GoesOn h.start final (λ rest. TaggedLeaves h.fixed setup ns h.start rest l' desks (desks_of left.workers))) numbers
    (tagged_closes h setup final fixed l' left.main left.ear left.mouth desks left.workers
    (subst (λ (ps : List CorePass). Over h ps final fixed) left.passes_are over)
    can.serves.legal can.calm (subst (MayBeginTagged h.start) (sym before.one_child.0) can.begins) (left.one_child.1 ∙ sym left.one_child.0)
    left.numbers.0 left.numbers.1 left.numbers.2 left.keeps left.hears left.speaks left.manned left.through.place left.through.pass
    (subst (λ (ps : List CorePass). slice_get ps left.through.place ≡ Some left.through.pass) left.passes_are left.through.there) left.through.through))
  where
    left : CrewLeft h setup l'.ear.child l' passes desks desks'
    left = subst (λ (c : ℕ). CrewLeft h setup c l' passes desks desks') (sym before.one_child.0) before

    numbers : numbers_of (left.main ∷ left.ear ∷ left.mouth ∷ passes_of left.workers) ≡ range_with_len 1 (3 + length desks)
    numbers = crew_numbers left.main left.ear left.mouth (passes_of left.workers) (length desks) left.numbers
        (manned_numbers h setup l'.ear.child 4 desks left.workers left.manned)

-- ---- in terms of the core

pub fresh_from : (h : HallValue Entry Opening) (first : ℕ) (ps : List CorePass) → All (IsPassOf h) ps
    → ((k : ℕ) (p : CorePass) → slice_get ps k ≡ Some p → (p.number ≡ first + k) × (p.links ≡ [])) → AreFresh h first ps
fresh_from h first [] own told = tt
fresh_from h first (p ∷ ps) own told = (
  (record { pass = All-head (IsPassOf h) p ps own; none = (told 0 p refl).1 }, (let is = (told 0 p refl).0 in omega (arith, is))),
  fresh_from h (first + 1) ps (All-tail (IsPassOf h) p ps own) (λ k q there. (let it = told (suc k) q there in ((let is = it.0 in omega (arith, is)), it.1))),
)

pub if_done : {P Q : Type 0} (o : Outcome) → (P → Q) → IfDone o P → IfDone o Q
if_done Done f h = f h
if_done NoMemory f h = tt
if_done (NoThreads refused) f h = tt

pub if_kept : {P Q : Type 0} (o : Outcome) → (P → Q) → IfKept o P → IfKept o Q
if_kept Done f h = tt
if_kept NoMemory f h = f h
if_kept (NoThreads refused) f h = f h

module _ (h : HallValue Entry Opening) (opening : Opening) (start : List Entry) (start_is : h.start ≡ start) (fixed_is : h.fixed ≡ opening) (passes : List CorePass) (final : List Entry) (fixed : Opening)
    (over : Over h passes final fixed) (o : Outcome) where
  pub closes_done : (setup : Setup) (l l' : LinkValue) (desks desks' : List DeskTold) (n : ℕ) → length desks ≡ n → TaggedCan opening start l
      → IfDone o (CrewLeft h setup l.ear.child l' passes desks desks')
      → IfDone o (GoesOn start final (λ rest. TaggedLeaves opening setup (range_with_len 1 (3 + n)) start rest l' desks desks'))
  closes_done setup l l' desks desks' n count can left =
      subst (λ (x : List Entry). IfDone o (GoesOn x final (λ rest. TaggedLeaves opening setup (range_with_len 1 (3 + n)) x rest l' desks desks'))) start_is
      (subst (λ (x : Opening). IfDone o (GoesOn h.start final (λ rest. TaggedLeaves x setup (range_with_len 1 (3 + n)) h.start rest l' desks desks'))) fixed_is
      (subst (λ (x : ℕ). IfDone o (GoesOn h.start final (λ rest. TaggedLeaves h.fixed setup (range_with_len 1 (3 + x)) h.start rest l' desks desks'))) count
      (if_done o (closes h setup l l' passes final fixed desks desks' over
      (subst (λ (x : List Entry). TaggedCan h.fixed x l) (sym start_is) (subst (λ (x : Opening). TaggedCan x start l) (sym fixed_is) can))) left)))

  pub closes_kept : (Same : Type 0) (before : List CorePass) → AreFresh h 1 before → IfKept o ((passes ≡ before) × Same) → IfKept o ((final ≡ start) × Same)
  closes_kept Same before fresh kept =
      if_kept o (λ same. (kept_same h 1 passes final fixed over (subst (AreFresh h 1) (sym same.0) fresh) ∙ start_is, same.1)) kept
