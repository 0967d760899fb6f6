-- What the work of a call does to the contents of the keys.
use Rattle.std.proofs.Common.{◌≡◌, ◌≢◌, ◌∙◌, ◌≤◌, ℕ, List, refl, sym, ap, subst, arith}
use Rattle.std.specs.Str.{IsUtf8}
use Rattle.ann_key.specs.FileNames.{file_name_of}
use Rattle.std.specs.Prelude.{Bool, IsTrue, Option, None, IfSome, Result, Ok, Err}
use Rattle.ann_outside.specs.DeskCauses.{Counts, HasCauses}
use Rattle.ann_outside.specs.Files.{Files, content, WhereTold, OthersStay, AllStay, SizeIs, RenameDoes, RemoveDoes}
use Rattle.ann_outside.specs.Told.{DeskTold}
use Rattle.ann_outside.specs.declared.file_desk.DeskError.{DeskError}
use Rattle.ann_outside.specs.declared.file_desk.DeskError.TheVariants.{Failed, Missing, NoMemory}
use Rattle.dir_remote.specs.Answers.{Works, StoreDoes, StoredUnder, RetrieveDoes, RetrievedTo, CheckDoes, RemoveDoes as RemovalDoes, is_of_transfer, is_of_check, is_of_removal}
use Rattle.dir_remote.specs.Contents.{IsContentName, IsMark, IsOutside, temporary_name}
use Rattle.dir_remote.specs.Copies.{CopyDoes}
use Rattle.dir_remote.specs.Outcomes.{HasOutcomeCauses, IsUnnamed, refusal_of}
use Rattle.dir_remote.specs.declared.outcome.Outcome.{Outcome}
use Rattle.dir_remote.specs.declared.outcome.Outcome.TheVariants as O
use Rattle.dir_remote.proofs.PlaceLaws.{content_name_unique, content_names_differ, temporary_name_differs, content_name_inside, temporary_name_inside}
use Rattle.dir_remote.proofs.Telling.{told_and}
use Rattle.ann_outside.proofs.Across.{told_refl, where_then as told_both, where_so as told_map, told_same, rose_on}

-- ---- causes

pub causes_done : {T : Type 0} (old new : Counts) (result : Result T DeskError) → HasCauses old new result → HasOutcomeCauses old new O.Done
causes_done old new result h =
    record { faults_later = h.faults_later; missing_later = h.missing_later; failed = λ e. cc; missing = λ e. cc; not_there = λ e. cc }

pub causes_refused : {T : Type 0} (old new : Counts) (error : DeskError) → HasCauses {T = T} old new (Err error) → HasOutcomeCauses old new (refusal_of error)
causes_refused old new Failed h =
    record { faults_later = h.faults_later; missing_later = h.missing_later; failed = λ e. h.failed refl; missing = λ e. cc; not_there = λ e. cc }
causes_refused old new Missing h =
    record { faults_later = h.faults_later; missing_later = h.missing_later; failed = λ e. cc; missing = λ e. h.missing refl; not_there = λ e. cc }
causes_refused old new NoMemory h =
    record { faults_later = h.faults_later; missing_later = h.missing_later; failed = λ e. cc; missing = λ e. cc; not_there = λ e. cc }

pub causes_not_there : {T : Type 0} (old new : Counts) → HasCauses {T = T} old new (Err Missing) → HasOutcomeCauses old new O.NotThere
causes_not_there old new h =
    record { faults_later = h.faults_later; missing_later = h.missing_later; failed = λ e. cc; missing = λ e. cc; not_there = λ e. h.missing refl }

-- what is missing needn't be removed
pub causes_gone : {T : Type 0} (old new : Counts) → HasCauses {T = T} old new (Err Missing) → HasOutcomeCauses old new O.Done
causes_gone old new h =
    record { faults_later = h.faults_later; missing_later = h.missing_later; failed = λ e. cc; missing = λ e. cc; not_there = λ e. cc }

-- a copy whose last step was this one
pub causes_ended : (a b c : Counts) (n : ℕ) → b ≡ a → HasCauses {T = ℕ} b c (Ok n) → HasCauses {T = Unit {0}} a c (Ok tt)
causes_ended a b c n same h =
    let P : Counts → Type 0 = λ x. HasCauses {T = ℕ} x c (Ok n) in
    let k = subst P same h in
    record { faults_later = k.faults_later; missing_later = k.missing_later; failed = λ e. cc; missing = λ e. cc; done = k.done; no_memory = λ e. cc }

pub causes_broken : (a b c : Counts) (e : DeskError) → b ≡ a → HasCauses {T = ℕ} b c (Err e) → HasCauses {T = Unit {0}} a c (Err e)
causes_broken a b c e same h =
    let P : Counts → Type 0 = λ x. HasCauses {T = ℕ} x c (Err e) in
    let k = subst P same h in
    record {
      faults_later = k.faults_later;
      missing_later = k.missing_later;
      failed = λ q. k.failed (ap Err (of_error e Failed q));
      missing = λ q. k.missing (ap Err (of_error e Missing q));
      done = tt;
      no_memory = λ q. k.no_memory (ap Err (of_error e NoMemory q));
    }
  where
    of_error : (x y : DeskError) → ◌≡◌ {A = Result (Unit {0}) DeskError} (Err x) (Err y) → x ≡ y
    of_error x y q = cc

-- a call after one that left the counts as they were
pub causes_behind : {T : Type 0} (a b c : Counts) (e : DeskError) → b ≡ a → HasCauses {T = T} b c (Err e) → HasOutcomeCauses a c (refusal_of e)
causes_behind {T} a b c e same h =
    let P : Counts → Type 0 = λ x. HasCauses {T = T} x c (Err e) in
    causes_refused {T = T} a c e (subst P same h)

pub causes_done_behind : {T : Type 0} (a b c : Counts) (x : T) → b ≡ a → HasCauses {T = T} b c (Ok x) → HasOutcomeCauses a c O.Done
causes_done_behind {T} a b c x same h =
    let P : Counts → Type 0 = λ y. HasCauses {T = T} y c (Ok x) in
    causes_done {T = T} a c (Ok x) (subst P same h)

pub causes_same_done : (a b : Counts) → b ≡ a → HasOutcomeCauses a b O.Done
causes_same_done a b same =
    let f : b.faults ≡ a.faults = ap (λ (k : Counts). k.faults) same in
    let m : b.missing ≡ a.missing = ap (λ (k : Counts). k.missing) same in
    record { faults_later = omega (arith, f); missing_later = omega (arith, m); failed = λ e. cc; missing = λ e. cc; not_there = λ e. cc }

-- ---- nothing was done, since the key's file got no name

causes_same : (counts : Counts) (outcome : Outcome) → outcome ≢ O.DiskFailed → outcome ≢ O.NoSuchFile → outcome ≢ O.NotThere → HasOutcomeCauses counts counts outcome
causes_same counts outcome a b d =
    record { faults_later = omega arith; missing_later = omega arith; failed = λ e. absurd (a e); missing = λ e. absurd (b e); not_there = λ e. absurd (d e) }

unnamed : (is_word : Outcome → Bool) (Does : Outcome → Files → Files → Type 0) (key : List ℕ) (desk : DeskTold) (outcome : Outcome)
    → IsTrue (is_word O.NotText) → IsTrue (is_word O.NoMemory) → ((x : Files) → Does O.NotText x x) → ((x : Files) → Does O.NoMemory x x)
    → IsUnnamed key outcome → Works is_word Does key desk desk outcome
unnamed is_word Does key desk O.NotText v w f g h =
    record { word = v; prepared = λ e. cc; text = h; causes = causes_same desk.counts O.NotText (λ e. cc) (λ e. cc) (λ e. cc); files_do = told_refl (Does O.NotText) desk.files f }
unnamed is_word Does key desk O.NoMemory v w f g h =
    record { word = w; prepared = λ e. cc; text = tt; causes = causes_same desk.counts O.NoMemory (λ e. cc) (λ e. cc) (λ e. cc); files_do = told_refl (Does O.NoMemory) desk.files g }
unnamed is_word Does key desk O.Done v w f g h = absurd h
unnamed is_word Does key desk O.NotThere v w f g h = absurd h
unnamed is_word Does key desk O.NotPrepared v w f g h = absurd h
unnamed is_word Does key desk O.NoDirectory v w f g h = absurd h
unnamed is_word Does key desk O.DiskFailed v w f g h = absurd h
unnamed is_word Does key desk O.NoSuchFile v w f g h = absurd h

pub store_idle : (directory key file : List ℕ) (desk : DeskTold) (outcome : Outcome) → IsUnnamed key outcome
    → Works is_of_transfer (StoreDoes directory key file) key desk desk outcome
store_idle directory key file desk outcome =
    unnamed is_of_transfer (StoreDoes directory key file) key desk outcome refl refl
    (λ x. record { this = λ name is. refl; other_keys = λ other name d is. refl; outside = λ other out. refl })
    (λ x. record { this = λ name is. refl; other_keys = λ other name d is. refl; outside = λ other out. refl })

pub retrieve_idle : (directory key file : List ℕ) (desk : DeskTold) (outcome : Outcome) → IsUnnamed key outcome
    → Works is_of_transfer (RetrieveDoes directory key file) key desk desk outcome
retrieve_idle directory key file desk outcome =
    unnamed is_of_transfer (RetrieveDoes directory key file) key desk outcome refl refl
    (λ x. record { this = λ out name is. tt; keys = λ out text name is. refl; others = λ other d. refl })
    (λ x. record { this = λ out name is. tt; keys = λ out text name is. refl; others = λ other d. refl })

pub check_idle : (directory key : List ℕ) (desk : DeskTold) (outcome : Outcome) → IsUnnamed key outcome
    → Works is_of_check (CheckDoes directory key) key desk desk outcome
check_idle directory key desk outcome =
    unnamed is_of_check (CheckDoes directory key) key desk outcome refl refl (λ x. record { this = λ name is. tt; all = λ other. refl }) (λ x. record { this = λ name is. tt; all = λ other. refl })

pub remove_idle : (directory key : List ℕ) (desk : DeskTold) (outcome : Outcome) → IsUnnamed key outcome
    → Works is_of_removal (RemovalDoes directory key) key desk desk outcome
remove_idle directory key desk outcome =
    unnamed is_of_removal (RemovalDoes directory key) key desk outcome refl refl
    (λ x. record { this = λ name is. refl; other_keys = λ other name d is. refl; outside = λ other out. refl })
    (λ x. record { this = λ name is. refl; other_keys = λ other name d is. refl; outside = λ other out. refl })

-- ---- the desk refused

pub transfer_refused : (Does : Outcome → Files → Files → Type 0) (key : List ℕ) (old new : DeskTold) (e : DeskError) → IsUtf8 (file_name_of key)
    → HasOutcomeCauses old.counts new.counts (refusal_of e) → WhereTold old.files new.files (Does (refusal_of e)) → Works is_of_transfer Does key old new (refusal_of e)
transfer_refused Does key old new Failed text causes does = record { word = refl; prepared = λ e. cc; text = text; causes = causes; files_do = does }
transfer_refused Does key old new Missing text causes does = record { word = refl; prepared = λ e. cc; text = text; causes = causes; files_do = does }
transfer_refused Does key old new NoMemory text causes does = record { word = refl; prepared = λ e. cc; text = tt; causes = causes; files_do = does }

-- ---- store

pub store_uncopied : (mark : Option (List ℕ)) → IfSome mark IsMark → (directory key file temporary : List ℕ) (e : DeskError) (a b : Option Files) → temporary ≡ temporary_name mark directory key
    → WhereTold a b (OthersStay (λ other. other ≡ temporary)) → WhereTold a b (λ x y. file ≢ temporary → CopyDoes file temporary (Err e) x y)
    → WhereTold a b (StoreDoes directory key file (refusal_of e))
store_uncopied mark m directory key file temporary e a b place others copied =
    told_map (λ x y. OthersStay (λ other. other ≡ temporary) x y × (file ≢ temporary → CopyDoes file temporary (Err e) x y)) (StoreDoes directory key file (refusal_of e)) a b step
    (told_and (OthersStay (λ other. other ≡ temporary)) (λ x y. file ≢ temporary → CopyDoes file temporary (Err e) x y) a b others copied)
  where
    by_error : (f : DeskError) (name : List ℕ) (x y : Files) → content name y ≡ content name x → (IsOutside directory file → CopyDoes file temporary (Err f) x y)
        → StoredUnder directory file name (refusal_of f) x y
    by_error Failed name x y same h = same
    by_error Missing name x y same h = (same, h)
    by_error NoMemory name x y same h = same

    step : (x y : Files) → (OthersStay (λ other. other ≡ temporary) x y × (file ≢ temporary → CopyDoes file temporary (Err e) x y)) → StoreDoes directory key file (refusal_of e) x y
    step x y h = record {
      this = λ name is. by_error e name x y (h.0 name (λ same. temporary_name_differs mark directory key key name m is (same ∙ place))) (λ outside. h.1 (λ same. temporary_name_inside mark directory key file outside (same ∙ place)));
      other_keys = λ other name d is. h.0 name (λ same. temporary_name_differs mark directory key other name m is (same ∙ place));
      outside = λ other out. h.0 other (λ same. temporary_name_inside mark directory key other out (same ∙ place));
    }

-- what a copy that was made leaves
abbrev pub Copied : List ℕ → List ℕ → Files → Files → Type 0
Copied file temporary x y = OthersStay (λ other. other ≡ temporary) x y × (file ≢ temporary → CopyDoes file temporary (Ok tt) x y)

pub store_done : (mark : Option (List ℕ)) → IfSome mark IsMark → (directory key file temporary place : List ℕ) (a b c : Option Files) → temporary ≡ temporary_name mark directory key → IsContentName directory key place
    → WhereTold a b (OthersStay (λ other. other ≡ temporary)) → WhereTold a b (λ x y. file ≢ temporary → CopyDoes file temporary (Ok tt) x y)
    → WhereTold b c (RenameDoes temporary place (Ok tt)) → WhereTold a c (StoreDoes directory key file O.Done)
store_done mark m directory key file temporary place a b c at_temporary at_place others copied renamed =
    told_both (Copied file temporary) (RenameDoes temporary place (Ok tt)) (StoreDoes directory key file O.Done) a b c step
    (told_and (OthersStay (λ other. other ≡ temporary)) (λ x y. file ≢ temporary → CopyDoes file temporary (Ok tt) x y) a b others copied) renamed
  where
    step : (x y z : Files) → Copied file temporary x y → RenameDoes temporary place (Ok tt) y z → StoreDoes directory key file O.Done x z
    step x y z h r = record {
      this = λ name is outside.
          let made = h.1 (λ same. temporary_name_inside mark directory key file outside (same ∙ at_temporary)) in
          (made.0, ap (λ n. content n z) (content_name_unique directory key name place is at_place) ∙ r.1 ∙ made.1);
      other_keys = λ other name d is.
          let away : name ≢ temporary = λ same. temporary_name_differs mark directory key other name m is (same ∙ at_temporary) in
          r.3 name away (content_names_differ directory key other name place d is at_place) ∙ h.0 name away;
      outside = λ other out.
          let away : other ≢ temporary = λ same. temporary_name_inside mark directory key other out (same ∙ at_temporary) in
          r.3 other away (content_name_inside directory key other place out at_place) ∙ h.0 other away;
    }

pub store_unnamed : (mark : Option (List ℕ)) → IfSome mark IsMark → (directory key file temporary place : List ℕ) (e : DeskError) (a b c : Option Files) → temporary ≡ temporary_name mark directory key
    → WhereTold a b (OthersStay (λ other. other ≡ temporary)) → WhereTold a b (λ x y. file ≢ temporary → CopyDoes file temporary (Ok tt) x y)
    → WhereTold b c (RenameDoes temporary place (Err e)) → WhereTold a c (StoreDoes directory key file (refusal_of e))
store_unnamed mark m directory key file temporary place e a b c at_temporary others copied renamed =
    told_both (Copied file temporary) (RenameDoes temporary place (Err e)) (StoreDoes directory key file (refusal_of e)) a b c step
    (told_and (OthersStay (λ other. other ≡ temporary)) (λ x y. file ≢ temporary → CopyDoes file temporary (Ok tt) x y) a b others copied) renamed
  where
    all_stay : (f : DeskError) (y z : Files) → RenameDoes temporary place (Err f) y z → AllStay y z
    all_stay Failed y z r = r
    all_stay Missing y z r = r.1
    all_stay NoMemory y z r = r

    by_error : (f : DeskError) (name : List ℕ) (x y z : Files) → content name z ≡ content name x → (IsOutside directory file → CopyDoes file temporary (Ok tt) x y)
        → RenameDoes temporary place (Err f) y z → StoredUnder directory file name (refusal_of f) x z
    by_error Failed name x y z same h r = same
    by_error Missing name x y z same h r = (same, λ outside. absurd ((h outside).0 (sym (h outside).1 ∙ r.0)))
    by_error NoMemory name x y z same h r = same

    step : (x y z : Files) → Copied file temporary x y → RenameDoes temporary place (Err e) y z → StoreDoes directory key file (refusal_of e) x z
    step x y z h r =
        let stay = all_stay e y z r in
        record {
          this = λ name is.
              by_error e name x y z (stay name ∙ h.0 name (λ same. temporary_name_differs mark directory key key name m is (same ∙ at_temporary)))
              (λ outside. h.1 (λ same. temporary_name_inside mark directory key file outside (same ∙ at_temporary))) r;
          other_keys = λ other name d is. stay name ∙ h.0 name (λ same. temporary_name_differs mark directory key other name m is (same ∙ at_temporary));
          outside = λ other out. stay other ∙ h.0 other (λ same. temporary_name_inside mark directory key other out (same ∙ at_temporary));
        }

-- what the store left under its temporary name is cleared away
pub store_cleared : (mark : Option (List ℕ)) → IfSome mark IsMark → (directory key file temporary : List ℕ) (outcome : Outcome) (a b c : Option Files) → temporary ≡ temporary_name mark directory key
    → WhereTold a b (StoreDoes directory key file outcome) → WhereTold b c (OthersStay (λ other. other ≡ temporary)) → WhereTold a c (StoreDoes directory key file outcome)
store_cleared mark m directory key file temporary outcome a b c place does others =
    told_both (StoreDoes directory key file outcome) (OthersStay (λ other. other ≡ temporary)) (StoreDoes directory key file outcome) a b c step does others
  where
    by_outcome : (o : Outcome) (name : List ℕ) (x y z : Files) → StoredUnder directory file name o x y → content name z ≡ content name y → StoredUnder directory file name o x z
    by_outcome O.Done name x y z h same = λ out. ((h out).0, same ∙ (h out).1)
    by_outcome O.NoSuchFile name x y z h same = (same ∙ h.0, h.1)
    by_outcome O.NotThere name x y z h same = same ∙ h
    by_outcome O.NotPrepared name x y z h same = same ∙ h
    by_outcome O.NoDirectory name x y z h same = same ∙ h
    by_outcome O.NotText name x y z h same = same ∙ h
    by_outcome O.DiskFailed name x y z h same = same ∙ h
    by_outcome O.NoMemory name x y z h same = same ∙ h

    step : (x y z : Files) → StoreDoes directory key file outcome x y → OthersStay (λ other. other ≡ temporary) y z → StoreDoes directory key file outcome x z
    step x y z h o = record {
      this = λ name is. by_outcome outcome name x y z (h.this name is) (o name (λ same. temporary_name_differs mark directory key key name m is (same ∙ place)));
      other_keys = λ other name d is. o name (λ same. temporary_name_differs mark directory key other name m is (same ∙ place)) ∙ h.other_keys other name d is;
      outside = λ other out. o other (λ same. temporary_name_inside mark directory key other out (same ∙ place)) ∙ h.outside other out;
    }

-- a fault, and then what clearing away counted
pub causes_cleared : (a b c : Counts) (outcome : Outcome) → HasOutcomeCauses a b outcome → b.faults ≤ c.faults → b.missing ≤ c.missing → HasOutcomeCauses a c outcome
causes_cleared a b c outcome h f m = record {
  faults_later = omega (arith, h.faults_later, f);
  missing_later = omega (arith, h.missing_later, m);
  failed = λ e. rose_on a.faults b.faults c.faults (h.failed e) f;
  missing = λ e. rose_on a.missing b.missing c.missing (h.missing e) m;
  not_there = λ e. rose_on a.missing b.missing c.missing (h.not_there e) m;
}

-- ---- retrieve

pub retrieve_unfound : (directory key file place : List ℕ) (e : DeskError) (a b : Option Files) → IsContentName directory key place → b ≡ a
    → IfSome a (λ fs. SizeIs place fs (Err e)) → WhereTold a b (RetrieveDoes directory key file (refusal_of e))
retrieve_unfound directory key file place e a b at_place same told =
    told_map (λ x y. (y ≡ x) × SizeIs place x (Err e)) (RetrieveDoes directory key file (refusal_of e)) a b step (told_same (λ fs. SizeIs place fs (Err e)) a b same told)
  where
    by_error : (f : DeskError) (name : List ℕ) (x y : Files) → name ≡ place → y ≡ x → SizeIs place x (Err f) → RetrievedTo file name (refusal_of f) x y
    by_error Failed name x y n s h = tt
    by_error Missing name x y n s h = (ap (λ m. content m x) n ∙ h, λ other. ap (content other) s)
    by_error NoMemory name x y n s h = tt

    step : (x y : Files) → ((y ≡ x) × SizeIs place x (Err e)) → RetrieveDoes directory key file (refusal_of e) x y
    step x y h = record {
      this = λ out name is. by_error e name x y (content_name_unique directory key name place is at_place) h.0 h.1;
      keys = λ out text name is. ap (content name) h.0;
      others = λ other d. ap (content other) h.0;
    }

pub retrieve_done : (directory key file place : List ℕ) (a b c : Option Files) → IsContentName directory key place → b ≡ a
    → WhereTold b c (OthersStay (λ other. other ≡ file)) → WhereTold b c (λ x y. place ≢ file → CopyDoes place file (Ok tt) x y)
    → WhereTold a c (RetrieveDoes directory key file O.Done)
retrieve_done directory key file place a b c at_place same others copied =
    subst (λ (x : Option Files). WhereTold x c (RetrieveDoes directory key file O.Done)) same
    (told_map (λ x y. OthersStay (λ other. other ≡ file) x y × (place ≢ file → CopyDoes place file (Ok tt) x y)) (RetrieveDoes directory key file O.Done) b c
    (λ x y h. record {
      this = λ out name is.
          let n = content_name_unique directory key name place is at_place in
          let made = h.1 (λ e. content_name_inside directory key file place out at_place (sym e)) in
          (λ none. made.0 (sym (ap (λ m. content m x) n) ∙ none), made.1 ∙ sym (ap (λ m. content m x) n));
      keys = λ out text name is. h.0 name (λ e. content_name_inside directory text file name out is (sym e));
      others = h.0;
    })
    (told_and (OthersStay (λ other. other ≡ file)) (λ x y. place ≢ file → CopyDoes place file (Ok tt) x y) b c others copied))

pub retrieve_uncopied : (directory key file place : List ℕ) (n : ℕ) (e : DeskError) (a b c : Option Files) → IsContentName directory key place → b ≡ a
    → IfSome a (λ fs. SizeIs place fs (Ok n))
    → WhereTold b c (OthersStay (λ other. other ≡ file)) → WhereTold b c (λ x y. place ≢ file → CopyDoes place file (Err e) x y)
    → WhereTold a c (RetrieveDoes directory key file (refusal_of e))
retrieve_uncopied directory key file place n e a b c at_place same told others copied =
    told_both (λ x y. (y ≡ x) × SizeIs place x (Ok n)) (λ x y. OthersStay (λ other. other ≡ file) x y × (place ≢ file → CopyDoes place file (Err e) x y)) (RetrieveDoes directory key file (refusal_of e)) a b c step
    (told_same (λ fs. SizeIs place fs (Ok n)) a b same told)
    (told_and (OthersStay (λ other. other ≡ file)) (λ x y. place ≢ file → CopyDoes place file (Err e) x y) b c others copied)
  where
    by_error : (f : DeskError) (name : List ℕ) (x z : Files) → content place x ≢ None → CopyDoes place file (Err f) x z → RetrievedTo file name (refusal_of f) x z
    by_error Failed name x z there h = tt
    by_error Missing name x z there h = absurd (there h)
    by_error NoMemory name x z there h = tt

    step : (x y z : Files) → ((y ≡ x) × SizeIs place x (Ok n)) → (OthersStay (λ other. other ≡ file) y z × (place ≢ file → CopyDoes place file (Err e) y z)) → RetrieveDoes directory key file (refusal_of e) x z
    step x y z s h =
        let P : Files → Type 0 = λ f. OthersStay (λ other. other ≡ file) f z × (place ≢ file → CopyDoes place file (Err e) f z) in
        let k = subst P s.0 h in
        record {
          this = λ out name is. by_error e name x z s.1.0 (k.1 (λ q. content_name_inside directory key file place out at_place (sym q)));
          keys = λ out text name is. k.0 name (λ q. content_name_inside directory text file name out is (sym q));
          others = k.0;
        }

-- ---- check

pub check_found : (directory key place : List ℕ) (n : ℕ) (a b : Option Files) → IsContentName directory key place → b ≡ a
    → IfSome a (λ fs. SizeIs place fs (Ok n)) → WhereTold a b (CheckDoes directory key O.Done)
check_found directory key place n a b at_place same told =
    told_map (λ x y. (y ≡ x) × SizeIs place x (Ok n)) (CheckDoes directory key O.Done) a b
    (λ x y h. record { this = λ name is none. h.1.0 (sym (ap (λ m. content m x) (content_name_unique directory key name place is at_place)) ∙ none); all = λ other. ap (content other) h.0 })
    (told_same (λ fs. SizeIs place fs (Ok n)) a b same told)

pub check_missing : (directory key place : List ℕ) (a b : Option Files) → IsContentName directory key place → b ≡ a
    → IfSome a (λ fs. SizeIs place fs (Err Missing)) → WhereTold a b (CheckDoes directory key O.NotThere)
check_missing directory key place a b at_place same told =
    told_map (λ x y. (y ≡ x) × SizeIs place x (Err Missing)) (CheckDoes directory key O.NotThere) a b
    (λ x y h. record { this = λ name is. ap (λ m. content m x) (content_name_unique directory key name place is at_place) ∙ h.1; all = λ other. ap (content other) h.0 })
    (told_same (λ fs. SizeIs place fs (Err Missing)) a b same told)

pub check_failed : (directory key : List ℕ) (a b : Option Files) → b ≡ a → WhereTold a b (CheckDoes directory key O.DiskFailed)
check_failed directory key a b same = rw same (told_refl (CheckDoes directory key O.DiskFailed) a (λ x. record { this = λ name is. tt; all = λ other. refl }))

pub check_without_memory : (directory key : List ℕ) (a b : Option Files) → b ≡ a → WhereTold a b (CheckDoes directory key O.NoMemory)
check_without_memory directory key a b same = rw same (told_refl (CheckDoes directory key O.NoMemory) a (λ x. record { this = λ name is. tt; all = λ other. refl }))

-- ---- remove

pub remove_done : (directory key place : List ℕ) (a b : Option Files) → IsContentName directory key place → WhereTold a b (RemoveDoes place (Ok tt))
    → WhereTold a b (RemovalDoes directory key O.Done)
remove_done directory key place a b at_place does =
    told_map (RemoveDoes place (Ok tt)) (RemovalDoes directory key O.Done) a b
    (λ x y h. record {
      this = λ name is. ap (λ m. content m y) (content_name_unique directory key name place is at_place) ∙ h.1;
      other_keys = λ other name d is. h.2 name (content_names_differ directory key other name place d is at_place);
      outside = λ other out. h.2 other (content_name_inside directory key other place out at_place);
    }) does

pub remove_missing : (directory key place : List ℕ) (a b : Option Files) → IsContentName directory key place → WhereTold a b (RemoveDoes place (Err Missing))
    → WhereTold a b (RemovalDoes directory key O.Done)
remove_missing directory key place a b at_place does =
    told_map (RemoveDoes place (Err Missing)) (RemovalDoes directory key O.Done) a b
    (λ x y h. record {
      this = λ name is. ap (λ m. content m y) (content_name_unique directory key name place is at_place) ∙ h.1 place ∙ h.0;
      other_keys = λ other name d is. h.1 name;
      outside = λ other out. h.1 other;
    }) does

pub remove_failed : (directory key place : List ℕ) (a b : Option Files) → WhereTold a b (RemoveDoes place (Err Failed)) → WhereTold a b (RemovalDoes directory key O.DiskFailed)
remove_failed directory key place a b does =
    told_map (RemoveDoes place (Err Failed)) (RemovalDoes directory key O.DiskFailed) a b
    (λ x y h. record { this = λ name is. h name; other_keys = λ other name q is. h name; outside = λ other out. h other }) does

pub remove_without_memory : (directory key place : List ℕ) (a b : Option Files) → WhereTold a b (RemoveDoes place (Err NoMemory)) → WhereTold a b (RemovalDoes directory key O.NoMemory)
remove_without_memory directory key place a b does =
    told_map (RemoveDoes place (Err NoMemory)) (RemovalDoes directory key O.NoMemory) a b
    (λ x y h. record { this = λ name is. h name; other_keys = λ other name q is. h name; outside = λ other out. h other }) does
