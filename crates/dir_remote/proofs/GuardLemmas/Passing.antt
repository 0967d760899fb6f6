-- How gates are passed, one after the other.
use Rattle.std.proofs.Common.{◌≡◌, ◌∙◌, ℕ, ◌<◌, zero, suc, List, [], ◌∷◌, ◌++◌, length, take, drop, get_or, refl, sym, ap, subst, inl, inr, arith, drop-cons}
use Rattle.std.specs.Prelude.{Bool, true, false, Option, Some, None, Result, Ok, Err}
use Rattle.std.proofs.lemmas.List.{take-append-drop}
use Rattle.ann_key.specs.Keys.{IsKey, without_chunk}
use Rattle.ann_key.specs.KeyRefs.{parts_of, text_of}
use Rattle.ann_key.specs.declared.key.KeyRef.{KeyRef}
use Rattle.ann_digest.specs.Directories.{lower_of}
use Rattle.dir_remote.proofs.PlaceLaws.{base_of}
use Rattle.dir_remote.specs.declared.guard.place.Want.TheVariants.{Full, Way}
use Rattle.ann_key.specs.declared.bytes.NoMemory.{NoMemory as WithoutMemory}
use Rattle.kit_serve.specs.declared.kit.call.Said.{Said}
use Rattle.kit_serve.specs.declared.kit.call.Said.TheVariants.{Failure}
use Rattle.dir_remote.specs.Guard.Gates.{Passes, stood, StopsBy, Admits, IsFolder, is_whole, look_by, removal_gates, under}
use Rattle.dir_remote.specs.Guard.Sentences.{line_of, sentence_of}
use Rattle.dir_remote.specs.Guard.Steps.{Adds, AddsSome, stepped}
use Rattle.dir_remote.specs.declared.guard.gates.Gate.{Gate}
use Rattle.dir_remote.specs.declared.guard.place.Seen.{Seen}
use Rattle.dir_remote.specs.declared.guard.place.Step.{Step}
use Rattle.dir_remote.specs.declared.guard.place.Step.TheVariants.{Stood}
use Rattle.dir_remote.proofs.GuardLemmas.Adding.{adds_more, adds_none}

-- an answer
abbrev pub answered : {A : Type 0} → A → Result A WithoutMemory
answered x = Ok x

pub passes_one_more : (before : List Gate) (front : List Step) (gate : Gate) (seen : Seen) → Passes before front
    → sentence_of gate.want gate.path seen ≡ None → Passes (before ++ gate ∷ []) (front ++ stood gate seen ∷ [])
passes_one_more [] [] gate seen p e = ((seen, refl, e), refl)
passes_one_more [] (step ∷ front) gate seen p e = absurd cc
passes_one_more (g ∷ before) [] gate seen p e = absurd p
passes_one_more (g ∷ before) (step ∷ front) gate seen p e = (p.0, passes_one_more before front gate seen p.1 e)

-- the list around one of its places
around : (gates : List Gate) (i : ℕ) (gate : Gate) → i < length gates → gate ≡ get_or gates i gate → gates ≡ take i gates ++ gate ∷ drop (suc i) gates
around gates i gate h e =
    sym (take-append-drop i gates) ∙ ap (λ (l : List Gate). take i gates ++ l) (drop-cons gates i gate h ∙ ap (λ (g : Gate). g ∷ drop (suc i) gates) (sym e))

take_one_more : (gates : List Gate) (i : ℕ) (gate : Gate) → i < length gates → gate ≡ get_or gates i gate → take (suc i) gates ≡ take i gates ++ gate ∷ []
take_one_more [] i gate h e = absurd (omega (arith, h))
take_one_more (g ∷ gates) zero gate h e = ap (λ (x : Gate). x ∷ []) (sym e)
take_one_more (g ∷ gates) (suc i) gate h e = ap (λ (l : List Gate). g ∷ l) (take_one_more gates i gate (omega (arith, h)) e)

stops_said : (sentence : Option (List ℕ)) (said : Said) → StopsBy sentence (Ok (Some said)) → (text : List ℕ) × (sentence ≡ Some text) × (said ≡ Failure (line_of text))
stops_said None said h = absurd cc
stops_said (Some text) said h = (text, refl, h)

stops_err : (sentence : Option (List ℕ)) (e : WithoutMemory) → StopsBy sentence (Err e) → (text : List ℕ) × (sentence ≡ Some text)
stops_err None e h = absurd cc
stops_err (Some text) e h = (text, refl)

stops_none : (sentence : Option (List ℕ)) → StopsBy sentence (Ok None) → sentence ≡ None
stops_none None h = refl
stops_none (Some text) h = absurd h

-- the step of a gate that was asked for
adds_stood : (gate : Gate) (path : List ℕ) (seen : Seen) (a b c : Option (List Step)) (front : List Step) → path ≡ gate.path → Adds a b front
    → c ≡ stepped b (λ (s : Seen). Stood gate.want path s) (answered seen) → Adds a c (front ++ stood gate seen ∷ [])
adds_stood gate path seen a b c front is h e =
    adds_more a b c front (stood gate seen ∷ []) h (subst (λ (p : List ℕ). Adds b c (Stood gate.want p seen ∷ [])) is e)

pub pass_stopped : (gates : List Gate) (i : ℕ) (gate : Gate) (path : List ℕ) (seen : Seen) (said : Said) (a b c : Option (List Step)) → i < length gates → gate ≡ get_or gates i gate → path ≡ gate.path
    → AddsSome a b (λ steps. Passes (take i gates) steps) → c ≡ stepped b (λ (s : Seen). Stood gate.want path s) (answered seen)
    → StopsBy (sentence_of gate.want gate.path seen) (Ok (Some said)) → Admits (λ asked. asked ≡ gates) a c (Ok (Some said))
pass_stopped gates i gate path seen said a b c h e is so step stops =
    let s = stops_said (sentence_of gate.want gate.path seen) said stops in record {
      gates = gates;
      are = refl;
      steps = so.0 ++ stood gate seen ∷ [];
      added = adds_stood gate path seen a b c so.0 is so.1 step;
      passed = inl (record { before = take i gates; gate = gate; after = drop (suc i) gates; front = so.0; seen = seen; text = s.0; whole = around gates i gate h e; passed = so.2; last = refl; sentence = s.1; says = s.2 });
    }

pub pass_unsaid : (gates : List Gate) (i : ℕ) (gate : Gate) (path : List ℕ) (seen : Seen) (x y : WithoutMemory) (a b c : Option (List Step)) → i < length gates → gate ≡ get_or gates i gate → path ≡ gate.path
    → AddsSome a b (λ steps. Passes (take i gates) steps) → c ≡ stepped b (λ (s : Seen). Stood gate.want path s) (answered seen)
    → StopsBy (sentence_of gate.want gate.path seen) (Err x) → Admits (λ asked. asked ≡ gates) a c (Err y)
pass_unsaid gates i gate path seen x y a b c h e is so step stops =
    let s = stops_err (sentence_of gate.want gate.path seen) x stops in record {
      gates = gates;
      are = refl;
      steps = so.0 ++ stood gate seen ∷ [];
      added = adds_stood gate path seen a b c so.0 is so.1 step;
      passed = inl (record { before = take i gates; gate = gate; after = drop (suc i) gates; front = so.0; seen = seen; text = s.0; whole = around gates i gate h e; passed = so.2; last = refl; sentence = s.1; says = tt });
    }

pub pass_short : (gates : List Gate) (i : ℕ) (gate : Gate) (path : List ℕ) (x y : WithoutMemory) (a b c : Option (List Step)) → i < length gates → gate ≡ get_or gates i gate → path ≡ gate.path
    → AddsSome a b (λ steps. Passes (take i gates) steps) → c ≡ stepped b (λ (s : Seen). Stood gate.want path s) (Err x) → Admits (λ asked. asked ≡ gates) a c (Err y)
pass_short gates i gate path x y a b c h e is so step =
    record {
      gates = gates;
      are = refl;
      steps = so.0;
      added = step ∙ so.1;
      passed = inr (record { before = take i gates; gate = gate; after = drop (suc i) gates; whole = around gates i gate h e; passed = so.2; lacks = refl });
    }

pub pass_goes_on : (gates : List Gate) (i : ℕ) (gate : Gate) (path : List ℕ) (seen : Seen) (a b c : Option (List Step)) → i < length gates → gate ≡ get_or gates i gate → path ≡ gate.path
    → AddsSome a b (λ steps. Passes (take i gates) steps) → c ≡ stepped b (λ (s : Seen). Stood gate.want path s) (answered seen)
    → StopsBy (sentence_of gate.want gate.path seen) (Ok None) → AddsSome a c (λ steps. Passes (take (suc i) gates) steps)
pass_goes_on gates i gate path seen a b c h e is so step stops = (
  so.0 ++ stood gate seen ∷ [],
  adds_stood gate path seen a b c so.0 is so.1 step,
  subst (λ (l : List Gate). Passes l (so.0 ++ stood gate seen ∷ [])) (sym (take_one_more gates i gate h e))
      (passes_one_more (take i gates) so.0 gate seen so.2 (stops_none (sentence_of gate.want gate.path seen) stops)),
)

pub pass_done : (gates : List Gate) (a b : Option (List Step)) → AddsSome a b (λ steps. Passes gates steps) → Admits (λ asked. asked ≡ gates) a b (Ok None)
pass_done gates a b so = record { gates = gates; are = refl; steps = so.0; added = so.1; passed = so.2 }

-- no gate, or none for which memory was found
-- the list of gates, of which there is one
pub admits_short : (Are : List Gate → Type 0) (gates : List Gate) (gate : Gate) (rest : List Gate) (x : WithoutMemory) (a : Option (List Step)) → gates ≡ gate ∷ rest → Are gates
    → Admits Are a a (Err x)
admits_short Are gates gate rest x a e are = record {
  gates = gates;
  are = are;
  steps = [];
  added = adds_none a;
  passed = inr (record { before = []; gate = gate; after = rest; whole = e; passed = refl; lacks = refl });
}

pub admits_none : (Are : List Gate → Type 0) (a : Option (List Step)) → Are [] → Admits Are a a (Ok None)
admits_none Are a are = record { gates = []; are = are; steps = []; added = adds_none a; passed = refl }

pub admits_unmade : (Are : List Gate → Type 0) (gate : Gate) (gates : List Gate) (x : WithoutMemory) (a : Option (List Step)) → Are (gate ∷ gates) → Admits Are a a (Err x)
admits_unmade Are gate gates x a are = record {
  gates = gate ∷ gates;
  are = are;
  steps = [];
  added = adds_none a;
  passed = inr (record { before = []; gate = gate; after = gates; whole = refl; passed = refl; lacks = refl });
}

-- the gates were made, and then asked for
pub admits_made : (Are : List Gate → Type 0) (gates : List Gate) (a b : Option (List Step)) (result : Result (Option Said) WithoutMemory) → Are gates
    → Admits (λ asked. asked ≡ gates) a b result → Admits Are a b result
admits_made Are gates a b result are h = record { gates = h.gates; are = subst Are (sym h.are) are; steps = h.steps; added = h.added; passed = h.passed }

-- a sentence for which no memory is found is one
pub unsaid : (sentence : Option (List ℕ)) (e : WithoutMemory) → (sentence ≡ None → ⊥) → StopsBy sentence (Err e)
unsaid None e h = absurd (h refl)
unsaid (Some text) e h = tt

-- a removal wants a folder at least
removal_by : (b : Bool) (directory : List ℕ) (x y : Gate) → (gate : Gate) × (rest : List Gate) × (look_by b directory ++ x ∷ y ∷ [] ≡ gate ∷ rest)
removal_by true directory x y = (record { want = Full; path = directory }, x ∷ y ∷ [], refl)
removal_by false directory x y = (x, y ∷ [], refl)

pub removal_some : (directory folder : List ℕ) → (gate : Gate) × (rest : List Gate) × (removal_gates directory folder ≡ gate ∷ rest)
removal_some directory folder =
    removal_by (is_whole directory) directory (record { want = Way; path = under directory (take 3 folder) }) (record { want = Way; path = under directory folder })

-- the folder of a key that was read
pub folder_of_key : (key : KeyRef) (folder : List ℕ) → ((base : List ℕ) → IsKey base (without_chunk (parts_of key)) → folder ≡ lower_of base) → IsFolder (text_of key) folder
folder_of_key key folder h =
    let base = base_of key in record { parts = parts_of key; read = key.spelled; base = base.0; base_is = base.1; whole = h base.0 base.1 }
