-- What is left of a run's programs, and which desks were asked for.
use Rattle.ann_outside.specs.Told.{DeskTold, ProgramsTold}
use Rattle.std.proofs.Common.{◌≡◌, ◌≤◌, ◌+◌, inl, ℕ, suc, List, [], ◌∷◌, ◌++◌, length, append_assoc, refl, sym, ap, subst, ◌∙◌, arith, true, false, Some, None, Option, Ok}
use Rattle.std.specs.Prelude.{Result, IsErr}
use Rattle.std.specs.List.{range_with_len}
use Rattle.std.proofs.lemmas.List.{append-nil, length-append, map-append}
use Rattle.ann_outside.specs.Calls.{IsLogFrom}
use Rattle.ann_outside.specs.Causes.{AddsOne, Stays}
use Rattle.ann_outside.specs.Desks.{Made}
use Rattle.journal_model.specs.declared.entry.Entry.{Entry}
use Rattle.journal_model.specs.Legality.{count}
use Rattle.child_link.specs.Wires.{WireValue}
use Rattle.child_life.specs.End.Wires.{AreWires, came}
use Rattle.child_life.specs.End.Programs.{told, AddsAll, Leaves, RoseBy, is_failed_start}
use Rattle.run_starts.proofs.Leaving.{rose_still}
use Rattle.run_and_check.specs.Run.Runs.{AddsMade, BeganAs, origins_of}
use Rattle.run_and_check.specs.Run.Workings.{AddsWorkers}
use Rattle.run_and_check.proofs.RunLemmas.Origins.{began_more, began_same}
use Rattle.ann_key.proofs.Lists.{range_next as range_more}
use Rattle.child_life.proofs.EndLemmas.Across.{adds_none, leaves_if}

-- ---- programs

-- nothing was started
pub leaves_nothing : (W : Type 0) (programs : ProgramsTold) (program : List ℕ) (journal : List Entry) (wires : List WireValue) → journal ≡ [] → wires ≡ []
    → Leaves W program journal programs programs wires
leaves_nothing W programs program journal wires j w = record {
  wired = subst (λ (x : List Entry). AreWires programs.starts journal 0 (came x) wires) (sym j) (subst (λ (ws : List WireValue). AreWires programs.starts journal 0 [] ws) (sym w) tt);
  started = inl (subst (λ (x : List Entry). AddsAll programs.starts programs.starts (told program x)) (sym j) (adds_none programs.starts));
  faults = subst (λ (x : List Entry). RoseBy (count is_failed_start x) programs.faults programs.faults) (sym j) (rose_still 0 programs.faults programs.faults programs.faults (omega arith) (omega arith));
}

-- the running out of memory, the program and the journal are named otherwise
pub leaves_named : {V W : Type 0} {program program' : List ℕ} {journal journal' : List Entry} {before after : ProgramsTold} {wires : List WireValue} → (V → W) → journal' ≡ journal → program ≡ program'
    → Leaves V program journal before after wires → Leaves W program' journal' before after wires
leaves_named {V} {W} {program} {program'} {journal} {journal'} {before} {after} {wires} f j e h =
    subst (λ (x : List Entry). Leaves W program' x before after wires) (sym j)
    (subst (λ (p : List ℕ). Leaves W p journal before after wires) e
    (leaves_if f h))

pub ok_err : {T E A : Type 0} (r : Result T E) (x : T) → r ≡ Ok x → IsErr r → A
ok_err r x e h = absurd (let bad : false ≡ true = subst IsErr e h in cc)

-- ---- desks

pub stays_same : {A : Type 0} (old new : Option A) → Stays old new → new ≡ old
stays_same None None s = refl
stays_same None (Some y) s = absurd s
stays_same (Some x) None s = absurd s
stays_same (Some x) (Some y) s = ap Some s

made_none : (old new : Option (List Made)) → Stays old new → AddsMade old new []
made_none None None s = tt
made_none None (Some ys) s = absurd s
made_none (Some xs) None s = absurd s
made_none (Some xs) (Some ys) s = s ∙ sym (append-nil xs)

same_stays : (t : Option (List Made)) → Stays t t
same_stays None = tt
same_stays (Some xs) = refl

-- no worker's desk was asked for
pub adds_no_worker : (jobs : ℕ) (made : Option (List Made)) (workers : List DeskTold) → workers ≡ [] → AddsWorkers jobs made made workers
adds_no_worker jobs made workers none =
    subst (AddsWorkers jobs made made) (sym none) record { few = omega arith; more = []; desks = made_none made made (same_stays made); numbers = refl; began = tt }

-- as many desks, whose logs began with the same files, whatever else they tell now
pub adds_as_many : (jobs : ℕ) (old new : Option (List Made)) (workers workers' : List DeskTold) → length workers' ≡ length workers
    → origins_of workers' ≡ origins_of workers → AddsWorkers jobs old new workers → AddsWorkers jobs old new workers'
adds_as_many jobs old new workers workers' same origins h = record {
  few = subst (λ (n : ℕ). n ≤ jobs) (sym same) h.few;
  more = h.more;
  desks = h.desks;
  numbers = h.numbers ∙ ap (range_with_len 1) (sym same);
  began = began_same h.more workers workers' origins h.began;
}

-- they are within a larger number
pub adds_within : (n jobs : ℕ) (old new : Option (List Made)) (workers : List DeskTold) → n ≤ jobs → AddsWorkers n old new workers → AddsWorkers jobs old new workers
adds_within n jobs old new workers within h = record { few = let few = h.few in omega (arith, few, within); more = h.more; desks = h.desks; numbers = h.numbers; began = h.began }

-- no memory was found for the next one
pub adds_stay : (n jobs : ℕ) (old mid new : Option (List Made)) (workers : List DeskTold) → n ≤ jobs → Stays mid new → AddsWorkers n old mid workers → AddsWorkers jobs old new workers
adds_stay n jobs old mid new workers within stays h = subst (λ (m : Option (List Made)). AddsWorkers jobs old m workers) (sym (stays_same mid new stays)) (adds_within n jobs old mid workers within h)

made_more : (old mid new : Option (List Made)) (more : List Made) (m : Made) → AddsMade old mid more → AddsOne mid new m → AddsMade old new (more ++ m ∷ [])
made_more None None None more m h a = tt
made_more None None (Some zs) more m h a = absurd a
made_more None (Some ys) new more m h a = absurd h
made_more (Some xs) None new more m h a = absurd h
made_more (Some xs) (Some ys) None more m h a = absurd a
made_more (Some xs) (Some ys) (Some zs) more m h a = a ∙ ap (λ (v : List Made). v ++ m ∷ []) h ∙ append_assoc xs more (m ∷ [])

-- the next one was asked for
pub adds_worker : (n : ℕ) (old mid new : Option (List Made)) (workers workers' : List DeskTold) (table : DeskTold) (m : Made) → length workers ≡ n → workers' ≡ workers ++ table ∷ [] → m.number ≡ n + 1
    → AddsWorkers n old mid workers → AddsOne mid new m → IsLogFrom table.log m.files → AddsWorkers (n + 1) old new workers'
adds_worker n old mid new workers workers' table m long one next h adds from =
    let more : length workers' ≡ suc n = ap (λ (ts : List DeskTold). length ts) one ∙ length-append workers (table ∷ []) ∙ (let e : length workers + 1 ≡ suc n = omega (arith, long) in e) in
    let here : m.number ≡ 1 + n = (let e : n + 1 ≡ 1 + n = omega arith in next ∙ e) in
    record {
      few = omega (arith, more);
      more = h.more ++ m ∷ [];
      desks = made_more old mid new h.more m h.desks adds;
      numbers =
          map-append (λ (x : Made). x.number) h.more (m ∷ [])
          ∙ ap (λ (ks : List ℕ). ks ++ m.number ∷ []) (h.numbers ∙ ap (range_with_len 1) long)
          ∙ ap (λ (k : ℕ). range_with_len 1 n ++ k ∷ []) here
          ∙ sym (range_more 1 n)
          ∙ ap (range_with_len 1) (sym more);
      began = subst (BeganAs (h.more ++ m ∷ [])) (sym one) (began_more h.more workers m table h.began from);
    }

-- and desk 0 before
pub made_first : (old mid new : Option (List Made)) (m : Made) (more : List Made) → AddsOne old mid m → AddsMade mid new more → AddsMade old new (m ∷ more)
made_first None None None m more a h = tt
made_first None None (Some zs) m more a h = absurd h
made_first None (Some ys) new m more a h = absurd a
made_first (Some xs) None new m more a h = absurd a
made_first (Some xs) (Some ys) None m more a h = absurd h
made_first (Some xs) (Some ys) (Some zs) m more a h = h ∙ ap (λ (v : List Made). v ++ more) a ∙ append_assoc xs (m ∷ []) more
