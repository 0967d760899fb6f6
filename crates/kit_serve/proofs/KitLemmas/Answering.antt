-- What a private step of the kit does is what is due.
use Rattle.std.proofs.Common.{ℕ, ◌≡◌, ◌&&◌, ◌||◌, Bool, true, false, List, [], ◌∷◌, Option, Some, None, Result, Ok, Err, IfOk, OnOk, OnErr, codes, if◌then◌else◌, map, refl, sym, ap, subst, ◌∙◌, inl, inr}
use Rattle.std.specs.Str.{IsUtf8, is_utf8}
use Rattle.std.proofs.lemmas.Str.{IsUtf8-from_is_utf8, is_utf8-from_IsUtf8}
use Rattle.annex_model.specs.Messages.{HostMessage, Transfer, RemoteMessage, remote_line}
use Rattle.kit_serve.specs.declared.kit.call.Said.{Said}
use Rattle.kit_serve.specs.declared.kit.call.Asked.{Asked}
use Rattle.kit_serve.specs.declared.kit.call.Call.{Call}
use Rattle.kit_serve.specs.declared.kit.kit.Stage.{Stage}
use Rattle.kit_serve.specs.declared.kit.kit.Stage.TheVariants.{Over}
use Rattle.kit_serve.specs.Kit.Calls.{called}
use Rattle.kit_serve.specs.Kit.Kits.{Due, Asks, Line, work_due, refusal, transfer_asked, asked_by, said_by, final_lines, is_prepare, is_yes}
use Rattle.kit_serve.specs.Kit.Stages.{KitValue, Answers, Tries, AnswersAt, TriesAt}
use Rattle.ann_key.proofs.Booleans.{never_true as is_false}

-- a transfer of a prepared kit, by its file's name
pub transfer_due : (p store : Bool) (key file name : List ℕ) → p ≡ true → name ≡ file → IsUtf8 file
    → work_due None [] p (Transfer store key file) ≡ Asks (transfer_asked store key name)
transfer_due p store key file name is same text =
    ap (λ (b : Bool). work_due None [] b (Transfer store key file)) is
    ∙ ap (λ (b : Bool). if b then Asks (transfer_asked store key file) else refusal (Transfer store key file) (codes "not text")) (is_utf8-from_IsUtf8 file text)
    ∙ ap (λ (f : List ℕ). Asks (transfer_asked store key f)) (sym same)

pub untold_due : (p store : Bool) (key file : List ℕ) → p ≡ true → (IsUtf8 file → ⊥)
    → work_due None [] p (Transfer store key file) ≡ refusal (Transfer store key file) (codes "not text")
untold_due p store key file is no_text =
    ap (λ (b : Bool). work_due None [] b (Transfer store key file)) is
    ∙ ap (λ (b : Bool). if b then Asks (transfer_asked store key file) else refusal (Transfer store key file) (codes "not text"))
    (is_false (is_utf8 file) (λ h. no_text (IsUtf8-from_is_utf8 file h)))

-- without a call nothing more is prepared
pub no_more : (b p : Bool) → b || (p && false) ≡ b
no_more true p = refl
no_more false true = refl
no_more false false = refl

-- the remote was asked for what is due, and its word gives the lines
pub answers_asked : {R E : Type 0} (calls : R → Option (List Call)) (r r' : R) (p : Bool) (s stage : Stage) (old new : KitValue R) (due : Due) (asked : Asked) (request : Option HostMessage) (said : Said) (result : Result (List (List ℕ)) E)
    → record { remote = r; prepared = p; stage = s } ≡ old
    → due ≡ Asks asked
    → calls r' ≡ called {E = E} (calls r) asked (Ok said)
    → OnOk result (new ≡ record { remote = r'; prepared = p || (is_prepare request && is_yes said); stage = stage })
    → IfOk result (λ say. say ≡ map remote_line (final_lines request said))
    → IfOk result (Answers calls old new due request)
answers_asked {R} {E} calls r r' p s stage old new due asked request said (Ok say) before is_due gained after says = record {
  call = Some (record { asked = asked; said = said });
  asks = ap asked_by is_due;
  says = says ∙ sym (ap (λ d. map remote_line (said_by d request (Some (record { asked = asked; said = said })))) is_due);
  gained = ap (λ k. calls k.remote) after ∙ gained ∙ ap (λ k. called {E = E} (calls k.remote) asked (Ok said)) before;
  prepared = ap (λ k. k.prepared) after ∙ ap (λ k. k.prepared || (is_prepare request && is_yes said)) before;
}
answers_asked calls r r' p s stage old new due asked request said (Err e) before is_due gained after says = tt

-- it was asked, and the line wasn't said
pub tries_asked : {R E T : Type 0} (calls : R → Option (List Call)) (r r' : R) (p : Bool) (s : Stage) (old new : KitValue R) (due : Due) (asked : Asked) (said : Said) (result : Result T E)
    → record { remote = r; prepared = p; stage = s } ≡ old
    → due ≡ Asks asked
    → calls r' ≡ called {E = E} (calls r) asked (Ok said)
    → OnErr result (new ≡ record { remote = r'; prepared = p; stage = s })
    → OnErr result (Tries calls old new due × (new.stage ≡ old.stage))
tries_asked calls r r' p s old new due asked said (Ok say) before is_due gained after = tt
tries_asked {R} {E} calls r r' p s old new due asked said (Err e) before is_due gained after = (
  record {
    call = Some (record { asked = asked; said = said });
    asks = inr (ap asked_by is_due);
    gained = ap (λ k. calls k.remote) after ∙ gained ∙ ap (λ k. called {E = E} (calls k.remote) asked (Ok said)) before;
  },
  ap (λ k. k.stage) after ∙ ap (λ k. k.stage) before,
)

-- a line was due, and was said
pub answers_line : {R E : Type 0} (calls : R → Option (List Call)) (r : R) (p : Bool) (s stage : Stage) (old new : KitValue R) (due : Due) (line : RemoteMessage) (request : Option HostMessage) (result : Result (List (List ℕ)) E)
    → record { remote = r; prepared = p; stage = s } ≡ old
    → due ≡ Line line
    → OnOk result (new ≡ record { remote = r; prepared = p; stage = stage })
    → IfOk result (λ say. say ≡ remote_line line ∷ [])
    → IfOk result (Answers calls old new due request)
answers_line calls r p s stage old new due line request (Ok say) before is_due after says = record {
  call = None;
  asks = ap asked_by is_due;
  says = says ∙ sym (ap (λ d. map remote_line (said_by d request None)) is_due);
  gained = ap (λ k. calls k.remote) after ∙ ap (λ k. calls k.remote) before;
  prepared = ap (λ k. k.prepared) after ∙ ap (λ k. k.prepared) before ∙ sym (no_more old.prepared (is_prepare request));
}
answers_line calls r p s stage old new due line request (Err e) before is_due after says = tt

-- nothing was asked
pub tries_line : {R E T : Type 0} (calls : R → Option (List Call)) (old new : KitValue R) (due : Due) (result : Result T E)
    → OnErr result (new ≡ old)
    → OnErr result (Tries calls old new due × (new.stage ≡ old.stage))
tries_line calls old new due (Ok say) same = tt
tries_line calls old new due (Err e) same = (record { call = None; asks = inl refl; gained = ap (λ k. calls k.remote) same }, ap (λ k. k.stage) same)

-- what holds anyway holds of an error
pub on_err : {T E : Type 0} {P : Type 0} (result : Result T E) → P → OnErr result P
on_err (Ok x) holds = tt
on_err (Err e) holds = holds

-- what was done for where the kit stands, which was taken out meanwhile
pub answers_at : {R E : Type 0} (calls : R → Option (List Call)) (settings : R → List (List ℕ)) (r : R) (p : Bool) (s meanwhile stage : Stage) (old new : KitValue R) (m : HostMessage) (result : Result (List (List ℕ)) E)
    → record { remote = r; prepared = p; stage = s } ≡ old
    → stage ≡ s
    → IfOk result (AnswersAt calls settings stage m (record { remote = r; prepared = p; stage = meanwhile }) new)
    → IfOk result (AnswersAt calls settings old.stage m old new)
answers_at {R} calls settings r p s meanwhile stage old new m (Ok say) before at a =
    subst (λ (k : KitValue R). AnswersAt calls settings k.stage m k new say) before
    (subst (λ (t : Stage). AnswersAt calls settings t m (record { remote = r; prepared = p; stage = s }) new say) at
    (record { call = a.call; asks = a.asks; says = a.says; gained = a.gained; prepared = a.prepared }))
answers_at calls settings r p s meanwhile stage old new m (Err e) before at a = tt

pub tries_at : {R E T : Type 0} (calls : R → Option (List Call)) (settings : R → List (List ℕ)) (r : R) (p : Bool) (s meanwhile stage : Stage) (old new : KitValue R) (m : HostMessage) (result : Result T E)
    → record { remote = r; prepared = p; stage = s } ≡ old
    → stage ≡ s
    → OnErr result (TriesAt calls settings stage m (record { remote = r; prepared = p; stage = meanwhile }) new × (new.stage ≡ Over))
    → OnErr result (TriesAt calls settings old.stage m old new × (new.stage ≡ Over))
tries_at calls settings r p s meanwhile stage old new m (Ok say) before at a = tt
tries_at {R} calls settings r p s meanwhile stage old new m (Err e) before at a = (
  subst (λ (k : KitValue R). TriesAt calls settings k.stage m k new) before
      (subst (λ (t : Stage). TriesAt calls settings t m (record { remote = r; prepared = p; stage = s }) new) at
      (record { call = a.0.call; asks = a.0.asks; gained = a.0.gained })),
  a.1,
)
