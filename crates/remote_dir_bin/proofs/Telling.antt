-- Each call that is told is one of the course, and did what its clause says.
use Rattle.std.proofs.Common.{ℕ, ◌≡◌, List, [], ◌∷◌, ◌++◌, Bool, Option, Some, None, ap, sym, refl, ◌∙◌, subst}
use Rattle.std.specs.Prelude.{Result, Ok, Err}
use Rattle.std.specs.List.{filter_map, cons_option}
use Rattle.ann_key.specs.declared.bytes.NoMemory.{NoMemory as WithoutMemory}
use Rattle.kit_serve.specs.declared.kit.call.Said.{Said}
use Rattle.kit_serve.specs.declared.kit.call.Said.TheVariants.{Yes}
use Rattle.kit_serve.specs.declared.kit.call.Asked.{Asked}
use Rattle.kit_serve.specs.declared.kit.call.Asked.TheVariants.{Prepare, Initialize, Store, Retrieve, Check, Remove}
use Rattle.kit_serve.specs.declared.kit.call.Call.{Call}
use Rattle.dir_remote.specs.Guard.Guards.{GuardTold, Stores}
use Rattle.dir_remote.proofs.GuardLemmas.Meaning.{words_hold}
use Rattle.remote_dir_bin.specs.Following.{AreDone, CallsAreOf, Deed, Does, IsOf, StoredIsThere, call_by, call_of, told_after}

pub found : (sweeps : Bool) (begun : GuardTold) (deeds : List Deed) (before after : List Call) (call : Call)
    → AreDone sweeps begun deeds → filter_map call_of deeds ≡ before ++ call ∷ after → IsOf sweeps begun deeds before call
found sweeps begun [] [] after call done is = absurd cc
found sweeps begun [] (b ∷ bs) after call done is = absurd cc
found sweeps begun (deed ∷ deeds) before after call done is =
    go (λ (bs : List Call) (tail : filter_map call_of deeds ≡ bs ++ call ∷ after). found sweeps deed.now deeds bs after call done.1 tail) (call_of deed) refl before is
  where
    Rest : Type 0
    Rest = (bs : List Call) → filter_map call_of deeds ≡ bs ++ call ∷ after → IsOf sweeps deed.now deeds bs call

    later : Rest → (o : Option Call) (bs : List Call) → call_of deed ≡ o → filter_map call_of deeds ≡ bs ++ call ∷ after
        → IsOf sweeps begun (deed ∷ deeds) (cons_option o bs) call
    later rest o bs e tail =
        let c = rest bs tail in
        record {
          first = deed ∷ c.first;
          deed = c.deed;
          rest = c.rest;
          whole = ap (λ (ds : List Deed). deed ∷ ds) c.whole;
          earlier = ap (λ (x : Option Call). cons_option x (filter_map call_of c.first)) e ∙ ap (cons_option o) c.earlier;
          told = c.told;
          does = c.does;
        }

    go : Rest → (o : Option Call) → call_of deed ≡ o → (bs : List Call) → cons_option o (filter_map call_of deeds) ≡ bs ++ call ∷ after → IsOf sweeps begun (deed ∷ deeds) bs call
    go rest None e bs s = later rest None bs e s
    go rest (Some c) e [] s =
        let same : c ≡ call = cc in
        record { first = []; deed = deed; rest = deeds; whole = refl; earlier = refl; told = e ∙ ap Some same; does = done.0 }
    go rest (Some c) e (b ∷ bs) s =
        let same : c ≡ b = cc in
        let tail : filter_map call_of deeds ≡ bs ++ call ∷ after = cc in
        subst (λ (x : Call). IsOf sweeps begun (deed ∷ deeds) (x ∷ bs) call) same (later rest (Some c) bs e tail)

pub calls_are_of : CallsAreOf
calls_are_of sweeps calls before after call now f is = found sweeps f.begun f.deeds before after call f.done (sym f.calls_are ∙ is)

asked_is : (one other : Call) → Some one ≡ Some other → one.asked ≡ other.asked
asked_is one other e = let same : one ≡ other = cc in ap (λ (c : Call). c.asked) same

said_is : (one other : Call) → Some one ≡ Some other → one.said ≡ other.said
said_is one other e = let same : one ≡ other = cc in ap (λ (c : Call). c.said) same

no_call : {A : Type 0} (call : Call) → None ≡ Some call → A
no_call call e = absurd cc

-- a store to which the remote said Yes
stored : (sweeps : Bool) (old new : GuardTold) (key file : List ℕ) (asked : Asked) (result : Result Said WithoutMemory)
    → call_by asked result ≡ Some (record { asked = Store key file; said = Yes }) → Does sweeps old new asked result → Stores old new key file (Ok Yes)
stored sweeps old new key file (Store k f) (Ok said) told does =
    let one : Call = record { asked = Store k f; said = said } in
    let other : Call = record { asked = Store key file; said = Yes } in
    let e : Store k f ≡ Store key file = asked_is one other told in
    let a : k ≡ key = cc in
    let b : f ≡ file = cc in
    let c : said ≡ Yes = said_is one other told in
    subst (λ (x : List ℕ). Stores old new x file (Ok Yes)) a
    (subst (λ (x : List ℕ). Stores old new k x (Ok Yes)) b (subst (λ (x : Said). Stores old new k f (Ok x)) c does))
stored sweeps old new key file (Prepare values) (Ok said) told does =
    let e : Prepare values ≡ Store key file = asked_is (record { asked = Prepare values; said = said }) (record { asked = Store key file; said = Yes }) told in absurd cc
stored sweeps old new key file (Initialize values) (Ok said) told does =
    let e : Prepare values ≡ Store key file = asked_is (record { asked = Prepare values; said = said }) (record { asked = Store key file; said = Yes }) told in absurd cc
stored sweeps old new key file (Retrieve k f) (Ok said) told does =
    let e : Retrieve k f ≡ Store key file = asked_is (record { asked = Retrieve k f; said = said }) (record { asked = Store key file; said = Yes }) told in absurd cc
stored sweeps old new key file (Check k) (Ok said) told does =
    let e : Check k ≡ Store key file = asked_is (record { asked = Check k; said = said }) (record { asked = Store key file; said = Yes }) told in absurd cc
stored sweeps old new key file (Remove k) (Ok said) told does =
    let e : Remove k ≡ Store key file = asked_is (record { asked = Remove k; said = said }) (record { asked = Store key file; said = Yes }) told in absurd cc
stored sweeps old new key file asked (Err e) told does = no_call (record { asked = Store key file; said = Yes }) told

pub stored_is_there : StoredIsThere
stored_is_there sweeps begun deeds before key file c =
    (words_hold (told_after begun c.first) c.deed.now key file).0 (stored sweeps (told_after begun c.first) c.deed.now key file c.deed.asked c.deed.result c.told c.does)
