-- One call more in a course of calls.
use Rattle.std.proofs.Common.{◌≡◌, List, [], ◌∷◌, ◌++◌, Bool, Some, ap, sym, refl, ◌∙◌, subst}
use Rattle.std.specs.Prelude.{Result, Ok, Err}
use Rattle.std.specs.List.{filter_map}
use Rattle.std.proofs.lemmas.List.{append-nil}
use Rattle.std.proofs.lemmas.List.Elements.{filter_map-append}
use Rattle.ann_key.specs.declared.bytes.NoMemory.{NoMemory as WithoutMemory}
use Rattle.kit_serve.specs.declared.kit.call.Said.{Said}
use Rattle.kit_serve.specs.declared.kit.call.Asked.{Asked}
use Rattle.kit_serve.specs.declared.kit.call.Call.{Call}
use Rattle.kit_serve.specs.Kit.Calls.{called, plain}
use Rattle.dir_remote.specs.Guard.Guards.{GuardTold}
use Rattle.remote_dir_bin.specs.Following.{AreDone, Deed, Does, Follows, call_of, told_after}

done_push : (sweeps : Bool) (old : GuardTold) (deeds : List Deed) (deed : Deed) → AreDone sweeps old deeds → Does sweeps (told_after old deeds) deed.now deed.asked deed.result
    → AreDone sweeps old (deeds ++ deed ∷ [])
done_push sweeps old [] deed done does = (does, tt)
done_push sweeps old (d ∷ ds) deed done does = (done.0, done_push sweeps d.now ds deed done.1 does)

told_push : (old : GuardTold) (deeds : List Deed) (deed : Deed) → told_after old (deeds ++ deed ∷ []) ≡ deed.now
told_push old [] deed = refl
told_push old (d ∷ ds) deed = told_push d.now ds deed

-- the calls that are told, with this one where it found memory
told_one : (new : GuardTold) (asked : Asked) (result : Result Said WithoutMemory) (calls more : List Call) → Some more ≡ called (Some calls) (plain asked) result
    → more ≡ calls ++ filter_map call_of (record { asked = asked; result = result; now = new } ∷ [])
told_one new asked (Ok said) calls more is = let e : Some more ≡ Some (calls ++ record { asked = plain asked; said = said } ∷ []) = is in cc
told_one new asked (Err x) calls more is = let e : Some more ≡ Some calls = is in let same : more ≡ calls = cc in same ∙ sym (append-nil calls)

pub follows_push : (sweeps : Bool) (calls more : List Call) (old new : GuardTold) (asked : Asked) (result : Result Said WithoutMemory)
    → Follows sweeps calls old → Does sweeps old new asked result → Some more ≡ called (Some calls) (plain asked) result → Follows sweeps more new
follows_push sweeps calls more old new asked result f does is =
    let deed : Deed = record { asked = asked; result = result; now = new } in
    record {
      begun = f.begun;
      deeds = f.deeds ++ deed ∷ [];
      done = done_push sweeps f.begun f.deeds deed f.done (subst (λ (t : GuardTold). Does sweeps t new asked result) f.now_is does);
      calls_are = told_one new asked result calls more is ∙ ap (λ (cs : List Call). cs ++ filter_map call_of (deed ∷ [])) f.calls_are
          ∙ sym (filter_map-append call_of f.deeds (deed ∷ []));
      now_is = sym (told_push f.begun f.deeds deed);
    }

pub follows_none : (sweeps : Bool) (now : GuardTold) → Follows sweeps [] now
follows_none sweeps now = record { begun = now; deeds = []; done = tt; calls_are = refl; now_is = refl }

-- the same of a call that was told, by what is known of it
pub follows_told : (sweeps then : Bool) (calls more : List Call) (old new : GuardTold) (asked told : Asked) (result given : Result Said WithoutMemory)
    → Follows sweeps calls old → Does sweeps old new asked result → then ≡ sweeps → told ≡ plain asked → given ≡ result
    → Some more ≡ called (Some calls) told given → Follows then more new
follows_told sweeps then calls more old new asked told result given f does same is_asked is_result is =
    subst (λ (b : Bool). Follows b more new) (sym same)
    (follows_push sweeps calls more old new asked result f does
    (is ∙ ap (λ (a : Asked). called {E = WithoutMemory} (Some calls) a given) is_asked ∙ ap (λ (r : Result Said WithoutMemory). called (Some calls) (plain asked) r) is_result))
