-- How a log gains calls.
use Rattle.std.proofs.Common.{◌≡◌, ◌∙◌, List, [], ◌∷◌, ◌++◌, refl, sym, ap, append_assoc, append-nil}
use Rattle.std.specs.Prelude.{true, false, Option, Some, None, option_map}
use Rattle.ann_outside.specs.Calls.{Log, Gained, logged, lacks_memory}
use Rattle.ann_outside.specs.declared.file_desk.Call.{Call}

pub gained_nothing : (log : Option Log) → Gained log log []
gained_nothing None = refl
gained_nothing (Some told) = ap (λ (calls : List Call). Some (record { origin = told.origin; calls = calls })) (sym (append-nil told.calls))

gained_twice : (a : Option Log) (xs ys : List Call)
    → option_map {U = Log} (λ (told : Log). record { origin = told.origin; calls = told.calls ++ ys }) (option_map {U = Log} (λ (told : Log). record { origin = told.origin; calls = told.calls ++ xs }) a)
    ≡ option_map {U = Log} (λ (told : Log). record { origin = told.origin; calls = told.calls ++ (xs ++ ys) }) a
gained_twice None xs ys = refl
gained_twice (Some told) xs ys = ap (λ (calls : List Call). Some (record { origin = told.origin; calls = calls })) (append_assoc told.calls xs ys)

pub gained_more : (a b c : Option Log) (xs ys : List Call) → Gained a b xs → Gained b c ys → Gained a c (xs ++ ys)
gained_more a b c xs ys e f = f ∙ ap (option_map {U = Log} (λ (told : Log). record { origin = told.origin; calls = told.calls ++ ys })) e ∙ gained_twice a xs ys

pub gained_call : (log : Option Log) (call : Call) → lacks_memory call ≡ false → Gained log (logged log call) (call ∷ [])
gained_call None call e = refl
gained_call (Some told) call e = rw e refl

-- a call for which no memory was found isn't in the log
pub gained_without : (log : Option Log) (call : Call) → lacks_memory call ≡ true → Gained log (logged log call) []
gained_without None call e = refl
gained_without (Some told) call e = rw e (gained_nothing (Some told))
