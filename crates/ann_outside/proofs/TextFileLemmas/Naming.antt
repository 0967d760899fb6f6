-- Which files reading a file, and putting a text in its place, name.
use Rattle.std.proofs.Common.{◌≡◌, ◌⊎◌, ℕ, ◌+◌, List, [], ◌∷◌, ◌++◌, length, refl, sym, ap, subst, ◌∙◌, inl, inr, Some, None, Option, Ok, Err}
use Rattle.std.specs.Prelude.{Result, IfSome, map, option_map}
use Rattle.ann_key.specs.declared.bytes.NoMemory.{NoMemory}
use Rattle.ann_outside.specs.Calls.{Log, Gained, IsLogBlank}
use Rattle.ann_outside.specs.declared.file_desk.Call.{Call}
use Rattle.ann_outside.specs.declared.file_desk.Call.TheVariants.{Size, ReadAt, Create, Append, Cut, Rename, Remove}
use Rattle.ann_outside.specs.declared.file_desk.DeskError.{DeskError}
use Rattle.ann_outside.specs.declared.file_desk.DeskError.TheVariants as E
use Rattle.ann_outside.specs.TextFile.Names.{CallNames, CallsName, NamesOnly}
use Rattle.ann_outside.specs.TextFile.Reads.{EndsRead, EndsUnkept, IsReadBy, read_calls}
use Rattle.ann_outside.specs.TextFile.Writes.{IsRefusal, IsStopped, Makes, Replaces, append_calls, new_name, replace_calls}
use Rattle.ann_outside.specs.declared.text_file.reading.FileRead.{FileRead}
use Rattle.ann_outside.specs.declared.text_file.reading.FileRead.TheVariants.{Text, TooLarge, Missing, Fault}
use Rattle.ann_outside.proofs.TextFileLemmas.Logs.{gained_more, gained_nothing}

-- ---- calls

call_wider : (P Q : List ℕ → Type 0) → ((name : List ℕ) → P name → Q name) → (call : Call) → CallNames P call → CallNames Q call
call_wider P Q f (Size name answer) h = f name h
call_wider P Q f (ReadAt name from answer) h = f name h
call_wider P Q f (Create name answer) h = f name h
call_wider P Q f (Append name piece answer) h = f name h
call_wider P Q f (Cut name size answer) h = f name h
call_wider P Q f (Rename from to answer) h = (f from h.0, f to h.1)
call_wider P Q f (Remove name answer) h = f name h

calls_wider : (P Q : List ℕ → Type 0) → ((name : List ℕ) → P name → Q name) → (calls : List Call) → CallsName P calls → CallsName Q calls
calls_wider P Q f [] h = tt
calls_wider P Q f (call ∷ calls) h = (call_wider P Q f call h.0, calls_wider P Q f calls h.1)

pub calls_both : (P : List ℕ → Type 0) (xs ys : List Call) → CallsName P xs → CallsName P ys → CallsName P (xs ++ ys)
calls_both P [] ys h k = k
calls_both P (x ∷ xs) ys h k = (h.0, calls_both P xs ys h.1 k)

calls_front : (P : List ℕ → Type 0) (xs ys : List Call) → CallsName P (xs ++ ys) → CallsName P xs
calls_front P [] ys h = tt
calls_front P (x ∷ xs) ys h = (h.0, calls_front P xs ys h.1)

calls_back : (P : List ℕ → Type 0) (xs ys : List Call) → CallsName P (xs ++ ys) → CallsName P ys
calls_back P [] ys h = h
calls_back P (x ∷ xs) ys h = calls_back P xs ys h.1

-- ---- logs

pub names_wider : {P Q : List ℕ → Type 0} {old new : Option Log} → ((name : List ℕ) → P name → Q name) → NamesOnly P old new → NamesOnly Q old new
names_wider {P} {Q} f h = record { calls = h.calls; gained = h.gained; named = calls_wider P Q f h.calls h.named }

-- no call was made
pub names_none : {P : List ℕ → Type 0} {old new : Option Log} → new ≡ old → NamesOnly P old new
names_none {P} {old} {new} e = record { calls = []; gained = e ∙ gained_nothing old; named = tt }

pub names_both : {P : List ℕ → Type 0} {old mid new : Option Log} → NamesOnly P old mid → NamesOnly P mid new → NamesOnly P old new
names_both {P} {old} {mid} {new} h k = record { calls = h.calls ++ k.calls; gained = gained_more old mid new h.calls k.calls h.gained k.gained; named = calls_both P h.calls k.calls h.named k.named }

-- after a log that was blank, all of its calls name such files
pub names_all : {P : List ℕ → Type 0} {old new : Option Log} → IsLogBlank old → NamesOnly P old new → IfSome new (λ log. CallsName P log.calls)
names_all {P} {old} {new} blank h = go old blank h.gained
  where
    go : (log : Option Log) → IsLogBlank log → Gained log new h.calls → IfSome new (λ log. CallsName P log.calls)
    go None b g = subst (λ (x : Option Log). IfSome x (λ log. CallsName P log.calls)) (sym g) tt
    go (Some told) b g =
        subst (λ (x : Option Log). IfSome x (λ log. CallsName P log.calls)) (sym (g ∙ ap (option_map {U = Log} (λ (log : Log). record { origin = log.origin; calls = log.calls ++ h.calls })) b)) h.named

-- ---- reading a file

read_named : (name : List ℕ) (at : ℕ) (pieces : List (List ℕ)) → CallsName (λ other. other ≡ name) (read_calls name at pieces)
read_named name at [] = tt
read_named name at (piece ∷ pieces) = (refl, read_named name (at + length piece) pieces)

ending_named : (name bytes : List ℕ) (limit : ℕ) (result : Result FileRead NoMemory) (calls : List Call) → EndsRead name limit bytes result calls → CallsName (λ other. other ≡ name) calls
ending_named name bytes limit (Ok (Text text)) calls h = subst (CallsName (λ other. other ≡ name)) (sym h.2) (refl, tt)
ending_named name bytes limit (Ok TooLarge) calls h = subst (CallsName (λ other. other ≡ name)) (sym h.1) tt
ending_named name bytes limit (Ok Missing) calls h = subst (CallsName (λ other. other ≡ name)) (sym h) (refl, tt)
ending_named name bytes limit (Ok Fault) calls h = subst (CallsName (λ other. other ≡ name)) (sym h) (refl, tt)
ending_named name bytes limit (Err e) calls (inl h) = subst (CallsName (λ other. other ≡ name)) (sym h) tt
ending_named name bytes limit (Err e) calls (inr h) = subst (CallsName (λ other. other ≡ name)) (sym h.1) (refl, tt)

pub reads_named : {old new : Option Log} {name : List ℕ} {limit : ℕ} {result : Result FileRead NoMemory} → IsReadBy old new name limit result → NamesOnly (λ other. other ≡ name) old new
reads_named {old} {new} {name} {limit} {result} r = record {
  calls = read_calls name 0 r.pieces ++ r.ending;
  gained = r.calls;
  named = calls_both (λ other. other ≡ name) (read_calls name 0 r.pieces) r.ending (read_named name 0 r.pieces) (ending_named name _ limit result r.ending r.ends);
}

-- ---- making one

refusal_named : (P : List ℕ → Type 0) (e : DeskError) (call : Call) (calls : List Call) → CallNames P call → IsRefusal e call calls → CallsName P calls
refusal_named P E.NoMemory call calls h r = subst (CallsName P) (sym r) tt
refusal_named P E.Failed (Create name answer) calls h r = subst (CallsName P) (sym r) (h, tt)
refusal_named P E.Failed (Append name piece answer) calls h r = subst (CallsName P) (sym r) (h, tt)
refusal_named P E.Failed (Rename from to answer) calls h r = subst (CallsName P) (sym r) (h, tt)
refusal_named P E.Missing (Append name piece answer) calls h r = subst (CallsName P) (sym r) (h, tt)
refusal_named P E.Missing (Rename from to answer) calls h r = subst (CallsName P) (sym r) (h, tt)
refusal_named P E.Failed (Size name answer) calls h r = absurd r
refusal_named P E.Failed (ReadAt name from answer) calls h r = absurd r
refusal_named P E.Failed (Cut name size answer) calls h r = absurd r
refusal_named P E.Failed (Remove name answer) calls h r = absurd r
refusal_named P E.Missing (Size name answer) calls h r = absurd r
refusal_named P E.Missing (ReadAt name from answer) calls h r = absurd r
refusal_named P E.Missing (Create name answer) calls h r = absurd r
refusal_named P E.Missing (Cut name size answer) calls h r = absurd r
refusal_named P E.Missing (Remove name answer) calls h r = absurd r

-- of calls that all name such files, those that were made do
pub makes_named : {P : List ℕ → Type 0} {old new : Option Log} (all : List Call) (result : Result (Unit {0}) DeskError) → CallsName P all → Makes old new all result → NamesOnly P old new
makes_named {P} {old} {new} all result h m = go result m
  where
    go : (r : Result (Unit {0}) DeskError) → Makes old new all r → NamesOnly P old new
    go (Ok done) g = record { calls = all; gained = g; named = h }
    go (Err e) s =
        let split : CallsName P (s.before ++ s.call ∷ s.after) = subst (CallsName P) s.all_is h in
        record {
          calls = s.before ++ s.ending;
          gained = s.calls;
          named = calls_both P s.before s.ending (calls_front P s.before (s.call ∷ s.after) split) (refusal_named P e s.call s.ending (calls_back P s.before (s.call ∷ s.after) split).0 s.refused);
        }

-- ---- putting a text in its place

appends_named : (P : List ℕ → Type 0) (name : List ℕ) (pieces : List (List ℕ)) → P name → CallsName P (append_calls name pieces)
appends_named P name [] h = tt
appends_named P name (piece ∷ pieces) h = (h, appends_named P name pieces h)

abbrev IsOwn : List ℕ → List ℕ → Type 0
IsOwn name other = (other ≡ name) ⊎ (other ≡ new_name name)

pub replaces_named : {old new : Option Log} (name text : List ℕ) (result : Result (Unit {0}) DeskError) → Replaces old new name text result → NamesOnly (λ other. (other ≡ name) ⊎ (other ≡ new_name name)) old new
replaces_named {old} {new} name text result (pieces, all, makes) =
    makes_named (replace_calls name pieces) result (inr refl, calls_both (IsOwn name) (append_calls (new_name name) pieces) (Rename (new_name name) name (Ok tt) ∷ []) (appends_named (IsOwn name) (new_name name) pieces (inr refl)) ((inr refl, inl refl), tt)) makes
