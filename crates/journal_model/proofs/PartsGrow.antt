-- A part grows with the journal.
use Rattle.journal_model.specs.declared.opening.Opening.{Opening}
use Rattle.std.proofs.Common.{◌≡◌, ℕ, List, [], ◌∷◌, ◌++◌, refl, sym, ap, ◌∙◌, append_assoc, Bool, true, false, length, not, ◌==◌, cond, Some, None, Option}
use Rattle.std.specs.Prelude.{◌&&◌}
use Rattle.std.specs.List.{cons_option}
use Rattle.std.proofs.lemmas.List.{append-nil}
use Rattle.journal_model.specs.declared.verdict.Why.{Why}
use Rattle.journal_model.specs.declared.verdict.Why.TheVariants.{Eof, ReadFault, LongLine, Full, Memory, Closed, Foul, Error, Version}
use Rattle.journal_model.specs.declared.entry.What.{What}
use Rattle.journal_model.specs.declared.entry.What.TheVariants.{Got, End}
use Rattle.journal_model.specs.declared.entry.Entry.{Entry}
use Rattle.annex_model.specs.Talks.{Item, Remote}
use Rattle.journal_model.specs.Journal.{is_live, is_open, addressed}
use Rattle.journal_model.specs.Parts.{part, part_from, item_of, ends_at, is_place, is_for}
use Rattle.journal_model.specs.Legality.{may_come, may_stop}
use Rattle.std.proofs.lemmas.Bool.{and_right as and_false}
use Rattle.ann_key.proofs.Booleans.{and_last as and_right}
use Rattle.ann_key.proofs.Lists.{cons_option-append}

-- no entry stands first that ends c at an earlier line
abbrev pub NamesNoLine : ℕ → List Entry → Type 0
NamesNoLine c ys = (p : ℕ) → ends_at c p ys ≡ false

ends_at-append : (c p : ℕ) (xs ys : List Entry) → NamesNoLine c ys → ends_at c p (xs ++ ys) ≡ ends_at c p xs
ends_at-append c p [] ys h = h p
ends_at-append c p (x ∷ xs) ys h = refl

item_of-append : (c j : ℕ) (past : List Entry) (w : What) (xs ys : List Entry) → NamesNoLine c ys
    → item_of c j past w (xs ++ ys) ≡ item_of c j past w xs
item_of-append c j past (Got child line) xs ys h =
    ap (λ (b : Bool). cond (child == c && is_for j (addressed past c line).0 && is_open past c j && not b)
    (Some (record { side = Remote; at = length past; text = (addressed past c line).1 })) None)
    (ends_at-append c (length past) xs ys h)
item_of-append c j past w xs ys h = refl

pub part_from-append : (c j : ℕ) (past xs ys : List Entry) → NamesNoLine c ys
    → part_from c j past (xs ++ ys) ≡ part_from c j past xs ++ part_from c j (past ++ xs) ys
part_from-append c j past [] ys h = ap (λ (p : List Entry). part_from c j p ys) (sym (append-nil past))
part_from-append c j past (e ∷ xs) ys h =
    let more = part_from-append c j (past ++ e ∷ []) xs ys h in
    let end = part_from c j (past ++ e ∷ xs) ys in
    let here : part_from c j (past ++ e ∷ []) (xs ++ ys) ≡ part_from c j (past ++ e ∷ []) xs ++ end =
    more ∙ ap (λ (p : List Entry). part_from c j (past ++ e ∷ []) xs ++ part_from c j p ys) (append_assoc past (e ∷ []) xs) in
    ap (λ (o : Option Item). cons_option o (part_from c j (past ++ e ∷ []) (xs ++ ys))) (item_of-append c j past e.what xs ys h)
    ∙ ap (cons_option (item_of c j past e.what xs)) here
    ∙ sym (cons_option-append (item_of c j past e.what xs) (part_from c j (past ++ e ∷ []) xs) end)

-- an event's first entry names no line
stop_names_none : (past : List Entry) (child p : ℕ) (why : Why) → may_stop past child why ≡ true → is_place p why ≡ false
stop_names_none past child p Eof h = refl
stop_names_none past child p ReadFault h = refl
stop_names_none past child p LongLine h = refl
stop_names_none past child p Full h = refl
stop_names_none past child p Memory h = refl
stop_names_none past child p Closed h = refl
stop_names_none past child p (Foul at) h = absurd cc
stop_names_none past child p (Error at) h = absurd cc
stop_names_none past child p (Version at) h = absurd cc

pub come_names_none : (o : Opening) (past : List Entry) (c by : ℕ) (w : What) (rest : List Entry) → may_come o past by w ≡ true
    → NamesNoLine c (record { by = by; what = w } ∷ rest)
come_names_none o past c by (End child why) rest h p =
    and_false (child == c) (is_place p why) (stop_names_none past child p why (and_right (is_live past child) (may_stop past child why) h))
come_names_none o past c by w rest h p = refl

-- a part after a legal journal grows by what the group adds
pub part-group : (o : Opening) (c j : ℕ) (past : List Entry) (e : Entry) (due : List Entry) → may_come o past e.by e.what ≡ true
    → part (past ++ e ∷ due) c j ≡ part past c j ++ part_from c j past (e ∷ due)
part-group o c j past e due h = part_from-append c j [] past (e ∷ due) (come_names_none o past c e.by e.what due h)
