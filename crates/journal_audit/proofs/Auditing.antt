-- What an audit finds.
use Rattle.std.proofs.Common.{◌≡◌, Bool, true, false, ℕ, zero, suc, List, [], ◌∷◌, ◌++◌, ◌+◌, ◌<◌, ◌≤◌, refl, sym, ap, subst, ◌∙◌, Some, arith, inl, inr, length, append-nil, take, drop, slice_get, get_or, add-one, Option, None}
use Rattle.std.proofs.Math.Nat.{lt_of_not-le}
use Rattle.std.proofs.Math.Seq.{take-suc}
use Rattle.std.proofs.lemmas.List.{length-append, length-take-le, take_all}
use Rattle.std.proofs.lemmas.Option.{slice_get_past, slice_get_read}
use Rattle.journal_model.specs.declared.entry.Entry.{Entry}
use Rattle.journal_model.specs.declared.opening.Opening.{Opening}
use Rattle.journal_model.specs.Legality.{Legal as IsLegal, FirstWrong, Unfinished, kind_of, StandsFrom, MayStand, owed_after}
use Rattle.journal_model.proofs.Growing.{StandsFrom-split}
use Rattle.journal_audit.specs.declared.found.Audit.{Audit}
use Rattle.journal_audit.specs.declared.found.Audit.TheVariants.{Legal, Wrong}
use Rattle.journal_audit.specs.Audits.{IsAudit, IsMisplaced}
use Rattle.journal_audit.specs.Replays.{IsReplayed, IsNext, Owes}

-- ---- a list about one of its places

cut_at : (journal : List Entry) (at : ℕ) (e : Entry) → slice_get journal at ≡ Some e → journal ≡ take at journal ++ e ∷ drop (suc at) journal
cut_at [] at e h = absurd cc
cut_at (x ∷ xs) zero e h = ap (λ (y : Entry). y ∷ xs) (let same : x ≡ e = cc in same)
cut_at (x ∷ xs) (suc at) e h = ap (λ (ys : List Entry). x ∷ ys) (cut_at xs at e h)

get_take : (xs : List Entry) (a b : ℕ) (e : Entry) → a < b → slice_get xs a ≡ Some e → slice_get (take b xs) a ≡ Some e
get_take [] a b e less h = absurd cc
get_take (x ∷ xs) a zero e less h = absurd (omega arith)
get_take (x ∷ xs) zero (suc b) e less h = h
get_take (x ∷ xs) (suc a) (suc b) e less h = get_take xs a b e (omega arith) h

take_take : (xs : List Entry) (a b : ℕ) → a < b → take a (take b xs) ≡ take a xs
take_take xs zero b less = refl
take_take xs (suc a) zero less = absurd (omega arith)
take_take [] (suc a) (suc b) less = refl
take_take (x ∷ xs) (suc a) (suc b) less = ap (λ (ys : List Entry). x ∷ ys) (take_take xs a b (omega arith))

-- ---- two audits

-- where each entry may stand, so may the one at a place
stands_there : (o : Opening) (journal : List Entry) (at : ℕ) (e : Entry) → StandsFrom o [] [] journal → slice_get journal at ≡ Some e
    → MayStand o (take at journal) (owed_after o (take at journal)) e
stands_there o journal at e stands there =
    let s = StandsFrom-split o [] [] (take at journal) (e ∷ drop (suc at) journal) (subst (StandsFrom o [] []) (cut_at journal at e there) stands) in
    s.1.0

-- so a journal each of whose entries may stand has no first wrong one
no_first : (o : Opening) (journal : List Entry) (at : ℕ) (e : Entry) → StandsFrom o [] [] journal → FirstWrong o journal at e → ⊥
no_first o journal at e stands w = w.wrong (stands_there o journal at e stands w.there)

-- nor is there one before another
no_earlier : (o : Opening) (journal : List Entry) (a b : ℕ) (e f : Entry) → a < b → FirstWrong o journal a e → FirstWrong o journal b f → ⊥
no_earlier o journal a b e f less v w =
    let P : List Entry → Type 0 = λ p. MayStand o p (owed_after o p) e in
    v.wrong (subst P (take_take journal a b less) (stands_there o (take b journal) a e w.before (get_take journal a b e less v.there)))

one_first : (o : Opening) (journal : List Entry) (a b : ℕ) (e f : Entry) → FirstWrong o journal a e → FirstWrong o journal b f → (a ≡ b) × (kind_of e.what ≡ kind_of f.what)
one_first o journal a b e f v w =
    let up : b < a + 1 = lt_of_not-le {n = a + 1} {m = b} (λ le. no_earlier o journal a b e f (omega arith) v w) in
    let down : a < b + 1 = lt_of_not-le {n = b + 1} {m = a} (λ le. no_earlier o journal b a f e (omega arith) w v) in
    let here : a ≡ b = omega arith in
    (here, kinds (sym v.there ∙ ap (slice_get journal) here ∙ w.there))
  where
    kinds : Some e ≡ Some f → kind_of e.what ≡ kind_of f.what
    kinds h = (let same : e ≡ f = cc in ap (λ (x : Entry). kind_of x.what) same)

legal_wrong : (o : Opening) (journal : List Entry) (entry kind : ℕ) → IsLegal o journal → IsAudit o journal (Wrong entry kind) → ⊥
legal_wrong o journal entry kind l (inl w) = no_first o journal entry w.0 l.stands w.1
legal_wrong o journal entry kind l (inr w) = w.0.due l.nothing_due

wrongs : (o : Opening) (journal : List Entry) (a b k l : ℕ) → IsAudit o journal (Wrong a k) → IsAudit o journal (Wrong b l) → (a ≡ b) × (k ≡ l)
wrongs o journal a b k l (inl v) (inl w) = (let same = one_first o journal a b v.0 w.0 v.1 w.1 in (same.0, v.2 ∙ same.1 ∙ sym w.2))
wrongs o journal a b k l (inl v) (inr w) = absurd (no_first o journal a v.0 w.0.stands v.1)
wrongs o journal a b k l (inr v) (inl w) = absurd (no_first o journal b w.0 v.0.stands w.1)
wrongs o journal a b k l (inr v) (inr w) = (v.1 ∙ sym w.1, v.2 ∙ sym w.2)

pub one_audit : (o : Opening) (journal : List Entry) (a b : Audit) → IsAudit o journal a → IsAudit o journal b → a ≡ b
one_audit o journal Legal Legal g h = refl
one_audit o journal Legal (Wrong entry kind) g h = absurd (legal_wrong o journal entry kind g h)
one_audit o journal (Wrong entry kind) Legal g h = absurd (legal_wrong o journal entry kind h g)
one_audit o journal (Wrong a k) (Wrong b l) g h = (let same = wrongs o journal a b k l g h in ap (λ (n : ℕ). Wrong n k) same.0 ∙ ap (λ (n : ℕ). Wrong b n) same.1)

-- ---- a journal that is made again, so far

-- what is said of the next entry after any past holds after those before its place
pub next_here : (o p : Opening) (items before made : List Entry) (at : ℕ) (e : Entry) (next : Option Entry) (said stands : Bool) → p ≡ o → at < length items
    → IsReplayed o (take at items) (Some e) before
    → ((past : List Entry) → length past ≡ at → IsReplayed p past (Some e) before → IsNext p past e next made said)
    → said ≡ stands → IsNext o (take at items) e next made stands
next_here o p items before made at e next said stands same less replayed tells is =
    let count : length (take at items) ≡ at = length-take-le at items (omega arith) in
    let P : Opening → Type 0 = λ q. IsReplayed q (take at items) (Some e) before → IsNext q (take at items) e next made said in
    subst (IsNext o (take at items) e next made) is (subst P same (λ r. tells (take at items) count r) replayed)

-- the entry may not stand
pub wrong_here : (o : Opening) (journal items made : List Entry) (at kind : ℕ) (e : Entry) (next : Option Entry) → items ≡ journal → at < length items → e ≡ get_or items at e
    → StandsFrom o [] [] (take at items) → IsNext o (take at items) e next made false → kind ≡ kind_of e.what → IsMisplaced o journal (record { entry = at; kind = kind })
wrong_here o journal items made at kind e next same less is stands wrong of_kind =
    let there : slice_get items at ≡ Some e = slice_get_read items (length items) at e refl less is in
    subst (λ (j : List Entry). IsMisplaced o j (record { entry = at; kind = kind })) same (e, record { there = there; before = stands; wrong = wrong }, of_kind)

-- it may stand, and is made too
pub replayed_more : (o : Opening) (items made : List Entry) (at : ℕ) (e : Entry) (next : Option Entry) → at < length items → e ≡ get_or items at e
    → IsNext o (take at items) e next made true → IsReplayed o (take (at + 1) items) next made
replayed_more o items made at e next less is r =
    let grown : take (at + 1) items ≡ take at items ++ e ∷ [] = rw (add-one, take-suc items at e less, ← is) refl in
    subst (λ (p : List Entry). IsReplayed o p next made) (sym grown) r

-- an entry that is looked up at its place
pub read_there : (xs : List Entry) (at : ℕ) (e : Entry) → Some e ≡ slice_get xs at → e ≡ get_or xs at e
read_there [] at e h = absurd cc
read_there (x ∷ xs) zero e h = cc
read_there (x ∷ xs) (suc at) e h = read_there xs at e h

-- ---- at the end

none_left : (xs : List Entry) → length xs ≡ 0 → xs ≡ []
none_left [] h = refl
none_left (x ∷ xs) h = absurd (let no : ⊥ = omega (arith, h) in no)

-- where nothing more was made, nothing is due
due_none : (o : Opening) (journal owed rest : List Entry) → Owes o journal None owed rest → rest ≡ [] → owed ≡ []
due_none o journal [] rest owes none = refl
due_none o journal (d ∷ ds) rest owes none = absurd (let bad : owes.0 ∷ ds ≡ [] = sym owes.1 ∙ none in cc)

pub legal_end : (o : Opening) (journal made : List Entry) → IsReplayed o journal None made → length made ≡ length journal → IsLegal o journal
legal_end o journal made r same =
    let long : length made ≡ length journal + length r.rest = ap length r.whole ∙ length-append journal r.rest in
    record { stands = r.stands; nothing_due = due_none o journal (owed_after o journal) r.rest r.owes (none_left r.rest (omega (arith, long, same))) }

pub due_end : (o : Opening) (journal made : List Entry) → IsReplayed o journal None made → (length made ≡ length journal → ⊥) → Unfinished o journal
due_end o journal made r more = record {
  stands = r.stands;
  due = λ none. (
      let nothing : r.rest ≡ [] = subst (λ (ds : List Entry). Owes o journal None ds r.rest) none r.owes in
      more (ap length (r.whole ∙ ap (λ (es : List Entry). journal ++ es) nothing ∙ append-nil journal)));
}

pub replayed_whole : (o : Opening) (items made : List Entry) (at : ℕ) → length items ≤ at → IsReplayed o (take at items) (slice_get items at) made → IsReplayed o items None made
replayed_whole o items made at long r =
    subst (λ (p : List Entry). IsReplayed o p None made) (take_all at items long)
    (subst (λ (n : Option Entry). IsReplayed o (take at items) n made) (slice_get_past items at long) r)
