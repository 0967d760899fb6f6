-- From the log of a hall that is closed to the entries of one journal.
use Rattle.std.proofs.Common.{◌≡◌, ◌≢◌, zero, suc, ℕ, ◌+◌, List, [], ◌∷◌, ◌++◌, refl, sym, ap, subst, ◌∙◌, Bool, true, false, not, ◌==◌, cond, Some, length, drop, append_assoc, append-nil, arith, slice_get, eq-eqb}
use Rattle.std.specs.Prelude.{◌||◌, All, map}
use Rattle.std.specs.List.{list_any, list_all, count_by}
use Rattle.std.proofs.lemmas.List.{append_cancel_left}
use Rattle.std.proofs.lemmas.List.Sums.{sum_by-cons}
use Rattle.threads.specs.declared.view.Link.{Link}
use Rattle.threads.specs.Log.{flat, NotBy, groups_by, Allowed, Legal as LegalLog}
use Rattle.threads.specs.Passes.{seen_of, HasAllOf}
use Rattle.threads.proofs.Logs.{flat-append, groups_by-append, get-from_all, legal-before}
use Rattle.journal_model.specs.declared.entry.What.{What}
use Rattle.journal_model.specs.declared.entry.Entry.{Entry}
use Rattle.journal_model.specs.declared.opening.Opening.{Opening}
use Rattle.journal_model.specs.Legality.{Legal}
use Rattle.journal_model.specs.Shares.{makes_only, are_others}
use Rattle.journal_model.proofs.Testing.{all-split, all-join, all-each, all-both, others, only_others}
use Rattle.host_core.specs.Mays.{MayStep, IsMadeBy}
use Rattle.crew_work.specs.Laws.Posts.{Post, makes}
use Rattle.crew_work.specs.Laws.Rounds.{CorePass, since}
use Rattle.std.proofs.lemmas.Bool.{eqb-true as same_number}
use Rattle.ann_key.proofs.Booleans.{or_left, or_right}

abbrev pub Log : Type 0
Log = List (Link Entry)

-- each group of the log is one that a core may append at some event
abbrev pub Steps : Opening → List Entry → Log → Type 0
Steps o past ks = LegalLog (Allowed IsMadeBy MayStep) o past ks

-- each group's entries are of its number
abbrev pub Signed : Log → Type 0
Signed [] = Unit {0}
Signed (k ∷ ks) = (list_all (λ e. e.by == k.by) k.group ≡ true) × Signed ks

-- ---- legal, and signed

pub legal_log : (o : Opening) (past : List Entry) (ks : Log) → Steps o past ks → Legal o past → Legal o (past ++ flat ks)
legal_log o past [] h l = subst (Legal o) (sym (append-nil past)) l
legal_log o past (k ∷ ks) h l = subst (Legal o) (append_assoc past k.group (flat ks)) (legal_log o (past ++ k.group) ks h.1 h.0.2.1.legal)

all_made : (by : ℕ) (g : List Entry) → ((i : ℕ) (e : Entry) → slice_get g i ≡ Some e → e.by ≡ by) → list_all (λ e. e.by == by) g ≡ true
all_made by [] h = refl
all_made by (e ∷ g) h = rw (eq-eqb e.by by (h zero e refl), all_made by g (λ i d there. h (suc i) d there)) refl

pub signed_log : (o : Opening) (past : List Entry) (ks : Log) → Steps o past ks → Signed ks
signed_log o past [] h = tt
signed_log o past (k ∷ ks) h = (all_made k.by k.group (get-from_all (IsMadeBy k.by) k.group h.0.2.0), signed_log o (past ++ k.group) ks h.1)

signed_rest : (xs ys : Log) → Signed (xs ++ ys) → Signed ys
signed_rest [] ys h = h
signed_rest (k ∷ xs) ys h = signed_rest xs ys h.1

-- groups that are not of a number have no entry of it
pub others_log : (n : ℕ) (ks : Log) → NotBy n ks → Signed ks → are_others n (flat ks) ≡ true
others_log n [] h s = refl
others_log n (k ∷ ks) h s =
    all-join (λ (e : Entry). not (e.by == n)) k.group (flat ks) (others k.by n h.0 k.group s.0) (others_log n ks h.1 s.1)

-- no group of a number
not_by : (n : ℕ) (ks : Log) → groups_by n ks ≡ [] → NotBy n ks
not_by n [] h = tt
not_by n (k ∷ ks) h = go (k.by == n) refl h (not_by n ks)
  where
    go : (b : Bool) → (k.by == n) ≡ b → cond b (k ∷ groups_by n ks) (groups_by n ks) ≡ [] → (groups_by n ks ≡ [] → NotBy n ks) → (k.by ≢ n) × NotBy n ks
    go true e h r = absurd cc
    go false e h r = (λ z. (let bad : false ≡ true = sym e ∙ eq-eqb k.by n z in absurd cc), r h)

-- ---- what a pass has seen, and what came after it

-- after what the pass has seen stand entries of others alone
pub record Saw (o : Opening) (start rest : List Entry) (p : CorePass) : Type 0 where
  pub later : List Entry
  pub begins : p.start ≡ start
  pub legal : Legal o (seen_of p)
  pub sees : seen_of p ≡ start ++ since p
  pub behind : rest ≡ since p ++ later
  pub apart : are_others p.number later ≡ true

pub drop_start : {X : Type 0} (xs ys : List X) → drop (length xs) (xs ++ ys) ≡ ys
drop_start [] ys = refl
drop_start (x ∷ xs) ys = drop_start xs ys

pub saw : (o : Opening) (start : List Entry) (log : Log) (p : CorePass) → Steps o start log → Legal o start → p.start ≡ start → HasAllOf log p → Saw o start (flat log) p
saw o start log p grown legal begins all = record {
  later = flat ks;
  begins = begins;
  legal = subst (λ (x : List Entry). Legal o (x ++ flat p.links)) (sym begins)
      (legal_log o start p.links (legal-before (Allowed IsMadeBy MayStep) o start p.links ks (subst (Steps o start) (sym whole) grown)) legal);
  sees = ap (λ (x : List Entry). x ++ flat p.links) begins ∙ ap (λ (x : List Entry). start ++ x) (sym new);
  behind = ap flat (sym whole) ∙ flat-append p.links ks ∙ ap (λ (x : List Entry). x ++ flat ks) (sym new);
  apart = others_log p.number ks (not_by p.number ks none) (signed_rest p.links ks (subst Signed (sym whole) signed));
}
  where
    signed : Signed log
    signed = signed_log o start log grown

    ks : Log
    ks = all.seen.0

    whole : p.links ++ ks ≡ log
    whole = all.seen.1

    new : since p ≡ flat p.links
    new = drop_start p.start (flat p.links)

    none : groups_by p.number ks ≡ []
    none = append_cancel_left (groups_by p.number p.links) (groups_by p.number ks) []
        (sym (groups_by-append p.number p.links ks) ∙ ap (groups_by p.number) whole ∙ all.own ∙ sym (append-nil (groups_by p.number p.links)))

-- what a pass made is what its post makes, in the whole rest too
pub only_all : (o : Opening) (start rest : List Entry) (p : CorePass) (f : What → Bool) → Saw o start rest p → makes_only f p.number (since p) ≡ true → makes_only f p.number rest ≡ true
only_all o start rest p f s h =
    subst (λ (x : List Entry). makes_only f p.number x ≡ true) (sym s.behind)
    (all-join (λ (e : Entry). not (e.by == p.number) || f e.what) (since p) s.later h (only_others f p.number s.later s.apart))

-- ---- each entry is one that the post of its number makes

-- a pass that has the number
pub record Has (n : ℕ) (ps : List CorePass) : Type 0 where
  pub place : ℕ
  pub pass : CorePass
  pub there : slice_get ps place ≡ Some pass
  pub is : pass.number ≡ n

counted : (n : ℕ) (ps : List CorePass) → count_by (λ (p : CorePass). p.number == n) ps ≡ 1 → Has n ps
counted n [] h = absurd cc
counted n (p ∷ ps) h =
    go (p.number == n) refl (sym (sum_by-cons (λ (q : CorePass). cond (q.number == n) 1 0) p ps) ∙ h) (counted n ps)
  where
    go : (b : Bool) → (p.number == n) ≡ b → cond b 1 0 + count_by (λ (q : CorePass). q.number == n) ps ≡ 1
        → (count_by (λ (q : CorePass). q.number == n) ps ≡ 1 → Has n ps) → Has n (p ∷ ps)
    go true e k rec = record { place = 0; pass = p; there = refl; is = same_number p.number n e }
    go false e k rec =
        let r = rec (omega (arith, k)) in
        record { place = suc r.place; pass = r.pass; there = r.there; is = r.is }

-- each link's number is some pass's
abbrev pub AllHave : Log → List CorePass → Type 0
AllHave [] ps = Unit {0}
AllHave (k ∷ ks) ps = Has k.by ps × AllHave ks ps

all_have : (ps : List CorePass) (ks : Log) → ((i : ℕ) (k : Link Entry) → slice_get ks i ≡ Some k → count_by (λ (p : CorePass). p.number == k.by) ps ≡ 1) → AllHave ks ps
all_have ps [] h = tt
all_have ps (k ∷ ks) h = (counted k.by ps (h zero k refl), all_have ps ks (λ i l there. h (suc i) l there))

pub have : (ps : List CorePass) (ks : Log) → All (λ k. count_by (λ p. p.number == k.by) ps ≡ 1) ks → AllHave ks ps
have ps ks h = all_have ps ks (get-from_all (λ (k : Link Entry). count_by (λ (p : CorePass). p.number == k.by) ps ≡ 1) ks h)

abbrev pub EachMakes : (ℕ → Post) → List CorePass → List Entry → Type 0
EachMakes crew ps rest = (i : ℕ) (p : CorePass) → slice_get ps i ≡ Some p → makes_only (makes (crew p.number)) p.number rest ≡ true

-- the entries of one group
post_group : (crew : ℕ → Post) (n : ℕ) (g : List Entry) → list_all (λ e. e.by == n) g ≡ true → makes_only (makes (crew n)) n g ≡ true
    → list_all (λ e. makes (crew e.by) e.what) g ≡ true
post_group crew n g s m =
    all-both (λ (e : Entry). e.by == n) (λ (e : Entry). not (e.by == n) || makes (crew n) e.what) (λ (e : Entry). makes (crew e.by) e.what)
    (λ e k l. subst (λ (x : ℕ). makes (crew x) e.what ≡ true) (sym (same_number e.by n k))
    (by_number e (e.by == n) k l)) g s m
  where
    by_number : (e : Entry) (b : Bool) → b ≡ true → (not b || makes (crew n) e.what) ≡ true → makes (crew n) e.what ≡ true
    by_number e true k l = l
    by_number e false k l = absurd cc

pub posts_log : (crew : ℕ → Post) (ps : List CorePass) (ks : Log) → Signed ks → AllHave ks ps → EachMakes crew ps (flat ks)
    → list_all (λ e. makes (crew e.by) e.what) (flat ks) ≡ true
posts_log crew ps [] s h m = refl
posts_log crew ps (k ∷ ks) s h m =
    all-join (λ (e : Entry). makes (crew e.by) e.what) k.group (flat ks)
    (post_group crew k.by k.group s.0 first)
    (posts_log crew ps ks s.1 h.1 (λ i p there. (all-split (λ (e : Entry). not (e.by == p.number) || makes (crew p.number) e.what) k.group (flat ks) (m i p there)).1))
  where
    first : makes_only (makes (crew k.by)) k.by k.group ≡ true
    first = subst (λ (n : ℕ). makes_only (makes (crew n)) n k.group ≡ true) h.0.is
        (all-split (λ (e : Entry). not (e.by == h.0.pass.number) || makes (crew h.0.pass.number) e.what) k.group (flat ks) (m h.0.place h.0.pass h.0.there)).0

-- ---- each entry's number is a pass's

numbered_in : (n : ℕ) (ps : List CorePass) (i : ℕ) (p : CorePass) → slice_get ps i ≡ Some p → p.number ≡ n → list_any (λ m. m == n) (map (λ q. q.number) ps) ≡ true
numbered_in n [] i p there is = absurd cc
numbered_in n (q ∷ ps) zero p there is =
    or_left (q.number == n) (list_any (λ m. m == n) (map (λ q. q.number) ps))
    (eq-eqb q.number n ((let e : q ≡ p = (let s : Some q ≡ Some p = there in cc) in ap (λ (x : CorePass). x.number) e) ∙ is))
numbered_in n (q ∷ ps) (suc i) p there is =
    or_right (q.number == n) (list_any (λ m. m == n) (map (λ q. q.number) ps)) (numbered_in n ps i p there is)

pub numbered_log : (ps : List CorePass) (ks : Log) → Signed ks → AllHave ks ps → list_all (λ e. list_any (λ n. n == e.by) (map (λ q. q.number) ps)) (flat ks) ≡ true
numbered_log ps [] s h = refl
numbered_log ps (k ∷ ks) s h =
    all-join (λ (e : Entry). list_any (λ n. n == e.by) (map (λ (q : CorePass). q.number) ps)) k.group (flat ks)
    (all-each (λ (e : Entry). e.by == k.by) (λ (e : Entry). list_any (λ n. n == e.by) (map (λ (q : CorePass). q.number) ps))
    (λ e same. numbered_in e.by ps h.0.place h.0.pass h.0.there (h.0.is ∙ sym (same_number e.by k.by same))) k.group s.0)
    (numbered_log ps ks s.1 h.1)
