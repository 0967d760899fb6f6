-- Items that PREPARE of two remotes may not have, nor INITREMOTE of one.
use Rattle.std.proofs.Common.{◌≡◌, ◌⊎◌, inl, inr, ℕ, ◌+◌, ◌≤◌, List, [], ◌∷◌, ◌++◌, sym, ap, subst, false, Some, length, arith}
use Rattle.std.specs.Prelude.{IsTrue, codes, drop, map}
use Rattle.std.specs.List.{list_all}
use Rattle.annex_model.specs.Messages.{Prepare, Initremote, remote_line}
use Rattle.kit_serve.specs.declared.kit.call.Asked.TheVariants.{Prepare as AskPrepare}
use Rattle.kit_serve.specs.declared.kit.call.Said.{Said}
use Rattle.kit_serve.specs.declared.kit.call.Said.TheVariants.{Yes, No}
use Rattle.kit_serve.specs.Kit.Kits.{is_yes, final_lines}
use Rattle.kit_serve.specs.Kit.Rows.{sets}
use Rattle.kit_async_model.specs.Meanings.{Item, Told, Says, Calls, asked_values, calls_from, IsReadied}
use Rattle.kit_async_model.specs.Rows.{two, bare}
use Rattle.kit_async_model.proofs.Askings.{never}
use Rattle.kit_async_model.specs.Meaning.Rows.{told, success, prepares, initializing, setting, initialized}
use Rattle.std.proofs.lemmas.Bool.{and_parts as both}

-- the calls, and the lines for the last of them
abbrev answered : List Said → Said → List Item
answered firsts last = calls_from 0 (AskPrepare (codes "d" ∷ [])) (firsts ++ last ∷ []) ++ map (λ line. Says (remote_line line)) (final_lines (Some Prepare) last)

-- what follows the value
record Answered (items : List Item) : Type 0 where
  firsts : List Said
  last : Said
  few : length firsts ≤ 1
  agree : IsTrue (list_all is_yes firsts)
  ends : (is_yes last ≡ false) ⊎ (length firsts + 1 ≡ 2)
  are : items ≡ answered firsts last

after_value : (items : List Item) → IsReadied two (Some Prepare) (told ++ items) → Answered items
after_value items r = record { firsts = r.firsts; last = r.last; few = r.few; agree = r.agree; ends = r.ends; are = go r.values r.all r.are }
  where
    go : (values : List (List ℕ)) → length values ≡ 1
        → told ++ items ≡ Told (Some Prepare) ∷ asked_values (codes "directory" ∷ []) values ++ calls_from 0 (AskPrepare values) (r.firsts ++ r.last ∷ []) ++ map (λ line. Says (remote_line line)) (final_lines (Some Prepare) r.last)
        → items ≡ answered r.firsts r.last
    go [] h k = absurd (omega (arith, h))
    go (value ∷ []) h k = cc
    go (value ∷ other ∷ values) h k = absurd (omega (arith, h))

-- ---- the calls

pub one_of_two : (more : List Item) → IsReadied two (Some Prepare) (told ++ prepares 0 Yes ∷ success ∷ more) → ⊥
one_of_two more r = let a = after_value (prepares 0 Yes ∷ success ∷ more) r in go a.firsts a.last a.ends a.are
  where
    go : (firsts : List Said) (last : Said) → (is_yes last ≡ false) ⊎ (length firsts + 1 ≡ 2) → prepares 0 Yes ∷ success ∷ more ≡ answered firsts last → ⊥
    go [] last (inl e) k = let is : Yes ≡ last = cc in never (is_yes last) (ap is_yes (sym is)) e
    go [] last (inr e) k = omega (arith, e)
    go (first ∷ []) last e k = cc
    go (first ∷ second ∷ firsts) last e k = cc

pub second_first : (more : List Item) → IsReadied two (Some Prepare) (told ++ prepares 1 Yes ∷ more) → ⊥
second_first more r = let a = after_value (prepares 1 Yes ∷ more) r in go a.firsts a.last a.are
  where
    go : (firsts : List Said) (last : Said) → prepares 1 Yes ∷ more ≡ answered firsts last → ⊥
    go [] last k = let is : ◌≡◌ {A = ℕ} 1 0 = cc in omega (arith, is)
    go (first ∷ firsts) last k = let is : ◌≡◌ {A = ℕ} 1 0 = cc in omega (arith, is)

pub after_a_no : (more : List Item) → IsReadied two (Some Prepare) (told ++ prepares 0 No ∷ prepares 1 Yes ∷ more) → ⊥
after_a_no more r = let a = after_value (prepares 0 No ∷ prepares 1 Yes ∷ more) r in go a.firsts a.last a.agree a.are
  where
    go : (firsts : List Said) (last : Said) → IsTrue (list_all is_yes firsts) → prepares 0 No ∷ prepares 1 Yes ∷ more ≡ answered firsts last → ⊥
    go [] last e k = cc
    go (first ∷ firsts) last e k =
        let is : No ≡ first = cc in
        never (is_yes first) (both (is_yes first) (list_all is_yes firsts) e).0 (ap is_yes (sym is))

pub third_remote : (more : List Item) → IsReadied two (Some Prepare) (told ++ prepares 0 Yes ∷ prepares 1 Yes ∷ prepares 2 Yes ∷ more) → ⊥
third_remote more r = let a = after_value (prepares 0 Yes ∷ prepares 1 Yes ∷ prepares 2 Yes ∷ more) r in go a.firsts a.last a.few a.are
  where
    go : (firsts : List Said) (last : Said) → length firsts ≤ 1 → prepares 0 Yes ∷ prepares 1 Yes ∷ prepares 2 Yes ∷ more ≡ answered firsts last → ⊥
    go [] last e k = cc
    go (first ∷ []) last e k = cc
    go (first ∷ second ∷ firsts) last e k = omega (arith, e)

-- ---- what they are called for

pub another_value : (more : List Item) → IsReadied two (Some Prepare) (told ++ Calls 0 (Some (AskPrepare (codes "e" ∷ []))) Yes ∷ more) → ⊥
another_value more r = let a = after_value (Calls 0 (Some (AskPrepare (codes "e" ∷ []))) Yes ∷ more) r in go a.firsts a.last a.are
  where
    go : (firsts : List Said) (last : Said) → Calls 0 (Some (AskPrepare (codes "e" ∷ []))) Yes ∷ more ≡ answered firsts last → ⊥
    go [] last k = let is : ◌≡◌ {A = ℕ} 101 100 = cc in omega (arith, is)
    go (first ∷ firsts) last k = let is : ◌≡◌ {A = ℕ} 101 100 = cc in omega (arith, is)

pub no_value : (more : List Item) → IsReadied two (Some Prepare) (told ++ Calls 0 (Some (AskPrepare [])) Yes ∷ more) → ⊥
no_value more r = let a = after_value (Calls 0 (Some (AskPrepare [])) Yes ∷ more) r in go a.firsts a.last a.are
  where
    go : (firsts : List Said) (last : Said) → Calls 0 (Some (AskPrepare [])) Yes ∷ more ≡ answered firsts last → ⊥
    go [] last k = cc
    go (first ∷ firsts) last k = cc

-- ---- a setting that is set

-- it is told first
pub unset : (more : List Item) → IsReadied bare (Some Initremote) (initializing ++ initialized ∷ more) → ⊥
unset more r = go r.values r.firsts r.last r.few r.are
  where
    said : Said → List Item
    said last = map (λ line. Says (remote_line line)) (final_lines (Some Initremote) last)

    first : (last : Said) → sets ≡ last → initialized ∷ more ≡ said last → ⊥
    first last is k =
        let w : initialized ∷ more ≡ setting ∷ initialized ∷ [] = subst (λ (s : Said). initialized ∷ more ≡ said s) (sym is) k in
        let wrong : ◌≡◌ {A = ℕ} 73 83 = cc in
        omega (arith, wrong)

    go : (values : List (List ℕ)) (firsts : List Said) (last : Said) → length firsts ≤ 0
        → initializing ++ initialized ∷ more ≡ Told (Some Initremote) ∷ calls_from 0 (AskPrepare values) (firsts ++ last ∷ []) ++ said last
        → ⊥
    go values (one ∷ firsts) last few k = omega (arith, few)
    go values [] last few k = let is : sets ≡ last = cc in first last is (ap (λ (xs : List Item). drop 2 xs) k)
