-- What several crates above this one use.
use Rattle.std.proofs.Common.{◌≡◌, ◌∙◌, ℕ, ◌+◌, List, ◌++◌, refl, ap, Bool, true, Option, Some, None, [], ◌∷◌, sym, append_assoc, ◌-◌, ◌≤◌, length, arith}
use Rattle.std.specs.Prelude.{◌||◌}
use Rattle.std.specs.Option.{option_or}
use Rattle.journal_model.specs.declared.verdict.Verdict.{Verdict}
use Rattle.journal_model.specs.declared.entry.Entry.{Entry}
use Rattle.journal_model.specs.Journal.{any, verdict_of}
use Rattle.journal_model.specs.Legality.{prepares, is_prepared, is_done}
use Rattle.journal_model.proofs.Looks.{any-append, verdict_of-append}
use Rattle.std.proofs.lemmas.Bool.{and_parts as both}
use Rattle.annex_model.specs.Messages.{HostMessage}
use Rattle.task_model.specs.Askers.{said_with, Asking}
use Rattle.task_model.specs.Reads.{bytes_of, is_at_end}
use Rattle.ann_key.specs.Keys.{Parts}
use Rattle.task_model.specs.Requests.{AskInOrder}

pub prepared_on : (old more : List Entry) (c : ℕ) → is_prepared old c ≡ true → is_prepared (old ++ more) c ≡ true
prepared_on old more c h =
    let t = both (is_done (verdict_of old c 1)) (any (prepares c) old) h in
    let done : is_done (verdict_of (old ++ more) c 1) ≡ true = ap is_done (verdict_of-append c 1 old more) ∙ go (verdict_of old c 1) t.0 in
    let asked : any (prepares c) (old ++ more) ≡ true = any-append (prepares c) old more ∙ ap (λ (b : Bool). b || any (prepares c) more) t.1 in
    rw (done, asked) refl
  where
    go : (v : Option Verdict) → is_done v ≡ true → is_done (option_or v (verdict_of more c 1)) ≡ true
    go (Some v) h = h
    go None h = absurd cc

pub said_kept : (name : Option (List ℕ)) (q : HostMessage) → said_with name (Some q) ≡ name
said_kept None q = refl
said_kept (Some name) q = refl

pub bytes_more : (xs ys : List (ℕ × List ℕ)) → bytes_of (xs ++ ys) ≡ bytes_of xs ++ bytes_of ys
bytes_more [] ys = refl
bytes_more (x ∷ xs) ys = ap (λ l. x.1 ++ l) (bytes_more xs ys) ∙ sym (append_assoc x.1 (bytes_of xs) (bytes_of ys))

pub at_end-snoc : (xs : List (ℕ × List ℕ)) (k : ℕ) → is_at_end (xs ++ (k, []) ∷ []) ≡ true
at_end-snoc [] k = refl
at_end-snoc (x ∷ []) k = refl
at_end-snoc (x ∷ y ∷ xs) k = at_end-snoc (y ∷ xs) k

pub order_fits : (ask : ℕ → List ℕ → HostMessage) (n : ℕ) (keys : List Parts) (asked : List Asking) → AskInOrder ask n keys asked → length asked ≤ length keys
order_fits ask n keys [] o = omega arith
order_fits ask n [] (a ∷ asked) o = absurd o
order_fits ask n (k ∷ keys) (a ∷ asked) o = omega (arith, order_fits ask (n + 1) keys asked o.1)
