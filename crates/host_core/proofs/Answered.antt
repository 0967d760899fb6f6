-- Replies as they stand on the wire, and what a text sets.
use Rattle.std.proofs.Common.{◌≡◌, ◌∙◌, ℕ, suc, ◌+◌, ◌<◌, List, [], ◌∷◌, ◌++◌, refl, sym, ap, subst, Bool, true, false, not, cond, Option, Some, None, length, map, take, get_or, arith, add-one}
use Rattle.std.specs.Prelude.{◌==◌, fold, IsTrue, IfOk, OnOk, Ok, Err, Result, codes}
use Rattle.ann_key.specs.declared.bytes.NoMemory.{NoMemory}
use Rattle.std.specs.List.{cons_option, list_any}
use Rattle.std.proofs.Math.Seq.{take-suc}
use Rattle.annex_model.specs.Lines.{has_newline}
use Rattle.annex_model.specs.declared.final_line.Final.{Final}
use Rattle.annex_model.specs.Talks.{Item, is_aside, final_of, awaits, said}
use Rattle.annex_model.specs.Hearings.{Aside, by_answer, hearing, hearing_of, request_in}
use Rattle.annex_model.specs.Messages.{HostMessage, RemoteMessage, remote_reading, Setconfig, Setcreds, Setwanted, Setstate, Seturlpresent, Seturlmissing}
use Rattle.annex_model.specs.Tags.{untag, Tagged}
use Rattle.annex_model.proofs.TagReadings.{tagged_of_read}
use Rattle.registers.specs.Registers.{RegisterFile}
use Rattle.journal_model.specs.declared.entry.What.{What}
use Rattle.journal_model.specs.declared.entry.What.TheVariants.{Put}
use Rattle.journal_model.specs.declared.entry.Entry.{Entry}
use Rattle.journal_model.specs.declared.opening.Opening.{Opening}
use Rattle.journal_model.specs.Journal.{first_of, open_jobs, on_wire, is_tagged, addressed, by_tag}
use Rattle.journal_model.specs.Due.{replying, replies}
use Rattle.journal_model.specs.Replies.{is_setting, set_by, set_by_all, replies_by, values_of}
use Rattle.journal_model.specs.Registers.{if_setting, values_at}
use Rattle.journal_model.proofs.Registering.{replies_same}
use Rattle.journal_model.proofs.UrlsFollow.{values_follow}
use Rattle.host_core.specs.Settings.{IsServed, is_aside_heard}
use Rattle.ann_key.proofs.Booleans.{not_right as or_right}
use Rattle.std.proofs.lemmas.List.{map-append}

pub map_next : (f : List ℕ → List ℕ) (xs : List (List ℕ)) (i : ℕ) (x : List ℕ) → i < length xs → x ≡ get_or xs i x
    → map f (take i xs) ++ f x ∷ [] ≡ map f (take (i + 1) xs)
map_next f xs i x less is =
    let grown : take (i + 1) xs ≡ take i xs ++ x ∷ [] = rw (add-one, take-suc xs i x less, ← is) refl in
    sym (ap (map f) grown ∙ map-append f (take i xs) (x ∷ []))

map_twice : (past : List Entry) (c j : ℕ) (lines : List (List ℕ)) → map (λ line. Put c j line) (map (on_wire past c j) lines) ≡ replying past c j lines
map_twice past c j [] = refl
map_twice past c j (l ∷ ls) = ap (λ (ws : List What). Put c j (on_wire past c j l) ∷ ws) (map_twice past c j ls)

-- what the registers give is what is owed after the journal
pub replies_due : (o : Opening) (past : List Entry) (registers : RegisterFile) (c j : ℕ) (m : RemoteMessage) (said wired : List (List ℕ)) → IsServed o past registers
    → said ≡ replies_by (values_of registers o.identity) m → wired ≡ map (on_wire past c j) said
    → map (λ line. Put c j line) wired ≡ replying past c j (replies o past m)
replies_due o past registers c j m said wired served owed is =
    ap (map (λ line. Put c j line)) is
    ∙ map_twice past c j said
    ∙ ap (replying past c j)
    (owed ∙ ap (λ (r : RegisterFile). replies_by (values_of r o.identity) m) served.given
    ∙ sym (replies_same _ _ m (values_follow o.registers o.identity past served.kept)))

-- a message that is no setting sets nothing
sets_nothing : (r : RegisterFile) (m : RemoteMessage) → is_setting m ≡ false → set_by r m ≡ r
sets_nothing r (Setconfig name value) h = absurd cc
sets_nothing r (Setcreds setting user password) h = absurd cc
sets_nothing r (Setwanted expression) h = absurd cc
sets_nothing r (Setstate key value) h = absurd cc
sets_nothing r (Seturlpresent key url) h = absurd cc
sets_nothing r (Seturlmissing key url) h = absurd cc
sets_nothing r m h = refl

pub set_message : (r : RegisterFile) (m : RemoteMessage) → set_by r m ≡ set_by_all r (cons_option (if_setting (Some m)) [])
set_message r m = go (is_setting m) refl
  where
    go : (b : Bool) → is_setting m ≡ b → set_by r m ≡ set_by_all r (cons_option (cond b (Some m) None) [])
    go true e = refl
    go false e = sets_nothing r m e

-- the text of a line without its tag has no byte 10 where the line has none
pub set_read : (r new : RegisterFile) (text : List ℕ) (m : RemoteMessage) → Some m ≡ remote_reading text → new ≡ set_by r m
    → new ≡ set_by_all r (cons_option (if_setting (remote_reading text)) [])
set_read r new text m read is = is ∙ set_message r m ∙ ap (λ (x : Option RemoteMessage). set_by_all r (cons_option (if_setting x) [])) read

behind : (front back : List ℕ) → not (has_newline (front ++ back)) ≡ true → not (has_newline back) ≡ true
behind [] back h = h
behind (b ∷ front) back h = behind front back (or_right (b == 10) (has_newline (front ++ back)) h)

-- the text of a line has no byte 10 where the line has none
untagged : (line : List ℕ) (t : Option (ℕ × List ℕ)) → untag line ≡ t → not (has_newline line) ≡ true → not (has_newline (by_tag line t).1) ≡ true
untagged line None e h = h
untagged line (Some t) e h =
    let tagged : Tagged line t.0 t.1 = tagged_of_read line t.0 t.1 e in
    let whole : line ≡ (codes "J " ++ tagged.digits) ++ 32 ∷ t.1 = tagged.whole in
    or_right (32 == 10) (has_newline t.1)
    (behind (codes "J " ++ tagged.digits) (32 ∷ t.1) (subst (λ (l : List ℕ). not (has_newline l) ≡ true) whole h))

pub text_fits : (past : List Entry) (c : ℕ) (line : List ℕ) → not (has_newline line) ≡ true → not (has_newline (addressed past c line).1) ≡ true
text_fits past c line h = go (is_tagged past c)
  where
    go : (b : Bool) → not (has_newline (cond b (by_tag line (untag line)) (first_of (open_jobs past c), line)).1) ≡ true
    go true = untagged line (untag line) refl h
    go false = h

-- an aside is heard as one, and nothing else is
pub aside_is : (p : List Item) (m : RemoteMessage) → is_aside_heard (hearing p m) ≡ is_aside m
aside_is p m = go (is_aside m)
  where
    by_final : (o : Option Final) (b : Bool) → is_aside_heard (by_answer o b) ≡ false
    by_final (Some f) b = refl
    by_final None true = refl
    by_final None false = refl

    by_request : (q : Option HostMessage) (ms : List (Option RemoteMessage)) → is_aside_heard (hearing_of q ms) ≡ false
    by_request None ms = refl
    by_request (Some q) ms = by_final (final_of q ms) (awaits q ms)

    go : (b : Bool) → is_aside_heard (cond b Aside (hearing_of (request_in p) (said p ++ Some m ∷ []))) ≡ b
    go true = refl
    go false = by_request (request_in p) (said p ++ Some m ∷ [])

pub if_ok : {X : Type 0} (r : Result X NoMemory) (P Q : X → Type 0) → ((x : X) → P x → Q x) → IfOk r P → IfOk r Q
if_ok (Ok x) P Q f p = f x p
if_ok (Err e) P Q f p = tt

pub on_ok : {X : Type 0} (r : Result X NoMemory) (P Q : Type 0) → (P → Q) → OnOk r P → OnOk r Q
on_ok (Ok x) P Q f p = f p
on_ok (Err e) P Q f p = tt
