-- Replies stand after their line under its job's tag, and read back as they were.
use Rattle.std.proofs.Common.{◌≡◌, ℕ, ◌<◌, List, [], ◌∷◌, ◌++◌, refl, sym, ap, subst, ◌∙◌, append_assoc, Bool, true, false, length, ◌==◌, cond, Some, None, Option, arith, length-append}
use Rattle.std.specs.Prelude.{◌^◌, ◌&&◌, ◌||◌, map, slice_get}
use Rattle.std.specs.List.{cons_option}
use Rattle.std.proofs.Math.Seq.{take-append_seam}
use Rattle.journal_model.specs.declared.verdict.Verdict.{Verdict}
use Rattle.journal_model.specs.declared.verdict.Verdict.TheVariants.{Done as DoneAt}
use Rattle.annex_model.specs.Messages.{remote_reading}
use Rattle.annex_model.specs.Talks.{Item, Host}
use Rattle.annex_model.specs.Tags.{untag, tagged_line, names_async}
use Rattle.annex_model.proofs.TagReadings.{tagged_of_read, untag_of_tagged}
use Rattle.annex_model.proofs.TalksGrow.{from_host}
use Rattle.journal_model.specs.declared.opening.Opening.{Opening}
use Rattle.journal_model.specs.declared.entry.What.TheVariants.{Put, Got}
use Rattle.journal_model.specs.declared.entry.Entry.{Entry}
use Rattle.journal_model.specs.Journal.{any, offers, first_of, verdict_of, accepts_async, got_line, is_tagged, on_wire, by_tag, addressed, open_jobs}
use Rattle.journal_model.specs.Parts.{part_from, item_of}
use Rattle.journal_model.specs.Due.{made_by, replying, replies_at, replies_to, replies_said}
use Rattle.journal_model.proofs.Looks.{entry, any-append, verdict_of-append, or_none}
use Rattle.journal_model.proofs.Asking.{number_below}
use Rattle.ann_key.proofs.Booleans.{or_false}
use Rattle.ann_key.proofs.Lists.{get_after as slice_get-here, slice_get-left}
use Rattle.std.proofs.lemmas.Bool.{eqb-true as same_number}

-- ---- places

-- each place that a verdict of a line names stands before the end
abbrev pub IsPlaced : List Entry → ℕ → Type 0
IsPlaced past c = (j at : ℕ) → verdict_of past c j ≡ Some (DoneAt at) → at < length past

pub longer : (at : ℕ) (past more : List Entry) → at < length past → at < length (past ++ more)
longer at past more h = let n = length-append past more in omega (arith, n, h)

-- ---- what is added gives no tags

pub accepted : (past more : List Entry) (v : Option Verdict) → ((at : ℕ) → v ≡ Some (DoneAt at) → at < length past) → accepts_async (past ++ more) v ≡ accepts_async past v
accepted past more None h = refl
accepted past more (Some (DoneAt at)) h = ap (λ (e : Option Entry). names_async (remote_reading (got_line e))) (slice_get-left past more at (h at refl))
accepted past more (Some v) h = refl

-- a child stays as it is, tagged or not, after entries that offer it nothing and settle no job 0 of it
pub tag_kept : (past more : List Entry) (c : ℕ) → IsPlaced past c → any (offers c) more ≡ false → verdict_of more c 0 ≡ None → is_tagged (past ++ more) c ≡ is_tagged past c
tag_kept past more c placed unoffered none =
    let offer : any (offers c) (past ++ more) ≡ any (offers c) past =
    any-append (offers c) past more ∙ ap (λ (b : Bool). any (offers c) past || b) unoffered ∙ or_false (any (offers c) past) in
    let v : verdict_of (past ++ more) c 0 ≡ verdict_of past c 0 = verdict_of-append c 0 past more ∙ or_none (verdict_of past c 0) (verdict_of more c 0) none in
    ap (λ (b : Bool). b && accepts_async (past ++ more) (verdict_of (past ++ more) c 0)) offer
    ∙ ap (λ (x : Option Verdict). any (offers c) past && accepts_async (past ++ more) x) v
    ∙ ap (λ (b : Bool). any (offers c) past && b) (accepted past more (verdict_of past c 0) (placed 0))

pub placed_kept : (past more : List Entry) (c : ℕ) → IsPlaced past c → ((j : ℕ) → verdict_of more c j ≡ None) → IsPlaced (past ++ more) c
placed_kept past more c placed none j at h =
    longer at past more (placed j at (sym (verdict_of-append c j past more ∙ or_none (verdict_of past c j) (verdict_of more c j) (none j)) ∙ h))

-- ---- a reply on the wire

-- the number of a tag that was read is one of 64 bits
pub said_small : (past : List Entry) (c j : ℕ) (line : List ℕ) → (addressed past c line).0 ≡ Some j → is_tagged past c ≡ true → j < 2 ^ 64
said_small past c j line for tagged =
    by_reading (untag line) refl (subst (λ (b : Bool). (cond {A = Option ℕ × List ℕ} b (by_tag line (untag line)) (first_of (open_jobs past c), line)).0 ≡ Some j) tagged for)
  where
    by_reading : (t : Option (ℕ × List ℕ)) → untag line ≡ t → (by_tag line t).0 ≡ Some j → j < 2 ^ 64
    by_reading None read h = absurd cc
    by_reading (Some t) read h =
        let number : t.0 ≡ j = cc (h) in
        let tag = tagged_of_read line t.0 t.1 read in
        subst (λ (n : ℕ). n < 2 ^ 64) (tag.value ∙ number) (number_below tag.digits tag.form)

pub wire_back : (past later : List Entry) (c j : ℕ) (line : List ℕ) → is_tagged later c ≡ is_tagged past c → (is_tagged past c ≡ true → j < 2 ^ 64)
    → (addressed later c (on_wire past c j line)).1 ≡ line
wire_back past later c j line same small =
    ap (λ (b : Bool). (cond {A = Option ℕ × List ℕ} b (by_tag wired (untag wired)) (first_of (open_jobs later c), wired)).1) same ∙ by_tags (is_tagged past c) refl
  where
    wired : List ℕ
    wired = on_wire past c j line

    by_tags : (b : Bool) → is_tagged past c ≡ b
        → (cond {A = Option ℕ × List ℕ} b (by_tag (cond b (tagged_line j line) line) (untag (cond b (tagged_line j line) line)))
        (first_of (open_jobs later c), cond b (tagged_line j line) line)).1 ≡ line
    by_tags true e = ap (λ (t : Option (ℕ × List ℕ)). (by_tag (tagged_line j line) t).1) (untag_of_tagged j line (small e))
    by_tags false e = refl

-- ---- replies in a part

-- the replies with their places, where they are to stand after before
abbrev pub reply_places : List Entry → List Entry → ℕ → ℕ → ℕ → List (List ℕ) → List (ℕ × List ℕ)
reply_places past before by c j [] = []
reply_places past before by c j (l ∷ ls) = (length before, l) ∷ reply_places past (before ++ entry by (Put c j (on_wire past c j l)) ∷ []) by c j ls

pub reply_texts : (past before : List Entry) (by c j : ℕ) (lines : List (List ℕ)) → map (λ (r : ℕ × List ℕ). r.1) (reply_places past before by c j lines) ≡ lines
reply_texts past before by c j [] = refl
reply_texts past before by c j (l ∷ ls) = ap (λ (xs : List (List ℕ)). l ∷ xs) (reply_texts past (before ++ entry by (Put c j (on_wire past c j l)) ∷ []) by c j ls)

pub reply_part : (past before : List Entry) (by child j : ℕ) (lines : List (List ℕ)) → IsPlaced before child → is_tagged before child ≡ is_tagged past child
    → (is_tagged past child ≡ true → j < 2 ^ 64) → (c k : ℕ)
    → part_from c k before (made_by by (replying past child j lines)) ≡ cond (child == c && j == k) (map from_host (reply_places past before by child j lines)) []
reply_part past before by child j [] placed tag small c k = nothing (child == c && j == k)
  where
    nothing : (b : Bool) → [] ≡ cond {A = List Item} b [] []
    nothing true = refl
    nothing false = refl
reply_part past before by child j (l ∷ ls) placed tag small c k =
    let more = reply_part past (before ++ e ∷ []) by child j ls (placed_kept before (e ∷ []) child placed (λ i. refl))
    (tag_kept before (e ∷ []) child placed refl refl ∙ tag) small c k in
    ap (cons_option (item_of c k before e.what (made_by by (replying past child j ls)))) more ∙ by_child (child == c) refl
  where
    wired : List ℕ
    wired = on_wire past child j l

    e : Entry
    e = entry by (Put child j wired)

    tail : List Item
    tail = map from_host (reply_places past (before ++ e ∷ []) by child j ls)

    by_child : (b : Bool) → (child == c) ≡ b
        → cons_option (cond (b && j == k) (Some record { side = Host; at = length before; text = (addressed before c wired).1 }) None) (cond (b && j == k) tail [])
        ≡ cond (b && j == k) (from_host (length before, l) ∷ tail) []
    by_child false h = refl
    by_child true h = by_job (j == k)
      where
        text : (addressed before c wired).1 ≡ l
        text = subst (λ (d : ℕ). (addressed before d wired).1 ≡ l) (same_number child c h) (wire_back past before child j l tag small)

        by_job : (b : Bool)
            → cons_option (cond b (Some record { side = Host; at = length before; text = (addressed before c wired).1 }) None) (cond b tail [])
            ≡ cond b (from_host (length before, l) ∷ tail) []
        by_job false = refl
        by_job true = ap (λ (t : List ℕ). from_host (length before, t) ∷ tail) text

-- ---- what a line is owed, in a longer journal

pub replies_here : (o : Opening) (past : List Entry) (by c : ℕ) (line : List ℕ) (due rest : List Entry)
    → replies_at o ((past ++ entry by (Got c line) ∷ due) ++ rest) (length past) ≡ replies_said o past (remote_reading (addressed past c line).1)
replies_here o past by c line due rest =
    let e : Entry = entry by (Got c line) in
    ap (λ (journal : List Entry). replies_at o journal (length past)) (append_assoc past (e ∷ due) rest)
    ∙ ap (λ (before : List Entry). replies_to o before (slice_get (past ++ e ∷ (due ++ rest)) (length past))) (take-append_seam past (e ∷ (due ++ rest)))
    ∙ ap (replies_to o past) (slice_get-here past e (due ++ rest))
