-- What of a child ends it, and what a stretch of a journal adds to what one child sees.
use Rattle.std.proofs.Common.{◌≡◌, ℕ, ◌+◌, List, [], ◌∷◌, ◌++◌, refl, ap, ◌∙◌, Bool, true, false, cond, Some, None, Option, length, append-nil, arith, length-append}
use Rattle.std.specs.Prelude.{◌||◌, filter, option_and_then, find, is_some}
use Rattle.std.specs.Option.{option_or}
use Rattle.std.proofs.lemmas.List.Elements.{filter-append}
use Rattle.journal_model.specs.declared.verdict.Why.{Why}
use Rattle.journal_model.specs.declared.entry.What.{What}
use Rattle.journal_model.specs.declared.entry.What.TheVariants.{End}
use Rattle.journal_model.specs.declared.entry.Entry.{Entry}
use Rattle.journal_model.specs.Journal.{each_of, writes, sends, mutes, ends, end_why, line_from, why_of, is_ended, is_mute, got_lines}
use Rattle.journal_model.proofs.Looks.{each_of-append, any-append}
use Rattle.ann_key.proofs.Booleans.{left_false as either_left, right_false as either_right}

abbrev pub sent_count : List Entry → ℕ → ℕ
sent_count past c = length (filter (λ e. sends c e.what) past)

pub sent_count-append : (xs ys : List Entry) (c : ℕ) → sent_count (xs ++ ys) c ≡ sent_count xs c + sent_count ys c
sent_count-append xs ys c =
    ap (λ (l : List Entry). length l) (filter-append (λ (e : Entry). sends c e.what) xs ys)
    ∙ length-append (filter (λ (e : Entry). sends c e.what) xs) (filter (λ (e : Entry). sends c e.what) ys)

ends_why : (c : ℕ) (w : What) → ends c w ≡ true → (why : Why) × (end_why c w ≡ Some why)
ends_why c (End child why) h = (why, rw h refl)
ends_why c w h = absurd cc

pub why_of-append : (xs ys : List Entry) (c : ℕ) → why_of (xs ++ ys) c ≡ option_or (why_of xs c) (why_of ys c)
why_of-append [] ys c = refl
why_of-append (e ∷ xs) ys c = go (ends c e.what) refl (why_of-append xs ys c)
  where
    go : (b : Bool) → ends c e.what ≡ b → why_of (xs ++ ys) c ≡ option_or (why_of xs c) (why_of ys c)
        → option_and_then (λ (x : Entry). end_why c x.what) (cond b (Some e) (find (λ (x : Entry). ends c x.what) (xs ++ ys)))
        ≡ option_or (option_and_then (λ (x : Entry). end_why c x.what) (cond b (Some e) (find (λ (x : Entry). ends c x.what) xs))) (why_of ys c)
    go false h r = r
    go true h r = let w = ends_why c e.what h in rw w.1 refl

pub unended : (past : List Entry) (c : ℕ) → is_ended past c ≡ false → why_of past c ≡ None
unended [] c h = refl
unended (e ∷ past) c h = go (ends c e.what) refl (either_left (ends c e.what) (is_ended past c) h) (unended past c (either_right (ends c e.what) (is_ended past c) h))
  where
    go : (b : Bool) → ends c e.what ≡ b → ends c e.what ≡ false → why_of past c ≡ None
        → option_and_then (λ (x : Entry). end_why c x.what) (cond b (Some e) (find (λ (x : Entry). ends c x.what) past)) ≡ None
    go true h k r = absurd cc (h, k)
    go false h k r = r

-- it has ended where there is a reason
pub why_is_end : (past : List Entry) (c : ℕ) → is_some (why_of past c) ≡ is_ended past c
why_is_end [] c = refl
why_is_end (e ∷ past) c = go (ends c e.what) refl (why_is_end past c)
  where
    go : (b : Bool) → ends c e.what ≡ b → is_some (why_of past c) ≡ is_ended past c
        → is_some (option_and_then (λ (x : Entry). end_why c x.what) (cond b (Some e) (find (λ (x : Entry). ends c x.what) past))) ≡ (b || is_ended past c)
    go true h r = let w = ends_why c e.what h in rw w.1 refl
    go false h r = r

abbrev Written : Type 0
Written = List (Option ℕ × List ℕ)

-- what a stretch says of one child
pub record Adds (c : ℕ) (more : List Entry) (gots : List (List ℕ)) (ws : Written) (sent : ℕ) (muted : Bool) (why : Option Why) : Type 0 where
  pub got : got_lines more c ≡ gots
  pub written : each_of (writes c) more ≡ ws
  pub covers : sent_count more c ≡ sent
  pub mutes : is_mute more c ≡ muted
  pub ends : why_of more c ≡ why

pub got_more : (past more : List Entry) (c : ℕ) (gots : List (List ℕ)) → got_lines more c ≡ gots → got_lines (past ++ more) c ≡ got_lines past c ++ gots
got_more past more c gots g = each_of-append (line_from c) past more ∙ ap (λ (x : List (List ℕ)). got_lines past c ++ x) g

pub mute_more : (past more : List Entry) (c : ℕ) → is_mute more c ≡ false → is_mute (past ++ more) c ≡ is_mute past c
mute_more past more c m = any-append (mutes c) past more ∙ ap (λ (b : Bool). is_mute past c || b) m ∙ or_false (is_mute past c)
  where
    or_false : (b : Bool) → (b || false) ≡ b
    or_false true = refl
    or_false false = refl

pub why_alone : (past more : List Entry) (c : ℕ) → is_ended past c ≡ false → why_of (past ++ more) c ≡ why_of more c
why_alone past more c e = why_of-append past more c ∙ ap (λ (o : Option Why). option_or o (why_of more c)) (unended past c e)

pub nothing_both : (c : ℕ) (xs ys : List Entry) → Adds c xs [] [] 0 false None → Adds c ys [] [] 0 false None → Adds c (xs ++ ys) [] [] 0 false None
nothing_both c xs ys a b = record {
  got = got_more xs ys c [] b.got ∙ append-nil (got_lines xs c) ∙ a.got;
  written = each_of-append (writes c) xs ys ∙ ap (λ (x : Written). each_of (writes c) xs ++ x) b.written ∙ append-nil (each_of (writes c) xs) ∙ a.written;
  covers = omega (arith, sent_count-append xs ys c, a.covers, b.covers);
  mutes = mute_more xs ys c b.mutes ∙ a.mutes;
  ends = why_of-append xs ys c ∙ ap (λ (o : Option Why). option_or o (why_of ys c)) a.ends ∙ b.ends;
}
