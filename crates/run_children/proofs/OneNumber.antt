-- Of a child without tags, what the main thread didn't make is one number's.
use Rattle.std.proofs.Common.{◌≡◌, ℕ, ◌<◌, List, [], ◌∷◌, ◌++◌, refl, sym, ap, subst, ◌∙◌, append_assoc, Bool, true, false, not, ◌==◌, cond, arith}
use Rattle.std.specs.Prelude.{◌||◌, nat_lt}
use Rattle.std.specs.List.{list_all}
use Rattle.journal_model.specs.declared.verdict.Why.{Why}
use Rattle.journal_model.specs.declared.verdict.Why.TheVariants.{Memory}
use Rattle.journal_model.specs.declared.entry.What.{What}
use Rattle.journal_model.specs.declared.entry.What.TheVariants.{End, Verdict as Settled}
use Rattle.journal_model.specs.declared.entry.Entry.{Entry}
use Rattle.journal_model.specs.Journal.{is_tagged}
use Rattle.journal_model.specs.Shares.{by_link, is_closed, is_memory}
use Rattle.journal_model.proofs.Testing.{all-split, by_either}
use Rattle.child_link.proofs.Linked.{ear_links, mouth_links}
use Rattle.crew_work.specs.Laws.Posts.{Ear, Ender, Idle, Lone, Mouth, Worker, gives_up, makes, serves, works}
use Rattle.run_children.specs.PostLaws.{HasOneNumber}
use Rattle.run_children.specs.Posts.{AllPosted, PostedOver, is_paired, names, post_over, since_start}
use Rattle.run_children.proofs.Pairing.{serves_names}
use Rattle.run_children.proofs.Since.{since_more}
use Rattle.run_children.proofs.Unpaired.{posted_at}
use Rattle.std.proofs.lemmas.Bool.{and_parts as both, ne_eqb as differ, eqb-true as same_number}
use Rattle.ann_key.proofs.Booleans.{or_left, or_right}

-- ---- what a post makes, a worker that has the child for itself may make too

memory_unclosed : (why : Why) → is_memory why ≡ true → is_closed why ≡ false
memory_unclosed Memory h = refl
memory_unclosed why h = absurd cc

ender_serves : (c : ℕ) (w : What) → gives_up c w ≡ true → serves c w ≡ true
ender_serves c (End child why) h =
    let t = both (child == c) (is_memory why) h in
    rw (t.0, memory_unclosed why t.1) refl
ender_serves c (Settled child job verdict) h = or_left (child == c) false h
ender_serves c w h = absurd cc

over_serves : (past : List Entry) (c by : ℕ) (w : What) → makes (post_over past c by) w ≡ true → serves c w ≡ true
over_serves past c by w h = go (is_tagged past c) (nat_lt by 2) (by == 2) (by == 3) h
  where
    go : (tagged low two three : Bool) → makes (cond tagged (cond low (Ender c) (cond two (Ear c) (cond three (Mouth c) (Worker c)))) (cond low Idle (Lone c))) w ≡ true → serves c w ≡ true
    go true true two three k = ender_serves c w k
    go true false true three k = or_left (by_link c w) (works c w) (ear_links c w k)
    go true false false true k = or_left (by_link c w) (works c w) (mouth_links c w k)
    go true false false false k = or_right (by_link c w) (works c w) k
    go false true two three k = absurd cc
    go false false two three k = k

-- so an entry that names a child was made over it
named_over : (past : List Entry) (c d by : ℕ) (w : What) → PostedOver past by w d → names c w ≡ true → PostedOver past by w c
named_over past c d by w p named = by_either (d == c)
    (λ it. subst (PostedOver past by w) (same_number d c it) p)
    (λ other. absurd (let bad : true ≡ false = sym named ∙ serves_names d c w other (over_serves past d by w p.made) in cc))

-- ---- two entries

-- one of a pair's entries that names the child, and isn't the main thread's
paired_same : (c by : ℕ) (e : Entry) → 0 < e.by → names c e.what ≡ true → is_paired c by e ≡ true → e.by ≡ by
paired_same c by e some named h = go (e.by == by) refl h
  where
    go : (b : Bool) → (e.by == by) ≡ b → cond b (serves c e.what) (e.by == 0 || not (names c e.what)) ≡ true → e.by ≡ by
    go true is k = same_number e.by by is
    go false is k =
        let other : (e.by == 0) ≡ false = differ e.by 0 (λ z. absurd (let bad : ⊥ = omega (arith, z, some) in bad)) in
        let none : (e.by == 0 || not (names c e.what)) ≡ false = (rw (other, named) refl) in
        absurd (let bad : true ≡ false = sym k ∙ none in cc)

pub one_number : HasOneNumber
one_number front mid back e f c h some_e some_f named_e named_f plain =
    let split : front ++ e ∷ (mid ++ f ∷ back) ≡ (front ++ e ∷ mid) ++ f ∷ back = sym (append_assoc front (e ∷ mid) (f ∷ back)) in
    let over_e = posted_at [] front e (mid ++ f ∷ back) h some_e in
    let over_f = posted_at [] (front ++ e ∷ mid) f back (subst (AllPosted []) split h) some_f in
    let first : PostedOver front e.by e.what c = named_over front c over_e.0 e.by e.what over_e.1 named_e in
    let second : PostedOver (front ++ e ∷ mid) f.by f.what c = named_over (front ++ e ∷ mid) c over_f.0 f.by f.what over_f.1 named_f in
    let along : list_all (is_paired c f.by) (since_start c front ++ e ∷ mid) ≡ true = ap (list_all (is_paired c f.by)) (sym (since_more c front (e ∷ mid) first.started)) ∙ second.paired plain in
    let rest = (all-split (is_paired c f.by) (since_start c front) (e ∷ mid) along).1 in
    paired_same c f.by e some_e named_e (both (is_paired c f.by e) (list_all (is_paired c f.by) mid) rest).0
