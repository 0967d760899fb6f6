-- Why an entry is refused: what the posts of the worked rows come to.
use Rattle.std.proofs.Common.{◌≡◌, ℕ, ◌<◌, List, [], ◌∷◌, ◌++◌, refl, sym, subst, ◌∙◌, append_assoc, append-nil, Bool, true, false, cond}
use Rattle.std.specs.Prelude.{nat_lt}
use Rattle.journal_model.specs.declared.entry.What.{What}
use Rattle.journal_model.specs.declared.entry.Entry.{Entry}
use Rattle.journal_model.specs.Journal.{is_tagged}
use Rattle.crew_work.specs.Laws.Posts.{Idle, Lone, makes, serves, tagged_crew}
use Rattle.run_children.specs.Posts.{AllPosted, IsPosted, PostedOver, are_paired}

-- one of the entries
pub posted_at : (past xs : List Entry) (e : Entry) (ys : List Entry) → AllPosted past (xs ++ e ∷ ys) → IsPosted (past ++ xs) e.by e.what
posted_at past [] e ys h = subst (λ (j : List Entry). IsPosted j e.by e.what) (sym (append-nil past)) h.0
posted_at past (x ∷ xs) e ys h = subst (λ (j : List Entry). IsPosted j e.by e.what) (append_assoc past (x ∷ []) xs) (posted_at (past ++ x ∷ []) xs e ys h.1)

-- what stands of a child that takes no tags
pub posted_lone : (past : List Entry) (by : ℕ) (w : What) (c : ℕ) → nat_lt by 2 ≡ false → makes (tagged_crew c by) w ≡ false → PostedOver past by w c → (is_tagged past c ≡ false) × (serves c w ≡ true)
posted_lone past by w c far not_tagged p = go (is_tagged past c) refl p.made
  where
    go : (b : Bool) → is_tagged past c ≡ b → makes (cond b (tagged_crew c by) (cond (nat_lt by 2) Idle (Lone c))) w ≡ true → (is_tagged past c ≡ false) × (serves c w ≡ true)
    go true e h = absurd (let bad : true ≡ false = sym h ∙ not_tagged in cc)
    go false e h = (e, rw far at h)

-- an entry over child d alone is refused where the number and d aren't paired
pub refused : (past : List Entry) (by d : ℕ) (w : What) → 0 < by → nat_lt by 2 ≡ false → ((c : ℕ) → makes (tagged_crew c by) w ≡ false) → ((c : ℕ) → serves c w ≡ true → d ≡ c) → is_tagged past d ≡ false → are_paired past d by ≡ false
    → IsPosted past by w → ⊥
refused past by d w some far not_tagged its plain apart posted =
    let over = posted some in
    let lone = posted_lone past by w over.0 far (not_tagged over.0) over.1 in
    let here : PostedOver past by w d = subst (PostedOver past by w) (sym (its over.0 lone.1)) over.1 in
    let bad : true ≡ false = sym (here.paired plain) ∙ apart in
    cc
