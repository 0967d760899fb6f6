-- What a link does, by what its halves do.
use Rattle.std.proofs.Common.{◌≡◌, ℕ, List, [], ◌∷◌, ◌++◌, refl, sym, subst, ◌∙◌, Bool, true, false, not}
use Rattle.std.specs.Prelude.{◌==◌, ◌&&◌}
use Rattle.std.specs.List.{list_all}
use Rattle.std.proofs.lemmas.List.{append_cancel_left}
use Rattle.journal_model.specs.declared.verdict.Why.{Why}
use Rattle.journal_model.specs.declared.verdict.Why.TheVariants.{Memory}
use Rattle.journal_model.specs.declared.entry.What.{What}
use Rattle.journal_model.specs.declared.entry.What.TheVariants.{Lead, Ask, Put, Sent, Mute, Got, End, Verdict as Settled, Lost}
use Rattle.journal_model.specs.declared.entry.Entry.{Entry}
use Rattle.journal_model.specs.declared.opening.Opening.{Opening}
use Rattle.journal_model.specs.Journal.{any}
use Rattle.journal_model.specs.Due.{made_by}
use Rattle.journal_model.proofs.Heard.{heard_on}
use Rattle.journal_model.specs.Shares.{are_own, Moved, is_by_line, is_memory, is_closed, is_heard, is_said, is_of_child, by_ear, by_mouth, by_link, by_asker}
use Rattle.child_link.specs.Doors.{Passed, Stands}
use Rattle.journal_model.specs.Halves.{EarValue, MouthValue, EarWired, MouthWired, LinkWired}
use Rattle.child_link.proofs.Roles.{moved_by, moved_on, moved_wider, none_made, all_narrower}
use Rattle.journal_model.proofs.Ears.{ear_apart, no_gots}
use Rattle.journal_model.proofs.Mouths.{mouth_apart}
use Rattle.child_link.proofs.Turns.{InTurn}
use Rattle.ann_key.proofs.Booleans.{left_false as either_left, right_false as either_right}

-- ---- the kinds

one : (a b : Bool) → (a && b) ≡ true → a ≡ true
one true b h = refl
one false b h = absurd cc

pub ear_links : (c : ℕ) (w : What) → by_ear c w ≡ true → by_link c w ≡ true
ear_links c (Put child job line) h = h
ear_links c (Got child line) h = h
ear_links c (End child why) h = h
ear_links c (Settled child job verdict) h = h
ear_links c w h = absurd cc

memory_open : (why : Why) → is_memory why ≡ true → not (is_closed why) ≡ true
memory_open Memory h = refl
memory_open why h = absurd cc

two : (a b c : Bool) → (b ≡ true → c ≡ true) → (a && b) ≡ true → (a && c) ≡ true
two true b c f h = f h
two false b c f h = absurd cc

pub mouth_links : (c : ℕ) (w : What) → by_mouth c w ≡ true → by_link c w ≡ true
mouth_links c (Sent child) h = h
mouth_links c (Mute child) h = h
mouth_links c (End child why) h = two (child == c) (is_memory why) (not (is_closed why)) (memory_open why) h
mouth_links c (Settled child job verdict) h = one (child == c) (not (is_by_line verdict)) h
mouth_links c w h = absurd cc

pub link_asks : (c : ℕ) (w : What) → by_link c w ≡ true → by_asker c w ≡ true
link_asks c (Lead child job line) h = absurd cc
link_asks c (Ask child job task line) h = absurd cc
link_asks c (Lost child task) h = absurd cc
link_asks c (Put child job line) h = h
link_asks c (Sent child) h = h
link_asks c (Mute child) h = h
link_asks c (Got child line) h = h
link_asks c (End child why) h = h
link_asks c (Settled child job verdict) h = h
link_asks c w h = absurd cc

pub heard_of : (c : ℕ) (w : What) → is_heard c w ≡ true → is_of_child c w ≡ true
heard_of c (Got child line) h = h
heard_of c (End child why) h = one (child == c) (not (is_memory why)) h
heard_of c w h = absurd cc

pub said_of : (c : ℕ) (w : What) → is_said c w ≡ true → is_of_child c w ≡ true
said_of c (Sent child) h = h
said_of c (Mute child) h = h
said_of c w h = absurd cc

ear_unsaid : (c : ℕ) (w : What) → by_ear c w ≡ true → is_said c w ≡ false
ear_unsaid c (Sent child) h = absurd cc
ear_unsaid c (Mute child) h = absurd cc
ear_unsaid c w h = refl

mouth_unheard : (c : ℕ) (w : What) → by_mouth c w ≡ true → is_heard c w ≡ false
mouth_unheard c (Got child line) h = absurd cc
mouth_unheard c (End child why) h = go (child == c) (is_memory why) h
  where
    go : (a b : Bool) → (a && b) ≡ true → (a && not b) ≡ false
    go true true h = refl
    go true false h = absurd cc
    go false b h = refl
mouth_unheard c w h = refl

-- nothing of a wider kind is nothing of a kind
pub any_narrower : (p q : What → Bool) → ((w : What) → p w ≡ true → q w ≡ true) → (xs : List Entry) → any q xs ≡ false → any p xs ≡ false
any_narrower p q f [] h = refl
any_narrower p q f (x ∷ xs) h =
    rw (less (p x.what) (q x.what) (f x.what) (either_left (q x.what) (any q xs) h), any_narrower p q f xs (either_right (q x.what) (any q xs) h)) refl
  where
    less : (a b : Bool) → (a ≡ true → b ≡ true) → b ≡ false → a ≡ false
    less false b f h = refl
    less true true f h = h
    less true false f h = let bad : false ≡ true = f refl in absurd cc

-- ---- what keeps both halves

-- a stretch that knows nothing of the child
pub link_apart : (past more : List Entry) (e : EarValue) (m : MouthValue) → m.child ≡ e.child → any (is_heard e.child) more ≡ false → any (is_said e.child) more ≡ false
    → LinkWired past e m → LinkWired (past ++ more) e m
link_apart past more e m is heard said h = record {
  ear = ear_apart past more e heard h.ear;
  mouth = mouth_apart past more m (subst (λ (k : ℕ). any (is_said k) more ≡ false) (sym is) said) h.mouth;
  turn = heard_on e.child past more (no_gots e.child more heard) h.turn;
}

-- others alone went on
pub link_on : {n : ℕ} {a : Bool} {old new : List Entry} {makes : What → Bool} (e : EarValue) (m : MouthValue) → m.child ≡ e.child → Passed n a old new
    → Moved n a makes (is_of_child e.child) old new (LinkWired old e m) (LinkWired new e m)
link_on {old = old} e m is s = moved_on s (λ none h.
    subst (λ (j : List Entry). LinkWired j e m) (sym s.is)
    (link_apart old s.others e m is (any_narrower (is_heard e.child) (is_of_child e.child) (heard_of e.child) s.others none)
    (any_narrower (is_said e.child) (is_of_child e.child) (said_of e.child) s.others none) h))

-- entries of other kinds were made
pub link_makes : {n : ℕ} {a : Bool} {o : Opening} {old new : List Entry} {makes : What → Bool} {ws : List Entry → List What} {Found : List Entry → Type 0} (e : EarValue) (m : MouthValue) → m.child ≡ e.child
    → (s : Stands o n a old new ws Found) → list_all makes (ws s.past) ≡ true
    → any (is_heard e.child) (made_by n (ws s.past)) ≡ false → any (is_said e.child) (made_by n (ws s.past)) ≡ false
    → Moved n a makes (is_of_child e.child) old new (LinkWired old e m) (LinkWired new e m)
link_makes {n} {old = old} {ws = ws} e m is s own heard said = moved_by s own (λ none h.
    subst (λ (j : List Entry). LinkWired j e m) (sym s.is)
    (link_apart s.past (made_by n (ws s.past)) e m is heard said
    (subst (λ (j : List Entry). LinkWired j e m) (sym s.passed.is)
    (link_apart old s.passed.others e m is (any_narrower (is_heard e.child) (is_of_child e.child) (heard_of e.child) s.passed.others none)
    (any_narrower (is_said e.child) (is_of_child e.child) (said_of e.child) s.passed.others none) h))))

-- its ear did something
pub link_ear : {n : ℕ} {a : Bool} {old new : List Entry} (e f : EarValue) (m : MouthValue) → m.child ≡ e.child → f.child ≡ e.child
    → Moved n a (by_ear e.child) (is_heard e.child) old new (EarWired old e) (EarWired new f)
    → Moved n a (by_ear e.child) (is_of_child e.child) old new (InTurn e.child old) (InTurn e.child new)
    → Moved n a (by_link e.child) (is_of_child e.child) old new (LinkWired old e m) (LinkWired new f m)
link_ear {n} {old = old} {new = new} e f m is still s t =
    let c = e.child in
    let mores : s.more ≡ t.more = append_cancel_left old s.more t.more (sym s.is ∙ t.is) in
    moved_wider (ear_links c) (heard_of c) s (λ h own w. record {
      ear = own w.ear;
      mouth = subst (λ (j : List Entry). MouthWired j m) (sym s.is)
          (mouth_apart old s.more m
          (subst (λ (k : ℕ). any (is_said k) s.more ≡ false) (sym is)
          (none_made (by_ear c) (is_said c) (ear_unsaid c) n s.more s.own (all_narrower (is_said c) (is_of_child c) (said_of c) n s.more h))) w.mouth);
      turn = subst (λ (k : ℕ). InTurn k new) (sym still) (t.kept (subst (λ (l : List Entry). are_own (is_of_child c) n l ≡ true) mores h) w.turn);
    })

-- its mouth did something
pub link_mouth : {n : ℕ} {a : Bool} {old new : List Entry} (e : EarValue) (m w : MouthValue) → m.child ≡ e.child
    → Moved n a (by_mouth m.child) (is_said m.child) old new (MouthWired old m) (MouthWired new w)
    → Moved n a (by_link e.child) (is_of_child e.child) old new (LinkWired old e m) (LinkWired new e w)
link_mouth {n} {a} {old} {new} e m w is s' =
    let c = e.child in
    let s : Moved n a (by_mouth c) (is_said c) old new (MouthWired old m) (MouthWired new w) =
    subst (λ (k : ℕ). Moved n a (by_mouth k) (is_said k) old new (MouthWired old m) (MouthWired new w)) is s' in
    moved_wider (mouth_links c) (said_of c) s (λ h own l.
    (let unheard = none_made (by_mouth c) (is_heard c) (mouth_unheard c) n s.more s.own (all_narrower (is_heard c) (is_of_child c) (heard_of c) n s.more h) in
    record {
      ear = subst (λ (j : List Entry). EarWired j e) (sym s.is) (ear_apart old s.more e unheard l.ear);
      mouth = own l.mouth;
      turn = subst (InTurn c) (sym s.is) (heard_on c old s.more (no_gots c s.more unheard) l.turn);
    }))
