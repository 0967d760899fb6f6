-- A link that is held stays so where nothing of its child is made, and where it is closed.
use Rattle.std.proofs.Common.{◌≡◌, ℕ, List, [], ◌∷◌, ◌++◌, refl, sym, subst, Bool, true, false, not, ◌==◌, ap, ◌∙◌, ◌⊎◌, inl, inr, cond}
use Rattle.std.specs.Prelude.{◌||◌}
use Rattle.std.proofs.lemmas.Bool.{or_cases}
use Rattle.journal_model.specs.declared.verdict.Why.TheVariants.{Closed}
use Rattle.journal_model.specs.declared.entry.What.TheVariants.{End}
use Rattle.journal_model.specs.declared.entry.Entry.{Entry}
use Rattle.journal_model.specs.Journal.{any, is_ended, is_tagged}
use Rattle.journal_model.specs.Halves.{EarValue, MouthValue, EarWired}
use Rattle.journal_model.specs.Shares.{is_heard, is_of_child, is_said}
use Rattle.journal_model.proofs.Ears.{ear_stop}
use Rattle.journal_model.proofs.Heard.{heard_on}
use Rattle.journal_model.proofs.Mouths.{mouth_apart}
use Rattle.journal_model.proofs.Turns.{tagged_on}
use Rattle.journal_model.proofs.Soft.{IsSoft, soft_stretch}
use Rattle.child_link.specs.Alone.{Closes}
use Rattle.child_link.specs.Writings.{LoneWired}
use Rattle.child_link.proofs.Linked.{any_narrower, heard_of, link_apart, said_of}
use Rattle.child_link.proofs.Roles.{all_left}
use Rattle.child_link.proofs.Writings.{written_apart, written_on}
use Rattle.child_life.specs.End.Wires.{IsHeld, is_mains, is_served_alone}
use Rattle.ann_key.proofs.Booleans.{or_left, or_right}

-- a link whose requests are written before they are answered, whoever serves the child
pub lone_held : (journal : List Entry) (e : EarValue) (m : MouthValue) → LoneWired journal e m → IsHeld journal e m
lone_held journal e m w = record { link = w.link; written = λ alone. w.written }

mains_before : (past more : List Entry) (c : ℕ) → is_mains (past ++ more) c ≡ true → is_mains past c ≡ true
mains_before past more c h = all_left (λ (e : Entry). not (is_of_child c e.what) || e.by == 0) past more h

untagged_before : (past more : List Entry) (c : ℕ) → not (is_tagged (past ++ more) c) ≡ true → not (is_tagged past c) ≡ true
untagged_before past more c h = go (is_tagged past c) refl
  where
    go : (b : Bool) → is_tagged past c ≡ b → not b ≡ true
    go false e = refl
    go true e = let bad : false ≡ true = sym (ap not (tagged_on past more c e)) ∙ h in absurd cc

alone_before : (past more : List Entry) (c : ℕ) → is_served_alone (past ++ more) c ≡ true → is_served_alone past c ≡ true
alone_before past more c h = go (or_cases (not (is_tagged (past ++ more) c)) (is_mains (past ++ more) c) h)
  where
    go : (not (is_tagged (past ++ more) c) ≡ true) ⊎ (is_mains (past ++ more) c ≡ true) → is_served_alone past c ≡ true
    go (inl t) = or_left (not (is_tagged past c)) (is_mains past c) (untagged_before past more c t)
    go (inr m) = or_right (not (is_tagged past c)) (is_mains past c) (mains_before past more c m)

pub held_apart : (past more : List Entry) (e : EarValue) (m : MouthValue) → m.child ≡ e.child → any (is_of_child e.child) more ≡ false → IsHeld past e m → IsHeld (past ++ more) e m
held_apart past more e m one none h = record {
  link = link_apart past more e m one (any_narrower (is_heard e.child) (is_of_child e.child) (heard_of e.child) more none) (any_narrower (is_said e.child) (is_of_child e.child) (said_of e.child) more none) h.link;
  written = λ alone. written_apart past more e.child none (h.written (alone_before past more e.child alone));
}

pub held_closed : (n c : ℕ) (old new : List Entry) (e : EarValue) (m : MouthValue) → e.child ≡ c → Closes n c old new → IsHeld old e m → IsHeld new e m
held_closed n c old new e m ec h w = go (is_ended old c) refl h
  where
    one : List Entry
    one = record { by = n; what = End c Closed } ∷ []

    nothing : IsSoft e.child []
    nothing = soft_stretch e.child n [] refl

    go : (b : Bool) → is_ended old c ≡ b → new ≡ cond b old (old ++ one) → IsHeld new e m
    go true f h = subst (λ (j : List Entry). IsHeld j e m) (sym h) w
    go false f h = subst (λ (j : List Entry). IsHeld j e m) (sym h) (record {
      link = record {
        ear = subst (λ (k : ℕ). EarWired (old ++ record { by = n; what = End k Closed } ∷ []) e) ec
            (ear_stop old [] n Closed e nothing (subst (λ (k : ℕ). is_ended old k ≡ false) (sym ec) f) tt (λ x. absurd cc) (λ x. absurd cc) w.link.ear);
        mouth = mouth_apart old one m refl w.link.mouth;
        turn = heard_on e.child old one refl w.link.turn;
      };
      written = λ alone. written_on old one e.child refl (w.written (alone_before old one e.child alone));
    })
