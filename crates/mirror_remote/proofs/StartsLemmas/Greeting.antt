-- A child that was greeted is linked, and one that is ready serves.
use Rattle.std.proofs.Common.{◌≡◌, ℕ, List, [], ◌∷◌, refl, ap, subst, true, false, ◌==◌, length, arith}
use Rattle.std.specs.Prelude.{◌&&◌}
use Rattle.std.specs.List.{list_all}
use Rattle.journal_model.specs.declared.entry.What.{What}
use Rattle.journal_model.specs.declared.entry.What.TheVariants.{NoStart, Lead, Ask, Lost}
use Rattle.journal_model.specs.declared.entry.Entry.{Entry}
use Rattle.journal_model.specs.Legality.{Legal}
use Rattle.journal_model.specs.Shares.{by_asker}
use Rattle.child_link.specs.Writings.{LoneWired}
use Rattle.child_life.specs.declared.start.greeting.Mode.TheVariants.{Serve}
use Rattle.child_life.specs.Start.Greetings.{Greeted, IsReady, is_greeting_line_for, is_of_greeting_for}
use Rattle.child_life.specs.End.Wires.{came}
use Rattle.mirror_children.specs.Children.{ChildValue, IsLinked, IsServing}
use Rattle.mirror_remote.specs.Starts.Stops.{IsUnwired, LogValue}
use Rattle.mirror_remote.proofs.StartsLemmas.Stopping.{sound}
use Rattle.std.proofs.lemmas.Bool.{and_parts as both}

greeting_asks : (w : What) → is_of_greeting_for Serve 1 w ≡ true → by_asker 1 w ≡ true
greeting_asks (Ask child job task line) h = (both (child == 1) (task == 0 && is_greeting_line_for Serve job line) h).0
greeting_asks (Lost child task) h = (both (child == 1) (task == 0) h).0
greeting_asks (Lead child job line) h = absurd (let bad : false ≡ true = h in cc)
greeting_asks w h = h

greeting_asks_all : (es : List Entry) → list_all (λ (e : Entry). is_of_greeting_for Serve 1 e.what) es ≡ true → list_all (λ (e : Entry). by_asker 1 e.what) es ≡ true
greeting_asks_all [] h = refl
greeting_asks_all (e ∷ es) h =
    let t = both (is_of_greeting_for Serve 1 e.what) (list_all (λ (x : Entry). is_of_greeting_for Serve 1 x.what) es) h in
    rw (greeting_asks e.what t.0, greeting_asks_all es t.1) refl

-- the one child of an empty journal is the first
pub first_child : (past journal : List Entry) (k : ℕ) → past ≡ [] → Greeted past journal 0 false k → k ≡ 1
first_child past journal k none g = first [] (subst (λ (x : List Entry). Greeted x journal 0 false k) none g)
  where
    first : (x : List Entry) → Greeted [] journal 0 false k → k ≡ 1
    first x h = h.next

pub greeted_first : (past journal : List Entry) (k : ℕ) → past ≡ [] → Greeted past journal 0 false k → Greeted [] journal 0 false 1
greeted_first past journal k none g =
    subst (λ (n : ℕ). Greeted [] journal 0 false n) (first_child past journal k none g) (subst (λ (x : List Entry). Greeted x journal 0 false k) none g)

pub linked_greeted : (c : ChildValue) → c.ear.child ≡ 1 → c.mouth.child ≡ c.ear.child → Greeted [] c.journal 0 false 1 → Legal c.opening c.journal → LoneWired c.journal c.ear c.mouth → IsLinked c
linked_greeted c one same g legal wired = record {
  legal = legal;
  more = g.more;
  first = g.grown;
  own = greeting_asks_all g.more g.own;
  main = g.main;
  idle = g.idle;
  child = one;
  both = same;
  wired = wired;
}

pub serving_ready : (c : ChildValue) → IsLinked c → IsReady c.journal 1 → IsServing c
serving_ready c l r =
    let two : length {A = ℕ} (0 ∷ 1 ∷ []) ≡ 2 = refl in
    record { linked = l; prepared = r.prepared; greeted = omega (arith, ap (λ (js : List ℕ). length js) r.jobs, two) }

-- a journal with a start that failed alone
pub unwired : (l : LogValue) → l.journal ≡ record { by = 0; what = NoStart 0 } ∷ [] → Legal l.opening l.journal → IsUnwired l
unwired l only legal = (sound l.opening l.journal legal, ap came only)
