-- After the greeting of the first child.
use Rattle.std.proofs.Common.{◌≡◌, ℕ, List, [], ◌∷◌, refl, ap, ◌∙◌, true, false}
use Rattle.journal_model.specs.declared.entry.What.{What}
use Rattle.journal_model.specs.declared.entry.What.TheVariants.{Start}
use Rattle.journal_model.specs.declared.entry.Entry.{Entry}
use Rattle.journal_model.specs.Journal.{is_started}
use Rattle.child_life.specs.Start.Greetings.{Greeted}
use Rattle.run_starts.specs.Stints.{main_entry}
use Rattle.run_starts.specs.Once.Once.{start_in, starts_in}
use Rattle.run_starts.proofs.OnceLemmas.Looking.{Vanishes, greeting_says_none}
use Rattle.ann_key.proofs.Numbers.{same_number as same}

no_starts : Vanishes start_in
no_starts = record { put = λ c j l. refl; sent = λ c. refl; mute = λ c. refl; got = λ c l. refl; ended = λ c w. refl; settled = λ c j v. refl; ask = λ c j l. refl; lost = λ c. refl }

pub greeted_starts : (journal : List Entry) (c : ℕ) → Greeted [] journal 0 false c → starts_in journal ≡ Start 1 0 false ∷ []
greeted_starts journal c g =
    let grown : journal ≡ main_entry (Start 1 0 false) ∷ g.more = g.grown ∙ ap (λ (k : ℕ). main_entry (Start k 0 false) ∷ g.more) g.next in
    ap starts_in grown ∙ ap (λ (xs : List What). Start 1 0 false ∷ xs) (greeting_says_none start_in no_starts c g.more g.own)

pub greeted_started : (journal : List Entry) (c : ℕ) → Greeted [] journal 0 false c → is_started journal c ≡ true
greeted_started journal c g = ap (λ (j : List Entry). is_started j c) g.grown ∙ (rw (same c) refl)
