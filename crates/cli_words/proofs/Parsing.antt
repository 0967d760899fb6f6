-- What a parse of the words of `run` comes to.
use Rattle.std.proofs.Common.{◌≡◌, ℕ, true, List, [], ◌∷◌, Option, None, refl, sym, ap, ◌∙◌, inl, inr}
use Rattle.std.specs.Prelude.{if◌then◌else◌}
use Rattle.clap.specs.Kinds.{HasKind, Kinds}
use Rattle.clap.specs.Values.{kind_of}
use Rattle.clap.specs.Walk.{Row}
use Rattle.clap.specs.Simple.{is_simple, matches_of}
use Rattle.clap.specs.Faults.{fault_of, is_simple_and_free}
use Rattle.clap.specs.declared.error.Error.{Error}
use Rattle.clap.specs.declared.error.kind.ErrorKind.TheVariants.{OutOfMemory}
use Rattle.clap.proofs.OnLiterals.{clap_on_literals}
use Rattle.cli_words.specs.Grammar.{is_without, run_grammar}
use Rattle.cli_words.specs.Words.{run_from, run_of}
use Rattle.cli_words.specs.declared.command.RunWords.{RunWords}

pub is_simple_grammar : is_simple run_grammar ≡ true
unfolding clap_on_literals
is_simple_grammar = refl

pub is_free_grammar : is_simple_and_free run_grammar ≡ true
unfolding clap_on_literals
is_free_grammar = refl

run_by : Kinds → List Row → Option RunWords
run_by kinds rows = if is_without kinds then run_from rows else None

run_is : (words : List (List ℕ)) → run_of words ≡ run_by (fault_of run_grammar words) (matches_of run_grammar words)
unfolding run_of run_by
run_is words = refl

by_none : (kinds : Kinds) (rows : List Row) → kinds ≡ [] → run_by kinds rows ≡ run_from rows
unfolding run_by
by_none [] rows h = refl
by_none (k ∷ ks) rows h = absurd cc

by_some : (kinds : Kinds) (rows : List Row) (e : Error) → HasKind kinds e → (kind_of e ≡ OutOfMemory → ⊥) → run_by kinds rows ≡ None
unfolding run_by
by_some [] rows e h other = elim h [ inl memory ↦ absurd (other memory) | inr among ↦ absurd among ]
by_some (k ∷ ks) rows e h other = refl

-- the parse took the words, and found these rows
pub taken : (words : List (List ℕ)) (rows : List Row) → fault_of run_grammar words ≡ [] → rows ≡ matches_of run_grammar words → run_from rows ≡ run_of words
taken words rows none same = ap run_from same ∙ sym (run_is words ∙ by_none (fault_of run_grammar words) (matches_of run_grammar words) none)

-- the parse refused the words for another cause than memory
pub refused : (words : List (List ℕ)) (e : Error) → HasKind (fault_of run_grammar words) e → (kind_of e ≡ OutOfMemory → ⊥) → None ≡ run_of words
refused words e kinds other = sym (run_is words ∙ by_some (fault_of run_grammar words) (matches_of run_grammar words) e kinds other)
