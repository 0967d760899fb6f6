use Rattle.std.proofs.Common.{◌≡◌, ◌<◌, List, [], ◌∷◌, length, None, refl, arith}
use Rattle.std.specs.Prelude.{String}
use Rattle.std.specs.declared.alloc.Global.{Global}
use Rattle.cli_words.specs.Values.{texts_of}
use Rattle.cli_words.specs.Words.{init_of}
use Rattle.cli_words.proofs.reading.init_of.Goals as goal

few : (words : List (String Global)) → length words < 3 → None ≡ init_of (texts_of words)
few [] h = refl
few (a ∷ []) h = refl
few (a ∷ b ∷ []) h = refl
few (a ∷ b ∷ c ∷ words) h = absurd (omega arith)

pub returns-in_default : goal.returns-in_default
returns-in_default c = few c.args.words.now (omega (arith, c.in_default.len_below))
