use Rattle.std.proofs.Common.{◌≡◌, ◌++◌, ℕ, List, ap}
use Rattle.std.specs.Prelude.{Option, option_map, None}
use Rattle.dir_remote.specs.Guard.Sentences.{words_of}
use Rattle.dir_remote.proofs.guard.sentences.sentence.Goals as goal

no_words : (path : List ℕ) (all : Option (List ℕ)) → None ≡ all → None ≡ option_map (λ (w : List ℕ). path ++ w) all
no_words path all e = ap (λ (o : Option (List ℕ)). option_map (λ (w : List ℕ). path ++ w) o) e

pub returns-in-None-clause-text : goal.returns-in-None-clause-text
returns-in-None-clause-text c = no_words c.args.path.now (words_of c.args.want c.args.seen) c.in-None.ensures
