-- What came of a kit's work.
use Rattle.std.specs.Prelude.{ℕ, ◌≡◌, true, false, List, Option, Some, None}
use Rattle.annex_model.specs.Messages.{HostMessage}
use Rattle.kit_serve.specs.declared.kit.call.Asked.{Asked}
use Rattle.pair_kit.specs.declared.work.Work.{Work}
use Rattle.pair_kit.specs.declared.work.Work.TheVariants.{Nothing, Over, Line}
use Rattle.pair_kit.specs.Shelves.{Items}
use Rattle.pair_kit.specs.Pairs.{PairValue}
use Rattle.pair_kit.specs.Works.{is_waiting, next_message, Serves, Takes}

pub record IsSame (keys files : Items) (old : PairValue) (new_keys new_files : Items) (new : PairValue) : Type 0 where
  pub keys_stay : new_keys ≡ keys
  pub files_stay : new_files ≡ files
  pub pair_stays : new ≡ old

pub record TakesOne (keys files : Items) (old : PairValue) (new_keys new_files : Items) (new : PairValue) (answer : Option (List ℕ)) (bytes : List ℕ) : Type 0 where
  pub message : HostMessage
  pub asked : Option Asked
  pub next : next_message old.at_kit ≡ Some message
  pub serves : Serves keys files asked new_keys new_files bytes
  pub takes : Takes keys files old new message asked answer

abbrev pub Worked : Items → Items → PairValue → Items → Items → PairValue → Work → Type 0
Worked keys files old new_keys new_files new Nothing = (is_waiting old.at_kit ≡ true) × IsSame keys files old new_keys new_files new
Worked keys files old new_keys new_files new Over =
    (is_waiting old.at_kit ≡ false) × (next_message old.at_kit ≡ None) × IsSame keys files old new_keys new_files new
Worked keys files old new_keys new_files new (Line answer bytes) =
    (is_waiting old.at_kit ≡ false) × TakesOne keys files old new_keys new_files new answer bytes
