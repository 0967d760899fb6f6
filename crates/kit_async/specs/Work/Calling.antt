-- What promises who calls a remote: of its calls and of its own pass, whatever the others do.
use Rattle.std.specs.Prelude.{ℕ, ◌≡◌, ◌+◌, ◌&&◌, not, Bool, List, ◌++◌, Option, Some, None, option_map}
use Rattle.annex_model.specs.Lines.{has_newline}
use Rattle.annex_model.specs.Messages.{is_sent_key}
use Rattle.threads.specs.Passes.{seen_of}
use Rattle.kit_serve.specs.declared.kit.call.Call.{Call}
use Rattle.kit_serve.specs.declared.kit.call.Asked.{Asked}
use Rattle.kit_serve.specs.declared.kit.call.Asked.TheVariants.{Prepare, Initialize, Store, Retrieve, Check, Remove}
use Rattle.kit_serve.specs.Kit.Calls.{are_lines}
use Rattle.kit_async_model.specs.Callings.{calls_of}
use Rattle.kit_async_model.specs.declared.setup.Setup.{Setup}
use Rattle.kit_async_model.specs.declared.entry.Entry.{Entry}
use Rattle.kit_async_model.specs.declared.event.Reply.TheVariants.{Wait}
use Rattle.kit_async_model.specs.Events.{only, take_step}
use Rattle.kit_async_model.specs.Standings.{standing}
use Rattle.kit_async_core.specs.Halls.{KitHall, KitPass}
use Rattle.kit_async.specs.Work.Passes.{Stands}

-- what is seen of a remote
pub record HandValue : Type 0 where
  pub calls : Option (List Call)
  pub settings : List (List ℕ)

abbrev pub hand_of : Option (List Call) → List (List ℕ) → HandValue
hand_of calls settings = record { calls = calls; settings = settings }

-- what a remote may be asked for: no line ends in it, and its key holds no space
abbrev pub can_be_asked : Asked → Bool
can_be_asked (Prepare values) = are_lines values
can_be_asked (Initialize values) = are_lines values
can_be_asked (Store key file) = is_sent_key key && not (has_newline file)
can_be_asked (Retrieve key file) = is_sent_key key && not (has_newline file)
can_be_asked (Check key) = is_sent_key key
can_be_asked (Remove key) = is_sent_key key

-- it had the calls that the journal has of it after those that it had at the begin, and no others
abbrev pub Works : Option (List Call) → Setup → ℕ → List Entry → HandValue → Type 0
Works begun setup remote journal hand = hand.calls ≡ option_map (λ told. told ++ calls_of setup remote journal) begun

-- there is nothing that it may take up, and something may come
abbrev pub HasNoWork : Setup → ℕ → List Entry → Type 0
HasNoWork setup remote journal = take_step setup (standing setup journal) remote ≡ only Wait

pub record WorkerRan (h : KitHall) (remote : ℕ) (p q : KitPass) (a b : HandValue) : Type 0 where
  pub stands : Stands h (remote + 3) q
  pub works : (begun : Option (List Call)) → Works begun h.fixed remote (seen_of p) a → Works begun h.fixed remote (seen_of q) b
  pub settings : b.settings ≡ a.settings
