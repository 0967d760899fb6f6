-- The calls of a cue.
use Rattle.std.proofs.Common.{◌≡◌, List, [], ◌∷◌, ◌++◌, Option, None, Some, subst}
use Rattle.std.specs.Prelude.{IfSome, option_to_list}
use Rattle.kit_serve.specs.declared.kit.call.Said.{Said}
use Rattle.kit_serve.specs.declared.kit.call.Call.{Call}
use Rattle.pair_kit.specs.Cues.{AreSaid}

pub said_front : (word : Said) (xs ys : List Call) → AreSaid word (xs ++ ys) → AreSaid word xs
said_front word [] ys h = tt
said_front word (x ∷ xs) ys h = (h.0, said_front word xs ys h.1)

said_last : (word : Said) (xs : List Call) (x : Call) → AreSaid word (xs ++ x ∷ []) → x.said ≡ word
said_last word [] x h = h.0
said_last word (y ∷ xs) x h = said_last word xs x h.1

pub said_more : (word : Said) (xs : List Call) (x : Call) → AreSaid word xs → x.said ≡ word → AreSaid word (xs ++ x ∷ [])
said_more word [] x h e = (e, tt)
said_more word (y ∷ xs) x h e = (h.0, said_more word xs x h.1 e)

-- a call that is taken from the end was answered by the word
pub said_popped : (word : Said) (old new : List Call) (call : Option Call) → old ≡ new ++ option_to_list call → AreSaid word old → IfSome call (λ c. c.said ≡ word)
said_popped word old new None is h = tt
said_popped word old new (Some c) is h = said_last word new c (subst (AreSaid word) is h)
