-- What a kit of the world does with the next line, over the keys and the files.
use Rattle.std.specs.Prelude.{ℕ, ◌≡◌, ◌&&◌, not, nat_le, Bool, true, false, if◌then◌else◌, List, [], ◌∷◌, ◌++◌, length, Option, Some, None, option_map, codes, IfSome}
use Rattle.annex_model.specs.Lines.{has_newline, text}
use Rattle.annex_model.specs.Messages.{HostMessage, Transfer, Checkpresent, host_reading}
use Rattle.wire_line.specs.HeldBytes.{first_line, after_line}
use Rattle.kit_serve.specs.declared.kit.call.Said.{Said}
use Rattle.kit_serve.specs.declared.kit.call.Said.TheVariants.{Yes, No, Failure}
use Rattle.kit_serve.specs.declared.kit.call.Asked.{Asked}
use Rattle.kit_serve.specs.declared.kit.call.Asked.TheVariants.{Prepare as AskPrepare, Initialize as AskInitialize, Store as AskStore, Retrieve as AskRetrieve, Check as AskCheck, Remove as AskRemove}
use Rattle.kit_serve.specs.declared.kit.call.Call.{Call}
use Rattle.kit_serve.specs.Kit.Kits.{Heard, due_of, asked_by, lines_to, is_value, IsAskedBy}
use Rattle.kit_serve.specs.Kit.Stages.{KitValue, Follows, is_free}
use Rattle.pair_kit.specs.Shelves.{Items, content, without, with_item}
use Rattle.pair_kit.specs.Cues.{CueValue, settings}
use Rattle.pair_kit.specs.declared.answer.Answer.{Answer}
use Rattle.pair_kit.specs.Pairs.{PairValue, heard}

-- bytes of a line that a kit takes, without its end
abbrev pub longest_line : ℕ
longest_line = 131072

-- there is nothing to take: no whole line, and no more bytes than a line may have
abbrev pub is_waiting : List ℕ → Bool
is_waiting side = not (has_newline side) && nat_le (length side) longest_line

-- the first line is whole, and no longer than it may be
abbrev pub has_whole : List ℕ → Bool
has_whole side = has_newline side && nat_le (length (first_line side)) longest_line

-- the message that it spells. Where something is there and this is None, the kit is over: it takes nothing any more
abbrev pub next_message : List ℕ → Option HostMessage
next_message side = if has_whole side then host_reading (first_line side) else None

-- ---- the remote of every kit: the keys and the files

abbrev pub found : Option (List ℕ) → List ℕ → Said
found None text = Failure text
found (Some bytes) text = Yes

abbrev pub is_there : Option (List ℕ) → Said
is_there None = No
is_there (Some bytes) = Yes

-- what it says to a call
abbrev pub word : Items → Items → Asked → Said
word keys files (AskPrepare values) = Yes
word keys files (AskInitialize values) = Yes
word keys files (AskStore key file) = found (content file files) (codes "no such file")
word keys files (AskRetrieve key file) = found (content key keys) (codes "no such key")
word keys files (AskCheck key) = is_there (content key keys)
word keys files (AskRemove key) = Yes

-- the same by the message for which it is called, if it is
abbrev pub word_for : Items → Items → HostMessage → Said
word_for keys files (Transfer true key file) = found (content file files) (codes "no such file")
word_for keys files (Transfer false key file) = found (content key keys) (codes "no such key")
word_for keys files (Checkpresent key) = is_there (content key keys)
word_for keys files _ = Yes

abbrev pub put_found : List ℕ → Option (List ℕ) → Items → Items
put_found name None items = items
put_found name (Some bytes) items = with_item name bytes items

abbrev pub bytes_found : Option (List ℕ) → List ℕ
bytes_found None = []
bytes_found (Some bytes) = bytes

-- a store puts the file's bytes under the key, and a removal takes the key out
abbrev pub keys_after : Items → Items → Option Asked → Items
keys_after keys files (Some (AskStore key file)) = put_found key (content file files) keys
keys_after keys files (Some (AskRemove key)) = without key keys
keys_after keys files _ = keys

-- a retrieval puts the key's bytes in the file
abbrev pub files_after : Items → Items → Option Asked → Items
files_after keys files (Some (AskRetrieve key file)) = put_found file (content key keys) files
files_after keys files _ = files

-- the bytes that a call puts under a key or in a file
abbrev pub bytes_put : Items → Items → Option Asked → List ℕ
bytes_put keys files (Some (AskStore key file)) = bytes_found (content file files)
bytes_put keys files (Some (AskRetrieve key file)) = bytes_found (content key keys)
bytes_put keys files _ = []

-- what was asked for is done to the keys and the files, and these bytes are put
pub record Serves (keys files : Items) (asked : Option Asked) (new_keys new_files : Items) (bytes : List ℕ) : Type 0 where
  pub keys_are : new_keys ≡ keys_after keys files asked
  pub files_are : new_files ≡ files_after keys files asked
  pub bytes_are : bytes ≡ bytes_put keys files asked

-- ---- one line

-- a kit's step: the call was answered by the word, and after whatever the kit followed it was due, these lines are said, and the
-- kit follows that with the message
pub record StepsBy (said : Said) (old new : KitValue CueValue) (m : HostMessage) (call : Option Call) (say : List (List ℕ)) : Type 0 where
  pub word : IfSome call (λ c. c.said ≡ said)
  pub asks : (h : List Heard) → Follows settings old h → IsAskedBy (due_of settings h m) call
  pub says : (h : List Heard) → Follows settings old h → say ≡ lines_to settings h (record { message = m; call = call })
  pub follows : (h : List Heard) → Follows settings old h → Follows settings new (h ++ record { message = m; call = call } ∷ [])

-- the call that the message has made
abbrev pub call_for : Items → Items → Option Asked → Option Call
call_for keys files asked = option_map (λ a. record { asked = a; said = word keys files a }) asked

-- a VALUE belongs to the request before it
abbrev pub request_with : List ℕ → HostMessage → List ℕ → List ℕ
request_with request m line = if is_value m then request else line

-- the line that is said to a request, where nothing more is
abbrev pub last_said : Bool → List (List ℕ) → Option (List ℕ)
last_said true (line ∷ lines) = Some line
last_said _ _ = None

-- The kit takes its first line, which spells this message: the call that is due is made, with this word, and what is said to it goes
-- into the pipe.
pub record Takes (keys files : Items) (old new : PairValue) (m : HostMessage) (asked : Option Asked) (line : Option (List ℕ)) : Type 0 where
  pub asks : asked ≡ asked_by (due_of settings (heard old.taken) m)
  pub goes : new ≡ record old {
    kit = new.kit;
    request = request_with old.request m (first_line old.at_kit);
    taken = old.taken ++ record { line = first_line old.at_kit; call = call_for keys files asked } ∷ [];
    at_kit = after_line old.at_kit;
    to_host = old.to_host ++ text (lines_to settings (heard old.taken) (record { message = m; call = call_for keys files asked }));
  }
  pub follows : Follows settings new.kit (heard new.taken)
  pub says : line ≡ last_said (is_free new.kit.stage) (lines_to settings (heard old.taken) (record { message = m; call = call_for keys files asked }))

-- the answer, where one was given
abbrev pub answered : ℕ → List ℕ → Option (List ℕ) → List ℕ → List Answer
answered child request None bytes = []
answered child request (Some line) bytes = record { child = child; request = request; line = line; bytes = bytes } ∷ []
