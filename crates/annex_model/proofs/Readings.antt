-- A line is read as the message that it spells, and as no other.
use Rattle.std.proofs.Common.{◌≡◌, ℕ, List, ◌++◌, refl, sym, ap, ◌∙◌, true, Some, None, Option, ◌⊎◌, inl, inr}
use Rattle.std.specs.Prelude.{codes}
use Rattle.std.specs.Option.{option_or}
use Rattle.annex_model.specs.Messages.{by_rows, opening_rows, aside_rows, task_rows, about_rows, host_rows, SpelledBy, Param, IsAskable, IsSayable, fields_text, host_line, remote_line, RemoteSpells, HostSpells, remote_row, host_row, remote_reading, remote_by_word, host_reading, word_of, field_of, is_word}
use Rattle.annex_model.specs.Messages.{RemoteMessage, Version, Extensions, UnsupportedRequest, Error, Progress, Debug, Info, Dirhash, DirhashLower, Getconfig, Setconfig, Getcreds, Setcreds, Getuuid, Getgitdir, Getgitremotename, Getwanted, Setwanted, Getstate, Setstate, Seturlpresent, Seturlmissing, Geturls, PrepareSuccess, PrepareFailure, InitremoteSuccess, InitremoteFailure, TransferSuccess, TransferFailure, CheckpresentSuccess, CheckpresentFailure, CheckpresentUnknown, RemoveSuccess, RemoveFailure, Config, Configend, Cost, Availability, Infofield, Infovalue, Infoend, WhereisSuccess, WhereisFailure, ExportsupportedSuccess, ExportsupportedFailure, RenameexportSuccess, RenameexportFailure}
use Rattle.annex_model.specs.Messages.{HostMessage, AskExtensions, Prepare, Initremote, Transfer, Checkpresent, Remove, Listconfigs, Getcost, Getavailability, Getinfo, Whereis, Exportsupported, Export, Transferexport, Checkpresentexport, Removeexport, Renameexport, Value, Creds, HostError}
use Rattle.annex_model.proofs.Parts.{word_before, field_behind}
use Rattle.annex_model.proofs.Shapes.{Reads, bare_reads, number_reads, key_reads, rest_reads, scope_reads, word_rest_reads, words_rest_reads, key_rest_reads, transfer_reads, transfer_rest_reads}
use Rattle.annex_model.proofs.Rows.{Fills, AllOwn, bare_own, number_own, key_own, rest_own, scope_own, word_rest_own, words_rest_own, key_rest_own, transfer_own, transfer_rest_own, rows_fill}
use Rattle.annex_model.proofs.Classes.{text_follows, followed_classes}
pub use Rattle.annex_model.proofs.Parts.{behind, word_and_field}

-- ---- what is spelled is read

-- where the word and what is read from what follows it make the message
line_read : {M : Type 0} (by_word : List ℕ → Option (List ℕ) → Option M) (word : List ℕ) → is_word word ≡ true
    → {line tail : List ℕ} {m : M} {P : Option (List ℕ) → Type 0} → line ≡ word ++ tail → Reads tail P
    → ((f : Option (List ℕ)) → P f → by_word word f ≡ Some m) → by_word (word_of line) (field_of line) ≡ Some m
line_read by_word word w e r h =
    rw (e, r.whole, word_before word r.field w, field_behind word r.field w) (h r.field r.read)

abbrev remote_line_read : (word : List ℕ) → is_word word ≡ true → {line tail : List ℕ} {m : RemoteMessage} {P : Option (List ℕ) → Type 0}
    → line ≡ word ++ tail → Reads tail P → ((f : Option (List ℕ)) → P f → remote_by_word word f ≡ Some m) → remote_reading line ≡ Some m
remote_line_read = line_read remote_by_word

abbrev host_line_read : (word : List ℕ) → is_word word ≡ true → {line tail : List ℕ} {m : HostMessage} {P : Option (List ℕ) → Type 0}
    → line ≡ word ++ tail → Reads tail P → ((f : Option (List ℕ)) → P f → by_rows host_rows word f ≡ Some m) → host_reading line ≡ Some m
host_line_read = line_read (by_rows host_rows)

pub read_of_spelled : (m : RemoteMessage) (line : List ℕ) → RemoteSpells m line → remote_reading line ≡ Some m
read_of_spelled (Version n) line s = remote_line_read (codes "VERSION") refl s.1 (number_reads n s.0 s.2) (λ f e. rw e refl)
read_of_spelled (Extensions names) line s = remote_line_read (codes "EXTENSIONS") refl s.1 (rest_reads names s.0 s.2) (λ f e. rw e refl)
read_of_spelled UnsupportedRequest line s = remote_line_read (codes "UNSUPPORTED-REQUEST") refl s.1 (bare_reads s.0 s.2) (λ f e. rw e refl)
read_of_spelled (Error text) line s = remote_line_read (codes "ERROR") refl s.1 (rest_reads text s.0 s.2) (λ f e. rw e refl)
read_of_spelled (Progress bytes) line s = remote_line_read (codes "PROGRESS") refl s.1 (number_reads bytes s.0 s.2) (λ f e. rw e refl)
read_of_spelled (Debug text) line s = remote_line_read (codes "DEBUG") refl s.1 (rest_reads text s.0 s.2) (λ f e. rw e refl)
read_of_spelled (Info text) line s = remote_line_read (codes "INFO") refl s.1 (rest_reads text s.0 s.2) (λ f e. rw e refl)
read_of_spelled (Dirhash key) line s = remote_line_read (codes "DIRHASH") refl s.1 (key_reads key s.0 s.2) (λ f e. rw e refl)
read_of_spelled (DirhashLower key) line s = remote_line_read (codes "DIRHASH-LOWER") refl s.1 (key_reads key s.0 s.2) (λ f e. rw e refl)
read_of_spelled (Getconfig name) line s = remote_line_read (codes "GETCONFIG") refl s.1 (rest_reads name s.0 s.2) (λ f e. rw e refl)
read_of_spelled (Setconfig name value) line s = remote_line_read (codes "SETCONFIG") refl s.1 (word_rest_reads name value s.0 s.2) (λ f e. rw e refl)
read_of_spelled (Getcreds setting) line s = remote_line_read (codes "GETCREDS") refl s.1 (rest_reads setting s.0 s.2) (λ f e. rw e refl)
read_of_spelled (Setcreds setting user password) line s = remote_line_read (codes "SETCREDS") refl s.1 (words_rest_reads setting user password s.0 s.2) (λ f e. rw e refl)
read_of_spelled Getuuid line s = remote_line_read (codes "GETUUID") refl s.1 (bare_reads s.0 s.2) (λ f e. rw e refl)
read_of_spelled Getgitdir line s = remote_line_read (codes "GETGITDIR") refl s.1 (bare_reads s.0 s.2) (λ f e. rw e refl)
read_of_spelled Getgitremotename line s = remote_line_read (codes "GETGITREMOTENAME") refl s.1 (bare_reads s.0 s.2) (λ f e. rw e refl)
read_of_spelled Getwanted line s = remote_line_read (codes "GETWANTED") refl s.1 (bare_reads s.0 s.2) (λ f e. rw e refl)
read_of_spelled (Setwanted expression) line s = remote_line_read (codes "SETWANTED") refl s.1 (rest_reads expression s.0 s.2) (λ f e. rw e refl)
read_of_spelled (Getstate key) line s = remote_line_read (codes "GETSTATE") refl s.1 (key_reads key s.0 s.2) (λ f e. rw e refl)
read_of_spelled (Setstate key value) line s = remote_line_read (codes "SETSTATE") refl s.1 (key_rest_reads key value s.0 s.2) (λ f e. rw e refl)
read_of_spelled (Seturlpresent key url) line s = remote_line_read (codes "SETURLPRESENT") refl s.1 (key_rest_reads key url s.0 s.2) (λ f e. rw e refl)
read_of_spelled (Seturlmissing key url) line s = remote_line_read (codes "SETURLMISSING") refl s.1 (key_rest_reads key url s.0 s.2) (λ f e. rw e refl)
read_of_spelled (Geturls key prefix) line s = remote_line_read (codes "GETURLS") refl s.1 (key_rest_reads key prefix s.0 s.2) (λ f e. rw e refl)
read_of_spelled PrepareSuccess line s = remote_line_read (codes "PREPARE-SUCCESS") refl s.1 (bare_reads s.0 s.2) (λ f e. rw e refl)
read_of_spelled (PrepareFailure text) line s = remote_line_read (codes "PREPARE-FAILURE") refl s.1 (rest_reads text s.0 s.2) (λ f e. rw e refl)
read_of_spelled InitremoteSuccess line s = remote_line_read (codes "INITREMOTE-SUCCESS") refl s.1 (bare_reads s.0 s.2) (λ f e. rw e refl)
read_of_spelled (InitremoteFailure text) line s = remote_line_read (codes "INITREMOTE-FAILURE") refl s.1 (rest_reads text s.0 s.2) (λ f e. rw e refl)
read_of_spelled (TransferSuccess store key) line s = remote_line_read (codes "TRANSFER-SUCCESS") refl s.1 (transfer_reads store key s.0 s.2) (λ f e. rw e refl)
read_of_spelled (TransferFailure store key text) line s = remote_line_read (codes "TRANSFER-FAILURE") refl s.1 (transfer_rest_reads store key text s.0 s.2) (λ f e. rw e refl)
read_of_spelled (CheckpresentSuccess key) line s = remote_line_read (codes "CHECKPRESENT-SUCCESS") refl s.1 (key_reads key s.0 s.2) (λ f e. rw e refl)
read_of_spelled (CheckpresentFailure key) line s = remote_line_read (codes "CHECKPRESENT-FAILURE") refl s.1 (key_reads key s.0 s.2) (λ f e. rw e refl)
read_of_spelled (CheckpresentUnknown key text) line s = remote_line_read (codes "CHECKPRESENT-UNKNOWN") refl s.1 (key_rest_reads key text s.0 s.2) (λ f e. rw e refl)
read_of_spelled (RemoveSuccess key) line s = remote_line_read (codes "REMOVE-SUCCESS") refl s.1 (key_reads key s.0 s.2) (λ f e. rw e refl)
read_of_spelled (RemoveFailure key text) line s = remote_line_read (codes "REMOVE-FAILURE") refl s.1 (key_rest_reads key text s.0 s.2) (λ f e. rw e refl)
read_of_spelled (Config name description) line s = remote_line_read (codes "CONFIG") refl s.1 (word_rest_reads name description s.0 s.2) (λ f e. rw e refl)
read_of_spelled Configend line s = remote_line_read (codes "CONFIGEND") refl s.1 (bare_reads s.0 s.2) (λ f e. rw e refl)
read_of_spelled (Cost number) line s = remote_line_read (codes "COST") refl s.1 (number_reads number s.0 s.2) (λ f e. rw e refl)
read_of_spelled (Availability global) line s = remote_line_read (codes "AVAILABILITY") refl s.1 (scope_reads global s.0 s.2) (λ f e. rw e refl)
read_of_spelled (Infofield name) line s = remote_line_read (codes "INFOFIELD") refl s.1 (rest_reads name s.0 s.2) (λ f e. rw e refl)
read_of_spelled (Infovalue value) line s = remote_line_read (codes "INFOVALUE") refl s.1 (rest_reads value s.0 s.2) (λ f e. rw e refl)
read_of_spelled Infoend line s = remote_line_read (codes "INFOEND") refl s.1 (bare_reads s.0 s.2) (λ f e. rw e refl)
read_of_spelled (WhereisSuccess text) line s = remote_line_read (codes "WHEREIS-SUCCESS") refl s.1 (rest_reads text s.0 s.2) (λ f e. rw e refl)
read_of_spelled WhereisFailure line s = remote_line_read (codes "WHEREIS-FAILURE") refl s.1 (bare_reads s.0 s.2) (λ f e. rw e refl)
read_of_spelled ExportsupportedSuccess line s = remote_line_read (codes "EXPORTSUPPORTED-SUCCESS") refl s.1 (bare_reads s.0 s.2) (λ f e. rw e refl)
read_of_spelled ExportsupportedFailure line s = remote_line_read (codes "EXPORTSUPPORTED-FAILURE") refl s.1 (bare_reads s.0 s.2) (λ f e. rw e refl)
read_of_spelled (RenameexportSuccess key) line s = remote_line_read (codes "RENAMEEXPORT-SUCCESS") refl s.1 (key_reads key s.0 s.2) (λ f e. rw e refl)
read_of_spelled (RenameexportFailure key) line s = remote_line_read (codes "RENAMEEXPORT-FAILURE") refl s.1 (key_reads key s.0 s.2) (λ f e. rw e refl)

pub host_of_spelled : (m : HostMessage) (line : List ℕ) → HostSpells m line → host_reading line ≡ Some m
host_of_spelled (AskExtensions names) line s = host_line_read (codes "EXTENSIONS") refl s.1 (rest_reads names s.0 s.2) (λ f e. rw e refl)
host_of_spelled Prepare line s = host_line_read (codes "PREPARE") refl s.1 (bare_reads s.0 s.2) (λ f e. rw e refl)
host_of_spelled Initremote line s = host_line_read (codes "INITREMOTE") refl s.1 (bare_reads s.0 s.2) (λ f e. rw e refl)
host_of_spelled (Transfer store key file) line s = host_line_read (codes "TRANSFER") refl s.1 (transfer_rest_reads store key file s.0 s.2) (λ f e. rw e refl)
host_of_spelled (Checkpresent key) line s = host_line_read (codes "CHECKPRESENT") refl s.1 (key_reads key s.0 s.2) (λ f e. rw e refl)
host_of_spelled (Remove key) line s = host_line_read (codes "REMOVE") refl s.1 (key_reads key s.0 s.2) (λ f e. rw e refl)
host_of_spelled Listconfigs line s = host_line_read (codes "LISTCONFIGS") refl s.1 (bare_reads s.0 s.2) (λ f e. rw e refl)
host_of_spelled Getcost line s = host_line_read (codes "GETCOST") refl s.1 (bare_reads s.0 s.2) (λ f e. rw e refl)
host_of_spelled Getavailability line s = host_line_read (codes "GETAVAILABILITY") refl s.1 (bare_reads s.0 s.2) (λ f e. rw e refl)
host_of_spelled Getinfo line s = host_line_read (codes "GETINFO") refl s.1 (bare_reads s.0 s.2) (λ f e. rw e refl)
host_of_spelled (Whereis key) line s = host_line_read (codes "WHEREIS") refl s.1 (key_reads key s.0 s.2) (λ f e. rw e refl)
host_of_spelled Exportsupported line s = host_line_read (codes "EXPORTSUPPORTED") refl s.1 (bare_reads s.0 s.2) (λ f e. rw e refl)
host_of_spelled (Export name) line s = host_line_read (codes "EXPORT") refl s.1 (rest_reads name s.0 s.2) (λ f e. rw e refl)
host_of_spelled (Transferexport store key file) line s = host_line_read (codes "TRANSFEREXPORT") refl s.1 (transfer_rest_reads store key file s.0 s.2) (λ f e. rw e refl)
host_of_spelled (Checkpresentexport key) line s = host_line_read (codes "CHECKPRESENTEXPORT") refl s.1 (key_reads key s.0 s.2) (λ f e. rw e refl)
host_of_spelled (Removeexport key) line s = host_line_read (codes "REMOVEEXPORT") refl s.1 (key_reads key s.0 s.2) (λ f e. rw e refl)
host_of_spelled (Renameexport key onto) line s = host_line_read (codes "RENAMEEXPORT") refl s.1 (key_rest_reads key onto s.0 s.2) (λ f e. rw e refl)
host_of_spelled (Value value) line s = host_line_read (codes "VALUE") refl s.1 (rest_reads value s.0 s.2) (λ f e. rw e refl)
host_of_spelled (Creds user password) line s = host_line_read (codes "CREDS") refl s.1 (word_rest_reads user password s.0 s.2) (λ f e. rw e refl)
host_of_spelled (HostError text) line s = host_line_read (codes "ERROR") refl s.1 (rest_reads text s.0 s.2) (λ f e. rw e refl)

-- ---- what is read is spelled

opening_own : AllOwn remote_row opening_rows
opening_own = (
  number_own remote_row Version (codes "VERSION") (λ n. refl),
  (
    rest_own remote_row Extensions (codes "EXTENSIONS") (λ rest. refl),
    (
      bare_own remote_row UnsupportedRequest (codes "UNSUPPORTED-REQUEST") refl,
      (rest_own remote_row Error (codes "ERROR") (λ rest. refl), tt),
    ),
  ),
)

aside_own : AllOwn remote_row aside_rows
aside_own = (
  number_own remote_row Progress (codes "PROGRESS") (λ n. refl),
  (
    rest_own remote_row Debug (codes "DEBUG") (λ rest. refl),
    (
      rest_own remote_row Info (codes "INFO") (λ rest. refl),
      (
        key_own remote_row Dirhash (codes "DIRHASH") (λ key. refl),
        (
          key_own remote_row DirhashLower (codes "DIRHASH-LOWER") (λ key. refl),
          (
            rest_own remote_row Getconfig (codes "GETCONFIG") (λ rest. refl),
            (
              word_rest_own remote_row Setconfig (codes "SETCONFIG") (λ word rest. refl),
              (
                rest_own remote_row Getcreds (codes "GETCREDS") (λ rest. refl),
                (
                  words_rest_own remote_row Setcreds (codes "SETCREDS") (λ a b rest. refl),
                  (
                    bare_own remote_row Getuuid (codes "GETUUID") refl,
                    (
                      bare_own remote_row Getgitdir (codes "GETGITDIR") refl,
                      (
                        bare_own remote_row Getgitremotename (codes "GETGITREMOTENAME") refl,
                        (
                          bare_own remote_row Getwanted (codes "GETWANTED") refl,
                          (
                            rest_own remote_row Setwanted (codes "SETWANTED") (λ rest. refl),
                            (
                              key_own remote_row Getstate (codes "GETSTATE") (λ key. refl),
                              (
                                key_rest_own remote_row Setstate (codes "SETSTATE") (λ key rest. refl),
                                (
                                  key_rest_own remote_row Seturlpresent (codes "SETURLPRESENT") (λ key rest. refl),
                                  (
                                    key_rest_own remote_row Seturlmissing (codes "SETURLMISSING") (λ key rest. refl),
                                    (key_rest_own remote_row Geturls (codes "GETURLS") (λ key rest. refl), tt),
                                  ),
                                ),
                              ),
                            ),
                          ),
                        ),
                      ),
                    ),
                  ),
                ),
              ),
            ),
          ),
        ),
      ),
    ),
  ),
)

task_own : AllOwn remote_row task_rows
task_own = (
  bare_own remote_row PrepareSuccess (codes "PREPARE-SUCCESS") refl,
  (
    rest_own remote_row PrepareFailure (codes "PREPARE-FAILURE") (λ rest. refl),
    (
      bare_own remote_row InitremoteSuccess (codes "INITREMOTE-SUCCESS") refl,
      (
        rest_own remote_row InitremoteFailure (codes "INITREMOTE-FAILURE") (λ rest. refl),
        (
          transfer_own remote_row TransferSuccess (codes "TRANSFER-SUCCESS") (λ store key. refl),
          (
            transfer_rest_own remote_row TransferFailure (codes "TRANSFER-FAILURE") (λ store key rest. refl),
            (
              key_own remote_row CheckpresentSuccess (codes "CHECKPRESENT-SUCCESS") (λ key. refl),
              (
                key_own remote_row CheckpresentFailure (codes "CHECKPRESENT-FAILURE") (λ key. refl),
                (
                  key_rest_own remote_row CheckpresentUnknown (codes "CHECKPRESENT-UNKNOWN") (λ key rest. refl),
                  (
                    key_own remote_row RemoveSuccess (codes "REMOVE-SUCCESS") (λ key. refl),
                    (key_rest_own remote_row RemoveFailure (codes "REMOVE-FAILURE") (λ key rest. refl), tt),
                  ),
                ),
              ),
            ),
          ),
        ),
      ),
    ),
  ),
)

about_own : AllOwn remote_row about_rows
about_own = (
  word_rest_own remote_row Config (codes "CONFIG") (λ word rest. refl),
  (
    bare_own remote_row Configend (codes "CONFIGEND") refl,
    (
      number_own remote_row Cost (codes "COST") (λ n. refl),
      (
        scope_own remote_row Availability (codes "AVAILABILITY") (λ global. refl),
        (
          rest_own remote_row Infofield (codes "INFOFIELD") (λ rest. refl),
          (
            rest_own remote_row Infovalue (codes "INFOVALUE") (λ rest. refl),
            (
              bare_own remote_row Infoend (codes "INFOEND") refl,
              (
                rest_own remote_row WhereisSuccess (codes "WHEREIS-SUCCESS") (λ rest. refl),
                (
                  bare_own remote_row WhereisFailure (codes "WHEREIS-FAILURE") refl,
                  (
                    bare_own remote_row ExportsupportedSuccess (codes "EXPORTSUPPORTED-SUCCESS") refl,
                    (
                      bare_own remote_row ExportsupportedFailure (codes "EXPORTSUPPORTED-FAILURE") refl,
                      (
                        key_own remote_row RenameexportSuccess (codes "RENAMEEXPORT-SUCCESS") (λ key. refl),
                        (key_own remote_row RenameexportFailure (codes "RENAMEEXPORT-FAILURE") (λ key. refl), tt),
                      ),
                    ),
                  ),
                ),
              ),
            ),
          ),
        ),
      ),
    ),
  ),
)

host_own : AllOwn host_row host_rows
host_own = (
  rest_own host_row AskExtensions (codes "EXTENSIONS") (λ rest. refl),
  (
    bare_own host_row Prepare (codes "PREPARE") refl,
    (
      bare_own host_row Initremote (codes "INITREMOTE") refl,
      (
        transfer_rest_own host_row Transfer (codes "TRANSFER") (λ store key rest. refl),
        (
          key_own host_row Checkpresent (codes "CHECKPRESENT") (λ key. refl),
          (
            key_own host_row Remove (codes "REMOVE") (λ key. refl),
            (
              bare_own host_row Listconfigs (codes "LISTCONFIGS") refl,
              (
                bare_own host_row Getcost (codes "GETCOST") refl,
                (
                  bare_own host_row Getavailability (codes "GETAVAILABILITY") refl,
                  (
                    bare_own host_row Getinfo (codes "GETINFO") refl,
                    (
                      key_own host_row Whereis (codes "WHEREIS") (λ key. refl),
                      (
                        bare_own host_row Exportsupported (codes "EXPORTSUPPORTED") refl,
                        (
                          rest_own host_row Export (codes "EXPORT") (λ rest. refl),
                          (
                            transfer_rest_own host_row Transferexport (codes "TRANSFEREXPORT") (λ store key rest. refl),
                            (
                              key_own host_row Checkpresentexport (codes "CHECKPRESENTEXPORT") (λ key. refl),
                              (
                                key_own host_row Removeexport (codes "REMOVEEXPORT") (λ key. refl),
                                (
                                  key_rest_own host_row Renameexport (codes "RENAMEEXPORT") (λ key rest. refl),
                                  (
                                    rest_own host_row Value (codes "VALUE") (λ rest. refl),
                                    (
                                      word_rest_own host_row Creds (codes "CREDS") (λ word rest. refl),
                                      (rest_own host_row HostError (codes "ERROR") (λ rest. refl), tt),
                                    ),
                                  ),
                                ),
                              ),
                            ),
                          ),
                        ),
                      ),
                    ),
                  ),
                ),
              ),
            ),
          ),
        ),
      ),
    ),
  ),
)

either : {A : Type 0} (a b : Option A) (x : A) → option_or a b ≡ Some x → (a ≡ Some x) ⊎ (b ≡ Some x)
either (Some y) b x h = inl h
either None b x h = inr h

-- the word and what follows it make the line
whole_line : (line : List ℕ) (row : List ℕ × List Param) → Fills row (word_of line) (field_of line) → SpelledBy row line
whole_line line row r =
    (behind (field_of line), word_and_field line ∙ ap (λ (w : List ℕ). w ++ behind (field_of line)) (sym r.0), r.1)

remote_fills : (word : List ℕ) (f : Option (List ℕ)) (m : RemoteMessage) → remote_by_word word f ≡ Some m → Fills (remote_row m) word f
remote_fills word f m h = opening (either _ _ m h)
  where
    about : (by_rows task_rows word f ≡ Some m) ⊎ (by_rows about_rows word f ≡ Some m) → Fills (remote_row m) word f
    about (inl t) = rows_fill remote_row task_rows task_own word f m t
    about (inr t) = rows_fill remote_row about_rows about_own word f m t

    aside : (by_rows aside_rows word f ≡ Some m) ⊎ (option_or (by_rows task_rows word f) (by_rows about_rows word f) ≡ Some m) → Fills (remote_row m) word f
    aside (inl t) = rows_fill remote_row aside_rows aside_own word f m t
    aside (inr t) = about (either _ _ m t)

    opening : (by_rows opening_rows word f ≡ Some m)
        ⊎ (option_or (by_rows aside_rows word f) (option_or (by_rows task_rows word f) (by_rows about_rows word f)) ≡ Some m)
        → Fills (remote_row m) word f
    opening (inl t) = rows_fill remote_row opening_rows opening_own word f m t
    opening (inr t) = aside (either _ _ m t)

pub spelled_of_read : (m : RemoteMessage) (line : List ℕ) → remote_reading line ≡ Some m → RemoteSpells m line
spelled_of_read m line h = whole_line line (remote_row m) (remote_fills (word_of line) (field_of line) m h)

pub spelled_of_host : (m : HostMessage) (line : List ℕ) → host_reading line ≡ Some m → HostSpells m line
spelled_of_host m line h = whole_line line (host_row m) (rows_fill host_row host_rows host_own (word_of line) (field_of line) m h)

-- ---- the canonical line is read back

pub canonical_read : (m : HostMessage) → IsAskable m → host_reading (host_line m) ≡ Some m
canonical_read m h = host_of_spelled m (host_line m) (fields_text (host_row m).1, refl, text_follows (host_row m).1 h)

pub canonical_remote_read : (m : RemoteMessage) → IsSayable m → remote_reading (remote_line m) ≡ Some m
canonical_remote_read m h = read_of_spelled m (remote_line m) (fields_text (remote_row m).1, refl, text_follows (remote_row m).1 h)

-- ---- what is spelled may be said

pub sayable_of_spelled : (m : RemoteMessage) (line : List ℕ) → RemoteSpells m line → IsSayable m
sayable_of_spelled m line s = followed_classes (remote_row m).1 s.0 s.2

pub askable_of_spelled : (m : HostMessage) (line : List ℕ) → HostSpells m line → IsAskable m
askable_of_spelled m line s = followed_classes (host_row m).1 s.0 s.2
