-- Worked journals of a kit, each of which is legal or isn't.
use Rattle.std.specs.Prelude.{true, List, [], ◌∷◌, ◌++◌, Some, None, codes}
use Rattle.kit_serve.specs.declared.kit.call.Said.TheVariants.{Yes, No}
use Rattle.kit_serve.specs.Kit.Rows.{sets}
use Rattle.kit_async_model.specs.declared.setup.Setup.{Setup}
use Rattle.kit_async_model.specs.declared.about.Fact.TheVariants.{Fixed, Setting}
use Rattle.kit_async_model.specs.declared.entry.Entry.{Entry}
use Rattle.kit_async_model.specs.declared.entry.Entry.TheVariants.{Heard, Take, Call, Say, Wrote, Close}

-- two remotes with one setting, and one without any
abbrev pub two : Setup
two = record { kept = true; settings = codes "directory" ∷ []; remotes = 2; about = None }

abbrev pub bare : Setup
bare = record { kept = true; settings = []; remotes = 1; about = None }

-- the same two, of which it is known what they say of themselves
abbrev pub known : Setup
known = record {
  kept = true;
  settings = codes "directory" ∷ [];
  remotes = 2;
  about = Some
      (record {
        configs = codes "CONFIG directory where files are kept" ∷ codes "CONFIGEND" ∷ [];
        cost = codes "COST 100" ∷ [];
        availability = codes "AVAILABILITY LOCAL" ∷ [];
        facts = Fixed (codes "kind") (codes "a folder") ∷ Setting (codes "directory") 0 ∷ [];
      });
}

abbrev pub version : Entry
version = Say 0 (codes "VERSION 1")

abbrev pub error : Entry
error = Say 0 (codes "ERROR unexpected message")

-- ---- a host that tags its lines

abbrev pub tagging : List Entry
tagging = version ∷ Heard (codes "EXTENSIONS INFO ASYNC") ∷ Say 0 (codes "EXTENSIONS ASYNC") ∷ []

-- it waits for the value
abbrev pub asking : List Entry
asking = tagging ++ Heard (codes "J 1 PREPARE") ∷ Say 1 (codes "J 1 GETCONFIG directory") ∷ []

-- the value came, and the remotes get ready
abbrev pub readying : List Entry
readying = asking ++ Heard (codes "J 1 VALUE d") ∷ []

-- both said Yes
abbrev pub ready : List Entry
ready = readying ++ Call 1 0 Yes ∷ Call 1 1 Yes ∷ Say 1 (codes "J 1 PREPARE-SUCCESS") ∷ []

abbrev pub check_a : Entry
check_a = Heard (codes "J 2 CHECKPRESENT WORM--a")

abbrev pub check_b : Entry
check_b = Heard (codes "J 3 CHECKPRESENT WORM--b")

abbrev pub absent_a : Entry
absent_a = Say 2 (codes "J 2 CHECKPRESENT-FAILURE WORM--a")

abbrev pub present_b : Entry
present_b = Say 3 (codes "J 3 CHECKPRESENT-SUCCESS WORM--b")

-- two checks at once, of which the later is answered first
abbrev pub crossed : List Entry
crossed = ready ++ check_a ∷ check_b ∷ Take 2 0 ∷ Take 3 1 ∷ Call 3 1 Yes ∷ present_b ∷ Call 2 0 No ∷ absent_a ∷ []

-- both are written, and no more is heard
abbrev pub whole : List Entry
whole = crossed ++ Close ∷ Wrote ∷ Wrote ∷ Wrote ∷ Wrote ∷ Wrote ∷ Wrote ∷ []

-- ---- a host that asks about the remotes

abbrev pub configs : Entry
configs = Heard (codes "J 4 LISTCONFIGS")

abbrev pub first_config : Entry
first_config = Say 4 (codes "J 4 CONFIG directory where files are kept")

abbrev pub last_config : Entry
last_config = Say 4 (codes "J 4 CONFIGEND")

abbrev pub info : Entry
info = Heard (codes "J 4 GETINFO")

abbrev pub kind_told : List Entry
kind_told = Say 4 (codes "J 4 INFOFIELD kind") ∷ Say 4 (codes "J 4 INFOVALUE a folder") ∷ []

-- of the value that was told to PREPARE
abbrev pub directory_told : List Entry
directory_told = Say 4 (codes "J 4 INFOFIELD directory") ∷ Say 4 (codes "J 4 INFOVALUE d") ∷ []

abbrev pub info_end : Entry
info_end = Say 4 (codes "J 4 INFOEND")

-- a second PREPARE, which the first remote doesn't get ready for
abbrev pub unready : List Entry
unready =
    ready ++ Heard (codes "J 5 PREPARE") ∷ Say 5 (codes "J 5 GETCONFIG directory") ∷ Heard (codes "J 5 VALUE e")
    ∷ Call 5 0 No ∷ Say 5 (codes "J 5 PREPARE-FAILURE ") ∷ []

-- it spells no message
abbrev pub strange : Entry
strange = Heard (codes "J 4 CLAIMURL http://a")

abbrev pub unsupported : Entry
unsupported = Say 4 (codes "J 4 UNSUPPORTED-REQUEST")

-- ---- a host that exports

-- two jobs say a name each, and the second asks before the first
abbrev pub names_of_two_jobs : List Entry
names_of_two_jobs =
    ready ++ Heard (codes "J 3 EXPORT a") ∷ Heard (codes "J 4 EXPORT b")
    ∷ Heard (codes "J 4 RENAMEEXPORT WORM--a c") ∷ Say 4 (codes "J 4 UNSUPPORTED-REQUEST")
    ∷ Heard (codes "J 3 REMOVEEXPORT WORM--a") ∷ Say 3 (codes "J 3 UNSUPPORTED-REQUEST") ∷ []

-- a question about exports, and a request about a name that wasn't said
abbrev pub asked_about_names : List Entry
asked_about_names =
    ready ++ Heard (codes "J 3 EXPORTSUPPORTED") ∷ Say 3 (codes "J 3 UNSUPPORTED-REQUEST")
    ∷ Heard (codes "J 4 CHECKPRESENTEXPORT WORM--a") ∷ Say 4 (codes "J 4 UNSUPPORTED-REQUEST") ∷ []

-- ---- a remote that sets a setting

-- at INITREMOTE
abbrev pub initializing : List Entry
initializing = version ∷ Heard (codes "INITREMOTE") ∷ Call 0 0 sets ∷ []

abbrev pub setting_told : Entry
setting_told = Say 0 (codes "SETCONFIG directory /d")

abbrev pub initialized : Entry
initialized = Say 0 (codes "INITREMOTE-SUCCESS")

-- and at PREPARE
abbrev pub preparing : List Entry
preparing = version ∷ Heard (codes "PREPARE") ∷ Call 0 0 sets ∷ []

abbrev pub success : Entry
success = Say 0 (codes "PREPARE-SUCCESS")

-- ---- a host that doesn't tag its lines

-- each request is answered before the next is heard
abbrev pub plain : List Entry
plain =
    version ∷ Heard (codes "EXTENSIONS INFO") ∷ Say 0 (codes "EXTENSIONS ")
    ∷ Heard (codes "PREPARE") ∷ Say 0 (codes "GETCONFIG directory") ∷ Heard (codes "VALUE d")
    ∷ Call 0 0 Yes ∷ Call 0 1 Yes ∷ Say 0 (codes "PREPARE-SUCCESS") ∷ []

abbrev pub plain_check : Entry
plain_check = Heard (codes "CHECKPRESENT WORM--a")

-- it tags them from then on
abbrev pub tagged_late : List Entry
tagged_late =
    plain ++ Heard (codes "EXTENSIONS ASYNC") ∷ Say 0 (codes "EXTENSIONS ASYNC")
    ∷ Heard (codes "J 1 GETCOST") ∷ Say 1 (codes "J 1 UNSUPPORTED-REQUEST") ∷ []
