-- Worked worlds: a child is started, says its version and is heard; it is asked something and answers; its output ends.
use Rattle.std.specs.Prelude.{ℕ, false, List, [], ◌∷◌, ◌++◌, None, codes}
use Rattle.annex_model.specs.Lines.{text}
use Rattle.journal_model.specs.declared.verdict.Why.TheVariants.{Eof}
use Rattle.journal_model.specs.declared.entry.What.TheVariants.{Start, Ask, Sent, Got, End}
use Rattle.journal_model.specs.declared.entry.Entry.{Entry}
use Rattle.journal_model.specs.declared.opening.Opening.{Opening}
use Rattle.pair_kit.specs.Pairs.{PairValue, new_pair}
use Rattle.pair_kit.specs.Worlds.{WorldValue}

abbrev start : Entry
start = record { by = 0; what = Start 1 0 false }

abbrev said : Entry
said = record { by = 0; what = Got 1 (codes "VERSION 1") }

-- a world of one child
abbrev world : Opening → List Entry → PairValue → WorldValue
world o journal pair = record { opening = o; journal = journal; shut = false; keys = []; files = []; pairs = pair ∷ []; answers = [] }

-- the child was started
abbrev pub started : Opening → WorldValue
started o = world o (start ∷ []) new_pair

-- its version has come to the host's side
abbrev pub arrived : Opening → WorldValue
arrived o = world o (start ∷ []) (record new_pair { to_host = []; at_host = text (codes "VERSION 1" ∷ []) })

-- and was heard
abbrev pub heard : Opening → WorldValue
heard o = world o (start ∷ said ∷ []) (record new_pair { to_host = [] })

-- ---- before, and after

-- no child was started
abbrev pub empty : Opening → WorldValue
empty o = record { opening = o; journal = []; shut = false; keys = []; files = []; pairs = []; answers = [] }

abbrev end : Entry
end = record { by = 0; what = End 1 Eof }

-- the output of the child that was heard has ended
abbrev pub ended : Opening → WorldValue
ended o = world o (start ∷ said ∷ end ∷ []) (record new_pair { to_host = [] })

-- ---- a request

abbrev request : List ℕ
request = codes "EXTENSIONS INFO"

abbrev asking : Entry
asking = record { by = 0; what = Ask 1 0 0 request }

abbrev covered : Entry
covered = record { by = 0; what = Sent 1 }

-- the child that was heard is asked something
abbrev pub asked : Opening → WorldValue
asked o = world o (start ∷ said ∷ asking ∷ []) (record new_pair { to_host = [] })

-- the request was written, so many bytes of it are in the pipe, and so many at the kit's side
abbrev on_its_way : Opening → List ℕ → List ℕ → WorldValue
on_its_way o to_kit at_kit = world o (start ∷ said ∷ asking ∷ covered ∷ []) (record new_pair { to_host = []; to_kit = to_kit; at_kit = at_kit })

abbrev pub written : Opening → WorldValue
written o = on_its_way o (text (request ∷ [])) []

abbrev pub come_in_part : Opening → WorldValue
come_in_part o = on_its_way o (text (codes "ENSIONS INFO" ∷ [])) (codes "EXT")

abbrev pub come : Opening → WorldValue
come o = on_its_way o [] (text (request ∷ []))

-- the kit took the request, and its answer is in the other pipe
abbrev pub worked : Opening → WorldValue
worked o =
    record (world o (start ∷ said ∷ asking ∷ covered ∷ [])
    (record new_pair { request = request; taken = record { line = request; call = None } ∷ []; to_host = text (codes "EXTENSIONS " ∷ []) }))
    { answers = record { child = 1; request = request; line = codes "EXTENSIONS "; bytes = [] } ∷ [] }
