-- What a kit says of its remotes: the lines that answer a host which asks about them, read once from the first of them.
use Rattle.std.specs.Prelude.{ℕ, List, [], ◌∷◌, ◌++◌, map, slice_get, Option, Some, None}
use Rattle.annex_model.specs.Messages.{HostMessage, Listconfigs, Getcost, Getavailability, Getinfo, UnsupportedRequest, Infofield, Infovalue, Infoend, remote_line}
use Rattle.kit_serve.specs.declared.kit.describe.Pair.{Pair}
use Rattle.kit_serve.specs.Kit.Descriptions.{Description, aside_lines}
use Rattle.kit_serve.specs.Kit.Kits.{Due, Silence, Line, Asks}
use Rattle.kit_async_model.specs.declared.about.About.{About}
use Rattle.kit_async_model.specs.declared.about.Fact.{Fact}
use Rattle.kit_async_model.specs.declared.about.Fact.TheVariants.{Fixed, Setting}

-- the lines of a description, and its facts with these after them
abbrev pub about_of : Description → List Fact → About
about_of d facts = record {
  configs = aside_lines d (Some Listconfigs);
  cost = aside_lines d (Some Getcost);
  availability = aside_lines d (Some Getavailability);
  facts = map (λ (p : Pair). Fixed p.name p.text) d.info ++ facts;
}

-- ---- facts

abbrev pub pair_lines : List ℕ → Option (List ℕ) → List (List ℕ)
pair_lines name None = []
pair_lines name (Some text) = remote_line (Infofield name) ∷ remote_line (Infovalue text) ∷ []

-- a fact by the values of the settings that the host told; that of a setting which it didn't tell is left out
abbrev pub fact_lines : List (List ℕ) → Fact → List (List ℕ)
fact_lines told (Fixed name text) = pair_lines name (Some text)
fact_lines told (Setting name number) = pair_lines name (slice_get told number)

abbrev pub all_facts : List (List ℕ) → List Fact → List (List ℕ)
all_facts told [] = []
all_facts told (fact ∷ facts) = fact_lines told fact ++ all_facts told facts

-- the end of the list, where there is one
abbrev pub ended : List (List ℕ) → List (List ℕ)
ended [] = []
ended (line ∷ lines) = (line ∷ lines) ++ remote_line Infoend ∷ []

-- ---- answers

-- What it says to a request about the remotes. Any other line is none about them, and nor is WHEREIS: its answer depends on the key.
abbrev pub told_of : About → List (List ℕ) → Option HostMessage → Option (List (List ℕ))
told_of about told (Some Listconfigs) = Some about.configs
told_of about told (Some Getcost) = Some about.cost
told_of about told (Some Getavailability) = Some about.availability
told_of about told (Some Getinfo) = Some (ended (all_facts told about.facts))
told_of about told request = None

-- where it says nothing, the request isn't supported
abbrev pub or_unsupported : List (List ℕ) → List (List ℕ)
or_unsupported [] = remote_line UnsupportedRequest ∷ []
or_unsupported (line ∷ lines) = line ∷ lines

-- the line that is due without a call, if one is
abbrev pub lines_by : Due → List (List ℕ)
lines_by Silence = []
lines_by (Line message) = remote_line message ∷ []
lines_by (Asks asked) = []

abbrev pub lines_or : Due → Option (List (List ℕ)) → List (List ℕ)
lines_or due None = lines_by due
lines_or due (Some lines) = or_unsupported lines

-- the lines that are said to the request without a call: those about the remotes, by the values that the host told; or what is due
abbrev pub lines_about : Option About → List (List ℕ) → Due → Option HostMessage → List (List ℕ)
lines_about None told due request = lines_by due
lines_about (Some about) told due request = lines_or due (told_of about told request)
