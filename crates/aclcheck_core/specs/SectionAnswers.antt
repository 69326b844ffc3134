-- What one section of a file does to a packet, and why there may be nothing to tell of it.
use Rattle.std.specs.Prelude.{◌≡◌, ℕ, ◌-◌, ◌⊎◌, List, ◌++◌, codes, decimal, Option, None, Some, Result, Ok, Err}
use Rattle.acl_packet.specs.declared.filtering.Outcome.{Outcome}
use Rattle.acl_packet.specs.declared.packets.Packet.{Packet}
use Rattle.acl_text.specs.declared.faults.Code.TheVariants.{NoDocument, NoSection, TooLong}
use Rattle.acl_text.specs.declared.faults.Fault.{Fault}
use Rattle.acl_text.specs.Refusals.{fault, file_fault}
use Rattle.acl_host.specs.Files.{File}
use Rattle.acl_host.specs.WholeFiles.{whole_file}
use Rattle.acl_filters.specs.PlatformLanguages.{SectionOn, SpellsOn, outcome_on}
use Rattle.acl_load.specs.LoadedPolicies.{FirstFaultOr}
use Rattle.acl_options.specs.CheckCommands.{FileSection}
use Rattle.aclcheck_core.specs.PolicyAnswers.{outcome_text}

-- `PATH: section N: VERDICT`
unfoldable pub section_line : FileSection → Outcome → List ℕ
section_line at o =
    at.path ++ codes ": section " ++ decimal at.number ++ codes ": " ++ outcome_text o ++ codes "\n"

-- Sections are numbered from 1 on. There may be none of that number, or none of the packet's family.
abbrev pub or_no_section : FileSection → Option Outcome → Result Outcome Fault
or_no_section at (Some o) = Ok o
or_no_section at None = Err (fault NoSection at.path 0 (decimal at.number))

-- The bytes spell a document of the platform's language, and this is what its section does; or they spell none.
abbrev pub AnswersBytes : FileSection → Packet → List ℕ → Result Outcome Fault → Type 0
AnswersBytes at packet bytes answer =
    ((doc : List (SectionOn at.kind)) × SpellsOn at.kind bytes doc
    × (answer ≡ or_no_section at (outcome_on at.kind doc (at.number - 1) packet)))
    ⊎ (((doc : List (SectionOn at.kind)) → SpellsOn at.kind bytes doc → ⊥)
    × (answer ≡ Err (file_fault NoDocument at.path)))

-- The most bytes of the file.
abbrev pub MOST_OF_TEXT : ℕ
MOST_OF_TEXT = 16777216

-- The file comes first: it is there, and not too long.
abbrev pub AnswersSection : FileSection → Packet → List File → Result Outcome Fault → Type 0
AnswersSection at packet files answer =
    FirstFaultOr (AnswersBytes at packet) (whole_file MOST_OF_TEXT TooLong at.path files) answer
