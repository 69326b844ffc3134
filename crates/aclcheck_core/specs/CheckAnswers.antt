-- What aclcheck answers to a question, or the first fault; and the text of an answer.
use Rattle.std.specs.Prelude.{◌≡◌, ℕ, List, flat_map, Option, Result, Ok, Err, IfSome}
use Rattle.acl_packet.specs.declared.filtering.Outcome.{Outcome}
use Rattle.acl_packet.specs.declared.packets.Packet.{Packet}
use Rattle.acl_text.specs.declared.faults.Fault.{Fault}
use Rattle.acl_text.specs.Wholes.{Gathered}
use Rattle.acl_host.specs.declared.days.Day.{Day}
use Rattle.acl_host.specs.Files.{File}
use Rattle.acl_load.specs.declared.load_faults.LoadFault.{LoadFault}
use Rattle.acl_load.specs.declared.policy_loading.Loaded.{Loaded}
use Rattle.acl_load.specs.LoadFaults.{load_told}
use Rattle.acl_load.specs.LoadedPolicies.{FirstFaultOr, LoadsPolicy}
use Rattle.acl_options.specs.CheckCommands.{FileSection}
use Rattle.acl_options.specs.Commands.{Inputs}
use Rattle.aclcheck_core.specs.PolicyAnswers.{AnswersPolicy, PolicyAnswer, answer_line}
use Rattle.aclcheck_core.specs.SectionAnswers.{AnswersSection, section_line}

pub data CheckAnswer : Type 0 where
  OfPolicy : PolicyAnswer → CheckAnswer
  OfSection : FileSection → Outcome → CheckAnswer

-- The text on standard output.
abbrev pub answer_text : CheckAnswer → List ℕ
answer_text (OfPolicy answer) = flat_map answer_line answer.answers
answer_text (OfSection at o) = section_line at o

-- The answer on a policy: it is loaded, and then each target is asked.
abbrev pub AsksLoaded : Packet → Day → Loaded → Result CheckAnswer Fault → Type 0
AsksLoaded packet today loaded (Ok (OfPolicy answer)) = AnswersPolicy loaded today packet answer
AsksLoaded packet today loaded (Ok (OfSection at o)) = ⊥
AsksLoaded packet today loaded (Err fault) = ⊥

abbrev pub AsksPolicyOf : Inputs → Packet → Day → List File → Result CheckAnswer Fault → Type 0
AsksPolicyOf inputs packet today files answer = (loaded : Result Loaded Fault)
    × LoadsPolicy inputs.definitions inputs.policy files loaded
    × FirstFaultOr (AsksLoaded packet today) loaded answer

abbrev pub AsksSection : FileSection → Packet → List File → Result CheckAnswer Fault → Type 0
AsksSection at packet files (Ok (OfPolicy answer)) = ⊥
AsksSection at packet files (Ok (OfSection of o)) = (of ≡ at) × AnswersSection at packet files (Ok o)
AsksSection at packet files (Err fault) = AnswersSection at packet files (Err fault)

-- ---- as the code has it

-- A text that is made of the tree's files, of an answer, or their first fault.
abbrev pub MakesText : (List File → Result CheckAnswer Fault → Type 0) → Option (List File)
    → Result Gathered LoadFault → Type 0
MakesText IsAnswer told (Ok text) = IfSome told (λ files. (answer : CheckAnswer)
    × IsAnswer files (Ok answer) × (text.bytes ≡ answer_text answer))
MakesText IsAnswer told (Err e) =
    IfSome told (λ files. IfSome (load_told e) (λ fault. IsAnswer files (Err fault)))
