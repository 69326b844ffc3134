-- What holds of the answers to all questions.
use Rattle.std.specs.Prelude.{◌≡◌, List, Result, Ok}
use Rattle.acl_packet.specs.Packets.{IsPacket}
use Rattle.acl_packet.specs.declared.packets.Packet.{Packet}
use Rattle.acl_text.specs.declared.faults.Fault.{Fault}
use Rattle.acl_host.specs.declared.days.Day.{Day}
use Rattle.acl_host.specs.Files.{File}
use Rattle.acl_options.specs.CheckCommands.{FileSection}
use Rattle.acl_options.specs.Commands.{Inputs}
use Rattle.aclcheck_core.specs.CheckAnswers.{AsksPolicyOf, AsksSection, CheckAnswer, OfPolicy}
use Rattle.aclcheck_core.specs.PolicyAnswers.{PolicyAnswer, SectionsAnswer}

-- There is at most one answer.
abbrev pub PolicyAnswersAreOne : Type 0
PolicyAnswersAreOne = (inputs : Inputs) (packet : Packet) (today : Day) (files : List File)
    (a b : Result CheckAnswer Fault)
    → AsksPolicyOf inputs packet today files a → AsksPolicyOf inputs packet today files b → a ≡ b

abbrev pub SectionAnswersAreOne : Type 0
SectionAnswersAreOne = (at : FileSection) (packet : Packet) (files : List File) (a b : Result CheckAnswer Fault)
    → AsksSection at packet files a → AsksSection at packet files b → a ≡ b

-- What is told of a policy is what the sections do that are written for its targets.
abbrev pub SectionsAnswerAsThePolicy : Type 0
SectionsAnswerAsThePolicy = (inputs : Inputs) (packet : Packet) (today : Day) (files : List File)
    (answer : PolicyAnswer) → IsPacket packet
    → AsksPolicyOf inputs packet today files (Ok (OfPolicy answer)) → SectionsAnswer answer
