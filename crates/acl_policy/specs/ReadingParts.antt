-- What the reading of a policy keeps, by names for laws of other crates: the code keeps these types to itself.
use Rattle.acl_policy.specs.declared.choices.TargetChoices.{TargetChoices as ReadChoices}
use Rattle.acl_policy.specs.declared.keywords.KeywordRow.{KeywordRow as ReadRow}
use Rattle.acl_policy.specs.declared.states.Part.{Part as ReadPart}
use Rattle.acl_policy.specs.declared.states.Part.TheVariants as parts
use Rattle.acl_policy.specs.declared.states.PolicyState.{PolicyState as ReadState}
use Rattle.acl_policy.specs.declared.target_lines.NamedTarget.{NamedTarget as ReadTarget}
use Rattle.acl_policy.specs.declared.term_drafts.TermDraft.{TermDraft as ReadDraft}

abbrev pub TargetChoices : Type 0
TargetChoices = ReadChoices

abbrev pub PolicyState : Type 0
PolicyState = ReadState

abbrev pub NamedTarget : Type 0
NamedTarget = ReadTarget

abbrev pub TermDraft : Type 0
TermDraft = ReadDraft

abbrev pub KeywordRow : Type 0
KeywordRow = ReadRow

-- Where the reading stands.
abbrev pub Part : Type 0
Part = ReadPart

pattern abbrev pub Start : Part
Start = parts.Start

pattern abbrev pub Header : Part
Header = parts.Header

pattern abbrev pub InHeader : Part
InHeader = parts.InHeader

pattern abbrev pub HeaderEnd : Part
HeaderEnd = parts.HeaderEnd

pattern abbrev pub Term : Part
Term = parts.Term

pattern abbrev pub Named : Part
Named = parts.Named

pattern abbrev pub InTerm : Part
InTerm = parts.InTerm

pattern abbrev pub TermEnd : Part
TermEnd = parts.TermEnd
