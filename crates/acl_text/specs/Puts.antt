-- What putting a text means, over the members of an output as one record.
use Rattle.std.specs.Prelude.{ℕ, List, Result}
use Rattle.acl_text.specs.Output.{PutsBy}
use Rattle.acl_text.specs.declared.output.Out.{Ghosts}
use Rattle.acl_text.specs.declared.output.PutFault.{PutFault}

abbrev pub Puts : {S T : Type 0} → Ghosts S → S → S → List ℕ → Result T PutFault → Type 0
Puts out old new text result =
    PutsBy out.told out.faults out.refusals out.is_open out.keeps_rest old new text result
