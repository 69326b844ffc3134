-- A valid section is one of iptables arguments that says a policy.
use Rattle.std.proofs.Common.{◌≡◌, true, List, [], ◌∷◌, is_some}
use Rattle.std.specs.List.{AllByRecursion}
use Rattle.ipt_lang.specs.declared.documents.Section.{Section}
use Rattle.ipt_lang.specs.Documents as arguments
use Rattle.ipr_lang.specs.Documents.{IsSection}

pub section_valid : (s : Section) → is_some s.accept ≡ true → arguments.IsSection s → IsSection s
section_valid s h k = record { valid = k; policy = h }

pub all_valid : (doc : List Section) → AllByRecursion IsSection doc → AllByRecursion arguments.IsSection doc
all_valid [] h = tt
all_valid (s ∷ doc) h = (h.0.valid, all_valid doc h.1)
