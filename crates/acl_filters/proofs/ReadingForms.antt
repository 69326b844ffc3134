-- What the readers answer, by platform: of a text with a document, and of one without.
use Rattle.std.proofs.Common.{◌≡◌, ℕ, List, Option, Some, None, length}
use Rattle.acl_packet.specs.declared.filtering.Outcome.{Outcome}
use Rattle.acl_packet.specs.declared.packets.Packet.{Packet}
use Rattle.acl_target.specs.declared.targets.Kind.{Kind}
use Rattle.acl_filters.specs.PlatformLanguages.{SectionOn, SpellsOn, outcome_on}

abbrev pub CountsOf : List ℕ → Option ℕ → Kind → Type 0
CountsOf text o kind = (doc : List (SectionOn kind)) → SpellsOn kind text doc → o ≡ Some (length doc)

abbrev pub OutcomesOf : List ℕ → ℕ → Packet → Option Outcome → Kind → Type 0
OutcomesOf text which p o kind = (doc : List (SectionOn kind)) → SpellsOn kind text doc → o ≡ outcome_on kind doc which p

abbrev pub NothingOf : {A : Type 0} → List ℕ → Option A → Kind → Type 0
NothingOf text o kind = ((doc : List (SectionOn kind)) → SpellsOn kind text doc → ⊥) → o ≡ None
