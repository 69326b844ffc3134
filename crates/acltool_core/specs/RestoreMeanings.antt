-- What a text for iptables-restore means: said over the policy and the language alone. No generator is named here.
use Rattle.std.specs.Prelude.{◌≡◌, ℕ, List, IfSome, length, slice_get}
use Rattle.acl_host.specs.declared.days.Day.{Day}
use Rattle.acl_naming.specs.Definitions.{Naming}
use Rattle.acl_filters.specs.AskedFilters.{FilterRequest}
use Rattle.acl_filters.specs.FilterMeanings.{DecidesAsPolicy}
use Rattle.ipt_lang.specs.declared.documents.Section.{Section}
use Rattle.ipt_lang.specs.Walks.{outcome_of}
use Rattle.ipr_lang.specs.Texts.{Spells}

-- The text is one that iptables-restore takes as this document, with one section for each target, in order; and each
-- section decides every packet of its target as the policy does.
pub record RestoresAs (naming : Naming) (today : Day) (requests : List FilterRequest) (text : List ℕ)
    (doc : List Section) : Type 0 where
  pub spelled : Spells text doc
  pub one_each : length doc ≡ length requests
  pub decides : (k : ℕ) → IfSome (slice_get requests k) (λ r. DecidesAsPolicy naming today r (outcome_of doc k))

abbrev pub MeansRestored : Naming → Day → List FilterRequest → List ℕ → Type 0
MeansRestored naming today requests text =
    (doc : List Section) × RestoresAs naming today requests text doc
