-- What a text of standard lists means: said over the policy and the language alone. No generator is named here.
use Rattle.std.specs.Prelude.{◌≡◌, ℕ, ◌+◌, ◌-◌, List, IfSome, map, slice_get}
use Rattle.acl_host.specs.declared.days.Day.{Day}
use Rattle.acl_naming.specs.Definitions.{Naming}
use Rattle.acl_target.specs.declared.targets.Target.{Target}
use Rattle.acl_filters.specs.AskedFilters.{FilterRequest}
use Rattle.acl_filters.specs.FilterMeanings.{DecidesAsPolicy}
use Rattle.std_lang.specs.declared.documents.Section.{Section}
use Rattle.std_lang.specs.Texts.{Spells}
use Rattle.std_lang.specs.Walks.{outcome_of}

-- The lists are numbered from the first number on, as the Cisco targets of the policy are.
abbrev pub number_from : ℕ → Target → ℕ
number_from first t = first + t.number - 1

-- The text is one that a router takes as this document, with one list for each target, in order, of the target's number;
-- and each list decides every packet of its target as the policy does.
pub record ListsAs (naming : Naming) (first : ℕ) (today : Day) (requests : List FilterRequest) (text : List ℕ)
    (doc : List Section) : Type 0 where
  pub spelled : Spells text doc
  pub numbers_are : map (λ s. s.number) doc ≡ map (λ r. number_from first r.target) requests
  pub decides : (k : ℕ) → IfSome (slice_get requests k) (λ r. DecidesAsPolicy naming today r (outcome_of doc k))

abbrev pub MeansLists : Naming → ℕ → Day → List FilterRequest → List ℕ → Type 0
MeansLists naming first today requests text =
    (doc : List Section) × ListsAs naming first today requests text doc
