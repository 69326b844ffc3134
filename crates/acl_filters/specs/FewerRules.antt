-- A filter from which rules are taken out: it is taken where the whole one is.
use Rattle.std.specs.Prelude.{◌≡◌, ◌⊎◌, true, List, [], ◌∷◌, None}
use Rattle.std.specs.List.{list_any}
use Rattle.acl_packet.specs.declared.addresses.Family.{Family}
use Rattle.acl_packet.specs.Addresses.{same_family}
use Rattle.acl_platform.specs.declared.filters.Filter.{Filter}
use Rattle.acl_filters.specs.PlatformFiles.{limit_of}

-- One list is what is left of another when some of its elements are taken out.
abbrev pub IsLeftOf : {A : Type 0} → List A → List A → Type 0
IsLeftOf [] ys = Unit {0}
IsLeftOf (x ∷ xs) [] = ⊥
IsLeftOf (x ∷ xs) (y ∷ ys) = ((x ≡ y) × IsLeftOf xs ys) ⊎ IsLeftOf (x ∷ xs) ys

-- The filter g has the rules of f but for some that are taken out, and of each family of which f
-- has a rule it has one. It is of f's kind, and for f's families; nothing else of the two has to
-- agree.
pub record HasFewerRules (f g : Filter) : Type 0 where
  pub kind_is : g.kind ≡ f.kind
  pub families_are : g.families ≡ f.families
  pub rules : IsLeftOf g.rules f.rules
  pub kept : (family : Family) → list_any (λ r. same_family r.family family) f.rules ≡ true
      → list_any (λ r. same_family r.family family) g.rules ≡ true

-- Where the platform takes a filter, it takes the filter with fewer rules.
abbrev pub FewerRulesFit : Type 0
FewerRulesFit = (f g : Filter) → HasFewerRules f g → limit_of f ≡ None → limit_of g ≡ None
