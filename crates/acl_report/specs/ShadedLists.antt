-- Which terms shade those of the blocks of a policy: a list for each block.
use Rattle.std.specs.Prelude.{◌≡◌, ℕ, List, [], ◌∷◌, ◌++◌, zip, Option}
use Rattle.acl_host.specs.declared.days.Day.{Day}
use Rattle.acl_target.specs.declared.targets.Target.{Target}
use Rattle.acl_terms.specs.declared.terms.Term.{Term}
use Rattle.acl_shade.specs.ShadedPlaces.{AreShadedPlaces}
use Rattle.acl_load.specs.declared.resolved_policies.ResolvedPolicy.{ResolvedPolicy}

-- Each block, of which the targets and the terms are given, has the list at its place.
abbrev pub AreShadedLists : Day → List (List Target × List Term) → List (List (Option ℕ)) → Type 0
AreShadedLists today [] lists = lists ≡ []
AreShadedLists today (b ∷ bs) [] = ⊥
AreShadedLists today (b ∷ bs) (places ∷ lists) =
    AreShadedPlaces b.0 today b.1 places × AreShadedLists today bs lists

-- The lists are those of the policy's blocks.
abbrev pub AreShadedIn : Day → ResolvedPolicy → List (List (Option ℕ)) → Type 0
AreShadedIn today policy lists = AreShadedLists today (zip policy.targets policy.terms) lists

-- Lists of some blocks are added.
abbrev pub AddsShadedLists : Day → List (List Target × List Term) → List (List (Option ℕ)) → List (List (Option ℕ)) → Type 0
AddsShadedLists today blocks old new = (lists : List (List (Option ℕ))) × (new ≡ old ++ lists) × AreShadedLists today blocks lists
