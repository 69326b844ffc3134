-- The names of the sections of two filters whose parts are known.
use Rattle.std.proofs.Common.{◌≡◌, ℕ, List, [], ◌∷◌, flat_map, map, ap, sym, subst, ◌∙◌}
use Rattle.std.specs.List.{IsDistinct}
use Rattle.std.specs.Str.{bytes_eq}
use Rattle.acl_platform.specs.declared.filters.Filter.{Filter}

pub both-differ : {S : Type 0} (names : S → List (List ℕ)) (section : Filter → S) (f g first second : Filter) → f ≡ first → g ≡ second
    → IsDistinct bytes_eq (flat_map names (map section (first ∷ second ∷ [])))
    → IsDistinct bytes_eq (flat_map names (map section (f ∷ g ∷ [])))
both-differ names section f g first second e h apart =
    let all : Filter → Filter → List (List ℕ) = λ x y. flat_map names (map section (x ∷ y ∷ [])) in
    let same = ap (λ x. all x g) e ∙ ap (all first) h in
    subst (IsDistinct bytes_eq) (sym same) apart
