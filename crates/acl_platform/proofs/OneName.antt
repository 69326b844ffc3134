-- Sections that take one name each, and that of targets of one kind that do not clash.
use Rattle.std.proofs.Common.{◌≡◌, ℕ, Bool, false, ◌&&◌, List, [], ◌∷◌, map, flat_map, ap, ◌∙◌}
use Rattle.std.specs.List.{AllByRecursion, IsDistinct}
use Rattle.std.specs.Str.{bytes_eq}
use Rattle.acl_target.specs.declared.targets.Kind.{Kind}
use Rattle.acl_target.specs.Clashes.{clash, clash_on, same_kind}
use Rattle.acl_platform.specs.declared.filters.Filter.{Filter}
use Rattle.acl_platform.specs.SoundFilters.{target_of}

-- what a clash of two targets of one kind is
pub clash-of : (kind : Kind) (f g : Filter) (stateful : Bool) → f.kind ≡ kind → g.kind ≡ kind
    → clash (target_of stateful f) (target_of stateful g) ≡ same_kind kind kind && clash_on kind (target_of stateful f) (target_of stateful g)
unfolding clash
clash-of kind f g stateful h k =
    let test : Kind → Kind → Bool = λ i j. same_kind i j && clash_on i (target_of stateful f) (target_of stateful g) in
    ap (λ i. test i g.kind) h ∙ ap (test kind) k

module _ {S : Type 0} (P : Filter → Type 0) (name : S → List ℕ) (section : Filter → S) (stateful : Bool)
    (apart : (f g : Filter) → P f → P g → clash (target_of stateful f) (target_of stateful g) ≡ false
    → bytes_eq (name (section f)) (name (section g)) ≡ false) where
  none-later : (f : Filter) (fs : List Filter) → P f → AllByRecursion P fs
      → AllByRecursion (λ t. clash (target_of stateful f) t ≡ false) (map (target_of stateful) fs)
      → AllByRecursion (λ n. bytes_eq (name (section f)) n ≡ false) (flat_map (λ s. name s ∷ []) (map section fs))
  none-later f [] h k e = tt
  none-later f (g ∷ fs) h k e = (apart f g h k.0 e.0, none-later f fs h k.1 e.1)

  -- names differ where each two targets that do not clash have different ones
  pub all-differ : (fs : List Filter) → AllByRecursion P fs → IsDistinct clash (map (target_of stateful) fs)
      → IsDistinct bytes_eq (flat_map (λ s. name s ∷ []) (map section fs))
  unfolding IsDistinct
  all-differ [] h d = tt
  all-differ (f ∷ fs) h d = (none-later f fs h.0 h.1 d.0, all-differ fs h.1 d.1)
