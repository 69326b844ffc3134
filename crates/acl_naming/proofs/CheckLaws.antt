-- Names that are defined nowhere, and the steps of the search for rings.
use Rattle.std.proofs.Common.{◌≡◌, ℕ, zero, suc, ◌+◌, ◌<◌, ◌≤◌, Bool, true, false, is_some, if◌then◌else◌, drop, slice_set, List, [], ◌∷◌, length, Option, None, Some, inl, inr, refl, ap, sym, subst, ◌∙◌, arith}
use Rattle.std.proofs.lemmas.Bool.{cases_lt}
use Rattle.std.proofs.lemmas.List.{drop_more}
use Rattle.std.specs.Option.{option_or}
use Rattle.acl_naming.specs.declared.naming_items.Item.{Item}
use Rattle.acl_naming.specs.declared.naming_items.Item.TheVariants.{Name, Network, Service}
use Rattle.acl_naming.specs.declared.naming_items.Reference.{Reference}
use Rattle.acl_naming.specs.Checking.{undefined_in, first_undefined, NoCycleBefore}
use Rattle.acl_naming.specs.Definitions.{Definition, index_of, items_at}
use Rattle.acl_naming.specs.GraphSteps.{names_count, targets, with_index}
use Rattle.acl_naming.specs.MarkSteps.{marked}
use Rattle.acl_naming.specs.RankSteps.{steps_left}
use Rattle.acl_naming.specs.Reach.{ReachesItself}
use Rattle.acl_naming.specs.Tables.{name_at}
use Rattle.acl_naming.proofs.GraphLaws.{nowhere, items_get, index_name, first_index}

-- what is undefined in the i-th definition, and behind it
undefined_step : (base : List Definition) (i : ℕ) → i < length base
    → first_undefined base (drop i base) ≡ option_or (undefined_in base (items_at base i)) (first_undefined base (drop (i + 1) base))
undefined_step base i h =
    ap (first_undefined base) (drop_more base i nowhere h)
    ∙ ap (λ (items : List Item). option_or (undefined_in base items) (first_undefined base (drop (i + 1) base))) (items_get base i h)

pub undefined_here : (base : List Definition) (i : ℕ) (r : Reference) → i < length base → Some r ≡ undefined_in base (items_at base i)
    → Some r ≡ first_undefined base (drop i base)
undefined_here base i r h e =
    ap (λ (o : Option Reference). option_or o (first_undefined base (drop (i + 1) base))) e ∙ sym (undefined_step base i h)

pub undefined_behind : (base : List Definition) (i : ℕ) → i < length base → None ≡ undefined_in base (items_at base i)
    → first_undefined base (drop (i + 1) base) ≡ first_undefined base (drop i base)
undefined_behind base i h e =
    ap (λ (o : Option Reference). option_or o (first_undefined base (drop (i + 1) base))) e ∙ sym (undefined_step base i h)

-- ---- the steps of the search for rings

-- a definition that is entered takes its own steps away
pub left_entered : (base : List Definition) (m : List Bool) (i : ℕ) → i < length base → length m ≡ length base → marked m i ≡ false
    → steps_left base m ≡ suc (length (items_at base i) + steps_left base (slice_set m i true))
left_entered [] m i h f e = absurd (omega arith)
left_entered (d ∷ ds) [] i h f e = absurd (omega arith)
left_entered (d ∷ ds) (true ∷ m) zero h f e = absurd (cc)
left_entered (d ∷ ds) (false ∷ m) zero h f e = refl
left_entered (d ∷ ds) (true ∷ m) (suc i) h f e = left_entered ds m i (omega arith) (omega arith) e
left_entered (d ∷ ds) (false ∷ m) (suc i) h f e = omega (arith, left_entered ds m i (omega arith) (omega arith) e)

-- no more places than names, and no more names than items
targets_few : (base : List Definition) (items : List Item) → length (targets base items) ≤ names_count items
targets_few base [] = omega arith
targets_few base (Name r ∷ items) = with_one (index_of base r.name) (targets_few base items)
  where
    with_one : (o : Option ℕ) → length (targets base items) ≤ names_count items → length (with_index o (targets base items)) ≤ suc (names_count items)
    with_one None few = omega (arith, few)
    with_one (Some j) few = omega (arith, few)
targets_few base (Network p ∷ items) = omega (arith, targets_few base items)
targets_few base (Service p ∷ items) = omega (arith, targets_few base items)

names_few : (items : List Item) → names_count items ≤ length items
names_few [] = omega arith
names_few (Name r ∷ items) = omega (arith, names_few items)
names_few (Network p ∷ items) = omega (arith, names_few items)
names_few (Service p ∷ items) = omega (arith, names_few items)

pub links_few : (base : List Definition) (items : List Item) (links : List ℕ) → links ≡ targets base items → length links ≤ length items
links_few base items links e = omega (arith, ap length e, targets_few base items, names_few items)

-- where there is a place for each name, each is defined
pub all_defined : (base : List Definition) (items : List Item) → length (targets base items) ≡ names_count items → undefined_in base items ≡ None
all_defined base [] e = refl
all_defined base (Name r ∷ items) e = with_one (index_of base r.name) (targets_few base items) (all_defined base items) e
  where
    with_one : (o : Option ℕ) → length (targets base items) ≤ names_count items → (length (targets base items) ≡ names_count items → undefined_in base items ≡ None)
        → length (with_index o (targets base items)) ≡ suc (names_count items) → (if is_some o then undefined_in base items else Some r) ≡ None
    with_one None few rest e = absurd (omega (arith, few, e))
    with_one (Some j) few rest e = rest (omega (arith, e))
all_defined base (Network p ∷ items) e = all_defined base items e
all_defined base (Service p ∷ items) e = all_defined base items e

-- a definition whose name has another definition before it reaches itself only where that one does
pub no_cycle_here : (base : List Definition) (i : ℕ) → i < length base → NoCycleBefore base i
    → (index_of base (name_at base i) ≡ Some i → ReachesItself base (name_at base i) → ⊥) → ReachesItself base (name_at base i) → ⊥
no_cycle_here base i h before missed r =
    let f = first_index base i h in
    elim (cases_lt f.0 i) [
      | inl lt ↦ before f.0 lt (subst (λ (n : List ℕ). ReachesItself base n) (index_name base (name_at base i) f.0 f.1).1 r)
      | inr ge ↦ let same : f.0 ≡ i = omega (arith, ge, f.2) in missed (f.1 ∙ ap Some same) r
    ]
