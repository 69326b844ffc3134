-- What the names of a workload reach.
use Rattle.std.proofs.Common.{◌≡◌, ℕ, ◌+◌, ◌<◌, ◌≤◌, zero, suc, Bool, true, false, cond, not, nat_lt, List, [], ◌++◌, length, map, flat_map, codes, decimal, None, Some, refl, ap, sym, subst, ◌∙◌, append-nil, arith}
use Rattle.std.specs.List.{position, prefix_len, range_with_len}
use Rattle.std.specs.Str.{bytes_eq}
use Rattle.std.proofs.lemmas.Bool.{cond-false, cond-true}
use Rattle.std.proofs.lemmas.Bool.Decides.{nat_tests}
use Rattle.std.proofs.lemmas.List.FromFn.{length-map-range_with_len}
use Rattle.acl_text.proofs.OptionStepLaws.{bytes_same}
use Rattle.acl_naming.specs.declared.naming_items.Item.{Item}
use Rattle.acl_naming.specs.ComputableReach.{items_behind, items_reached, items_within}
use Rattle.acl_naming.specs.Definitions.{Definition, index_of, items_at, items_in, items_of}
use Rattle.aclgen_core.specs.WorkloadNames.{each, network, network_items, network_name, service, service_items, service_name}
use Rattle.aclgen_core.proofs.NumberedNames.{other_name}

first_at : {A : Type 0} (p : A → Bool) (f : ℕ → A) (a n i : ℕ) → i < n → ((j : ℕ) → j < i → p (f (a + j)) ≡ false) → p (f (a + i)) ≡ true
    → prefix_len (λ x. not (p x)) (map f (range_with_len a n)) ≡ i
first_at p f a zero i below before here = absurd (omega (arith, below))
first_at p f a (suc n) zero below before here =
    let same : a + 0 ≡ a = omega arith in
    cond-false (not (p (f a))) _ _ (ap not (subst (λ k. p (f k) ≡ true) same here))
first_at p f a (suc n) (suc i) below before here =
    let same : a + 0 ≡ a = omega arith in
    let shift : (j : ℕ) → a + suc j ≡ a + 1 + j = λ j. omega arith in
    cond-true (not (p (f a))) _ _ (ap not (subst (λ k. p (f k) ≡ false) same (before 0 (omega arith))))
    ∙ ap (λ m. 1 + m) (first_at p f (a + 1) n i (omega (arith, below))
    (λ j less. subst (λ k. p (f k) ≡ false) (shift j) (before (suc j) (omega (arith, less))))
    (subst (λ k. p (f k) ≡ true) (shift i) here))
    ∙ omega arith

found_at : {A : Type 0} (p : A → Bool) (f : ℕ → A) (n i : ℕ) → i < n → ((j : ℕ) → j < i → p (f j) ≡ false) → p (f i) ≡ true
    → position p (each f n) ≡ Some i
found_at p f n i below before here =
    let zero_on : (j : ℕ) → j ≡ 0 + j = λ j. omega arith in
    let place = first_at p f 0 n i below (λ j less. subst (λ k. p (f k) ≡ false) (zero_on j) (before j less)) (subst (λ k. p (f k) ≡ true) (zero_on i) here) in
    ap (λ m. cond (nat_lt m (length (each f n))) (Some m) None) place
    ∙ cond-true (nat_lt i (length (each f n))) _ _ (is_within i (length (each f n)) (omega (arith, below, length-map-range_with_len f 0 n)))
  where
    is_within : (m k : ℕ) → m < k → nat_lt m k ≡ true
    is_within m k h = grind (arith, nat_tests)

items_there : (f : ℕ → Definition) (a n i : ℕ) → i < n → items_at (map f (range_with_len a n)) i ≡ (f (a + i)).items
items_there f a zero i below = absurd (omega (arith, below))
items_there f a (suc n) zero below =
    let same : a ≡ a + 0 = omega arith in
    ap (λ k. (f k).items) same
items_there f a (suc n) (suc i) below =
    let same : a + 1 + i ≡ a + suc i = omega arith in
    items_there f (a + 1) n i (omega (arith, below)) ∙ ap (λ k. (f k).items) same

-- A kind of definitions, whose items name nothing.
record Named (letter : List ℕ) (define : ℕ → Definition) : Type 0 where
  name_is : (i : ℕ) → (define i).name ≡ letter ++ decimal i
  ends : (items : List ℕ → List Item) (i : ℕ) → flat_map (items_behind items) (define i).items ≡ []

index_there : (letter : List ℕ) (define : ℕ → Definition) → Named letter define → (n i : ℕ) → i < n → n ≤ 1024
    → index_of (each define n) (letter ++ decimal i) ≡ Some i
index_there letter define h n i below few =
    found_at (λ d. bytes_eq (letter ++ decimal i) d.name) define n i below
    (λ j less. subst (λ name. bytes_eq (letter ++ decimal i) name ≡ false) (sym (h.name_is j))
    (other_name letter i j (omega (arith, below, few)) (omega (arith, less, below, few)) (λ e. absurd (omega (arith, e, less)))))
    (bytes_same (letter ++ decimal i) (define i).name (sym (h.name_is i)))

items_found : (letter : List ℕ) (define : ℕ → Definition) → Named letter define → (n i : ℕ) → i < n → n ≤ 1024
    → items_of (each define n) (letter ++ decimal i) ≡ (define i).items
items_found letter define h n i below few =
    let same : 0 + i ≡ i = omega arith in
    ap (items_in (each define n)) (index_there letter define h n i below few)
    ∙ items_there define 0 n i below
    ∙ ap (λ k. (define k).items) same

reached : (letter : List ℕ) (define : ℕ → Definition) → Named letter define → (n i fuel : ℕ) → i < n → n ≤ 1024
    → items_within (each define n) fuel (letter ++ decimal i) ≡ (define i).items
unfolding items_within
reached letter define h n i zero below few = items_found letter define h n i below few
reached letter define h n i (suc fuel) below few =
    ap (λ items. items ++ flat_map (items_behind (items_within (each define n) fuel)) items) (items_found letter define h n i below few)
    ∙ ap (λ more. (define i).items ++ more) (h.ends (items_within (each define n) fuel) i)
    ∙ append-nil (define i).items

network_named : Named (codes "N") network
network_named = record { name_is = λ i. refl; ends = λ items i. refl }

service_named : Named (codes "S") service
service_named = record { name_is = λ i. refl; ends = λ items i. refl }

pub network_index : (n i : ℕ) → i < n → n ≤ 1024 → index_of (each network n) (network_name i) ≡ Some i
network_index n i below few = index_there (codes "N") network network_named n i below few

pub service_index : (n i : ℕ) → i < n → n ≤ 1024 → index_of (each service n) (service_name i) ≡ Some i
service_index n i below few = index_there (codes "S") service service_named n i below few

pub network_reaches : (n i : ℕ) → i < n → n ≤ 1024 → items_reached (each network n) (network_name i) ≡ network_items i
network_reaches n i below few = reached (codes "N") network network_named n i (length (each network n)) below few

pub service_reaches : (n i : ℕ) → i < n → n ≤ 1024 → items_reached (each service n) (service_name i) ≡ service_items i
service_reaches n i below few = reached (codes "S") service service_named n i (length (each service n)) below few
