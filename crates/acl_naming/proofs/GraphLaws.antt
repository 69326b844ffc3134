-- Names and the places of their definitions.
use Rattle.std.proofs.Common.{◌≡◌, ℕ, zero, suc, ◌<◌, ◌≤◌, Bool, true, ◌==◌, nat_lt, ◌⊎◌, ◌+◌, drop, get_or, List, [], ◌∷◌, ◌++◌, length, Option, None, Some, inl, inr, refl, ap, sym, ◌∙◌, arith, true≢false}
use Rattle.std.specs.List.{list_any, position_or_len}
use Rattle.std.specs.Str.{bytes_eq}
use Rattle.std.proofs.lemmas.Bool.{cases_lt, cond-true, eqb-true, lt-ltb, eq-eqb, or_left, or_right, or_cases}
use Rattle.std.proofs.lemmas.Option.{none-some, same_Some}
use Rattle.std.proofs.lemmas.Slice.Eq.{bytes_eq-Decides}
use Rattle.std.proofs.lemmas.List.{append_assoc, drop_more}
use Rattle.std.proofs.lemmas.List.Sums.{fails_before_first}
use Rattle.std.proofs.lemmas.List.Quantifiers.{position-Some}
use Rattle.acl_naming.specs.declared.naming_items.Item.{Item}
use Rattle.acl_naming.specs.declared.naming_items.Item.TheVariants.{Name, Network, Service}
use Rattle.acl_naming.specs.Definitions.{Definition, index_of, items_at, items_in, items_of}
use Rattle.acl_naming.specs.Tables.{name_at}
use Rattle.acl_naming.specs.Reach.{is_reference, refers}
use Rattle.acl_naming.specs.GraphSteps.{with_index, targets, graph_in, graph_of}
use Rattle.acl_naming.specs.MarkSteps.{among, leads}

pub option_cases : {X : Type 0} (o : Option X) → (o ≡ None) ⊎ ((x : X) × (o ≡ Some x))
option_cases None = inl refl
option_cases (Some x) = inr (x, refl)

pub nowhere : Definition
nowhere = record { name = []; place = record { file = 0; line = 0 }; items = [] }

name_get : (ds : List Definition) (i : ℕ) → i < length ds → (get_or ds i nowhere).name ≡ name_at ds i
name_get [] i h = absurd (omega arith)
name_get (d ∷ ds) zero h = refl
name_get (d ∷ ds) (suc i) h = name_get ds i (omega arith)

-- a name that is defined is the name of its definition
pub index_name : (base : List Definition) (name : List ℕ) (i : ℕ) → index_of base name ≡ Some i → (i < length base) × (name ≡ name_at base i)
index_name base name i e =
    let p = position-Some (λ (d : Definition). bytes_eq name d.name) base i nowhere e in
    (p.0, (bytes_eq-Decides name (get_or base i nowhere).name).0 p.1 ∙ name_get base i p.0)

-- two names with one definition are equal
pub same_index : (base : List Definition) (a b : List ℕ) (i : ℕ) → index_of base a ≡ Some i → index_of base b ≡ Some i → a ≡ b
same_index base a b i e f = (index_name base a i e).1 ∙ sym (index_name base b i f).1

-- the first definition of a definition's name stands not behind it
pub first_index : (base : List Definition) (i : ℕ) → i < length base → (k : ℕ) × (index_of base (name_at base i) ≡ Some k) × (k ≤ i)
first_index base i h =
    let name = name_at base i in
    let test : Definition → Bool = λ d. bytes_eq name d.name in
    let n = position_or_len test base in
    let here : test (get_or base i nowhere) ≡ true = (bytes_eq-Decides name (get_or base i nowhere).name).1 (sym (name_get base i h)) in
    let low : n ≤ i = elim (cases_lt i n) [
      | inl lt ↦ absurd (true≢false (sym here ∙ fails_before_first test base i nowhere lt))
      | inr ge ↦ ge
    ] in
    (n, cond-true (nat_lt n (length base)) (Some n) None (lt-ltb n (length base) (omega (arith, low))), low)

pub items_found : (base : List Definition) (name : List ℕ) (i : ℕ) → index_of base name ≡ Some i → items_of base name ≡ items_at base i
items_found base name i e = ap (items_in base) e

-- ---- targets

with_index_first : (o : Option ℕ) (j : ℕ) (js : List ℕ) → o ≡ Some j → among j (with_index o js) ≡ true
with_index_first None j js e = absurd (none-some j e)
with_index_first (Some k) j js e = or_left (k == j) (among j js) (eq-eqb k j (same_Some k j e))

with_index_more : (o : Option ℕ) (j : ℕ) (js : List ℕ) → among j js ≡ true → among j (with_index o js) ≡ true
with_index_more None j js h = h
with_index_more (Some k) j js h = or_right (k == j) (among j js) h

with_index_cases : (o : Option ℕ) (j : ℕ) (js : List ℕ) → among j (with_index o js) ≡ true → (o ≡ Some j) ⊎ (among j js ≡ true)
with_index_cases None j js h = inr h
with_index_cases (Some k) j js h = elim (or_cases (k == j) (among j js) h) [
  | inl e ↦ inl (ap Some (eqb-true k j e))
  | inr m ↦ inr m
]

-- a target is where some name among the items is defined
pub target_found : (base : List Definition) (items : List Item) (j : ℕ) → among j (targets base items) ≡ true
    → (name : List ℕ) × (list_any (is_reference name) items ≡ true) × (index_of base name ≡ Some j)
target_found base [] j h = absurd (cc)
target_found base (Name r ∷ items) j h = elim (with_index_cases (index_of base r.name) j (targets base items) h) [
  | inl e ↦ (r.name, or_left (bytes_eq r.name r.name) (list_any (is_reference r.name) items) ((bytes_eq-Decides r.name r.name).1 refl), e)
  | inr m ↦ let p = target_found base items j m in
      (p.0, or_right (bytes_eq p.0 r.name) (list_any (is_reference p.0) items) p.1, p.2)
]
target_found base (Network p ∷ items) j h = target_found base items j h
target_found base (Service p ∷ items) j h = target_found base items j h

-- and each name among the items that is defined has its target
pub target_all : (base : List Definition) (items : List Item) (name : List ℕ) (j : ℕ) → list_any (is_reference name) items ≡ true
    → index_of base name ≡ Some j → among j (targets base items) ≡ true
target_all base [] name j h e = absurd (cc)
target_all base (Name r ∷ items) name j h e = elim (or_cases (bytes_eq name r.name) (list_any (is_reference name) items) h) [
  | inl s ↦ with_index_first (index_of base r.name) j (targets base items)
      (ap (index_of base) (sym ((bytes_eq-Decides name r.name).0 s)) ∙ e)
  | inr m ↦ with_index_more (index_of base r.name) j (targets base items) (target_all base items name j m e)
]
target_all base (Network p ∷ items) name j h e = target_all base items name j h e
target_all base (Service p ∷ items) name j h e = target_all base items name j h e

-- ---- the graph

pub leads_at : (base ds : List Definition) (i j : ℕ) → leads (graph_in base ds) i j ≡ among j (targets base (items_at ds i))
leads_at base [] i j = refl
leads_at base (d ∷ ds) zero j = refl
leads_at base (d ∷ ds) (suc i) j = leads_at base ds i j

pub targets_within : (base : List Definition) (items : List Item) (j : ℕ) → among j (targets base items) ≡ true → j < length base
targets_within base items j h =
    let p = target_found base items j h in
    (index_name base p.0 j p.2).0

-- a name refers to another that is defined exactly where one definition leads to the other
pub leads_found : (base : List Definition) (a : List ℕ) (i j : ℕ) → index_of base a ≡ Some i → leads (graph_of base) i j ≡ true
    → (b : List ℕ) × (refers base a b ≡ true) × (index_of base b ≡ Some j)
leads_found base a i j e h =
    let p = target_found base (items_at base i) j (sym (leads_at base base i j) ∙ h) in
    (p.0, ap (list_any (is_reference p.0)) (items_found base a i e) ∙ p.1, p.2)

pub leads_all : (base : List Definition) (a b : List ℕ) (i j : ℕ) → index_of base a ≡ Some i → refers base a b ≡ true → index_of base b ≡ Some j
    → leads (graph_of base) i j ≡ true
leads_all base a b i j e h f =
    leads_at base base i j ∙ target_all base (items_at base i) b j (ap (list_any (is_reference b)) (sym (items_found base a i e)) ∙ h) f

pub items_get : (ds : List Definition) (i : ℕ) → i < length ds → (get_or ds i nowhere).items ≡ items_at ds i
items_get [] i h = absurd (omega arith)
items_get (d ∷ ds) zero h = refl
items_get (d ∷ ds) (suc i) h = items_get ds i (omega arith)

-- ---- the rows of the graph

pub row_at : (base ds : List Definition) (i : ℕ) (row : List ℕ) → i < length ds → row ≡ get_or (graph_in base ds) i [] → row ≡ targets base (items_at ds i)
row_at base [] i row h e = absurd (omega arith)
row_at base (d ∷ ds) zero row h e = e
row_at base (d ∷ ds) (suc i) row h e = row_at base ds i row (omega arith) e

-- one row more
pub row_added : (base : List Definition) (i : ℕ) (rows new : List (List ℕ)) (row : List ℕ) → i < length base → row ≡ targets base (items_at base i)
    → new ≡ rows ++ row ∷ [] → rows ++ graph_in base (drop i base) ≡ graph_of base → new ++ graph_in base (drop (i + 1) base) ≡ graph_of base
row_added base i rows new row h here added so_far =
    let rest = graph_in base (drop (i + 1) base) in
    ap (λ (g : List (List ℕ)). g ++ rest) added ∙ append_assoc rows (row ∷ []) rest
    ∙ ap (λ (r : List ℕ). rows ++ r ∷ rest) (here ∙ ap (targets base) (sym (items_get base i h)))
    ∙ ap (λ (ds : List Definition). rows ++ graph_in base ds) (sym (drop_more base i nowhere h)) ∙ so_far
