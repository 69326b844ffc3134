-- A folder of naming files has an answer: whether a name reaches itself can be told.
use Rattle.std.proofs.Common.{◌≡◌, ℕ, zero, suc, ◌<◌, ◌≤◌, ◌⊎◌, inl, inr, Bool, true, false, List, [], ◌∷◌, length, Option, None, Some, Result, Ok, Err, refl, sym, subst, ◌∙◌, arith}
use Rattle.std.specs.List.{list_any}
use Rattle.std.specs.Str.{bytes_eq}
use Rattle.std.proofs.lemmas.Bool.{or_cases, or_left, or_right, false≢true}
use Rattle.std.proofs.Math.Nat.{eq-or-lt_of_le}
use Rattle.std.proofs.lemmas.Slice.Eq.{bytes_eq-Decides}
use Rattle.acl_text.specs.declared.faults.Code.TheVariants as codes
use Rattle.acl_text.specs.declared.faults.Fault.{Fault}
use Rattle.acl_text.specs.declared.faults.Slip.{Slip}
use Rattle.acl_text.specs.Refusals.{slip, slip_fault}
use Rattle.acl_host.specs.Files.{File, names_under}
use Rattle.acl_naming.specs.declared.naming_items.Item.{Item}
use Rattle.acl_naming.specs.declared.naming_items.Item.TheVariants.{Name, Network, Service}
use Rattle.acl_naming.specs.declared.naming_items.Reference.{Reference}
use Rattle.acl_naming.specs.Checking.{HasNoCycle, IsFirstCycle, IsSlipBy, NoCycleBefore, undefined_of}
use Rattle.acl_naming.specs.Definitions.{Definition, Naming, items_of}
use Rattle.acl_naming.specs.Reach.{ReachesItself, Walks, is_reference}
use Rattle.acl_naming.specs.Tables.{name_at, place_at}
use Rattle.acl_load.specs.Loading.{AnswersWith, Loads, definitions_of, naming_paths}

-- ---- walks

-- Some name among the items has the property.
abbrev SomeNext : (List ℕ → Type 0) → List Item → Type 0
SomeNext P items = (next : List ℕ) × (list_any (is_reference next) items ≡ true) × P next

next-told : (P : List ℕ → Type 0) → ((name : List ℕ) → P name ⊎ (P name → ⊥)) → (items : List Item)
    → SomeNext P items ⊎ (SomeNext P items → ⊥)
next-told P told [] = inr (λ s. false≢true s.1)
next-told P told (Name r ∷ items) =
    elim (told r.name) [
      | inl p ↦ inl (
        r.name,
        or_left (is_reference r.name (Name r)) (list_any (is_reference r.name) items)
            ((bytes_eq-Decides r.name r.name).1 refl),
        p,
      )
      | inr apart ↦ elim (next-told P told items) [
        | inl q ↦ inl (q.0, or_right (is_reference q.0 (Name r)) (list_any (is_reference q.0) items) q.1, q.2)
        | inr none ↦ inr (λ s. elim (or_cases (is_reference s.0 (Name r)) (list_any (is_reference s.0) items) s.1) [
          | inl a ↦ apart (subst P ((bytes_eq-Decides s.0 r.name).0 a) s.2)
          | inr b ↦ none (s.0, b, s.2)
        ])
      ]
    ]
next-told P told (Network p ∷ items) = next-told P told items
next-told P told (Service p ∷ items) = next-told P told items

-- A walk of at most so many further names ends there.
abbrev Within : List Definition → List ℕ → ℕ → List ℕ → Type 0
Within base end n name = (names : List (List ℕ)) × (length names ≤ n) × Walks base name names end

name-told : (a b : List ℕ) → (a ≡ b) ⊎ (a ≡ b → ⊥)
name-told a b = by (bytes_eq a b) refl
  where
    by : (t : Bool) → bytes_eq a b ≡ t → (a ≡ b) ⊎ (a ≡ b → ⊥)
    by true e = inl ((bytes_eq-Decides a b).0 e)
    by false e = inr (λ h. false≢true (sym e ∙ (bytes_eq-Decides a b).1 h))

none-within : (base : List Definition) (end name : List ℕ) (names : List (List ℕ)) → (name ≡ end → ⊥)
    → length names ≤ 0 → Walks base name names end → ⊥
none-within base end name [] apart l w = apart w
none-within base end name (next ∷ names) apart l w = omega (arith, l)

none-further : (base : List Definition) (end name : List ℕ) (n : ℕ) (names : List (List ℕ)) → (name ≡ end → ⊥)
    → (SomeNext (Within base end n) (items_of base name) → ⊥) → length names ≤ suc n → Walks base name names end → ⊥
none-further base end name n [] apart none l w = apart w
none-further base end name n (next ∷ names) apart none l w = none (next, w.0, (names, omega (arith, l), w.1))

walk-told : (base : List Definition) (end : List ℕ) (n : ℕ) (name : List ℕ)
    → Within base end n name ⊎ (Within base end n name → ⊥)
walk-told base end zero name =
    elim (name-told name end) [
      | inl e ↦ inl ([], omega arith, e)
      | inr apart ↦ inr (λ w. none-within base end name w.0 apart w.1 w.2)
    ]
walk-told base end (suc n) name =
    elim (name-told name end) [
      | inl e ↦ inl ([], omega arith, e)
      | inr apart ↦ elim (next-told (Within base end n) (walk-told base end n) (items_of base name)) [
        | inl s ↦ inl (s.0 ∷ s.2.0, omega (arith, s.2.1), (s.1, s.2.2))
        | inr none ↦ inr (λ w. none-further base end name n w.0 apart none w.1 w.2)
      ]
    ]

itself-told : (base : List Definition) (name : List ℕ) → ReachesItself base name ⊎ (ReachesItself base name → ⊥)
itself-told base name = by (length base) refl
  where
    by : (n : ℕ) → length base ≡ n → ReachesItself base name ⊎ (ReachesItself base name → ⊥)
    by zero e = inr (λ r. omega (arith, r.2, e))
    by (suc n) e = elim (next-told (Within base name n) (walk-told base name n) (items_of base name)) [
      | inl s ↦ inl (s.0, s.2.0, omega (arith, s.2.1, e), (s.1, s.2.2))
      | inr none ↦ inr (λ r. none (r.0, r.3.0, (r.1, omega (arith, r.2, e), r.3.1)))
    ]

-- ---- the first cycle

cycle-before : (base : List Definition) (i : ℕ)
    → ((j : ℕ) × (j < i) × ReachesItself base (name_at base j) × NoCycleBefore base j) ⊎ NoCycleBefore base i
cycle-before base zero = inr (λ k h r. omega (arith, h))
cycle-before base (suc i) =
    elim (cycle-before base i) [
      | inl c ↦ inl (c.0, omega (arith, c.1), c.2, c.3)
      | inr none ↦ elim (itself-told base (name_at base i)) [
        | inl r ↦ inl (i, omega arith, r, none)
        | inr apart ↦ inr (λ k h r. let le : k ≤ i = omega (arith, h) in elim (eq-or-lt_of_le le) [
          | inl e ↦ apart (subst (λ j. ReachesItself base (name_at base j)) e r)
          | inr l ↦ none k l r
        ])
      ]
    ]

first-cycle : (base : List Definition) → ((i : ℕ) × IsFirstCycle base i) ⊎ HasNoCycle base
first-cycle base =
    elim (cycle-before base (length base)) [
      | inl c ↦ inl (c.0, record { within = c.1; cycle = c.2; first = c.3 })
      | inr none ↦ inr none
    ]

-- ---- the answer

abbrev There : List (List ℕ) → Result Naming Fault → Type 0
There paths read = (answer : Result Naming Fault) × AnswersWith paths read answer

slip-there : (paths : List (List ℕ)) (n : Naming) (s : Slip) → IsSlipBy (undefined_of n) n s → There paths (Ok n)
slip-there paths n s is = (Err (slip_fault paths s), (s, is, refl))

sound-there : (paths : List (List ℕ)) (n : Naming) (u : Option Reference) → undefined_of n ≡ u → There paths (Ok n)
sound-there paths n (Some r) e =
    let s = slip codes.Undefined r.place r.name in
    slip-there paths n s (subst (λ u. IsSlipBy u n s) (sym e) refl)
sound-there paths n None e =
    let slipped : (s : Slip) → IsSlipBy None n s → There paths (Ok n) =
    λ s is. slip-there paths n s (subst (λ u. IsSlipBy u n s) (sym e) is) in
    elim (first-cycle n.networks) [
      | inl c ↦ slipped (slip codes.Cycle (place_at n.networks c.0) (name_at n.networks c.0)) (inl (c.0, c.1, refl))
      | inr front ↦ elim (first-cycle n.services) [
        | inl c ↦ slipped (slip codes.Cycle (place_at n.services c.0) (name_at n.services c.0)) (inr (front, (c.0, c.1, refl)))
        | inr back ↦ (Ok n, (refl, record { defined = e; networks = front; services = back }))
      ]
    ]

answer-there : (paths : List (List ℕ)) (read : Result Naming Fault) → There paths read
answer-there paths (Err f) = (Err f, refl)
answer-there paths (Ok n) = sound-there paths n (undefined_of n) refl

pub loads-there : (folder : List ℕ) (files : List File) → (answer : Result Naming Fault) × Loads folder files answer
loads-there folder files = answer-there (naming_paths folder (names_under folder files)) (definitions_of folder files)
