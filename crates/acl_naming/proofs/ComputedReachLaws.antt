-- What a name reaches, computed: the items at the ends of walks, and the sets of their numbers.
use Rattle.std.proofs.Common.{◌≡◌, ℕ, zero, suc, ◌+◌, ◌-◌, ◌<◌, ◌≤◌, ◌↔◌, min, Bool, true, false, cond, ◌&&◌, ◌||◌, ◌==◌, nat_le, nat_lt, List, [], ◌∷◌, length, flat_map, inl, inr, refl, ap, sym, subst, ◌∙◌, arith, true≢false, ◌≢◌}
use Rattle.std.specs.List.{All, AllByRecursion, list_any}
use Rattle.std.proofs.lemmas.List.Elements.{All-head}
use Rattle.std.proofs.lemmas.Bool.{cases_lt, le-leb, le-ltb, leb-false, leb-true, lt-leb, lt-ltb, or_cases, or_left, or_right}
use Rattle.std.proofs.lemmas.Nat.{pow_pos}
use Rattle.std.proofs.Math.Bool.{or-false, and-false}
use Rattle.std.proofs.Math.Nat.{le-min, min-le_left, min-le_right}
use Rattle.std.proofs.lemmas.List.Folds.{list_any-append}
use Rattle.std.proofs.lemmas.Slice.Eq.{bytes_eq-Decides}
use Rattle.acl_naming.specs.declared.naming_items.Item.{Item}
use Rattle.acl_naming.specs.declared.reaching.Wanted.TheVariants.{Addresses, Ports}
use Rattle.acl_naming.specs.LookupSteps.{IsReach}
use Rattle.acl_naming.specs.declared.naming_items.Item.TheVariants.{Name, Network, Service}
use Rattle.acl_naming.specs.Definitions.{Definition, items_of}
use Rattle.acl_naming.specs.Reach.{is_reference, Walks, Reaches, ReachesAddress, ReachesPort, holds_address, holds_port}
use Rattle.acl_naming.specs.ComputableReach.{items_behind, items_within, items_reached, up_to, addresses_of, ports_of, addresses_reached, ports_reached, ReachIsComputed, AddressesAreComputed, PortsAreComputed}
use Rattle.acl_packet.specs.declared.addresses.Family.{Family}
use Rattle.acl_packet.specs.declared.addresses.Prefix.{Prefix}
use Rattle.acl_packet.specs.Addresses.{has_address, same_family, size_of, top_address, width_of}
use Rattle.acl_sets.specs.declared.sets.Range.{Range}
use Rattle.acl_sets.specs.Ranges.{IsNormal, IsRange, holds, inside}
use Rattle.acl_sets.specs.ComputableSets.{put_all}
use Rattle.acl_sets.proofs.ComputableSetLaws.{put_all-holds, put_all-normal}
use Rattle.acl_sets.proofs.RangeLaws.{in_range, one_list, past_top}
use Rattle.acl_text.proofs.ListLaws.{all_append}
use Rattle.acl_naming.specs.Ports.{has_port, top_port}

-- A walk of at most n further names ends at an item that passes.
abbrev Within : List Definition → ℕ → List ℕ → (Item → Bool) → Type 0
Within base n name test =
    (names : List (List ℕ)) × (end : List ℕ) × (length names ≤ n)
    × Walks base name names end × (list_any test (items_of base end) ≡ true)

-- Among the items is a name behind which some item passes.
behind-some : (f : List ℕ → List Item) (test : Item → Bool) (items : List Item) → list_any test (flat_map (items_behind f) items) ≡ true
    → (next : List ℕ) × (list_any (is_reference next) items ≡ true) × (list_any test (f next) ≡ true)
behind-some f test [] h = absurd cc
behind-some f test (Name r ∷ items) h =
    elim (or_cases (list_any test (f r.name)) (list_any test (flat_map (items_behind f) items)) (sym (list_any-append test (f r.name) (flat_map (items_behind f) items)) ∙ h)) [
      | inl a ↦ (r.name, or_left (is_reference r.name (Name r)) (list_any (is_reference r.name) items) ((bytes_eq-Decides r.name r.name).1 refl), a)
      | inr b ↦ let p = behind-some f test items b in (p.0, or_right (is_reference p.0 (Name r)) (list_any (is_reference p.0) items) p.1, p.2)
    ]
behind-some f test (Network p ∷ items) h = let q = behind-some f test items h in (q.0, q.1, q.2)
behind-some f test (Service p ∷ items) h = let q = behind-some f test items h in (q.0, q.1, q.2)

some-behind : (f : List ℕ → List Item) (test : Item → Bool) (items : List Item) (next : List ℕ) → list_any (is_reference next) items ≡ true
    → list_any test (f next) ≡ true → list_any test (flat_map (items_behind f) items) ≡ true
some-behind f test [] next h t = absurd cc
some-behind f test (Name r ∷ items) next h t =
    list_any-append test (f r.name) (flat_map (items_behind f) items)
    ∙ elim (or_cases (is_reference next (Name r)) (list_any (is_reference next) items) h) [
      | inl a ↦ or_left (list_any test (f r.name)) (list_any test (flat_map (items_behind f) items))
          (ap (λ n. list_any test (f n)) (sym ((bytes_eq-Decides next r.name).0 a)) ∙ t)
      | inr b ↦ or_right (list_any test (f r.name)) (list_any test (flat_map (items_behind f) items)) (some-behind f test items next b t)
    ]
some-behind f test (Network p ∷ items) next h t = some-behind f test items next h t
some-behind f test (Service p ∷ items) next h t = some-behind f test items next h t

within-walks : (base : List Definition) (n : ℕ) (name : List ℕ) (test : Item → Bool) → list_any test (items_within base n name) ≡ true → Within base n name test
unfolding items_within
within-walks base zero name test h = ([], name, omega arith, refl, h)
within-walks base (suc n) name test h =
    let more = flat_map (items_behind (items_within base n)) (items_of base name) in
    elim (or_cases (list_any test (items_of base name)) (list_any test more) (sym (list_any-append test (items_of base name) more) ∙ h)) [
      | inl a ↦ ([], name, omega arith, refl, a)
      | inr b ↦ let p = behind-some (items_within base n) test (items_of base name) b in
          let w = within-walks base n p.0 test p.2 in
          (p.0 ∷ w.0, w.1, omega (arith, w.2), (p.1, w.3), w.4)
    ]

walks-within : (base : List Definition) (n : ℕ) (name : List ℕ) (test : Item → Bool) (names : List (List ℕ)) (end : List ℕ) → length names ≤ n
    → Walks base name names end → list_any test (items_of base end) ≡ true → list_any test (items_within base n name) ≡ true
unfolding items_within
walks-within base zero name test [] end l w t = ap (λ x. list_any test (items_of base x)) w ∙ t
walks-within base zero name test (next ∷ names) end l w t = absurd (omega arith)
walks-within base (suc n) name test [] end l w t =
    let more = flat_map (items_behind (items_within base n)) (items_of base name) in
    list_any-append test (items_of base name) more
    ∙ or_left (list_any test (items_of base name)) (list_any test more) (ap (λ x. list_any test (items_of base x)) w ∙ t)
walks-within base (suc n) name test (next ∷ names) end l w t =
    let more = flat_map (items_behind (items_within base n)) (items_of base name) in
    list_any-append test (items_of base name) more
    ∙ or_right (list_any test (items_of base name)) (list_any test more)
    (some-behind (items_within base n) test (items_of base name) next w.0 (walks-within base n next test names end (omega arith) w.1 t))

pub reach_computed : ReachIsComputed
reach_computed base name test = (
  within-walks base (length base) name test,
  λ r. walks-within base (length base) name test r.0 r.1 r.2 r.3 r.4,
)

-- ---- the sets

-- up to the top a range that is cut there holds what it held
clipped : (top low high x : ℕ) → x ≤ top → holds (up_to top low high) x ≡ nat_le low x && nat_le x high
clipped top low high x l = by (nat_le low (min high top)) refl
  where
    same : nat_le x (min high top) ≡ nat_le x high
    same = elim (cases_lt high x) [
      | inl h ↦ lt-leb x (min high top) (omega (arith, min-le_left high top)) ∙ sym (lt-leb x high h)
      | inr h ↦ le-leb x (min high top) (le-min h l) ∙ sym (le-leb x high h)
    ]

    empty : low ≤ x → (min high top) < low → nat_le x (min high top) ≡ false
    empty g m = lt-leb x (min high top) (omega arith)

    by : (b : Bool) → nat_le low (min high top) ≡ b
        → holds (cond b (record { low = low; high = min high top } ∷ []) []) x ≡ nat_le low x && nat_le x high
    by true e = or-false (nat_le low x && nat_le x (min high top)) ∙ ap (λ t. nat_le low x && t) same
    by false e = elim (cases_lt x low) [
      | inl h ↦ sym (ap (λ t. t && nat_le x high) (lt-leb low x h))
      | inr h ↦ sym (ap (λ t. nat_le low x && t) (sym same ∙ empty h (leb-false low (min high top) e)) ∙ and-false (nat_le low x))
    ]

one_range : (top low high : ℕ) → AllByRecursion (λ r. IsRange top r) (up_to top low high)
one_range top low high = by (nat_le low (min high top)) refl
  where
    by : (b : Bool) → nat_le low (min high top) ≡ b → AllByRecursion (λ r. IsRange top r) (cond b (record { low = low; high = min high top } ∷ []) [])
    by true e = ((leb-true low (min high top) e, min-le_right high top), tt)
    by false e = tt

-- the numbers of a prefix end at its last one
last_one : (p : Prefix) (x : ℕ) → nat_le p.first x && nat_le x (p.first + size_of p - 1) ≡ has_address p x
last_one p x = ap (λ t. nat_le p.first x && t) (elim (cases_lt x (p.first + size_of p)) [
  | inl h ↦ le-leb x (p.first + size_of p - 1) (omega arith) ∙ sym (lt-ltb x (p.first + size_of p) h)
  | inr h ↦ lt-leb x (p.first + size_of p - 1) (omega (arith, pow_pos (width_of p.family - p.len))) ∙ sym (le-ltb x (p.first + size_of p) h)
])

address_held : (f : Family) (x : ℕ) → x ≤ top_address f → (item : Item) → holds (addresses_of f item) x ≡ holds_address f x item
address_held f x l (Name r) = refl
address_held f x l (Network p) = by (same_family f p.family)
  where
    by : (b : Bool) → holds (cond b (up_to (top_address f) p.first (p.first + size_of p - 1)) []) x ≡ b && has_address p x
    by true = clipped (top_address f) p.first (p.first + size_of p - 1) x l ∙ last_one p x
    by false = refl
address_held f x l (Service p) = refl

port_held : (q x : ℕ) → x ≤ top_port → (item : Item) → holds (ports_of q item) x ≡ holds_port q x item
port_held q x l (Name r) = refl
port_held q x l (Network p) = refl
port_held q x l (Service p) = by (q == p.proto)
  where
    by : (b : Bool) → holds (cond b (up_to top_port p.low p.high) []) x ≡ b && has_port p x
    by true = clipped top_port p.low p.high x l
    by false = refl

address_ranges : (f : Family) (item : Item) → AllByRecursion (λ r. IsRange (top_address f) r) (addresses_of f item)
address_ranges f (Name r) = tt
address_ranges f (Network p) = by (same_family f p.family)
  where
    by : (b : Bool) → AllByRecursion (λ r. IsRange (top_address f) r) (cond b (up_to (top_address f) p.first (p.first + size_of p - 1)) [])
    by true = one_range (top_address f) p.first (p.first + size_of p - 1)
    by false = tt
address_ranges f (Service p) = tt

port_ranges : (q : ℕ) (item : Item) → AllByRecursion (λ r. IsRange top_port r) (ports_of q item)
port_ranges q (Name r) = tt
port_ranges q (Network p) = tt
port_ranges q (Service p) = by (q == p.proto)
  where
    by : (b : Bool) → AllByRecursion (λ r. IsRange top_port r) (cond b (up_to top_port p.low p.high) [])
    by true = one_range top_port p.low p.high
    by false = tt

held : (f : Item → List Range) (test : Item → Bool) (x : ℕ) → ((item : Item) → holds (f item) x ≡ test item) → (items : List Item)
    → holds (flat_map f items) x ≡ list_any test items
held f test x each [] = refl
held f test x each (item ∷ items) =
    list_any-append (λ r. inside r x) (f item) (flat_map f items)
    ∙ ap (λ t. t || holds (flat_map f items) x) (each item) ∙ ap (λ t. test item || t) (held f test x each items)

are_ranges : (top : ℕ) (f : Item → List Range) → ((item : Item) → AllByRecursion (λ r. IsRange top r) (f item)) → (items : List Item)
    → AllByRecursion (λ r. IsRange top r) (flat_map f items)
are_ranges top f each [] = tt
are_ranges top f each (item ∷ items) =
    all_append (λ r. IsRange top r) (f item) (flat_map f items) (each item) (are_ranges top f each items)

-- the set of the numbers of what is reached
reached : (top : ℕ) (f : Item → List Range) (has : ℕ → Item → Bool) (base : List Definition) (name : List ℕ)
    → ((item : Item) → AllByRecursion (λ r. IsRange top r) (f item)) → ((x : ℕ) → x ≤ top → (item : Item) → holds (f item) x ≡ has x item)
    → IsNormal 0 top (put_all (flat_map f (items_reached base name)) [])
    × ((x : ℕ) → x ≤ top → (holds (put_all (flat_map f (items_reached base name)) []) x ≡ true) ↔ Reaches base name (has x))
reached top f has base name ranges each =
    let items = items_reached base name in
    let fit = are_ranges top f ranges items in (
      put_all-normal top (flat_map f items) [] fit tt,
      λ x l.
          let e = put_all-holds top (flat_map f items) [] x fit tt ∙ held f (has x) x (each x l) items in
          let law = reach_computed base name (has x) in
          (λ h. law.0 (sym e ∙ h), λ r. e ∙ law.1 r),
    )

pub addresses_computed : AddressesAreComputed
unfolding addresses_reached
addresses_computed base f name = reached (top_address f) (addresses_of f) (holds_address f) base name (address_ranges f) (address_held f)

pub ports_computed : PortsAreComputed
unfolding ports_reached
ports_computed base q name = reached top_port (ports_of q) (holds_port q) base name (port_ranges q) (port_held q)

-- a set that holds what is reached is that one
same_bits : (a b : Bool) (P : Type 0) → (a ≡ true) ↔ P → (b ≡ true) ↔ P → a ≡ b
same_bits true b P h k = sym (k.1 (h.0 refl))
same_bits false true P h k = h.1 (k.0 refl)
same_bits false false P h k = refl

same_list : (top : ℕ) (rs qs : List Range) (P : ℕ → Type 0) → IsNormal 0 top rs → IsNormal 0 top qs → ((x : ℕ) → (holds rs x ≡ true) ↔ P x)
    → ((x : ℕ) → x ≤ top → (holds qs x ≡ true) ↔ P x) → rs ≡ qs
same_list top rs qs P n m h k = one_list 0 0 top rs qs n m (λ x. elim (cases_lt top x) [
  | inl l ↦ past_top 0 top rs x n l ∙ sym (past_top 0 top qs x m l)
  | inr l ↦ same_bits (holds rs x) (holds qs x) (P x) (h x) (k x l)
])

pub addresses_are : (base : List Definition) (f : Family) (name : List ℕ) (rs : List Range) → IsNormal 0 (top_address f) rs
    → ((x : ℕ) → (holds rs x ≡ true) ↔ ReachesAddress base name f x) → rs ≡ addresses_reached base f name
addresses_are base f name rs n h =
    let c = addresses_computed base f name in
    same_list (top_address f) rs (addresses_reached base f name) (ReachesAddress base name f) n c.0 h c.1

pub ports_are : (base : List Definition) (q : ℕ) (name : List ℕ) (rs : List Range) → IsNormal 0 top_port rs
    → ((x : ℕ) → (holds rs x ≡ true) ↔ ReachesPort base name q x) → rs ≡ ports_reached base q name
ports_are base q name rs n h =
    let c = ports_computed base q name in
    same_list top_port rs (ports_reached base q name) (ReachesPort base name q) n c.0 h c.1

-- ---- the sets that the calls make of what they gather

pub addresses_from : (base : List Definition) (f : Family) (name : List ℕ) (top : ℕ) (rs ss : List Range) → top ≡ top_address f → IsNormal 0 top ss
    → ((x : ℕ) → holds ss x ≡ holds rs x) → IsReach base name (Addresses f) rs → ss ≡ addresses_reached base f name
addresses_from base f name top rs ss e n h r =
    addresses_are base f name ss (subst (λ t. IsNormal 0 t ss) e n)
    (λ x. (λ t. (r.exact x).0 (sym (h x) ∙ t), λ w. h x ∙ (r.exact x).1 w))

pub ports_from : (base : List Definition) (q : ℕ) (name : List ℕ) (top : ℕ) (rs ss : List Range) → top ≡ top_port → IsNormal 0 top ss
    → ((x : ℕ) → holds ss x ≡ holds rs x) → IsReach base name (Ports q) rs → ss ≡ ports_reached base q name
ports_from base q name top rs ss e n h r =
    ports_are base q name ss (subst (λ t. IsNormal 0 t ss) e n)
    (λ x. (λ t. (r.exact x).0 (sym (h x) ∙ t), λ w. h x ∙ (r.exact x).1 w))

-- ranges that are not empty hold a number
pub some_held : (top : ℕ) (rs ss : List Range) → All (λ r. IsRange top r) rs → nat_lt 0 (length rs) ≡ true → ((x : ℕ) → holds ss x ≡ holds rs x) → ss ≢ []
some_held top [] ss fit some h = absurd cc
some_held top (r ∷ rs) ss fit some h = λ e.
    let first = All-head (λ q. IsRange top q) r rs fit in
    let here : inside r r.low ≡ true = in_range r.low r.high r.low (omega arith) first.0 in
    absurd (true≢false (sym (or_left (inside r r.low) (holds rs r.low) here) ∙ sym (h r.low) ∙ ap (λ t. holds t r.low) e))
