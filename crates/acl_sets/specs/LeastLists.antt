-- The least list of prefixes of a set of addresses: all of its maximal prefixes, in order of
-- address. Prefixes are those of RFC 4632 section 3.1 and RFC 4291 section 2.3. A set is told by
-- its membership, a test on numbers, so that a list of ranges and a list of prefixes each give one.
use Rattle.std.specs.Prelude.{ℕ, ◌≡◌, ◌+◌, ◌^◌, ◌<◌, ◌≤◌, Bool, false, IsTrue, List, [], ◌∷◌, length, Contains}
use Rattle.std.specs.List.{All}
use Rattle.acl_packet.specs.declared.addresses.Family.{Family}
use Rattle.acl_packet.specs.declared.addresses.Prefix.{Prefix}
use Rattle.acl_packet.specs.AddressLists.{any_has}
use Rattle.acl_packet.specs.Addresses.{IsPrefixOf, has_address, size_of, width_of}

-- A set of addresses of a family has no number behind the last address.
abbrev pub IsAddressSet : Family → (ℕ → Bool) → Type 0
IsAddressSet f set = (a : ℕ) → 2 ^ width_of f ≤ a → set a ≡ false

-- All addresses of a prefix are in the set.
abbrev pub LiesIn : (ℕ → Bool) → Prefix → Type 0
LiesIn set p = (a : ℕ) → IsTrue (has_address p a) → IsTrue (set a)

-- A prefix is maximal in a set: its addresses are in the set, and those of the prefix one bit
-- shorter are not all. A prefix of length 0 has no shorter one.
pub record IsMaximal (f : Family) (set : ℕ → Bool) (p : Prefix) : Type 0 where
  pub form : IsPrefixOf f p
  pub lies : LiesIn set p
  pub widest : (q : Prefix) → IsPrefixOf f q → q.len + 1 ≡ p.len → IsTrue (has_address q p.first)
      → LiesIn set q → ⊥

-- In order of address, from a floor on: each prefix begins behind the end of the one before.
abbrev pub IsInOrder : ℕ → List Prefix → Type 0
IsInOrder floor [] = Unit {0}
IsInOrder floor (p ∷ ps) = (floor ≤ p.first) × IsInOrder (p.first + size_of p) ps

-- The list of all maximal prefixes of a set, each once, in order of address.
pub record IsLeastList (f : Family) (set : ℕ → Bool) (ps : List Prefix) : Type 0 where
  pub maximal : All (λ p. IsMaximal f set p) ps
  pub complete : (p : Prefix) → IsMaximal f set p → Contains ps p
  pub in_order : IsInOrder 0 ps

-- No list of prefixes of the family that holds exactly the addresses of the set is shorter.
abbrev pub IsFewest : Family → (ℕ → Bool) → List Prefix → Type 0
IsFewest f set ps = (qs : List Prefix) → All (λ q. IsPrefixOf f q) qs
    → ((a : ℕ) → any_has qs a ≡ set a) → length ps ≤ length qs

-- A least list holds exactly its set.
abbrev pub LeastListHolds : Type 0
LeastListHolds = (f : Family) (set : ℕ → Bool) (ps : List Prefix) → IsAddressSet f set
    → IsLeastList f set ps → (a : ℕ) → any_has ps a ≡ set a

-- No list of fewer prefixes holds exactly the set of a least list.
abbrev pub LeastListIsFewest : Type 0
LeastListIsFewest = (f : Family) (set : ℕ → Bool) (ps : List Prefix)
    → IsLeastList f set ps → IsFewest f set ps

-- A set has one least list: two tests that agree on each address of the family tell one set.
abbrev pub OneLeastList : Type 0
OneLeastList = (f : Family) (set other : ℕ → Bool) (ps qs : List Prefix)
    → ((a : ℕ) → a < 2 ^ width_of f → set a ≡ other a)
    → IsLeastList f set ps → IsLeastList f other qs → ps ≡ qs
