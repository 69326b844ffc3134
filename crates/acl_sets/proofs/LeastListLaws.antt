-- Laws of least lists: a least list holds exactly its set, no list of fewer prefixes does, a set has
-- one.
use Rattle.std.proofs.Common.{◌≡◌, ℕ, ◌+◌, ◌^◌, ◌<◌, ◌≤◌, Bool, true, false, List, [], ◌∷◌, inl, inr, refl, ap, sym, subst, ◌∙◌, arith}
use Rattle.std.proofs.lemmas.Bool.{cases_lt, or_from, false_from_ne_true}
use Rattle.std.proofs.lemmas.List.Elements.{All-contains, All-from_recursion, recursion_from_All}
use Rattle.std.specs.List.{All, AllByRecursion}
use Rattle.acl_packet.specs.declared.addresses.Family.{Family}
use Rattle.acl_packet.specs.declared.addresses.Prefix.{Prefix}
use Rattle.acl_packet.specs.Addresses.{width_of, has_address, IsPrefixOf}
use Rattle.acl_sets.specs.declared.sets.Range.{Range}
use Rattle.acl_sets.specs.Ranges.{holds, IsNormal}
use Rattle.acl_sets.specs.LeastLists.{IsAddressSet, IsMaximal, IsLeastList, IsFewest, LeastListHolds, LeastListIsFewest, OneLeastList}
use Rattle.acl_packet.specs.AddressLists.{any_has}
use Rattle.acl_sets.proofs.RangeLaws.{past_top}
use Rattle.acl_sets.proofs.BlockFacts.{bounds, within_space}
use Rattle.acl_sets.proofs.HalvedSets.{halved, halved-holds, halved-least, halved-fewest}
use Rattle.acl_sets.proofs.OrderedLists.{same_members}

-- A normal list up to the last address is a set of addresses

pub normal-addresses : (f : Family) (top : ℕ) (rs : List Range) → IsNormal 0 top rs
    → top + 1 ≡ 2 ^ width_of f
    → IsAddressSet f (λ a. holds rs a)
normal-addresses f top rs n e = λ a h. past_top 0 top rs a n (omega (arith, e, h))

-- The prefixes of a least list

maximal_forms : (f : Family) (set : ℕ → Bool) (ps : List Prefix)
    → AllByRecursion (λ p. IsMaximal f set p) ps
    → AllByRecursion (λ p. IsPrefixOf f p) ps
maximal_forms f set [] h = tt
maximal_forms f set (p ∷ ps) h = (h.0.form, maximal_forms f set ps h.1)

pub least_list-prefixes : (f : Family) (set : ℕ → Bool) (ps : List Prefix) → IsLeastList f set ps
    → All (λ p. IsPrefixOf f p) ps
least_list-prefixes f set ps h =
    All-from_recursion (λ (p : Prefix). IsPrefixOf f p) ps
    (maximal_forms f set ps (recursion_from_All (λ (p : Prefix). IsMaximal f set p) ps h.maximal))

-- Two tests that agree on the addresses of the family tell one set

address_below : (f : Family) (p : Prefix) (a : ℕ) → IsPrefixOf f p → has_address p a ≡ true
    → a < 2 ^ width_of f
address_below f p a form i = let s = bounds p a i in omega (arith, s.1, within_space f p form)

maximal_same : (f : Family) (set other : ℕ → Bool)
    → ((a : ℕ) → a < 2 ^ width_of f → set a ≡ other a)
    → (p : Prefix) → IsMaximal f set p → IsMaximal f other p
maximal_same f set other same p m = record {
  form = m.form;
  lies = λ a i. sym (same a (address_below f p a m.form i)) ∙ m.lies a i;
  widest = λ q form e i l. m.widest q form e i (λ a j. same a (address_below f q a form j) ∙ l a j);
}

pub one_least_list : OneLeastList
one_least_list f set other ps qs same h k =
    let P : Prefix → Type 0 = λ p. IsMaximal f set p in
    let Q : Prefix → Type 0 = λ p. IsMaximal f other p in
    same_members 0 0 ps qs h.in_order k.in_order
    (λ p c. k.complete p (maximal_same f set other same p (All-contains P ps p h.maximal c)))
    (λ p c. h.complete p (maximal_same f other set (λ a l. sym (same a l)) p
    (All-contains Q qs p k.maximal c)))

least_halved : (f : Family) (set : ℕ → Bool) (ps : List Prefix) → IsLeastList f set ps
    → ps ≡ halved f set (width_of f) 0
least_halved f set ps h =
    one_least_list f set set ps (halved f set (width_of f) 0) (λ a l. refl) h (halved-least f set)

-- What a least list holds

pub least_list-holds_below : (f : Family) (set : ℕ → Bool) (ps : List Prefix) → IsLeastList f set ps
    → (a : ℕ) → a < 2 ^ width_of f → any_has ps a ≡ set a
least_list-holds_below f set ps h a l =
    ap (λ (z : List Prefix). any_has z a) (least_halved f set ps h) ∙ halved-holds f set a l

none_above : (f : Family) (ps : List Prefix) (a : ℕ) → AllByRecursion (λ p. IsPrefixOf f p) ps
    → 2 ^ width_of f ≤ a
    → any_has ps a ≡ false
none_above f [] a h l = refl
none_above f (p ∷ ps) a h l =
    or_from (has_address p a) (any_has ps a)
    (false_from_ne_true (has_address p a) (λ i. let s = address_below f p a h.0 i in absurd
    (omega (arith, s, l))))
    (none_above f ps a h.1 l)

pub least_list-holds : LeastListHolds
least_list-holds f set ps addresses h a = elim (cases_lt a (2 ^ width_of f)) [
  | inl l ↦ least_list-holds_below f set ps h a l
  | inr l ↦
      let forms = recursion_from_All (λ (p : Prefix). IsPrefixOf f p) ps
      (least_list-prefixes f set ps h) in
      none_above f ps a forms l ∙ sym (addresses a l)
]

pub least_list-fewest : LeastListIsFewest
least_list-fewest f set ps h =
    let P : List Prefix → Type 0 = λ z. IsFewest f set z in
    subst P (sym (least_halved f set ps h)) (halved-fewest f set)
