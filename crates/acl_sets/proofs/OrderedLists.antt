-- Two lists in order of address with the same members are one.
use Rattle.std.proofs.Common.{◌≡◌, ℕ, zero, suc, ◌+◌, ◌-◌, ◌<◌, ◌≤◌, ◌⊎◌, List, [], ◌∷◌, Contains, inl, inr, refl, ap, sym, ◌∙◌, arith}
use Rattle.std.proofs.lemmas.Nat.{pow_pos}
use Rattle.acl_packet.specs.declared.addresses.Prefix.{Prefix}
use Rattle.acl_packet.specs.Addresses.{width_of, size_of}
use Rattle.acl_sets.specs.LeastLists.{IsInOrder}

member_cases : (q : Prefix) (qs : List Prefix) (p : Prefix) → Contains (q ∷ qs) p
    → (q ≡ p) ⊎ Contains qs p
member_cases q qs p (zero, l, e) = inl e
member_cases q qs p (suc k, l, e) = inr (k, omega arith, e)

member_head : (p : Prefix) (ps : List Prefix) → Contains (p ∷ ps) p
member_head p ps = (0, omega arith, refl)

pub member_tail : (q : Prefix) (qs : List Prefix) (p : Prefix) → Contains qs p → Contains (q ∷ qs) p
member_tail q qs p h = (suc h.0, omega (arith, h.1), h.2)

no_member : (p : Prefix) → Contains [] p → ⊥
no_member p h = omega (arith, h.1)

behind : (floor : ℕ) (ps : List Prefix) (p : Prefix) → IsInOrder floor ps → Contains ps p
    → floor ≤ p.first
behind floor [] p h c = absurd (no_member p c)
behind floor (q ∷ qs) p h c = elim (member_cases q qs p c) [
  | inl e ↦ let f = ap (λ (z : Prefix). z.first) e in omega (arith, f, h.0)
  | inr k ↦ let i = behind (q.first + size_of q) qs p h.1 k in omega (arith, i, h.0)
]

size_pos : (p : Prefix) → 0 < size_of p
size_pos p = pow_pos (width_of p.family - p.len)

heads : (f g : ℕ) (p q : Prefix) (ps qs : List Prefix) → IsInOrder f (p ∷ ps) → IsInOrder g (q ∷ qs)
    → Contains (q ∷ qs) p → Contains (p ∷ ps) q → p ≡ q
heads f g p q ps qs h k c d = elim (member_cases q qs p c) [
  | inl e ↦ sym e
  | inr i ↦ elim (member_cases p ps q d) [
    | inl e ↦ e
    | inr j ↦
        let a = behind (q.first + size_of q) qs p k.1 i in
        let b = behind (p.first + size_of p) ps q h.1 j in
        absurd (omega (arith, a, b, size_pos p))
  ]
]

-- a member of the rest is a member of the other rest
rest_member : (f : ℕ) (p q : Prefix) (ps qs : List Prefix) (r : Prefix) → IsInOrder f (p ∷ ps)
    → p ≡ q → Contains (q ∷ qs) r → Contains ps r → Contains qs r
rest_member f p q ps qs r h e c d = elim (member_cases q qs r c) [
  | inl i ↦
      let a = behind (p.first + size_of p) ps r h.1 d in
      let b = ap (λ (z : Prefix). z.first) (e ∙ i) in
      absurd (omega (arith, a, b, size_pos p))
  | inr i ↦ i
]

pub same_members : (f g : ℕ) (ps qs : List Prefix) → IsInOrder f ps → IsInOrder g qs
    → ((p : Prefix) → Contains ps p → Contains qs p)
    → ((p : Prefix) → Contains qs p → Contains ps p) → ps ≡ qs
same_members f g [] [] h k to back = refl
same_members f g [] (q ∷ qs) h k to back = absurd (no_member q (back q (member_head q qs)))
same_members f g (p ∷ ps) [] h k to back = absurd (no_member p (to p (member_head p ps)))
same_members f g (p ∷ ps) (q ∷ qs) h k to back =
    let e : p ≡ q = heads f g p q ps qs h k (to p (member_head p ps)) (back q (member_head q qs)) in
    let rest : ps ≡ qs = same_members (p.first + size_of p) (q.first + size_of q) ps qs h.1 k.1
    (λ r c. rest_member f p q ps qs r h e (to r (member_tail p ps r c)) c)
    (λ r c. rest_member g q p qs ps r k (sym e) (back r (member_tail q qs r c)) c) in
    ap (λ (z : Prefix). z ∷ ps) e ∙ ap (λ (z : List Prefix). q ∷ z) rest
