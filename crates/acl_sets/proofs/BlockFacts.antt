-- Blocks of addresses as prefixes, and what is known of a block that the search for maximal prefixes
-- comes to.
use Rattle.std.proofs.Common.{◌≡◌, ℕ, suc, ◌+◌, ◌-◌, ◌*◌, ◌^◌, ◌<◌, ◌≤◌, Bool, true, nat_le, nat_lt, inl, inr, refl, ap, sym, subst, ◌∙◌, arith}
use Rattle.std.proofs.Math.Nat.{two-pow-succ}
use Rattle.std.proofs.lemmas.Nat.{pow_pos}
use Rattle.std.proofs.lemmas.Bool.{le-leb, lt-ltb, leb-true, ltb-true, and_from, and_parts, cases_eq}
use Rattle.acl_packet.specs.declared.addresses.Family.{Family}
use Rattle.acl_packet.specs.declared.addresses.Prefix.{Prefix}
use Rattle.acl_packet.specs.Addresses.{width_of, size_of, has_address, IsPrefixOf}
use Rattle.acl_sets.specs.LeastLists.{LiesIn, IsMaximal}
use Rattle.acl_sets.specs.ComputableLeastLists.{block}
use Rattle.acl_packet.proofs.PrefixLaws.{end_fits}
use Rattle.acl_sets.proofs.Powers.{Aligned, nested, same_block, left_aligned, right_aligned}

-- the bits behind a prefix's length
abbrev pub free_of : Prefix → ℕ
free_of p = width_of p.family - p.len

abbrev pub LiesBlock : (ℕ → Bool) → ℕ → ℕ → Type 0
LiesBlock set a size = (x : ℕ) → a ≤ x → x < a + size → set x ≡ true

pub has : (p : Prefix) (x : ℕ) → p.first ≤ x → x < p.first + size_of p → has_address p x ≡ true
has p x h l =
    and_from (nat_le p.first x) (nat_lt x (p.first + size_of p)) (le-leb p.first x h)
    (lt-ltb x (p.first + size_of p) l)

pub bounds : (p : Prefix) (x : ℕ) → has_address p x ≡ true
    → (p.first ≤ x) × (x < p.first + size_of p)
bounds p x h =
    let e = and_parts (nat_le p.first x) (nat_lt x (p.first + size_of p)) h in
    (leb-true p.first x e.0, ltb-true x (p.first + size_of p) e.1)

pub lies_block : (set : ℕ → Bool) (p : Prefix) → LiesIn set p → LiesBlock set p.first (size_of p)
lies_block set p h = λ x k l. h x (has p x k l)

pub free-le : (f : Family) (p : Prefix) → IsPrefixOf f p → free_of p ≤ width_of f
free-le f p h = let e = ap width_of h.0 in omega (arith, e)

-- a block that is looked at: no larger block with its first address lies in the set
pub record At (f : Family) (set : ℕ → Bool) (k a : ℕ) : Type 0 where
  pub fits : k ≤ width_of f
  pub ends : a + 2 ^ k ≤ 2 ^ width_of f
  pub aligned : Aligned k a
  pub upper : (j b : ℕ) → k < j → j ≤ width_of f → Aligned j b → b ≤ a → a < b + 2 ^ j
      → LiesBlock set b (2 ^ j) → ⊥

-- the addresses of a prefix of the family are addresses of it
pub within_space : (f : Family) (p : Prefix) → IsPrefixOf f p → p.first + size_of p ≤ 2 ^ width_of f
within_space f p h =
    let P : Family → Type 0 = λ g. p.first + size_of p ≤ 2 ^ width_of g in
    subst P h.0 (end_fits p h.1)

pub upper_prefix : (f : Family) (set : ℕ → Bool) (k a : ℕ) (q : Prefix) → At f set k a
    → IsPrefixOf f q → k < free_of q → q.first ≤ a → a < q.first + size_of q → LiesIn set q → ⊥
upper_prefix f set k a q t i l p r h =
    t.upper (free_of q) q.first l (free-le f q i) i.1.aligned p r (lies_block set q h)

pub left_at : (f : Family) (set : ℕ → Bool) (k a : ℕ) → At f set (suc k) a
    → (LiesBlock set a (2 ^ suc k) → ⊥) → At f set k a
left_at f set k a t outside = record {
  fits = omega (arith, t.fits);
  ends = omega (arith, t.ends, two-pow-succ k);
  aligned = left_aligned k a t.aligned;
  upper = λ j b l m i p q h. elim (cases_eq j (suc k)) [
    | inl e ↦
        let P : ℕ → Type 0 = λ z. Aligned z b × (a < b + 2 ^ z) × LiesBlock set b (2 ^ z) in
        let g : Aligned (suc k) b × (a < b + 2 ^ suc k) × LiesBlock set b (2 ^ suc k) = subst P e
        (i, q, h) in
        let s : b ≡ a = same_block (suc k) b a a g.0 t.aligned p g.1 (omega arith)
        (omega (arith, pow_pos (suc k))) in
        let Q : ℕ → Type 0 = λ z. LiesBlock set z (2 ^ suc k) in
        outside (subst Q s g.2)
    | inr n ↦ t.upper j b (omega arith) m i p q h
  ];
}

pub right_at : (f : Family) (set : ℕ → Bool) (k a : ℕ) → At f set (suc k) a
    → (LiesBlock set a (2 ^ suc k) → ⊥) → At f set k (a + 2 ^ k)
right_at f set k a t outside = record {
  fits = omega (arith, t.fits);
  ends = omega (arith, t.ends, two-pow-succ k);
  aligned = right_aligned k a t.aligned;
  upper = λ j b l m i p q h.
      let up = nested (suc k) j a b (a + 2 ^ k) (omega arith) t.aligned i (omega arith)
      (omega (arith, two-pow-succ k, pow_pos k)) p q in
      elim (cases_eq j (suc k)) [
        | inl e ↦
            let P : ℕ → Type 0 = λ z. Aligned z b × (a + 2 ^ k < b + 2 ^ z) × LiesBlock set b
            (2 ^ z) in
            let g : Aligned (suc k) b × (a + 2 ^ k < b + 2 ^ suc k) × LiesBlock set b (2 ^ suc k) =
            subst P e (i, q, h) in
            let s : b ≡ a = same_block (suc k) b a (a + 2 ^ k) g.0 t.aligned p g.1 (omega arith)
            (omega (arith, two-pow-succ k, pow_pos k)) in
            let Q : ℕ → Type 0 = λ z. LiesBlock set z (2 ^ suc k) in
            outside (subst Q s g.2)
        | inr n ↦ t.upper j b (omega arith) m i (omega (arith, up.0))
            (omega (arith, up.1, pow_pos (suc k))) h
      ];
}

-- the whole space
pub whole_at : (f : Family) (set : ℕ → Bool) → At f set (width_of f) 0
whole_at f set = record {
  fits = omega arith;
  ends = omega arith;
  aligned = (0, omega arith);
  upper = λ j b l m i p q h. omega arith;
}

-- a block as a prefix
pub block_free : (f : Family) (k a : ℕ) → k ≤ width_of f → free_of (block f k a) ≡ k
block_free f k a h = omega arith

pub block_size : (f : Family) (k a : ℕ) → k ≤ width_of f → size_of (block f k a) ≡ 2 ^ k
block_size f k a h = ap (λ z. 2 ^ z) (block_free f k a h)

-- a multiple of a block's size begins a prefix
pub form_of : (f : Family) (k a : ℕ) → k ≤ width_of f → a < 2 ^ width_of f → Aligned k a
    → IsPrefixOf f (block f k a)
form_of f k a l m i =
    let size : 2 ^ (width_of f - (width_of f - k)) ≡ 2 ^ k = block_size f k a l in (
      refl,
      record {
        len_fits = omega arith;
        first_fits = m;
        aligned = (i.0, i.1 ∙ ap (λ z. i.0 * z) (sym size));
      },
    )

pub block_form : (f : Family) (set : ℕ → Bool) (k a : ℕ) → At f set k a → IsPrefixOf f (block f k a)
block_form f set k a t = form_of f k a t.fits (omega (arith, t.ends, pow_pos k)) t.aligned

pub block_lies : (f : Family) (set : ℕ → Bool) (k a : ℕ) → k ≤ width_of f → LiesBlock set a (2 ^ k)
    → LiesIn set (block f k a)
block_lies f set k a l h = λ x i.
    let e = bounds (block f k a) x i in
    let size : 2 ^ (width_of f - (width_of f - k)) ≡ 2 ^ k = block_size f k a l in
    h x e.0 (omega (arith, e.1, size))

pub block_maximal : (f : Family) (set : ℕ → Bool) (k a : ℕ) → At f set k a → LiesBlock set a (2 ^ k)
    → IsMaximal f set (block f k a)
block_maximal f set k a t h = record {
  form = block_form f set k a t;
  lies = block_lies f set k a t.fits h;
  widest = λ q i e p l.
      let w = ap width_of i.0 in
      let s = bounds q a p in
      upper_prefix f set k a q t i (omega (arith, w, e, t.fits)) s.0 s.1 l;
}

-- two prefixes with the same fields are one
pub same_prefix : (p q : Prefix) → p.family ≡ q.family → p.first ≡ q.first → p.len ≡ q.len → p ≡ q
same_prefix p q e f g =
    let a = ap (λ z. record { family = z; first = p.first; len = p.len }) e in
    let b = ap (λ z. record { family = q.family; first = z; len = p.len }) f in
    let c = ap (λ z. record { family = q.family; first = q.first; len = z }) g in
    a ∙ b ∙ c
