-- The list that halving gives of any set of addresses, told by its test: it holds the set's
-- addresses, is the least list, and no list with the same addresses is shorter.
use Rattle.std.proofs.Common.{◌≡◌, ℕ, zero, suc, ◌+◌, ◌-◌, ◌*◌, ◌/◌, ◌%◌, ◌^◌, ◌<◌, ◌≤◌, Bool, true, false, ◌&&◌, ◌||◌, nat_le, nat_lt, if◌then◌else◌, List, [], ◌∷◌, ◌++◌, length, Contains, inl, inr, refl, ap, sym, subst, ◌∙◌, arith}
use Rattle.std.proofs.Math.Nat.{two-pow-succ, mul-le-mul_right, add-mul}
use Rattle.std.proofs.lemmas.Nat.{pow_pos, div-add-mod', mod_below}
use Rattle.std.proofs.lemmas.List.{length-append}
use Rattle.std.proofs.lemmas.List.Elements.{Contains-append_left, Contains-append_right, All-from_recursion, recursion_from_All}
use Rattle.std.proofs.lemmas.List.Folds.{list_any-append}
use Rattle.std.proofs.lemmas.Bool.{cases_Bool, false_from_ne_true, cases_lt, cases_order, le-leb, lt-ltb, leb-true, ltb-true, and_from, and_parts, or_cases, or_left, or_right, both_ways, cond-true}
use Rattle.std.proofs.lemmas.Bool.Decides.{nat_tests}
use Rattle.std.specs.List.{AllByRecursion}
use Rattle.acl_packet.specs.declared.addresses.Family.{Family}
use Rattle.acl_packet.specs.declared.addresses.Prefix.{Prefix}
use Rattle.acl_packet.specs.Addresses.{width_of, size_of, has_address, IsPrefixOf}
use Rattle.acl_text.proofs.ListLaws.{all_append}
use Rattle.acl_sets.specs.LeastLists.{LiesIn, IsMaximal, IsInOrder, IsLeastList, IsFewest}
use Rattle.acl_packet.specs.AddressLists.{any_has}
use Rattle.acl_sets.specs.ComputableLeastLists.{block}
use Rattle.acl_sets.proofs.SetFacts.{and_out}
use Rattle.acl_sets.proofs.Powers.{Aligned, nested, same_block}
use Rattle.acl_sets.proofs.BlockFacts.{free_of, LiesBlock, has, bounds, At, upper_prefix, left_at, right_at, whole_at, block_size, form_of, block_lies, block_maximal, same_prefix}

-- The list

-- all numbers of a block are in the set
pub all_in : (ℕ → Bool) → ℕ → ℕ → Bool
all_in set zero a = set a
all_in set (suc k) a = all_in set k a && all_in set k (a + 2 ^ k)

pub halved : Family → (ℕ → Bool) → ℕ → ℕ → List Prefix
halved f set zero a = if all_in set zero a then block f zero a ∷ [] else []
halved f set (suc k) a =
    if all_in set (suc k) a then block f (suc k) a ∷ [] else halved f set k a ++ halved f set k
    (a + 2 ^ k)

pub all_in-lies : (set : ℕ → Bool) (k a : ℕ) → all_in set k a ≡ true → LiesBlock set a (2 ^ k)
unfolding all_in
all_in-lies set zero a e = λ x h l. let s : x ≡ a = omega arith in ap set s ∙ e
all_in-lies set (suc k) a e = λ x h l.
    let p = and_parts (all_in set k a) (all_in set k (a + 2 ^ k)) e in
    elim (cases_lt x (a + 2 ^ k)) [
      | inl i ↦ all_in-lies set k a p.0 x h i
      | inr i ↦ all_in-lies set k (a + 2 ^ k) p.1 x i (omega (arith, l, two-pow-succ k))
    ]

pub lies-all_in : (set : ℕ → Bool) (k a : ℕ) → LiesBlock set a (2 ^ k) → all_in set k a ≡ true
unfolding all_in
lies-all_in set zero a h = h a (omega arith) (omega arith)
lies-all_in set (suc k) a h =
    and_from (all_in set k a) (all_in set k (a + 2 ^ k))
    (lies-all_in set k a (λ x i l. h x i (omega (arith, l, two-pow-succ k))))
    (lies-all_in set k (a + 2 ^ k) (λ x i l. h x (omega (arith, i))
    (omega (arith, l, two-pow-succ k))))

pub not_all_in : (set : ℕ → Bool) (k a : ℕ) → (LiesBlock set a (2 ^ k) → ⊥) → all_in set k a ≡ false
not_all_in set k a h = false_from_ne_true (all_in set k a) (λ e. h (all_in-lies set k a e))

-- what halving gives for a block
data Found (f : Family) (set : ℕ → Bool) (k a : ℕ) (ps left right : List Prefix) : Type 0 where
  Whole : LiesBlock set a (2 ^ k) → ps ≡ block f k a ∷ [] → Found f set k a ps left right
  Nothing : ((x : ℕ) → a ≤ x → x < a + 2 ^ k → set x ≡ false) → ps ≡ []
      → Found f set k a ps left right
  Halved : (LiesBlock set a (2 ^ k) → ⊥) → 0 < k → ps ≡ left ++ right
      → Found f set k a ps left right

found_zero : (f : Family) (set : ℕ → Bool) (a : ℕ) → Found f set zero a (halved f set zero a) [] []
unfolding halved all_in
found_zero f set a = elim (cases_Bool (set a)) [
  | inl e ↦ Whole (all_in-lies set zero a e) (rw e refl)
  | inr e ↦ Nothing (λ x h l. let s : x ≡ a = omega arith in ap set s ∙ e) (rw e refl)
]

found_suc : (f : Family) (set : ℕ → Bool) (k a : ℕ)
    → Found f set (suc k) a (halved f set (suc k) a) (halved f set k a) (halved f set k (a + 2 ^ k))
unfolding halved
found_suc f set k a = elim (cases_Bool (all_in set (suc k) a)) [
  | inl e ↦ Whole (all_in-lies set (suc k) a e) (rw e refl)
  | inr e ↦ Halved (λ h. both_ways (all_in set (suc k) a) e (lies-all_in set (suc k) a h))
      (omega arith) (rw e refl)
]

-- what is given of a block, by the parts of it
pub halved-whole : (f : Family) (set : ℕ → Bool) (k a : ℕ) → LiesBlock set a (2 ^ k)
    → halved f set k a ≡ block f k a ∷ []
unfolding halved
halved-whole f set zero a h = rw (lies-all_in set zero a h) refl
halved-whole f set (suc k) a h = rw (lies-all_in set (suc k) a h) refl

pub halved-split : (f : Family) (set : ℕ → Bool) (k a : ℕ) → (LiesBlock set a (2 ^ suc k) → ⊥)
    → halved f set (suc k) a ≡ halved f set k a ++ halved f set k (a + 2 ^ k)
unfolding halved
halved-split f set k a h = rw (not_all_in set (suc k) a h) refl

pub halved-none : (f : Family) (set : ℕ → Bool) (k a : ℕ)
    → ((x : ℕ) → a ≤ x → x < a + 2 ^ k → set x ≡ false) → halved f set k a ≡ []
unfolding halved
halved-none f set zero a h =
    rw (not_all_in set zero a (λ i. both_ways (set a) (h a (omega arith) (omega arith))
    (i a (omega arith) (omega arith)))) refl
halved-none f set (suc k) a h =
    let in_first : a < a + 2 ^ suc k = omega (arith, pow_pos (suc k)) in
    halved-split f set k a (λ i. both_ways (set a) (h a (omega arith) in_first)
    (i a (omega arith) in_first))
    ∙ ap (λ (z : List Prefix). z ++ halved f set k (a + 2 ^ k))
    (halved-none f set k a (λ x i l. h x i (omega (arith, l, two-pow-succ k))))
    ∙ halved-none f set k (a + 2 ^ k) (λ x i l. h x (omega (arith, i))
    (omega (arith, l, two-pow-succ k)))

-- Addresses

abbrev in_block : ℕ → ℕ → ℕ → Bool
in_block a size x = nat_le a x && nat_lt x (a + size)

in_bounds : (a s x : ℕ) → in_block a s x ≡ true → (a ≤ x) × (x < a + s)
in_bounds a s x h =
    let e = and_parts (nat_le a x) (nat_lt x (a + s)) h in
    (leb-true a x e.0, ltb-true x (a + s) e.1)

whole-any : (i h : Bool) → (i ≡ true → h ≡ true) → (i || false) ≡ (i && h)
whole-any true h e = sym (e refl)
whole-any false h e = refl

none-any : (i h : Bool) → (i ≡ true → h ≡ false) → false ≡ (i && h)
none-any true h e = sym (e refl)
none-any false h e = refl

half-tests : (a s t x : ℕ) → t ≡ s + s
    → ((nat_le a x && nat_lt x (a + s)) || (nat_le (a + s) x && nat_lt x (a + s + s))) ≡
    (nat_le a x && nat_lt x (a + t))
half-tests a s t x e = grind (arith, nat_tests)

any_found : (f : Family) (set : ℕ → Bool) (k a : ℕ) (ps left right : List Prefix) (x : ℕ)
    → k ≤ width_of f → Found f set k a ps left right
    → (0 < k → any_has (left ++ right) x ≡ (in_block a (2 ^ k) x && set x))
    → any_has ps x ≡ (in_block a (2 ^ k) x && set x)
any_found f set k a ps left right x l (Whole h e) both =
    ap (λ z. any_has z x) e ∙ ap (λ z. in_block a z x || false) (block_size f k a l)
    ∙ whole-any (in_block a (2 ^ k) x) (set x) (λ i. let s = in_bounds a (2 ^ k) x i in h x s.0 s.1)
any_found f set k a ps left right x l (Nothing h e) both =
    ap (λ z. any_has z x) e ∙ none-any (in_block a (2 ^ k) x) (set x)
    (λ i. let s = in_bounds a (2 ^ k) x i in h x s.0 s.1)
any_found f set k a ps left right x l (Halved h p e) both = ap (λ z. any_has z x) e ∙ both p

any_halved : (f : Family) (set : ℕ → Bool) (k a x : ℕ) → k ≤ width_of f
    → any_has (halved f set k a) x ≡ (in_block a (2 ^ k) x && set x)
any_halved f set zero a x l =
    any_found f set zero a (halved f set zero a) [] [] x l (found_zero f set a)
    (λ p. absurd (omega arith))
any_halved f set (suc k) a x l =
    any_found f set (suc k) a (halved f set (suc k) a) (halved f set k a)
    (halved f set k (a + 2 ^ k)) x l (found_suc f set k a)
    (λ p. list_any-append (λ (q : Prefix). has_address q x) (halved f set k a)
    (halved f set k (a + 2 ^ k))
    ∙ ap (λ z. z || any_has (halved f set k (a + 2 ^ k)) x) (any_halved f set k a x (omega arith))
    ∙ ap (λ z. (in_block a (2 ^ k) x && set x) || z) (any_halved f set k (a + 2 ^ k) x
    (omega arith))
    ∙ and_out (in_block a (2 ^ k) x) (in_block (a + 2 ^ k) (2 ^ k) x) (set x)
    ∙ ap (λ z. z && set x) (half-tests a (2 ^ k) (2 ^ suc k) x (two-pow-succ k)))

pub halved-holds : (f : Family) (set : ℕ → Bool) (x : ℕ) → x < 2 ^ width_of f
    → any_has (halved f set (width_of f) 0) x ≡ set x
halved-holds f set x l =
    any_halved f set (width_of f) 0 x (omega arith)
    ∙ ap (λ z. z && set x) (and_from (nat_le 0 x) (nat_lt x (0 + 2 ^ width_of f))
    (le-leb 0 x (omega arith)) (lt-ltb x (0 + 2 ^ width_of f) (omega arith)))

-- Each prefix is maximal

abbrev AllMaximal : Family → (ℕ → Bool) → List Prefix → Type 0
AllMaximal f set ps = AllByRecursion (λ p. IsMaximal f set p) ps

maximal_found : (f : Family) (set : ℕ → Bool) (k a : ℕ) (ps left right : List Prefix) → At f set k a
    → Found f set k a ps left right
    → (0 < k → (LiesBlock set a (2 ^ k) → ⊥) → AllMaximal f set (left ++ right))
    → AllMaximal f set ps
maximal_found f set k a ps left right t (Whole h e) both =
    let P : List Prefix → Type 0 = λ z. AllMaximal f set z in subst P (sym e)
    (block_maximal f set k a t h, tt)
maximal_found f set k a ps left right t (Nothing h e) both =
    let P : List Prefix → Type 0 = λ z. AllMaximal f set z in subst P (sym e) tt
maximal_found f set k a ps left right t (Halved h p e) both =
    let P : List Prefix → Type 0 = λ z. AllMaximal f set z in subst P (sym e) (both p h)

maximal_halved : (f : Family) (set : ℕ → Bool) (k a : ℕ) → At f set k a
    → AllMaximal f set (halved f set k a)
maximal_halved f set zero a t =
    maximal_found f set zero a (halved f set zero a) [] [] t (found_zero f set a)
    (λ p h. absurd (omega arith))
maximal_halved f set (suc k) a t =
    maximal_found f set (suc k) a (halved f set (suc k) a) (halved f set k a)
    (halved f set k (a + 2 ^ k)) t (found_suc f set k a)
    (λ p h. all_append (λ z. IsMaximal f set z) (halved f set k a) (halved f set k (a + 2 ^ k))
    (maximal_halved f set k a (left_at f set k a t h)) (maximal_halved f set k (a + 2 ^ k)
    (right_at f set k a t h)))

-- In order of address

IsWithin : ℕ → ℕ → List Prefix → Type 0
IsWithin floor end [] = floor ≤ end
IsWithin floor end (p ∷ ps) = (floor ≤ p.first) × IsWithin (p.first + size_of p) end ps

within_lower : (f g e : ℕ) (ps : List Prefix) → f ≤ g → IsWithin g e ps → IsWithin f e ps
unfolding IsWithin
within_lower f g e [] l h = omega arith
within_lower f g e (p ∷ ps) l h = (omega arith, h.1)

within_append : (f e g : ℕ) (ps qs : List Prefix) → IsWithin f e ps → IsWithin e g qs
    → IsWithin f g (ps ++ qs)
unfolding IsWithin
within_append f e g [] qs h k = within_lower f e g qs h k
within_append f e g (p ∷ ps) qs h k = (h.0, within_append (p.first + size_of p) e g ps qs h.1 k)

within_order : (f e : ℕ) (ps : List Prefix) → IsWithin f e ps → IsInOrder f ps
unfolding IsWithin
within_order f e [] h = tt
within_order f e (p ∷ ps) h = (h.0, within_order (p.first + size_of p) e ps h.1)

within_found : (f : Family) (set : ℕ → Bool) (k a : ℕ) (ps left right : List Prefix)
    → k ≤ width_of f → Found f set k a ps left right
    → (0 < k → IsWithin a (a + 2 ^ k) (left ++ right)) → IsWithin a (a + 2 ^ k) ps
unfolding IsWithin
within_found f set k a ps left right l (Whole h e) both =
    let P : List Prefix → Type 0 = λ z. IsWithin a (a + 2 ^ k) z in
    let size : 2 ^ (width_of f - (width_of f - k)) ≡ 2 ^ k = block_size f k a l in
    subst P (sym e) (omega arith, omega (arith, size))
within_found f set k a ps left right l (Nothing h e) both =
    let P : List Prefix → Type 0 = λ z. IsWithin a (a + 2 ^ k) z in subst P (sym e) (omega arith)
within_found f set k a ps left right l (Halved h p e) both =
    let P : List Prefix → Type 0 = λ z. IsWithin a (a + 2 ^ k) z in subst P (sym e) (both p)

within_halved : (f : Family) (set : ℕ → Bool) (k a : ℕ) → k ≤ width_of f
    → IsWithin a (a + 2 ^ k) (halved f set k a)
within_halved f set zero a l =
    within_found f set zero a (halved f set zero a) [] [] l (found_zero f set a)
    (λ p. absurd (omega arith))
within_halved f set (suc k) a l =
    within_found f set (suc k) a (halved f set (suc k) a) (halved f set k a)
    (halved f set k (a + 2 ^ k)) l (found_suc f set k a)
    (λ p.
    let e : a + 2 ^ k + 2 ^ k ≡ a + 2 ^ suc k = omega (arith, two-pow-succ k) in
    let P : ℕ → Type 0 = λ z. IsWithin a z (halved f set k a ++ halved f set k (a + 2 ^ k)) in
    subst P e (within_append a (a + 2 ^ k) (a + 2 ^ k + 2 ^ k) (halved f set k a)
    (halved f set k (a + 2 ^ k))
    (within_halved f set k a (omega arith)) (within_halved f set k (a + 2 ^ k) (omega arith))))

-- Each maximal prefix is there

-- a maximal prefix that begins in a block of the set is that block
add_times : (a b s n : ℕ) → a + b ≡ n → a * s + b * s ≡ n * s
add_times a b s n e = sym (add-mul a b s) ∙ ap (λ z. z * s) e

bit_times : (b s : ℕ) → b < 2 → 0 < s → b * s < s + s
bit_times b s h p = let m = mul-le-mul_right {m = b} {n = 1} s (omega arith) in omega (arith, m)

shorter : (f : Family) (set : ℕ → Bool) (k a : ℕ) (p : Prefix) → At f set k a
    → LiesBlock set a (2 ^ k) → IsMaximal f set p → a ≤ p.first → p.first < a + 2 ^ k
    → free_of p < k → ⊥
shorter f set k a p t h m l r s =
    let j = free_of p in
    let w = ap width_of m.form.0 in
    let n = m.form.1.aligned.0 in
    let half = n / 2 in
    let parity : half * 2 + n % 2 ≡ n = div-add-mod' n 2 in
    let odd : n % 2 < 2 = mod_below n 2 (omega arith) in
    let b = half * 2 ^ suc j in
    let double : b ≡ half * (2 ^ j + 2 ^ j) = ap (λ z. half * z) (two-pow-succ j) in
    let below : (half * 2) * 2 ^ j + (n % 2) * 2 ^ j ≡ n * 2 ^ j = add_times (half * 2) (n % 2)
    (2 ^ j) n parity in
    let one : (n % 2) * 2 ^ j < 2 ^ j + 2 ^ j = bit_times (n % 2) (2 ^ j) odd (pow_pos j) in
    let begins : b ≤ p.first = omega (arith, m.form.1.aligned.1, double, below) in
    let holds_it : p.first < b + 2 ^ suc j = omega (
      arith,
      m.form.1.aligned.1,
      double,
      below,
      one,
      two-pow-succ j,
    ) in
    let inner = nested (suc j) k b a p.first (omega arith)
    (half, refl) t.aligned begins holds_it l r in
    let q = block f (suc j) b in
    let size : size_of q ≡ 2 ^ suc j = block_size f (suc j) b (omega (arith, t.fits)) in
    let lies : LiesBlock set b (2 ^ suc j) = λ x i o. h x (omega (arith, inner.0))
    (omega (arith, inner.1)) in
    m.widest q (form_of f (suc j) b (omega (arith, t.fits)) (omega (arith, t.ends, begins, r))
    (half, refl)) (omega (arith, w, t.fits, m.form.1.len_fits))
    (has q p.first begins (omega (arith, size, holds_it)))
    (block_lies f set (suc j) b (omega (arith, t.fits)) lies)

pub maximal_same : (f : Family) (set : ℕ → Bool) (k a : ℕ) (p : Prefix) → At f set k a
    → LiesBlock set a (2 ^ k) → IsMaximal f set p → a ≤ p.first → p.first < a + 2 ^ k
    → block f k a ≡ p
maximal_same f set k a p t h m l r = elim (cases_order (free_of p) k) [
  | inl e ↦
      let w = ap width_of m.form.0 in
      let P : ℕ → Type 0 = λ z. Aligned z p.first in
      let i : Aligned k p.first = subst P e m.form.1.aligned in
      let s : a ≡ p.first = same_block k a p.first p.first t.aligned i l r (omega arith)
      (omega (arith, pow_pos k)) in
      same_prefix (block f k a) p (sym m.form.0) s (omega (arith, e, w, t.fits, m.form.1.len_fits))
  | inr o ↦ elim o [
    | inl small ↦ absurd (shorter f set k a p t h m l r small)
    | inr large ↦
        let i = nested k (free_of p) a p.first p.first (omega arith) t.aligned m.form.1.aligned l r
        (omega arith) (omega (arith, pow_pos (free_of p))) in
        absurd (upper_prefix f set k a p t m.form large (omega (arith, i.0))
        (omega (arith, i.1, pow_pos k)) m.lies)
  ]
]

complete_found : (f : Family) (set : ℕ → Bool) (k a : ℕ) (ps left right : List Prefix) (p : Prefix)
    → At f set k a → Found f set k a ps left right → IsMaximal f set p → a ≤ p.first
    → p.first < a + 2 ^ k
    → (0 < k → (LiesBlock set a (2 ^ k) → ⊥) → Contains (left ++ right) p) → Contains ps p
complete_found f set k a ps left right p t (Whole h e) m l r both =
    let P : List Prefix → Type 0 = λ z. Contains z p in
    subst P (sym e) (0, omega arith, maximal_same f set k a p t h m l r)
complete_found f set k a ps left right p t (Nothing h e) m l r both =
    absurd (both_ways (set p.first) (h p.first l r) (m.lies p.first
    (has p p.first (omega arith) (omega (arith, pow_pos (free_of p))))))
complete_found f set k a ps left right p t (Halved h i e) m l r both =
    let P : List Prefix → Type 0 = λ z. Contains z p in
    subst P (sym e) (both i h)

complete_halved : (f : Family) (set : ℕ → Bool) (k a : ℕ) (p : Prefix) → At f set k a
    → IsMaximal f set p → a ≤ p.first → p.first < a + 2 ^ k → Contains (halved f set k a) p
complete_halved f set zero a p t m l r =
    complete_found f set zero a (halved f set zero a) [] [] p t (found_zero f set a) m l r
    (λ i h. absurd (omega arith))
complete_halved f set (suc k) a p t m l r =
    complete_found f set (suc k) a (halved f set (suc k) a) (halved f set k a)
    (halved f set k (a + 2 ^ k)) p t (found_suc f set k a) m l r
    (λ i h. elim (cases_lt p.first (a + 2 ^ k)) [
      | inl s ↦ Contains-append_left (halved f set k a) (halved f set k (a + 2 ^ k)) p
          (complete_halved f set k a p (left_at f set k a t h) m l s)
      | inr s ↦ Contains-append_right (halved f set k a) (halved f set k (a + 2 ^ k)) p
          (complete_halved f set k (a + 2 ^ k) p (right_at f set k a t h) m s
          (omega (arith, r, two-pow-succ k)))
    ])

pub halved-least : (f : Family) (set : ℕ → Bool) → IsLeastList f set (halved f set (width_of f) 0)
halved-least f set = record {
  maximal = All-from_recursion (λ (p : Prefix). IsMaximal f set p) (halved f set (width_of f) 0)
      (maximal_halved f set (width_of f) 0 (whole_at f set));
  complete = λ p m.
      let e = ap (λ z. 2 ^ width_of z) m.form.0 in
      complete_halved f set (width_of f) 0 p (whole_at f set) m (omega arith)
      (omega (arith, m.form.1.first_fits, e));
  in_order = within_order 0 (0 + 2 ^ width_of f) (halved f set (width_of f) 0)
      (within_halved f set (width_of f) 0 (omega arith));
}

-- No list is shorter: count in another list the prefixes that begin in a block

begun : ℕ → ℕ → List Prefix → ℕ
begun low end [] = 0
begun low end (q ∷ qs) =
    (if nat_le low q.first && nat_lt q.first end then 1 else 0) + begun low end qs

one-le : (b : Bool) (m n : ℕ) → m ≤ n → (if b then 1 else 0) + m ≤ suc n
one-le true m n h = omega arith
one-le false m n h = omega arith

test-split : (a b c x : ℕ) → a ≤ b → b ≤ c
    → (if nat_le a x && nat_lt x c then 1 else 0) ≡ (if nat_le a x && nat_lt x b then 1 else 0) +
    (if nat_le b x && nat_lt x c then 1 else 0)
test-split a b c x h l = grind (arith, nat_tests)

begun-le : (low end : ℕ) (qs : List Prefix) → begun low end qs ≤ length qs
unfolding begun
begun-le low end [] = omega arith
begun-le low end (q ∷ qs) =
    let i = begun-le low end qs in one-le (nat_le low q.first && nat_lt q.first end)
    (begun low end qs) (length qs) i

begun-split : (a b c : ℕ) (qs : List Prefix) → a ≤ b → b ≤ c
    → begun a c qs ≡ begun a b qs + begun b c qs
unfolding begun
begun-split a b c [] h l = refl
begun-split a b c (q ∷ qs) h l =
    let i = begun-split a b c qs h l in omega (arith, test-split a b c q.first h l)

abbrev AllInside : Family → (ℕ → Bool) → List Prefix → Type 0
AllInside f set qs = AllByRecursion (λ q. IsPrefixOf f q × LiesIn set q) qs

all_inside : (f : Family) (set : ℕ → Bool) (qs : List Prefix)
    → AllByRecursion (λ q. IsPrefixOf f q) qs → ((x : ℕ) → any_has qs x ≡ true → set x ≡ true)
    → AllInside f set qs
all_inside f set [] h k = tt
all_inside f set (q ∷ qs) h k = (
  (h.0, λ x i. k x (or_left (has_address q x) (any_has qs x) i)),
  all_inside f set qs h.1
      (λ x i. k x (or_right (has_address q x) (any_has qs x) i)),
)

begins_there : (f : Family) (set : ℕ → Bool) (k a : ℕ) (q : Prefix) → At f set k a → IsPrefixOf f q
    → LiesIn set q → has_address q a ≡ true → q.first ≡ a
begins_there f set k a q t form lies i =
    let s = bounds q a i in
    elim (cases_lt k (free_of q)) [
      | inl l ↦ absurd (upper_prefix f set k a q t form l s.0 s.1 lies)
      | inr l ↦ let e = nested (free_of q) k q.first a a l form.1.aligned t.aligned s.0 s.1
          (omega arith) (omega (arith, pow_pos k)) in omega (arith, e.0, s.0)
    ]

first_begun : (f : Family) (set : ℕ → Bool) (k a : ℕ) (qs : List Prefix) → At f set k a
    → AllInside f set qs → any_has qs a ≡ true → 1 ≤ begun a (a + 2 ^ k) qs
unfolding begun
first_begun f set k a [] t h i = absurd (both_ways false refl i)
first_begun f set k a (q ∷ qs) t h i = elim (or_cases (has_address q a) (any_has qs a) i) [
  | inl j ↦
      let e : q.first ≡ a = begins_there f set k a q t h.0.0 h.0.1 j in
      let one =
      cond-true {A = ℕ} (nat_le a q.first && nat_lt q.first (a + 2 ^ k)) 1 0
      (and_from (nat_le a q.first) (nat_lt q.first (a + 2 ^ k)) (le-leb a q.first (omega arith))
      (lt-ltb q.first (a + 2 ^ k) (omega (arith, pow_pos k)))) in
      omega (arith, one)
  | inr j ↦ let m = first_begun f set k a qs t h.1 j in omega (arith, m)
]

fewest_found : (f : Family) (set : ℕ → Bool) (k a : ℕ) (ps left right qs : List Prefix)
    → At f set k a → Found f set k a ps left right → AllInside f set qs
    → ((x : ℕ) → any_has qs x ≡ set x)
    → (0 < k → (LiesBlock set a (2 ^ k) → ⊥) → length (left ++ right) ≤ begun a (a + 2 ^ k) qs)
    → length ps ≤ begun a (a + 2 ^ k) qs
fewest_found f set k a ps left right qs t (Whole h e) i same both =
    let m = first_begun f set k a qs t i (same a ∙ h a (omega arith) (omega (arith, pow_pos k))) in
    let one : length ps ≡ 1 = ap (λ (z : List Prefix). length z) e in
    omega (arith, m, one)
fewest_found f set k a ps left right qs t (Nothing h e) i same both =
    let none : length ps ≡ 0 = ap (λ (z : List Prefix). length z) e in
    omega (arith, none)
fewest_found f set k a ps left right qs t (Halved h p e) i same both =
    let all : length ps ≡ length (left ++ right) = ap (λ (z : List Prefix). length z) e in
    omega (arith, all, both p h)

fewest_halved : (f : Family) (set : ℕ → Bool) (k a : ℕ) (qs : List Prefix) → At f set k a
    → AllInside f set qs → ((x : ℕ) → any_has qs x ≡ set x)
    → length (halved f set k a) ≤ begun a (a + 2 ^ k) qs
fewest_halved f set zero a qs t i same =
    fewest_found f set zero a (halved f set zero a) [] [] qs t (found_zero f set a) i same
    (λ p h. absurd (omega arith))
fewest_halved f set (suc k) a qs t i same =
    fewest_found f set (suc k) a (halved f set (suc k) a) (halved f set k a)
    (halved f set k (a + 2 ^ k)) qs t (found_suc f set k a) i same
    (λ p h.
    let e : a + 2 ^ k + 2 ^ k ≡ a + 2 ^ suc k = omega (arith, two-pow-succ k) in
    let both : begun a (a + 2 ^ suc k) qs ≡ begun a (a + 2 ^ k) qs + begun (a + 2 ^ k)
    (a + 2 ^ k + 2 ^ k) qs =
    ap (λ z. begun a z qs) (sym e) ∙ begun-split a (a + 2 ^ k) (a + 2 ^ k + 2 ^ k) qs (omega arith)
    (omega arith) in
    let l = fewest_halved f set k a qs (left_at f set k a t h) i same in
    let r = fewest_halved f set k (a + 2 ^ k) qs (right_at f set k a t h) i same in
    omega (arith, both, l, r, length-append (halved f set k a) (halved f set k (a + 2 ^ k))))

pub halved-fewest : (f : Family) (set : ℕ → Bool) → IsFewest f set (halved f set (width_of f) 0)
halved-fewest f set = λ qs h same.
    let m = fewest_halved f set (width_of f) 0 qs (whole_at f set)
    (all_inside f set qs (recursion_from_All (λ (q : Prefix). IsPrefixOf f q) qs h)
    (λ x i. sym (same x) ∙ i)) same in
    omega (arith, m, begun-le 0 (0 + 2 ^ width_of f) qs)
