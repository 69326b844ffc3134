-- The blocks that are cut from the low end of each range of a set are its least list.
use Rattle.std.proofs.Common.{◌≡◌, ℕ, ◌+◌, ◌-◌, ◌^◌, ◌<◌, ◌≤◌, Bool, true, false, ◌||◌, List, [], ◌∷◌, ◌++◌, Contains, inl, inr, refl, ap, sym, subst, ◌∙◌, arith}
use Rattle.std.proofs.lemmas.Nat.{pow_pos}
use Rattle.std.proofs.lemmas.List.Elements.{Contains-append_left, Contains-append_right, All-from_recursion}
use Rattle.std.proofs.lemmas.Bool.{cases_lt, or_cases, or_from, or_left, both_ways}
use Rattle.std.specs.List.{AllByRecursion}
use Rattle.acl_packet.specs.declared.addresses.Family.{Family}
use Rattle.acl_packet.specs.declared.addresses.Prefix.{Prefix}
use Rattle.acl_packet.specs.Addresses.{width_of, size_of}
use Rattle.acl_text.proofs.ListLaws.{all_append}
use Rattle.acl_sets.specs.declared.sets.Range.{Range}
use Rattle.acl_sets.specs.Ranges.{inside, holds, IsNormal}
use Rattle.acl_sets.specs.LeastLists.{IsMaximal, IsInOrder, IsLeastList}
use Rattle.acl_sets.specs.ComputableLeastLists.{block}
use Rattle.acl_sets.specs.CutSteps.{IsLongest}
use Rattle.acl_sets.proofs.RangeLaws.{in_range, out_low, out_high, ends_of, below_floor}
use Rattle.acl_sets.proofs.Powers.{Aligned, nested}
use Rattle.acl_sets.proofs.BlockFacts.{free_of, LiesBlock, has, At, block_size, block_maximal}
use Rattle.acl_sets.proofs.OrderedLists.{member_tail}
use Rattle.acl_sets.proofs.HalvedSets.{maximal_same}
use Rattle.acl_sets.proofs.CutFacts.{free-fits}

-- Blocks cut the numbers from first to last, one behind the other, each the longest there.
abbrev pub Cuts : Family → ℕ → ℕ → List Prefix → Type 0
Cuts f last first [] = first ≡ last + 1
Cuts f last first (p ∷ ps) =
    (free : ℕ) × (p ≡ block f free first) × IsLongest first last free
    × Cuts f last (first + 2 ^ free) ps

-- The blocks of each range of a list, in order.
abbrev pub CutsAll : Family → List Range → List Prefix → Type 0
CutsAll f [] ps = ps ≡ []
CutsAll f (r ∷ rs) ps =
    (cuts rest : List Prefix) × (ps ≡ cuts ++ rest) × Cuts f r.high r.low cuts × CutsAll f rs rest

-- A range of a set with nothing of it beside

record IsRun (f : Family) (set : ℕ → Bool) (r : Range) : Type 0 where
  pub some : r.low ≤ r.high
  pub fits : r.high < 2 ^ width_of f
  pub inside : (x : ℕ) → r.low ≤ x → x ≤ r.high → set x ≡ true
  pub before : (x : ℕ) → x + 1 ≡ r.low → set x ≡ false
  pub after : set (r.high + 1) ≡ false

-- a block of the set that has a number of the range lies in it
run_within : (f : Family) (set : ℕ → Bool) (r : Range) (b s x : ℕ) → IsRun f set r
    → LiesBlock set b s → b ≤ x → x < b + s → r.low ≤ x → x ≤ r.high
    → (r.low ≤ b) × (b + s ≤ r.high + 1)
run_within f set r b s x run h p q l m = (
  elim (cases_lt b r.low) [
    | inl i ↦ absurd (both_ways (set (r.low - 1)) (run.before (r.low - 1) (omega arith))
        (h (r.low - 1) (omega arith) (omega arith)))
    | inr i ↦ i
  ],
  elim (cases_lt (r.high + 1) (b + s)) [
    | inl i ↦ absurd (both_ways (set (r.high + 1)) run.after
        (h (r.high + 1) (omega arith) (omega arith)))
    | inr i ↦ i
  ],
)

-- no block of the range that begins before a number goes past it
abbrev Closed : Range → ℕ → Type 0
Closed r first = (j b : ℕ) → Aligned j b → r.low ≤ b → b < first → b + 2 ^ j ≤ r.high + 1
    → b + 2 ^ j ≤ first

closed_next : (r : Range) (first free : ℕ) → Closed r first → IsLongest first r.high free
    → Closed r (first + 2 ^ free)
closed_next r first free h c = λ j b i l p e. elim (cases_lt b first) [
  | inl s ↦ let k = h j b i l s e in omega (arith, k)
  | inr s ↦ elim (cases_lt free j) [
    | inl m ↦
        let n = nested free j first b b (omega arith) c.fits.0 i s p (omega arith)
        (omega (arith, pow_pos j)) in
        let same : b ≡ first = omega (arith, s, n.0) in
        let P : ℕ → Type 0 = λ z. Aligned j z in
        let k = c.longest j (subst P same i, omega (arith, same, e)) in
        absurd (omega (arith, m, k))
    | inr m ↦
        (nested j free b first b m i c.fits.0 (omega arith) (omega (arith, pow_pos j)) s p).1
  ]
]

at_cut : (f : Family) (set : ℕ → Bool) (r : Range) (first free : ℕ) → IsRun f set r → r.low ≤ first
    → Closed r first → IsLongest first r.high free → At f set free first
at_cut f set r first free run l h c =
    let within : first ≤ r.high = omega (arith, c.fits.1, pow_pos free) in record {
      fits = free-fits f first r.high free run.fits c;
      ends = omega (arith, c.fits.1, run.fits);
      aligned = c.fits.0;
      upper = λ j b m w i p q lies.
          let s = run_within f set r b (2 ^ j) first run lies p q l within in
          elim (cases_lt b first) [
            | inl k ↦ let e = h j b i s.0 k s.1 in omega (arith, e, q)
            | inr k ↦
                let same : b ≡ first = omega (arith, k, p) in
                let P : ℕ → Type 0 = λ z. Aligned j z in
                let e = c.longest j (subst P same i, omega (arith, same, s.1)) in
                omega (arith, m, e)
          ];
    }

lies_cut : (f : Family) (set : ℕ → Bool) (r : Range) (first free : ℕ) → IsRun f set r
    → r.low ≤ first → IsLongest first r.high free → LiesBlock set first (2 ^ free)
lies_cut f set r first free run l c = λ x p q.
    run.inside x (omega (arith, p, l)) (omega (arith, q, c.fits.1))

-- The blocks of one range

cuts-maximal : (f : Family) (set : ℕ → Bool) (r : Range) (first : ℕ) (ps : List Prefix)
    → IsRun f set r → r.low ≤ first → Closed r first → Cuts f r.high first ps
    → AllByRecursion (λ p. IsMaximal f set p) ps
cuts-maximal f set r first [] run l h c = tt
cuts-maximal f set r first (p ∷ ps) run l h c =
    let P : Prefix → Type 0 = λ z. IsMaximal f set z in (
      subst P (sym c.1) (block_maximal f set c.0 first (at_cut f set r first c.0 run l h c.2)
          (lies_cut f set r first c.0 run l c.2)),
      cuts-maximal f set r (first + 2 ^ c.0) ps run (omega (arith, l)) (closed_next r first c.0 h c.2)
          c.3,
    )

cuts-contain : (f : Family) (set : ℕ → Bool) (r : Range) (first : ℕ) (ps : List Prefix) (p : Prefix)
    → IsRun f set r → r.low ≤ first → Closed r first → Cuts f r.high first ps → IsMaximal f set p
    → first ≤ p.first → p.first ≤ r.high → Contains ps p
cuts-contain f set r first [] p run l h c m i j = absurd (omega (arith, c, i, j))
cuts-contain f set r first (q ∷ ps) p run l h c m i j = elim (cases_lt p.first (first + 2 ^ c.0)) [
  | inl k ↦ (
    0,
    omega arith,
    c.1 ∙ maximal_same f set c.0 first p
        (at_cut f set r first c.0 run l h c.2) (lies_cut f set r first c.0 run l c.2) m i k,
  )
  | inr k ↦ member_tail q ps p (cuts-contain f set r (first + 2 ^ c.0) ps p run (omega (arith, l))
      (closed_next r first c.0 h c.2) c.3 m k j)
]

order_lower : (f g : ℕ) (ps : List Prefix) → f ≤ g → IsInOrder g ps → IsInOrder f ps
order_lower f g [] l h = tt
order_lower f g (p ∷ ps) l h = (omega arith, h.1)

cuts-order : (f : Family) (last first : ℕ) (ps qs : List Prefix) → last < 2 ^ width_of f
    → Cuts f last first ps → IsInOrder (last + 1) qs → IsInOrder first (ps ++ qs)
cuts-order f last first [] qs l c h = order_lower first (last + 1) qs (omega (arith, c)) h
cuts-order f last first (p ∷ ps) qs l c h =
    let P : ℕ → Type 0 = λ z. IsInOrder (first + z) (ps ++ qs) in
    let Q : Prefix → Type 0 = λ z. IsInOrder first (z ∷ (ps ++ qs)) in
    let size : size_of (block f c.0 first) ≡ 2 ^ c.0 =
    block_size f c.0 first (free-fits f first last c.0 l c.2) in
    subst Q (sym c.1) (omega arith, subst P (sym size) (cuts-order f last (first + 2 ^ c.0) ps qs l c.3 h))

-- The ranges of a normal list

runs : (f : Family) (set : ℕ → Bool) (floor : ℕ) (rs : List Range)
    → IsNormal floor (2 ^ width_of f - 1) rs
    → ((x : ℕ) → floor ≤ x + 1 → set x ≡ holds rs x) → AllByRecursion (λ r. IsRun f set r) rs
runs f set floor [] n h = tt
runs f set floor (r ∷ rs) n h = (
  record {
    some = n.1;
    fits = omega (arith, n.2, pow_pos (width_of f));
    inside = λ x p q. h x (omega arith)
        ∙ or_left (inside r x) (holds rs x) (in_range r.low r.high x p q);
    before = λ x e. h x (omega arith)
        ∙ or_from (inside r x) (holds rs x) (out_low r.low r.high x (omega arith))
        (below_floor (r.high + 2) (2 ^ width_of f - 1) rs x n.3 (omega arith));
    after = h (r.high + 1) (omega arith)
        ∙ or_from (inside r (r.high + 1)) (holds rs (r.high + 1))
        (out_high r.low r.high (r.high + 1) (omega arith))
        (below_floor (r.high + 2) (2 ^ width_of f - 1) rs (r.high + 1) n.3 (omega arith));
  },
  runs f set (r.high + 2) rs n.3 (λ x p. h x (omega arith)
      ∙ ap (λ t. t || holds rs x) (out_high r.low r.high x (omega arith))),
)

all-maximal : (f : Family) (set : ℕ → Bool) (rs : List Range) (ps : List Prefix)
    → AllByRecursion (λ r. IsRun f set r) rs → CutsAll f rs ps
    → AllByRecursion (λ p. IsMaximal f set p) ps
all-maximal f set [] ps run c =
    let P : List Prefix → Type 0 = λ z. AllByRecursion (λ p. IsMaximal f set p) z in subst P (sym c) tt
all-maximal f set (r ∷ rs) ps run c =
    let P : List Prefix → Type 0 = λ z. AllByRecursion (λ p. IsMaximal f set p) z in
    subst P (sym c.2) (all_append (λ p. IsMaximal f set p) c.0 c.1
    (cuts-maximal f set r r.low c.0 run.0 (omega arith) (λ j b i l p e. omega arith) c.3)
    (all-maximal f set rs c.1 run.1 c.4))

all-contain : (f : Family) (set : ℕ → Bool) (rs : List Range) (ps : List Prefix) (p : Prefix)
    → AllByRecursion (λ r. IsRun f set r) rs → CutsAll f rs ps → IsMaximal f set p
    → holds rs p.first ≡ true → Contains ps p
all-contain f set [] ps p run c m h = absurd (both_ways false refl h)
all-contain f set (r ∷ rs) ps p run c m h =
    let P : List Prefix → Type 0 = λ z. Contains z p in
    subst P (sym c.2) (elim (or_cases (inside r p.first) (holds rs p.first) h) [
      | inl i ↦ let s = ends_of r.low r.high p.first i in
          Contains-append_left c.0 c.1 p (cuts-contain f set r r.low c.0 p run.0 (omega arith)
          (λ j b k l q e. omega arith) c.3 m s.0 s.1)
      | inr i ↦ Contains-append_right c.0 c.1 p (all-contain f set rs c.1 p run.1 c.4 m i)
    ])

all-order : (f : Family) (floor : ℕ) (rs : List Range) (ps : List Prefix)
    → IsNormal floor (2 ^ width_of f - 1) rs → CutsAll f rs ps → IsInOrder floor ps
all-order f floor [] ps n c =
    let P : List Prefix → Type 0 = λ z. IsInOrder floor z in subst P (sym c) tt
all-order f floor (r ∷ rs) ps n c =
    let P : List Prefix → Type 0 = λ z. IsInOrder floor z in
    subst P (sym c.2) (order_lower floor r.low (c.0 ++ c.1) n.0
    (cuts-order f r.high r.low c.0 c.1 (omega (arith, n.2, pow_pos (width_of f))) c.3
    (order_lower (r.high + 1) (r.high + 2) c.1 (omega arith)
    (all-order f (r.high + 2) rs c.1 n.3 c.4))))

pub cuts-least : (f : Family) (rs : List Range) (ps : List Prefix)
    → IsNormal 0 (2 ^ width_of f - 1) rs → CutsAll f rs ps → IsLeastList f (λ x. holds rs x) ps
cuts-least f rs ps n c =
    let run = runs f (λ x. holds rs x) 0 rs n (λ x l. refl) in record {
      maximal = All-from_recursion (λ (p : Prefix). IsMaximal f (λ x. holds rs x) p) ps
          (all-maximal f (λ x. holds rs x) rs ps run c);
      complete = λ p m. all-contain f (λ x. holds rs x) rs ps p run c m
          (m.lies p.first (has p p.first (omega arith) (omega (arith, pow_pos (free_of p)))));
      in_order = all-order f 0 rs ps n c;
    }
