-- A set that lies within another has no more numbers, and the same ones where it has as many.
use Rattle.std.proofs.Common.{◌≡◌, ◌⊎◌, ℕ, zero, suc, ◌+◌, ◌-◌, ◌<◌, ◌≤◌, Bool, true, false, min, ◌||◌, List, [], ◌∷◌, ◌++◌, length, get_or, inl, inr, refl, ap, sym, ◌∙◌, subst, arith}
use Rattle.std.proofs.lemmas.Bool.{cases_lt, both_ways}
use Rattle.std.proofs.lemmas.List.{get_or_default, length-append}
use Rattle.std.proofs.Math.ListN.{get_or-append}
use Rattle.std.proofs.Math.Seq.{get_or-append_seam}
use Rattle.std.proofs.lemmas.List.Sums.{sum_by-cons}
use Rattle.acl_packet.specs.declared.addresses.Family.TheVariants.{V4, V6}
use Rattle.acl_packet.specs.Addresses.{top_address}
use Rattle.acl_packet.specs.Packets.{top_of}
use Rattle.acl_sets.specs.declared.sets.Range.{Range}
use Rattle.acl_sets.specs.Ranges.{Numbers, holds, inside, IsNormal}
use Rattle.acl_sets.proofs.RangeLaws.{in_range, out_low, out_high, below_floor, one_list, past_top}
use Rattle.acl_terms.specs.declared.terms.Term.{Term}
use Rattle.acl_shade.specs.ComputableShading.{shades}
use Rattle.acl_shade.specs.declared.parts.Part.{Part}
use Rattle.acl_shade.specs.declared.parts.Part.TheVariants.{Numbered, Source, Destination, Either}
use Rattle.acl_shade.specs.declared.sizes.Growing.{Growing}
use Rattle.acl_shade.specs.Shading.{LiesWithin}
use Rattle.acl_shade.specs.Sifting.{NoneShadesTo, is_asked, part_of}
use Rattle.acl_shade.proofs.FamilyLaws.{field-normal, normal-at}
use Rattle.acl_shade.proofs.SiftLaws.{part-within}
use Rattle.acl_shade.specs.Sizes.{AreGrown, NoneHolds, ranges_at, size_of, sum_of}

-- ---- how many numbers pass a test

abbrev one : Bool → ℕ
one true = 1
one false = 0

-- How many numbers below the end pass.
abbrev count : (ℕ → Bool) → ℕ → ℕ
count test zero = 0
count test (suc n) = count test n + one (test n)

one-le : (a b : Bool) → (a ≡ true → b ≡ true) → one a ≤ one b
one-le false b h = omega arith
one-le true b h = subst (λ t. 1 ≤ one t) (sym (h refl)) (omega arith)

one-same : (a b : Bool) → one a ≡ one b → a ≡ b
one-same true true h = refl
one-same false false h = refl
one-same true false h = absurd (omega (arith, h))
one-same false true h = absurd (omega (arith, h))

count-le : (p q : ℕ → Bool) (n : ℕ) → ((x : ℕ) → p x ≡ true → q x ≡ true) → count p n ≤ count q n
count-le p q zero h = omega arith
count-le p q (suc n) h =
    let rest = count-le p q n h in
    let last = one-le (p n) (q n) (h n) in
    omega (arith, rest, last)

-- Where as many pass a test that asks for more, the same numbers pass.
count-same : (p q : ℕ → Bool) (n : ℕ) → ((x : ℕ) → p x ≡ true → q x ≡ true) → count p n ≡ count q n
    → (x : ℕ) → x < n → p x ≡ q x
count-same p q zero h same x within = absurd (omega (arith, within))
count-same p q (suc n) h same x within =
    let rest = count-le p q n h in
    let last = one-le (p n) (q n) (h n) in
    elim (cases_lt x n) [
      | inl below ↦ count-same p q n h (omega (arith, rest, last, same)) x below
      | inr behind ↦
          let here : x ≡ n = omega arith in
          subst (λ k. p k ≡ q k) (sym here) (one-same (p n) (q n) (omega (arith, rest, last, same)))
    ]

-- ---- how many numbers are in ranges

count-none : (test : ℕ → Bool) (n : ℕ) → ((x : ℕ) → test x ≡ false) → count test n ≡ 0
count-none test zero h = refl
count-none test (suc n) h =
    let rest = count-none test n h in
    let last : one (test n) ≡ 0 = ap one (h n) in
    omega (arith, rest, last)

-- Of a range, those below an end.
count-range : (r : Range) (n : ℕ) → r.low ≤ r.high → count (inside r) n ≡ min n (r.high + 1) - r.low
count-range r zero ordered = omega arith
count-range r (suc n) ordered =
    let rest = count-range r n ordered in
    elim (cases_lt n r.low) [
      | inl below ↦
          let last : one (inside r n) ≡ 0 = ap one (out_low r.low r.high n below) in omega (arith, rest, last, below)
      | inr from ↦ elim (cases_lt r.high n) [
        | inl above ↦
            let last : one (inside r n) ≡ 0 = ap one (out_high r.low r.high n above) in
            omega (arith, rest, last, above, ordered)
        | inr to ↦
            let last : one (inside r n) ≡ 1 = ap one (in_range r.low r.high n (omega arith) (omega arith)) in
            omega (arith, rest, last, from, to)
      ]
    ]

one-either : (a b : Bool) → (a ≡ true → b ≡ false) → one (a || b) ≡ one a + one b
one-either false b h = omega arith
one-either true b h = let none : one b ≡ 0 = ap one (h refl) in omega (arith, none)

count-either : (p q : ℕ → Bool) (n : ℕ) → ((x : ℕ) → p x ≡ true → q x ≡ false)
    → count (λ x. p x || q x) n ≡ count p n + count q n
count-either p q zero h = refl
count-either p q (suc n) h =
    let rest = count-either p q n h in
    let last = one-either (p n) (q n) (h n) in
    omega (arith, rest, last)

-- What is in the first range is in none behind it.
first-alone : (f top : ℕ) (r : Range) (rs : List Range) → IsNormal f top (r ∷ rs) → (x : ℕ) → inside r x ≡ true
    → holds rs x ≡ false
first-alone f top r rs normal x h = elim (cases_lt r.high x) [
  | inl above ↦ absurd (both_ways (inside r x) (out_high r.low r.high x above) h)
  | inr to ↦ below_floor (r.high + 2) top rs x normal.3 (omega arith)
]

-- The size is the count up to the top.
count-size : (f top : ℕ) (rs : List Range) → IsNormal f top rs → count (holds rs) (top + 1) ≡ size_of rs
count-size f top [] normal = count-none (holds []) (top + 1) (λ x. refl)
count-size f top (r ∷ rs) normal =
    let low = normal.1 in
    let high = normal.2 in
    let rest = count-size (r.high + 2) top rs normal.3 in
    let first = count-range r (top + 1) low in
    let both = count-either (inside r) (holds rs) (top + 1) (first-alone f top r rs normal) in
    let sizes = sum_by-cons (λ (q : Range). q.high - q.low + 1) r rs in
    omega (arith, rest, first, both, sizes, low, high)

-- ---- sets

-- A set that lies within another is smaller, or the same.
pub smaller-or-same : (top : ℕ) (s other : Numbers) → IsNormal 0 top s.ranges → IsNormal 0 top other.ranges
    → LiesWithin s other → (size_of s.ranges < size_of other.ranges) ⊎ (s.ranges ≡ other.ranges)
smaller-or-same top s other normal others within =
    let least = count-le (holds s.ranges) (holds other.ranges) (top + 1) within in
    let size = count-size 0 top s.ranges normal in
    let size-other = count-size 0 top other.ranges others in
    elim (cases_lt (size_of s.ranges) (size_of other.ranges)) [
      | inl smaller ↦ inl smaller
      | inr as-many ↦ inr (one_list 0 0 top s.ranges other.ranges normal others
          (λ x. elim (cases_lt x (top + 1)) [
            | inl below ↦ count-same (holds s.ranges) (holds other.ranges) (top + 1) within
                (omega (arith, least, size, size-other, as-many)) x below
            | inr past ↦ past_top 0 top s.ranges x normal (omega arith)
                ∙ sym (past_top 0 top other.ranges x others (omega arith))
          ]))
    ]

-- ---- terms

part_top : Part → ℕ
part_top (Numbered field) = top_of field
part_top (Source f) = top_address f
part_top (Destination f) = top_address f
part_top (Either f) = top_address f

part-normal : (part : Part) (t : Term) → IsNormal 0 (part_top part) (part_of part t).ranges
unfolding part_top
part-normal (Numbered field) t = field-normal t field
part-normal (Source V4) t = normal-at t.src4 (top_address V4) t.sound.src4_top t.sound.src4_normal
part-normal (Source V6) t = normal-at t.src6 (top_address V6) t.sound.src6_top t.sound.src6_normal
part-normal (Destination V4) t = normal-at t.dst4 (top_address V4) t.sound.dst4_top t.sound.dst4_normal
part-normal (Destination V6) t = normal-at t.dst6 (top_address V6) t.sound.dst6_top t.sound.dst6_normal
part-normal (Either V4) t = normal-at t.addr4 (top_address V4) t.sound.addr4_top t.sound.addr4_normal
part-normal (Either V6) t = normal-at t.addr6 (top_address V6) t.sound.addr6_top t.sound.addr6_normal

-- A part lies within none of terms that have no more numbers, where those that have as many have others.
pub held-by-none : (part : Part) (terms : List Term) (g : Growing) (j : Term) → AreGrown part terms g
    → g.size ≡ size_of (part_of part j).ranges
    → ((i : ℕ) (d : Term) → g.from ≤ i → i < length g.sums.items → (part_of part j).ranges ≡ ranges_at part terms i d → ⊥)
    → NoneHolds part (part_of part j) (length g.sums.items) terms
held-by-none part terms g j grown size others i d before lies =
    let other = get_or terms i d in
    elim (smaller-or-same (part_top part) (part_of part j) (part_of part other) (part-normal part j) (part-normal part other) lies) [
      | inl smaller ↦ let most = grown.most i d before in omega (arith, smaller, most, size)
      | inr same ↦ elim (cases_lt i g.from) [
        | inl early ↦
            let fewer = grown.fewer i d early in
            let sizes = ap size_of same in
            omega (arith, fewer, sizes, size)
        | inr late ↦ others i d (omega (arith, late)) before same
      ]
    ]

module _ (part : Part) (terms : List Term) (place : ℕ) (t : Term) (within : place < length terms)
    (is : t ≡ get_or terms place t) where
  there : (n : ℕ) (d : Term) → n ≡ place → get_or terms n d ≡ t
  there n d same = ap (λ k. get_or terms k d) same ∙ get_or_default terms place d t within ∙ sym is

  -- A term whose part lies within none before it is not shaded.
  pub none-shades-more : is_asked part t ≡ true → NoneHolds part (part_of part t) place terms → NoneShadesTo place terms
      → NoneShadesTo (place + 1) terms
  none-shades-more asked none before targets today i j d earlier to h = elim (cases_lt j place) [
    | inl past ↦ before targets today i j d earlier past h
    | inr behind ↦ none i d (omega arith) (part-within targets today part (get_or terms i d) t
        (subst (λ (u : Term). shades targets today (get_or terms i d) u ≡ true) (there j d (omega arith)) h) asked)
  ]

  -- One term more is no smaller.
  pub grown-more : (g new : Growing) (sum : ℕ) → new.sums.items ≡ g.sums.items ++ sum ∷ [] → new.size ≡ g.size
      → new.from ≡ g.from → (g.most ≤ new.most) × (sum ≤ new.most) → length g.sums.items ≡ place
      → sum ≡ sum_of (part_of part t).ranges → g.size ≡ size_of (part_of part t).ranges → AreGrown part terms g
      → AreGrown part terms new
  grown-more g new sum same size from most counted sum-is size-is grown =
      let old = g.sums.items in
      let long : length new.sums.items ≡ length old + 1 = ap length same ∙ length-append old (sum ∷ []) in
      record {
        sums = λ i n d before. elim (cases_lt i place) [
          | inl past ↦ ap (λ ns. get_or ns i n) same ∙ get_or-append old (sum ∷ []) n i (omega (arith, past, counted))
              ∙ grown.sums i n d (omega (arith, past, counted))
          | inr behind ↦
              let last : i ≡ length old = omega (arith, behind, before, long, counted) in
              ap (λ ns. get_or ns i n) same ∙ ap (λ k. get_or (old ++ sum ∷ []) k n) last
              ∙ get_or-append_seam old sum [] n ∙ sum-is
              ∙ ap (λ (u : Term). sum_of (part_of part u).ranges) (sym (there i d (omega (arith, last, counted))))
        ];
        most = λ i d before. elim (cases_lt i place) [
          | inl past ↦ subst (λ n. size_of (ranges_at part terms i d) ≤ n) (sym size) (grown.most i d (omega (arith, past, counted)))
          | inr behind ↦
              let last : i ≡ place = omega (arith, behind, before, long, counted) in
              subst (λ (u : Term). size_of (part_of part u).ranges ≤ new.size) (sym (there i d last)) (omega (arith, size-is, size))
        ];
        fewer = λ i d early. subst (λ n. size_of (ranges_at part terms i d) < n) (sym size)
            (grown.fewer i d (omega (arith, early, from)));
        above = λ i n late before. elim (cases_lt i place) [
          | inl past ↦
              let held = ap (λ ns. get_or ns i n) same ∙ get_or-append old (sum ∷ []) n i (omega (arith, past, counted)) in
              let no-greater = grown.above i n (omega (arith, late, from)) (omega (arith, past, counted)) in
              omega (arith, held, no-greater, most.0)
          | inr behind ↦
              let last : i ≡ length old = omega (arith, behind, before, long, counted) in
              let held = ap (λ ns. get_or ns i n) same ∙ ap (λ k. get_or (old ++ sum ∷ []) k n) last
              ∙ get_or-append_seam old sum [] n in
              omega (arith, held, most.1)
        ];
      }
