-- When the sets of one term lie within those of another: what is computed says what the relation says.
use Rattle.std.proofs.Common.{◌≡◌, ◌↔◌, ℕ, zero, suc, ◌+◌, ◌-◌, ◌<◌, ◌≤◌, min, max, Bool, true, false, not, ◌&&◌, ◌||◌, ◌==◌, nat_le, List, [], ◌∷◌, length, get_or, inl, inr, refl, ap, sym, subst, ◌∙◌, arith}
use Rattle.std.specs.List.{list_all}
use Rattle.std.proofs.lemmas.Bool.{and_from, and_parts, both_ways, cases_Bool, cases_lt, eq-eqb, eqb-false, false_from_ne_true, le-leb, leb-true, ne_eqb, or_cases, or_left, or_right}
use Rattle.acl_packet.specs.declared.addresses.Family.{Family}
use Rattle.acl_packet.specs.declared.addresses.Family.TheVariants.{V4, V6}
use Rattle.acl_packet.specs.declared.packet_fields.Field.{Field}
use Rattle.acl_packet.specs.declared.packet_fields.Field.TheVariants.{Protocol}
use Rattle.acl_packet.specs.Addresses.{top_address}
use Rattle.acl_sets.specs.declared.sets.Range.{Range}
use Rattle.acl_sets.specs.Ranges.{IsNormal, Numbers, holds, inside}
use Rattle.acl_sets.specs.ComputableSets.{all_covered, covers, is_all}
use Rattle.acl_sets.proofs.RangeLaws.{at_top, ends_of, in_range}
use Rattle.acl_sets.proofs.ComputableSetLaws.{covered-subset, covers-holds, holds-covers, subset-covered}
use Rattle.acl_terms.specs.declared.terms.Term.{Term}
use Rattle.acl_packet.specs.Packets.{foreign_of, top_of}
use Rattle.acl_terms.specs.Resolved.{IsEmptyIn, destination_in, either_in, has_protocol, is_empty_in, set_in, source_in}
use Rattle.acl_terms.proofs.EmptyLaws.{empty-law}
use Rattle.acl_terms.proofs.TestLaws.{true-not}
use Rattle.acl_shade.specs.ComputableShading.{addresses_within, fits_in, has_above, has_below, has_others, lies_within, lies_within_in, lies_within_in_each, protocols_within, some_within}
use Rattle.acl_shade.specs.Shading.{LiesWithin, SomeLiesWithin}

-- ---- sets

pub normal-at : (s : Numbers) (top : ℕ) → s.top ≡ top → IsNormal 0 s.top s.ranges → IsNormal 0 top s.ranges
normal-at s top e n = subst (λ k. IsNormal 0 k s.ranges) e n

pub within-law : (top : ℕ) (s other : Numbers) → IsNormal 0 top s.ranges → IsNormal 0 top other.ranges
    → (lies_within s other ≡ true) ↔ LiesWithin s other
within-law top s other n m = (
  λ h x held. covered-subset s.ranges other.ranges x h held,
  λ h. subset-covered 0 0 top s.ranges other.ranges n m (λ x _ held. h x held),
)

pub field_tops : (i j : Term) (field : Field) → (set_in field j).top ≡ (set_in field i).top
field_tops i j field = j.sound.tops field ∙ sym (i.sound.tops field)

pub field-normal : (t : Term) (field : Field) → IsNormal 0 (top_of field) (set_in field t).ranges
field-normal t field = normal-at (set_in field t) (top_of field) (t.sound.tops field) (t.sound.normal field)

pub and_true : (b : Bool) → b ≡ (b && true)
and_true true = refl
and_true false = refl

-- The first number of each range is in the set.
holds-at : (floor top : ℕ) (rs : List Range) (k : ℕ) (d : Range) → k < length rs → IsNormal floor top rs
    → holds rs (get_or rs k d).low ≡ true
holds-at floor top [] k d within n = absurd (omega arith)
holds-at floor top (r ∷ rs) zero d within n =
    or_left (inside r r.low) (holds rs r.low) (in_range r.low r.high r.low (omega arith) n.1)
holds-at floor top (r ∷ rs) (suc k) d within n =
    or_right (inside r (get_or rs k d).low) (holds rs (get_or rs k d).low)
    (holds-at (r.high + 2) top rs k d (omega arith) n.3)

-- A set does not lie within another that lacks the first number of one of its ranges.
pub number-apart : (top : ℕ) (rs qs : List Range) (k : ℕ) (r : Range) → k < length rs → r ≡ get_or rs k r
    → IsNormal 0 top rs → holds qs r.low ≡ false → all_covered rs qs ≡ false
number-apart top rs qs k r within is n h =
    let held : holds rs r.low ≡ true = ap (λ (x : Range). holds rs x.low) is ∙ holds-at 0 top rs k r within n in
    false_from_ne_true (all_covered rs qs)
    (λ e. both_ways (holds qs r.low) h (covered-subset rs qs r.low e held))

source-normal : (f : Family) (t : Term) → IsNormal 0 (top_address f) (source_in f t).ranges
source-normal V4 t = normal-at t.src4 (top_address V4) t.sound.src4_top t.sound.src4_normal
source-normal V6 t = normal-at t.src6 (top_address V6) t.sound.src6_top t.sound.src6_normal

source-top : (f : Family) (t : Term) → (source_in f t).top ≡ top_address f
source-top V4 t = t.sound.src4_top
source-top V6 t = t.sound.src6_top

destination-top : (f : Family) (t : Term) → (destination_in f t).top ≡ top_address f
destination-top V4 t = t.sound.dst4_top
destination-top V6 t = t.sound.dst6_top

either-normal : (f : Family) (t : Term) → IsNormal 0 (top_address f) (either_in f t).ranges
either-normal V4 t = normal-at t.addr4 (top_address V4) t.sound.addr4_top t.sound.addr4_normal
either-normal V6 t = normal-at t.addr6 (top_address V6) t.sound.addr6_top t.sound.addr6_normal

-- Of three sets.
pub some-law : (top : ℕ) (a b c other : Numbers) → IsNormal 0 top a.ranges → IsNormal 0 top b.ranges
    → IsNormal 0 top c.ranges → IsNormal 0 top other.ranges
    → (some_within (a ∷ b ∷ c ∷ []) other ≡ true) ↔ SomeLiesWithin (a ∷ b ∷ c ∷ []) other
some-law top a b c other n m k l =
    let x = lies_within a other in
    let y = lies_within b other in
    let z = lies_within c other in
    let p = within-law top a other n l in
    let q = within-law top b other m l in
    let r = within-law top c other k l in (
      λ h. elim (or_cases x (y || (z || false)) h) [
        | inl s ↦ inl (p.0 s)
        | inr u ↦ elim (or_cases y (z || false) u) [
          | inl s ↦ inr (inl (q.0 s))
          | inr v ↦ elim (or_cases z false v) [
            | inl s ↦ inr (inr (inl (r.0 s)))
            | inr w ↦ absurd (both_ways false refl w)
          ]
        ]
      ],
      λ w. elim w [
        | inl s ↦ or_left x (y || (z || false)) (p.1 s)
        | inr u ↦ or_right x (y || (z || false)) (elim u [
          | inl s ↦ or_left y (z || false) (q.1 s)
          | inr v ↦ or_right y (z || false) (elim v [
            | inl s ↦ or_left z false (r.1 s)
            | inr e ↦ absurd e
          ])
        ])
      ],
    )

destination-normal : (f : Family) (t : Term) → IsNormal 0 (top_address f) (destination_in f t).ranges
destination-normal V4 t = normal-at t.dst4 (top_address V4) t.sound.dst4_top t.sound.dst4_normal
destination-normal V6 t = normal-at t.dst6 (top_address V6) t.sound.dst6_top t.sound.dst6_normal

-- ---- all numbers but one

-- what the test says of a number that is not the one
other-held : (k : ℕ) (qs : List Range) (r : Range) (n : ℕ) → has_others k qs r ≡ true → inside r n ≡ true
    → (n == k) ≡ false → holds qs n ≡ true
other-held k qs r n a i o =
    let e = ends_of r.low r.high n i in
    let p = and_parts (has_below k qs r) (has_above k qs r) a in
    elim (cases_lt n k) [
      | inl below ↦ elim (or_cases (nat_le k r.low) (covers qs r.low (min r.high (k - 1))) p.0) [
        | inl l ↦ let c = leb-true k r.low l in absurd (omega arith)
        | inr c ↦ covers-holds qs r.low (min r.high (k - 1)) n c e.0 (omega arith)
      ]
      | inr above ↦ let other = eqb-false n k o in
          elim (or_cases (nat_le r.high k) (covers qs (max r.low (k + 1)) r.high) p.1) [
            | inl l ↦ let c = leb-true r.high k l in absurd (other (omega arith))
            | inr c ↦ elim (cases_lt k n) [
              | inl past ↦ covers-holds qs (max r.low (k + 1)) r.high n c (omega arith) e.1
              | inr same ↦ absurd (other (omega arith))
            ]
          ]
    ]

others-held : (k : ℕ) (qs rs : List Range) (n : ℕ) → list_all (has_others k qs) rs ≡ true
    → holds rs n ≡ true → (n == k) ≡ false → holds qs n ≡ true
others-held k qs [] n a h o = absurd (both_ways false refl h)
others-held k qs (r ∷ rs) n a h o =
    let p = and_parts (has_others k qs r) (list_all (has_others k qs) rs) a in
    elim (or_cases (inside r n) (holds rs n) h) [
      | inl i ↦ other-held k qs r n p.0 i o
      | inr i ↦ others-held k qs rs n p.1 i o
    ]

-- and back
all-below : (k top : ℕ) (qs : List Range) (r : Range) → IsNormal 0 top qs → r.low ≤ r.high
    → ((x : ℕ) → r.low ≤ x → x ≤ r.high → (x == k) ≡ false → holds qs x ≡ true) → has_below k qs r ≡ true
all-below k top qs r m l h = elim (cases_lt r.low k) [
  | inl below ↦ or_right (nat_le k r.low) (covers qs r.low (min r.high (k - 1)))
      (holds-covers 0 top qs r.low (min r.high (k - 1)) m (omega arith)
      (λ x a b. h x a (omega arith) (ne_eqb x k (λ e. omega arith))))
  | inr above ↦ or_left (nat_le k r.low) (covers qs r.low (min r.high (k - 1))) (le-leb k r.low above)
]

all-above : (k top : ℕ) (qs : List Range) (r : Range) → IsNormal 0 top qs → r.low ≤ r.high
    → ((x : ℕ) → r.low ≤ x → x ≤ r.high → (x == k) ≡ false → holds qs x ≡ true) → has_above k qs r ≡ true
all-above k top qs r m l h = elim (cases_lt k r.high) [
  | inl above ↦ or_right (nat_le r.high k) (covers qs (max r.low (k + 1)) r.high)
      (holds-covers 0 top qs (max r.low (k + 1)) r.high m (omega arith)
      (λ x a b. h x (omega arith) b (ne_eqb x k (λ e. omega arith))))
  | inr below ↦ or_left (nat_le r.high k) (covers qs (max r.low (k + 1)) r.high) (le-leb r.high k below)
]

all-others : (k f top : ℕ) (qs rs : List Range) → IsNormal f top rs → IsNormal 0 top qs
    → ((x : ℕ) → holds rs x ≡ true → (x == k) ≡ false → holds qs x ≡ true)
    → list_all (has_others k qs) rs ≡ true
all-others k f top qs [] n m h = refl
all-others k f top qs (r ∷ rs) n m h =
    let here : (x : ℕ) → r.low ≤ x → x ≤ r.high → (x == k) ≡ false → holds qs x ≡ true =
    λ x a b o. h x (or_left (inside r x) (holds rs x) (in_range r.low r.high x a b)) o in
    and_from (has_others k qs r) (list_all (has_others k qs) rs)
    (and_from (has_below k qs r) (has_above k qs r) (all-below k top qs r m n.1 here)
    (all-above k top qs r m n.1 here))
    (all-others k (r.high + 2) top qs rs n.3 m (λ x e o. h x (or_right (inside r x) (holds rs x) e) o))

-- ---- protocols

-- the number is one of the set's in a family whose foreign number is k
abbrev has : ℕ → Numbers → ℕ → Bool
has k s n = holds s.ranges n && (is_all s || not (n == k))

abbrev within_but : ℕ → Numbers → Numbers → Bool
within_but k s m = is_all s || (not (is_all m) && list_all (has_others k s.ranges) m.ranges)

all-held : (s : Numbers) (n : ℕ) → is_all s ≡ true → n ≤ s.top → holds s.ranges n ≡ true
all-held s n a l = covers-holds s.ranges 0 s.top n a (omega arith) l

but-held : (k : ℕ) (s m : Numbers) → s.top ≡ m.top → IsNormal 0 m.top m.ranges → within_but k s m ≡ true
    → (n : ℕ) → has k m n ≡ true → has k s n ≡ true
but-held k s m top normal h n held =
    let p = and_parts (holds m.ranges n) (is_all m || not (n == k)) held in
    elim (or_cases (is_all s) (not (is_all m) && list_all (has_others k s.ranges) m.ranges) h) [
      | inl all ↦ let l = at_top 0 m.top m.ranges n normal p.0 in
          and_from (holds s.ranges n) (is_all s || not (n == k)) (all-held s n all (omega arith))
          (or_left (is_all s) (not (n == k)) all)
      | inr some ↦ let q = and_parts (not (is_all m)) (list_all (has_others k s.ranges) m.ranges) some in
          elim (or_cases (is_all m) (not (n == k)) p.1) [
            | inl all ↦ absurd (both_ways (is_all m) ((true-not (is_all m)).0 q.0) all)
            | inr other ↦ and_from (holds s.ranges n) (is_all s || not (n == k))
                (others-held k s.ranges m.ranges n q.1 p.0 ((true-not (n == k)).0 other))
                (or_right (is_all s) (not (n == k)) other)
          ]
    ]

-- what lies in a set in which all lies
past-all : (top : ℕ) (s e other : Numbers) → s.top ≡ top → is_all s ≡ true → IsNormal 0 top e.ranges
    → LiesWithin s other → LiesWithin e other
past-all top s e other same all n lies x held =
    let l = at_top 0 top e.ranges x n held in
    lies x (all-held s x all (omega arith))

-- Where all sources and destinations are asked, the addresses that are asked of either lie within those of the other.
pub either-alone : (f : Family) (i j : Term) → is_all (source_in f j) ≡ true → is_all (destination_in f j) ≡ true
    → SomeLiesWithin (either_in f j ∷ source_in f j ∷ destination_in f j ∷ []) (either_in f i)
    → LiesWithin (either_in f j) (either_in f i)
either-alone f i j source destination w = elim w [
  | inl lies ↦ lies
  | inr u ↦ elim u [
    | inl lies ↦ past-all (top_address f) (source_in f j) (either_in f j) (either_in f i) (source-top f j) source
        (either-normal f j) lies
    | inr v ↦ elim v [
      | inl lies ↦ past-all (top_address f) (destination_in f j) (either_in f j) (either_in f i) (destination-top f j)
          destination (either-normal f j) lies
      | inr e ↦ absurd e
    ]
  ]
]

-- the foreign number is not in a set that is not all
foreign-out : (k : ℕ) (s : Numbers) → is_all s ≡ false → has k s k ≡ true → ⊥
foreign-out k s e h =
    let p = and_parts (holds s.ranges k) (is_all s || not (k == k)) h in
    elim (or_cases (is_all s) (not (k == k)) p.1) [
      | inl all ↦ both_ways (is_all s) e all
      | inr other ↦ both_ways (k == k) ((true-not (k == k)).0 other) (eq-eqb k k refl)
    ]

but-back : (k : ℕ) (s m : Numbers) → s.top ≡ m.top → k ≤ m.top → IsNormal 0 s.top s.ranges
    → IsNormal 0 m.top m.ranges → ((n : ℕ) → has k m n ≡ true → has k s n ≡ true) → within_but k s m ≡ true
but-back k s m top fits n normal h = elim (cases_Bool (is_all s)) [
  | inl all ↦ or_left (is_all s) (not (is_all m) && list_all (has_others k s.ranges) m.ranges) all
  | inr part ↦ or_right (is_all s) (not (is_all m) && list_all (has_others k s.ranges) m.ranges)
      (and_from (not (is_all m)) (list_all (has_others k s.ranges) m.ranges)
      ((true-not (is_all m)).1 (false_from_ne_true (is_all m) (λ all. foreign-out k s part
      (h k (and_from (holds m.ranges k) (is_all m || not (k == k)) (all-held m k all fits)
      (or_left (is_all m) (not (k == k)) all))))))
      (all-others k 0 m.top s.ranges m.ranges normal (normal-at s m.top top n)
      (λ x held o. (and_parts (holds s.ranges x) (is_all s || not (x == k))
      (h x (and_from (holds m.ranges x) (is_all m || not (x == k)) held
      (or_right (is_all m) (not (x == k)) ((true-not (x == k)).1 o))))).0)))
]

foreign-fits : (f : Family) (top : ℕ) → top ≡ 255 → foreign_of f ≤ top
foreign-fits V4 top e = omega arith
foreign-fits V6 top e = omega arith

protocols-law : (f : Family) (i j : Term)
    → (protocols_within f i j ≡ true) ↔ ((n : ℕ) → has_protocol f j n ≡ true → has_protocol f i n ≡ true)
protocols-law f i j =
    let tops = field_tops j i Protocol in (
      λ h. but-held (foreign_of f) i.protos j.protos tops (j.sound.normal Protocol) h,
      λ h. but-back (foreign_of f) i.protos j.protos tops (foreign-fits f j.protos.top (j.sound.tops Protocol))
          (i.sound.normal Protocol) (j.sound.normal Protocol) h,
    )

-- ---- families

-- What the tests by family say: all of `LiesWithinIn` but for the other fields.
pub record AddressesWithin (f : Family) (i j : Term) : Type 0 where
  pub source : LiesWithin (source_in f j) (source_in f i)
  pub destination : LiesWithin (destination_in f j) (destination_in f i)
  pub either : SomeLiesWithin (either_in f j ∷ source_in f j ∷ destination_in f j ∷ []) (either_in f i)
  pub protocols : (n : ℕ) → has_protocol f j n ≡ true → has_protocol f i n ≡ true

pub record AddressesWithinInEach (i j : Term) : Type 0 where
  pub some : (IsEmptyIn V4 j × IsEmptyIn V6 j) → ⊥
  pub each : (f : Family) → (IsEmptyIn f j → ⊥) → AddressesWithin f i j

in-law : (f : Family) (i j : Term) → (lies_within_in f i j ≡ true) ↔ AddressesWithin f i j
in-law f i j =
    let a = lies_within (source_in f j) (source_in f i) in
    let b = lies_within (destination_in f j) (destination_in f i) in
    let source = within-law (top_address f) (source_in f j) (source_in f i) (source-normal f j) (source-normal f i) in
    let destination = within-law (top_address f) (destination_in f j) (destination_in f i) (destination-normal f j)
    (destination-normal f i) in
    let c = some_within (either_in f j ∷ source_in f j ∷ destination_in f j ∷ []) (either_in f i) in
    let either = some-law (top_address f) (either_in f j) (source_in f j) (destination_in f j) (either_in f i)
    (either-normal f j) (source-normal f j) (destination-normal f j) (either-normal f i) in
    let protocols = protocols-law f i j in (
      λ h. let p = and_parts (addresses_within f i j) (protocols_within f i j) h in
          let q = and_parts (a && b) c p.0 in
          let r = and_parts a b q.0 in
          record {
            source = source.0 r.0;
            destination = destination.0 r.1;
            either = either.0 q.1;
            protocols = protocols.0 p.1;
          },
      λ w. and_from (addresses_within f i j) (protocols_within f i j)
          (and_from (a && b) c (and_from a b (source.1 w.source) (destination.1 w.destination)) (either.1 w.either))
          (protocols.1 w.protocols),
    )

fits-law : (f : Family) (i j : Term) → (fits_in f i j ≡ true) ↔ ((IsEmptyIn f j → ⊥) → AddressesWithin f i j)
fits-law f i j =
    let empty = empty-law f j in
    let within = in-law f i j in (
      λ h some. elim (or_cases (is_empty_in f j) (lies_within_in f i j) h) [
        | inl e ↦ absurd (some (empty.0 e))
        | inr w ↦ within.0 w
      ],
      λ h. elim (cases_Bool (is_empty_in f j)) [
        | inl e ↦ or_left (is_empty_in f j) (lies_within_in f i j) e
        | inr s ↦ or_right (is_empty_in f j) (lies_within_in f i j)
            (within.1 (h (λ e. both_ways (is_empty_in f j) s (empty.1 e))))
      ],
    )

in-both : (P : Family → Type 0) → P V4 → P V6 → (f : Family) → P f
in-both P p q V4 = p
in-both P p q V6 = q

pub each-law : (i j : Term) → (lies_within_in_each i j ≡ true) ↔ AddressesWithinInEach i j
each-law i j =
    let empty : Bool = is_empty_in V4 j && is_empty_in V6 j in
    let fits : Bool = fits_in V4 i j && fits_in V6 i j in (
      λ h. let p = and_parts (not empty) fits h in
          let q = and_parts (fits_in V4 i j) (fits_in V6 i j) p.1 in
          record {
            some = λ e. both_ways empty ((true-not empty).0 p.0)
                (and_from (is_empty_in V4 j) (is_empty_in V6 j) ((empty-law V4 j).1 e.0) ((empty-law V6 j).1 e.1));
            each = in-both (λ f. (IsEmptyIn f j → ⊥) → AddressesWithin f i j) ((fits-law V4 i j).0 q.0)
                ((fits-law V6 i j).0 q.1);
          },
      λ w. and_from (not empty) fits
          ((true-not empty).1 (false_from_ne_true empty (λ e. let p = and_parts (is_empty_in V4 j) (is_empty_in V6 j) e in
          w.some ((empty-law V4 j).0 p.0, (empty-law V6 j).0 p.1))))
          (and_from (fits_in V4 i j) (fits_in V6 i j) ((fits-law V4 i j).1 (w.each V4)) ((fits-law V6 i j).1 (w.each V6))),
    )
