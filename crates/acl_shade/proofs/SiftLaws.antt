-- Terms that are sifted out do not shade.
use Rattle.std.proofs.Common.{◌≡◌, ◌⊎◌, ℕ, ◌+◌, ◌*◌, ◌/◌, ◌%◌, ◌^◌, ◌<◌, ◌≤◌, ◌-◌, Bool, true, false, cond, not, ◌&&◌, ◌||◌, nat_lt, List, length, take, get_or, None, Some, inl, inr, ap, sym, ◌∙◌, subst, arith}
use Rattle.std.specs.Int.{bit_at}
use Rattle.std.specs.List.{list_all, list_any, position}
use Rattle.std.proofs.lemmas.List.{get_or-take, get_or_default, length-take-le}
use Rattle.std.proofs.lemmas.Bool.{and_parts, both_ways, cases_eq, cases_lt, false_from_ne_true, le-ltb, lt-ltb}
use Rattle.std.proofs.lemmas.List.Sums.{position_or_len_is}
use Rattle.std.proofs.lemmas.Nat.{row_fits, shr-shr}
use Rattle.std.proofs.lemmas.Nat.Bits.{bit_at-zero, bit_at_ones}
use Rattle.acl_packet.specs.declared.addresses.Family.{Family}
use Rattle.acl_host.specs.declared.days.Day.{Day}
use Rattle.acl_sets.specs.ComputableSets.{is_all}
use Rattle.acl_sets.specs.Ranges.{Numbers, holds}
use Rattle.acl_target.specs.declared.targets.Target.{Target}
use Rattle.acl_terms.specs.declared.terms.Term.{Term}
use Rattle.acl_terms.specs.Resolved.{destination_in, is_empty_in, is_term_live, source_in}
use Rattle.acl_terms.specs.Soundness.{is_protocol}
use Rattle.acl_terms.proofs.EmptyLaws.{empty-law}
use Rattle.acl_terms.proofs.TestLaws.{true-not}
use Rattle.acl_shade.specs.ComputableShading.{is_live_where, lies_within_in_each, numbers_within, option_covers, shaded_by, shades}
use Rattle.acl_shade.specs.Shading.{LiesWithin, LiesWithinIn}
use Rattle.acl_shade.specs.declared.parts.Part.{Part}
use Rattle.acl_shade.specs.declared.parts.Part.TheVariants.{Numbered, Source, Destination, Either}
use Rattle.acl_shade.specs.Sifting.{AreMarked, KeepsShading, KeepsWithin, LeavesShading, RowHas, asks_either_alone, is_asked, part_of}
use Rattle.acl_shade.specs.declared.marks.Marks.{Marks}
use Rattle.acl_shade.specs.Marking.{KeepsBeside, MarksMore}
use Rattle.acl_shade.proofs.BitLaws.{from-row, to-row}
use Rattle.acl_shade.proofs.FamilyLaws.{either-alone}
use Rattle.acl_shade.proofs.PlaceLaws.{place-is}
use Rattle.acl_shade.proofs.ShadingLaws.{others-within, shading-law}

-- ---- what a shading term has

-- A term that shades is live where the other is.
pub shading-lives : (targets : List Target) (today : Day) (i j : Term) → shades targets today i j ≡ true
    → is_live_where targets today i j ≡ true
unfolding shades
shading-lives targets today i j h =
    let p = and_parts (numbers_within i j && option_covers i.option i.dport_named j.option j.dport_named)
    (lies_within_in_each i j && is_live_where targets today i j) h in
    (and_parts (lies_within_in_each i j) (is_live_where targets today i j) p.1).1

-- The addresses of a family in which the term is not empty lie within those of one that shades it.
within-in : (targets : List Target) (today : Day) (i j : Term) (f : Family) → shades targets today i j ≡ true
    → not (is_empty_in f j) ≡ true → LiesWithinIn f i j
within-in targets today i j f h some =
    ((shading-law targets today i j).0 h).packets.each f
    (λ e. both_ways (is_empty_in f j) ((true-not (is_empty_in f j)).0 some) ((empty-law f j).1 e))

-- So do the parts that are asked.
pub part-within : (targets : List Target) (today : Day) (part : Part) (i j : Term) → shades targets today i j ≡ true
    → is_asked part j ≡ true → LiesWithin (part_of part j) (part_of part i)
part-within targets today (Numbered field) i j h asked =
    others-within i j ((shading-law targets today i j).0 h).packets field ((true-not (is_protocol field)).0 asked)
part-within targets today (Source f) i j h asked = (within-in targets today i j f h asked).source
part-within targets today (Destination f) i j h asked = (within-in targets today i j f h asked).destination
part-within targets today (Either f) i j h asked =
    let p = and_parts (not (is_empty_in f j)) (asks_either_alone f j) asked in
    let q = and_parts (is_all (source_in f j)) (is_all (destination_in f j)) p.1 in
    either-alone f i j q.0 q.1 (within-in targets today i j f h p.0).either

-- ---- a part is sifted

pub keeps-shading : (width : ℕ) (part : Part) (terms : List Term) (old new : List ℕ)
    → KeepsWithin width part terms old new → KeepsShading width terms old new
keeps-shading width part terms old new kept left targets today i j d before within h =
    kept i j d before within (λ asked. part-within targets today part (get_or terms i d) (get_or terms j d) h asked)
    (left targets today i j d before within h)

-- Another row is beside this one.
pub beside-row : (width row other bit : ℕ) → (other < row) ⊎ (row < other) → bit < 64 * width
    → (64 * (other * width) + bit < 64 * (row * width)) ⊎ (64 * (row * width + width) ≤ 64 * (other * width) + bit)
beside-row width row other bit apart within = elim apart [
  | inl below ↦ let fits = row_fits other width row width below (omega arith) in inl (omega arith)
  | inr above ↦ let fits = row_fits row width other width above (omega arith) in inr (omega arith)
]

-- Another row stays.
pub other-row : (width row other bit : ℕ) (old new : List ℕ) → KeepsBeside row width old new
    → (other < row) ⊎ (row < other) → bit < 64 * width → RowHas width old other bit → RowHas width new other bit
other-row width row other bit old new kept apart within h =
    kept.beside (64 * (other * width) + bit) (beside-row width row other bit apart within) h

-- The marks of a term stay.
pub still-marked : (width : ℕ) (a b : Marks) → MarksMore a b → (i : ℕ) (s : Numbers)
    → AreMarked width a.points.items a.rows.items i s → AreMarked width b.points.items b.rows.items i s
still-marked width a b more i s marked k within h =
    more.keeps (64 * (k * width) + i) (marked k (subst (λ ps. k < length ps) more.points within)
    (subst (λ ps. holds s.ranges (get_or ps k 0) ≡ true) more.points h))

module _ (width : ℕ) (part : Part) (terms : List Term) (place : ℕ) (t : Term) (within : place < length terms)
    (is : t ≡ get_or terms place t) where
  there : (n : ℕ) (d : Term) → n ≡ place → get_or terms n d ≡ t
  there n d same = ap (λ k. get_or terms k d) same ∙ get_or_default terms place d t within ∙ sym is

  -- One term more is marked.
  pub marked-more : (a b : Marks) → MarksMore a b → b.width ≡ width
      → ((i : ℕ) (d : Term) → i < place → AreMarked width a.points.items a.rows.items i (part_of part (get_or terms i d)))
      → AreMarked b.width b.points.items b.rows.items place (part_of part t)
      → (i : ℕ) (d : Term) → i < place + 1
      → AreMarked width b.points.items b.rows.items i (part_of part (get_or terms i d))
  marked-more a b more same old new i d before = elim (cases_lt i place) [
    | inl past ↦ still-marked width a b more i (part_of part (get_or terms i d)) (old i d past)
    | inr behind ↦
        let here : i ≡ place = omega arith in
        subst (λ n. AreMarked width b.points.items b.rows.items n (part_of part (get_or terms i d))) (sym here)
        (subst (λ (u : Term). AreMarked width b.points.items b.rows.items place (part_of part u)) (sym (there i d here))
        (subst (λ v. AreMarked v b.points.items b.rows.items place (part_of part t)) same new))
  ]

  -- The term's row keeps who has all that it has, and other rows stay.
  pub keeps-more : (points rows first old new : List ℕ) → length terms ≤ 64 * width
      → ((i : ℕ) (d : Term) → i < place → AreMarked width points rows i (part_of part (get_or terms i d)))
      → KeepsBeside place width old new
      → ((e : ℕ) → e < 64 * width → (is_asked part t ≡ true → AreMarked width points rows e (part_of part t))
      → RowHas width old place e → RowHas width new place e)
      → KeepsWithin width part terms first old → KeepsWithin width part terms first new
  keeps-more points rows first old new fits marked beside row kept i j d before inside lies has =
      let yet : RowHas width old j i = kept i j d before inside lies has in
      elim (cases_eq j place) [
        | inl here ↦
            let mine : is_asked part t ≡ true → LiesWithin (part_of part t) (part_of part (get_or terms i d)) =
            subst (λ (u : Term). is_asked part u ≡ true → LiesWithin (part_of part u) (part_of part (get_or terms i d)))
            (there j d here) lies in
            subst (λ n. RowHas width new n i) (sym here)
            (row i (omega arith) (λ asked k small h. marked i d (omega arith) k small (mine asked (get_or points k 0) h))
            (subst (λ n. RowHas width old n i) here yet))
        | inr other ↦ other-row width place j i old new beside (elim (cases_lt j place) [
          | inl below ↦ inl below
          | inr above ↦ inr (omega (arith, above, other))
        ]) (omega arith) yet
      ]

-- At first all are left.
pub all-left : (width : ℕ) (terms : List Term) (left : List ℕ) → length terms ≤ 64 * width
    → length left ≡ length terms * width → ((k : ℕ) → k < length left → get_or left k 0 ≡ 2 ^ 64 - 1)
    → LeavesShading width terms left
all-left width terms left fits size all targets today i j d before within h =
    let row = row_fits j width (length terms) width within (omega arith) in
    to-row left (j * width) i (ap (λ x. bit_at x (i % 64)) (all (j * width + i / 64) (omega arith))
    ∙ bit_at_ones 64 (i % 64) (omega arith))

-- ---- the first one that shades

-- A place at which the test passes, and no earlier one, is the position.
pub position-at : {X : Type 0} (p : X → Bool) (xs : List X) (k : ℕ) (d : X) → k < length xs → p (get_or xs k d) ≡ true
    → ((i : ℕ) → i < k → p (get_or xs i d) ≡ false) → Some k ≡ position p xs
position-at p xs k d within here before =
    let first = position_or_len_is p xs k d (omega arith) before (λ _. here) in
    sym (ap (λ n. cond (nat_lt n (length xs)) (Some n) None) first
    ∙ ap (λ t. cond t (Some k) None) (lt-ltb k (length xs) within))

pub position-none : {X : Type 0} (p : X → Bool) (xs : List X) (d : X)
    → ((i : ℕ) → i < length xs → p (get_or xs i d) ≡ false) → None ≡ position p xs
position-none p xs d none =
    let past = position_or_len_is p xs (length xs) d (omega arith) none (λ w. absurd (omega (arith, w))) in
    sym (ap (λ n. cond (nat_lt n (length xs)) (Some n) None) past
    ∙ ap (λ t. cond t (Some (length xs)) None) (le-ltb (length xs) (length xs) (omega arith)))

-- What a shift leaves nothing of has no bit from there on.
pub none-behind : (word from bit : ℕ) → word / 2 ^ from ≡ 0 → from ≤ bit → bit_at word bit ≡ 0
none-behind word from bit none behind =
    let rest : from + (bit - from) ≡ bit = omega arith in
    ap (λ n. bit_at word n) (sym rest) ∙ sym (ap (λ n. n % 2) (shr-shr word from (bit - from)))
    ∙ ap (λ n. bit_at n (bit - from)) none ∙ bit_at-zero (bit - from)

-- So of a term's row none of this word is left from this place on.
pub none-left : (width : ℕ) (left : List ℕ) (place at i : ℕ)
    → get_or left (place * width + at / 64) 0 / 2 ^ (at % 64) ≡ 0 → at ≤ i → i < (at / 64 + 1) * 64
    → RowHas width left place i → ⊥
none-left width left place at i none from to h =
    let word : i / 64 ≡ at / 64 = omega arith in
    let bit : bit_at (get_or left (place * width + at / 64) 0) (i % 64) ≡ 1 =
    ap (λ n. bit_at (get_or left (place * width + n) 0) (i % 64)) (sym word) ∙ from-row left (place * width) i h in
    let off = none-behind (get_or left (place * width + at / 64) 0) (at % 64) (i % 64) none (omega arith) in
    omega (arith, bit, off)

-- A term that is live nowhere is not shaded.
pub dead-unshaded : (targets : List Target) (today : Day) (i j : Term)
    → list_any (λ g. is_term_live j g.kind today) targets ≡ false → shades targets today i j ≡ false
dead-unshaded targets today i j dead =
    let live : Bool = list_any (λ g. is_term_live j g.kind today) targets in
    let follows : Bool = list_all (λ g. not (is_term_live j g.kind today) || is_term_live i g.kind today) targets in
    false_from_ne_true (shades targets today i j)
    (λ h. both_ways live dead (and_parts live follows (shading-lives targets today i j h)).0)

module _ (targets : List Target) (today : Day) (terms : List Term) (place : ℕ) (t : Term) (within : place < length terms)
    (is : t ≡ get_or terms place t) where
  abbrev earlier : List Term
  earlier = take place terms

  at-earlier : (i : ℕ) (b : Bool) → i < place → shades targets today (get_or terms i t) t ≡ b
      → shades targets today (get_or earlier i t) (get_or terms place t) ≡ b
  at-earlier i b before h =
      subst (λ (u : Term). shades targets today (get_or earlier i t) u ≡ b) is
      (subst (λ (x : Term). shades targets today x t ≡ b) (sym (get_or-take place terms i t before)) h)

  -- Who is not left does not shade it.
  pub unshaded-out : (left : ℕ → Type 0)
      → ((i : ℕ) (d : Term) → i < place → shades targets today (get_or terms i d) (get_or terms place d) ≡ true → left i)
      → (i : ℕ) (d : Term) → i < place → (left i → ⊥) → shades targets today (get_or terms i d) t ≡ false
  unshaded-out left kept i d before out = false_from_ne_true (shades targets today (get_or terms i d) t)
      (λ h. out (kept i t before (subst (λ (u : Term). shades targets today (get_or terms i t) u ≡ true) is
      (subst (λ (x : Term). shades targets today x t ≡ true) (get_or_default terms i d t (omega arith)) h))))

  -- Where no earlier term shades it, none is told.
  pub none-told : ((i : ℕ) (d : Term) → i < place → shades targets today (get_or terms i d) t ≡ false)
      → None ≡ shaded_by targets today terms place
  none-told none =
      let size = length-take-le place terms (omega arith) in
      place-is targets today terms place t within None
      (position-none (λ i. shades targets today i (get_or terms place t)) earlier t
      (λ i small. at-earlier i false (omega arith) (none i t (omega arith))))

  -- The first one that does is told.
  pub first-told : (k : ℕ) → k < place → shades targets today (get_or terms k t) t ≡ true
      → ((i : ℕ) (d : Term) → i < k → shades targets today (get_or terms i d) t ≡ false)
      → Some k ≡ shaded_by targets today terms place
  first-told k before h none =
      let size = length-take-le place terms (omega arith) in
      place-is targets today terms place t within (Some k)
      (position-at (λ i. shades targets today i (get_or terms place t)) earlier k t (omega arith)
      (at-earlier k true before h) (λ i small. at-earlier i false (omega arith) (none i t small)))
