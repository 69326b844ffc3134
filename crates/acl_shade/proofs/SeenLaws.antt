-- Numbers that are seen, and terms that have new ones.
use Rattle.std.proofs.Common.{◌≡◌, ℕ, ◌+◌, ◌<◌, true, false, List, [], ◌∷◌, Option, None, length, get_or, inl, inr, ap, sym, ◌∙◌, subst, arith}
use Rattle.std.proofs.lemmas.Bool.{both_ways, cases_Bool, cases_lt, false_from_ne_true}
use Rattle.std.proofs.lemmas.List.{get_or_default}
use Rattle.std.proofs.lemmas.List.Folds.{Any-from_list_any}
use Rattle.acl_sets.specs.declared.sets.Range.{Range}
use Rattle.acl_sets.specs.Ranges.{Numbers, holds, inside}
use Rattle.acl_host.specs.declared.days.Day.{Day}
use Rattle.acl_target.specs.declared.targets.Target.{Target}
use Rattle.acl_terms.specs.declared.terms.Term.{Term}
use Rattle.acl_shade.specs.ComputableShading.{shades}
use Rattle.acl_shade.specs.declared.parts.Part.{Part}
use Rattle.acl_shade.specs.declared.seen_numbers.SeenNumbers.{SeenNumbers}
use Rattle.acl_shade.specs.SeenNumbers.{HasNew, IsSeen, IsSeenAll, SeesMore}
use Rattle.acl_shade.specs.ShadedPlaces.{AreShadedPlaces}
use Rattle.acl_shade.specs.Sifting.{NoneShades, NoneShadesTo, is_asked, part_of}
use Rattle.acl_shade.proofs.SiftLaws.{none-told, part-within}

-- ---- numbers

pub sees-yet : (a b c : SeenNumbers) → SeesMore a b → SeesMore b c → SeesMore a c
sees-yet a b c m n = record {
  are = n.are;
  points = n.points ∙ m.points;
  keeps = λ k h. n.keeps k (m.keeps k h);
}

-- The numbers of all ranges are seen, so those of the set are.
pub all-seen : (m : SeenNumbers) (s : Numbers) (ranges : List Range) → ranges ≡ s.ranges
    → ((r k : ℕ) (d : Range) → r < length ranges → k < length m.points.items
    → inside (get_or ranges r d) (get_or m.points.items k 0) ≡ true → IsSeen m k)
    → IsSeenAll m s
all-seen m s ranges same seen k within h =
    let some = Any-from_list_any (λ r. inside r (get_or m.points.items k 0)) ranges
    (subst (λ rs. holds rs (get_or m.points.items k 0) ≡ true) (sym same) h) in
    seen some.0 k some.1 some.2 within
    (subst (λ (r : Range). inside r (get_or m.points.items k 0) ≡ true) (sym some.3) some.4)

-- What is not seen later was not seen before.
pub not-before : (a b : SeenNumbers) → SeesMore a b → (k : ℕ) → get_or b.seen.items k false ≡ false
    → get_or a.seen.items k false ≡ false
not-before a b more k h = elim (cases_Bool (get_or a.seen.items k false)) [
  | inl seen ↦ absurd (both_ways (get_or b.seen.items k false) h (more.keeps k seen))
  | inr not ↦ not
]

-- A set whose numbers are seen stays so.
still-seen : (a b : SeenNumbers) → SeesMore a b → (s : Numbers) → IsSeenAll a s → IsSeenAll b s
still-seen a b more s seen k within h =
    more.keeps k (seen k (subst (λ ps. k < length ps) more.points within)
    (subst (λ ps. holds s.ranges (get_or ps k 0) ≡ true) more.points h))

-- ---- terms

module _ (part : Part) (terms : List Term) (place : ℕ) (t : Term) (within : place < length terms)
    (is : t ≡ get_or terms place t) where
  there : (n : ℕ) (d : Term) → n ≡ place → get_or terms n d ≡ t
  there n d same = ap (λ k. get_or terms k d) same ∙ get_or_default terms place d t within ∙ sym is

  -- The numbers of one term more are seen.
  pub seen-more : (a b : SeenNumbers) → SeesMore a b
      → ((i : ℕ) (d : Term) → i < place → IsSeenAll a (part_of part (get_or terms i d))) → IsSeenAll b (part_of part t)
      → (i : ℕ) (d : Term) → i < place + 1 → IsSeenAll b (part_of part (get_or terms i d))
  seen-more a b more old new i d before = elim (cases_lt i place) [
    | inl past ↦ still-seen a b more (part_of part (get_or terms i d)) (old i d past)
    | inr behind ↦ subst (λ (u : Term). IsSeenAll b (part_of part u)) (sym (there i d (omega arith))) new
  ]

  -- A term that has a new number is not shaded: those before it have none that is new.
  pub none-more : (m : SeenNumbers)
      → ((i : ℕ) (d : Term) → i < place → IsSeenAll m (part_of part (get_or terms i d)))
      → is_asked part t ≡ true → HasNew m (part_of part t) → NoneShadesTo place terms → NoneShadesTo (place + 1) terms
  none-more m seen asked new none targets today i j d before to h = elim (cases_lt j place) [
    | inl past ↦ none targets today i j d before past h
    | inr behind ↦
        let lies = part-within targets today part (get_or terms i d) t
        (subst (λ (u : Term). shades targets today (get_or terms i d) u ≡ true) (there j d (omega arith)) h) asked in
        both_ways (get_or m.seen.items new.0 false) new.3
        (seen i d (omega arith) new.0 new.1 (lies (get_or m.points.items new.0 0) new.2))
  ]

-- Where none is shaded, that is what is told of each place.
pub none-places : (targets : List Target) (today : Day) (terms : List Term) (places : List (Option ℕ)) → NoneShades terms
    → length places ≡ length terms → ((k : ℕ) → k < length terms → get_or places k None ≡ None)
    → AreShadedPlaces targets today terms places
none-places targets today [] places none size each = record {
  size = size;
  each = λ place within. absurd (omega (arith, within));
}
none-places targets today (t ∷ ts) places none size each =
    let terms : List Term = t ∷ ts in
    record {
      size = size;
      each = λ place within.
          let last = get_or terms place t in
          each place within
          ∙ none-told targets today terms place last within (get_or_default terms place t last within)
          (λ i d before. false_from_ne_true (shades targets today (get_or terms i d) last)
          (λ h. none targets today i place d before within
          (subst (λ (u : Term). shades targets today (get_or terms i d) u ≡ true) (get_or_default terms place t d within) h)));
    }
