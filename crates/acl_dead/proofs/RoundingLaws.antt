-- Rounding down: between a value and a number above it no run of a side ends.
use Rattle.std.proofs.Common.{◌≡◌, ℕ, ◌+◌, ◌-◌, ◌<◌, ◌≤◌, zero, suc, Contains, length, get_or, Bool, true, false, not, List, [], ◌∷◌, refl, sym, ap, ◌∙◌, subst, arith, inl, inr, ◌⊎◌}
use Rattle.std.proofs.lemmas.Bool.{and_parts, and_from, cases_lt, cases_Bool, false≢true}
use Rattle.std.specs.List.{All}
use Rattle.acl_sets.specs.Ranges.{holds}
use Rattle.acl_dead.specs.declared.axes.Axis.{Axis}
use Rattle.acl_dead.specs.Runs.{begins, has_ended}
use Rattle.acl_dead.specs.Boxes.{IsFloor, IsReady, is_own, side_of}
use Rattle.acl_dead.specs.Laws.{PointsRoundDown}

-- ---- runs

-- the low end of a number's run
pub record IsLowEnd (has : ℕ → Bool) (x low : ℕ) : Type 0 where
  pub below : low ≤ x
  pub begun : begins has low ≡ true
  pub through : (z : ℕ) → low ≤ z → z ≤ x → has z ≡ true

itself : (has : ℕ → Bool) (x : ℕ) → has x ≡ true → (z : ℕ) → x ≤ z → z ≤ x → has z ≡ true
itself has x h z from to = let e : x ≡ z = omega arith in subst (λ (y : ℕ). has y ≡ true) e h

pub low_end : (has : ℕ → Bool) (x : ℕ) → has x ≡ true → (low : ℕ) × IsLowEnd has x low
low_end has zero h = (0, record { below = omega arith; begun = and_from _ _ h refl; through = itself has 0 h })
low_end has (suc n) h = elim (cases_Bool (has n)) [
  | inl here ↦
      let r = low_end has n here in
      let below = r.1.below in (
        r.0,
        record {
          below = omega arith;
          begun = r.1.begun;
          through = λ z from to. elim (cases_lt n z) [
            | inl past ↦ itself has (suc n) h z (omega arith) to
            | inr within ↦ r.1.through z from within
          ];
        },
      )
  | inr gone ↦ (
    suc n,
    record { below = omega arith; begun = and_from _ _ h (ap not gone); through = itself has (suc n) h },
  )
]

-- a run that has a number and not a later one has ended on the way
pub run_end : (has : ℕ → Bool) (y d x : ℕ) → x ≡ d + y → has y ≡ true → has x ≡ false
    → (z : ℕ) × (y < z) × (z ≤ x) × (has_ended has z ≡ true)
run_end has y zero x e h gone =
    let same : y ≡ x = omega arith in
    absurd (false≢true (sym gone ∙ subst (λ (w : ℕ). has w ≡ true) same h))
run_end has y (suc d) x e h gone =
    let last : x ≡ suc (d + y) = omega arith in
    elim (cases_Bool (has (d + y))) [
      | inl here ↦ (
        suc (d + y),
        omega arith,
        omega arith,
        and_from _ _ (ap not (subst (λ (w : ℕ). has w ≡ false) last gone)) here,
      )
      | inr earlier ↦
          let r = run_end has y d (d + y) refl h earlier in
          let within = r.2 in (r.0, r.1, omega arith, r.3)
    ]

-- ---- the greatest value not above

at_place : (g : ℕ) (gs : List ℕ) (z k : ℕ) → k < length (g ∷ gs) → get_or (g ∷ gs) k z ≡ z → (g ≡ z) ⊎ Contains gs z
at_place g gs z zero lt at = inl at
at_place g gs z (suc k) lt at = inr (k, omega arith, at)

-- a number of a list is its first one, or one of the others
pub contains_cases : (g : ℕ) (gs : List ℕ) (z : ℕ) → Contains (g ∷ gs) z → (g ≡ z) ⊎ Contains gs z
contains_cases g gs z h = at_place g gs z h.0 h.1 h.2

pub contains_later : (g : ℕ) (gs : List ℕ) (z : ℕ) → Contains gs z → Contains (g ∷ gs) z
contains_later g gs z h = let lt = h.1 in (suc h.0, omega arith, h.2)

pub contains_first : (g : ℕ) (gs : List ℕ) (z : ℕ) → g ≡ z → Contains (g ∷ gs) z
contains_first g gs z e = (0, omega arith, e)

pub contains_none : (z : ℕ) → Contains [] z → ⊥
contains_none z h = let lt = h.1 in omega arith

abbrev NoFloor : List ℕ → ℕ → Type 0
NoFloor values x = (z : ℕ) → Contains values z → z ≤ x → ⊥

no_more : (g : ℕ) (gs : List ℕ) (x : ℕ) → x < g → NoFloor gs x → NoFloor (g ∷ gs) x
no_more g gs x over none z h le = elim (contains_cases g gs z h) [
  | inl e ↦ omega arith
  | inr later ↦ none z later le
]

keeps_floor : (g : ℕ) (gs : List ℕ) (x y : ℕ) → IsFloor gs x y → (g ≤ x → g ≤ y) → IsFloor (g ∷ gs) x y
keeps_floor g gs x y f better = record {
  among = contains_later g gs y f.among;
  below = f.below;
  greatest = λ z h le. elim (contains_cases g gs z h) [
    | inl e ↦ let b : g ≤ y = better (omega arith) in omega arith
    | inr later ↦ f.greatest z later le
  ];
}

is_floor : (g : ℕ) (gs : List ℕ) (x : ℕ) → g ≤ x → ((z : ℕ) → Contains gs z → z ≤ x → z ≤ g) → IsFloor (g ∷ gs) x g
is_floor g gs x le best = record {
  among = contains_first g gs g refl;
  below = le;
  greatest = λ z h l. elim (contains_cases g gs z h) [
    | inl e ↦ omega arith
    | inr later ↦ best z later l
  ];
}

-- a list has a greatest number not above another, or none at all
any_floor : (values : List ℕ) (x : ℕ) → ((y : ℕ) × IsFloor values x y) ⊎ NoFloor values x
any_floor [] x = inr (λ z h le. contains_none z h)
any_floor (g ∷ gs) x = elim (any_floor gs x) [
  | inl found ↦ elim (cases_lt x g) [
    | inl over ↦ inl (found.0, keeps_floor g gs x found.0 found.1 (λ le. absurd (omega arith)))
    | inr under ↦ elim (cases_lt found.0 g) [
      | inl less ↦ inl (g, is_floor g gs x under (λ z h le. let k = found.1.greatest z h le in omega arith))
      | inr more ↦ inl (found.0, keeps_floor g gs x found.0 found.1 (λ le. more))
    ]
  ]
  | inr none ↦ elim (cases_lt x g) [
    | inl over ↦ inr (no_more g gs x over none)
    | inr under ↦ inl (g, is_floor g gs x under (λ z h le. absurd (none z h le)))
  ]
]

floor : (values : List ℕ) (x z : ℕ) → Contains values z → z ≤ x → (y : ℕ) × IsFloor values x y
floor values x z h le = elim (any_floor values x) [
  | inl found ↦ found
  | inr none ↦ absurd (none z h le)
]

-- ---- rounding

-- a side that holds the floor holds the number
round_side : (boxes : ℕ) (a : Axis) (b x y low : ℕ) → IsReady boxes a → IsLowEnd (is_own a) x low
    → IsFloor a.values.items x y → low ≤ y → holds (side_of a b) y ≡ true → holds (side_of a b) x ≡ true
round_side boxes a b x y low ready run f from h = elim (cases_Bool (holds (side_of a b) x)) [
  | inl here ↦ here
  | inr gone ↦
      let below = f.below in
      let d = x - y in
      let r = run_end (λ z. holds (side_of a b) z) y d x (omega arith) h gone in
      let after = r.1 in
      let to = r.2 in
      let own = run.through r.0 (omega arith) (omega arith) in
      let k = f.greatest r.0 (ready.ended b r.0 own r.3) (omega arith) in
      absurd (omega arith)
]

pub all_later : (P : Axis → Type 0) (a : Axis) (axes : List Axis) → All P (a ∷ axes) → All P axes
all_later P a axes all k d lt = all (suc k) d (omega arith)

pub rounding : PointsRoundDown
rounding boxes [] ready [] asked = ([], record { floors = tt; asked = tt; on_grid = tt; no_new_box = λ b h. h })
rounding boxes [] ready (x ∷ xs) asked = absurd asked
rounding boxes (a ∷ axes) ready [] asked = absurd asked
rounding boxes (a ∷ axes) ready (x ∷ xs) asked =
    let here : IsReady boxes a = ready 0 a (omega arith) in
    let run = low_end (is_own a) x asked.0 in
    let f = floor a.values.items x run.0 (here.begun run.0 run.1.begun) run.1.below in
    let from = f.1.greatest run.0 (here.begun run.0 run.1.begun) run.1.below in
    let rest = rounding boxes axes (all_later (IsReady boxes) a axes ready) xs asked.1 in (
      f.0 ∷ rest.0,
      record {
        floors = (f.1, rest.1.floors);
        asked = (here.owned f.0 f.1.among, rest.1.asked);
        on_grid = (f.1.among, rest.1.on_grid);
        no_new_box = λ b h. let p = and_parts _ _ h in
            and_from _ _ (round_side boxes a b x f.0 run.0 here run.1 f.1 from p.0) (rest.1.no_new_box b p.1);
      },
    )
