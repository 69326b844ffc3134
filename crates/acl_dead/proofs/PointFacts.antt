-- What is found among the places of values is found among the points.
use Rattle.std.proofs.Common.{◌≡◌, ℕ, ◌<◌, length, get_or, true, ◌&&◌, List, [], ◌∷◌, refl, sym, ap, ◌∙◌, subst, arith, inl, inr, None}
use Rattle.std.proofs.lemmas.Bool.{cases_order}
use Rattle.std.specs.List.{All}
use Rattle.std.specs.List.Sorted.{IsStrictlyIncreasing}
use Rattle.std.proofs.lemmas.List.Elements.{Contains-get_or}
use Rattle.std.proofs.lemmas.List.Kept.{AllPairs-from_increasing}
use Rattle.std.proofs.lemmas.List.{get_or_default}
use Rattle.acl_sets.specs.Ranges.{holds}
use Rattle.acl_dead.specs.declared.axes.Axis.{Axis}
use Rattle.acl_dead.specs.Order.{IsBefore}
use Rattle.acl_dead.specs.Boxes.{FindsClear, IsAsked, IsClear, IsFirstClear, IsOnGrid, IsReady, is_inside, side_of}
use Rattle.acl_dead.specs.SearchSteps.{FindsOutside, IsFirstOutside, IsOutside, IsPlace, IsSized, box_has, numbers_of}
use Rattle.acl_dead.proofs.RoundingLaws.{rounding, all_later}

pub all_sized : (boxes : ℕ) (axes : List Axis) → All (IsReady boxes) axes → All (IsSized boxes) axes
all_sized boxes axes ready k d lt = let here : IsReady boxes (get_or axes k d) = ready k d lt in
    record { sides = here.sides; rising = here.rising }

-- a place has a point of the grid
pub place_grid : (axes : List Axis) (p : List ℕ) → IsPlace axes p → IsOnGrid axes (numbers_of axes p)
place_grid [] [] place = tt
place_grid [] (i ∷ p) place = absurd place
place_grid (a ∷ axes) [] place = absurd place
place_grid (a ∷ axes) (i ∷ p) place = (Contains-get_or a.values.items i 0 place.0, place_grid axes p place.1)

-- a box has the place where it has the point
pub same_inside : (axes : List Axis) (p : List ℕ) (b : ℕ) → IsPlace axes p
    → box_has axes p b ≡ is_inside axes (numbers_of axes p) b
same_inside [] p b place = refl
same_inside (a ∷ axes) [] b place = absurd place
same_inside (a ∷ axes) (i ∷ p) b place =
    ap (λ t. holds (side_of a b) (get_or a.values.items i 0) && t) (same_inside axes p b place.1)

-- a point of the grid has a place
pub grid_place : (axes : List Axis) (ys : List ℕ) → IsOnGrid axes ys
    → (p : List ℕ) × IsPlace axes p × (numbers_of axes p ≡ ys)
grid_place [] [] grid = ([], tt, refl)
grid_place [] (y ∷ ys) grid = absurd grid
grid_place (a ∷ axes) [] grid = absurd grid
grid_place (a ∷ axes) (y ∷ ys) grid =
    let h = grid.0 in
    let rest = grid_place axes ys grid.1 in
    let e : get_or a.values.items h.0 0 ≡ y = get_or_default a.values.items h.0 0 y h.1 ∙ h.2 in
    (h.0 ∷ rest.0, (h.1, rest.1), ap (λ z. z ∷ numbers_of axes rest.0) e ∙ ap (λ zs. y ∷ zs) rest.2)

-- the order of points is that of places
rises : (xs : List ℕ) (i j : ℕ) → IsStrictlyIncreasing xs → i < j → j < length xs → get_or xs i 0 < get_or xs j 0
rises xs i j rising less within = AllPairs-from_increasing xs rising i j 0 less within

pub place_before : (boxes : ℕ) (axes : List Axis) (p q : List ℕ) → All (IsReady boxes) axes → IsPlace axes p
    → IsPlace axes q → IsBefore (numbers_of axes p) (numbers_of axes q) → IsBefore p q
place_before boxes [] p q ready pp pq is_before = absurd is_before
place_before boxes (a ∷ axes) [] q ready pp pq is_before = absurd pp
place_before boxes (a ∷ axes) (i ∷ p) [] ready pp pq is_before = absurd pq
place_before boxes (a ∷ axes) (i ∷ p) (j ∷ q) ready pp pq (inl less) =
    let here : IsReady boxes a = ready 0 a (omega arith) in
    inl (elim (cases_order i j) [
      | inl e ↦ let k : get_or a.values.items i 0 ≡ get_or a.values.items j 0 = ap (λ n. get_or a.values.items n 0) e in omega arith
      | inr other ↦ elim other [
        | inl fine ↦ fine
        | inr over ↦ let k = rises a.values.items j i here.rising over pp.0 in omega arith
      ]
    ])
place_before boxes (a ∷ axes) (i ∷ p) (j ∷ q) ready pp pq (inr same) =
    let here : IsReady boxes a = ready 0 a (omega arith) in
    inr (
      elim (cases_order i j) [
        | inl e ↦ e
        | inr other ↦ elim other [
          | inl fine ↦ let k = rises a.values.items i j here.rising fine pq.0 in absurd (let e = same.0 in omega arith)
          | inr over ↦ let k = rises a.values.items j i here.rising over pp.0 in absurd (let e = same.0 in omega arith)
        ]
      ],
      place_before boxes axes p q (all_later (IsReady boxes) a axes ready) pp.1 pq.1 same.1,
    )

grid_asked : (boxes : ℕ) (axes : List Axis) (ys : List ℕ) → All (IsReady boxes) axes → IsOnGrid axes ys → IsAsked axes ys
grid_asked boxes [] [] ready grid = tt
grid_asked boxes [] (y ∷ ys) ready grid = absurd grid
grid_asked boxes (a ∷ axes) [] ready grid = absurd grid
grid_asked boxes (a ∷ axes) (y ∷ ys) ready grid =
    let here : IsReady boxes a = ready 0 a (omega arith) in
    (here.owned y grid.0, grid_asked boxes axes ys (all_later (IsReady boxes) a axes ready) grid.1)

clear_outside : (axes : List Axis) (boxes : ℕ) (p ys : List ℕ) → IsPlace axes p
    → numbers_of axes p ≡ ys → IsClear axes boxes ys → IsOutside axes boxes p
clear_outside axes boxes p ys place e clear b lt at =
    clear b lt (subst (λ (zs : List ℕ). is_inside axes zs b ≡ true) e (sym (same_inside axes p b place) ∙ at))

pub clear_some : (boxes : ℕ) (axes : List Axis) → All (IsReady boxes) axes → (p ys : List ℕ)
    → ys ≡ numbers_of axes p → IsFirstOutside axes boxes p → IsFirstClear axes boxes ys
clear_some boxes axes ready p ys is found =
    subst (λ (zs : List ℕ). IsFirstClear axes boxes zs) (sym is)
    (let grid = place_grid axes p found.within in
    record {
      asked = grid_asked boxes axes (numbers_of axes p) ready grid;
      on_grid = grid;
      clear = λ b lt at. found.outside b lt (same_inside axes p b found.within ∙ at);
      first = λ qs on is_before clear.
          let g = grid_place axes qs on in
          found.first g.0 g.1
          (place_before boxes axes g.0 p ready g.1 found.within
          (subst (λ (zs : List ℕ). IsBefore zs (numbers_of axes p)) (sym g.2) is_before))
          (clear_outside axes boxes g.0 qs g.1 g.2 clear);
    })

pub clear_none : (boxes : ℕ) (axes : List Axis) → All (IsReady boxes) axes → FindsOutside axes boxes None
    → FindsClear axes boxes None
clear_none boxes axes ready none xs asked clear =
    let r = rounding boxes axes ready xs asked in
    let g = grid_place axes r.0 r.1.on_grid in
    none g.0 g.1
    (clear_outside axes boxes g.0 r.0 g.1 g.2 (λ b lt at. clear b lt (r.1.no_new_box b at)))
