use Rattle.std.proofs.Common.{◌≡◌, ℕ, ◌<◌, nat_lt, List, [], ◌∷◌, length, map, get_or, Bor, refl, sym, ap, ◌∙◌, subst, Option, Some, None, Result, Ok, Err}
use Rattle.std.specs.Result.{IfOk}
use Rattle.std.proofs.lemmas.Bool.{ltb-true, lt-ltb}
use Rattle.acl_sets.specs.Ranges.{Numbers, holds}
use Rattle.acl_dead.specs.declared.axes.Axis.{Axis}
use Rattle.acl_dead.specs.declared.levels.Level.{Level}
use Rattle.acl_dead.specs.PlaceSteps.{has}
use Rattle.acl_dead.specs.LevelSteps.{row_of, has_point, IsPoint, IsFree, FindsFree}
use Rattle.acl_dead.specs.SearchSteps.{IsPlace, box_has, IsOutside, FindsOutside, IsLevelOf, AreLevels}

pub place_point : (cs : List Axis) (ls : List Level) (p : List ℕ) → AreLevels cs ls → IsPlace cs p → IsPoint ls p
place_point [] [] [] are place = tt
place_point [] [] (i ∷ p) are place = place
place_point [] (l ∷ ls) p are place = absurd are
place_point (c ∷ cs) [] p are place = absurd are
place_point (c ∷ cs) (l ∷ ls) [] are place = place
place_point (c ∷ cs) (l ∷ ls) (i ∷ p) are place =
    (subst (λ (n : ℕ). i < n) (sym are.0.rows) place.0, place_point cs ls p are.1 place.1)

pub point_place : (cs : List Axis) (ls : List Level) (p : List ℕ) → AreLevels cs ls → IsPoint ls p → IsPlace cs p
point_place [] [] [] are point = tt
point_place [] [] (i ∷ p) are point = point
point_place [] (l ∷ ls) p are point = absurd are
point_place (c ∷ cs) [] p are point = absurd are
point_place (c ∷ cs) (l ∷ ls) [] are point = point
point_place (c ∷ cs) (l ∷ ls) (i ∷ p) are point =
    (subst (λ (n : ℕ). i < n) are.0.rows point.0, point_place cs ls p are.1 point.1)

pub same_box : (cs : List Axis) (ls : List Level) (p : List ℕ) (b : ℕ) → AreLevels cs ls → IsPlace cs p
    → has_point ls p b ≡ box_has cs p b
same_box [] [] p b are place = refl
same_box [] (l ∷ ls) p b are place = absurd are
same_box (c ∷ cs) [] p b are place = absurd are
same_box (c ∷ cs) (l ∷ ls) [] b are place = refl
same_box (c ∷ cs) (l ∷ ls) (i ∷ p) b are place =
    rw (are.0.bits i b place.0, same_box cs ls p b are.1 place.1) refl

abbrev pub AreBelow : List ℕ → ℕ → Type 0
AreBelow all boxes = (b : ℕ) → has all b ≡ nat_lt b boxes

pub outside_free : (cs : List Axis) (ls : List Level) (all : List ℕ) (boxes : ℕ) → AreLevels cs ls → AreBelow all boxes
    → (p : List ℕ) → IsPlace cs p → IsOutside cs boxes p → IsFree ls all p
outside_free cs ls all boxes are below p place outside b h at =
    outside b (ltb-true b boxes (sym (below b) ∙ h)) (sym (same_box cs ls p b are place) ∙ at)

pub free_outside : (cs : List Axis) (ls : List Level) (all : List ℕ) (boxes : ℕ) → AreLevels cs ls → AreBelow all boxes
    → (p : List ℕ) → IsPlace cs p → IsFree ls all p → IsOutside cs boxes p
free_outside cs ls all boxes are below p place free b lt at =
    free b (below b ∙ lt-ltb b boxes lt) (same_box cs ls p b are place ∙ at)

pub finds : (cs : List Axis) (ls : List Level) (all : List ℕ) (boxes : ℕ) → AreLevels cs ls → AreBelow all boxes
    → (found : Option (List ℕ)) → FindsFree ls all found → FindsOutside cs boxes found
finds cs ls all boxes are below None none = λ q place outside.
    none q (place_point cs ls q are place) (outside_free cs ls all boxes are below q place outside)
finds cs ls all boxes are below (Some p) found =
    let place = point_place cs ls p are found.within in
    record {
      within = place;
      outside = free_outside cs ls all boxes are below p place found.free;
      first = λ q at is_before outside.
          found.first q (place_point cs ls q are at) is_before (outside_free cs ls all boxes are below q at outside);
    }

pub level_of : (c : Axis) (l : Level) (xs : List ℕ) (sides : List (Bor Numbers)) → xs ≡ c.values.items → sides ≡ c.sides.items
    → length l.rows.items ≡ length xs
    → ((i b : ℕ) → i < length xs → has (row_of l i) b ≡ holds (get_or (map (λ (s : Bor Numbers). s.now.ranges) sides) b []) (get_or xs i 0))
    → IsLevelOf c l
level_of c l xs sides ex es count bits = record {
  rows = count ∙ ap length ex;
  bits = λ i b lt. bits i b (subst (λ (n : ℕ). i < n) (ap length (sym ex)) lt)
      ∙ ap (λ (ss : List (Bor Numbers)). holds (get_or (map (λ (s : Bor Numbers). s.now.ranges) ss) b []) (get_or xs i 0)) es
      ∙ ap (λ (ys : List ℕ). holds (get_or (map (λ (s : Bor Numbers). s.now.ranges) c.sides.items) b []) (get_or ys i 0)) ex;
}

pub finds_result : {E : Type 0} (cs : List Axis) (ls : List Level) (all : List ℕ) (boxes : ℕ)
    → AreLevels cs ls → AreBelow all boxes
    → (r : Result (Option (List ℕ)) E) → IfOk r (λ found. FindsFree ls all found)
    → IfOk r (λ found. FindsOutside cs boxes found)
finds_result cs ls all boxes are below (Ok found) h = finds cs ls all boxes are below found h
finds_result cs ls all boxes are below (Err e) h = tt
