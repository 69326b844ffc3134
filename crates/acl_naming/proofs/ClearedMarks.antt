-- Marks by the numbers of walks: a new walk has none, and then those that it sets.
use Rattle.std.proofs.Common.{◌≡◌, ℕ, zero, suc, ◌+◌, ◌≤◌, false, ◌==◌, replicate, map, List, [], ◌∷◌, length, slice_set, true, refl, ap, ◌∙◌, arith}
use Rattle.std.specs.List.{All, AllByRecursion}
use Rattle.std.proofs.lemmas.Bool.{eq-eqb, eqb-true, false_from_ne_true}
use Rattle.std.proofs.lemmas.List.{map-set}
use Rattle.std.proofs.lemmas.List.Elements.{recursion_from_All}

later : (n : ℕ) (ws : List ℕ) → AllByRecursion (λ w. w ≤ n) ws → map (λ w. w == n + 1) ws ≡ replicate (length ws) false
later n [] h = refl
later n (w ∷ ws) h =
    ap (λ b. b ∷ map (λ v. v == n + 1) ws) (false_from_ne_true (w == n + 1) (λ e. let same = eqb-true w (n + 1) e in let low = h.0 in omega (arith, same, low)))
    ∙ ap (λ bs. false ∷ bs) (later n ws h.1)

pub later_walk : (n : ℕ) (ws : List ℕ) (len : ℕ) → All (λ w. w ≤ n) ws → length ws ≡ len → map (λ w. w == n + 1) ws ≡ replicate len false
later_walk n ws len h e = later n ws (recursion_from_All (λ w. w ≤ n) ws h) ∙ ap (λ k. replicate k false) e

pub first_walk : (len : ℕ) → map (λ w. w == 1) (replicate len 0) ≡ replicate len false
first_walk zero = refl
first_walk (suc len) = ap (λ bs. false ∷ bs) (first_walk len)

pub marked_walk : (n : ℕ) (ws : List ℕ) (i : ℕ) → map (λ w. w == n) (slice_set ws i n) ≡ slice_set (map (λ w. w == n) ws) i true
marked_walk n ws i = map-set (λ w. w == n) ws i n ∙ ap (λ b. slice_set (map (λ w. w == n) ws) i b) (eq-eqb n n refl)
