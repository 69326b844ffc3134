-- From one look at 16 bytes to those that pass a test.
use Rattle.std.proofs.Common.{◌≡◌, ℕ, ◌+◌, ◌-◌, ◌%◌, ◌^◌, ◌<◌, ◌≤◌, eqb, Bool, true, not, cond, ◌||◌, List, [], ◌∷◌, ◌++◌, map, length, take, drop, get_or, Fits, w8, sym, ap, ◌∙◌, subst, arith}
use Rattle.std.proofs.Math.Seq.{take-add}
use Rattle.std.proofs.lemmas.Bool.{agree_below, agree_below_at, and_from, and_parts}
use Rattle.std.proofs.lemmas.List.{get_or-take, length-map, length-take, take_rest}
use Rattle.std.proofs.lemmas.List.Elements.{All-from_get_or}
use Rattle.std.proofs.lemmas.List.Sums.{list_all-from_AllPass}
use Rattle.std.proofs.lemmas.Simd.{first_set_mask_l, length-chunk, map-map, mask_l-mod, run_in_chunk_fails, run_in_chunk_le}
use Rattle.std.specs.Int.Count.{count_trailing_zeros}
use Rattle.std.specs.List.{list_all, prefix_len}
use lib.Lanes.{chunk, mask_l, top}

joined_all : (test : ℕ → Bool) (xs ys : List ℕ) → list_all test xs ≡ true → list_all test ys ≡ true → list_all test (xs ++ ys) ≡ true
joined_all test [] ys h k = k
joined_all test (x ∷ xs) ys h k =
    let p = and_parts (test x) (list_all test xs) h in
    and_from (test x) (list_all test (xs ++ ys)) p.0 (joined_all test xs ys p.1 k)

-- those behind the first ones pass as well
pub more_pass : (test : ℕ → Bool) (bs : List ℕ) (from more : ℕ) → list_all test (take from bs) ≡ true → list_all test (take more (take (length bs - from) (drop from bs))) ≡ true
    → list_all test (take (from + more) bs) ≡ true
more_pass test bs from more h k =
    ap (λ (t : List ℕ). list_all test t) (take-add from more bs)
    ∙ joined_all test (take from bs) (take more (drop from bs)) h (ap (λ (t : List ℕ). list_all test (take more t)) (sym (take_rest bs from)) ∙ k)

-- the first bytes pass a test that each of them passes
front_passes : (q : ℕ → Bool) (d : List ℕ) (r : ℕ) → r ≤ length d → ((k : ℕ) → k < r → q (get_or d k 0) ≡ true) → list_all q (take r d) ≡ true
front_passes q d r h each =
    list_all-from_AllPass q (take r d) (All-from_get_or (λ x. q x ≡ true) (take r d) 0 (λ k inside.
    let low : k < r = omega (arith, inside, length-take r d) in
    subst (λ x. q x ≡ true) (sym (get_or-take r d k 0 low)) (each k low)))

-- where no lane stops, the byte passes
module _ (q : ℕ → Bool) (d : List ℕ) (r : ℕ) (z : List ℕ) (room : 16 ≤ length d) (fits : (k : ℕ) → Fits w8 (get_or d k 0))
    (found : r ≡ cond (eqb (mask_l (map (top 7) z) % 2 ^ 64) 0) 16 (count_trailing_zeros 64 (mask_l (map (top 7) z) % 2 ^ 64)))
    (f : ℕ → ℕ) (lanes : z ≡ map f (chunk 0 16 d)) (all : agree_below (λ x. top 7 (f x) || q x) (λ _. true) 256 ≡ true) where
  abbrev stops : ℕ → Bool
  stops x = top 7 (f x)

  abbrev from_mask : ℕ → ℕ
  from_mask m = cond (eqb m 0) 16 (count_trailing_zeros 64 m)

  counted : r ≡ prefix_len (λ x. not (stops x)) (chunk 0 16 d)
  counted =
      let v = chunk 0 16 d in
      let long : length v ≡ 16 = length-chunk 0 16 d room in
      let mask = ap (λ l. mask_l l % 2 ^ 64) (ap (map (top 7)) lanes ∙ map-map (top 7) f v) ∙ mask_l-mod (map stops v) 64 (omega (arith, length-map v stops, long)) in
      found ∙ ap from_mask mask ∙ first_set_mask_l stops v 16 long (omega arith)

  few : r ≤ 16
  few = run_in_chunk_le stops d 0 16 r 0 room counted

  pub lanes_pass : (r ≤ 16) × (list_all q (take r d) ≡ true)
  lanes_pass = (
    few,
    front_passes q d r (omega (arith, few, room)) (λ k low.
        sym (ap (λ b. b || q (get_or d k 0)) (run_in_chunk_fails stops d 0 16 r 0 room counted k (omega arith) (omega (arith, low))))
        ∙ agree_below_at (λ x. stops x || q x) (λ _. true) 256 (get_or d k 0) all (fits k).fits),
  )
