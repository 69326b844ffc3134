-- One more of the texts of the numbers from 0 on.
use Rattle.std.proofs.Common.{◌≡◌, ◌+◌, ◌++◌, ℕ, zero, suc, List, [], ◌∷◌, flat_map, ap, sym, ◌∙◌, arith}
use Rattle.std.specs.List.{range_with_len}
use Rattle.std.proofs.lemmas.List.{flat_map_more}
use Rattle.aclgen_core.specs.WorkloadTexts.{for_each}

range-more : (first count : ℕ) → range_with_len first count ++ (first + count) ∷ [] ≡ range_with_len first (count + 1)
range-more first zero =
    let here : first + 0 ≡ first = omega arith in
    ap (λ n. n ∷ []) here
range-more first (suc count) =
    let here : first + suc count ≡ (first + 1) + count = omega arith in
    let more : suc (count + 1) ≡ suc count + 1 = omega arith in
    ap (λ n. first ∷ (range_with_len (first + 1) count ++ n ∷ [])) here
    ∙ ap (λ ns. first ∷ ns) (range-more (first + 1) count) ∙ ap (range_with_len first) more

pub one_more : (text : ℕ → List ℕ) (front : List ℕ) (count : ℕ) → (front ++ for_each text count) ++ text count ≡ front ++ for_each text (count + 1)
one_more text front count =
    let here : 0 + count ≡ count = omega arith in
    flat_map_more text front (range_with_len 0 count) count
    ∙ ap (λ ns. front ++ flat_map text ns) (ap (λ n. range_with_len 0 count ++ n ∷ []) (sym here) ∙ range-more 0 count)

pub one_more_at_front : (text : ℕ → List ℕ) (count : ℕ) → for_each text count ++ text count ≡ for_each text (count + 1)
one_more_at_front text count = one_more text [] count
