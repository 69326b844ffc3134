-- Numbers behind commas, as they are put.
use Rattle.std.proofs.Common.{◌≡◌, ℕ, zero, suc, ◌+◌, ◌-◌, ◌<◌, ◌≤◌, List, [], ◌∷◌, ◌++◌, length, take, drop, get_or, map, codes, All, refl, ap, sym, ◌∙◌, arith}
use Rattle.std.specs.Fmt.{decimal}
use Rattle.std.specs.List.{range_with_len}
use Rattle.std.proofs.Math.Seq.{take-length}
use Rattle.std.proofs.lemmas.List.Elements.{All-drop, All-head, All-take}
use Rattle.std.proofs.lemmas.Grind.{flat_map-append}
use Rattle.acl_sets.specs.declared.sets.Range.{Range}
use Rattle.acl_rows.specs.Rows.{spaced}
use Rattle.acl_sets.specs.Ranges.{IsRange, Numbers}
use Rattle.acl_platform.specs.Choices.{numbers_of}
use Rattle.acl_platform.specs.Elements.{port_elements, range_elements}
use Rattle.acl_platform.proofs.ElementLaws.{each-range}
use Rattle.nft_lang.specs.Texts.{ports_word, set_words, with_commas}
use Rattle.nft_lang.proofs.SetLaws.{commas_put}
use Rattle.gen_nftables.specs.RowSteps.{other_numbers}

abbrev one : ℕ → List ℕ
one n = codes ", " ++ decimal n

-- the first number, those behind it in its range, and those of the other ranges
all-numbers : (r : Range) (rs : List Range) → r.low ≤ r.high
    → codes " " ++ (decimal r.low ++ (other_numbers (range_with_len (r.low + 1) (r.high + 1 - (r.low + 1))) ++ other_numbers (numbers_of rs)))
    ≡ spaced (with_commas (map (λ n. decimal n) (numbers_of (r ∷ rs))))
all-numbers r rs h =
    let n = r.high - r.low in
    let whole : suc n ≡ r.high + 1 - r.low = omega (arith, h) in
    let rest : r.high + 1 - (r.low + 1) ≡ n = omega (arith, h) in
    let behind = range_with_len (r.low + 1) n in
    ap (λ k. codes " " ++ (decimal r.low ++ (other_numbers (range_with_len (r.low + 1) k) ++ other_numbers (numbers_of rs)))) rest
    ∙ ap (λ t. codes " " ++ (decimal r.low ++ t)) (sym (flat_map-append one behind (numbers_of rs)))
    ∙ commas_put (λ k. decimal k) r.low (behind ++ numbers_of rs)
    ∙ ap (λ k. spaced (with_commas (map (λ m. decimal m) (range_with_len r.low k ++ numbers_of rs)))) whole

abbrev AreSmall : List Range → Type 0
AreSmall rs = All (λ (r : Range). IsRange 255 r) rs

pub some-numbers : (rs : List Range) → 1 ≤ length rs → AreSmall rs
    → (let r = get_or rs 0 (record { low = 0; high = 0 }) in
    codes " " ++ (decimal r.low ++ (other_numbers (range_with_len (r.low + 1) (r.high + 1 - (r.low + 1)))
    ++ other_numbers (numbers_of (take (length rs - 1) (drop 1 rs))))))
    ≡ spaced (with_commas (map (λ n. decimal n) (numbers_of rs)))
some-numbers [] h k = absurd (omega (arith, h))
some-numbers (r ∷ rs) h k =
    let size : length (r ∷ rs) - 1 ≡ length rs = omega arith in
    let front = other_numbers (range_with_len (r.low + 1) (r.high + 1 - (r.low + 1))) in
    ap (λ n. codes " " ++ (decimal r.low ++ (front ++ other_numbers (numbers_of (take n rs))))) size
    ∙ ap (λ qs. codes " " ++ (decimal r.low ++ (front ++ other_numbers (numbers_of qs)))) (take-length rs)
    ∙ all-numbers r rs (All-head (λ (q : Range). IsRange 255 q) r rs k).0

pub no-numbers : (rs : List Range) → length rs < 1 → [] ≡ spaced (with_commas (map (λ n. decimal n) (numbers_of rs)))
unfolding with_commas
no-numbers [] h = refl
no-numbers (r ∷ rs) h = absurd (omega (arith, h))

-- ---- sets

pub no-set : (front key : List ℕ) (rs : List Range) → length rs < 1
    → [] ≡ spaced (set_words front key (map (λ n. decimal n) (numbers_of rs)))
unfolding set_words
no-set front key [] h = refl
no-set front key (r ∷ rs) h = absurd (omega (arith, h))

-- a range that is not empty has a first number, so that its set is written
first-number : (front key : List ℕ) (a n : ℕ) (rest : List ℕ) → 1 ≤ n
    → (front ∷ key ∷ codes "{" ∷ (with_commas (map (λ m. decimal m) (range_with_len a n ++ rest)) ++ codes "}" ∷ []))
    ≡ set_words front key (map (λ m. decimal m) (range_with_len a n ++ rest))
unfolding set_words
first-number front key a zero rest h = absurd (omega (arith, h))
first-number front key a (suc n) rest h = refl

pub some-set : (front key : List ℕ) (rs : List Range) → 1 ≤ length rs → AreSmall rs
    → spaced (front ∷ key ∷ codes "{" ∷ (with_commas (map (λ n. decimal n) (numbers_of rs)) ++ codes "}" ∷ []))
    ≡ spaced (set_words front key (map (λ n. decimal n) (numbers_of rs)))
some-set front key [] h k = absurd (omega (arith, h))
some-set front key (r ∷ rs) h k =
    let ends = (All-head (λ (q : Range). IsRange 255 q) r rs k).0 in
    ap spaced (first-number front key r.low (r.high + 1 - r.low) (numbers_of rs) (omega (arith, ends)))

pub others-are : (rs : List Range) (n : ℕ) → AreSmall rs → AreSmall (take n (drop 1 rs))
others-are rs n h =
    let P : Range → Type 0 = λ r. IsRange 255 r in
    All-take P n (drop 1 rs) (All-drop P 1 rs h)

pub port-words : (front key : List ℕ) (s : Numbers) {ranges : List Range} → ranges ≡ range_elements s
    → spaced (set_words front key (map (λ r. ports_word (r.low, r.high)) ranges)) ≡ spaced (set_words front key (map ports_word (port_elements s)))
port-words front key s {ranges = ranges} f =
    ap (λ rs. spaced (set_words front key (map (λ r. ports_word (r.low, r.high)) rs))) f
    ∙ ap (λ words. spaced (set_words front key words)) (each-range ports_word (range_elements s))
