-- What is written of numbers in a row, and of the numbers of ranges.
use Rattle.std.proofs.Common.{◌≡◌, ℕ, zero, suc, ◌+◌, ◌-◌, ◌<◌, ◌≤◌, List, [], ◌∷◌, ◌++◌, length, take, drop, get_or, flat_map, ap, sym, ◌∙◌, append-nil, add-zero, zero-add, arith}
use Rattle.std.specs.List.{range_with_len}
use Rattle.std.proofs.lemmas.Grind.{flat_map-append}
use Rattle.acl_rows.proofs.PutLaws.{split_items}
use Rattle.acl_sets.specs.declared.sets.Range.{Range}
use Rattle.acl_platform.specs.Choices.{numbers_in, numbers_of}

split-range : (a m k : ℕ) → range_with_len a m ++ range_with_len (a + m) k ≡ range_with_len a (m + k)
split-range a zero k = ap (λ n. range_with_len n k) (add-zero a) ∙ ap (range_with_len a) (sym (zero-add k))
split-range a (suc m) k =
    let e : a + suc m ≡ (a + 1) + m = omega arith in
    let d : suc (m + k) ≡ suc m + k = omega arith in
    ap (λ n. a ∷ (range_with_len (a + 1) m ++ range_with_len n k)) e ∙ ap (λ t. a ∷ t) (split-range (a + 1) m k)
    ∙ ap (range_with_len a) d

-- a number behind those before it
pub number-on : {B : Type 0} (f : ℕ → List B) (first number : ℕ) → first ≤ number
    → flat_map f (range_with_len first (number - first)) ++ f number ≡ flat_map f (range_with_len first (number + 1 - first))
number-on f first number h =
    let k = number - first in
    let here : first + k ≡ number = omega (arith, h) in
    let more : k + 1 ≡ number + 1 - first = omega (arith, h) in
    ap (λ t. flat_map f (range_with_len first k) ++ t) (sym (append-nil (f number)) ∙ ap (λ n. f n ++ []) (sym here))
    ∙ sym (flat_map-append f (range_with_len first k) (range_with_len (first + k) 1))
    ∙ ap (flat_map f) (split-range first k 1 ∙ ap (range_with_len first) more)

-- the numbers before one, that one, and those behind it
pub numbers-split : {B : Type 0} (f : ℕ → List B) (first number end : ℕ) → first ≤ number → number < end
    → (flat_map f (range_with_len first (number - first)) ++ f number) ++ flat_map f (range_with_len (number + 1) (end - (number + 1)))
    ≡ flat_map f (range_with_len first (end - first))
numbers-split f first number end h k =
    let m = number + 1 - first in
    let rest = end - (number + 1) in
    let behind : number + 1 ≡ first + m = omega (arith, h) in
    let whole : m + rest ≡ end - first = omega (arith, h, k) in
    ap (λ t. t ++ flat_map f (range_with_len (number + 1) rest)) (number-on f first number h)
    ∙ sym (flat_map-append f (range_with_len first m) (range_with_len (number + 1) rest))
    ∙ ap (flat_map f) (ap (λ n. range_with_len first m ++ range_with_len n rest) behind ∙ split-range first m rest ∙ ap (range_with_len first) whole)

-- the numbers of the ranges before one, of that one, and of those behind it
pub ranges-split : {B : Type 0} (f : ℕ → List B) (rs : List Range) (i : ℕ) (d : Range) → i < length rs
    → (flat_map f (numbers_of (take i rs)) ++ flat_map f (numbers_in (get_or rs i d))) ++ flat_map f (numbers_of (drop (i + 1) rs))
    ≡ flat_map f (numbers_of rs)
ranges-split f rs i d h =
    let before = numbers_of (take i rs) in
    let here = numbers_in (get_or rs i d) in
    let behind = numbers_of (drop (i + 1) rs) in
    ap (λ t. t ++ flat_map f behind) (sym (flat_map-append f before here)) ∙ sym (flat_map-append f (before ++ here) behind)
    ∙ ap (flat_map f) (split_items numbers_in rs i d h)
