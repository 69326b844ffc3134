-- A text that is cut back to where it ended.
use Rattle.std.proofs.Common.{◌≡◌, ℕ, ◌≤◌, List, [], ◌++◌, length, take, drop, append-nil, ap, sym, ◌∙◌, arith}
use Rattle.std.proofs.Math.Seq.{take-length}
use Rattle.std.proofs.lemmas.List.{length-append, length-take, take-append-drop, take-append-le}

-- what stands behind a text makes it no shorter
pub no_shorter : (n m : ℕ) (bytes told more : List ℕ) → take m bytes ≡ told ++ more → length told ≡ n → n ≤ m
no_shorter n m bytes told more e size =
    omega (arith, ap (λ (t : List ℕ). length t) e, length-append told more, length-take m bytes, size)

-- a text that is cut back to where it ended is as it was
pub cut_back : (n m : ℕ) (bytes told more : List ℕ) → take m bytes ≡ told ++ more → length told ≡ n → take n bytes ≡ told ++ []
cut_back n m bytes told more e size =
    ap (λ t. take n t) (sym (take-append-drop m bytes))
    ∙ take-append-le n (take m bytes) (drop m bytes) (omega (arith, ap (λ (t : List ℕ). length t) e, length-append told more, size))
    ∙ ap (λ t. take n t) e ∙ take-append-le n told more (omega (arith, size)) ∙ ap (λ k. take k told) (sym size) ∙ take-length told
    ∙ sym (append-nil told)
