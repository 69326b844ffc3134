-- The lines of texts that are lines, each with a line feed behind it.
use Rattle.std.proofs.Common.{◌≡◌, ℕ, ◌+◌, ◌<◌, zero, suc, Bool, true, false, not, List, [], ◌∷◌, ◌++◌, flat_map, refl, ap, sym, ◌∙◌, append_assoc, arith}
use Rattle.std.specs.List.{list_all, range_with_len}
use Rattle.std.proofs.lemmas.Bool.{and_parts}
use Rattle.acl_text.specs.Cursors.{lines_of, or_all}
use Rattle.acl_text.specs.Cuts.{has_byte}
use Rattle.acl_text.proofs.CursorLaws.{lines_step}
use Rattle.acl_text.proofs.CutLaws.{cut-again}

abbrev pub with_feed : List ℕ → List ℕ
with_feed line = line ++ 10 ∷ []

abbrev pub has_no_feed : List ℕ → Bool
has_no_feed line = not (has_byte 10 line)

not_true : (b : Bool) → not b ≡ true → b ≡ false
not_true true e = sym e
not_true false e = refl

one_line : (line rest : List ℕ) → has_no_feed line ≡ true → lines_of ((line ++ 10 ∷ []) ++ rest) ≡ line ∷ lines_of rest
one_line line rest h =
    ap lines_of (append_assoc line (10 ∷ []) rest)
    ∙ lines_step (line ++ 10 ∷ rest) line rest
    (ap (or_all (line ++ 10 ∷ rest)) (cut-again 10 line rest (not_true (has_byte 10 line) h)))

pub lines_first : (lines : List (List ℕ)) (rest : List ℕ) → list_all has_no_feed lines ≡ true
    → lines_of (flat_map with_feed lines ++ rest) ≡ lines ++ lines_of rest
lines_first [] rest h = refl
lines_first (line ∷ lines) rest h =
    let p = and_parts (has_no_feed line) (list_all has_no_feed lines) h in
    ap lines_of (append_assoc (with_feed line) (flat_map with_feed lines) rest)
    ∙ one_line line (flat_map with_feed lines ++ rest) p.0
    ∙ ap (λ ls. line ∷ ls) (lines_first lines rest p.1)

-- texts one behind the other
pub lines_each : (text : ℕ → List ℕ) (lines : ℕ → List (List ℕ)) (a n : ℕ)
    → ((i : ℕ) → i < a + n → (text i ≡ flat_map with_feed (lines i)) × (list_all has_no_feed (lines i) ≡ true))
    → lines_of (flat_map text (range_with_len a n)) ≡ flat_map lines (range_with_len a n)
lines_each text lines a zero h = refl
lines_each text lines a (suc n) h =
    let here = h a (omega arith) in
    ap (λ t. lines_of (t ++ flat_map text (range_with_len (a + 1) n))) here.0
    ∙ lines_first (lines a) (flat_map text (range_with_len (a + 1) n)) here.1
    ∙ ap (λ ls. lines a ++ ls) (lines_each text lines (a + 1) n (λ i below. h i (omega (arith, below))))
