-- Cutting a text at a byte, and at a front or an end.
use Rattle.std.specs.Prelude.{ℕ, ◌-◌, Bool, ◌==◌, nat_eq, if◌then◌else◌, List, [], ◌∷◌, length, take, drop, Option, Some, None, option_map, map}
use Rattle.std.specs.Borrow.{Bor}
use Rattle.std.specs.List.{list_any, ends_with}
use Rattle.std.specs.Str.{bytes_eq}

-- Borrowed texts, as the texts.
abbrev pub views : List (Bor (List ℕ)) → List (List ℕ)
views texts = map (λ x. x.now) texts

-- The text before the first such byte, and the text behind it.
abbrev pub cut_at : ℕ → List ℕ → Option (List ℕ × List ℕ)
cut_at c [] = None
cut_at c (b ∷ bs) = if b == c then Some ([], bs) else option_map (λ p. (b ∷ p.0, p.1)) (cut_at c bs)

-- Whether the byte stands in the text.
abbrev pub has_byte : ℕ → List ℕ → Bool
has_byte c bs = list_any (λ b. b == c) bs

-- What stands behind a front, where the text begins with it.
unfoldable pub behind : List ℕ → List ℕ → Option (List ℕ)
behind front text =
    if bytes_eq (take (length front) text) front then Some (drop (length front) text) else None

-- What stands ahead of an end, where the text ends in it.
unfoldable pub ahead : List ℕ → List ℕ → Option (List ℕ)
ahead end text =
    if ends_with nat_eq text end then Some (take (length text - length end) text) else None
