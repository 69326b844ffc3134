-- Whether no two items of a list clash, each against those behind it, and whether each is below the
-- next one.
use Rattle.std.specs.Prelude.{◌≡◌, Bool, true, false, not, ◌&&◌, List, [], ◌∷◌}
use Rattle.std.specs.List.{list_any}

-- No two clash.
unfoldable pub are_apart : {A : Type 0} → (A → A → Bool) → List A → Bool
are_apart clash [] = true
are_apart clash (x ∷ xs) = not (list_any (λ y. clash x y) xs) && are_apart clash xs

abbrev pub is_below_first : {A : Type 0} → (A → A → Bool) → A → List A → Bool
is_below_first below x [] = true
is_below_first below x (y ∷ xs) = below x y

-- Each is below the next one.
unfoldable pub are_rising : {A : Type 0} → (A → A → Bool) → List A → Bool
are_rising below [] = true
are_rising below (x ∷ xs) = is_below_first below x xs && are_rising below xs

-- Of items that are sorted, two that clash are not below one another, and two neighbours that are not
-- below one another clash: `IsUp x y` says that x may stand before y, and `is_sound` is asked of each.
pub record TellsApart {A : Type 0} (clash below : A → A → Bool) (IsUp : A → A → Type 0)
    (is_sound : A → Bool) : Type 0 where
  pub flips : (x y : A) → clash x y ≡ clash y x
  pub goes_on : (x y z : A) → below x y ≡ true → below y z ≡ true → below x z ≡ true
  pub apart : (x y : A) → below x y ≡ true → clash x y ≡ false
  pub meets : (x y : A) → is_sound y ≡ true → IsUp x y → clash x y ≡ false → below x y ≡ true
