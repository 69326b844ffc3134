-- Halves of lines that were put together beforehand: for private functions alone.
use Rattle.std.specs.Prelude.{◌≡◌, ℕ, ◌++◌, IsTrue, List, map, take}
use Rattle.acl_rows.specs.declared.line_texts.LineText.{LineText}

-- What a text holds.
abbrev pub text_of : LineText → List ℕ
text_of text = take text.end text.bytes

-- A text that had room for all is that of the half.
abbrev pub IsHalf : List ℕ → LineText → Type 0
IsHalf half text = IsTrue text.is_open → text_of text ≡ half

-- The halves of all items are the texts, and behind them those of the items that are left.
abbrev pub AreHalves : {A : Type 0} → (A → List ℕ) → List A → List LineText → List A → Type 0
AreHalves half items texts left = map half items ≡ map (λ t. text_of t) texts ++ map half left
