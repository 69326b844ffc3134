-- Lines without a comment or a bad byte: those that begin no definition, also those of one word, and those that do.
use Rattle.std.specs.Prelude.{◌≡◌, ℕ, Bool, true, false, not, ◌&&◌, ◌==◌, List, [], ◌∷◌, ◌++◌, Some}
use Rattle.std.specs.List.{list_all}
use Rattle.acl_text.specs.Cursors.{is_white, words_of}
use Rattle.acl_text.specs.AddressTexts.{IsPrefixText}
use Rattle.acl_text.specs.Cuts.{cut_at, has_byte}
use Rattle.acl_naming.specs.Fronts.{shown}
use Rattle.acl_naming.specs.declared.line_parts.LineForm.{LineForm}
use Rattle.acl_naming.specs.declared.line_parts.LineForm.TheVariants.{Lone, LonePrefix, Named, Plain, Other}
use Rattle.acl_naming.specs.NamingFiles.{is_bad, trimmed}

abbrev pub is_plain : ℕ → Bool
is_plain b = not (is_bad b) && not (b == 35) && not (b == 61)

-- Plain, and no white space.
abbrev pub is_ink : ℕ → Bool
is_ink b = is_plain b && not (is_white b)

-- A plain line of one word.
pub record IsLoneWord (line word : List ℕ) : Type 0 where
  pub plain : list_all is_plain line ≡ true
  pub words : words_of line ≡ word ∷ []

-- All but the first `=` (61) is plain.
pub record IsPlainDefinition (line name rest : List ℕ) : Type 0 where
  pub cut : Some (name, rest) ≡ cut_at 61 line
  pub name_plain : list_all is_plain name ≡ true
  pub rest_plain : list_all is_plain rest ≡ true

-- Such a line, with its name and the text of its items.
pub record IsNamed (line name items : List ℕ) : Type 0 where
  pub front : List ℕ
  pub plain : IsPlainDefinition line front items
  pub own : trimmed front ≡ name

-- What is told of a line.
abbrev pub IsOfForm : List ℕ → LineForm → Type 0
IsOfForm line (Lone word) = IsLoneWord line (shown word)
IsOfForm line (LonePrefix word prefix) = IsLoneWord line word.now × IsPrefixText word.now prefix
IsOfForm line (Named name items) = IsNamed line (shown name) (shown items)
IsOfForm line Plain = list_all is_plain line ≡ true
IsOfForm line Other = Unit {0}

-- The bytes begin with a line of the form and its line feed (10).
pub record IsSeenLine (bytes line : List ℕ) (form : LineForm) (rest : List ℕ) : Type 0 where
  pub joined : bytes ≡ line ++ 10 ∷ rest
  pub ended : has_byte 10 line ≡ false
  pub told : IsOfForm line form
