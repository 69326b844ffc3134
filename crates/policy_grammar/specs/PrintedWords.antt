-- Words as they are printed in lines: a string between its quotes, any other word as it is, and white space between any
-- two.
use Rattle.std.specs.Prelude.{◌≡◌, ℕ, ◌<◌, Bool, true, false, ◌&&◌, ◌||◌, ◌==◌, List, [], ◌∷◌, ◌++◌, length, flat_map, map, Ok, codes}
use Rattle.std.specs.List.{AllByRecursion, list_all, list_any}
use Rattle.acl_text.specs.Cursors.{is_white}
use Rattle.acl_text.specs.declared.faults.Place.{Place}
use Rattle.acl_text.specs.declared.file_lines.Line.{Line}
use Rattle.acl_words.specs.declared.forms.Form.{Form}
use Rattle.acl_words.specs.declared.forms.Form.TheVariants as forms
use Rattle.acl_words.specs.Tokens.{Token}
use Rattle.acl_words.specs.Bytes.{in_run, is_printed}
use Rattle.acl_words.specs.Words.{words_of}
use Rattle.acl_policy.specs.Conditions.{Each}
use Rattle.acl_policy.specs.Policies.{policy_of}
use Rattle.policy_grammar.specs.PolicyTexts.{BlockText, text_words, text_meant, TextStands}

-- Whether `::` stands in the text.
abbrev pub begins_with_colon : List ℕ → Bool
begins_with_colon [] = false
begins_with_colon (b ∷ bs) = b == 58

abbrev pub has_colons : List ℕ → Bool
has_colons [] = false
has_colons (b ∷ bs) = b == 58 && begins_with_colon bs || has_colons bs

-- The bytes of words that are no strings: those of printable ASCII but for the space, `"`, `#`, `{` and `}`.
abbrev pub is_word_byte : ℕ → Bool
is_word_byte b = in_run b && is_printed b

-- A word has a byte and no `::`.
pub record IsPlainText (text : List ℕ) : Type 0 where
  pub some_byte : 0 < length text
  pub bytes_are : list_all is_word_byte text ≡ true
  pub no_colons : has_colons text ≡ false

-- A keyword ends in `::`, and no `::` stands before those.
pub record IsKeywordText (text : List ℕ) : Type 0 where
  pub front : List ℕ
  pub bytes_are : list_all is_word_byte front ≡ true
  pub no_colons : has_colons (front ++ codes ":") ≡ false
  pub text_is : text ≡ front ++ codes "::"

-- A string has no `"`.
abbrev pub IsQuotedText : List ℕ → Type 0
IsQuotedText text = list_any (λ b. b == 34) text ≡ false

abbrev pub TextIs : Form → List ℕ → Type 0
TextIs forms.Plain text = IsPlainText text
TextIs forms.Keyword text = IsKeywordText text
TextIs forms.Begin text = text ≡ codes "{"
TextIs forms.End text = text ≡ codes "}"
TextIs forms.Quoted text = IsQuotedText text
TextIs _ text = ⊥

-- A word that can be printed at the place.
pub record IsPrintable (place : Place) (w : Token) : Type 0 where
  pub place_is : w.place ≡ place
  pub text_is : TextIs w.form w.text

abbrev pub printed : Form → List ℕ → List ℕ
printed forms.Quoted text = 34 ∷ text ++ 34 ∷ []
printed _ text = text

-- A word, and the white space before it.
pub record SpacedWord : Type 0 where
  pub gap : List ℕ
  pub word : Token

abbrev pub spaced_text : SpacedWord → List ℕ
spaced_text s = s.gap ++ printed s.word.form s.word.text

-- White space stands between any two words of a line, and may stand before the first.
pub record IsSpaced (place : Place) (before : List SpacedWord) (s : SpacedWord) : Type 0 where
  pub is_printable : IsPrintable place s.word
  pub gap_is : list_all is_white s.gap ≡ true
  pub some_gap : 0 < length before → 0 < length s.gap

pub record PrintedLine : Type 0 where
  pub place : Place
  pub words : List SpacedWord

abbrev pub printed_line : PrintedLine → Line
printed_line l = record { place = l.place; text = flat_map spaced_text l.words }

abbrev pub LineIsPrinted : PrintedLine → Type 0
LineIsPrinted l = Each (IsSpaced l.place) [] l.words

abbrev pub printed_words : List PrintedLine → List Token
printed_words lines = flat_map (λ l. map (λ s. s.word) l.words) lines

-- Printed words are read as these words.
abbrev pub PrintedWordsAreRead : Type 0
PrintedWordsAreRead = (lines : List PrintedLine) → AllByRecursion LineIsPrinted lines
    → words_of (map printed_line lines) ≡ printed_words lines

-- So the lines of a text that stands, however its words are laid out in them, are read as what the text means.
abbrev pub PrintedTextsAreRead : Type 0
PrintedTextsAreRead = (text : List BlockText) (lines : List PrintedLine) → TextStands text
    → AllByRecursion LineIsPrinted lines → printed_words lines ≡ text_words text
    → policy_of (words_of (map printed_line lines)) ≡ Ok (text_meant text)
