-- The words of a policy's lines.
--
-- The text is read byte by byte, each line end as one more byte, a line feed. What a byte does depends on what
-- stands open before it: nothing, a comment, a run of bytes that is a word, or a string.
use Rattle.std.specs.Prelude.{ℕ, ◌==◌, ◌&&◌, if◌then◌else◌, List, [], ◌∷◌, ◌++◌}
use Rattle.std.specs.Option.{option_map_or}
use Rattle.acl_text.specs.declared.faults.Place.{Place}
use Rattle.acl_words.specs.declared.forms.Form.{Form}
use Rattle.acl_words.specs.declared.forms.Form.TheVariants.{Plain, Keyword, Begin, End, Quoted, Unclosed, Bad}
use Rattle.acl_words.specs.Tokens.{Token}
use Rattle.acl_text.specs.declared.file_lines.Line.{Line}
use Rattle.acl_words.specs.Bytes.{in_run, first_bad, ends_in_colon}

abbrev pub word : Place → Form → List ℕ → Token
word place form text = record { place = place; form = form; text = text }

-- A part of a run: where it has a byte that no word may have, that byte stands for it.
abbrev pub part_word : Place → Form → List ℕ → Token
part_word place form text =
    option_map_or {U = Token} (λ b. word place Bad (b ∷ [])) (first_bad text) (word place form text)

-- What is left at a run's end, behind its last `::`.
abbrev pub last_part : Place → List ℕ → List Token
last_part place [] = []
last_part place (b ∷ bs) = part_word place Plain (b ∷ bs) ∷ []

-- A run is split behind its first `::`, and what is left again. The part stands before the bytes.
abbrev pub split_run : Place → List ℕ → List ℕ → List Token
split_run place part [] = last_part place part
split_run place part (b ∷ bs) =
    if ends_in_colon part && b == 58
    then part_word place Keyword (part ++ b ∷ []) ∷ split_run place [] bs
    else split_run place (part ++ b ∷ []) bs

-- What stands open between two bytes. A word has the place where it began.
pub data OpenPart : Type 0 where
  Between : OpenPart
  Comment : OpenPart
  Run : Place → List ℕ → OpenPart
  String : Place → List ℕ → OpenPart

-- What a byte opens where no word stands open.
abbrev pub opened_mode : Place → ℕ → OpenPart
opened_mode place b =
    if b == 34 then String place []
    else if b == 35 then Comment
    else if in_run b then Run place (b ∷ [])
    else Between

-- `{` and `}` are words by themselves.
abbrev pub brace : Place → ℕ → List Token
brace place b =
    if b == 123 then word place Begin (b ∷ []) ∷ []
    else if b == 125 then word place End (b ∷ []) ∷ []
    else []

-- What stands open behind a byte. A comment runs to the end of its line, a string to the next `"`.
abbrev pub mode_behind : OpenPart → Place → ℕ → OpenPart
mode_behind Between place b = opened_mode place b
mode_behind Comment place b = if b == 10 then Between else Comment
mode_behind (Run from text) place b =
    if in_run b then Run from (text ++ b ∷ [])
    else opened_mode place b
mode_behind (String from text) place b = if b == 34 then Between else String from (text ++ b ∷ [])

-- The words that end with a byte.
abbrev pub words_at : OpenPart → Place → ℕ → List Token
words_at Between place b = brace place b
words_at Comment place b = []
words_at (Run from text) place b = if in_run b then [] else split_run from [] text ++ brace place b
words_at (String from text) place b = if b == 34 then word from Quoted text ∷ [] else []

-- The words that end within bytes, and what stands open behind them.
abbrev pub words_in : Place → OpenPart → List ℕ → List Token
words_in place m [] = []
words_in place m (b ∷ bs) = words_at m place b ++ words_in place (mode_behind m place b) bs

abbrev pub mode_in : Place → OpenPart → List ℕ → OpenPart
mode_in place m [] = m
mode_in place m (b ∷ bs) = mode_in place (mode_behind m place b) bs

-- A line is its bytes and a line feed.
abbrev pub line_words : Line → OpenPart → List Token
line_words l m = words_in l.place m l.text ++ words_at (mode_in l.place m l.text) l.place 10

abbrev pub line_mode : Line → OpenPart → OpenPart
line_mode l m = mode_behind (mode_in l.place m l.text) l.place 10

-- At the end of the text a string that is open has no end.
abbrev pub words_at_end : OpenPart → List Token
words_at_end Between = []
words_at_end Comment = []
words_at_end (Run from text) = split_run from [] text
words_at_end (String from text) = word from Unclosed (34 ∷ []) ∷ []

abbrev pub words_from : OpenPart → List Line → List Token
words_from m [] = words_at_end m
words_from m (l ∷ ls) = line_words l m ++ words_from (line_mode l m) ls

-- The words of the lines.
unfoldable pub words_of : List Line → List Token
words_of ls = words_from Between ls
