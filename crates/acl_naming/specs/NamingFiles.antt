-- A naming file, line by line: the definitions so far with those of the file, or its first slip.
use Rattle.std.specs.Prelude.{◌≡◌, ℕ, ◌+◌, Bool, false, not, ◌&&◌, ◌||◌, nat_le, is_some, if◌then◌else◌, List, [], ◌∷◌, ◌++◌, length, Option, None, Some, Result, Ok, Err}
use Rattle.std.specs.Option.{option_map_or}
use Rattle.acl_text.specs.declared.faults.Code.TheVariants as codes
use Rattle.acl_text.specs.declared.faults.Place.{Place}
use Rattle.acl_text.specs.declared.faults.Slip.{Slip}
use Rattle.acl_text.specs.declared.faults.Refusal.{Refusal}
use Rattle.acl_text.specs.Answers.{Stops, slip_told}
use Rattle.acl_text.specs.Steps.{◌>>=◌}
use Rattle.acl_text.specs.Cursors.{is_white, lines_of, without_white, words_of}
use Rattle.acl_text.specs.Cuts.{cut_at, has_byte}
use Rattle.acl_text.specs.Names.{is_name}
use Rattle.acl_text.specs.Refusals.{slip}
use Rattle.acl_naming.specs.declared.item_words.NamingKind.{NamingKind}
use Rattle.acl_naming.specs.declared.item_words.NamingKind.TheVariants as kinds
use Rattle.acl_naming.specs.declared.naming_items.Item.{Item}
use Rattle.acl_naming.specs.Definitions.{Definition, Naming, index_of, items_count}
use Rattle.acl_naming.specs.ItemWords.{item_in}
use Rattle.acl_naming.specs.Tables.{with_item}

-- The definitions, or the first slip.
abbrev pub TableOrSlip : Type 0
TableOrSlip = Result (List Definition) Slip

-- The greatest number of definitions of a kind, and of their items.
abbrev pub most : ℕ
most = 16384

-- ---- the items of a definition, left to right

abbrev pub item_put : Place → List Definition → List ℕ → Option Item → TableOrSlip
item_put place ds word None = Err (slip codes.BadValue place word)
item_put place ds word (Some item) =
    if nat_le most (items_count ds) then Err (slip codes.TooMany place word)
    else Ok (with_item ds item)

unfoldable pub item_added : NamingKind → Place → List Definition → List ℕ → TableOrSlip
item_added kind place ds word = item_put place ds word (item_in kind place word)

abbrev pub items_added : NamingKind → Place → List Definition → List (List ℕ) → TableOrSlip
items_added kind place ds [] = Ok ds
items_added kind place ds (word ∷ words) =
    item_added kind place ds word >>= λ more. items_added kind place more words

-- ---- a line

-- Without white space at the ends.
abbrev pub in_front_of : ℕ → List ℕ → List ℕ
in_front_of b [] = if is_white b then [] else b ∷ []
in_front_of b (c ∷ rest) = b ∷ c ∷ rest

abbrev pub without_end : List ℕ → List ℕ
without_end [] = []
without_end (b ∷ bs) = in_front_of b (without_end bs)

abbrev pub trimmed : List ℕ → List ℕ
trimmed bs = without_end (without_white bs)

-- `#` (35) begins a comment.
abbrev pub without_comment : List ℕ → List ℕ
without_comment line = option_map_or {U = List ℕ} (λ p. p.0) (cut_at 35 line) line

-- Bytes that neither are white space nor print (RFC 20).
abbrev pub is_bad : ℕ → Bool
is_bad b = not (is_white b) && not (nat_le 33 b && nat_le b 126)

abbrev pub bad_byte : List ℕ → Option ℕ
bad_byte [] = None
bad_byte (b ∷ bs) = if is_bad b then Some b else bad_byte bs

-- A definition begins: its name, and the items behind `=`.
unfoldable pub with_definition : NamingKind → Place → List Definition → List ℕ → List ℕ → TableOrSlip
with_definition kind place ds name rest =
    if not (is_name name) then Err (slip codes.BadName place name)
    else if is_some (index_of ds name) then Err (slip codes.Twice place name)
    else if nat_le most (length ds) then Err (slip codes.TooMany place name)
    else items_added kind place
    (ds ++ record { name = name; place = place; items = [] } ∷ []) (words_of rest)

-- Further items of the definition above in the file.
abbrev pub with_items : NamingKind → Place → Bool → List Definition → List (List ℕ) → TableOrSlip
with_items kind place is_open ds [] = Ok ds
with_items kind place is_open ds (word ∷ words) =
    if is_open then items_added kind place ds (word ∷ words)
    else Err (slip codes.NoDefinition place word)

-- A line of good bytes; `=` is 61.
abbrev pub split_added : NamingKind → Place → Bool → List Definition → List ℕ → TableOrSlip
split_added kind place is_open ds text =
    option_map_or {U = TableOrSlip} (λ p. with_definition kind place ds (trimmed p.0) p.1)
    (cut_at 61 text)
    (with_items kind place is_open ds (words_of text))

-- A line without its comment.
abbrev pub line_added : NamingKind → Place → Bool → List Definition → List ℕ → TableOrSlip
line_added kind place is_open ds text =
    option_map_or {U = TableOrSlip} (λ b. Err (slip codes.BadByte place (b ∷ []))) (bad_byte text)
    (split_added kind place is_open ds text)

-- ---- a file

-- Behind a line some definition of the file stands above, where one did or the line begins one.
abbrev pub opens : Bool → List ℕ → Bool
opens is_open text = is_open || has_byte 61 text

-- The lines from the n-th on.
abbrev pub lines_added : NamingKind → ℕ → ℕ → Bool → List Definition → List (List ℕ) → TableOrSlip
lines_added kind file n is_open ds [] = Ok ds
lines_added kind file n is_open ds (line ∷ lines) =
    line_added kind (record { file = file; line = n }) is_open ds (without_comment line)
    >>= λ more. lines_added kind file (n + 1) (opens is_open (without_comment line)) more lines

unfoldable pub file_added : NamingKind → ℕ → List Definition → List ℕ → TableOrSlip
file_added kind file ds bytes = lines_added kind file 1 false ds (lines_of bytes)

-- ---- what calls promise

-- The file's definitions of networks are added, or its first slip is told; services stay as they are.
abbrev pub AddsNetworks : ℕ → Naming → List ℕ → Result Naming Refusal → Type 0
AddsNetworks file old bytes (Ok new) =
    (file_added kinds.Networks file old.networks bytes ≡ Ok new.networks)
    × (new.services ≡ old.services)
AddsNetworks file old bytes (Err r) =
    Stops slip_told r (file_added kinds.Networks file old.networks bytes)

-- The same of services.
abbrev pub AddsServices : ℕ → Naming → List ℕ → Result Naming Refusal → Type 0
AddsServices file old bytes (Ok new) =
    (file_added kinds.Services file old.services bytes ≡ Ok new.services)
    × (new.networks ≡ old.networks)
AddsServices file old bytes (Err r) =
    Stops slip_told r (file_added kinds.Services file old.services bytes)
