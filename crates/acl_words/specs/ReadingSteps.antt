-- The words of a text of many lines, read byte by byte with the places of its lines.
use Rattle.std.specs.Prelude.{ℕ, not, nat_le, ◌==◌, ◌&&◌, ◌||◌, if◌then◌else◌, Bool, false, List, [], ◌∷◌, ◌++◌}
use Rattle.acl_text.specs.declared.faults.Place.{Place}
use Rattle.acl_text.specs.Cursors.{is_white}
use Rattle.acl_words.specs.declared.forms.Form.{Form}
use Rattle.acl_words.specs.declared.forms.Form.TheVariants.{Plain, Keyword}
use Rattle.acl_words.specs.Tokens.{Token}
use Rattle.acl_words.specs.Bytes.{in_run, ends_in_colon}
use Rattle.acl_words.specs.Words.{OpenPart, words_at, mode_behind, words_at_end}

-- The place of the line that is read, and the places of the lines behind it.
pub record Reached : Type 0 where
  pub place : Place
  pub later : List Place

-- The first of the places. Line 0 is no line.
abbrev pub reached : List Place → Reached
reached [] = record { place = record { file = 0; line = 0 }; later = [] }
reached (p ∷ places) = record { place = p; later = places }

abbrev pub next_reached : Place → List Place → Reached
next_reached place [] = record { place = place; later = [] }
next_reached place (p ∷ places) = record { place = p; later = places }

-- A line feed ends a line: the next place is reached.
abbrev pub reached_behind : ℕ → Reached → Reached
reached_behind b r = if b == 10 then next_reached r.place r.later else r

abbrev pub reached_past : List ℕ → Reached → Reached
reached_past [] r = r
reached_past (b ∷ bs) r = reached_past bs (reached_behind b r)

-- The words of a text, with what stands open before it.
abbrev pub words_on : OpenPart → Reached → List ℕ → List Token
words_on m r [] = words_at_end m
words_on m r (b ∷ bs) = words_at m r.place b ++ words_on (mode_behind m r.place b) (reached_behind b r) bs

-- A byte between words that begins none.
abbrev pub is_blank : ℕ → Bool
is_blank b = is_white b || b == 10

-- A byte from `$` to `z`, and no colon: a word may have it.
abbrev pub is_inner : ℕ → Bool
is_inner b = nat_le 36 b && nat_le b 122 && not (b == 58)

-- Whether the text begins with a byte of a word.
abbrev pub begins_run : List ℕ → Bool
begins_run [] = false
begins_run (b ∷ bs) = in_run b

-- The first part of a run, its form, and the bytes behind it: it ends behind the first `::`, or with the run.
-- What of it stands before the bytes is given.
abbrev pub first_part : List ℕ → List ℕ → Form × List ℕ × List ℕ
first_part part [] = (Plain, part, [])
first_part part (b ∷ bs) =
    if in_run b
    then (if ends_in_colon part && b == 58 then (Keyword, part ++ b ∷ [], bs) else first_part (part ++ b ∷ []) bs)
    else (Plain, part, b ∷ bs)
