-- Where the words of a policy stand.
use Rattle.std.specs.Prelude.{List, map}
use Rattle.std.specs.List.{All, Contains}
use Rattle.acl_text.specs.declared.faults.Place.{Place}
use Rattle.acl_text.specs.declared.file_lines.Line.{Line}
use Rattle.acl_words.specs.Tokens.{Token}

-- The place is that of one of the lines.
abbrev pub IsLinePlace : List Line → Place → Type 0
IsLinePlace lines place = Contains (map (λ l. l.place) lines) place

-- Each word has the place of one of the lines.
abbrev pub HaveLinePlaces : List Line → List Token → Type 0
HaveLinePlaces lines words = All (λ w. IsLinePlace lines w.place) words
