-- A term as it is written: each field has the words of its keyword, in the order of the text.
use Rattle.std.specs.Prelude.{ℕ, Bool, List, Option}
use Rattle.acl_host.specs.declared.days.Day.{Day}
use Rattle.acl_words.specs.declared.word_lists.Word.{Word}

pub record RawTerm : Type 0 where
  pub name : Word
  -- the strings of `comment::` with a space between any two
  pub comments : List ℕ
  pub action : Word
  pub sources : List Word
  pub source_excludes : List Word
  pub destinations : List Word
  pub destination_excludes : List Word
  -- the words of `address::`: of either side
  pub addresses : List Word
  pub protocols : List Word
  pub source_ports : List Word
  pub destination_ports : List Word
  -- the words of `port::`: of either side
  pub ports : List Word
  pub icmp_types : List Word
  pub icmp_codes : List Word
  pub options : List Word
  pub logging : Bool
  pub expires : Option Day
  pub platforms : List Word
  pub not_platforms : List Word
