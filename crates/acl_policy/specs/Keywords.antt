-- The keywords of a term, and their table: a row for each.
use Rattle.std.specs.Prelude.{ℕ, Bool, true, false, if◌then◌else◌, List, [], ◌∷◌, map, Option, None, Some, codes}
use Rattle.std.specs.Str.{bytes_eq}
use Rattle.acl_policy.specs.declared.keywords.Keyword.{Keyword}
use Rattle.acl_policy.specs.declared.keywords.Keyword.TheVariants as keywords
use Rattle.acl_policy.specs.declared.keywords.KeywordRow.{KeywordRow}
use Rattle.acl_policy.specs.declared.values.Takes.{Takes}
use Rattle.acl_policy.specs.declared.values.Takes.TheVariants as takes

-- How a keyword is written, what its values are, and whether it stands once in a term, with one value.
pub record KeywordEntry : Type 0 where
  pub text : List ℕ
  pub takes : Takes
  pub once : Bool

abbrev pub repeats : List ℕ → Takes → KeywordEntry
repeats text kind = record { text = text; takes = kind; once = false }

abbrev pub stands_once : List ℕ → Takes → KeywordEntry
stands_once text kind = record { text = text; takes = kind; once = true }

-- The table.
abbrev pub entry : Keyword → KeywordEntry
entry keywords.Comment = repeats (codes "comment::") takes.String
entry keywords.Owner = stands_once (codes "owner::") takes.Any
entry keywords.Action = stands_once (codes "action::") takes.Action
entry keywords.SourceAddress = repeats (codes "source-address::") takes.Name
entry keywords.SourceExclude = repeats (codes "source-exclude::") takes.Name
entry keywords.DestinationAddress = repeats (codes "destination-address::") takes.Name
entry keywords.DestinationExclude = repeats (codes "destination-exclude::") takes.Name
entry keywords.Address = repeats (codes "address::") takes.Name
entry keywords.Protocol = repeats (codes "protocol::") takes.Protocol
entry keywords.SourcePort = repeats (codes "source-port::") takes.Name
entry keywords.DestinationPort = repeats (codes "destination-port::") takes.Name
entry keywords.Port = repeats (codes "port::") takes.Name
entry keywords.IcmpType = repeats (codes "icmp-type::") takes.IcmpType
entry keywords.IcmpCode = repeats (codes "icmp-code::") takes.IcmpCode
entry keywords.Opt = repeats (codes "option::") takes.Opt
entry keywords.Logging = stands_once (codes "logging::") takes.Logging
entry keywords.Expiration = stands_once (codes "expiration::") takes.Day
entry keywords.Platform = repeats (codes "platform::") takes.Name
entry keywords.PlatformExclude = repeats (codes "platform-exclude::") takes.Name

abbrev pub all_keywords : List Keyword
all_keywords =
    keywords.Comment ∷ keywords.Owner ∷ keywords.Action
    ∷ keywords.SourceAddress ∷ keywords.SourceExclude
    ∷ keywords.DestinationAddress ∷ keywords.DestinationExclude
    ∷ keywords.Address
    ∷ keywords.Protocol ∷ keywords.SourcePort ∷ keywords.DestinationPort ∷ keywords.Port
    ∷ keywords.IcmpType ∷ keywords.IcmpCode
    ∷ keywords.Opt ∷ keywords.Logging ∷ keywords.Expiration
    ∷ keywords.Platform ∷ keywords.PlatformExclude ∷ []

-- A keyword's row, beside its text.
abbrev pub row_of : Keyword → KeywordRow
row_of key = record { keyword = key; takes = (entry key).takes; once = (entry key).once }

abbrev pub line : Keyword → List ℕ × KeywordRow
line key = ((entry key).text, row_of key)

-- The row of the text.
abbrev pub row_in : List (List ℕ × KeywordRow) → List ℕ → Option KeywordRow
row_in [] text = None
row_in (r ∷ rs) text = if bytes_eq text r.0 then Some r.1 else row_in rs text

unfoldable pub row_named : List ℕ → Option KeywordRow
row_named text = row_in (map line all_keywords) text
