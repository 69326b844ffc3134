-- What the keywords of a term leave in it.
use Rattle.std.specs.Prelude.{ℕ, Bool, true, false, if◌then◌else◌, List, [], ◌∷◌, ◌++◌, map, Option, None, Some, is_some, Result, Ok, Err}
use Rattle.acl_text.specs.declared.faults.Code.TheVariants as codes_of
use Rattle.acl_text.specs.declared.faults.Slip.{Slip}
use Rattle.acl_words.specs.Tokens.{Token}
use Rattle.acl_policy.specs.declared.term_drafts.TermDraft.{TermDraft}
use Rattle.acl_words.specs.declared.word_lists.Word.{Word}
use Rattle.acl_policy.specs.RawTerms.{RawTerm}
use Rattle.acl_policy.specs.declared.keywords.Keyword.{Keyword}
use Rattle.acl_policy.specs.declared.keywords.Keyword.TheVariants as keywords
use Rattle.acl_policy.specs.declared.keywords.KeywordRow.{KeywordRow}
use Rattle.acl_host.specs.declared.days.Day.{Day}
use Rattle.acl_host.specs.NamedDays.{day_named}
use Rattle.acl_policy.specs.Keywords.{row_named}
use Rattle.acl_policy.specs.Slips.{slip_of, start_place}
use Rattle.acl_text.specs.Steps.{◌>>=◌}
use Rattle.acl_policy.specs.Values.{some_values, one_value, word_of}

abbrev pub no_word : Word
no_word = record { place = start_place; text = [] }

abbrev pub empty_term : Word → RawTerm
empty_term name = record {
  name = name;
  comments = [];
  action = no_word;
  sources = [];
  source_excludes = [];
  destinations = [];
  destination_excludes = [];
  addresses = [];
  protocols = [];
  source_ports = [];
  destination_ports = [];
  ports = [];
  icmp_types = [];
  icmp_codes = [];
  options = [];
  logging = false;
  expires = None;
  platforms = [];
  not_platforms = [];
}

-- A term of the name, before its first keyword.
abbrev pub draft_of : Word → TermDraft
draft_of name = record {
  term = empty_term name;
  has_comment = false;
  has_owner = false;
  has_action = false;
}

abbrev pub no_draft : TermDraft
no_draft = draft_of no_word

-- The strings of a comment have a space between any two.
abbrev pub comment_with : Bool → List ℕ → List ℕ → List ℕ
comment_with before text more = if before then (text ++ 32 ∷ []) ++ more else text ++ more

abbrev pub with_comment : TermDraft → List ℕ → TermDraft
with_comment d text = record d {
  term = record d.term { comments = comment_with d.has_comment d.term.comments text };
  has_comment = true;
}

abbrev pub with_comments : TermDraft → List Token → TermDraft
with_comments d [] = d
with_comments d (w ∷ ws) = with_comments (with_comment d w.text) ws

-- The words of a keyword that takes a list of them; the others keep none.
abbrev pub list_at : RawTerm → Keyword → List Word
list_at t keywords.SourceAddress = t.sources
list_at t keywords.SourceExclude = t.source_excludes
list_at t keywords.DestinationAddress = t.destinations
list_at t keywords.DestinationExclude = t.destination_excludes
list_at t keywords.Address = t.addresses
list_at t keywords.Protocol = t.protocols
list_at t keywords.SourcePort = t.source_ports
list_at t keywords.DestinationPort = t.destination_ports
list_at t keywords.Port = t.ports
list_at t keywords.IcmpType = t.icmp_types
list_at t keywords.IcmpCode = t.icmp_codes
list_at t keywords.Opt = t.options
list_at t keywords.Platform = t.platforms
list_at t keywords.PlatformExclude = t.not_platforms
list_at t _ = []

abbrev pub with_list : RawTerm → Keyword → List Word → RawTerm
with_list t keywords.SourceAddress ws = record t { sources = ws }
with_list t keywords.SourceExclude ws = record t { source_excludes = ws }
with_list t keywords.DestinationAddress ws = record t { destinations = ws }
with_list t keywords.DestinationExclude ws = record t { destination_excludes = ws }
with_list t keywords.Address ws = record t { addresses = ws }
with_list t keywords.Protocol ws = record t { protocols = ws }
with_list t keywords.SourcePort ws = record t { source_ports = ws }
with_list t keywords.DestinationPort ws = record t { destination_ports = ws }
with_list t keywords.Port ws = record t { ports = ws }
with_list t keywords.IcmpType ws = record t { icmp_types = ws }
with_list t keywords.IcmpCode ws = record t { icmp_codes = ws }
with_list t keywords.Opt ws = record t { options = ws }
with_list t keywords.Platform ws = record t { platforms = ws }
with_list t keywords.PlatformExclude ws = record t { not_platforms = ws }
with_list t _ ws = t

abbrev pub first_word : List Token → Word
first_word [] = no_word
first_word (w ∷ ws) = word_of w

abbrev pub first_day : List Token → Option Day
first_day [] = None
first_day (w ∷ ws) = day_named w.text

-- The draft with the values of one more keyword. The owner is not written.
abbrev pub with_values : TermDraft → Keyword → List Token → TermDraft
with_values d keywords.Comment ws = with_comments d ws
with_values d keywords.Owner ws = record d { has_owner = true }
with_values d keywords.Action ws = record d {
  term = record d.term { action = first_word ws };
  has_action = true;
}
with_values d keywords.Logging ws = record d { term = record d.term { logging = true } }
with_values d keywords.Expiration ws = record d { term = record d.term { expires = first_day ws } }
with_values d key ws = record d {
  term = with_list d.term key (list_at d.term key ++ map word_of ws);
}

-- Whether a keyword that stands once has stood.
abbrev pub has_stood : TermDraft → Keyword → Bool
has_stood d keywords.Owner = d.has_owner
has_stood d keywords.Action = d.has_action
has_stood d keywords.Logging = d.term.logging
has_stood d keywords.Expiration = is_some d.term.expires
has_stood d _ = false

abbrev pub item_checked : KeywordRow → TermDraft → Token → List Token → Result (Unit {0}) Slip
item_checked r d k ws =
    if r.once
    then (if has_stood d r.keyword then Err (slip_of codes_of.Repeated k)
    else one_value r.takes k ws)
    else some_values r.takes k ws

unfoldable pub item_behind : KeywordRow → TermDraft → Token → List Token → Result TermDraft Slip
item_behind r d k ws = item_checked r d k ws >>= λ _. Ok (with_values d r.keyword ws)

-- What is behind the row of a keyword, where the term has such a keyword.
abbrev pub row_behind : Option KeywordRow → TermDraft → Token → List Token → Result TermDraft Slip
row_behind None d k ws = Err (slip_of codes_of.Keyword k)
row_behind (Some r) d k ws = item_behind r d k ws

-- A keyword of a term, with its values.
unfoldable pub draft_behind : TermDraft → Token → List Token → Result TermDraft Slip
draft_behind d k ws = row_behind (row_named k.text) d k ws
