-- Reading leniently: a draft that rows change, and that nothing refuses.
use Rattle.std.specs.Prelude.{ℕ, ◌-◌, true, ◌==◌, if◌then◌else◌, List, [], ◌∷◌, ◌++◌, length, take, drop, flat_map, codes, Option, None, Some}
use Rattle.std.specs.List.{join_with_byte}
use Rattle.std.specs.Str.{bytes_eq}
use Rattle.acl_packet.specs.declared.addresses.Family.{Family}
use Rattle.acl_packet.specs.declared.addresses.Family.TheVariants.{V4}
use Rattle.acl_packet.specs.declared.addresses.Prefix.{Prefix}
use Rattle.acl_packet.specs.declared.filtering.Verdict.TheVariants.{Accept, Deny, Reject, Reset}
use Rattle.acl_packet.specs.Decimals.{number_in}
use Rattle.acl_text.specs.AddressTexts.{spelled_prefix_in}
use Rattle.acl_text.specs.Cuts.{cut_at}
use Rattle.acl_text.specs.OptionSteps.{◌>>=◌}
use Rattle.acl_text.specs.PortRanges.{ports_in}
use Rattle.acl_rows.specs.RowSteps.{few_in}
use Rattle.acl_rows.specs.Rows.{Row}
use Rattle.acl_rows.specs.FamilyWords.{family_in}
use Rattle.junos_lang.specs.declared.documents.Section.{Section}
use Rattle.junos_lang.specs.declared.documents.JTerm.{JTerm}
use Rattle.junos_lang.specs.declared.documents.JTest.TheVariants.{Established, Initial, Rst}
use Rattle.acl_rows.specs.declared.rule_parts.End.{End}
use Rattle.acl_rows.specs.declared.rule_parts.End.TheVariants.{Source, Destination}
use Rattle.junos_lang.specs.declared.filters_drafts.FiltersDraft.{FiltersDraft}
use Rattle.junos_lang.specs.Documents.{bare_term}

-- ---- elements of lists

abbrev pub one_or_none : {A : Type 0} → Option A → List A
one_or_none None = []
one_or_none (Some a) = a ∷ []

-- The numbers and the ranges among the words.
unfoldable pub numbers_in : List (List ℕ) → List ℕ
numbers_in words = flat_map (λ w. one_or_none (number_in 255 w)) words

unfoldable pub ranges_in : List (List ℕ) → List (ℕ × ℕ)
ranges_in words = flat_map (λ w. one_or_none (ports_in 45 w)) words

-- The prefix before a `;`.
unfoldable pub listed_prefix_in : Family → List ℕ → Option Prefix
listed_prefix_in family w = cut_at 59 w >>= (λ p. spelled_prefix_in family p.0)

-- The text of a comment, without the space and the two bytes that end it.
unfoldable pub note_in : List ℕ → List ℕ
note_in text = take (length text - 3) text

-- ---- the parts of a term

abbrev pub no_term : JTerm
no_term = bare_term [] Accept

abbrev pub with_prefix : JTerm → End → Option Prefix → JTerm
with_prefix t end None = t
with_prefix t Source (Some p) = record t { src = t.src ++ p ∷ [] }
with_prefix t Destination (Some p) = record t { dst = t.dst ++ p ∷ [] }

unfoldable pub with_list : JTerm → List ℕ → List (List ℕ) → JTerm
with_list t w words =
    if bytes_eq w (codes "source-port") then record t { sports = ranges_in words }
    else if bytes_eq w (codes "destination-port") then record t { dports = ranges_in words }
    else if bytes_eq w (codes "icmp-type") then record t { itypes = numbers_in words }
    else if bytes_eq w (codes "icmp-code") then record t { icodes = numbers_in words }
    else record t { protos = numbers_in words }

unfoldable pub with_word : JTerm → List ℕ → JTerm
with_word t w =
    if bytes_eq w (codes "accept;") then record t { verdict = Accept }
    else if bytes_eq w (codes "discard;") then record t { verdict = Deny }
    else if bytes_eq w (codes "reject;") then record t { verdict = Reject }
    else if bytes_eq w (codes "syslog;") then record t { syslog = true }
    else if bytes_eq w (codes "tcp-established;") then record t { test = Some Established }
    else if bytes_eq w (codes "tcp-initial;") then record t { test = Some Initial }
    else t

unfoldable pub with_pair : JTerm → List ℕ → JTerm
with_pair t w =
    if bytes_eq w (codes "reject") then record t { verdict = Reset }
    else if bytes_eq w (codes "tcp-flags") then record t { test = Some Rst }
    else t

-- A block of addresses is of destinations until it ends, where it begins so.
unfoldable pub end_in : List ℕ → End
end_in w = if bytes_eq w (codes "destination-address") then Destination else Source

-- ---- the rows of a document

abbrev pub no_section : Section
no_section = record { family = V4; name = []; terms = [] }

abbrev pub no_draft : FiltersDraft
no_draft = record { sections = []; section = no_section; term = no_term; end = Source }

abbrev pub end_term : FiltersDraft → FiltersDraft
end_term d = record d {
  section = record d.section { terms = d.section.terms ++ d.term ∷ [] };
  term = no_term;
}

abbrev pub end_section : FiltersDraft → FiltersDraft
end_section d = record d { sections = d.sections ++ d.section ∷ []; section = no_section }

unfoldable pub take_outer : FiltersDraft → List (List ℕ) → FiltersDraft
take_outer d (w ∷ []) = if bytes_eq w (codes "}") then end_section d else d
take_outer d words = d

abbrev pub take_family : FiltersDraft → List (List ℕ) → FiltersDraft
take_family d (w ∷ family ∷ brace ∷ []) =
    record d { section = record d.section { family = family_in family } }
take_family d words = d

abbrev pub take_filter : FiltersDraft → List (List ℕ) → FiltersDraft
take_filter d (w ∷ v ∷ name ∷ brace ∷ []) =
    record d { section = record d.section { name = name } }
take_filter d words = d

-- The row of a comment, or of a term's name.
unfoldable pub take_head : FiltersDraft → List ℕ → List ℕ → List ℕ → FiltersDraft
take_head d w name text =
    if bytes_eq w (codes "/*") then record d { term = record d.term { note = Some (note_in text) } }
    else record d { term = record d.term { name = name } }

-- The first few words of a row tell what it is.
abbrev pub take_term : FiltersDraft → List (List ℕ) → List (List ℕ) → FiltersDraft
take_term d [] words = d
take_term d (w ∷ []) words = end_term d
take_term d (w ∷ name ∷ few) words = take_head d w name (join_with_byte 32 (drop 1 words))

abbrev pub take_part : FiltersDraft → List (List ℕ) → List (List ℕ) → FiltersDraft
take_part d [] words = d
take_part d (w ∷ []) words = record d { term = with_word d.term w; end = Source }
take_part d (w ∷ v ∷ []) words = record d { term = with_pair d.term w; end = end_in w }
take_part d (w ∷ v ∷ x ∷ few) words = record d { term = with_list d.term w words }

abbrev pub take_address : FiltersDraft → List (List ℕ) → FiltersDraft
take_address d (w ∷ []) =
    record d { term = with_prefix d.term d.end (listed_prefix_in d.section.family w) }
take_address d words = d

unfoldable pub take_row : FiltersDraft → Row → FiltersDraft
take_row d r =
    if r.indent == 0 then take_outer d (few_in r.words)
    else if r.indent == 4 then take_family d (few_in r.words)
    else if r.indent == 8 then take_filter d (few_in r.words)
    else if r.indent == 12 then take_term d (few_in r.words) r.words
    else if r.indent == 20 then take_part d (few_in r.words) r.words
    else if r.indent == 24 then take_address d (few_in r.words)
    else d
