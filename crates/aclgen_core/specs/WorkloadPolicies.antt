-- The policy of a workload, as a text of the policy language.
use Rattle.std.specs.Prelude.{ℕ, ◌+◌, ◌*◌, List, [], ◌∷◌, ◌++◌, map, codes, decimal, Some}
use Rattle.acl_packet.specs.declared.addresses.Families.TheVariants.{Inet, Mixed}
use Rattle.acl_packet.specs.declared.filtering.Hook.TheVariants.{Forward}
use Rattle.acl_text.specs.declared.faults.Place.{Place}
use Rattle.acl_words.specs.declared.word_lists.Word.{Word}
use Rattle.acl_policy.specs.declared.keywords.Keyword.{Keyword}
use Rattle.acl_policy.specs.declared.keywords.Keyword.TheVariants as keywords
use Rattle.policy_grammar.specs.TargetTexts.{Choice, LineText, plain}
use Rattle.policy_grammar.specs.TermTexts.{Item, TermText}
use Rattle.policy_grammar.specs.PolicyTexts.{BlockText, HeaderItem}
use Rattle.aclgen_core.specs.WorkloadNames.{each, network_name, service_name}

abbrev pub at_line : ℕ → Place
at_line n = record { file = 0; line = n }

abbrev pub word_at : ℕ → List ℕ → Word
word_at n text = record { place = at_line n; text = text }

-- ---- the header, in the lines 1 to 6

abbrev pub target_at : ℕ → LineText → HeaderItem
target_at n line =
    HeaderItem.Line (record { place = at_line n; platform = at_line n; line = line; number = 1 })

abbrev pub header_items : List HeaderItem
header_items =
    target_at 2 (LineText.CiscoLine (word_at 2 (codes "w")) (Some (at_line 2, Mixed)))
    ∷ target_at 3 (LineText.JuniperLine (word_at 3 (codes "w")) (Some (at_line 3, Inet)))
    ∷ target_at 4 (LineText.IptablesLine (at_line 4) Forward ((at_line 4, Choice.DropWord) ∷ []))
    ∷ target_at 5 (LineText.NftablesLine (at_line 5) Mixed (at_line 5) Forward []) ∷ []

-- ---- a term, which stands in six lines

-- The lines before it.
abbrev pub lines_before : ℕ → ℕ
lines_before i = 6 * i + 6

abbrev pub term_name : ℕ → List ℕ
term_name i = codes "t" ++ decimal i

-- A keyword and its values in a line.
abbrev pub item_at : ℕ → Keyword → List ℕ → List (List ℕ) → Item
item_at n key value values = record {
  place = at_line n;
  key = key;
  first = plain (at_line n) value;
  more = map (plain (at_line n)) values;
}

abbrev pub term_items : ℕ → ℕ → List Item
term_items n i = item_at (n + 2) keywords.SourceAddress (network_name i) []
    ∷ item_at (n + 3) keywords.DestinationPort (service_name i) []
    ∷ item_at (n + 4) keywords.Protocol (codes "tcp") (codes "udp" ∷ [])
    ∷ item_at (n + 5) keywords.Action (codes "accept") [] ∷ []

abbrev pub term_behind : ℕ → ℕ → TermText
term_behind n i = record {
  place = at_line (n + 1);
  name = word_at (n + 1) (term_name i);
  begin = at_line (n + 1);
  items = term_items n i;
  end = at_line (n + 6);
}

abbrev pub term_at : ℕ → TermText
term_at i = term_behind (lines_before i) i

-- ---- the one block

abbrev pub block_text : ℕ → BlockText
block_text n = record {
  place = at_line 1;
  begin = at_line 1;
  items = header_items;
  end = at_line 6;
  terms = each term_at n;
}

abbrev pub workload_text : ℕ → List BlockText
workload_text n = block_text n ∷ []
