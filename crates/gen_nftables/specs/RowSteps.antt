-- The head of a section, the rows of its items, and the numbers of a set.
use Rattle.std.specs.Prelude.{ℕ, List, ◌++◌, flat_map, codes}
use Rattle.std.specs.Fmt.{decimal}
use Rattle.acl_packet.specs.declared.addresses.Families.{Families}
use Rattle.acl_rows.specs.Rows.{Row}
use Rattle.acl_platform.specs.declared.filters.Filter.{Filter}
use Rattle.nft_lang.specs.declared.chain_rows.TableHead.{TableHead}
use Rattle.nft_lang.specs.declared.documents.Item.{Item}
use Rattle.nft_lang.specs.Texts.{item_rows}
use Rattle.gen_nftables.specs.Sections.{accepts}

abbrev pub items_rows : Families → List Item → List Row
items_rows families items = flat_map (item_rows families) items

abbrev pub head_of : Filter → TableHead
head_of f = record {
  hook = f.hook;
  families = f.families;
  number = f.number;
  priority = f.priority;
  accept = accepts f.ending;
}

-- Numbers, each behind a comma and a space.
abbrev pub other_numbers : List ℕ → List ℕ
other_numbers numbers = flat_map (λ n. codes ", " ++ decimal n) numbers
