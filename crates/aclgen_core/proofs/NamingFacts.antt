-- What is found in each of the lines of networks and of services, which is computed for all 1,024 of them.
use Rattle.std.proofs.Common.{ℕ, ◌+◌, ◌≤◌, ◌/◌, ◌%◌, Bool, true, List, [], ◌∷◌, ◌++◌, length, map, flat_map, codes, decimal, Option, None, Some, refl, arith}
use Rattle.std.specs.Fmt.{digits}
use Rattle.std.specs.List.{list_all}
use Rattle.acl_packet.specs.Decimals.{digits_in, number_in}
use Rattle.acl_packet.specs.NumberWords.{protocol_in, row_or_number}
use Rattle.acl_text.specs.AddressTexts.{address_in, block_in, full_in, prefix_in}
use Rattle.acl_text.specs.Ipv4.{ipv4_in}
use Rattle.acl_text.specs.Ipv6.{group_in, groups_in, ipv6_in, last_in, short_in, side_in, whole_in}
use Rattle.acl_text.specs.PortRanges.{port_in, port_pair_in, ports_in}
use Rattle.acl_text.specs.Cursors.{words_of}
use Rattle.acl_text.specs.Cuts.{cut_at}
use Rattle.acl_text.specs.Names.{is_name}
use Rattle.acl_naming.specs.declared.item_words.NamingKind.{NamingKind}
use Rattle.acl_naming.specs.declared.item_words.NamingKind.TheVariants.{Networks, Services}
use Rattle.acl_naming.specs.declared.naming_items.Item.{Item}
use Rattle.acl_naming.specs.Definitions.{Definition}
use Rattle.acl_naming.specs.ItemWords.{item_in, network_in, service_in, service_ports_in}
use Rattle.acl_naming.specs.NamingFiles.{bad_byte, trimmed, without_comment}
use Rattle.aclgen_core.specs.WorkloadTexts.{hexadecimal, network_line, service_line}
use Rattle.aclgen_core.specs.WorkloadNames.{network_items, service_items}
use Rattle.aclgen_core.proofs.FileLines.{has_no_feed, with_feed}
use Rattle.aclgen_core.proofs.RangeLaws.{SameBelow, computed}

-- The lines of a naming file, one for each number: each defines a name, which is a letter and the number.
pub record NamedLines : Type 0 where
  pub kind : NamingKind
  pub file : ℕ
  pub letter : List ℕ
  pub line : ℕ → List ℕ
  pub rest : ℕ → List ℕ
  pub items : ℕ → List Item

abbrev pub networks : NamedLines
networks = record {
  kind = Networks;
  file = 0;
  letter = codes "N";
  line = network_line;
  rest = λ i. codes " 10." ++ decimal (i / 256) ++ codes "." ++ decimal (i % 256)
      ++ codes ".0/25 10." ++ decimal (i / 256) ++ codes "." ++ decimal (i % 256)
      ++ codes ".128/25 2001:db8:" ++ hexadecimal i ++ codes "::/48";
  items = network_items;
}

abbrev pub services : NamedLines
services = record {
  kind = Services;
  file = 1;
  letter = codes "S";
  line = service_line;
  rest = λ i. codes " " ++ decimal (1000 + i) ++ codes "/tcp " ++ decimal (1000 + i) ++ codes "/udp";
  items = service_items;
}

abbrev pub defined : NamedLines → ℕ → Definition
defined l i = record { name = l.letter ++ decimal i; place = record { file = l.file; line = i + 1 }; items = l.items i }

abbrev pub front : NamedLines → ℕ → List ℕ
front l i = l.letter ++ decimal i ++ codes " "

abbrev pub text : NamedLines → ℕ → List ℕ
text l i = front l i ++ 61 ∷ l.rest i

-- What is found in a line: its bytes, and what each step of the reader makes of its text.
pub record LineParts : Type 0 where
  pub line : List ℕ
  pub no_feed : Bool
  pub no_comment : List ℕ
  pub bad : Option ℕ
  pub cut : Option (List ℕ × List ℕ)
  pub trim : List ℕ
  pub name_is : Bool
  pub items : List (Option Item)

abbrev pub parts_found : NamedLines → ℕ → LineParts
parts_found l i = record {
  line = l.line i;
  no_feed = list_all has_no_feed (text l i ∷ []);
  no_comment = without_comment (text l i);
  bad = bad_byte (text l i);
  cut = cut_at 61 (text l i);
  trim = trimmed (front l i);
  name_is = is_name (l.letter ++ decimal i);
  items = map (item_in l.kind (record { file = l.file; line = i + 1 })) (words_of (l.rest i));
}

abbrev pub parts_written : NamedLines → ℕ → LineParts
parts_written l i = record {
  line = flat_map with_feed (text l i ∷ []);
  no_feed = true;
  no_comment = text l i;
  bad = None;
  cut = Some (front l i, l.rest i);
  trim = l.letter ++ decimal i;
  name_is = true;
  items = map Some (l.items i);
}

-- What is found is what was written, and a line has three items at most.
pub record AreRead (l : NamedLines) : Type 0 where
  pub parts_are : SameBelow 1024 (parts_found l) (parts_written l)
  pub few_items : (i : ℕ) → length (l.items i) ≤ 3

pub networks_are_read : AreRead networks
unfolding network_line digits item_in network_in prefix_in address_in full_in block_in ipv4_in ipv6_in group_in last_in groups_in side_in whole_in short_in number_in digits_in
networks_are_read = record { parts_are = computed 1024 _ _ refl; few_items = λ i. omega arith }

pub services_are_read : AreRead services
unfolding service_line digits item_in service_in service_ports_in ports_in port_pair_in port_in protocol_in row_or_number number_in digits_in
services_are_read = record { parts_are = computed 1024 _ _ refl; few_items = λ i. omega arith }
