-- What the elements of a set are compared with, as words.
use Rattle.std.specs.Prelude.{ℕ, List, ◌++◌, codes}
use Rattle.nft_lang.specs.declared.sets.SetKey.{SetKey}
use Rattle.nft_lang.specs.declared.sets.SetKey.TheVariants.{Source, Destination, SourcePort, DestinationPort, IcmpType, IcmpCode}
use Rattle.nft_lang.specs.Texts.{address_word, icmp_word, port_word}

abbrev pub key_front : SetKey → List ℕ
key_front (Source family) = address_word family
key_front (Destination family) = address_word family
key_front (SourcePort proto) = port_word proto
key_front (DestinationPort proto) = port_word proto
key_front (IcmpType family) = icmp_word family
key_front (IcmpCode family) = icmp_word family

abbrev pub key_word : SetKey → List ℕ
key_word (Source family) = codes "saddr"
key_word (Destination family) = codes "daddr"
key_word (SourcePort proto) = codes "sport"
key_word (DestinationPort proto) = codes "dport"
key_word (IcmpType family) = codes "type"
key_word (IcmpCode family) = codes "code"

-- What stands in front of the first element of a set.
unfoldable pub set_opening : SetKey → List ℕ
set_opening key = codes " " ++ (key_front key ++ (codes " " ++ (key_word key ++ codes " { ")))
