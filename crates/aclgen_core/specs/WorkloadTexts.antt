-- The texts of a workload, a test load for the program: so many networks, so many services, and a policy of so many terms,
-- each term on its own network and its own service, for four platforms.
use Rattle.std.specs.Prelude.{ℕ, ◌+◌, ◌/◌, ◌%◌, false, List, ◌++◌, flat_map, codes, decimal}
use Rattle.std.specs.Fmt.{digits}
use Rattle.std.specs.List.{range_with_len}

-- The number in lower case hexadecimal, without leading zeros.
abbrev pub hexadecimal : ℕ → List ℕ
hexadecimal n = digits 16 false n

-- The texts of the numbers from 0 on, so many of them, one behind the other.
abbrev pub for_each : (ℕ → List ℕ) → ℕ → List ℕ
for_each text count = flat_map text (range_with_len 0 count)

-- ---- one line, or one term

-- Ni = 10.a.b.0/25 10.a.b.128/25 2001:db8:x::/48
--
-- Here i is the number, a is i / 256, b is i % 256, and x is i in hexadecimal.
unfoldable pub network_line : ℕ → List ℕ
network_line i = codes "N" ++ decimal i
    ++ codes " = 10." ++ decimal (i / 256) ++ codes "." ++ decimal (i % 256)
    ++ codes ".0/25 10." ++ decimal (i / 256) ++ codes "." ++ decimal (i % 256)
    ++ codes ".128/25 2001:db8:" ++ hexadecimal i ++ codes "::/48\n"

-- Si = P/tcp P/udp, where P is 1000 + i
unfoldable pub service_line : ℕ → List ℕ
service_line i = codes "S" ++ decimal i
    ++ codes " = " ++ decimal (1000 + i) ++ codes "/tcp " ++ decimal (1000 + i) ++ codes "/udp\n"

unfoldable pub term_text : ℕ → List ℕ
term_text i = codes "term t" ++ decimal i ++ codes " {\n"
    ++ codes "  source-address:: N" ++ decimal i ++ codes "\n"
    ++ codes "  destination-port:: S" ++ decimal i ++ codes "\n"
    ++ codes "  protocol:: tcp udp\n"
    ++ codes "  action:: accept\n"
    ++ codes "}\n"

unfoldable pub header_text : List ℕ
header_text = codes "header {\n"
    ++ codes "  target:: cisco w mixed\n"
    ++ codes "  target:: juniper w inet\n"
    ++ codes "  target:: iptables FORWARD DROP\n"
    ++ codes "  target:: nftables mixed forward\n"
    ++ codes "}\n"

-- ---- the three texts

abbrev pub networks_text : ℕ → List ℕ
networks_text count = for_each network_line count

abbrev pub services_text : ℕ → List ℕ
services_text count = for_each service_line count

abbrev pub policy_text : ℕ → List ℕ
policy_text count = header_text ++ for_each term_text count
