-- The numbers of protocols and of ICMP types, by words.
use Rattle.std.specs.Prelude.{◌≡◌, ℕ, ◌≤◌, ◌⊎◌, nat_lt, if◌then◌else◌, List, [], ◌∷◌, Option, Some, None, decimal, codes}
use Rattle.std.specs.Option.{option_or}
use Rattle.std.specs.Str.{bytes_eq}
use Rattle.acl_packet.specs.Decimals.{number_in}
use Rattle.acl_packet.specs.declared.addresses.Family.{Family}
use Rattle.acl_packet.specs.declared.addresses.Family.TheVariants.{V4, V6}

-- A word and its number.
abbrev pub NumberWord : Type 0
NumberWord = List ℕ × ℕ

-- IANA, Protocol Numbers.
abbrev pub protocols : List NumberWord
protocols = (codes "icmp", 1) ∷ (codes "igmp", 2) ∷ (codes "ipip", 4) ∷ (codes "tcp", 6) ∷ (codes "udp", 17)
    ∷ (codes "gre", 47) ∷ (codes "esp", 50) ∷ (codes "ah", 51) ∷ (codes "icmpv6", 58) ∷ (codes "ospf", 89)
    ∷ (codes "pim", 103) ∷ (codes "vrrp", 112) ∷ (codes "sctp", 132) ∷ []

-- The types of RFC 792, and those of RFC 1256.
abbrev pub icmp_types : List NumberWord
icmp_types = (codes "echo-reply", 0) ∷ (codes "unreachable", 3) ∷ (codes "source-quench", 4) ∷ (codes "redirect", 5)
    ∷ (codes "echo-request", 8) ∷ (codes "router-advertisement", 9) ∷ (codes "router-solicitation", 10)
    ∷ (codes "time-exceeded", 11) ∷ (codes "parameter-problem", 12) ∷ (codes "timestamp-request", 13)
    ∷ (codes "timestamp-reply", 14) ∷ []

-- The types of RFC 4443, and those of RFC 4861.
abbrev pub icmpv6_types : List NumberWord
icmpv6_types = (codes "destination-unreachable", 1) ∷ (codes "packet-too-big", 2) ∷ (codes "time-exceeded", 3)
    ∷ (codes "parameter-problem", 4) ∷ (codes "echo-request", 128) ∷ (codes "echo-reply", 129)
    ∷ (codes "router-solicit", 133) ∷ (codes "router-advertisement", 134) ∷ (codes "neighbor-solicit", 135)
    ∷ (codes "neighbor-advertisement", 136) ∷ (codes "redirect-message", 137) ∷ []

abbrev pub types_of : Family → List NumberWord
types_of V4 = icmp_types
types_of V6 = icmpv6_types

-- The number of the word's row.
abbrev pub row_of : List NumberWord → List ℕ → Option ℕ
row_of [] word = None
row_of (r ∷ rs) word = if bytes_eq word r.0 then Some r.1 else row_of rs word

-- The word is the number's: it is the word of its row, or, where it has no row, the number in decimal without
-- a leading zero, which lies within the limits.
abbrev pub IsNumberWord : List NumberWord → ℕ → ℕ → List ℕ → ℕ → Type 0
IsNumberWord table least most word n =
    (row_of table word ≡ Some n)
    ⊎ ((row_of table word ≡ None) × (word ≡ decimal n) × (least ≤ n) × (n ≤ most))

-- A protocol is a row's, or 1 to 255.
abbrev pub IsProtocolWord : List ℕ → ℕ → Type 0
IsProtocolWord word n = IsNumberWord protocols 1 255 word n

-- A type is a row's, or 0 to 254: 255 is reserved (RFC 4443 section 2.1), and iptables uses it for any type.
abbrev pub IsTypeWord : Family → List ℕ → ℕ → Type 0
IsTypeWord f word n = IsNumberWord (types_of f) 0 254 word n

-- The number, where it is not below the least one.
abbrev pub not_below : ℕ → Option ℕ → Option ℕ
not_below least None = None
not_below least (Some n) = if nat_lt n least then None else Some n

-- The number of the word: its row's, or else the one that it is, within limits.
unfoldable pub row_or_number : List NumberWord → ℕ → ℕ → List ℕ → Option ℕ
row_or_number table least most word =
    option_or (row_of table word) (not_below least (number_in most word))

-- The protocol of the word.
unfoldable pub protocol_in : List ℕ → Option ℕ
protocol_in word = row_or_number protocols 1 255 word

-- The ICMP type of the word in the family.
unfoldable pub icmp_in : Family → List ℕ → Option ℕ
icmp_in f word = row_or_number (types_of f) 0 254 word
