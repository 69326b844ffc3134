-- Reading an address of a list leniently: any words are some address and the words behind it.
use Rattle.std.specs.Prelude.{ℕ, ◌-◌, if◌then◌else◌, List, [], ◌∷◌, codes, unwrap_or}
use Rattle.std.specs.Int.Count.{count_leading_zeros}
use Rattle.std.specs.Str.{bytes_eq}
use Rattle.acl_packet.specs.declared.addresses.Family.{Family}
use Rattle.acl_packet.specs.declared.addresses.Family.TheVariants.{V4, V6}
use Rattle.acl_packet.specs.declared.addresses.Prefix.{Prefix}
use Rattle.acl_packet.specs.Addresses.{width_of, everywhere}
use Rattle.acl_text.specs.AddressTexts.{address_in, spelled_prefix_in}

-- The next word, which is empty where there is none, and the words behind it.
unfoldable pub next_word : List (List ℕ) → List ℕ × List (List ℕ)
next_word [] = ([], [])
next_word (w ∷ words) = (w, words)

unfoldable pub take_address : Family → List (List ℕ) → ℕ × List (List ℕ)
take_address family words =
    let word = next_word words in
    (unwrap_or (address_in family word.0) 0, word.1)

-- As many bits as are not set before the first that is.
abbrev pub wildcard_length : ℕ → ℕ
wildcard_length wildcard = count_leading_zeros 128 wildcard - 96

-- An address and its wildcard, or in IPv6 a prefix.
unfoldable pub take_masked : Family → List (List ℕ) → Prefix × List (List ℕ)
take_masked V4 words =
    let first = take_address V4 words in
    let wildcard = take_address V4 first.1 in
    (record { family = V4; first = first.0; len = wildcard_length wildcard.0 }, wildcard.1)
take_masked V6 words =
    let word = next_word words in
    (unwrap_or (spelled_prefix_in V6 word.0) (everywhere V6), word.1)

unfoldable pub take_place : Family → List (List ℕ) → Prefix × List (List ℕ)
take_place family words =
    let word = next_word words in
    let host = take_address family word.1 in
    if bytes_eq word.0 (codes "any") then (everywhere family, word.1)
    else if bytes_eq word.0 (codes "host")
    then (record { family = family; first = host.0; len = width_of family }, host.1)
    else take_masked family words
