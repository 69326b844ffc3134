-- The addresses that are known of lists of words, and whom they serve: each other two lists of the same texts.
use Rattle.std.specs.Prelude.{◌≡◌, ℕ, List, None, map}
use Rattle.std.specs.List.{AllByRecursion}
use Rattle.std.specs.Option.{option_or}
use Rattle.acl_packet.specs.Addresses.{top_address}
use Rattle.acl_packet.specs.declared.addresses.Family.TheVariants.{V4, V6}
use Rattle.acl_text.specs.Cursors.{lines_of}
use Rattle.acl_text.specs.Refusals.{first_in}
use Rattle.acl_words.specs.declared.word_lists.Word.{Word}
use Rattle.acl_naming.specs.Definitions.{Naming}
use Rattle.acl_terms.specs.declared.addresses.Addresses.{Addresses}
use Rattle.acl_text.specs.declared.text_keys.TextKey.{TextKey}
use Rattle.acl_terms.specs.Matching.{IsAddress}
use Rattle.acl_terms.specs.Sets.{IsSetOf}
use Rattle.acl_terms.specs.Slips.{network_slip}

abbrev pub texts : List Word → List (List ℕ)
texts words = map (λ w. w.text) words

-- They are the addresses of an end: those that the words name, less those that the excluded words name. Each name is
-- defined.
pub record AreAddresses (n : Naming) (words excludes : List Word) (a : Addresses) : Type 0 where
  pub are_defined : option_or (first_in (network_slip n.networks) words) (first_in (network_slip n.networks) excludes) ≡ None
  pub ipv4 : IsSetOf (IsAddress n V4 words excludes) (top_address V4) a.v4
  pub ipv6 : IsSetOf (IsAddress n V6 words excludes) (top_address V6) a.v6

-- They are those of all words whose texts are the lines of the one, with excluded words whose texts are the lines of
-- the other.
abbrev pub AreKnownFor : Naming → List ℕ → List ℕ → Addresses → Type 0
AreKnownFor n named excluded a =
    (words excludes : List Word) → lines_of named ≡ texts words → lines_of excluded ≡ texts excludes
    → AreAddresses n words excludes a

-- So it is with each of them, under its two texts.
abbrev pub AreKnown : Naming → List ((TextKey × TextKey) × Addresses) → Type 0
AreKnown n known = AllByRecursion (λ e. AreKnownFor n e.0.0.text.now e.0.1.text.now e.1) known
