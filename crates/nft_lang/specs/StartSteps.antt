-- Where the prefixes of a rule's sets begin, read from its words with nothing else of the rule.
use Rattle.std.specs.Prelude.{◌≡◌, ℕ, Bool, ◌&&◌, nat_lt, if◌then◌else◌, List, [], ◌∷◌, ◌++◌, length, false, Option, Some}
use Rattle.std.specs.List.{fold}
use Rattle.std.specs.Option.{option_map_or}
use Rattle.std.specs.Ordering.{eq_by_cmp, nat_cmp}
use Rattle.acl_packet.specs.declared.addresses.Family.{Family}
use Rattle.acl_packet.specs.declared.addresses.Families.{Families}
use Rattle.acl_packet.specs.declared.addresses.Prefix.{Prefix}
use Rattle.acl_packet.specs.Addresses.{first_family}
use Rattle.acl_packet.specs.Decimals.{number_in}
use Rattle.acl_text.specs.AddressTexts.{spelled_prefix_in}
use Rattle.acl_text.specs.PortRanges.{ports_in}
use Rattle.acl_rows.specs.ApartSteps.{are_apart}
use Rattle.acl_rows.specs.declared.rule_parts.End.{End}
use Rattle.acl_rows.specs.declared.rule_parts.End.TheVariants.{Source, Destination}
use Rattle.nft_lang.specs.declared.documents.Item.{Item}
use Rattle.nft_lang.specs.declared.rule_drafts.Next.{Next}
use Rattle.nft_lang.specs.declared.rule_drafts.Next.TheVariants.{Keyword, PacketFamily, Protocol, Addresses, Ports, Types, Codes}
use Rattle.nft_lang.specs.declared.start_drafts.StartDraft.{StartDraft}
use Rattle.nft_lang.specs.ReadingSteps.{in_set, next_in, nfproto_in, up_to}
use Rattle.nft_lang.specs.ScanSteps.{first_item_in}
use Rattle.nft_lang.specs.ValiditySteps.{is_item}

-- So many of a set are looked at.
unfoldable pub most_starts : ℕ
most_starts = 1450000

-- One more start, where there is room.
unfoldable pub with_start : List ℕ → ℕ → List ℕ
with_start starts start = if nat_lt (length starts) most_starts then starts ++ start ∷ [] else starts

abbrev pub no_starts : Family → StartDraft
no_starts family = record { family = family; next = Keyword; src = []; dst = [] }

abbrev pub with_address_start : End → Prefix → StartDraft → StartDraft
with_address_start Source p d = record d { src = with_start d.src p.first }
with_address_start Destination p d = record d { dst = with_start d.dst p.first }

abbrev pub with_next : Next → StartDraft → StartDraft
with_next next d = record d { next = next }

-- Behind a word of a set of other elements.
abbrev pub next_behind : {A : Type 0} → Option A → Next → List ℕ → Next
next_behind element next w = option_map_or {U = Next} (λ e. next) element (in_set next w)

unfoldable pub address_step : StartDraft → End → List ℕ → StartDraft
address_step d end w =
    option_map_or {U = StartDraft} (λ p. with_next (Addresses end) (with_address_start end p d))
    (spelled_prefix_in d.family (up_to 44 w)) (with_next (in_set (Addresses end) w) d)

unfoldable pub step_as : StartDraft → Next → List ℕ → StartDraft
step_as d Keyword w = with_next (next_in w) d
step_as d PacketFamily w = record d { family = nfproto_in w; next = Keyword }
step_as d Protocol w = with_next Keyword d
step_as d (Addresses end) w = address_step d end w
step_as d (Ports end) w = with_next (next_behind (ports_in 45 (up_to 44 w)) (Ports end) w) d
step_as d Types w = with_next (next_behind (number_in 254 (up_to 44 w)) Types w) d
step_as d Codes w = with_next (next_behind (number_in 255 (up_to 44 w)) Codes w) d

abbrev pub start_step : StartDraft → List ℕ → StartDraft
start_step d w = step_as d d.next w

unfoldable pub starts_in : Families → List (List ℕ) → StartDraft
starts_in families words = fold start_step (no_starts (first_family families)) words

abbrev pub are_distinct_starts : List ℕ → Bool
are_distinct_starts starts = are_apart (eq_by_cmp nat_cmp) starts

-- Whether no two prefixes of a set begin at one address, as far as they are looked at.
abbrev pub has_distinct_starts : StartDraft → Bool
has_distinct_starts d = are_distinct_starts d.src && are_distinct_starts d.dst

-- The first line says no valid item.
abbrev pub IsRefused : Families → List ℕ → Type 0
IsRefused families text = (item : Item) → first_item_in families text ≡ Some item → is_item families item ≡ false
