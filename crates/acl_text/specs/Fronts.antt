-- Texts that begin with a digit, a number of a byte, groups of hexadecimal digits, or an address, and what stands behind.
use Rattle.std.specs.Prelude.{◌≡◌, ℕ, ◌+◌, ◌<◌, ◌≤◌, Bool, true, ◌&&◌, ◌||◌, nat_le, List, ◌∷◌, ◌++◌, length, Some}
use Rattle.std.specs.List.{list_all}
use Rattle.std.specs.Char.{is_ascii_digit}
use Rattle.acl_packet.specs.declared.addresses.Family.{Family}
use Rattle.acl_packet.specs.declared.addresses.Prefix.{Prefix}
use Rattle.acl_text.specs.AddressTexts.{IsAddressText, IsPrefixText}
use Rattle.acl_text.specs.Ipv4.{IsByte}
use Rattle.acl_text.specs.Ipv6.{hex_value, IsGroup, IsGroups, IsSide, grouped}

pub record IsDigitFront (text rest : List ℕ) (n : ℕ) : Type 0 where
  pub byte : ℕ
  pub text_is : text ≡ byte ∷ rest
  pub digit : is_ascii_digit byte ≡ true
  pub value : byte ≡ n + 48
  pub small : n ≤ 9

pub record IsByteFront (text rest : List ℕ) (n : ℕ) : Type 0 where
  pub front : List ℕ
  pub text_is : text ≡ front ++ rest
  pub byte_is : IsByte front n

pub record IsHexFront (text rest : List ℕ) (n : ℕ) : Type 0 where
  pub byte : ℕ
  pub text_is : text ≡ byte ∷ rest
  pub digit : hex_value byte ≡ Some n

pub record IsGroupFront (text rest : List ℕ) (n : ℕ) : Type 0 where
  pub front : List ℕ
  pub text_is : text ≡ front ++ rest
  pub group_is : IsGroup front n

-- `:` (58) and a group.
pub record IsNextGroup (text rest : List ℕ) (n : ℕ) : Type 0 where
  pub next : List ℕ
  pub text_is : text ≡ 58 ∷ next
  pub group_is : IsGroupFront next rest n

-- Groups with `:` before each, which go on behind a group: how many more might have come before them and behind
-- them, and the number with that of the groups before them.
pub record GroupsGoOn (text rest : List ℕ) (left value left_behind value_behind : ℕ) : Type 0 where
  pub front : List ℕ
  pub groups : List ℕ
  pub text_is : text ≡ front ++ rest
  pub go_on : (dotted : Bool) (bs : List ℕ) (g : ℕ) → IsGroup bs g → IsGroups dotted (bs ++ front) (g ∷ groups)
  pub counted : length groups + left_behind ≡ left
  pub number : value_behind ≡ grouped value groups

-- One side of `::`, or all groups of an address: how many more there might have been, and their number.
pub record IsSideFront (text rest : List ℕ) (left value : ℕ) : Type 0 where
  pub front : List ℕ
  pub groups : List ℕ
  pub text_is : text ≡ front ++ rest
  pub side_is : (dotted : Bool) → IsSide dotted front groups
  pub counted : length groups + left ≡ 8
  pub number : value ≡ grouped 0 groups

pub record IsAddressFront (family : Family) (text rest : List ℕ) (n : ℕ) : Type 0 where
  pub front : List ℕ
  pub text_is : text ≡ front ++ rest
  pub address_is : IsAddressText family front n

-- `.` (46), `/` (47), a digit (48 to 57), `:` (58), or a letter that is a hexadecimal digit.
abbrev pub is_prefix_byte : ℕ → Bool
is_prefix_byte b = (nat_le 46 b && nat_le b 58) || ((nat_le 65 b && nat_le b 70) || (nat_le 97 b && nat_le b 102))

-- A word of such bytes that spells a prefix, and what stands behind it.
pub record IsPrefixFront (text rest : List ℕ) (p : Prefix) : Type 0 where
  pub word : List ℕ
  pub nonempty : 0 < length word
  pub text_is : text ≡ word ++ rest
  pub prefix_is : IsPrefixText word p
  pub bytes : list_all is_prefix_byte word ≡ true
