-- IPv6 addresses as text: read by RFC 4291 section 2.2, and printed by RFC 5952 sections 4 and 5.
use Rattle.std.specs.Prelude.{◌≡◌, ℕ, zero, suc, ◌+◌, ◌-◌, ◌*◌, ◌/◌, ◌%◌, ◌^◌, ◌<◌, ◌≤◌, Bool, true, false, ◌&&◌, ◌==◌, ◌⊎◌, nat_lt, nat_le, if◌then◌else◌, List, [], ◌∷◌, ◌++◌, length, map, take, drop, replicate, slice_index, Option, Some, None, option_map}
use Rattle.std.specs.List.{join_with_byte}
use Rattle.std.specs.Option.{option_map_or}
use Rattle.acl_text.specs.Cuts.{cut_at}
use Rattle.acl_text.specs.OptionSteps.{◌>>=◌}
use Rattle.acl_text.specs.Ipv4.{IsIpv4, ipv4_in}

-- The value of a hexadecimal digit of either case.
abbrev pub hex_value : ℕ → Option ℕ
hex_value b =
    if nat_le 48 b && nat_le b 57 then Some (b - 48)
    else if nat_le 97 b && nat_le b 102 then Some (b - 87)
    else if nat_le 65 b && nat_le b 70 then Some (b - 55)
    else None

-- What hexadecimal digits are worth behind a number that was read before them, where all are digits.
abbrev pub hex_worth : ℕ → List ℕ → Option ℕ
hex_worth value [] = Some value
hex_worth value (b ∷ bs) = hex_value b >>= (λ d. hex_worth (value * 16 + d) bs)

-- A group: one to four hexadecimal digits, and the 16 bits that they spell.
pub record IsGroup (bs : List ℕ) (n : ℕ) : Type 0 where
  pub nonempty : 0 < length bs
  pub short : length bs ≤ 4
  pub value : hex_worth 0 bs ≡ Some n

-- Groups with `:` between, and the numbers that they spell. Where it is said so, the last two may be
-- written as an IPv4 address.
abbrev pub IsGroups : Bool → List ℕ → List ℕ → Type 0
IsGroups dotted bs [] = ⊥
IsGroups dotted bs (g ∷ []) = IsGroup bs g
IsGroups dotted bs (g ∷ h ∷ gs) =
    ((xs : List ℕ) × (ys : List ℕ) × (bs ≡ xs ++ 58 ∷ ys) × IsGroup xs g
    × IsGroups dotted ys (h ∷ gs))
    ⊎ ((dotted ≡ true) × (gs ≡ []) × IsIpv4 bs (g * 65536 + h) × (h < 65536))

-- One side of `::`: no groups, or some.
abbrev pub IsSide : Bool → List ℕ → List ℕ → Type 0
IsSide dotted bs gs = ((bs ≡ []) × (gs ≡ [])) ⊎ IsGroups dotted bs gs

-- The number that groups spell behind a number that was read before them.
abbrev pub grouped : ℕ → List ℕ → ℕ
grouped value [] = value
grouped value (g ∷ gs) = grouped (value * 65536 + g) gs

-- All eight groups.
pub record IsWhole (bs : List ℕ) (n : ℕ) : Type 0 where
  pub groups : List ℕ
  pub text : IsGroups true bs groups
  pub eight : length groups ≡ 8
  pub value : n ≡ grouped 0 groups

-- Fewer groups, with `::` for one or more groups of zeros.
pub record IsShort (bs : List ℕ) (n : ℕ) : Type 0 where
  pub before : List ℕ
  pub behind : List ℕ
  pub text : bs ≡ before ++ 58 ∷ 58 ∷ behind
  pub front : List ℕ
  pub back : List ℕ
  pub front_is : IsSide false before front
  pub back_is : IsSide true behind back
  pub fewer : length front + length back ≤ 7
  pub value : n ≡ grouped 0 front * 65536 ^ (8 - length front) + grouped 0 back

-- The text is the address's.
abbrev pub IsIpv6 : List ℕ → ℕ → Type 0
IsIpv6 bs n = IsWhole bs n ⊎ IsShort bs n

-- The number of a group, where the text is one.
unfoldable pub group_in : List ℕ → Option ℕ
group_in bs = if nat_lt 0 (length bs) && nat_le (length bs) 4 then hex_worth 0 bs else None

-- The last group, or the last two as an IPv4 address: how many groups there may be behind, and the number.
unfoldable pub last_in : ℕ → Bool → ℕ → List ℕ → Option (ℕ × ℕ)
last_in left dotted value bs =
    option_map_or {U = Option (ℕ × ℕ)} (λ g. Some (left, value * 65536 + g)) (group_in bs)
    (if dotted && nat_lt 0 left
    then option_map {U = ℕ × ℕ} (λ a. (left - 1, value * 2 ^ 32 + a)) (ipv4_in bs) else None)

-- Groups behind a number that was read before them, where at most so many may come: how many more there
-- might have been, and the number.
unfoldable pub groups_in : ℕ → Bool → ℕ → List ℕ → Option (ℕ × ℕ)
groups_in zero dotted value bs = None
groups_in (suc left) dotted value bs = option_map_or {U = Option (ℕ × ℕ)}
    (λ p. group_in p.0 >>= (λ g. groups_in left dotted (value * 65536 + g) p.1)) (cut_at 58 bs)
    (last_in left dotted value bs)

-- The groups of one side of `::`: how many more there might have been, up to eight, and their number.
unfoldable pub side_in : Bool → List ℕ → Option (ℕ × ℕ)
side_in dotted bs = if length bs == 0 then Some (8, 0) else groups_in 8 dotted 0 bs

-- The text before the first `::`, and the text behind it.
abbrev pub gap_at : List ℕ → Option (List ℕ × List ℕ)
gap_at [] = None
gap_at (b ∷ bs) =
    if b == 58 && slice_index bs 0 == 58 then Some ([], drop 1 bs)
    else option_map (λ p. (b ∷ p.0, p.1)) (gap_at bs)

-- The address of eight groups.
unfoldable pub whole_in : List ℕ → Option ℕ
whole_in bs = groups_in 8 true 0 bs >>= (λ r. if r.0 == 0 then Some r.1 else None)

-- The address of the groups before `::` and of those behind it.
unfoldable pub short_in : List ℕ → List ℕ → Option ℕ
short_in before behind = do
  f ← side_in false before
  b ← side_in true behind
  if nat_le 9 (f.0 + b.0) then Some (f.1 * 65536 ^ f.0 + b.1) else None

-- The address of the text, where it is one.
unfoldable pub ipv6_in : List ℕ → Option ℕ
ipv6_in bs = option_map_or {U = Option ℕ} (λ p. short_in p.0 p.1) (gap_at bs) (whole_in bs)

-- The digits are lower case (RFC 5952 section 4.3).
abbrev pub hex_digit : ℕ → ℕ
hex_digit d = if nat_lt d 10 then 48 + d else 87 + d

-- A group has no leading zeros (RFC 5952 section 4.1).
unfoldable pub group_text : ℕ → List ℕ
group_text g =
    if nat_lt g 16 then hex_digit g ∷ []
    else if nat_lt g 256 then hex_digit (g / 16) ∷ hex_digit (g % 16) ∷ []
    else if nat_lt g 4096
    then hex_digit (g / 256) ∷ hex_digit (g / 16 % 16) ∷ hex_digit (g % 16) ∷ []
    else hex_digit (g / 4096) ∷ hex_digit (g / 256 % 16)
    ∷ hex_digit (g / 16 % 16) ∷ hex_digit (g % 16) ∷ []

abbrev pub groups_text : List ℕ → List ℕ
groups_text gs = join_with_byte 58 (map group_text gs)

-- The eight groups of an address.
abbrev pub groups_of : ℕ → List ℕ
groups_of n = n / 2 ^ 112 ∷ n / 2 ^ 96 % 65536 ∷ n / 2 ^ 80 % 65536 ∷ n / 2 ^ 64 % 65536
    ∷ n / 2 ^ 48 % 65536 ∷ n / 2 ^ 32 % 65536 ∷ n / 2 ^ 16 % 65536 ∷ n % 65536 ∷ []

-- How many zeros stand at the front.
abbrev pub zeros : List ℕ → ℕ
zeros [] = 0
zeros (g ∷ gs) = if g == 0 then zeros gs + 1 else 0

-- The longest run of zeros, the first among equals: how many groups stand before it, and how many it has.
abbrev pub longest_run : List ℕ → ℕ × ℕ
longest_run [] = (0, 0)
longest_run (g ∷ gs) =
    let r = longest_run gs in
    if nat_le r.1 (zeros (g ∷ gs)) then (0, zeros (g ∷ gs)) else (r.0 + 1, r.1)

-- A run of zeros in the groups: how many stand before it, and how many it has.
abbrev pub IsZeros : List ℕ → ℕ × ℕ → Type 0
IsZeros gs run = (run.0 + run.1 ≤ length gs) × (take run.1 (drop run.0 gs) ≡ replicate run.1 0)

-- A run of zeros that no run is longer than, and that begins before each other one of its length.
pub record IsLongest (gs : List ℕ) (run : ℕ × ℕ) : Type 0 where
  pub zeros : IsZeros gs run
  pub longest : (other : ℕ × ℕ) → IsZeros gs other → other.1 ≤ run.1
  pub first : (before : ℕ) → IsZeros gs (before, run.1) → run.0 ≤ before

-- `::` stands for that run, where it has two groups or more (RFC 5952 section 4.2).
abbrev pub shortened : List ℕ → ℕ × ℕ → List ℕ
shortened gs run =
    if nat_le 2 run.1
    then groups_text (take run.0 gs) ++ 58 ∷ 58 ∷ groups_text (drop (run.0 + run.1) gs)
    else groups_text gs

-- The text that is printed.
unfoldable pub ipv6_text : ℕ → List ℕ
ipv6_text n = shortened (groups_of n) (longest_run (groups_of n))
