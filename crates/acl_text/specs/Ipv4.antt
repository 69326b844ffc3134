-- IPv4 addresses as text: four numbers of 0 to 255 with `.` between (RFC 1123 section 2.1, RFC 6943 section 3.1.1).
use Rattle.std.specs.Prelude.{◌≡◌, ℕ, ◌+◌, ◌*◌, ◌/◌, ◌%◌, ◌^◌, ◌≤◌, List, [], ◌∷◌, Option, Some, decimal}
use Rattle.std.specs.List.{join_with_byte}
use Rattle.acl_text.specs.Cuts.{cut_at}
use Rattle.acl_text.specs.OptionSteps.{◌>>=◌}
use Rattle.acl_packet.specs.Decimals.{IsNumber, number_in}

-- The number of an address by its four bytes.
abbrev pub address_of : ℕ → ℕ → ℕ → ℕ → ℕ
address_of a b c d = ((a * 256 + b) * 256 + c) * 256 + d

-- A byte as text.
pub record IsByte (bs : List ℕ) (n : ℕ) : Type 0 where
  pub number : IsNumber bs n
  pub small : n ≤ 255

-- The text is the address's.
pub record IsIpv4 (bs : List ℕ) (n : ℕ) : Type 0 where
  pub first : List ℕ
  pub second : List ℕ
  pub third : List ℕ
  pub fourth : List ℕ
  pub text : bs ≡ join_with_byte 46 (first ∷ second ∷ third ∷ fourth ∷ [])
  pub a : ℕ
  pub b : ℕ
  pub c : ℕ
  pub d : ℕ
  pub first_is : IsByte first a
  pub second_is : IsByte second b
  pub third_is : IsByte third c
  pub fourth_is : IsByte fourth d
  pub value : n ≡ address_of a b c d

-- The address of the text, where it is one.
unfoldable pub ipv4_in : List ℕ → Option ℕ
ipv4_in bs = do
  p ← cut_at 46 bs
  q ← cut_at 46 p.1
  r ← cut_at 46 q.1
  a ← number_in 255 p.0
  b ← number_in 255 q.0
  c ← number_in 255 r.0
  d ← number_in 255 r.1
  Some (address_of a b c d)

-- The text that is printed.
unfoldable pub ipv4_text : ℕ → List ℕ
ipv4_text n = join_with_byte 46
    (decimal (n / 2 ^ 24) ∷ decimal (n / 2 ^ 16 % 256)
    ∷ decimal (n / 2 ^ 8 % 256) ∷ decimal (n % 256) ∷ [])
