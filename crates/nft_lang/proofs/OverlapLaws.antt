-- Elements that are below one another do not overlap, and of sorted ones neighbours tell.
use Rattle.std.proofs.Common.{◌≡◌, ℕ, zero, suc, ◌+◌, ◌-◌, ◌<◌, ◌≤◌, Bool, true, false, not, ◌||◌, ◌&&◌, nat_le, nat_lt, List, [], ◌∷◌, ◌++◌, length, map, Option, None, Some, refl, ap, sym, ◌∙◌, arith}
use Rattle.std.specs.List.{list_all, range_with_len, slice_get}
use Rattle.std.specs.List.Sorted.{IsNonDecreasingBy, IsPermutation}
use Rattle.std.specs.Option.{option_map_or}
use Rattle.std.proofs.lemmas.Bool.{and_parts, false≢true}
use Rattle.std.proofs.lemmas.Bool.Decides.{nat_tests}
use Rattle.std.proofs.lemmas.List.Folds.{list_all-map}
use Rattle.std.proofs.lemmas.Nat.{pow_pos}
use Rattle.acl_packet.specs.declared.addresses.Prefix.{Prefix}
use Rattle.acl_packet.specs.Addresses.{has_address, size_of, width_of}
use Rattle.acl_rows.specs.ApartSteps.{are_apart, are_rising, TellsApart}
use Rattle.acl_rows.specs.PortRangeSteps.{is_port_range}
use Rattle.acl_rows.proofs.ApartLaws.{apart_like, sorted_tells}
use Rattle.nft_lang.specs.Documents.{prefixes_overlap, ports_overlap}
use Rattle.nft_lang.specs.PlaceSteps.{is_below_at, is_below_where, start_at}
use Rattle.nft_lang.specs.ValiditySteps.{prefix_below, ports_below}

-- ---- ports

ports_go_on : (a b c : ℕ × ℕ) → ports_below a b ≡ true → ports_below b c ≡ true → ports_below a c ≡ true
ports_go_on a b c h k = grind (arith, nat_tests)

ports_apart : (a b : ℕ × ℕ) → ports_below a b ≡ true → ports_overlap a b ≡ false
ports_apart a b h = grind (arith, nat_tests)

-- ---- prefixes, by their first addresses and sizes

below_go_on : (p q r s : ℕ) → (nat_lt p q && not (nat_le p q && nat_lt q (p + s))) ≡ true → nat_lt q r ≡ true
    → (nat_lt p r && not (nat_le p r && nat_lt r (p + s))) ≡ true
below_go_on p q r s h k = grind (arith, nat_tests)

below_apart : (p q s t : ℕ) → (nat_lt p q && not (nat_le p q && nat_lt q (p + s))) ≡ true
    → ((nat_le p q && nat_lt q (p + s)) || (nat_le q p && nat_lt p (q + t))) ≡ false
below_apart p q s t h = grind (arith, nat_tests)

below_meets : (p q s t : ℕ) → 0 < s → p ≤ q → ((nat_le p q && nat_lt q (p + s)) || (nat_le q p && nat_lt p (q + t))) ≡ false
    → (nat_lt p q && not (nat_le p q && nat_lt q (p + s))) ≡ true
below_meets p q s t some up h = grind (arith, nat_tests)

or_flip : (a b : Bool) → (a || b) ≡ (b || a)
or_flip true true = refl
or_flip true false = refl
or_flip false true = refl
or_flip false false = refl

and_flip : (a b : Bool) → (a && b) ≡ (b && a)
and_flip true true = refl
and_flip true false = refl
and_flip false true = refl
and_flip false false = refl

prefixes_go_on : (p q r : Prefix) → prefix_below p q ≡ true → prefix_below q r ≡ true → prefix_below p r ≡ true
prefixes_go_on p q r h k =
    below_go_on p.first q.first r.first (size_of p) h (and_parts (nat_lt q.first r.first) (not (has_address q r.first)) k).0

prefixes_apart : (p q : Prefix) → prefix_below p q ≡ true → prefixes_overlap p q ≡ false
prefixes_apart p q h = below_apart p.first q.first (size_of p) (size_of q) h

-- ---- what sorted elements tell

prefixes_flip : (p q : Prefix) → prefixes_overlap p q ≡ prefixes_overlap q p
prefixes_flip p q = or_flip (has_address p q.first) (has_address q p.first)

prefixes_meet : (p q : Prefix) → p.first ≤ q.first → prefixes_overlap p q ≡ false → prefix_below p q ≡ true
prefixes_meet p q up h = below_meets p.first q.first (size_of p) (size_of q) (pow_pos (width_of p.family - p.len)) up h

pub prefixes_tell : TellsApart prefixes_overlap prefix_below (λ (p q : Prefix). p.first ≤ q.first) (λ p. true)
prefixes_tell = record {
  flips = prefixes_flip;
  goes_on = prefixes_go_on;
  apart = prefixes_apart;
  meets = λ p q sound up h. prefixes_meet p q up h;
}

ports_flip : (a b : ℕ × ℕ) → ports_overlap a b ≡ ports_overlap b a
ports_flip a b = and_flip (nat_le a.0 b.1) (nat_le b.0 a.1)

ports_meet : (a b : ℕ × ℕ) → is_port_range b ≡ true → a.0 ≤ b.0 → ports_overlap a b ≡ false → ports_below a b ≡ true
ports_meet a b sound up h = grind (arith, nat_tests)

pub ports_tell : TellsApart ports_overlap ports_below (λ (a b : ℕ × ℕ). a.0 ≤ b.0) is_port_range
ports_tell = record { flips = ports_flip; goes_on = ports_go_on; apart = ports_apart; meets = ports_meet }

-- ---- elements by their places

abbrev sound_where : {A : Type 0} → (A → Bool) → Option A → Bool
sound_where is_sound (Some x) = is_sound x
sound_where is_sound None = true

-- a place that is none clashes with all
abbrev clash_where : {A : Type 0} → (A → A → Bool) → Option A → Option A → Bool
clash_where clash (Some x) (Some y) = clash x y
clash_where clash a b = true

abbrev start_where : {A : Type 0} → (A → ℕ) → Option A → ℕ
start_where start o = option_map_or start o 0

where_tell : {A : Type 0} (clash below : A → A → Bool) (start : A → ℕ) (is_sound : A → Bool) → TellsApart clash below (λ x y. start x ≤ start y) is_sound
    → TellsApart (clash_where clash) (is_below_where below) (λ a b. start_where start a ≤ start_where start b) (sound_where is_sound)
where_tell {A = A} clash below start is_sound tells = record { flips = flips; goes_on = goes_on; apart = apart; meets = meets } where
  flips : (a b : Option A) → clash_where clash a b ≡ clash_where clash b a
  flips (Some x) (Some y) = tells.flips x y
  flips (Some x) None = refl
  flips None (Some y) = refl
  flips None None = refl

  goes_on : (a b c : Option A) → is_below_where below a b ≡ true → is_below_where below b c ≡ true → is_below_where below a c ≡ true
  goes_on (Some x) (Some y) (Some z) h k = tells.goes_on x y z h k
  goes_on None b c h k = absurd (false≢true h)
  goes_on (Some x) None c h k = absurd (false≢true h)
  goes_on (Some x) (Some y) None h k = absurd (false≢true k)

  apart : (a b : Option A) → is_below_where below a b ≡ true → clash_where clash a b ≡ false
  apart (Some x) (Some y) h = tells.apart x y h
  apart None b h = absurd (false≢true h)
  apart (Some x) None h = absurd (false≢true h)

  meets : (a b : Option A) → sound_where is_sound b ≡ true → start_where start a ≤ start_where start b → clash_where clash a b ≡ false
      → is_below_where below a b ≡ true
  meets (Some x) (Some y) s up h = tells.meets x y s up h
  meets None b s up h = absurd (false≢true (sym h))
  meets (Some x) None s up h = absurd (false≢true (sym h))

all_behind : {A : Type 0} (x : A) (xs : List A) (first count : ℕ)
    → map (slice_get (x ∷ xs)) (range_with_len (first + 1) count) ≡ map (slice_get xs) (range_with_len first count)
all_behind x xs first zero = refl
all_behind x xs first (suc count) =
    let next : first + 1 ≡ suc first = omega arith in
    ap (λ place. slice_get (x ∷ xs) place ∷ map (slice_get (x ∷ xs)) (range_with_len (first + 1 + 1) count)) next
    ∙ ap (λ os. slice_get xs first ∷ os) (all_behind x xs (first + 1) count)

all_there : {A : Type 0} (xs : List A) → map (slice_get xs) (range_with_len 0 (length xs)) ≡ map Some xs
all_there [] = refl
all_there (x ∷ xs) = ap (λ os. Some x ∷ os) (all_behind x xs 0 (length xs) ∙ all_there xs)

more_places : (first count place : ℕ) → first + count ≡ place → range_with_len first (suc count) ≡ range_with_len first count ++ place ∷ []
more_places first zero place e = let here : first ≡ place = omega (arith, e) in ap (λ p. p ∷ []) here
more_places first (suc count) place e = ap (λ ps. first ∷ ps) (more_places (first + 1) count place (omega (arith, e)))

pub one_place : (place : ℕ) → range_with_len 0 (place + 1) ≡ range_with_len 0 place ++ place ∷ []
one_place place =
    let next : place + 1 ≡ suc place = omega arith in
    ap (range_with_len 0) next ∙ more_places 0 place place (omega arith)

-- sorted places of the elements rise exactly where no two elements overlap
pub sorted_places : {A : Type 0} (overlap below : A → A → Bool) (start : A → ℕ) (is_sound : A → Bool)
    → TellsApart overlap below (λ x y. start x ≤ start y) is_sound → (xs : List A) (places sorted : List ℕ) → places ≡ range_with_len 0 (length xs)
    → list_all is_sound xs ≡ true → IsPermutation places sorted → IsNonDecreasingBy (start_at start xs) sorted
    → are_rising (is_below_at below xs) sorted ≡ are_apart overlap xs
sorted_places {A = A} overlap below start is_sound tells xs places sorted all sound moved up =
    sorted_tells of_places places sorted moved (λ k d inside. up k (k + 1) d (omega arith) inside) sound_places
    ∙ apart_like (slice_get xs) (λ i j. clash_where overlap (slice_get xs i) (slice_get xs j)) (clash_where overlap) (λ i j. refl) places
    ∙ ap (are_apart (clash_where overlap)) there ∙ sym (apart_like Some overlap (clash_where overlap) (λ x y. refl) xs)
  where
    there : map (slice_get xs) places ≡ map Some xs
    there = ap (map (slice_get xs)) all ∙ all_there xs

    sound_places : list_all (λ i. sound_where is_sound (slice_get xs i)) places ≡ true
    sound_places =
        sym (list_all-map (sound_where is_sound) (slice_get xs) places) ∙ ap (list_all (sound_where is_sound)) there
        ∙ list_all-map (sound_where is_sound) Some xs ∙ sound

    of_places : TellsApart (λ i j. clash_where overlap (slice_get xs i) (slice_get xs j)) (is_below_at below xs)
        (λ i j. start_at start xs i ≤ start_at start xs j) (λ i. sound_where is_sound (slice_get xs i))
    of_places =
        let tell = where_tell overlap below start is_sound tells in
        record {
          flips = λ i j. tell.flips (slice_get xs i) (slice_get xs j);
          goes_on = λ i j k. tell.goes_on (slice_get xs i) (slice_get xs j) (slice_get xs k);
          apart = λ i j. tell.apart (slice_get xs i) (slice_get xs j);
          meets = λ i j. tell.meets (slice_get xs i) (slice_get xs j);
        }
