-- Packets on the grid: by their nine numbers, in their order, and how many there are.
use Rattle.std.proofs.Common.{◌≡◌, ℕ, ◌+◌, ◌*◌, ◌<◌, ◌≤◌, ◌⊎◌, ◌↔◌, zero, suc, Bool, true, false, not, ◌&&◌, ◌||◌, eqb, nat_le, nat_lt, if◌then◌else◌, arith, List, [], ◌∷◌, ◌++◌, Contains, length, get_or, map, refl, sym, ap, ◌∙◌, subst, inl, inr}
use Rattle.std.proofs.lemmas.Bool.{and_parts, or_cases, leb-true, ltb-true, eqb-true, agree_below_at, false≢true}
use Rattle.std.specs.List.{list_all}
use Rattle.std.specs.List.Sorted.{IsStrictlyIncreasing}
use Rattle.acl_packet.specs.declared.addresses.Family.{Family}
use Rattle.acl_packet.specs.declared.packet_fields.Field.{Field}
use Rattle.acl_packet.specs.declared.packet_fields.Field.TheVariants.{Protocol, SourcePort, DestinationPort, IcmpType, IcmpCode}
use Rattle.acl_packet.specs.declared.packets.Conn.{Conn}
use Rattle.acl_packet.specs.declared.packets.Conn.TheVariants.{New, Established, Related, Invalid}
use Rattle.acl_packet.specs.declared.packets.Packet.{Packet}
use Rattle.acl_packet.specs.Packets.{number_of}
use Rattle.acl_dead.specs.declared.axes.Axis.{Axis}
use Rattle.acl_dead.specs.Boxes as boxes
use Rattle.acl_dead.specs.Order.{IsBefore}
use Rattle.acl_dead.specs.Runs.{is_boundary}
use Rattle.term_boxes.specs.Coordinates.{numbers_of, place_of_connection, place_of_flags}
use Rattle.term_boxes.specs.NumberSets.{up_to}
use Rattle.term_boxes.specs.TermBoxes.{own_box}
use Rattle.acl_dead.specs.BlockSteps.{blocks_of}
use Rattle.acl_dead.specs.declared.coordinates.Coordinate.TheVariants.{Source, Destination, Number, Flags, Connection}
use Rattle.acl_dead.specs.CoordinateSteps.{connection_places, coordinates, flag_places}
use Rattle.acl_dead.specs.Deciding.{ComesBefore, IsGridSize, IsOnGrid, IsProduct, Question, connection_place, connections, family_place, field_boundary, flag_sums, has, is_among, some_option}
use Rattle.acl_dead.specs.GridSteps.{AreAxesIn, AreAxesOf}
use Rattle.acl_dead.proofs.AxisLaws.{AreOnGrid, product_is}
use Rattle.acl_dead.proofs.CutLaws.{axis_exact, boundary_along}
use Rattle.acl_dead.proofs.Lists.{among_contains, contains_among, contains_first, contains_later, one_list}
use Rattle.acl_dead.proofs.OneAnswer.{known, new_only}

-- ---- flags

abbrev sums : Bool → List ℕ
sums some = if some then 0 ∷ 2 ∷ 4 ∷ 6 ∷ 16 ∷ 18 ∷ 20 ∷ 22 ∷ [] else 0 ∷ []

abbrev flag_boundary : Bool → ℕ → Bool
flag_boundary some x = is_boundary (has (up_to 63)) (λ y. is_among (flag_places some) y) x

flags_same : (some : Bool) (n : ℕ) → n < 64 → flag_boundary some (place_of_flags n) ≡ is_among (sums some) n
flags_same true n lt = agree_below_at (λ k. flag_boundary true (place_of_flags k)) (λ k. is_among (sums true) k) 64 n refl lt
flags_same false n lt = agree_below_at (λ k. flag_boundary false (place_of_flags k)) (λ k. is_among (sums false) k) 64 n refl lt

-- ---- connections

abbrev conns : Bool → List Conn
conns stateful = if stateful then New ∷ Established ∷ [] else New ∷ []

abbrev connection_boundary : Bool → ℕ → Bool
connection_boundary stateful x = is_boundary (has (up_to 3)) (λ y. is_among (connection_places stateful) y) x

connection_on : (stateful : Bool) (c : Conn) → Contains (conns stateful) c → connection_boundary stateful (place_of_connection c) ≡ true
connection_on false c h = subst (λ (d : Conn). connection_boundary false (place_of_connection d) ≡ true) (new_only c h) refl
connection_on true c h = elim (known true c h) [
  | inl e ↦ subst (λ (d : Conn). connection_boundary true (place_of_connection d) ≡ true) e refl
  | inr e ↦ subst (λ (d : Conn). connection_boundary true (place_of_connection d) ≡ true) e refl
]

on_connection : (stateful : Bool) (c : Conn) → connection_boundary stateful (place_of_connection c) ≡ true → Contains (conns stateful) c
on_connection false New h = contains_first New [] New refl
on_connection false Established h = absurd (false≢true h)
on_connection false Related h = absurd (false≢true h)
on_connection false Invalid h = absurd (false≢true h)
on_connection true New h = contains_first New (Established ∷ []) New refl
on_connection true Established h = contains_later New (Established ∷ []) Established (contains_first Established [] Established refl)
on_connection true Related h = absurd (false≢true h)
on_connection true Invalid h = absurd (false≢true h)

-- ---- a packet by its numbers

pub numbers_on : (q : Question) (p : Packet) → p.flags < 64 → IsOnGrid q p → AreOnGrid p.family q coordinates (numbers_of p)
numbers_on q p small on = (
  on.source,
  (
    on.destination,
    (
      on.numbers Protocol,
      (
        on.numbers SourcePort,
        (
          on.numbers DestinationPort,
          (
            on.numbers IcmpType,
            (
              on.numbers IcmpCode,
              (
                flags_same (some_option q) p.flags small ∙ contains_among (sums (some_option q)) p.flags on.flags,
                (connection_on q.target.stateful p.conn on.connection, tt),
              ),
            ),
          ),
        ),
      ),
    ),
  ),
)

by_fields : (P : Field → Type 0) → P Protocol → P SourcePort → P DestinationPort → P IcmpType → P IcmpCode → (field : Field) → P field
by_fields P a b c d e Protocol = a
by_fields P a b c d e SourcePort = b
by_fields P a b c d e DestinationPort = c
by_fields P a b c d e IcmpType = d
by_fields P a b c d e IcmpCode = e

pub on_numbers : (q : Question) (p : Packet) → p.flags < 64 → AreOnGrid p.family q coordinates (numbers_of p) → IsOnGrid q p
on_numbers q p small on = record {
  source = on.0;
  destination = on.1.0;
  numbers = by_fields (λ field. field_boundary p.family q field (number_of field p) ≡ true) on.1.1.0 on.1.1.1.0 on.1.1.1.1.0 on.1.1.1.1.1.0 on.1.1.1.1.1.1.0;
  flags = among_contains (sums (some_option q)) p.flags (sym (flags_same (some_option q) p.flags small) ∙ on.1.1.1.1.1.1.1.0);
  connection = on_connection q.target.stateful p.conn on.1.1.1.1.1.1.1.1.0;
}

-- ---- order

-- what comes before by sums comes before by places
abbrev is_low : ℕ → Bool
is_low n = nat_le n 6 && eqb (place_of_flags n) (4 * n)

abbrev is_high : ℕ → Bool
is_high n = nat_le 16 n && eqb (place_of_flags n + 32) (4 * n)

shape_row : (some : Bool) (n : ℕ) → n < 64 → (not (is_among (sums some) n) || (is_low n || is_high n)) ≡ true
shape_row true n lt = agree_below_at (λ k. not (is_among (sums true) k) || (is_low k || is_high k)) (λ k. true) 64 n refl lt
shape_row false n lt = agree_below_at (λ k. not (is_among (sums false) k) || (is_low k || is_high k)) (λ k. true) 64 n refl lt

not_true : (b : Bool) → not b ≡ true → b ≡ false
not_true false e = refl
not_true true e = absurd (false≢true e)

shape : (some : Bool) (n : ℕ) → n < 64 → is_among (sums some) n ≡ true
    → ((n ≤ 6) × (place_of_flags n ≡ 4 * n)) ⊎ ((16 ≤ n) × (place_of_flags n + 32 ≡ 4 * n))
shape some n lt h = elim (or_cases _ _ (shape_row some n lt)) [
  | inl off ↦ absurd (false≢true (sym (not_true _ off) ∙ h))
  | inr there ↦ elim (or_cases _ _ there) [
    | inl low ↦ let p = and_parts (nat_le n 6) (eqb (place_of_flags n) (4 * n)) low in
        inl (leb-true n 6 p.0, eqb-true (place_of_flags n) (4 * n) p.1)
    | inr high ↦ let p = and_parts (nat_le 16 n) (eqb (place_of_flags n + 32) (4 * n)) high in
        inr (leb-true 16 n p.0, eqb-true (place_of_flags n + 32) (4 * n) p.1)
  ]
]

shapes_less : (n m a b : ℕ) → ((n ≤ 6) × (a ≡ 4 * n)) ⊎ ((16 ≤ n) × (a + 32 ≡ 4 * n))
    → ((m ≤ 6) × (b ≡ 4 * m)) ⊎ ((16 ≤ m) × (b + 32 ≡ 4 * m)) → n < m → a < b
shapes_less n m a b (inl x) (inl y) lt = let e = x.1 in let f = y.1 in omega arith
shapes_less n m a b (inl x) (inr y) lt = let d = x.0 in let g = y.0 in let e = x.1 in let f = y.1 in omega arith
shapes_less n m a b (inr x) (inl y) lt = let d = x.0 in let g = y.0 in absurd (omega arith)
shapes_less n m a b (inr x) (inr y) lt = let e = x.1 in let f = y.1 in omega arith

connection_less : (c d : Conn) → (New ≡ c) ⊎ (Established ≡ c) → (New ≡ d) ⊎ (Established ≡ d)
    → connection_place c < connection_place d → place_of_connection c < place_of_connection d
connection_less c d (inl e) (inl g) lt =
    let k = ap connection_place e in let l = ap connection_place g in absurd (omega arith)
connection_less c d (inl e) (inr g) lt =
    let k = ap place_of_connection e in let l = ap place_of_connection g in omega arith
connection_less c d (inr e) (inl g) lt =
    let k = ap connection_place e in let l = ap connection_place g in absurd (omega arith)
connection_less c d (inr e) (inr g) lt =
    let k = ap connection_place e in let l = ap connection_place g in absurd (omega arith)

-- lists that agree in what stands before
before_behind : (ns ms xs ys us vs : List ℕ) → length ns ≡ length ms → (IsBefore xs ys → IsBefore us vs)
    → IsBefore (ns ++ xs) (ms ++ ys) → IsBefore (ns ++ us) (ms ++ vs)
before_behind [] [] xs ys us vs e f h = f h
before_behind [] (m ∷ ms) xs ys us vs e f h = absurd (omega arith)
before_behind (n ∷ ns) [] xs ys us vs e f h = absurd (omega arith)
before_behind (n ∷ ns) (m ∷ ms) xs ys us vs e f (inl less) = inl less
before_behind (n ∷ ns) (m ∷ ms) xs ys us vs e f (inr same) = inr (same.0, before_behind ns ms xs ys us vs (omega arith) f same.1)

connections_before : (q : Question) (p r : Packet) → IsOnGrid q p → IsOnGrid q r
    → IsBefore (connection_place p.conn ∷ []) (connection_place r.conn ∷ [])
    → IsBefore (place_of_connection p.conn ∷ []) (place_of_connection r.conn ∷ [])
connections_before q p r a b (inl less) =
    inl (connection_less p.conn r.conn (known q.target.stateful p.conn a.connection) (known q.target.stateful r.conn b.connection) less)
connections_before q p r a b (inr same) = absurd same.1

last_before : (q : Question) (p r : Packet) → p.flags < 64 → r.flags < 64 → IsOnGrid q p → IsOnGrid q r
    → IsBefore (p.flags ∷ connection_place p.conn ∷ []) (r.flags ∷ connection_place r.conn ∷ [])
    → IsBefore (place_of_flags p.flags ∷ place_of_connection p.conn ∷ []) (place_of_flags r.flags ∷ place_of_connection r.conn ∷ [])
last_before q p r small fits a b (inl less) =
    inl (shapes_less p.flags r.flags (place_of_flags p.flags) (place_of_flags r.flags)
    (shape (some_option q) p.flags small (contains_among (sums (some_option q)) p.flags a.flags))
    (shape (some_option q) r.flags fits (contains_among (sums (some_option q)) r.flags b.flags)) less)
last_before q p r small fits a b (inr same) =
    inr (ap place_of_flags same.0, connections_before q p r a b same.1)

abbrev first_fields : Packet → List ℕ
first_fields p = p.src ∷ p.dst ∷ p.proto ∷ p.sport ∷ p.dport ∷ p.itype ∷ p.icode ∷ []

before_fields : (q : Question) (p r : Packet) → p.flags < 64 → r.flags < 64 → IsOnGrid q p → IsOnGrid q r
    → IsBefore (first_fields p ++ p.flags ∷ connection_place p.conn ∷ []) (first_fields r ++ r.flags ∷ connection_place r.conn ∷ [])
    → IsBefore (numbers_of p) (numbers_of r)
before_fields q p r small fits a b =
    before_behind (first_fields p) (first_fields r) (p.flags ∷ connection_place p.conn ∷ []) (r.flags ∷ connection_place r.conn ∷ [])
    (place_of_flags p.flags ∷ place_of_connection p.conn ∷ []) (place_of_flags r.flags ∷ place_of_connection r.conn ∷ []) refl
    (last_before q p r small fits a b)

later_before : (n m : ℕ) (xs ys : List ℕ) → n ≡ m → IsBefore (n ∷ xs) (m ∷ ys) → IsBefore xs ys
later_before n m xs ys e (inl less) = absurd (omega arith)
later_before n m xs ys e (inr same) = same.1

pub numbers_before : (q : Question) (p r : Packet) → p.family ≡ r.family → p.flags < 64 → r.flags < 64 → IsOnGrid q p → IsOnGrid q r
    → ComesBefore p r → IsBefore (numbers_of p) (numbers_of r)
numbers_before q p r family small fits a b h = before_fields q p r small fits a b
    (later_before (family_place p.family) (family_place r.family) (first_fields p ++ p.flags ∷ connection_place p.conn ∷ [])
    (first_fields r ++ r.flags ∷ connection_place r.conn ∷ []) (ap family_place family) h)

-- ---- size

abbrev rises : List ℕ → Bool
rises [] = true
rises (x ∷ []) = true
rises (x ∷ y ∷ zs) = nat_lt x y && rises (y ∷ zs)

rising_by : (xs : List ℕ) → rises xs ≡ true → IsStrictlyIncreasing xs
rising_by [] h k lt = absurd (omega arith)
rising_by (x ∷ []) h k lt = absurd (omega arith)
rising_by (x ∷ y ∷ zs) h zero lt = ltb-true x y (and_parts (nat_lt x y) (rises (y ∷ zs)) h).0
rising_by (x ∷ y ∷ zs) h (suc k) lt =
    let more = rising_by (y ∷ zs) (and_parts (nat_lt x y) (rises (y ∷ zs)) h).1 k (omega arith) in
    let next : suc (k + 1) ≡ suc k + 1 = omega arith in
    subst (λ (n : ℕ). get_or (y ∷ zs) k 0 < get_or (x ∷ y ∷ zs) n 0) next more

most_among : (top : ℕ) (ns : List ℕ) (x : ℕ) → list_all (λ n. nat_le n top) ns ≡ true → is_among ns x ≡ true → x ≤ top
most_among top [] x all h = absurd (false≢true h)
most_among top (n ∷ ns) x all h = elim (or_cases _ _ h) [
  | inl here ↦ let e = eqb-true n x here in let le = leb-true n top (and_parts (nat_le n top) _ all).0 in omega arith
  | inr later ↦ most_among top ns x (and_parts (nat_le n top) _ all).1 later
]

up_to_top : (top x : ℕ) → has (up_to top) x ≡ true → x ≤ top
up_to_top top x h = elim (or_cases _ _ h) [
  | inl here ↦ leb-true x top (and_parts (nat_le 0 x) (nat_le x top) here).1
  | inr none ↦ absurd (false≢true none)
]

-- a coordinate that only numbers cut has as many values as these and 0
counted : (top : ℕ) (places values : List ℕ) → IsStrictlyIncreasing values
    → ((x : ℕ) → Contains values x ↔ (is_boundary (has (up_to top)) (λ y. is_among places y) x ≡ true))
    → rises (0 ∷ places) ≡ true → list_all (λ n. nat_le n top) (0 ∷ places) ≡ true
    → ((x : ℕ) → x ≤ top → is_boundary (has (up_to top)) (λ y. is_among places y) x ≡ is_among (0 ∷ places) x)
    → length values ≡ length (0 ∷ places)
counted top places values rising exact up most same =
    ap (λ (xs : List ℕ). length xs) (one_list values (0 ∷ places) rising (rising_by (0 ∷ places) up)
    (λ x h. let b = (exact x).0 h in
    among_contains (0 ∷ places) x (sym (same x (up_to_top top x (and_parts (has (up_to top) x) _ b).0)) ∙ b))
    (λ x h. let m = contains_among (0 ∷ places) x h in
    (exact x).1 (same x (most_among top (0 ∷ places) x most m) ∙ m)))

flag_count : (some : Bool) (values : List ℕ) → IsStrictlyIncreasing values → ((x : ℕ) → Contains values x ↔ (flag_boundary some x ≡ true))
    → length values ≡ length (sums some)
flag_count true values rising exact =
    counted 63 (flag_places true) values rising exact refl refl
    (λ x le. agree_below_at (λ n. flag_boundary true n) (λ n. is_among (0 ∷ flag_places true) n) 64 x refl (omega arith))
flag_count false values rising exact =
    counted 63 [] values rising exact refl refl
    (λ x le. agree_below_at (λ n. flag_boundary false n) (λ n. is_among (0 ∷ []) n) 64 x refl (omega arith))

connection_count : (stateful : Bool) (values : List ℕ) → IsStrictlyIncreasing values
    → ((x : ℕ) → Contains values x ↔ (connection_boundary stateful x ≡ true)) → length values ≡ length (conns stateful)
connection_count true values rising exact =
    counted 3 (2 ∷ []) values rising exact refl refl
    (λ x le. agree_below_at (λ n. connection_boundary true n) (λ n. is_among (0 ∷ 2 ∷ []) n) 4 x refl (omega arith))
connection_count false values rising exact =
    counted 3 [] values rising exact refl refl
    (λ x le. agree_below_at (λ n. connection_boundary false n) (λ n. is_among (0 ∷ []) n) 4 x refl (omega arith))

last_size : (f : Family) (q : Question) (axes : List Axis) → AreAxesOf f q (own_box f q.term) (blocks_of f q) (Flags ∷ Connection ∷ []) axes
    → boxes.grid_size axes ≡ length (flag_sums q) * length (connections q.target)
last_size f q [] are = absurd are
last_size f q (a ∷ []) are = absurd are.1
last_size f q (a ∷ b ∷ []) are =
    let flags = flag_count (some_option q) a.values.items are.0.values.rising (axis_exact f q (blocks_of f q) Flags a are.0) in
    let conn = connection_count q.target.stateful b.values.items are.1.0.values.rising (axis_exact f q (blocks_of f q) Connection b are.1.0) in
    let one : length b.values.items * 1 ≡ length b.values.items = omega arith in
    ap (λ n. length a.values.items * n) (one ∙ conn) ∙ ap (λ n. n * length (connections q.target)) flags
last_size f q (a ∷ b ∷ c ∷ axes) are = absurd are.1.1

pub size_is : (f : Family) (q : Question) (axes : List Axis) → AreAxesIn f q axes → IsGridSize f q (boxes.grid_size axes)
size_is f q axes are =
    let r = product_is f q (blocks_of f q) (Source ∷ Destination ∷ Number Protocol ∷ Number SourcePort ∷ Number DestinationPort ∷ Number IcmpType ∷ Number IcmpCode ∷ [])
    (Flags ∷ Connection ∷ []) axes are in
    subst (λ (n : ℕ). IsProduct (map (λ c. boundary_along c f q) (Source ∷ Destination ∷ Number Protocol ∷ Number SourcePort ∷ Number DestinationPort ∷ Number IcmpType ∷ Number IcmpCode ∷ [])) n (boxes.grid_size axes))
    (last_size f q r.0 r.1) r.2
