-- What the sets of a rule hold.
use Rattle.std.proofs.Common.{◌≡◌, ℕ, ◌+◌, ◌^◌, ◌<◌, ◌≤◌, Bool, true, false, cond, not, ◌&&◌, ◌||◌, ◌==◌, ◌-◌, ◌++◌, nat_le, nat_lt, min, max, flat_map, List, [], ◌∷◌, refl, ap, sym, ◌∙◌, arith}
use Rattle.std.specs.List.{AllByRecursion}
use Rattle.std.proofs.Math.Nat.{max-eq_left, min-eq_left}
use Rattle.std.proofs.lemmas.Bool.Decides.{nat_tests}
use Rattle.std.proofs.lemmas.Bool.{or_parts}
use Rattle.std.proofs.lemmas.Bool.{and_left, or_from, both_ways, false_from_ne_true, eqb-true, eq-eqb, le-leb}
use Rattle.acl_packet.specs.declared.addresses.Family.{Family}
use Rattle.acl_packet.specs.declared.addresses.Family.TheVariants.{V4, V6}
use Rattle.acl_packet.specs.declared.packet_fields.Field.TheVariants.{Protocol}
use Rattle.acl_packet.specs.Addresses.{top_address, width_of}
use Rattle.acl_sets.specs.declared.sets.Range.{Range}
use Rattle.acl_sets.specs.ComputableLeastLists.{halved_space}
use Rattle.acl_sets.specs.ComputableSets.{above, cut, cut_all, is_all}
use Rattle.acl_packet.specs.AddressLists.{any_has}
use Rattle.acl_sets.specs.Ranges.{IsNormal, IsRange, Numbers, Only, holds, inside}
use Rattle.acl_sets.proofs.ComputableLeastListLaws.{halved_space-least}
use Rattle.acl_sets.proofs.ComputableSetLaws.{cut_all-holds}
use Rattle.acl_sets.proofs.LeastListLaws.{least_list-holds, normal-addresses}
use Rattle.acl_sets.proofs.RangeLaws.{in_range, ends_of}
use Rattle.acl_terms.specs.declared.sides.Side.{Side}
use Rattle.acl_terms.specs.declared.terms.Term.{Term}
use Rattle.acl_packet.specs.Packets.{foreign_of}
use Rattle.acl_terms.specs.Resolved.{dports_on, has_protocol, in_both}
use Rattle.acl_terms.specs.Slips.{is_tcp_or_udp}
use Rattle.acl_terms.proofs.SideLaws.{both-holds}
use Rattle.acl_expand.specs.TermRules.{client_ports, just, least_list, protocols_in, udp_ports}
use Rattle.acl_expand.proofs.SideForms.{dports-normal}

-- ---- tests

pub and-true : (a : Bool) → (a && true) ≡ a
and-true true = refl
and-true false = refl

pub or-true : (a : Bool) → (a || true) ≡ true
or-true true = refl
or-true false = refl

pub or-false : (a : Bool) → (a || false) ≡ a
or-false true = refl
or-false false = refl

-- ---- a set that lacks a number stays where the number is cut out

-- a range that lacks the number stays whole
uncut : (n : ℕ) (q : Range) → q.low ≤ q.high → inside q n ≡ false → cut (just n) q ≡ q ∷ []
uncut n q whole out = by_side (nat_lt n q.low) refl
  where
    true-less : (a b : ℕ) → nat_lt a b ≡ true → a < b
    true-less a b h = grind (arith, nat_tests)

    false-less : (a b : ℕ) → nat_lt a b ≡ false → b ≤ a
    false-less a b h = grind (arith, nat_tests)

    less-true : (a b : ℕ) → a < b → nat_lt a b ≡ true
    less-true a b h = grind (arith, nat_tests)

    less-false : (a b : ℕ) → b ≤ a → nat_lt a b ≡ false
    less-false a b h = grind (arith, nat_tests)

    beyond : q.low ≤ n → q.high < n
    beyond h = grind (arith, nat_tests, out)

    by_side : (b : Bool) → nat_lt n q.low ≡ b → cut (just n) q ≡ q ∷ []
    by_side true h =
        let first = true-less n q.low h in
        ap (λ t. cond t (record { low = q.low; high = min q.high (n - 1) } ∷ []) [] ++ above (just n) q) (less-false q.low n (omega (arith, first)))
        ∙ ap (λ t. cond t (record { low = max q.low (n + 1); high = q.high } ∷ []) []) (less-true n q.high (omega (arith, whole, first)))
        ∙ ap (λ l. record { low = l; high = q.high } ∷ []) (max-eq_left (omega (arith, first)))
    by_side false h =
        let last = beyond (false-less n q.low h) in
        ap (λ t. cond t (record { low = q.low; high = min q.high (n - 1) } ∷ []) [] ++ above (just n) q) (less-true q.low n (omega (arith, whole, last)))
        ∙ ap (λ t. record { low = q.low; high = min q.high (n - 1) } ∷ cond t (record { low = max q.low (n + 1); high = q.high } ∷ []) []) (less-false n q.high (omega (arith, last)))
        ∙ ap (λ k. record { low = q.low; high = k } ∷ []) (min-eq_left (omega (arith, last)))

pub nothing_cut : (n floor top : ℕ) (rs : List Range) → IsNormal floor top rs → holds rs n ≡ false → rs ≡ cut_all (just n ∷ []) rs
nothing_cut n floor top [] h out = refl
nothing_cut n floor top (q ∷ qs) h out =
    let p = or_parts (inside q n) (holds qs n) out in
    ap (λ rs. q ∷ rs) (nothing_cut n (q.high + 2) top qs h.3 p.1)
    ∙ ap (λ rs. rs ++ flat_map (cut (just n)) qs) (sym (uncut n q h.1 p.0))

-- ---- least lists

end-of : (f : Family) (top : ℕ) → top ≡ top_address f → top + 1 ≡ 2 ^ width_of f
end-of V4 top e = ap (λ n. n + 1) e
end-of V6 top e = ap (λ n. n + 1) e

pub least-holds : (f : Family) (s : Numbers) → s.top ≡ top_address f → IsNormal 0 s.top s.ranges → (a : ℕ)
    → any_has (least_list f s) a ≡ holds s.ranges a
least-holds f s e n a =
    least_list-holds f (λ x. holds s.ranges x) (halved_space f s.ranges)
    (normal-addresses f s.top s.ranges n (end-of f s.top e)) (halved_space-least f s.top s.ranges n) a

-- ---- one number

inside-just : (n x : ℕ) (b : Bool) → (x == n) ≡ b → (nat_le n x && nat_le x n) ≡ b
inside-just n x true e = let s : x ≡ n = eqb-true x n e in in_range n n x (omega arith) (omega arith)
inside-just n x false e =
    false_from_ne_true (nat_le n x && nat_le x n) (λ h. let s = ends_of n n x h in
    let q : x ≡ n = omega arith in both_ways (x == n) e (eq-eqb x n q))

pub just-holds : (n x : ℕ) → holds (just n ∷ []) x ≡ (x == n)
just-holds n x = or-false (nat_le n x && nat_le x n) ∙ inside-just n x (x == n) refl

-- ---- protocols

pub just-range : (n : ℕ) → AllByRecursion (λ r. IsRange n r) (just n ∷ [])
just-range n = ((omega arith, omega arith), tt)

all-or-not : (f : Family) (t : Term) (n : ℕ) (b : Bool) → is_all t.protos ≡ b
    → holds (cond b t.protos (record { top = t.protos.top; ranges = cut_all (just (foreign_of f) ∷ []) t.protos.ranges })).ranges n
    ≡ (holds t.protos.ranges n && (b || not (n == foreign_of f)))
all-or-not f t n true e = sym (and-true (holds t.protos.ranges n))
all-or-not f t n false e =
    let k = foreign_of f in
    cut_all-holds 0 t.protos.top k (just k ∷ []) t.protos.ranges n (just-range k) (t.sound.normal Protocol)
    ∙ ap (λ b. holds t.protos.ranges n && not b) (just-holds k n)

pub protocol-holds : (f : Family) (t : Term) (n : ℕ) → holds (protocols_in f t).ranges n ≡ has_protocol f t n
protocol-holds f t n = all-or-not f t n (is_all t.protos) refl

held-6 : (f : Family) (t : Term) → has_protocol f t 6 ≡ holds t.protos.ranges 6
held-6 V4 t = ap (λ b. holds t.protos.ranges 6 && b) (or-true (is_all t.protos)) ∙ and-true (holds t.protos.ranges 6)
held-6 V6 t = ap (λ b. holds t.protos.ranges 6 && b) (or-true (is_all t.protos)) ∙ and-true (holds t.protos.ranges 6)

held-17 : (f : Family) (t : Term) → has_protocol f t 17 ≡ holds t.protos.ranges 17
held-17 V4 t = ap (λ b. holds t.protos.ranges 17 && b) (or-true (is_all t.protos)) ∙ and-true (holds t.protos.ranges 17)
held-17 V6 t = ap (λ b. holds t.protos.ranges 17 && b) (or-true (is_all t.protos)) ∙ and-true (holds t.protos.ranges 17)

-- Of TCP and UDP alone the family has what the term names.
pub tcp-or-udp : (f : Family) (t : Term) (n : ℕ) (b c : Bool) → (n == 6) ≡ b → (n == 17) ≡ c
    → Only is_tcp_or_udp t.protos
    → has_protocol f t n ≡ ((b && holds t.protos.ranges 6) || (c && holds t.protos.ranges 17))
tcp-or-udp f t n true true e d only =
    let x : n ≡ 6 = eqb-true n 6 e in let y : n ≡ 17 = eqb-true n 17 d in absurd (omega arith)
tcp-or-udp f t n true false e d only =
    ap (λ x. has_protocol f t x) (eqb-true n 6 e) ∙ held-6 f t ∙ sym (or-false (holds t.protos.ranges 6))
tcp-or-udp f t n false true e d only = ap (λ x. has_protocol f t x) (eqb-true n 17 d) ∙ held-17 f t
tcp-or-udp f t n false false e d only =
    and_left (holds t.protos.ranges n) (is_all t.protos || not (n == foreign_of f))
    (false_from_ne_true (holds t.protos.ranges n) (λ h. both_ways (n == 6 || n == 17)
    (or_from (n == 6) (n == 17) e d) (only n h)))

-- ---- the ports of UDP

client-holds : (x : ℕ) → x < 65536 → holds client_ports.ranges x ≡ nat_le 1024 x
client-holds x h =
    let within : nat_le x 65535 ≡ true = le-leb x 65535 (omega arith) in
    or-false (nat_le 1024 x && nat_le x 65535) ∙ ap (λ b. nat_le 1024 x && b) within ∙ and-true (nat_le 1024 x)

ports-named : (t : Term) (side : Side) (x : ℕ) (b : Bool) → x < 65536
    → holds (cond b (dports_on side t) (in_both (dports_on side t) client_ports)).ranges x
    ≡ (holds (dports_on side t).ranges x && (b || nat_le 1024 x))
ports-named t side x true h = sym (and-true (holds (dports_on side t).ranges x))
ports-named t side x false h =
    both-holds (dports_on side t) client_ports x (dports-normal side t)
    ∙ ap (λ b. holds (dports_on side t).ranges x && b) (client-holds x h)

pub udp-holds : (t : Term) (side : Side) (x : ℕ) → x < 65536
    → holds (udp_ports t side).ranges x ≡ (holds (dports_on side t).ranges x && (t.dport_named || nat_le 1024 x))
udp-holds t side x h = ports-named t side x t.dport_named h
