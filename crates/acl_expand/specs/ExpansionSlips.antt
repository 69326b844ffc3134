-- The first slip of terms on a target: that of the first term that has one.
use Rattle.std.specs.Prelude.{ℕ, ◌+◌, Bool, not, ◌&&◌, nat_le, if◌then◌else◌, List, [], ◌∷◌, ◌++◌, length, sum_by, decimal, Option, None, Some}
use Rattle.std.specs.List.{find}
use Rattle.std.specs.Option.{option_or}
use Rattle.acl_packet.specs.declared.addresses.Family.TheVariants.{V6}
use Rattle.acl_packet.specs.Addresses.{covers}
use Rattle.acl_text.specs.declared.faults.Code.TheVariants.{ExtensionHeader, TooManyPrefixes}
use Rattle.acl_text.specs.declared.faults.Slip.{Slip}
use Rattle.acl_text.specs.Refusals.{slip}
use Rattle.acl_host.specs.declared.days.Day.{Day}
use Rattle.acl_sets.specs.ComputableSets.{is_all}
use Rattle.acl_sets.specs.Ranges.{holds}
use Rattle.acl_target.specs.declared.targets.Target.{Target}
use Rattle.acl_terms.specs.declared.terms.Term.{Term}
use Rattle.acl_terms.specs.Resolved.{is_empty_in, is_term_live}
use Rattle.acl_platform.specs.declared.rules.Rule.{Rule}
use Rattle.acl_expand.specs.TermRules.{rules_of}

-- ---- extension headers

-- The numbers of extension headers of IPv6 that a term can name, and of "no next header" (IANA, IPv6 extension
-- header types), in rising order. 0, which is one too, no word names.
abbrev pub extension_headers : List ℕ
extension_headers = 43 ∷ 44 ∷ 51 ∷ 59 ∷ 60 ∷ 135 ∷ 139 ∷ 140 ∷ []

-- The least of these numbers that the term names.
abbrev pub header_named : Term → Option ℕ
header_named t =
    if is_all t.protos then None else find (λ n. holds t.protos.ranges n) extension_headers

-- The term has rules for IPv6 on the target.
abbrev pub is_for_ipv6 : Target → Day → Term → Bool
is_for_ipv6 target today t =
    is_term_live t target.kind today && (covers target.families V6 && not (is_empty_in V6 t))

abbrev pub header_at : Term → Option ℕ → Option Slip
header_at t None = None
header_at t (Some n) = Some (slip ExtensionHeader t.place (decimal n))

-- Which extension header does a term for IPv6 name? A packet has none of them as its protocol.
unfoldable pub header_slip : Target → Day → Term → Option Slip
header_slip target today t = if is_for_ipv6 target today t then header_at t (header_named t) else None

-- ---- prefixes

-- The lists of a filter have at most so many prefixes: this program's own limit.
abbrev pub most_prefixes : ℕ
most_prefixes = 200000

abbrev pub rule_prefixes : Rule → ℕ
rule_prefixes r = length r.src + length r.dst

abbrev pub prefixes_of : List Rule → ℕ
prefixes_of rules = sum_by rule_prefixes rules

-- Are so many prefixes too many? Then that is said at the term with whose rules the filter has them.
abbrev pub prefix_slip : Term → ℕ → Option Slip
prefix_slip t prefixes =
    if nat_le prefixes most_prefixes then None
    else Some (slip TooManyPrefixes t.place t.name)

-- ---- terms

-- A term's slip, behind the terms before it: its extension header, else that the filter of all of them up to and
-- with it has too many prefixes.
abbrev pub term_slip : Target → Day → List Term → Term → Option Slip
term_slip target today earlier t =
    option_or (header_slip target today t)
    (prefix_slip t (prefixes_of (rules_of target today (earlier ++ t ∷ []))))

-- The slip of the first of the terms that has one, behind the terms before them.
abbrev pub slip_behind : Target → Day → List Term → List Term → Option Slip
slip_behind target today earlier [] = None
slip_behind target today earlier (t ∷ ts) =
    option_or (term_slip target today earlier t) (slip_behind target today (earlier ++ t ∷ []) ts)

unfoldable pub first_slip : Target → Day → List Term → Option Slip
first_slip target today terms = slip_behind target today [] terms
