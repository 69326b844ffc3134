-- The report on standard output: what is told of the terms of a policy, and the counts of its filters.
use Rattle.std.specs.Prelude.{ℕ, ◌*◌, pos, ◌+ℤ◌, Bool, ◌&&◌, if◌then◌else◌, List, [], ◌++◌, zip, flat_map, slice_index_or, codes, decimal, Option, None, Some}
use Rattle.std.specs.List.{enumerate_from}
use Rattle.std.specs.Int.Signed.{le_z, lt_z}
use Rattle.acl_packet.specs.declared.addresses.Families.{Families}
use Rattle.acl_packet.specs.declared.addresses.Families.TheVariants.{Inet, Inet6, Mixed}
use Rattle.acl_packet.specs.declared.addresses.Family.TheVariants.{V4, V6}
use Rattle.acl_host.specs.declared.days.Day.{Day}
use Rattle.acl_host.specs.DaySteps.{date_text}
use Rattle.acl_target.specs.declared.targets.Target.{Target}
use Rattle.acl_target.specs.TargetTexts.{target_text}
use Rattle.acl_terms.specs.declared.terms.Term.{Term}
use Rattle.acl_terms.specs.Resolved.{is_empty_in, is_term_live}
use Rattle.acl_shade.specs.ComputableShading.{shading_term}
use Rattle.acl_load.specs.declared.resolved_policies.ResolvedPolicy.{ResolvedPolicy}

-- ---- when there is something to tell

-- The day is not later than today.
abbrev pub has_expired : Day → Day → Bool
has_expired today day = le_z day.number today.number

-- The day is later than today, by at most so many weeks.
abbrev pub expires_within : Day → ℕ → Day → Bool
expires_within today weeks day =
    lt_z today.number day.number && le_z day.number (today.number +ℤ pos (7 * weeks))

-- The term is empty in each of the families.
abbrev pub is_empty_in_each : Families → Term → Bool
is_empty_in_each Inet t = is_empty_in V4 t
is_empty_in_each Inet6 t = is_empty_in V6 t
is_empty_in_each Mixed t = is_empty_in V4 t && is_empty_in V6 t

-- The term is live on the target that day, and empty in each of its families.
abbrev pub is_empty_on : Day → Target → Term → Bool
is_empty_on today target t = is_term_live t target.kind today && is_empty_in_each target.families t

-- ---- lines: TARGET is the text of the target, DATE that of the day (of which it is an `IsDayText`)

-- LABEL:LINE: term NAME
--
-- The label is that of the file in which the term's name stands, and the line the one on which it stands there.
unfoldable pub term_text : List (List ℕ) → Term → List ℕ
term_text labels t = slice_index_or labels t.place.file [] ++ codes ":" ++ decimal t.place.line
    ++ codes ": term " ++ t.name

-- LABEL:LINE: term NAME expired on DATE
abbrev pub expired_line : List (List ℕ) → Term → Day → List ℕ
expired_line labels t day =
    term_text labels t ++ codes " expired on " ++ date_text day.number ++ codes "\n"

-- LABEL:LINE: term NAME expires on DATE
abbrev pub expires_line : List (List ℕ) → Term → Day → List ℕ
expires_line labels t day =
    term_text labels t ++ codes " expires on " ++ date_text day.number ++ codes "\n"

-- LABEL:LINE: term NAME shaded by NAME
abbrev pub shaded_line : List (List ℕ) → Term → Term → List ℕ
shaded_line labels t other =
    term_text labels t ++ codes " shaded by " ++ other.name ++ codes "\n"

-- LABEL:LINE: term NAME empty on TARGET
abbrev pub empty_line : List (List ℕ) → Term → Target → List ℕ
empty_line labels t target =
    term_text labels t ++ codes " empty on " ++ target_text target ++ codes "\n"

-- PATH: TARGET: entries COUNT
unfoldable pub count_line : List ℕ → Target → ℕ → List ℕ
count_line path target entries = path ++ codes ": " ++ target_text target ++ codes ": entries "
    ++ decimal entries ++ codes "\n"

-- ---- what is told of a term

-- Where the term's day is not later than today.
abbrev pub expired_lines : List (List ℕ) → Day → Term → Option Day → List ℕ
expired_lines labels today t None = []
expired_lines labels today t (Some day) =
    if has_expired today day then expired_line labels t day else []

-- Where its day is later than today by at most so many weeks.
abbrev pub expires_lines : List (List ℕ) → Day → ℕ → Term → Option Day → List ℕ
expires_lines labels today weeks t None = []
expires_lines labels today weeks t (Some day) =
    if expires_within today weeks day then expires_line labels t day else []

-- Where an earlier term of its block shades it: the first that does.
abbrev pub shaded_lines : List (List ℕ) → Term → Option Term → List ℕ
shaded_lines labels t None = []
shaded_lines labels t (Some other) = shaded_line labels t other

-- Where the term is live on the target and empty there.
abbrev pub empty_lines : List (List ℕ) → Day → Term → Target → List ℕ
empty_lines labels today t target =
    if is_empty_on today target t then empty_line labels t target else []

-- The lines on the term at a place of a block: that it expired, that it expires, which term shades it, and where it is
-- empty.
unfoldable pub term_lines : List (List ℕ) → Day → ℕ → List Target → List Term → ℕ × Term → List ℕ
term_lines labels today weeks targets terms (place, t) = expired_lines labels today t t.expires
    ++ expires_lines labels today weeks t t.expires
    ++ shaded_lines labels t (shading_term targets today terms place)
    ++ flat_map (empty_lines labels today t) targets

-- ---- a whole policy

-- The lines on the terms of a block, of which the targets and the terms are given, in order.
unfoldable pub block_lines : List (List ℕ) → Day → ℕ → List Target × List Term → List ℕ
block_lines labels today weeks b =
    flat_map (term_lines labels today weeks b.0 b.1) (enumerate_from 0 b.1)

-- The lines on all terms of a policy, block by block, for a day and so many weeks behind it.
abbrev pub terms_report : Day → ℕ → ResolvedPolicy → List ℕ
terms_report today weeks policy =
    flat_map (block_lines policy.sources.labels today weeks) (zip policy.targets policy.terms)
