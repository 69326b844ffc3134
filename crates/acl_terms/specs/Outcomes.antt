-- What a policy does with a packet: the first live term that matches decides, else the ending of the target.
use Rattle.std.specs.Prelude.{◌≡◌, ◌↔◌, ◌⊎◌, Bool, true, false, ◌&&◌, if◌then◌else◌, List, [], ◌∷◌}
use Rattle.std.specs.List.{AllZip}
use Rattle.acl_packet.specs.declared.filtering.Outcome.{Outcome}
use Rattle.acl_packet.specs.declared.filtering.Verdict.{Verdict}
use Rattle.acl_packet.specs.declared.filtering.Verdict.TheVariants as verdicts
use Rattle.acl_packet.specs.declared.packets.Packet.{Packet}
use Rattle.acl_packet.specs.Packets.{IsPacket}
use Rattle.acl_host.specs.declared.days.Day.{Day}
use Rattle.acl_target.specs.declared.targets.Kind.{Kind}
use Rattle.acl_target.specs.declared.targets.Kind.TheVariants.{Cisco, Juniper, Iptables, Nftables}
use Rattle.acl_target.specs.declared.targets.Target.{Target}
use Rattle.acl_policy.specs.RawTerms.{RawTerm}
use Rattle.acl_target.specs.FilterEndings.{ending_outcome}
use Rattle.acl_naming.specs.Definitions.{Naming}
use Rattle.acl_terms.specs.declared.options.Mode.{Mode}
use Rattle.acl_terms.specs.declared.options.Mode.TheVariants.{Stateful, Stateless}
use Rattle.acl_terms.specs.declared.terms.Term.{Term}
use Rattle.acl_terms.specs.Living.{IsLive}
use Rattle.acl_terms.specs.Matching.{Matches}
use Rattle.acl_terms.specs.Options.{verdict_of}
use Rattle.acl_terms.specs.Resolved.{IsEmptyIn, IsResolved, IsTermLive, is_term_live, matches}

-- Whether a target knows connections.
abbrev pub mode_of : Target → Mode
mode_of target = if target.stateful then Stateful else Stateless

-- ---- of terms as they are written

-- The term is live on the target that day, and matches the packet there.
pub record Decides (n : Naming) (t : RawTerm) (target : Target) (today : Day)
    (p : Packet) : Type 0 where
  pub live : IsLive t target.kind today
  pub matched : Matches n t (mode_of target) p

abbrev pub written_outcome : RawTerm → Outcome
written_outcome t = record { verdict = verdict_of t.action.text; logged = t.logging }

-- The outcome of a block's terms, in order, on one of its targets.
abbrev pub PolicyDecides : Naming → Target → Day → List RawTerm → Packet → Outcome → Type 0
PolicyDecides n target today [] p o = o ≡ ending_outcome target.ending p
PolicyDecides n target today (t ∷ ts) p o =
    (Decides n t target today p × (o ≡ written_outcome t))
    ⊎ ((Decides n t target today p → ⊥) × PolicyDecides n target today ts p o)

-- A platform that cannot reject shows a rejection and a reset as a denial: Cisco access lists permit and deny alone
-- (Cisco IOS command reference, ip access-list).
abbrev pub cisco_verdict : Verdict → Verdict
cisco_verdict verdicts.Accept = verdicts.Accept
cisco_verdict verdicts.Deny = verdicts.Deny
cisco_verdict verdicts.Reject = verdicts.Deny
cisco_verdict verdicts.Reset = verdicts.Deny
cisco_verdict verdicts.Left = verdicts.Left

abbrev pub expressed_on : Kind → Outcome → Outcome
expressed_on Cisco o = record { verdict = cisco_verdict o.verdict; logged = o.logged }
expressed_on Juniper o = o
expressed_on Iptables o = o
expressed_on Nftables o = o

-- ---- of resolved terms

abbrev pub outcome_of : Term → Outcome
outcome_of t = record { verdict = t.verdict; logged = t.log }

abbrev pub decides : Target → Day → Packet → Term → Bool
decides target today p t = is_term_live t target.kind today && matches (mode_of target) t p

unfoldable pub policy_outcome : Target → Day → List Term → Packet → Outcome
policy_outcome target today [] p = ending_outcome target.ending p
policy_outcome target today (t ∷ ts) p =
    if decides target today p t then outcome_of t else policy_outcome target today ts p

-- ---- laws

-- A resolved term matches as the written one does.
abbrev pub TermsMatchAsWritten : Type 0
TermsMatchAsWritten = (n : Naming) (raw : RawTerm) (t : Term) (mode : Mode) (p : Packet)
    → IsPacket p → IsResolved n raw t → (matches mode t p ≡ true) ↔ Matches n raw mode p

-- It is live where the written one is.
abbrev pub TermsLiveAsWritten : Type 0
TermsLiveAsWritten = (n : Naming) (raw : RawTerm) (t : Term) (kind : Kind) (today : Day)
    → IsResolved n raw t → IsTermLive t kind today ↔ IsLive raw kind today

-- So the resolved terms of a block decide as the written ones do.
abbrev pub PoliciesDecideAsWritten : Type 0
PoliciesDecideAsWritten = (n : Naming) (target : Target) (today : Day) (raws : List RawTerm)
    (ts : List Term) (p : Packet) → IsPacket p → AllZip (IsResolved n) raws ts
    → PolicyDecides n target today raws p (policy_outcome target today ts p)

-- A term that is empty in a family matches no packet of it.
abbrev pub EmptyTermsMatchNone : Type 0
EmptyTermsMatchNone = (mode : Mode) (t : Term) (p : Packet) → IsEmptyIn p.family t → matches mode t p ≡ false
