-- The terms of a block decide as the written ones do.
use Rattle.std.proofs.Common.{◌≡◌, ◌↔◌, Bool, true, false, cond, List, [], ◌∷◌, inl, inr, refl, ap, ◌∙◌}
use Rattle.std.specs.List.{AllZip}
use Rattle.std.proofs.lemmas.Bool.{and_from, and_parts, both_ways}
use Rattle.acl_packet.specs.declared.filtering.Outcome.{Outcome}
use Rattle.acl_packet.specs.declared.packets.Packet.{Packet}
use Rattle.acl_packet.specs.Packets.{IsPacket}
use Rattle.acl_host.specs.declared.days.Day.{Day}
use Rattle.acl_target.specs.declared.targets.Target.{Target}
use Rattle.acl_policy.specs.RawTerms.{RawTerm}
use Rattle.acl_naming.specs.Definitions.{Naming}
use Rattle.acl_terms.specs.declared.terms.Term.{Term}
use Rattle.acl_terms.specs.Outcomes.{Decides, PolicyDecides, decides, mode_of, outcome_of, policy_outcome, written_outcome}
use Rattle.acl_terms.specs.Resolved.{IsResolved, is_term_live, matches}
use Rattle.acl_terms.proofs.LifeLaws.{live-law, live-as-written}
use Rattle.acl_terms.proofs.MatchLaws.{match-as-written}

decides-as-written : (n : Naming) (target : Target) (today : Day) (raw : RawTerm) (t : Term) (p : Packet) → IsPacket p
    → IsResolved n raw t → (decides target today p t ≡ true) ↔ Decides n raw target today p
decides-as-written n target today raw t p fits is =
    let mode = mode_of target in
    let a = live-law t target.kind today in
    let b = live-as-written n raw t target.kind today is in
    let m = match-as-written n raw t mode p fits is in (
      λ h. let r = and_parts (is_term_live t target.kind today) (matches mode t p) h in
          record { live = b.0 (a.0 r.0); matched = m.0 r.1 },
      λ d. and_from (is_term_live t target.kind today) (matches mode t p) (a.1 (b.1 d.live)) (m.1 d.matched),
    )

same-outcome : (n : Naming) (raw : RawTerm) (t : Term) → IsResolved n raw t → outcome_of t ≡ written_outcome raw
same-outcome n raw t is =
    ap (λ v. record { verdict = v; logged = t.log }) is.fields.verdict
    ∙ ap (λ l. record { verdict = (written_outcome raw).verdict; logged = l }) is.fields.log

step : (n : Naming) (target : Target) (today : Day) (raw : RawTerm) (raws : List RawTerm) (p : Packet)
    (o rest : Outcome) (b : Bool) → (b ≡ true) ↔ Decides n raw target today p → o ≡ written_outcome raw
    → PolicyDecides n target today raws p rest
    → PolicyDecides n target today (raw ∷ raws) p (cond b o rest)
step n target today raw raws p o rest true law same h = inl (law.0 refl, same)
step n target today raw raws p o rest false law same h = inr (λ d. both_ways false refl (law.1 d), h)

pub decide-as-written : (n : Naming) (target : Target) (today : Day) (raws : List RawTerm) (ts : List Term)
    (p : Packet) → IsPacket p → AllZip (IsResolved n) raws ts
    → PolicyDecides n target today raws p (policy_outcome target today ts p)
unfolding policy_outcome
decide-as-written n target today [] [] p fits z = refl
decide-as-written n target today [] (t ∷ ts) p fits z = absurd z
decide-as-written n target today (raw ∷ raws) [] p fits z = absurd z
decide-as-written n target today (raw ∷ raws) (t ∷ ts) p fits z =
    step n target today raw raws p (outcome_of t) (policy_outcome target today ts p) (decides target today p t)
    (decides-as-written n target today raw t p fits z.0) (same-outcome n raw t z.0)
    (decide-as-written n target today raws ts p fits z.1)
