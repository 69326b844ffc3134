-- Which term decides: the resolved terms tell it as the written ones do, and it is one at most.
use Rattle.std.proofs.Common.{◌≡◌, ◌↔◌, ℕ, Bool, true, false, cond, List, [], ◌∷◌, find, Option, None, Some, inl, inr, refl, ap, sym, ◌∙◌}
use Rattle.std.specs.List.{AllZip}
use Rattle.std.proofs.lemmas.Bool.{and_from, and_parts, both_ways}
use Rattle.acl_packet.specs.declared.filtering.Outcome.{Outcome}
use Rattle.acl_packet.specs.declared.filtering.Verdict.{Verdict}
use Rattle.acl_packet.specs.declared.packets.Packet.{Packet}
use Rattle.acl_packet.specs.Packets.{IsPacket}
use Rattle.acl_host.specs.declared.days.Day.{Day}
use Rattle.acl_target.specs.declared.targets.Target.{Target}
use Rattle.acl_policy.specs.RawTerms.{RawTerm}
use Rattle.acl_naming.specs.Definitions.{Naming}
use Rattle.acl_terms.specs.declared.terms.Term.{Term}
use Rattle.acl_terms.specs.Outcomes.{Decides, PolicyDecides, decides, mode_of, outcome_of, written_outcome}
use Rattle.acl_terms.specs.Resolved.{IsResolved, is_term_live, matches}
use Rattle.acl_terms.proofs.LifeLaws.{live-law, live-as-written}
use Rattle.acl_terms.proofs.MatchLaws.{match-as-written}
use Rattle.aclcheck_core.specs.AnswerSteps.{decided_of, decided_or, deciding_term}
use Rattle.aclcheck_core.specs.Deciders.{Decided, IsDecided, OutcomesAreThePolicys, decided_by_term}

pub outcome-is-the-policys : OutcomesAreThePolicys
outcome-is-the-policys n target today [] p d e = ap (λ (x : Decided). x.outcome) e
outcome-is-the-policys n target today (t ∷ ts) p d (inl h) = inl (h.0, ap (λ (x : Decided). x.outcome) h.1)
outcome-is-the-policys n target today (t ∷ ts) p d (inr h) = inr (h.0, outcome-is-the-policys n target today ts p d h.1)

pub one-decided : (n : Naming) (target : Target) (today : Day) (ts : List RawTerm) (p : Packet) (a b : Decided)
    → IsDecided n target today ts p a → IsDecided n target today ts p b → a ≡ b
one-decided n target today [] p a b e f = e ∙ sym f
one-decided n target today (t ∷ ts) p a b (inl h) (inl k) = h.1 ∙ sym k.1
one-decided n target today (t ∷ ts) p a b (inl h) (inr k) = absurd (k.0 h.0)
one-decided n target today (t ∷ ts) p a b (inr h) (inl k) = absurd (h.0 k.0)
one-decided n target today (t ∷ ts) p a b (inr h) (inr k) = one-decided n target today ts p a b h.1 k.1

pub one-outcome : (n : Naming) (target : Target) (today : Day) (ts : List RawTerm) (p : Packet) (a b : Outcome)
    → PolicyDecides n target today ts p a → PolicyDecides n target today ts p b → a ≡ b
one-outcome n target today [] p a b e f = e ∙ sym f
one-outcome n target today (t ∷ ts) p a b (inl h) (inl k) = h.1 ∙ sym k.1
one-outcome n target today (t ∷ ts) p a b (inl h) (inr k) = absurd (k.0 h.0)
one-outcome n target today (t ∷ ts) p a b (inr h) (inl k) = absurd (h.0 k.0)
one-outcome n target today (t ∷ ts) p a b (inr h) (inr k) = one-outcome n target today ts p a b h.1 k.1

-- ---- resolved terms

term-as-written : (n : Naming) (target : Target) (today : Day) (raw : RawTerm) (t : Term) (p : Packet) → IsPacket p
    → IsResolved n raw t → (decides target today p t ≡ true) ↔ Decides n raw target today p
term-as-written n target today raw t p fits is =
    let a = live-law t target.kind today in
    let b = live-as-written n raw t target.kind today is in
    let m = match-as-written n raw t (mode_of target) p fits is in (
      λ h. let r = and_parts (is_term_live t target.kind today) (matches (mode_of target) t p) h in
          record { live = b.0 (a.0 r.0); matched = m.0 r.1 },
      λ d. and_from (is_term_live t target.kind today) (matches (mode_of target) t p) (a.1 (b.1 d.live)) (m.1 d.matched),
    )

abbrev made : Verdict → Bool → Option (List ℕ) → Decided
made verdict logged by = record { outcome = record { verdict = verdict; logged = logged }; by = by }

same-decided : (n : Naming) (target : Target) (raw : RawTerm) (t : Term) (p : Packet) → IsResolved n raw t → decided_or target p (Some t) ≡ decided_by_term raw
same-decided n target raw t p is =
    ap (λ v. made v t.log (Some t.name)) is.fields.verdict
    ∙ ap (λ l. made (written_outcome raw).verdict l (Some t.name)) is.fields.log
    ∙ ap (λ w. made (written_outcome raw).verdict raw.logging (Some w)) is.fields.name

step : (n : Naming) (target : Target) (today : Day) (raw : RawTerm) (raws : List RawTerm) (t : Term) (more : Option Term) (p : Packet) (b : Bool)
    → (b ≡ true) ↔ Decides n raw target today p → IsResolved n raw t → IsDecided n target today raws p (decided_or target p more)
    → IsDecided n target today (raw ∷ raws) p (decided_or target p (cond b (Some t) more))
step n target today raw raws t more p true law is h = inl (law.0 refl, same-decided n target raw t p is)
step n target today raw raws t more p false law is h = inr (λ d. both_ways false refl (law.1 d), h)

pub decided-as-written : (n : Naming) (target : Target) (today : Day) (raws : List RawTerm) (ts : List Term) (p : Packet) → IsPacket p
    → AllZip (IsResolved n) raws ts → IsDecided n target today raws p (decided_of target today p ts)
decided-as-written n target today [] [] p fits z = refl
decided-as-written n target today [] (t ∷ ts) p fits z = absurd z
decided-as-written n target today (raw ∷ raws) [] p fits z = absurd z
decided-as-written n target today (raw ∷ raws) (t ∷ ts) p fits z =
    step n target today raw raws t (deciding_term target today p ts) p (decides target today p t)
    (term-as-written n target today raw t p fits z.0) z.0 (decided-as-written n target today raws ts p fits z.1)
