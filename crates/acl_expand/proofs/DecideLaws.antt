-- The rules of terms decide as the terms do.
use Rattle.std.proofs.Common.{◌≡◌, Bool, true, false, cond, ◌&&◌, ◌||◌, List, [], ◌∷◌, ◌++◌, map, flat_map, refl, ap, ◌∙◌}
use Rattle.std.specs.List.{AllByRecursion, list_any}
use Rattle.acl_packet.specs.declared.addresses.Family.{Family}
use Rattle.acl_packet.specs.declared.addresses.Family.TheVariants.{V6}
use Rattle.acl_packet.specs.declared.filtering.Outcome.{Outcome}
use Rattle.acl_packet.specs.declared.filtering.Verdict.TheVariants as verdicts
use Rattle.acl_packet.specs.declared.packets.Packet.{Packet}
use Rattle.acl_packet.specs.Addresses.{covers, same_family}
use Rattle.acl_packet.specs.Outcomes.{unlogged}
use Rattle.acl_packet.specs.Packets.{IsPacket, is_neighbour_discovery}
use Rattle.acl_host.specs.declared.days.Day.{Day}
use Rattle.acl_target.specs.declared.targets.Ending.{Ending}
use Rattle.acl_target.specs.declared.targets.Ending.TheVariants as endings
use Rattle.acl_target.specs.declared.targets.Kind.{Kind}
use Rattle.acl_target.specs.declared.targets.Kind.TheVariants.{Cisco, Juniper, Iptables, Nftables}
use Rattle.acl_target.specs.declared.targets.Target.{Target}
use Rattle.acl_target.specs.FilterEndings.{ending_outcome}
use Rattle.acl_terms.specs.declared.sides.SidePair.{SidePair}
use Rattle.acl_terms.specs.declared.terms.Term.{Term}
use Rattle.acl_terms.specs.Outcomes.{decides, cisco_verdict, mode_of, outcome_of, policy_outcome, expressed_on}
use Rattle.acl_terms.specs.Resolved.{is_pair_empty, is_term_live, pairs_of}
use Rattle.acl_terms.proofs.PolicyLaws.{decide-as-written}
use Rattle.acl_platform.specs.declared.rules.Rule.{Rule}
use Rattle.acl_platform.specs.Rules.{decided_by, rule_holds, rules_outcome}
use Rattle.acl_expand.specs.declared.conditions.Conditions.{Conditions}
use Rattle.acl_expand.specs.Expansions.{DecidesAsTerms, FiltersDecideAsWritten, filter_of}
use Rattle.acl_expand.specs.TermRules.{conditions_by, family_rules, members, pair_rules, rule_of, rules_of, term_rules, verdict_on}
use Rattle.acl_expand.proofs.HoldLaws.{in-range, term-step}

-- ---- rules with one decision

abbrev Alike : Outcome → List Rule → Type 0
Alike o rules = AllByRecursion (λ r. decided_by r ≡ o) rules

chosen : (a b : Bool) (x y : Outcome) → cond a x (cond b x y) ≡ cond (a || b) x y
chosen true b x y = refl
chosen false b x y = refl

over-alike : (ending : Ending) (o : Outcome) (rules rest : List Rule) (p : Packet) → Alike o rules
    → rules_outcome ending (rules ++ rest) p ≡ cond (list_any (λ r. rule_holds r p) rules) o (rules_outcome ending rest p)
unfolding rules_outcome
over-alike ending o [] rest p h = refl
over-alike ending o (r ∷ rules) rest p h =
    ap (λ x. cond (rule_holds r p) x (rules_outcome ending (rules ++ rest) p)) h.0
    ∙ ap (λ x. cond (rule_holds r p) o x) (over-alike ending o rules rest p h.1)
    ∙ chosen (rule_holds r p) (list_any (λ r. rule_holds r p) rules) o (rules_outcome ending rest p)

joined : (o : Outcome) (xs ys : List Rule) → Alike o xs → Alike o ys → Alike o (xs ++ ys)
joined o [] ys h k = k
joined o (x ∷ xs) ys h k = (h.0, joined o xs ys h.1 k)

-- ---- the rules of a term

verdict-shown : (kind : Kind) (t : Term) → record { verdict = verdict_on kind t.verdict; logged = t.log } ≡ expressed_on kind (outcome_of t)
verdict-shown Cisco t = refl
verdict-shown Juniper t = refl
verdict-shown Iptables t = refl
verdict-shown Nftables t = refl

conditions-alike : (kind : Kind) (f : Family) (t : Term) (pair : SidePair) (cs : List Conditions)
    → Alike (expressed_on kind (outcome_of t)) (map (rule_of kind f t pair) cs)
conditions-alike kind f t pair [] = tt
conditions-alike kind f t pair (c ∷ cs) = (verdict-shown kind t, conditions-alike kind f t pair cs)

by-emptiness : (b : Bool) (o : Outcome) (rules : List Rule) → Alike o rules → Alike o (cond b [] rules)
by-emptiness true o rules h = tt
by-emptiness false o rules h = h

pair-alike : (target : Target) (t : Term) (f : Family) (pair : SidePair) → Alike (expressed_on target.kind (outcome_of t)) (pair_rules target t f pair)
unfolding pair_rules
pair-alike target t f pair =
    by-emptiness (is_pair_empty f t pair) (expressed_on target.kind (outcome_of t))
    (map (rule_of target.kind f t pair) (conditions_by t.option (mode_of target) f t pair.ports))
    (conditions-alike target.kind f t pair (conditions_by t.option (mode_of target) f t pair.ports))

each-alike : {A : Type 0} (o : Outcome) (rows : A → List Rule) → ((a : A) → Alike o (rows a)) → (xs : List A) → Alike o (flat_map rows xs)
each-alike o rows h [] = tt
each-alike o rows h (x ∷ xs) = joined o (rows x) (flat_map rows xs) (h x) (each-alike o rows h xs)

family-alike : (target : Target) (t : Term) (f : Family) → Alike (expressed_on target.kind (outcome_of t)) (family_rules target t f)
unfolding family_rules
family-alike target t f =
    each-alike (expressed_on target.kind (outcome_of t)) (pair_rules target t f) (pair-alike target t f) (pairs_of t)

by-life : (b : Bool) (o : Outcome) (rules : List Rule) → Alike o rules → Alike o (cond b rules [])
by-life true o rules h = h
by-life false o rules h = tt

term-alike : (target : Target) (today : Day) (t : Term) → Alike (expressed_on target.kind (outcome_of t)) (term_rules target today t)
unfolding term_rules
term-alike target today t =
    by-life (is_term_live t target.kind today) (expressed_on target.kind (outcome_of t))
    (flat_map (family_rules target t) (members target.families))
    (each-alike (expressed_on target.kind (outcome_of t)) (family_rules target t) (family-alike target t) (members target.families))

-- ---- the ending, and first match

denied-same : (b : Bool) → unlogged (cond b verdicts.Accept verdicts.Deny) ≡ unlogged (cisco_verdict (cond b verdicts.Accept verdicts.Deny))
denied-same true = refl
denied-same false = refl

ending-seen : (ending : Ending) (p : Packet) → ending_outcome ending p ≡ expressed_on Cisco (ending_outcome ending p)
unfolding ending_outcome
ending-seen endings.Accept p = refl
ending-seen endings.Deny p = refl
ending-seen endings.Left p = refl
ending-seen endings.Neighbours p = denied-same (same_family V6 p.family && is_neighbour_discovery p)

ending-shown : (kind : Kind) (ending : Ending) (p : Packet) → ending_outcome ending p ≡ expressed_on kind (ending_outcome ending p)
ending-shown Cisco ending p = ending-seen ending p
ending-shown Juniper ending p = refl
ending-shown Iptables ending p = refl
ending-shown Nftables ending p = refl

shown-choice : (kind : Kind) (b : Bool) (x y : Outcome) → cond b (expressed_on kind x) (expressed_on kind y) ≡ expressed_on kind (cond b x y)
shown-choice kind true x y = refl
shown-choice kind false x y = refl

rules-decide : (target : Target) (today : Day) (terms : List Term) (p : Packet) → IsPacket p → covers target.families p.family ≡ true
    → rules_outcome target.ending (rules_of target today terms) p ≡ expressed_on target.kind (policy_outcome target today terms p)
unfolding rules_outcome policy_outcome
rules-decide target today [] p is c = ending-shown target.kind target.ending p
rules-decide target today (t ∷ terms) p is c =
    let o = expressed_on target.kind (outcome_of t) in
    over-alike target.ending o (term_rules target today t) (rules_of target today terms) p (term-alike target today t)
    ∙ ap (λ b. cond b o (rules_outcome target.ending (rules_of target today terms) p)) (term-step target today t p (in-range p is) c)
    ∙ ap (λ x. cond (decides target today p t) o x) (rules-decide target today terms p is c)
    ∙ shown-choice target.kind (decides target today p t) (outcome_of t) (policy_outcome target today terms p)

pub filter-decides : (target : Target) (today : Day) (terms : List Term) → DecidesAsTerms target today terms (filter_of target today terms)
filter-decides target today terms p is c = rules-decide target today terms p is c

pub decides-as-written : FiltersDecideAsWritten
decides-as-written n target today raws terms z = λ p is c.
    (policy_outcome target today terms p, (decide-as-written n target today raws terms p is z, rules-decide target today terms p is c))
