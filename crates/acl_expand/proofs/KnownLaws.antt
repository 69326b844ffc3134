-- Targets that are alike for terms have the same rules of them.
use Rattle.std.proofs.Common.{◌≡◌, Bool, true, cond, not, ◌&&◌, List, [], ◌∷◌, ◌++◌, map, flat_map, None, refl, ap, sym, subst, ◌∙◌}
use Rattle.std.specs.List.{AllByRecursion}
use Rattle.std.specs.Option.{option_or}
use Rattle.acl_packet.specs.declared.addresses.Family.{Family}
use Rattle.acl_packet.specs.declared.addresses.Family.TheVariants.{V6}
use Rattle.acl_packet.specs.declared.filtering.Verdict.{Verdict}
use Rattle.acl_packet.specs.Addresses.{covers}
use Rattle.acl_text.proofs.ListLaws.{all_append}
use Rattle.acl_host.specs.declared.days.Day.{Day}
use Rattle.acl_target.specs.declared.targets.Kind.TheVariants.{Cisco}
use Rattle.acl_target.specs.declared.targets.Target.{Target}
use Rattle.acl_terms.specs.declared.options.Opt.{Opt}
use Rattle.acl_terms.specs.declared.options.Opt.TheVariants as options
use Rattle.acl_terms.specs.declared.options.Mode.TheVariants.{Stateful, Stateless}
use Rattle.acl_terms.specs.declared.sides.Side.{Side}
use Rattle.acl_terms.specs.declared.sides.SidePair.{SidePair}
use Rattle.acl_terms.specs.declared.terms.Term.{Term}
use Rattle.acl_terms.specs.Outcomes.{mode_of}
use Rattle.acl_terms.specs.Resolved.{is_empty_in, is_pair_empty, is_term_live, pairs_of}
use Rattle.acl_platform.specs.declared.rules.Rule.{Rule}
use Rattle.acl_expand.specs.ExpansionSlips.{first_slip, header_at, header_named, header_slip, prefix_slip, prefixes_of, slip_behind, term_slip}
use Rattle.acl_expand.specs.KnownRules.{AlikeHaveTheSameRules, AreAlike, IsAlike, IsKnown, asks_by_mode, class_of}
use Rattle.acl_expand.specs.TermRules.{conditions_by, family_rules, members, pair_rules, rule_of, rules_of, term_rules, verdict_on}
use Rattle.acl_expand.specs.declared.conditions.Conditions.{Conditions}
use Rattle.acl_expand.specs.declared.known_rules.TargetRules.{TargetRules}

flat-same : {A B : Type 0} (f g : A → List B) → ((x : A) → f x ≡ g x) → (xs : List A) → flat_map f xs ≡ flat_map g xs
flat-same f g h [] = refl
flat-same f g h (x ∷ xs) = ap (λ ys. ys ++ flat_map f xs) (h x) ∙ ap (λ ys. g x ++ ys) (flat-same f g h xs)

-- ---- rules

-- The rule of a term with a verdict, on whichever platform.
abbrev rule-with : Family → Term → SidePair → Verdict → Conditions → Rule
rule-with f t pair verdict c = record (rule_of Cisco f t pair c) { verdict = verdict }

-- An option that does not ask whether connections are known has the same conditions either way.
conditions-same : (o : Opt) (a b : Bool) → (asks_by_mode o ≡ true → a ≡ b) → (f : Family) (t : Term) (side : Side)
    → conditions_by o (cond a Stateful Stateless) f t side ≡ conditions_by o (cond b Stateful Stateless) f t side
conditions-same options.Plain a b h f t side = refl
conditions-same options.Established a b h f t side = ap (λ (s : Bool). conditions_by options.Established (cond s Stateful Stateless) f t side) (h refl)
conditions-same options.TcpEstablished a b h f t side = ap (λ (s : Bool). conditions_by options.TcpEstablished (cond s Stateful Stateless) f t side) (h refl)
conditions-same options.TcpInitial a b h f t side = refl
conditions-same options.Rst a b h f t side = refl

pair-same : (a b : Target) (today : Day) (t : Term) → IsAlike (class_of a) (class_of b) today t → (f : Family) (pair : SidePair)
    → pair_rules a t f pair ≡ pair_rules b t f pair
unfolding pair_rules
pair-same a b today t h f pair =
    ap (λ v. cond (is_pair_empty f t pair) [] (map (rule-with f t pair v) (conditions_by t.option (mode_of a) f t pair.ports))) h.verdict_is
    ∙ ap (λ cs. cond (is_pair_empty f t pair) [] (map (rule-with f t pair (verdict_on b.kind t.verdict)) cs))
    (conditions-same t.option a.stateful b.stateful h.stateful_is f t pair.ports)

family-same : (a b : Target) (today : Day) (t : Term) → IsAlike (class_of a) (class_of b) today t → (f : Family)
    → family_rules a t f ≡ family_rules b t f
unfolding family_rules
family-same a b today t h f = flat-same (pair_rules a t f) (pair_rules b t f) (pair-same a b today t h f) (pairs_of t)

term-same : (a b : Target) (today : Day) (t : Term) → a.families ≡ b.families → IsAlike (class_of a) (class_of b) today t
    → term_rules a today t ≡ term_rules b today t
unfolding term_rules
term-same a b today t families h =
    ap (λ live. cond live (flat_map (family_rules a t) (members a.families)) []) h.live_is
    ∙ ap (λ fs. cond (is_term_live t b.kind today) (flat_map (family_rules a t) (members fs)) []) families
    ∙ ap (λ rules. cond (is_term_live t b.kind today) rules [])
    (flat-same (family_rules a t) (family_rules b t) (family-same a b today t h) (members b.families))

rules-same : (a b : Target) (today : Day) (terms : List Term) → a.families ≡ b.families
    → AllByRecursion (IsAlike (class_of a) (class_of b) today) terms → rules_of a today terms ≡ rules_of b today terms
rules-same a b today [] families h = refl
rules-same a b today (t ∷ ts) families h =
    ap (λ rules. rules ++ rules_of a today ts) (term-same a b today t families h.0)
    ∙ ap (λ rules. term_rules b today t ++ rules) (rules-same a b today ts families h.1)

-- ---- slips

header-same : (a b : Target) (today : Day) (t : Term) → a.families ≡ b.families → IsAlike (class_of a) (class_of b) today t
    → header_slip a today t ≡ header_slip b today t
unfolding header_slip
header-same a b today t families h =
    ap (λ live. cond (live && (covers a.families V6 && not (is_empty_in V6 t))) (header_at t (header_named t)) None) h.live_is
    ∙ ap (λ fs. cond (is_term_live t b.kind today && (covers fs V6 && not (is_empty_in V6 t))) (header_at t (header_named t)) None) families

slips-same : (a b : Target) (today : Day) (earlier terms : List Term) → a.families ≡ b.families
    → AllByRecursion (IsAlike (class_of a) (class_of b) today) earlier → AllByRecursion (IsAlike (class_of a) (class_of b) today) terms
    → slip_behind a today earlier terms ≡ slip_behind b today earlier terms
slips-same a b today earlier [] families before h = refl
slips-same a b today earlier (t ∷ ts) families before h =
    let all = earlier ++ t ∷ [] in
    let alike = all_append (IsAlike (class_of a) (class_of b) today) earlier (t ∷ []) before (h.0, tt) in
    ap (λ s. option_or (option_or s (prefix_slip t (prefixes_of (rules_of a today all)))) (slip_behind a today all ts))
    (header-same a b today t families h.0)
    ∙ ap (λ rules. option_or (option_or (header_slip b today t) (prefix_slip t (prefixes_of rules))) (slip_behind a today all ts))
    (rules-same a b today all families alike)
    ∙ ap (λ s. option_or (term_slip b today earlier t) s) (slips-same a b today all ts families alike h.1)

first-same : (a b : Target) (today : Day) (terms : List Term) → AreAlike (class_of a) (class_of b) today terms
    → first_slip a today terms ≡ first_slip b today terms
unfolding first_slip
first-same a b today terms h = slips-same a b today [] terms h.families_are tt h.terms_are

pub alike_have_the_same_rules : AlikeHaveTheSameRules
alike_have_the_same_rules a b today terms h = (rules-same a b today terms h.families_are h.terms_are, first-same a b today terms h)

-- ---- rules that are known

is-known : (today : Day) (terms : List Term) (t : Target) (r : TargetRules) → r.class ≡ class_of t → first_slip t today terms ≡ None
    → r.rules ≡ rules_of t today terms → IsKnown today terms r
is-known today terms t r class none is = record {
  rules_are = λ u h. is ∙ (alike_have_the_same_rules t u today terms (subst (λ c. AreAlike c (class_of u) today terms) class h)).0;
  no_slip = λ u h. sym (alike_have_the_same_rules t u today terms (subst (λ c. AreAlike c (class_of u) today terms) class h)).1 ∙ none;
}

-- One list more is known.
pub known-more : (today : Day) (terms : List Term) (t : Target) (old new : List TargetRules) (rules : List Rule)
    → AllByRecursion (IsKnown today terms) old → first_slip t today terms ≡ None → rules ≡ rules_of t today terms
    → new ≡ old ++ record { class = class_of t; rules = rules } ∷ [] → AllByRecursion (IsKnown today terms) new
known-more today terms t old new rules known none is e =
    let r : TargetRules = record { class = class_of t; rules = rules } in
    rw e (all_append (IsKnown today terms) old (r ∷ []) known (is-known today terms t r refl none is, tt))
