-- The rules of terms that are known from other targets.
use Rattle.std.specs.Prelude.{◌≡◌, Bool, true, false, List, None}
use Rattle.std.specs.List.{AllByRecursion}
use Rattle.acl_host.specs.declared.days.Day.{Day}
use Rattle.acl_target.specs.declared.targets.Target.{Target}
use Rattle.acl_terms.specs.declared.options.Opt.{Opt}
use Rattle.acl_terms.specs.declared.options.Opt.TheVariants.{Plain, Established, TcpEstablished, TcpInitial, Rst}
use Rattle.acl_terms.specs.declared.terms.Term.{Term}
use Rattle.acl_terms.specs.Resolved.{is_term_live}
use Rattle.acl_expand.specs.ExpansionSlips.{first_slip}
use Rattle.acl_expand.specs.TermRules.{rules_of, verdict_on}
use Rattle.acl_expand.specs.declared.known_rules.KnownRules.{KnownRules}
use Rattle.acl_expand.specs.declared.known_rules.TargetRules.{TargetRules}
use Rattle.acl_expand.specs.declared.target_classes.TargetClass.{TargetClass}

-- What the rules of terms depend on in a target.
abbrev pub class_of : Target → TargetClass
class_of t = record { kind = t.kind; families = t.families; stateful = t.stateful }

-- Does the option ask other things of a packet where connections are known?
abbrev pub asks_by_mode : Opt → Bool
asks_by_mode Plain = false
asks_by_mode Established = true
asks_by_mode TcpEstablished = true
asks_by_mode TcpInitial = false
asks_by_mode Rst = false

-- What a term's rules in a family depend on is the same in two classes: whether it is live there that day, its verdict
-- there, and whether connections are known, where its option asks.
pub record IsAlike (a b : TargetClass) (today : Day) (t : Term) : Type 0 where
  pub live_is : is_term_live t a.kind today ≡ is_term_live t b.kind today
  pub verdict_is : verdict_on a.kind t.verdict ≡ verdict_on b.kind t.verdict
  pub stateful_is : asks_by_mode t.option ≡ true → a.stateful ≡ b.stateful

-- The families are the same, and so is that of each term.
pub record AreAlike (a b : TargetClass) (today : Day) (terms : List Term) : Type 0 where
  pub families_are : a.families ≡ b.families
  pub terms_are : AllByRecursion (IsAlike a b today) terms

-- So terms have the same rules on both, and the same first slip. A law.
abbrev pub AlikeHaveTheSameRules : Type 0
AlikeHaveTheSameRules = (a b : Target) (today : Day) (terms : List Term) → AreAlike (class_of a) (class_of b) today terms
    → (rules_of a today terms ≡ rules_of b today terms) × (first_slip a today terms ≡ first_slip b today terms)

-- Rules that are known are those of the terms on each target of a class that is alike, and the terms have no slip there.
pub record IsKnown (today : Day) (terms : List Term) (r : TargetRules) : Type 0 where
  pub rules_are : (t : Target) → AreAlike r.class (class_of t) today terms → r.rules ≡ rules_of t today terms
  pub no_slip : (t : Target) → AreAlike r.class (class_of t) today terms → first_slip t today terms ≡ None

abbrev pub AreKnown : Day → List Term → KnownRules → Type 0
AreKnown today terms known = AllByRecursion (IsKnown today terms) known.lists
