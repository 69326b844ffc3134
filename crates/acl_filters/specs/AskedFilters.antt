-- What a target of a policy asks for: a filter of its block's terms.
use Rattle.std.specs.Prelude.{List}
use Rattle.acl_target.specs.declared.targets.Target.{Target}
use Rattle.acl_policy.specs.RawTerms.{RawTerm}
use Rattle.acl_terms.specs.declared.terms.Term.{Term}

-- A target of a policy, and the terms of its block: as they are written, and with their words read as numbers.
pub record FilterRequest : Type 0 where
  pub target : Target
  pub written : List RawTerm
  pub terms : List Term
