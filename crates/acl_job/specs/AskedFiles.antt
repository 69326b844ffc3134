-- A file that a policy asks for, and the filters that stand in it.
use Rattle.std.specs.Prelude.{ℕ, List}
use Rattle.acl_filters.specs.AskedFilters.{FilterRequest}
use Rattle.acl_target.specs.declared.targets.Kind.{Kind}

-- A file that a run writes: its platform, its path, and the filters that are asked for in it, in order.
pub record PlanFile : Type 0 where
  pub kind : Kind
  pub path : List ℕ
  pub requests : List FilterRequest
