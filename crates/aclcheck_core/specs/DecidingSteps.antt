-- What the private step of a run gives that decides what is to be told.
use Rattle.std.specs.Prelude.{◌≡◌, true, Option}
use Rattle.acl_text.specs.declared.wholes.Whole.{Whole}
use Rattle.acl_options.specs.CheckCommands.{CheckRequest}
use Rattle.acl_run.specs.Finishing.{IsTextOf}
use Rattle.acl_run.specs.Deciding.{Decides}
use Rattle.acl_run.specs.Worlds.{Disk, Watch}
use Rattle.acl_run.specs.declared.deciding.Decision.{Decision}
use Rattle.acl_run.specs.declared.deciding.Decision.TheVariants as decided
use Rattle.acl_run.specs.declared.endings.Which.TheVariants as which
use Rattle.aclcheck_core.specs.CheckRuns.{JoinsSections, asked_of, is_of_policy, told_text}

pub record DecidesCheck (request : Option CheckRequest) (old new : Disk) (c c' : Watch)
    (decision : Decision (Option Whole)) : Type 0 where
  pub decides : Decides (asked_of request) (IsTextOf told_text JoinsSections) old new c c' decision
  pub listed : decision ≡ decided.Outside which.List → is_of_policy request ≡ true
