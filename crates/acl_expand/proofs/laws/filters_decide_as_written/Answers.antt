-- The rules decide as the resolved terms do, and those as the written ones.
use Rattle.acl_expand.proofs.DecideLaws.{decides-as-written}
use Rattle.acl_expand.proofs.laws.filters_decide_as_written.Goals as goal

pub returns : goal.returns
returns c = decides-as-written
