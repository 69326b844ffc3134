use Rattle.acl_load.proofs.AnswersThere.{loaded-stands}
use Rattle.acl_load.proofs.laws.loaded_policies_stand.Goals as goal

pub returns : goal.returns
returns c = loaded-stands
