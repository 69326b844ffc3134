use Rattle.acl_load.proofs.DefinitionsThere.{loads-there}
use Rattle.acl_load.proofs.laws.definitions_are_there.Goals as goal

pub returns : goal.returns
returns c = loads-there
