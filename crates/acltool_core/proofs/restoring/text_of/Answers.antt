use Rattle.acltool_core.proofs.RestoredLaws.{names-differ}
use Rattle.acltool_core.proofs.restoring.text_of.Goals as goal

pub write_all-requires-clause-names_differ : goal.write_all-requires-clause-names_differ
write_all-requires-clause-names_differ c = names-differ c.args.filters.now c.requires
