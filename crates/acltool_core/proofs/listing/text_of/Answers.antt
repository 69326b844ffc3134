use Rattle.acltool_core.proofs.listing.text_of.Goals as goal

pub write_all-requires-clause-names_differ : goal.write_all-requires-clause-names_differ
write_all-requires-clause-names_differ c = c.requires.names_differ

pub write_all-requires-clause-accepted : goal.write_all-requires-clause-accepted
write_all-requires-clause-accepted c = c.requires.accepted
