use Rattle.std.proofs.Common.{length}
use Rattle.acl_text.specs.Cuts.{views}
use Rattle.junos_lang.specs.ScanSteps.{HasTaken}
use Rattle.junos_lang.proofs.terms_taking.take_terms.Given as goal

abbrev pub invariant-loop-names : goal.invariant-loop-names
invariant-loop-names l = HasTaken l.fn.family l.fn.text l.packet (views l.names.items) l.decided l.rest

abbrev pub decreases-loop-names : goal.decreases-loop-names
decreases-loop-names l = length l.rest
