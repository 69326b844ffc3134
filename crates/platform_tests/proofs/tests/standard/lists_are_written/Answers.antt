use Rattle.std.proofs.Common.{arith}
use Rattle.std.specs.List.{IsDistinct}
use Rattle.std_lang.specs.Documents.{list_names}
use Rattle.gen_acltool.specs.Sections.{section_of}
use Rattle.gen_acltool.proofs.ListNumbers.{numbers-apart}
use Rattle.platform_tests.proofs.SampleSections.{both-differ}
use Rattle.platform_tests.proofs.tests.standard.lists_are_written.Goals as goal

pub are_written-requires-clause-differ : goal.are_written-requires-clause-differ
unfolding IsDistinct
are_written-requires-clause-differ g =
    both-differ list_names (section_of 98) g.in_ok-edge.edge g.in_ok-two.two _ _ g.in_ok-edge.ensures.made g.in_ok-two.ensures.made
    ((numbers-apart 98 99 (omega arith) (omega arith) (λ same. absurd (omega (arith, same))), tt), (tt, tt))
