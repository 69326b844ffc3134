use Rattle.std.proofs.Common.{refl}
use Rattle.std.specs.List.{IsDistinct}
use Rattle.ipt_lang.specs.Documents.{hook_names}
use Rattle.gen_iptables.specs.Sections.{section_of}
use Rattle.platform_tests.proofs.SampleSections.{both-differ}
use Rattle.platform_tests.proofs.tests.speedway.chains_are_written.Goals as goal

pub are_written-requires-clause-differ : goal.are_written-requires-clause-differ
unfolding IsDistinct
are_written-requires-clause-differ g =
    both-differ hook_names section_of g.in_ok-own.own g.in_ok-other.other _ _ g.in_ok-own.ensures.made g.in_ok-other.ensures.made
    ((refl, tt), (tt, tt))
