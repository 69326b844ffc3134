use Rattle.std.proofs.Common.{map}
use Rattle.std.specs.String.{string_bytes}
use Rattle.acl_options.specs.ComputableChecks.{check_request_of}
use Rattle.acl_run.proofs.PrintingLaws.{prints}
use Rattle.aclcheck_core.specs.CheckRuns.{JoinsSections, asked, told_text}
use Rattle.aclcheck_core.specs.FaultLines.{program_name, usage_line}
use Rattle.aclcheck_core.proofs.DecidedChecks.{one}
use Rattle.aclcheck_core.proofs.FinishedListings.{decided-so}
use Rattle.aclcheck_core.proofs.running.aclcheck.Goals as goal

pub returns : goal.returns
returns g c =
    let words = map string_bytes c.args.words.now in
    let laws = c.answers_are_one.ensures in
    record {
      listed = λ is. c.decide-decision.ensures.decides.listed (decided-so program_name usage_line c.decide-decision.result _ _ _ _ c.finish.result c.finish.ensures is);
      prints = prints (asked words) told_text JoinsSections (one laws.policies laws.sections (check_request_of words)) c.decide-decision.result _ _ _ _ _ _ _ _
          c.finish.result c.requires c.decide-decision.ensures.decides.decides c.decide-decision.ensures.alone c.finish.ensures;
    }
