use Rattle.std.proofs.Common.{Some, refl}
use Rattle.acl_options.specs.CodeViews.{inputs_view}
use Rattle.acl_run.proofs.DecidingLaws.{asked-for}
use Rattle.acl_run.proofs.FaultCounts.{fault-alone, planned-alone}
use Rattle.aclcheck_core.proofs.DecidedChecks.{policy-fault, policy-planned}
use Rattle.aclcheck_core.proofs.deciding.decide_policy.Goals as goal

pub returns-in-Ok-answer_policy-clause-decides : goal.returns-in-Ok-answer_policy-clause-decides
returns-in-Ok-answer_policy-clause-decides g c =
    let looks = c.answer_policy.ensures.looks.only in
    let inputs = inputs_view c.args.inputs.now in
    record {
      decides = record {
        seen = record {
          files_stay = looks.looks.files_stay;
          begun_stays = looks.looks.begun_stays;
          faults_stay = looks.looks.faults_stay;
          refusals_stay = looks.looks.refusals_stay;
          lists_grow = looks.lists_grow;
          reads_grow = looks.reads_grow;
        };
        asked = asked-for _ inputs.date _ _ _ refl c.in-Ok.ensures;
        so = policy-planned inputs c.args.packet.now c.in-Ok.today c.in-Ok-answer_policy.text _ _ c.requires c.in-Ok.ensures.gives c.in-Ok-answer_policy.ensures.makes;
      };
      listed = λ is. refl;
    }

pub returns-in-Err-clause-decides : goal.returns-in-Err-clause-decides
returns-in-Err-clause-decides g c =
    let looks = c.answer_policy.ensures.looks in
    let inputs = inputs_view c.args.inputs.now in
    record {
      decides = record {
        seen = record {
          files_stay = looks.only.looks.files_stay;
          begun_stays = looks.only.looks.begun_stays;
          faults_stay = looks.only.looks.faults_stay;
          refusals_stay = looks.only.looks.refusals_stay;
          lists_grow = looks.only.lists_grow;
          reads_grow = looks.only.reads_grow;
        };
        asked = asked-for _ inputs.date _ _ _ refl c.in-Ok.ensures;
        so = policy-fault inputs c.args.packet.now c.in-Ok.today _ _ _ _ c.in-Err.fault _ c.in-Ok.ensures.gives
            c.in-Err.ensures.makes c.in-Err.ensures.looks.list_failed c.in-Err.ensures.looks.read_failed
            c.decision_on.ensures;
      };
      listed = λ is. refl;
    }

pub returns-in-Ok-answer_policy-clause-alone : goal.returns-in-Ok-answer_policy-clause-alone
returns-in-Ok-answer_policy-clause-alone g c =
    let looks = c.in-Ok-answer_policy.ensures.looks in
    planned-alone (Some c.in-Ok-answer_policy.text) _ _ _ _ (looks.lists_stay refl) (looks.reads_stay refl) looks.only.looks.faults_stay c.in-Ok.ensures.faults_stay

pub returns-in-Err-clause-alone : goal.returns-in-Err-clause-alone
returns-in-Err-clause-alone g c =
    let looks = c.in-Err.ensures.looks in
    fault-alone _ _ _ _ c.in-Err.fault _ looks.lists_stay looks.reads_stay looks.only.looks.faults_stay c.in-Ok.ensures.faults_stay
    c.decision_on.ensures
