use Rattle.std.proofs.Common.{Some, refl}
use Rattle.acl_options.specs.CodeViews.{section_view}
use Rattle.acl_run.proofs.FaultCounts.{fault-alone, planned-alone}
use Rattle.aclcheck_core.proofs.DecidedChecks.{not-listed, section-fault, section-planned, unasked}
use Rattle.aclcheck_core.proofs.deciding.decide_section.Goals as goal

pub returns-in-Ok-clause-decides : goal.returns-in-Ok-clause-decides
returns-in-Ok-clause-decides g c = λ clock.
    let looks = c.answer_section.ensures.looks.only in
    record {
      decides = record {
        seen = record {
          files_stay = looks.looks.files_stay;
          begun_stays = looks.looks.begun_stays;
          faults_stay = looks.looks.faults_stay;
          refusals_stay = looks.looks.refusals_stay;
          lists_grow = looks.lists_grow;
          reads_grow = looks.reads_grow;
        };
        asked = unasked clock;
        so = section-planned (section_view c.args.at.now) c.args.packet.now c.in-Ok.text _ clock c.in-Ok.ensures.makes;
      };
      listed = λ is. absurd cc;
    }

pub returns-in-Err-clause-decides : goal.returns-in-Err-clause-decides
returns-in-Err-clause-decides g c = λ clock.
    let looks = c.answer_section.ensures.looks in
    record {
      decides = record {
        seen = record {
          files_stay = looks.only.looks.files_stay;
          begun_stays = looks.only.looks.begun_stays;
          faults_stay = looks.only.looks.faults_stay;
          refusals_stay = looks.only.looks.refusals_stay;
          lists_grow = looks.only.lists_grow;
          reads_grow = looks.only.reads_grow;
        };
        asked = unasked clock;
        so = section-fault (section_view c.args.at.now) c.args.packet.now _ _ clock c.in-Err.fault _ c.in-Err.ensures.makes
            c.in-Err.ensures.looks.list_failed c.in-Err.ensures.looks.read_failed c.decision_on.ensures;
      };
      listed = λ is. absurd (not-listed c.in-Err.fault _ c.in-Err.ensures.unlisted c.decision_on.ensures is);
    }

pub returns-in-Ok-clause-alone : goal.returns-in-Ok-clause-alone
returns-in-Ok-clause-alone g c = λ clock.
    let looks = c.in-Ok.ensures.looks in
    planned-alone (Some c.in-Ok.text) _ _ _ _ (looks.lists_stay refl) (looks.reads_stay refl) looks.only.looks.faults_stay refl

pub returns-in-Err-clause-alone : goal.returns-in-Err-clause-alone
returns-in-Err-clause-alone g c = λ clock.
    let looks = c.in-Err.ensures.looks in
    fault-alone _ _ _ _ c.in-Err.fault _ looks.lists_stay looks.reads_stay looks.only.looks.faults_stay refl c.decision_on.ensures
