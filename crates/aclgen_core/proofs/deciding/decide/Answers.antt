use Rattle.std.proofs.Common.{◌≡◌, ◌∙◌, ℕ, List, Option, Some, not, is_some, ap, option_map, refl, sym, subst}
use Rattle.acl_options.specs.CodeViews.{options_view}
use Rattle.acl_options.specs.CommandLines.{Options}
use Rattle.acl_options.specs.ComputableOptions.{asks_clock, asks_clock_for, options_of}
use Rattle.acl_job.specs.Job.{IsJobOf, Plans}
use Rattle.acl_job.specs.Works.{IsReady}
use Rattle.acl_run.proofs.DecidingLaws.{IsJobFor, asked-for, decides-fault, decides-planned}
use Rattle.acl_run.proofs.FaultCounts.{fault-alone, planned-alone}
use Rattle.aclgen_core.specs.Endings.{asked}
use Rattle.aclgen_core.proofs.deciding.decide.Goals as goal

asks-as : (words : List (List ℕ)) (o : Options) → options_of words ≡ Some o → not (is_some o.date) ≡ asks_clock words
asks-as words o e = sym (ap asks_clock_for e)

-- What is planned for the day of the options is the job of the words.
planned-job : (words : List (List ℕ)) (o : Options) → options_of words ≡ Some o → IsJobFor (asked words) o.date (Plans o)
planned-job words o e = λ day files answer plans. subst (λ (w : Option Options). IsJobOf w day files (Some answer)) (sym e) plans

pub returns-in-Ok-make_work-clause-decides : goal.returns-in-Ok-make_work-clause-decides
returns-in-Ok-make_work-clause-decides g c =
    let looks = c.make_work.ensures.looks.only in
    let options = options_view c.in-Ok-Some.options in
    let is = sym c.in-Ok-Some.ensures.exact ∙ ap (option_map options_view) c.in-Ok-Some.field-0-is in
    record {
      seen = record {
        files_stay = looks.looks.files_stay;
        begun_stays = looks.looks.begun_stays;
        faults_stay = looks.looks.faults_stay;
        refusals_stay = looks.looks.refusals_stay;
        lists_grow = looks.lists_grow;
        reads_grow = looks.reads_grow;
      };
      asked = asked-for _ options.date _ _ _ (asks-as _ options is) c.in-Ok.ensures;
      so = decides-planned (asked _) IsReady (Plans options) options options.date c.in-Ok.today c.in-Ok-make_work.work _ _ is (asks-as _ options is)
          (planned-job _ options is) c.in-Ok.ensures.gives c.in-Ok-make_work.ensures.makes.0;
    }

pub returns-in-Err-make_work-clause-decides : goal.returns-in-Err-make_work-clause-decides
returns-in-Err-make_work-clause-decides g c =
    let looks = c.make_work.ensures.looks in
    let options = options_view c.in-Ok-Some.options in
    let is = sym c.in-Ok-Some.ensures.exact ∙ ap (option_map options_view) c.in-Ok-Some.field-0-is in
    record {
      seen = record {
        files_stay = looks.only.looks.files_stay;
        begun_stays = looks.only.looks.begun_stays;
        faults_stay = looks.only.looks.faults_stay;
        refusals_stay = looks.only.looks.refusals_stay;
        lists_grow = looks.only.lists_grow;
        reads_grow = looks.only.reads_grow;
      };
      asked = asked-for _ options.date _ _ _ (asks-as _ options is) c.in-Ok.ensures;
      so = decides-fault (asked _) IsReady (Plans options) options options.date c.in-Ok.today _ _ _ _ c.in-Err-make_work.fault _ is (asks-as _ options is)
          (planned-job _ options is) c.in-Ok.ensures.gives c.in-Err-make_work.ensures.makes c.in-Err-make_work.ensures.looks.list_failed
          c.in-Err-make_work.ensures.looks.read_failed c.decision_on.ensures;
    }

pub returns-in-Ok-make_work-clause-alone : goal.returns-in-Ok-make_work-clause-alone
returns-in-Ok-make_work-clause-alone g c =
    let looks = c.in-Ok-make_work.ensures.looks in
    planned-alone c.in-Ok-make_work.work _ _ _ _ (looks.lists_stay refl) (looks.reads_stay refl) looks.only.looks.faults_stay c.in-Ok.ensures.faults_stay

pub returns-in-Err-make_work-clause-alone : goal.returns-in-Err-make_work-clause-alone
returns-in-Err-make_work-clause-alone g c =
    let looks = c.in-Err-make_work.ensures.looks in
    fault-alone _ _ _ _ c.in-Err-make_work.fault _ looks.lists_stay looks.reads_stay looks.only.looks.faults_stay c.in-Ok.ensures.faults_stay c.decision_on.ensures
