use Rattle.std.proofs.Common.{◌∙◌, arith, refl}
use Rattle.acl_run.proofs.FaultCounts.{reported-alone}
use Rattle.aclgen_core.proofs.FaultCounts.{wanting-alone, writing-alone}
use Rattle.aclgen_core.proofs.ReportedFiles.{reported}
use Rattle.aclgen_core.proofs.acting.carry_out.Goals as goal

pub returns-in-Ok-clause-acts : goal.returns-in-Ok-clause-acts
returns-in-Ok-clause-acts g c =
    let w = rw c.as_slice.ensures.value at c.in-Ok.ensures in
    let r = rw (c.as_slice-in-Ok.ensures, c.outside_line.ensures) at c.report_on.ensures in
    reported c.args.work.now _ _ _ _ _ _ _ (w.ended ∙ c.requires.begun)
    (record {
      lists = omega (arith, w.counts.lists_stay);
      reads = omega (arith, w.counts.reads_stay);
      writes = w.counts.faults_grow;
      refusals = w.counts.refusals_grow;
    }) w.ok r

pub returns-in-Ok-clause-alone : goal.returns-in-Ok-clause-alone
returns-in-Ok-clause-alone g c =
    let w = c.in-Ok.ensures.counts in
    reported-alone _ _ _ _ _ _ _ _ _ w.lists_stay w.reads_stay (w.faults_stay refl) c.report_on.ensures.so

pub returns-in-Err-Failed-clause-alone : goal.returns-in-Err-Failed-clause-alone
returns-in-Err-Failed-clause-alone g c =
    let w = c.in-Err-Failed.ensures.counts in
    writing-alone _ _ _ _ _ _ w.lists_stay w.reads_stay c.tell_outside.ensures.ending

pub returns-in-Err-Memory-clause-alone : goal.returns-in-Err-Memory-clause-alone
returns-in-Err-Memory-clause-alone g c =
    let w = rw c.in-Err-Memory.field-0-is at c.in-Err-Memory.ensures in
    wanting-alone _ _ _ _ w.counts.lists_stay w.counts.reads_stay (w.counts.faults_stay refl)
