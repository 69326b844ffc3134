use Rattle.std.proofs.Common.{◌∙◌, sym}
use Rattle.acl_run.proofs.Rows.{fault-keeps, memory-keeps, outside-keeps, usage-keeps}
use Rattle.aclgen_core.proofs.Rows.{compiled, planned-keeps, rows}
use Rattle.aclgen_core.proofs.running.aclgen.Goals as goal

pub returns-in-Usage : goal.returns-in-Usage
returns-in-Usage g c =
    compiled _ _ _ _ (sym c.read_workload.ensures.exact ∙ c.in_default.is)
    (usage-keeps _ _ _ _ _ _ _ _ _ _ _ _ (rows _ _ _) c.requires c.in-Usage.ensures.decides.seen c.in-Usage.ensures.decides.asked c.in-Usage.ensures.alone
    c.in-Usage.ensures.decides.so (c.as_bytes.ensures.value ∙ c.usage_line.ensures) c.refuse.ensures)

pub returns-in-Refused : goal.returns-in-Refused
returns-in-Refused g c =
    compiled _ _ _ _ (sym c.read_workload.ensures.exact ∙ c.in_default.is)
    (fault-keeps _ _ _ _ _ _ _ _ _ _ _ _ _ (rows _ _ _) c.requires c.in-Refused.ensures.decides.seen c.in-Refused.ensures.decides.asked c.in-Refused.ensures.alone
    c.in-Refused.ensures.decides.so (rw (← c.as_slice.ensures) c.refuse-in-Refused.ensures))

pub returns-in-Planned : goal.returns-in-Planned
returns-in-Planned g c =
    compiled _ _ _ _ (sym c.read_workload.ensures.exact ∙ c.in_default.is)
    (planned-keeps _ _ _ _ _ _ _ _ _ _ _ _ c.in-Planned.ensures.decides.seen c.in-Planned.ensures.decides.asked c.in-Planned.ensures.alone c.in-Planned.ensures.decides.so
    c.carry_out-ended.ensures.acts c.carry_out-ended.ensures.alone)

pub returns-in-Outside : goal.returns-in-Outside
returns-in-Outside g c =
    compiled _ _ _ _ (sym c.read_workload.ensures.exact ∙ c.in_default.is)
    (outside-keeps _ _ _ _ _ _ _ _ _ _ _ _ (rows _ _ _) c.requires c.in-Outside.ensures.decides.seen c.in-Outside.ensures.decides.asked c.in-Outside.ensures.alone
    c.in-Outside.ensures.decides.so.0 c.in-Outside.ensures.decides.so.1 (rw c.outside_line.ensures at c.tell_outside.ensures.told) c.tell_outside.ensures.ending)

pub returns-in-Memory : goal.returns-in-Memory
returns-in-Memory g c =
    compiled _ _ _ _ (sym c.read_workload.ensures.exact ∙ c.in_default.is)
    (memory-keeps _ _ _ _ _ _ _ _ _ (rows _ _ _) c.requires c.in-Memory.ensures.decides.seen c.in-Memory.ensures.decides.asked c.in-Memory.ensures.alone)
