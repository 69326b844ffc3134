use Rattle.std.proofs.Common.{◌≡◌, [], subst, sym}
use Rattle.acl_memory.specs.MemorySinks.{Written}
use Rattle.acl_memory.proofs.SureLaws.{writes_surely, sure_write, none_next}
use Rattle.acl_memory.proofs.sure_sinks.SureSinkSink.write.Goals as goal

pub returns-clause-writes : goal.returns-clause-writes
returns-clause-writes c =
    writes_surely c.args.self.now _ c.args.bytes.now c.write.result (λ e. none_next _ c.args.self.now.never_fails (c.write.ensures.fails.0 e)) c.write.ensures.writes

pub returns-clause-sure : goal.returns-clause-sure
returns-clause-sure c = λ e. none_next _ c.args.self.now.never_fails (c.write.ensures.fails.0 e)

pub invariant_of-self : goal.invariant_of-self
invariant_of-self c =
    let Sure : Written → Type 0 = λ s. s.writes.failing ≡ [] in
    record { never_fails = subst Sure (sym c.write.ensures.left) (sure_write c.write.result c.args.bytes.now _ c.args.self.now.never_fails) }
