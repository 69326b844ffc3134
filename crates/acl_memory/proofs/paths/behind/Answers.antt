use Rattle.std.proofs.Common.{sym}
use Rattle.acl_memory.proofs.Prefixes.{behind-some, behind-empty, behind-none}
use Rattle.acl_memory.proofs.paths.behind.Goals as goal
use Rattle.acl_memory.proofs.paths.behind.Goals.{in_default-via-in-Some+else-not-is_empty, in_default-via-in_default}

pub returns-in-Some : goal.returns-in-Some
returns-in-Some c =
    let h = c.in-Some.ensures.cases in
    behind-some c.args.prefix.now c.args.path.now c.in-Some.rest.now h.0 h.1.0 h.1.1 h.2 h.3
    (sym c.if-not-is_empty.ensures)

pub returns-in_default : goal.returns-in_default
returns-in_default c = elim c.in_default.branch [
  | in_default-via-in-Some+else-not-is_empty w ↦
      let h = w.in-Some.ensures.cases in
      behind-empty c.args.prefix.now c.args.path.now w.in-Some.rest.now h.0 h.1.0 h.3
      (sym w.if-not-is_empty.ensures)
  | in_default-via-in_default w ↦ behind-none c.args.prefix.now c.args.path.now
      w.in_default.ensures.cases
]
