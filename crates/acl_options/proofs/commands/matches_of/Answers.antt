use Rattle.std.proofs.Common.{map}
use Rattle.std.specs.String.{string_bytes}
use Rattle.clap.specs.Words.{app_of, found_of, rows_of}
use Rattle.acl_options.proofs.CommandLineLaws.{not_memory, simple_too, when_refused, when_taken}
use Rattle.acl_options.proofs.commands.matches_of.Goals as goal

pub returns-in-Ok : goal.returns-in-Ok
returns-in-Ok c =
    when_taken (app_of c.args.command) (map string_bytes c.args.words.now) (rows_of (found_of c.in-Ok.matches))
    (c.in-Ok.ensures.kinds c.requires) (c.in-Ok.ensures.matches (simple_too (app_of c.args.command) c.requires)).0

pub returns : goal.returns
returns c =
    when_refused (app_of c.args.command) (map string_bytes c.args.words.now) c.in-Err.error
    (not_memory _ _ c.is_for_memory.ensures c.if-is_for_memory.false) (c.in-Err.ensures.kinds c.requires)
