use Rattle.std.proofs.Common.{◌≡◌, ◌∙◌, Some, ap, map, option_map, sym}
use Rattle.std.specs.String.{string_bytes}
use Rattle.acl_options.specs.CheckCommands.{AskText}
use Rattle.acl_options.specs.CodeViews.{check_view, section_view}
use Rattle.acl_options.specs.ComputableChecks.{check_request_of}
use Rattle.acl_run.specs.Worlds.{watch}
use Rattle.aclcheck_core.proofs.DecidedChecks.{of-question}
use Rattle.aclcheck_core.proofs.deciding.decide.Goals as goal

pub returns-in-Ok-Some-Text-clause-decides : goal.returns-in-Ok-Some-Text-clause-decides
returns-in-Ok-Some-Text-clause-decides g c =
    let clock = watch g.C.Clock c.args.clock.now in
    let at = section_view c.in-Ok-Some-Text.at in
    let is : check_request_of (map string_bytes c.args.words.now) ≡ Some (AskText at c.in-Ok-Some-Text.packet) =
    sym c.in-Ok-Some-Text.ensures.exact ∙ ap (option_map check_view) c.in-Ok-Some-Text.field-0-is
    ∙ ap (λ command. Some (check_view command)) c.in-Ok-Some-Text.field-0-0-is in
    of-question _ (Some (AskText at c.in-Ok-Some-Text.packet)) _ _ clock clock _ is (c.decide_section.ensures.decides clock)
