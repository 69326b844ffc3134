use Rattle.std.proofs.Common.{refl, ap, subst, ◌∙◌}
use Rattle.acl_text.specs.Cuts.{views}
use Rattle.junos_lang.specs.ScanSteps.{TakesFilter}
use Rattle.junos_lang.proofs.FilterTakingLaws.{section_taken}
use Rattle.junos_lang.proofs.TermsTakingLaws.{one_view_more}
use Rattle.junos_lang.proofs.scanning.JunosScan.take_section.Goals as goal

pub returns : goal.returns
returns c =
    let text = c.args.text.now in
    let p = c.args.packet.now in
    let before = c.args.names.now.items in
    let u = c.in-Some.taken in
    section_taken text p (views before) (views c.push.new.self.items) u (record { outcome = u.outcome; rest = u.rest })
    (subst (TakesFilter text p) c.in-Some.is c.in_ok-taken.ensures)
    (ap views c.in_ok-push.ensures.items ∙ one_view_more before u.name) refl refl
