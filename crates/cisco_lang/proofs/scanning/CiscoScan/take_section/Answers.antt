use Rattle.acl_text.specs.Cuts.{views}
use Rattle.cisco_lang.proofs.SectionScanLaws.{no_heading, no_lists, section_taken}
use Rattle.cisco_lang.proofs.scanning.CiscoScan.take_section.Goals as goal

pub returns-in_default : goal.returns-in_default
returns-in_default c =
    let names = views c.args.names.now.items in no_heading c.args.packet.now c.args.text.now names c.in_default.ensures

pub returns-in_default-take_lists : goal.returns-in_default-take_lists
returns-in_default-take_lists c =
    let names = views c.args.names.now.items in
    let heading = c.in-Some.heading in
    no_lists heading.name.now heading.families c.args.packet.now c.args.text.now heading.rest.now names c.in-Some.ensures c.in_default-take_lists.ensures

pub returns : goal.returns
returns c =
    let heading = c.in-Some.heading in
    section_taken heading.name.now heading.families c.args.packet.now c.args.text.now heading.rest.now (views c.args.names.now.items)
    (views c.push_names.new.names.items) c.in-Some-take_lists.lists c.in-Some.ensures c.in-Some-take_lists.ensures c.in_ok-push_names.ensures
