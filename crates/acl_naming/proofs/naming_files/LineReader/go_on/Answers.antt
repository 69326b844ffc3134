use Rattle.std.proofs.Common.{◌≤◌, Bool, ◌∷◌, drop, length, ap, ◌∙◌, arith}
use Rattle.std.specs.List.{slice_range}
use Rattle.acl_text.specs.declared.faults.Code.TheVariants as codes
use Rattle.acl_text.specs.Cursors.{words_of}
use Rattle.acl_text.proofs.CursorLaws.{words_next, words_none}
use Rattle.acl_text.specs.Refusals.{slip}
use Rattle.acl_naming.specs.NamingFiles.{with_items}
use Rattle.acl_naming.proofs.ReadLaws.{refuses_slip}
use Rattle.acl_naming.proofs.naming_files.LineReader.go_on.Goals as goal

pub returns-in-None-clause-gives : goal.returns-in-None-clause-gives
returns-in-None-clause-gives c =
    ap (with_items c.args.self.kind c.args.self.place c.args.is_open c.args.table.now) (words_none c.args.text.now 0 c.in-None.ensures.exact)

pub returns-in-Some-clause-gives : goal.returns-in-Some-clause-gives
returns-in-Some-clause-gives c =
    let text = c.args.text.now in
    let word = slice_range text c.in-Some.start c.in-Some.end in
    let fits : 0 ≤ length text = omega arith in
    let n = words_next text 0 c.in-Some.start c.in-Some.end fits c.in-Some.ensures.exact in
    refuses_slip (slip codes.NoDefinition c.args.self.place word) c.refusal.result
    (with_items c.args.self.kind c.args.self.place c.args.is_open c.args.table.now (words_of text)) c.refusal.ensures
    (ap (with_items c.args.self.kind c.args.self.place c.args.is_open c.args.table.now) n.2
    ∙ ap (λ (b : Bool). with_items c.args.self.kind c.args.self.place b c.args.table.now (word ∷ words_of (drop c.in-Some.end text))) c.if-is_open.false)
