use Rattle.std.proofs.Common.{◌++◌, flat_map, refl, ap, sym, ◌∙◌}
use Rattle.acl_rows.specs.Rows.{text_of_rows}
use Rattle.ipt_lang.specs.declared.documents.Chain.{Chain}
use Rattle.ipt_lang.specs.ScanSteps.{name_rows}
use Rattle.ipt_lang.specs.Texts.{remark_rows, rule_rows}
use Rattle.ipt_lang.proofs.ChainScanLaws.{chain_text, name_passed, remarks_passed, ruled_text, rules_passed}
use Rattle.ipt_lang.proofs.RowScanLaws.{jump_rows}
use Rattle.ipt_lang.proofs.chain_scans.take_chain.Goals as goal

pub returns-in_default : goal.returns-in_default
returns-in_default c =
    let target = c.args.target.now in
    let noted = c.behind_remarks.ensures in
    (λ x more h e. c.in_default.ensures x.name (ruled_text target.hook target.family x more) h.named
    (remarks_passed target.hook target.family c.args.text.now noted.0 c.behind_remarks.result.now noted.1 x more h e).1)

pub returns-in-None : goal.returns-in-None
returns-in-None c =
    let hook = c.args.target.now.hook in
    let family = c.args.target.now.family in
    let noted = c.behind_remarks.ensures in
    let head = c.in-Some.head in
    let rules = c.in_ok-rules.ensures in
    (λ x more h e.
    let p = remarks_passed hook family c.args.text.now noted.0 c.behind_remarks.result.now noted.1 x more h e in
    let q = name_passed hook family head.item.now head.rest.now c.in-Some.ensures.0 x more h (sym c.in-Some.ensures.1 ∙ p.1) in
    let r = rules_passed hook family head.item.now head.rest.now rules.0 c.in_ok-rules.rules.rest.now rules.1.front x more h q.0 q.1 in
    c.in-None.ensures.none more (r.1 ∙ ap (λ n. text_of_rows (jump_rows hook n) ++ more) (sym q.0)))

pub returns-in-Some-rows_behind : goal.returns-in-Some-rows_behind
returns-in-Some-rows_behind c =
    let hook = c.args.target.now.hook in
    let family = c.args.target.now.family in
    let noted = c.behind_remarks.ensures in
    let name = c.in-Some.head.item.now in
    let rules = c.in_ok-rules.ensures in
    let chain : Chain = record { remarks = noted.0; name = name; rules = rules.0 } in
    let rest = c.in-Some-rows_behind.rest.now in (
      chain,
      record {
        valid = record { remarks = noted.1.valid; named = c.in-Some.ensures.0; rules = rules.1.front.valid };
        written = noted.1.written ∙ ap (λ t. text_of_rows (flat_map remark_rows noted.0) ++ t) (c.in-Some.ensures.1
            ∙ ap (λ t. text_of_rows (name_rows hook name) ++ t) (rules.1.front.written
            ∙ ap (λ t. text_of_rows (flat_map (rule_rows hook family name) rules.0) ++ t) c.in-Some-rows_behind.ensures.some))
            ∙ sym (chain_text hook family chain rest);
        named = refl;
        walked = rules.1.walked;
      },
    )
