use Rattle.std.proofs.Common.{◌-◌, length, take, drop, flat_map, refl}
use Rattle.std.proofs.lemmas.Result.{err_from_is_err_and}
use Rattle.acl_text.proofs.Putting.{goes_on, stops}
use Rattle.acl_rows.specs.Rows.{text_of_rows}
use Rattle.acl_rows.proofs.PutLaws.{retold}
use Rattle.acl_platform.proofs.TextFronts.{front-text}
use Rattle.acl_platform.proofs.rule_texts.RuleTextsRows.put_rows.Goals as goal

pub returns-in_err-put_into-in-Some : goal.returns-in_err-put_into-in-Some
returns-in_err-put_into-in-Some g c =
    let self = c.args.self.now in
    let front = c.in-Some.front in
    let rows = g.F.RuleForm.rule_rows self.form in
    let err = err_from_is_err_and c.from_residual.result c.from_residual.ensures.1 in
    rw (err.1, err.2) (retold (front-text rows self.rules.now front.count front.text.bytes.items (self.kept front c.in-Some.is))
    (stops (text_of_rows (flat_map rows (take (length self.rules.now - front.count) (drop front.count self.rules.now)))) c.in_err-put_into-in-Some.ensures refl))

pub returns-in_ok-put_into-in-Some : goal.returns-in_ok-put_into-in-Some
returns-in_ok-put_into-in-Some g c =
    let self = c.args.self.now in
    let front = c.in-Some.front in
    retold (front-text (g.F.RuleForm.rule_rows self.form) self.rules.now front.count front.text.bytes.items (self.kept front c.in-Some.is))
    (goes_on g.met.O.Out.rest_goes_on c.in_ok-put_into-in-Some.ensures c.put_rules.ensures)
