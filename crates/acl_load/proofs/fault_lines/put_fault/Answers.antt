use Rattle.std.proofs.Common.{List, ℕ, not, ◌==◌, map, take, ap, ◌∙◌, subst}
use Rattle.acl_text.specs.Puts.{Puts}
use Rattle.acl_load.specs.FaultLines.{visible}
use Rattle.acl_load.specs.FaultLineSteps.{only_if, space_before}
use Rattle.acl_load.proofs.FaultLineLaws.{parts-are}
use Rattle.acl_load.proofs.fault_lines.put_fault.Goals as goal

pub returns : goal.returns
returns g c =
    let fault = c.args.fault.now in
    let Told : List ℕ → Type 0 = λ text. Puts g.O.Out c.args.out.now c.put_parts.new.out text c.put_parts.result in
    subst Told (parts-are fault _ _ _ _ _ _ c.as_slice-2.ensures c.only_if.ensures
    (c.only_if-2.ensures ∙ ap (only_if (not (fault.line == 0))) (c.as_bytes-number.ensures.value ∙ c.format.ensures.text))
    (c.as_bytes.ensures.value ∙ c.code_text.ensures) (c.space_before.ensures ∙ ap space_before c.as_slice-3.ensures)
    (c.visible_bytes-shown.ensures.shown ∙ ap (map visible) (c.front_of-word.ensures.front ∙ ap (take 64) c.as_slice.ensures)))
    c.put_parts.ensures
