use Rattle.std.proofs.Common.{◌<◌, ◌≤◌, ℕ, List, take, ap, ◌∙◌, arith}
use Rattle.std.proofs.lemmas.List.{take-take}
use Rattle.acl_naming.specs.Fronts.{shown}
use Rattle.acl_naming.proofs.LaneLaws.{named_front}
use Rattle.acl_naming.proofs.name_texts.ShortName.read_front.Goals as goal

pub returns : goal.returns
returns c =
    let text = c.text-text.result.now in
    let word = shown c.args.word in
    let size = c.len-size.result in
    let run = c.name_run.result in
    let some : 0 < size = omega (arith, c.if-size-eq0.false) in
    let few : size ≤ run = omega (arith, c.if-size-name_run.false) in
    let small : size ≤ 30 = omega (arith, few, c.name_run.ensures.0) in (
      ap (λ (t : List ℕ). take size t) c.in_ok-bytes.ensures.cases.same ∙ take-take size 30 text small
          ∙ ap (λ (n : ℕ). take n text) c.len-size.ensures ∙ c.text-text.ensures,
      named_front text word size run c.len-size.ensures c.text-text.ensures some few c.name_run.ensures.0 c.name_run.ensures.1,
    )
