use Rattle.std.proofs.Common.{◌*◌, length, min, ap, sym, ◌∙◌}
use Rattle.acl_text.specs.Output.{COUNT_END}
use Rattle.acl_platform.proofs.PairLaws.{length-pairs, product-min}
use Rattle.acl_platform.proofs.choices.Tuple2Choices.count.Goals as goal

pub returns : goal.returns
returns g c =
    let xs = g.A.Choices.items c.args.self.now.0 in
    let ys = g.B.Choices.items c.args.self.now.1 in
    c.saturating_mul.ensures ∙ ap (λ n. min (n * c.count-2.result) COUNT_END) c.count.ensures
    ∙ ap (λ n. min (min (length xs) COUNT_END * n) COUNT_END) c.count-2.ensures
    ∙ product-min (length xs) (length ys) COUNT_END ∙ ap (λ n. min n COUNT_END) (sym (length-pairs xs ys))
