use Rattle.std.proofs.Common.{[], ◌∷◌, ◌++◌}
use Rattle.ipt_lang.specs.Documents.{IsRemark}
use Rattle.ipt_lang.specs.Texts.{remark_rows}
use Rattle.ipt_lang.proofs.FirstRowLaws.{one_more, row_shorter}
use Rattle.ipt_lang.proofs.chain_scans.behind_remarks.Goals as goal

pub loop-remark-smaller : goal.loop-remark-smaller
unfolding remark_rows
loop-remark-smaller c = row_shorter _ [] c.loop-remark.rest.now c.in-Some.remark.rest.now c.in-Some.ensures.1

pub loop-remark-preserved : goal.loop-remark-preserved
loop-remark-preserved c =
    let so_far = c.loop-remark.invariant in
    let text = c.in-Some.remark.item.now in (
      so_far.0 ++ text ∷ [],
      one_more IsRemark remark_rows _ so_far.0 text c.loop-remark.rest.now c.in-Some.remark.rest.now so_far.1 c.in-Some.ensures.0 c.in-Some.ensures.1,
    )
