use Rattle.std.proofs.Common.{◌++◌}
use Rattle.acl_text.proofs.Putting.{done, goes_on}
use Rattle.acl_rows.proofs.PutLaws.{retold}
use Rattle.acl_platform.proofs.TextFronts.{line-split, refused}
use Rattle.acl_platform.proofs.kept_texts.KeptTextPiece.put_into.Goals as goal

pub returns-in_err-put : goal.returns-in_err-put
returns-in_err-put g c =
    let so_far = c.loop-length.invariant in
    let parted = c.split_at in
    refused parted.result.1.now c.from_residual.result
    (line-split so_far.0 c.loop-length.rest.now c.min.result parted.ensures.front parted.ensures.back so_far.1.0)
    g.met.O.Out.rest_goes_on so_far.1.1 c.in_err-put.ensures c.from_residual.ensures.1

pub loop-length-preserved : goal.loop-length-preserved
loop-length-preserved g c =
    let so_far = c.loop-length.invariant in
    let parted = c.split_at in (
      so_far.0 ++ parted.result.0.now,
      (
        line-split so_far.0 c.loop-length.rest.now c.min.result parted.ensures.front parted.ensures.back so_far.1.0,
        goes_on {r = done} g.met.O.Out.rest_goes_on so_far.1.1 c.in_ok-put.ensures,
      ),
    )

pub returns-else-is_empty : goal.returns-else-is_empty
returns-else-is_empty g c =
    let so_far = c.loop-length.invariant in
    retold so_far.1.0 (goes_on g.met.O.Out.rest_goes_on so_far.1.1 c.put-else-is_empty.ensures)
