use Rattle.std.proofs.Common.{◌+◌, ◌-◌, sym}
use Rattle.std.proofs.lemmas.List.FromFn.{length-range_with_len}
use Rattle.acl_platform.proofs.numbers.range_size.Goals as goal

pub returns : goal.returns
returns c = let r = c.args.range.now in sym (length-range_with_len r.low (r.high + 1 - r.low))
