use Rattle.std.proofs.Common.{refl}
use Rattle.ipt_lang.specs.Texts.{default_rows}
use Rattle.ipt_lang.proofs.RowScanLaws.{neither_policy}
use Rattle.ipt_lang.proofs.row_scans.take_policy.Goals as goal

pub returns-in-None : goal.returns-in-None
unfolding default_rows
returns-in-None c = record {
  written = refl;
  none = λ _. neither_policy c.args.hook c.args.text.now c.in_default.ensures c.in-None.ensures;
}
