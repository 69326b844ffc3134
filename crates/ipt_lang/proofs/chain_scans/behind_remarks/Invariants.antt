use Rattle.std.proofs.Common.{List, ℕ, length}
use Rattle.ipt_lang.specs.Documents.{IsRemark}
use Rattle.ipt_lang.specs.Texts.{remark_rows}
use Rattle.ipt_lang.proofs.FirstRowLaws.{Passed}
use Rattle.ipt_lang.proofs.chain_scans.behind_remarks.Given as goal

abbrev pub invariant-loop-remark : goal.invariant-loop-remark
invariant-loop-remark l = (remarks : List (List ℕ)) × Passed IsRemark remark_rows l.fn.text remarks l.rest

abbrev pub decreases-loop-remark : goal.decreases-loop-remark
decreases-loop-remark l = length l.rest
