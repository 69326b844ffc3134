use Rattle.std.proofs.Common.{◌≡◌, Bool, true, false, cond, not, List, ◌∷◌, sym, ap, ◌∙◌}
use Rattle.acl_rows.specs.Rows.{Row}
use Rattle.acl_rows.specs.RowSteps.{row_in, rows_in}
use Rattle.acl_rows.proofs.RowLaws.{first_row}
use Rattle.junos_lang.specs.declared.filters_drafts.FiltersDraft.{FiltersDraft}
use Rattle.junos_lang.specs.ReadingSteps.{take_row}
use Rattle.junos_lang.specs.ScanSteps.{ends_term, read_term}
use Rattle.junos_lang.proofs.term_taking.take_rows.Goals as goal

stopped : (d new : FiltersDraft) (r : Row) (rows : List Row) (b : Bool) → b ≡ not (ends_term r) → b ≡ false
    → new ≡ cond (ends_term r) d (take_row d r) → read_term d (r ∷ rows) ≡ new
stopped d new r rows b e f h = stops (ends_term r) e h where
  stops : (t : Bool) → b ≡ not t → new ≡ cond t d (take_row d r) → cond t d (read_term (take_row d r) rows) ≡ new
  stops true k n = sym n
  stops false k n = cc

pub returns-then-not-branch : goal.returns-then-not-branch
returns-then-not-branch c =
    let draft = c.loop-line.draft in
    let line = c.in-Some.line.now in
    let others = c.in-Some.behind.now in
    let cut = first_row c.loop-line.rest.now line others (sym c.in-Some.ensures) in
    let stop = stopped draft c.take_line.new.draft (row_in line) (rows_in others) c.in_ok-take_line.field-0 c.in_ok-take_line.ensures.taken c.if-not-branch.true c.in_ok-take_line.ensures.draft in
    sym stop ∙ ap (read_term draft) (sym cut) ∙ c.loop-line.invariant
