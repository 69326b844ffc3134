use Rattle.std.proofs.Common.{◌≡◌, ◌+◌, ◌*◌, length, IfSome}
use Rattle.std.specs.List.{AllByRecursion}
use Rattle.acl_text.specs.Cursors.{lines_of}
use Rattle.acl_words.specs.LineTexts.{HasNoFeed}
use Rattle.acl_words.specs.Labels.{GoesOn}
use Rattle.acl_words.specs.Splicing.{behind_lines, behind_include}
use Rattle.acl_host.specs.Outside.{OnlyReads, members}
use Rattle.acl_words.proofs.splicing.SplicedFile.+includes.Given as goal

-- an include line goes one level down; a line and a file stand on the same level
abbrev pub decreases-include : goal.decreases-include
decreases-include g l = 3 * l.self.now.levels

abbrev pub decreases-meet_line : goal.decreases-meet_line
decreases-meet_line g l = 3 * l.self.now.levels + 1

abbrev pub decreases-add : goal.decreases-add
decreases-add g l = 3 * l.self.now.levels + 2

abbrev pub invariant-add-loop-text : goal.invariant-add-loop-text
invariant-add-loop-text g l = record {
  reads : OnlyReads (members g.T.Out g.T.Tree.files g.T.Tree.begun
      g.T.Tree.list_faults g.T.Tree.read_faults) l.fn.tree l.tree;
  none_failed : g.T.Tree.read_faults l.tree ≡ g.T.Tree.read_faults l.fn.tree;
  read_on : GoesOn l.initial.sources l.sources;
  place : l.cursor.file ≡ l.file;
  no_feeds : AllByRecursion HasNoFeed l.cursor.lines;
  goes_on : IfSome (g.T.Tree.files l.fn.tree) (λ fs.
      behind_lines (behind_include l.self.levels fs l.self.folder.now) l.self.label.now l.file
      (l.cursor.line + 1) l.cursor.lines l.sources
      ≡ behind_lines (behind_include l.self.levels fs l.self.folder.now) l.self.label.now l.file 1
      (lines_of l.bytes) l.initial.sources);
}

abbrev pub decreases-add-loop-text : goal.decreases-add-loop-text
decreases-add-loop-text g l = length l.cursor.lines
