use Rattle.std.proofs.Common.{◌≡◌, ◌<◌, length}
use Rattle.acl_text.specs.Cursors.{words_of}
use Rattle.acl_naming.specs.Fronts.{shown}
use Rattle.acl_naming.specs.NamingFiles.{items_added}
use Rattle.acl_naming.proofs.naming_files.LineReader.add_items.Given as goal

abbrev pub invariant-loop-word : goal.invariant-loop-word
invariant-loop-word l = record {
  filled : 0 < length l.table;
  goes : items_added l.self.kind l.self.place l.table (words_of (shown l.rest)) ≡ items_added l.self.kind l.self.place l.initial.table (words_of (shown l.text));
}

abbrev pub decreases-loop-word : goal.decreases-loop-word
decreases-loop-word l = length (shown l.rest)
