use Rattle.std.specs.Prelude.{◌≡◌, length}
use Rattle.acl_words.specs.Folders.{folder_of}
use Rattle.acl_words.proofs.folders.folder_of.Given as goal

abbrev pub invariant-loop-front : goal.invariant-loop-front
invariant-loop-front l = folder_of l.front ≡ folder_of l.path

abbrev pub decreases-loop-front : goal.decreases-loop-front
decreases-loop-front l = length l.front
