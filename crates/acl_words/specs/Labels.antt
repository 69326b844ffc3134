-- The labels of the files from which a policy is read.
use Rattle.std.specs.Prelude.{ℕ, ◌<◌, ◌≤◌, List, length, slice_get, IsSome}
use Rattle.std.specs.List.{All}
use Rattle.acl_text.specs.declared.faults.Place.{Place}
use Rattle.acl_words.specs.Splices.{Splice}

-- The file of the place has a label.
abbrev pub HasLabel : List (List ℕ) → Place → Type 0
HasLabel labels place = IsSome (slice_get labels place.file)

-- File 0, the policy, has a label, and so has the file of each line.
pub record IsLabelled (s : Splice) : Type 0 where
  pub policy : IsSome (slice_get s.labels 0)
  pub lines_are : All (λ l. HasLabel s.labels l.place) s.lines

-- The files of the lines are among those that have been met so far.
abbrev pub AreOfFiles : Splice → Type 0
AreOfFiles s = All (λ l. l.place.file < length s.labels) s.lines

-- What was read goes on: no label is lost, and the files of the lines are among those that have been met.
pub record GoesOn (old new : Splice) : Type 0 where
  pub labels_stay : length old.labels ≤ length new.labels
  pub files_are : AreOfFiles new
