-- What is wrong with a policy's files has a code that `aclgen` answers.
use Prim.Native.Nat.{zero, suc}
use Rattle.std.proofs.Common.{ℕ, ◌+◌, nat_le, List, [], ◌∷◌, ◌++◌, length, Result}
use Rattle.acl_text.specs.AnsweredCodes.{FailsAnswered}
use Rattle.acl_text.specs.Cursors.{lines_of}
use Rattle.acl_text.specs.Refusals.{fault}
use Rattle.acl_text.specs.declared.faults.Code.TheVariants.{NoFile}
use Rattle.acl_text.specs.declared.faults.Fault.{Fault}
use Rattle.acl_text.proofs.AnsweredLaws.{either, missing_fails, steps_fail}
use Rattle.acl_host.specs.Files.{File, file_at}
use Rattle.acl_words.specs.Folders.{folder_of}
use Rattle.acl_words.specs.IncludeLines.{Asked, Nothing, Wrong, Wanted, asked_in}
use Rattle.acl_words.specs.Splices.{Splice, nothing_read, with_file, with_include, is_long}
use Rattle.acl_words.specs.Splicing.{Include, behind_file, behind_include, behind_line, behind_lines, splice_of}

abbrev Good : Result Splice Fault → Type 0
Good r = FailsAnswered r

-- What is read behind an include line ends so, whatever the line.
abbrev GoodInclude : Include → Type 0
GoodInclude include = (label : List ℕ) (n : ℕ) (path : List ℕ) (s : Splice) → Good (include label n path s)

line_good : (include : Include) → GoodInclude include → (label : List ℕ) (file n : ℕ) (text : List ℕ) (asked : Asked) (s : Splice)
    → Good (behind_line include label file n text asked s)
line_good include h label file n text Nothing s = tt
line_good include h label file n text (Wrong path) s = tt
line_good include h label file n text (Wanted path) s = h label n path s

lines_good : (include : Include) → GoodInclude include → (label : List ℕ) (file n : ℕ) (texts : List (List ℕ)) (s : Splice)
    → Good (behind_lines include label file n texts s)
lines_good include h label file n [] s = tt
lines_good include h label file n (text ∷ texts) s =
    steps_fail (behind_line include label file n text (asked_in text) s) (behind_lines include label file (n + 1) texts)
    (line_good include h label file n text (asked_in text) s) (λ t. lines_good include h label file (n + 1) texts t)

file_good : (include : Include) → GoodInclude include → (label bytes : List ℕ) (s : Splice) → Good (behind_file include label bytes s)
file_good include h label bytes s = either Good (is_long s.size (length bytes)) _ _ tt
    (lines_good include h label (length s.labels) 1 (lines_of bytes) (with_file label (length bytes) s))

include_good : (levels : ℕ) (files : List File) (folder : List ℕ) → GoodInclude (behind_include levels files folder)
unfolding behind_include
include_good zero files folder label n path s = tt
include_good (suc levels) files folder label n path s = either Good (nat_le 1024 s.includes) _ _ tt
    (steps_fail _ (λ bytes. behind_file (behind_include levels files folder) (folder ++ path) bytes (with_include s))
    (missing_fails (fault NoFile label n path) (file_at files (folder ++ path)) tt)
    (λ bytes. file_good (behind_include levels files folder) (include_good levels files folder) (folder ++ path) bytes (with_include s)))

pub splice_answered : (files : List File) (path : List ℕ) → FailsAnswered (splice_of files path)
unfolding splice_of
splice_answered files path =
    steps_fail _ (λ bytes. behind_file (behind_include 8 files (folder_of path)) path bytes nothing_read)
    (missing_fails (fault NoFile path 0 []) (file_at files path) tt)
    (λ bytes. file_good (behind_include 8 files (folder_of path)) (include_good 8 files (folder_of path)) path bytes nothing_read)
