-- The splice: the lines of the file that an include line names stand in its place, or it is the first fault.
use Prim.Native.Nat.{zero, suc}
use Rattle.std.specs.Prelude.{ℕ, ◌+◌, nat_le, if◌then◌else◌, List, [], ◌∷◌, ◌++◌, length, Result, Ok, Err}
use Rattle.acl_text.specs.declared.faults.Code.TheVariants.{TooLong, NoFile, IncludeDepth, IncludePath, IncludeCount}
use Rattle.acl_text.specs.declared.faults.Fault.{Fault}
use Rattle.acl_text.specs.Refusals.{fault}
use Rattle.acl_host.specs.Files.{File, file_at}
use Rattle.acl_text.specs.Steps.{◌>>=◌, or_err}
use Rattle.acl_text.specs.Cursors.{lines_of}
use Rattle.acl_words.specs.Folders.{folder_of}
use Rattle.acl_words.specs.IncludeLines.{Asked, Nothing, Wrong, Wanted, asked_in}
use Rattle.acl_words.specs.Splices.{Splice, nothing_read, with_line, with_file, with_include, is_long}

-- What is read behind an include line: from the label of its file, its line, its path, and what was read so far.
abbrev pub Include : Type 0
Include = List ℕ → ℕ → List ℕ → Splice → Result Splice Fault

-- A line stands in the splice, or it is an include line; one without a good path is at fault at once.
abbrev pub behind_line : Include → List ℕ → ℕ → ℕ → List ℕ → Asked → Splice → Result Splice Fault
behind_line include label file n text Nothing s = Ok (with_line file n text s)
behind_line include label file n text (Wrong path) s = Err (fault IncludePath label n path)
behind_line include label file n text (Wanted path) s = include label n path s

-- the lines of a file from the n-th on
abbrev pub behind_lines : Include → List ℕ → ℕ → ℕ → List (List ℕ) → Splice → Result Splice Fault
behind_lines include label file n [] s = Ok s
behind_lines include label file n (text ∷ texts) s =
    behind_line include label file n text (asked_in text) s
    >>= behind_lines include label file (n + 1) texts

-- A file that is read: its number is the number of the labels before it, and its lines count from 1.
abbrev pub behind_file : Include → List ℕ → List ℕ → Splice → Result Splice Fault
behind_file include label bytes s =
    if is_long s.size (length bytes) then Err (fault TooLong label 0 [])
    else behind_lines include label (length s.labels) 1 (lines_of bytes)
    (with_file label (length bytes) s)

-- An include line where so many levels of files may still stand below, over the files and the policy's folder.
-- The depth is judged first, then the count of the include lines, then whether the file is there.
unfoldable pub behind_include : ℕ → List File → List ℕ → Include
behind_include zero files folder label n path s = Err (fault IncludeDepth label n path)
behind_include (suc levels) files folder label n path s =
    if nat_le 1024 s.includes then Err (fault IncludeCount label n path)
    else (or_err (fault NoFile label n path) (file_at files (folder ++ path))
    >>= λ bytes. behind_file (behind_include levels files folder) (folder ++ path) bytes
    (with_include s))

-- The splice of the policy at the path, or its first fault. Eight levels of files may stand below the policy.
unfoldable pub splice_of : List File → List ℕ → Result Splice Fault
splice_of files path =
    or_err (fault NoFile path 0 []) (file_at files path)
    >>= λ bytes. behind_file (behind_include 8 files (folder_of path)) path bytes nothing_read
