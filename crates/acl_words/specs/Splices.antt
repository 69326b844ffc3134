-- What a policy is with its included files spliced in, and what is recorded of it.
use Rattle.std.specs.Prelude.{ℕ, ◌+◌, Bool, nat_lt, ◌||◌, List, [], ◌∷◌, ◌++◌}
use Rattle.acl_text.specs.declared.file_lines.Line.{Line}

-- What has been read so far: the labels of the files, in the order in which they were met, the lines that
-- are no include lines, the bytes of all files, and the number of the include lines.
pub record Splice : Type 0 where
  pub labels : List (List ℕ)
  pub lines : List Line
  pub size : ℕ
  pub includes : ℕ

abbrev pub nothing_read : Splice
nothing_read = record { labels = []; lines = []; size = 0; includes = 0 }

-- one more line, of the file of this number
abbrev pub with_line : ℕ → ℕ → List ℕ → Splice → Splice
with_line file n text s = record s {
  lines = s.lines ++ record { place = record { file = file; line = n }; text = text } ∷ [];
}

-- one more file of so many bytes
abbrev pub with_file : List ℕ → ℕ → Splice → Splice
with_file label more s = record s { labels = s.labels ++ label ∷ []; size = s.size + more }

-- one more include line
abbrev pub with_include : Splice → Splice
with_include s = record s { includes = s.includes + 1 }

-- A file of so many bytes is too long, or the splice is with it: past 4 MiB and 16 MiB.
abbrev pub is_long : ℕ → ℕ → Bool
is_long so_far more = nat_lt 4194304 more || nat_lt 16777216 (so_far + more)
