-- The words so far have the bits of both rows, and the others are as they were.
use Rattle.std.proofs.Common.{◌≡◌, ◌⊎◌, ℕ, ◌+◌, ◌<◌, ◌≤◌, length, get_or}
use Rattle.std.specs.Prelude.{bit_and}
use Rattle.acl_shade.proofs.bits.keep.Given as goal

abbrev pub invariant-loop-k : goal.invariant-loop-k
invariant-loop-k l = record {
  size : length l.words ≡ length l.fn.words;
  both : (j : ℕ) → j < l.k → get_or l.words (l.start + j) 0
      ≡ bit_and (get_or l.fn.words (l.start + j) 0) (get_or l.others (l.other_start + j) 0);
  rest : (j : ℕ) → (j < l.start) ⊎ (l.start + l.k ≤ j) → get_or l.words j 0 ≡ get_or l.fn.words j 0;
}
