-- Ranges in as many bytes as they are held: for private functions alone.
use Rattle.std.specs.Prelude.{ℕ}
use Rattle.acl_sets.specs.declared.sets.Range.{Range}
use Rattle.acl_sets.specs.declared.spans.ShortRange.{ShortRange}

-- The greatest number of 32 bits.
abbrev pub short_top : ℕ
short_top = 4294967295

-- A range of 128 bits is one already.
abbrev pub same : Range → Range
same r = r

-- The range of longer numbers that a short one is.
abbrev pub wide : ShortRange → Range
wide r = record { low = r.low; high = r.high }
