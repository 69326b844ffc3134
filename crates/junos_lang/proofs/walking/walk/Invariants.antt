use Rattle.std.proofs.Common.{◌≡◌, drop}
use Rattle.junos_lang.specs.Walks.{walk}
use Rattle.junos_lang.proofs.walking.walk.Given as goal

abbrev pub invariant-loop-term : goal.invariant-loop-term
invariant-loop-term l = walk (drop l.term-index l.terms) l.packet ≡ walk l.terms l.packet
