use Rattle.std.proofs.Common.{◌≡◌, map, take}
use Rattle.std_lang.proofs.validity.numbers_of.Given as goal

abbrev pub invariant-loop-section : goal.invariant-loop-section
invariant-loop-section l = l.numbers.items ≡ map (λ s. s.number) (take l.section-index l.sections)
