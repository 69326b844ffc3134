use Rattle.std.proofs.Common.{◌≡◌, drop, map}
use Rattle.acl_packet.specs.NumberWords.{row_of}
use Rattle.acl_packet.proofs.number_words.row_of.Given as goal

abbrev pub invariant-loop-text : goal.invariant-loop-text
invariant-loop-text l = row_of (map (λ r. (r.0.now, r.1)) (drop l.text-index l.table)) l.word ≡ row_of (map (λ r. (r.0.now, r.1)) l.table) l.word
