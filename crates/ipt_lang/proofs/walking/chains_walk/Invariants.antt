use Rattle.std.proofs.Common.{◌≡◌, drop}
use Rattle.ipt_lang.specs.Walks.{chains_walk}
use Rattle.ipt_lang.proofs.walking.chains_walk.Given as goal

abbrev pub invariant-loop-chain : goal.invariant-loop-chain
invariant-loop-chain l = chains_walk (drop l.chain-index l.chains) l.packet l.logged ≡ chains_walk l.chains l.packet l.initial.logged
