use Rattle.std.proofs.Common.{◌+◌, ◌*◌, inl, inr, arith}
use Rattle.std.proofs.lemmas.Bool.{cases_lt}
use Rattle.acl_shade.proofs.BitLaws.{beside-kept, both-kept}
use Rattle.acl_shade.proofs.bits.keep.Goals as goal

pub returns-clause-beside : goal.returns-clause-beside
returns-clause-beside c = record {
  size = c.loop-k.invariant.size;
  beside = beside-kept (c.args.row * c.args.width) c.args.width c.args.words.now c.loop-k.words
      (λ j out. c.loop-k.invariant.rest j (elim out [
        | inl below ↦ inl below
        | inr above ↦ inr (omega arith)
      ]));
}

pub returns-clause-keeps : goal.returns-clause-keeps
returns-clause-keeps c =
    both-kept (c.args.row * c.args.width) (c.args.other * c.args.width) c.args.width c.args.words.now c.loop-k.words
    c.args.others.now (λ j within. elim (cases_lt j c.args.count) [
      | inl asked ↦ inl (c.loop-k.invariant.both j (omega arith))
      | inr behind ↦ inr (c.loop-k.invariant.rest (c.args.row * c.args.width + j) (inr (omega arith)))
    ])
