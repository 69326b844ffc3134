use Rattle.std.proofs.Common.{rules, ◌≡◌, ◌+◌, sym, arith}
use Rattle.std.proofs.Math.ListN.{replicate}
use Rattle.acl_words.proofs.StepLaws.{once_more}
use Rattle.acl_words.proofs.WordTextLaws.{words_with}
use Rattle.acl_words.proofs.line_words.LineWords.push.Goals as goal

pub invariant_of-self : goal.invariant_of-self
invariant_of-self g c =
    let same : c.args.place ≡ c.self.inside.place = search rules in (
      omega (arith, c.if-self-ge-MOST_REPEATED.false),
      (words_with _ (record { place = c.args.place; text = c.args.text.now })
          (replicate c.self.inside.count c.self.inside.place) (replicate (c.self.inside.count + 1) c.self.inside.place)
          c.self.inside.text c.push_line.new.self c.self.invariant.1 c.requires.line
          (rw (same) (sym (once_more c.self.inside.count c.self.inside.place))) c.push_line.ensures).1,
    )

pub returns-clause-added : goal.returns-clause-added
returns-clause-added g c h =
    let same : c.args.place ≡ c.self.inside.place = search rules in
    rw (← c.self.view_is) (words_with _ (record { place = c.args.place; text = c.args.text.now })
    (replicate c.self.inside.count c.self.inside.place) (replicate (c.self.inside.count + 1) c.self.inside.place)
    c.self.inside.text c.push_line.new.self c.self.invariant.1 c.requires.line
    (rw (same) (sym (once_more c.self.inside.count c.self.inside.place))) c.push_line.ensures).0
