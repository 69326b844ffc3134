use Rattle.std.proofs.Common.{◌≡◌, ◌<◌, ◌∷◌, sym, arith, rules}
use Rattle.std.proofs.lemmas.Grind.{common_steps}
use Rattle.acl_text.proofs.HexTable.{value_below}
use Rattle.acl_text.proofs.hex_digits.hex_front.Goals as goal

pub returns-then-value-lt16-clause-front : goal.returns-then-value-lt16-clause-front
returns-then-value-lt16-clause-front c =
    let byte = c.in_ok-byte.byte.now in
    let text : c.args.text.now ≡ byte ∷ c.in_ok-byte.rest.now = grind (arith, common_steps) in
    let fits : byte < 256 = search rules in
    record {
      byte = byte;
      text_is = text;
      digit = sym (value_below byte c.from.result c.from-then-value-lt16.result fits c.from.ensures c.if-value-lt16.true c.from-then-value-lt16.ensures);
    }
