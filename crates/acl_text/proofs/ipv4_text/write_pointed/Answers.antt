use Rattle.std.proofs.Common.{◌+◌, ◌-◌, ◌++◌, take, ap, ◌∙◌, arith}
use borrow.Rule.Slice.PartMut.{put_mid}
use Rattle.acl_text.proofs.OctetTable.{written_front}
use Rattle.acl_text.proofs.ipv4_text.write_pointed.Goals as goal

pub returns-clause-items : goal.returns-clause-items
returns-clause-items c =
    let text = c.args.text.now in
    let octet = c.octet_bytes.result.now in
    let at = c.args.at in
    ap (λ ys. take (at + (c.octet_digits.result + 1)) (put_mid at (at + 4 - at) text ys)) c.copy_from_slice.ensures.after
    ∙ written_front text octet at (at + 4 - at) (c.octet_digits.result + 1) (omega (arith, c.fits-text)) (omega (arith, c.octet_bytes.ensures.len, c.octet_digits.ensures.few))
    ∙ ap (λ t. take at text ++ t) (ap (λ n. take (n + 1) octet) c.octet_digits.ensures.exact ∙ c.octet_bytes.ensures.pointed)
