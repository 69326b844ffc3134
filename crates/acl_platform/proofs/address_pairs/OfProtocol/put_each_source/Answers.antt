use Rattle.std.proofs.Common.{ℕ, List, [], ◌∷◌, ◌++◌, flat_map, Option, ap, sym, ◌∙◌}
use Rattle.acl_packet.specs.declared.addresses.Prefix.{Prefix}
use Rattle.acl_rows.specs.Rows.{text_of_rows}
use Rattle.acl_rows.proofs.PutLaws.{retold}
use Rattle.acl_platform.specs.Choices.{pairs}
use Rattle.acl_platform.proofs.HalfLaws.{lines_behind_front}
use Rattle.acl_platform.proofs.address_pairs.OfProtocol.put_each_source.Goals as goal

pub returns : goal.returns
returns g c =
    let o = c.args.self.now in
    let form = o.form.now in
    let proto = c.args.proto in
    let dst = c.args.dst in
    let front : Option ℕ → List ℕ = g.F.AddressForm.front form in
    let part : Prefix → List ℕ = g.F.AddressForm.source form proto in
    let back = g.F.AddressForm.back form dst in
    let rows = λ (addresses : Prefix × Prefix). g.F.AddressForm.rows form (proto, addresses) in
    let whole = lines_behind_front front part back rows proto dst (λ src. g.met.F.AddressForm.is_parts form proto src dst) o.rule.now.src in
    retold (ap (λ sources. flat_map (λ p. flat_map (λ src. front p ++ (part src ++ back)) sources) (proto ∷ [])) c.all-sources.ensures
    ∙ whole ∙ ap (λ ends. text_of_rows (flat_map rows (pairs o.rule.now.src ends))) (sym c.requires.alone)) c.put_pairs.ensures
