use Rattle.std.proofs.Common.{ℕ, List, ◌++◌, flat_map, ap, ◌∙◌}
use Rattle.acl_packet.specs.declared.addresses.Prefix.{Prefix}
use Rattle.acl_rows.proofs.PutLaws.{retold}
use Rattle.acl_platform.proofs.HalfLaws.{halves_of_pairs}
use Rattle.acl_platform.proofs.address_pairs.OfProtocol.put_each_pair.Goals as goal

pub returns : goal.returns
returns g c =
    let o = c.args.self.now in
    let form = o.form.now in
    let proto = c.args.proto in
    let front : Prefix → List ℕ = λ src. g.F.AddressForm.front form proto ++ g.F.AddressForm.source form proto src in
    let back : Prefix → List ℕ = g.F.AddressForm.back form in
    let rows = λ (addresses : Prefix × Prefix). g.F.AddressForm.rows form (proto, addresses) in
    let whole = halves_of_pairs front back rows (g.met.F.AddressForm.is_parts form proto) o.rule.now.src o.rule.now.dst in
    retold (ap (λ src. flat_map (λ a. flat_map (λ b. front a ++ back b) c.all-seconds.result) src) c.all-firsts.ensures
    ∙ ap (λ dst. flat_map (λ a. flat_map (λ b. front a ++ back b) dst) o.rule.now.src) c.all-seconds.ensures ∙ whole) c.put_pairs.ensures
