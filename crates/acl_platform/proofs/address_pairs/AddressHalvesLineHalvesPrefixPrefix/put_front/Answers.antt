use Rattle.std.proofs.Common.{refl}
use Rattle.std.proofs.lemmas.Result.{err_from_is_err_and}
use Rattle.acl_text.proofs.Putting.{goes_on, stops}
use Rattle.acl_platform.proofs.address_pairs.AddressHalvesLineHalvesPrefixPrefix.put_front.Goals as goal

pub returns-in_err-put_front : goal.returns-in_err-put_front
returns-in_err-put_front g c =
    let p = err_from_is_err_and c.from_residual.result c.from_residual.ensures.1 in
    let h = c.args.self.now in
    rw (p.1, p.2) (stops (g.F.AddressForm.source h.form.now h.proto c.args.first.now) c.in_err-put_front.ensures refl)

pub returns : goal.returns
returns g c = goes_on g.met.O.Out.rest_goes_on c.in_ok-put_front.ensures c.put_source.ensures
