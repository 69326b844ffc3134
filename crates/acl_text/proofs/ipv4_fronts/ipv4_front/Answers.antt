use Rattle.std.proofs.Common.{◌∷◌, refl}
use Rattle.acl_text.proofs.FrontLaws.{ipv4_front}
use Rattle.acl_text.proofs.ipv4_fronts.ipv4_front.Goals as goal

pub returns : goal.returns
returns c =
    ipv4_front c.args.text.now (46 ∷ c.in_ok-a.rest.now) c.in_ok-a.rest.now (46 ∷ c.in_ok-b.rest.now) c.in_ok-b.rest.now
    (46 ∷ c.in_ok-c.rest.now) c.in_ok-c.rest.now c.in_ok-d.rest.now c.in_ok-a.a c.in_ok-b.b c.in_ok-c.c c.in_ok-d.d
    c.in_ok-a.ensures refl c.in_ok-b.ensures refl c.in_ok-c.ensures refl c.in_ok-d.ensures
