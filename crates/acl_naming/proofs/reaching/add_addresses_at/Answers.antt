use Rattle.std.proofs.Common.{ℕ, List, ap, sym, ◌∙◌}
use Rattle.std.proofs.lemmas.Result.{on_ok_weaker}
use Rattle.acl_naming.specs.Definitions.{Definition, index_of}
use Rattle.acl_naming.proofs.ReachLaws.{adds_all}
use Rattle.acl_naming.proofs.reaching.add_addresses_at.Goals as goal

pub returns-clause-v4 : goal.returns-clause-v4
returns-clause-v4 c = on_ok_weaker c.push_networks.result (λ all (name : List ℕ) there.
    adds_all _ _ name _ _ _ _ _ _ c.table.ensures
    (sym (ap (λ (ds : List Definition). index_of ds name) c.table.ensures ∙ there)) c.in_ok-places.ensures c.deref.ensures.value
    all) c.push_networks.ensures.v4

pub returns-clause-v6 : goal.returns-clause-v6
returns-clause-v6 c = on_ok_weaker c.push_networks.result (λ all (name : List ℕ) there.
    adds_all _ _ name _ _ _ _ _ _ c.table.ensures
    (sym (ap (λ (ds : List Definition). index_of ds name) c.table.ensures ∙ there)) c.in_ok-places.ensures c.deref.ensures.value
    all) c.push_networks.ensures.v6
