use Rattle.std.proofs.Common.{◌≡◌, drop, take}
use Rattle.acl_load.specs.LoadedPolicies.{AreResolved, terms_slip}
use Rattle.acl_load.proofs.policy_loading.resolve_terms.Given as goal

abbrev pub invariant-loop-raw : goal.invariant-loop-raw
invariant-loop-raw l = record {
  slip : terms_slip l.known (drop l.raw-index l.raws) ≡ terms_slip l.known l.raws;
  terms : AreResolved l.known (take l.raw-index l.raws) l.terms;
  same : l.known ≡ l.initial.known;
}
