use Rattle.std.proofs.Common.{◌≡◌}
use Rattle.acl_packet.specs.declared.addresses.Family.TheVariants.{V4, V6}
use Rattle.acl_packet.specs.Addresses.{top_address}
use Rattle.acl_text.specs.Refusals.{first_in}
use Rattle.acl_naming.specs.LookupSteps.{AreAdded}
use Rattle.acl_terms.specs.Matching.{AnyOf, NamesAddress}
use Rattle.acl_terms.specs.Slips.{network_slip}
use Rattle.acl_terms.proofs.GatheredLaws.{IsGathered}
use Rattle.acl_terms.proofs.addresses.add_each_word.Given as goal

abbrev pub invariant-loop-word : goal.invariant-loop-word
invariant-loop-word l = record {
  added : AreAdded l.base.networks l.lookups.added l.v4.items l.v6.items;
  v4 : IsGathered (λ x. AnyOf (NamesAddress l.base V4 x) l.words) (λ x. AnyOf (NamesAddress l.base V4 x) l.word-iterator)
      (top_address V4) l.v4.items;
  v6 : IsGathered (λ x. AnyOf (NamesAddress l.base V6 x) l.words) (λ x. AnyOf (NamesAddress l.base V6 x) l.word-iterator)
      (top_address V6) l.v6.items;
  judged : first_in (network_slip l.base.networks) l.word-iterator ≡ first_in (network_slip l.base.networks) l.words;
}
