use Rattle.std.proofs.Common.{◌≡◌, ◌∷◌, ap, rules, ◌∙◌}
use Rattle.acl_packet.specs.declared.addresses.Family.TheVariants.{V4, V6}
use Rattle.acl_packet.specs.Addresses.{top_address}
use Rattle.acl_text.specs.Refusals.{first_in}
use Rattle.acl_terms.specs.Matching.{AnyOf, NamesAddress}
use Rattle.acl_terms.specs.Slips.{network_slip}
use Rattle.acl_terms.proofs.DistinctLaws.{slip-next}
use Rattle.acl_terms.proofs.GatheredLaws.{begun-words, next-names}
use Rattle.acl_terms.proofs.addresses.add_each_word.Goals as goal

pub loop-word-init : goal.loop-word-init
loop-word-init c =
    let base = c.args.base.now in
    let words = c.args.words.now in
    let all : c.into_iter-word-iterator.result ≡ words = search rules in
    record {
      added = c.in_ok-begin_networks.ensures c.reserve.new.self.items c.args.v6.now.items;
      v4 = begun-words (NamesAddress base V4) words c.into_iter-word-iterator.result (top_address V4) _ all (c.in_ok-reserve.ensures.items ∙ c.requires.v4);
      v6 = begun-words (NamesAddress base V6) words c.into_iter-word-iterator.result (top_address V6) _ all c.requires.v6;
      judged = ap (first_in (network_slip base.networks)) all;
    }

pub loop-word-preserved : goal.loop-word-preserved
loop-word-preserved c =
    let base = c.args.base.now in
    let words = c.args.words.now in
    let next : c.loop-word.word-iterator ≡ c.in-Some.word ∷ c.next.new.self = c.in-Some.ensures.steps in
    let had = c.loop-word.invariant in
    let adds = c.in_ok-add_word_once.ensures in
    record {
      added = adds.added;
      v4 = next-names (NamesAddress base V4) (λ x. AnyOf (NamesAddress base V4 x) words) _ _ _ (top_address V4)
          c.loop-word.v4.items c.add_word_once.new.v4.items next had.v4 adds.v4.fits adds.v4.exact;
      v6 = next-names (NamesAddress base V6) (λ x. AnyOf (NamesAddress base V6 x) words) _ _ _ (top_address V6)
          c.loop-word.v6.items c.add_word_once.new.v6.items next had.v6 adds.v6.fits adds.v6.exact;
      judged = slip-next (network_slip base.networks) _ _ _ (first_in (network_slip base.networks) words) next
          adds.judged had.judged;
    }
