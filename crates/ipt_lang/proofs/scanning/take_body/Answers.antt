use Rattle.std.proofs.Common.{◌++◌, refl, ap, sym, subst, ◌∙◌, rules}
use Rattle.std.specs.List.{IsDistinct}
use Rattle.std.specs.Str.{bytes_eq}
use Rattle.acl_rows.specs.Rows.{text_of_rows}
use Rattle.ipt_lang.specs.Documents.{chain_names}
use Rattle.ipt_lang.specs.ScanSteps.{decided_for, section}
use Rattle.ipt_lang.specs.Texts.{default_rows}
use Rattle.ipt_lang.proofs.SectionScanLaws.{body_passed}
use Rattle.ipt_lang.proofs.scanning.take_body.Goals as goal

pub returns-then-are_distinct_names : goal.returns-then-are_distinct_names
returns-then-are_distinct_names c =
    let target = c.args.target.now in
    let policy = c.take_policy-policy.result in
    let chains = c.in_ok-chains.ensures in
    let distinct : IsDistinct bytes_eq (chain_names chains.0) =
    subst (IsDistinct bytes_eq) chains.1.named (c.are_distinct_names.ensures.is.0 (search rules)) in
    record {
      some = (
        section target.hook target.family policy.accept chains.0,
        record {
          valid = record { chains = chains.1.front.valid; names_differ = distinct };
          target = (refl, refl);
          written = c.take_policy-policy.ensures.written ∙ ap (λ t. text_of_rows (default_rows target.hook policy.accept) ++ t) chains.1.front.written;
          decided = c.decided_for-outcome.ensures ∙ ap (λ o. decided_for target.family policy.accept o c.args.packet.now) chains.1.walked;
        },
      );
      each = λ accept others_chains others h k e.
          (body_passed target.hook target.family c.args.text.now policy c.take_policy-policy.ensures c.args.packet.now c.in_ok-chains.chains chains.0 chains.1
          accept others_chains others h e).1;
    }

pub returns-else-are_distinct_names : goal.returns-else-are_distinct_names
returns-else-are_distinct_names c =
    let target = c.args.target.now in
    let policy = c.take_policy-policy.result in
    let chains = c.in_ok-chains.ensures in
    record {
      some = tt;
      each = λ accept others_chains others h k e.
          let same = body_passed target.hook target.family c.args.text.now policy c.take_policy-policy.ensures c.args.packet.now c.in_ok-chains.chains chains.0 chains.1
          accept others_chains others h e in
          let distinct = c.are_distinct_names.ensures.is.1 (subst (IsDistinct bytes_eq) (sym (chains.1.named ∙ ap chain_names same.0)) h.names_differ) in
          search rules;
    }
