use Rattle.std.proofs.Common.{[], ◌∷◌, ◌++◌, None, Some, refl, ap, sym, subst, ◌∙◌}
use Rattle.acl_text.specs.Cuts.{views}
use Rattle.ipt_lang.specs.Documents.{family_word, hook_word}
use Rattle.ipt_lang.specs.ScanSteps.{TakesBody}
use Rattle.ipt_lang.proofs.ScanWalkLaws.{views_more}
use Rattle.ipt_lang.proofs.SectionScanLaws.{no_target, section_each, section_shorter, section_written}
use Rattle.ipt_lang.proofs.scanning.IptablesScan.take_section.Goals as goal

pub returns-in_default : goal.returns-in_default
returns-in_default c = record {
  some = tt;
  none = refl;
  each = λ s others h k e. absurd (no_target c.args.text.now c.in_default.ensures s others e);
}

pub returns-in_default-2 : goal.returns-in_default-2
returns-in_default-2 c =
    let head = c.in-Some.head in
    let target = head.item in
    let body = subst (TakesBody target.hook target.family head.rest.now c.args.packet.now) c.in_default-2.is c.in_ok-taken.ensures in
    record {
      some = tt;
      none = refl;
      each = section_each c.args.text.now target head.rest.now c.args.packet.now None c.in-Some.ensures.1 body;
    }

pub returns : goal.returns
returns c =
    let head = c.in-Some.head in
    let target = head.item in
    let taken = c.in-Some-2.taken in
    let body = subst (TakesBody target.hook target.family head.rest.now c.args.packet.now) c.in-Some-2.is c.in_ok-taken.ensures in
    let s = body.some.0 in
    let written = section_written c.args.text.now target head.rest.now c.args.packet.now taken s c.in-Some.ensures.1 body.some.1 in
    let name = ap (λ h. hook_word h ++ 32 ∷ family_word target.family) (sym body.some.1.target.0)
    ∙ ap (λ f. hook_word s.hook ++ 32 ∷ family_word f) (sym body.some.1.target.1) in
    record {
      some = (
        s,
        record {
          valid = body.some.1.valid;
          written = written;
          named = ap views c.in_ok-push.ensures.items ∙ views_more c.args.names.now.items c.target_words.result
              ∙ ap (λ n. views c.args.names.now.items ++ n ∷ []) (c.target_words.ensures ∙ name);
          decided = body.some.1.decided;
          shorter = section_shorter c.args.text.now taken.rest.now s written;
        },
      );
      none = tt;
      each = section_each c.args.text.now target head.rest.now c.args.packet.now (Some taken) c.in-Some.ensures.1 body;
    }
