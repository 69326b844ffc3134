use Rattle.std.proofs.Common.{ap, ◌∙◌}
use Rattle.acl_policy.specs.declared.keywords.Keyword.TheVariants as keywords
use Rattle.acl_words.specs.declared.word_lists.Word.{Word}
use Rattle.acl_terms.specs.Matching.{is_written}
use Rattle.acl_terms.specs.Options.{option_of, verdict_of}
use Rattle.acl_terms.specs.SetSteps.{sets_by}
use Rattle.acl_terms.proofs.FieldLaws.{sets_are}
use Rattle.acl_terms.proofs.SlipLaws.{none-asked}
use Rattle.acl_terms.proofs.SoundLaws.{sound-fields}
use Rattle.acl_terms.proofs.resolving.term_with.Goals as goal

pub invariant_of-result : goal.invariant_of-result
invariant_of-result c =
    let n = c.args.known.now in
    let raw = c.args.raw.now in
    let protos = c.args.protos.now in
    let e = c.in_ok-ends.ends in
    let s = c.in_ok-numbers.numbers in
    let had = rw c.in_ok-ends.ensures.same at c.in_ok-numbers.ensures in
    let are = sets_are n raw protos e s c.requires.protos c.in_ok-ends.ensures.v4 c.in_ok-ends.ensures.v6
    had.protos had.ports had.types had.codes in
    let clean = none-asked n raw protos c.requires.protos c.in_ok-ends.ensures.judged had.judged in
    record {
      sound = sound-fields n raw (sets_by e s) c.in_ok-name.name c.in_ok-name.note
          c.is_written.result c.is_written-2.result c.is_written-3.result c.option_of.result c.verdict_of.result
          c.in_ok-name.ensures.name c.in_ok-name.ensures.note
          (c.is_written.ensures ∙ ap is_written c.addresses.ensures)
          (c.is_written-2.ensures ∙ ap is_written c.destination_ports.ensures)
          (c.is_written-3.ensures ∙ ap is_written c.ports.ensures)
          (c.option_of.ensures ∙ ap option_of c.options.ensures)
          (c.verdict_of.ensures ∙ ap verdict_of (c.as_slice.ensures ∙ ap (λ (w : Word). w.text) c.action.ensures))
          c.requires.fits.name_is c.in_ok-name.ensures.safe (c.requires.fits.words_fit keywords.IcmpCode) clean are;
    }

pub returns-clause-sets : goal.returns-clause-sets
returns-clause-sets c =
    let had = rw c.in_ok-ends.ensures.same at c.in_ok-numbers.ensures in
    sets_are c.args.known.now c.args.raw.now c.args.protos.now c.in_ok-ends.ends c.in_ok-numbers.numbers c.requires.protos
    c.in_ok-ends.ensures.v4 c.in_ok-ends.ensures.v6 had.protos had.ports had.types had.codes
