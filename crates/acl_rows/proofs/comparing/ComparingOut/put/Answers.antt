use Rattle.std.proofs.Common.{◌≡◌, ◌<◌, drop, length, refl, ap, sym, ◌∙◌, arith}
use Rattle.std.proofs.lemmas.Bool.{false≢true}
use Rattle.acl_rows.proofs.TakenLaws.{common, takes_all, takes_front, compared_still, first_fault}
use Rattle.acl_rows.proofs.comparing.ComparingOut.put.Goals as goal

pub invariant_of-self-else-same-bytes : goal.invariant_of-self-else-same-bytes
invariant_of-self-else-same-bytes c =
    let s = c.args.self.now in
    let k = c.same_front-same in
    let same : k.result ≡ common (drop s.place s.text.now) c.args.bytes.now = k.ensures.exact ∙ ap (λ r. common r c.args.bytes.now) c.split_at.ensures.back in
    let short : k.result < length c.args.bytes.now = omega (arith, k.ensures.within, c.if-same-bytes.false) in
    record { is_compared = compared_still s.text.now c.args.bytes.now s.place k.result s.is_compared.fits same short }

pub returns-then-same-bytes : goal.returns-then-same-bytes
returns-then-same-bytes c =
    let s = c.args.self.now in
    let k = c.same_front-same in
    let same : k.result ≡ common (drop s.place s.text.now) c.args.bytes.now = k.ensures.exact ∙ ap (λ r. common r c.args.bytes.now) c.split_at.ensures.back in
    record {
      ok = takes_all s.text.now c.args.bytes.now s.place k.result s.other c.requires same c.if-same-bytes.true;
      err = tt;
      opened = c.requires;
      closed = tt;
      rest = refl;
      faults_grow = omega arith;
      refusals_grow = omega arith;
      failed = λ e. absurd cc;
      faults_stay = λ e. refl;
      memory = λ e. absurd cc;
    }

pub returns-else-same-bytes : goal.returns-else-same-bytes
returns-else-same-bytes c =
    let s = c.args.self.now in
    let k = c.same_front-same in
    let same : k.result ≡ common (drop s.place s.text.now) c.args.bytes.now = k.ensures.exact ∙ ap (λ r. common r c.args.bytes.now) c.split_at.ensures.back in
    let short : k.result < length c.args.bytes.now = omega (arith, k.ensures.within, c.if-same-bytes.false) in
    let first = first_fault s.other c.requires in
    record {
      ok = tt;
      err = takes_front s.text.now c.args.bytes.now s.place k.result s.other c.requires same short;
      opened = tt;
      closed = refl;
      rest = refl;
      faults_grow = omega (arith, first);
      refusals_grow = omega arith;
      failed = λ e. first;
      faults_stay = λ e. absurd (false≢true (sym e));
      memory = λ e. absurd cc;
    }
