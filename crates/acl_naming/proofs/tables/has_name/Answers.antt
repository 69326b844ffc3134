use Rattle.std.proofs.Common.{◌≡◌, ℕ, List, Some, position, ap, sym, subst, ◌∙◌, arith}
use Rattle.std.specs.Map.{keys_of}
use Rattle.std.specs.Str.{bytes_eq}
use Rattle.std.proofs.lemmas.Slice.Eq.{bytes_eq-Decides}
use Rattle.acl_naming.specs.TableViewSteps.{Kept}
use Rattle.acl_naming.proofs.TableLaws.{key_first}
use Rattle.acl_naming.proofs.tables.has_name.Goals as goal

pub returns-in-Some : goal.returns-in-Some
returns-in-Some c = λ t.
    let es = c.args.kept.now.entries in
    let entry : Kept = (c.in-Some.key.now, c.in-Some.field-0-1.now) in
    let same : entry.0 ≡ c.args.name.now = sym ((bytes_eq-Decides c.args.name.now entry.0).0 (sym (ap (bytes_eq c.args.name.now) c.as_slice.ensures) ∙ sym c.eq.ensures ∙ t)) in
    subst (λ (name : List ℕ). Some c.args.index ≡ position (bytes_eq name) (keys_of es)) same
    (key_first es c.args.index entry c.len.ensures.unique (omega (arith, c.len.ensures.len, c.if-index-len.false)) c.in-Some.ensures.entry)
