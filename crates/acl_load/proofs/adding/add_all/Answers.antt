use Rattle.std.proofs.Common.{◌≡◌, ◌+◌, ◌∷◌, ◌∙◌, ap, arith, drop, false, map, refl, rules, sym}
use Rattle.std.specs.String.{string_bytes}
use Rattle.std.proofs.lemmas.List.{drop_more}
use Rattle.acl_load.specs.Loading.{all_of}
use Rattle.acl_load.proofs.LoadLaws.{all-next, reads-on}
use Rattle.acl_load.proofs.adding.add_all.Goals as goal

pub loop-path-preserved : goal.loop-path-preserved
loop-path-preserved g c =
    let paths = map string_bytes c.args.paths.now in
    let files = c.args.files.now in
    let i = c.loop-path.path-index in
    let path = c.path-item.result in
    let rest = map string_bytes (drop (i + 1) files) in
    let had = c.loop-path.invariant in
    let step = c.in_ok-so_far.ensures in
    let text : string_bytes path ≡ c.as_str.result.now = search rules in
    let left = ap (map string_bytes) (drop_more files i path (omega arith) ∙ ap (λ p. p ∷ drop (i + 1) files) (sym c.path-item.is))
    ∙ ap (λ t. t ∷ rest) text in
    record {
      counts = omega arith;
      gives = all-next _ _ paths c.args.kind c.loop-path.number c.as_str.result.now (map string_bytes (drop i files)) rest
          c.loop-path.so_far c.in_ok-so_far.so_far
          (λ held. all_of paths c.args.kind c.args.first (map string_bytes files) held c.args.base)
          had.reads.looks.files_stay left step.gives had.gives;
      reads = reads-on _ _ _ _ had.reads step.reads.only;
      none_failed = step.reads.faults_stay (refl {a = false}) ∙ had.none_failed;
    }
