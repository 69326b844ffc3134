use Rattle.std.proofs.Common.{◌≡◌, List, ℕ, Some, ap, sym, ◌∙◌}
use Rattle.std.proofs.lemmas.Slice.Eq.{bytes_eq-Decides}
use Rattle.acl_host.specs.Files.{File}
use Rattle.acl_memory.proofs.Replacing.{path-of}
use Rattle.acl_memory.proofs.mem_files.index_of.Goals as goal

pub returns-then-is_at : goal.returns-then-is_at
returns-then-is_at c =
    let file : File = c.index-files-i.result in
    let path : List ℕ = c.args.path.now in
    let same : file.0 ≡ path =
    (bytes_eq-Decides file.0 path).0 (sym c.is_at.ensures ∙ c.if-is_at.true) in
    path-of c.loop-i.i c.args.files.now file c.loop-i-test.true
    ∙ ap (λ (f : File). Some f.0) (sym c.index-files-i.is) ∙ ap (λ (q : List ℕ). Some q) same
