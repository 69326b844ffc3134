use Rattle.std.proofs.Common.{rules, ◌≡◌, ◌≤◌, ◌<◌, false, length, arith}
use Rattle.std.proofs.lemmas.Result.{err_from_is_err_and}
use Rattle.acl_words.specs.FileLines.{may_include}
use Rattle.acl_words.specs.Splices.{is_long}
use Rattle.acl_words.proofs.Includes.{count_told, include_ends, include_told}
use Rattle.acl_words.proofs.WholeFileLaws.{whole_told}
use Rattle.acl_words.proofs.splicing.SplicedFile.+includes.Goals as goal

pub include-returns-then-includes-ge-MOST_INCLUDES-clause-gives :
    goal.include-returns-then-includes-ge-MOST_INCLUDES-clause-gives
include-returns-then-includes-ge-MOST_INCLUDES-clause-gives g t c =
    let many : 1024 ≤ c.args.sources.now.includes = omega arith in
    count_told (g.T.Tree.files c.args.tree.now) _ _ _ _ _ _ _ c.if-self-eq0.false many c.refusal-then-includes-ge-MOST_INCLUDES.ensures.fault

pub include-returns-in_err-bytes-clause-gives : goal.include-returns-in_err-bytes-clause-gives
include-returns-in_err-bytes-clause-gives g t c =
    let few : c.args.sources.now.includes < 1024 = omega arith in
    let p = err_from_is_err_and c.from_residual-in_err-bytes.result c.from_residual-in_err-bytes.ensures.1 in
    rw (p.1, p.2) (include_ends (g.T.Tree.files c.args.tree.now) _ _ _ _ _ _ _ _ _ c.if-self-eq0.false few c.in_ok-inner.ensures c.as_str.ensures.value
    c.in_err-bytes.ensures.gives)

pub include-returns-clause-gives : goal.include-returns-clause-gives
include-returns-clause-gives g t c =
    let few : c.args.sources.now.includes < 1024 = omega arith in
    include_told (g.T.Tree.files c.args.tree.now) (g.T.Tree.files c.read.new.tree) _ _ _ _ _ _ _ _ _ _ _ _ _ _ c.if-self-eq0.false few c.in_ok-bytes.ensures.reads.only.looks.files_stay
    c.in_ok-inner.ensures c.as_str.ensures.value c.as_bytes.ensures.value c.as_slice.ensures c.count_include.ensures.counted
    c.in_ok-bytes.ensures.gives c.add.ensures.gives

pub add-returns-then-not-may_include-clause-gives : goal.add-returns-then-not-may_include-clause-gives
add-returns-then-not-may_include-clause-gives g t c =
    let short : is_long c.args.sources.now.size (length c.args.bytes.now) ≡ false = search rules in
    let none : may_include 0 c.args.bytes.now ≡ false = search rules in
    whole_told (g.T.Tree.files c.args.tree.now) _ _ _ _ _ _ _ _ _ short none c.in_ok-file.ensures.number c.in_ok-file.ensures.file
    c.in_ok-add_lines.ensures.lines
