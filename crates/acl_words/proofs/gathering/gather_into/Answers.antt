use Rattle.std.proofs.lemmas.Result.{err_from_is_err_and}
use Rattle.acl_words.proofs.Includes.{policy_ends, policy_told}
use Rattle.acl_words.proofs.gathering.gather_into.Goals as goal

pub returns-in_err-bytes-clause-gives : goal.returns-in_err-bytes-clause-gives
returns-in_err-bytes-clause-gives g c =
    let p = err_from_is_err_and c.from_residual.result c.from_residual.ensures.1 in
    rw (p.1, p.2) (policy_ends _ _ _ _ c.as_bytes.ensures.value c.in_err-bytes.ensures.gives)

pub returns-clause-gives : goal.returns-clause-gives
returns-clause-gives g c =
    policy_told _ _ _ _ _ _ _ _ _ _ c.in_ok-bytes.ensures.reads.only.looks.files_stay c.folder.ensures c.as_bytes.ensures.value c.as_slice.ensures c.requires
    c.in_ok-bytes.ensures.gives c.add.ensures.gives
