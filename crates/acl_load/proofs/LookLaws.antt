-- What a tree is behind one call that loads and another that reads.
use Rattle.std.proofs.Common.{◌≡◌, ◌≤◌, true, false, Option, Result, Ok, Err, refl, ap, sym, subst, ◌∙◌, arith}
use Rattle.std.specs.Prelude.{IsErrAnd}
use Rattle.std.proofs.lemmas.Bool.{false≢true}
use Rattle.acl_text.specs.Output.{Rose}
use Rattle.acl_host.specs.Outside.{OnlyListsAndReads, TreeMembers}
use Rattle.acl_host.specs.WholeFiles.{ReadsFiles}
use Rattle.acl_host.specs.declared.look_faults.ReadFault.{ReadFault}
use Rattle.acl_host.specs.declared.look_faults.ReadFault.TheVariants as reads
use Rattle.acl_load.specs.declared.load_faults.LoadFault.{LoadFault}
use Rattle.acl_load.specs.LoadFaults.{LoadsFiles, fails_to_list, fails_to_read, of_reading}

module _ {S X Y : Type 0} (tree : TreeMembers S) (first next last : S) (x : X) where
  only-looked : (e : ReadFault) → LoadsFiles {X = X} tree first next (Ok x) → ReadsFiles {X = Y} tree next last (Err e)
      → OnlyListsAndReads tree first last
  only-looked e l k =
      let was = l.only.looks in
      let is = k.only.looks in
      let lists = k.only.lists_stay ∙ l.lists_stay refl in
      let reads = l.reads_stay refl in
      let more = k.only.reads_grow in
      record {
        looks = record {
          files_stay = is.files_stay ∙ was.files_stay;
          begun_stays = is.begun_stays ∙ was.begun_stays;
          faults_stay = is.faults_stay ∙ was.faults_stay;
          refusals_stay = is.refusals_stay ∙ was.refusals_stay;
        };
        lists_grow = omega (arith, lists);
        reads_grow = omega (arith, reads, more);
      }

  -- What was loaded stands, and then a file is not read.
  unread-behind : {Z : Type 0} (e : ReadFault) → LoadsFiles {X = X} tree first next (Ok x) → ReadsFiles {X = Y} tree next last (Err e)
      → LoadsFiles {X = Z} tree first last (Err (of_reading e))
  unread-behind (reads.Fault f) l k = record {
    only = only-looked (reads.Fault f) l k;
    list_failed = λ q. absurd (false≢true (ap fails_to_list q));
    read_failed = λ q. absurd (false≢true (ap fails_to_read q));
    lists_stay = λ q. k.only.lists_stay ∙ l.lists_stay refl;
    reads_stay = λ q. k.faults_stay refl ∙ l.reads_stay refl;
  }
  unread-behind reads.Outside l k = record {
    only = only-looked reads.Outside l k;
    list_failed = λ q. absurd (false≢true (ap fails_to_list q));
    read_failed = λ q. subst (λ n. Rose n (tree.read_faults last)) (l.reads_stay refl) (k.failed refl);
    lists_stay = λ q. k.only.lists_stay ∙ l.lists_stay refl;
    reads_stay = λ q. absurd (false≢true (sym q));
  }
  unread-behind reads.Memory l k = record {
    only = only-looked reads.Memory l k;
    list_failed = λ q. absurd (false≢true (ap fails_to_list q));
    read_failed = λ q. absurd (false≢true (ap fails_to_read q));
    lists_stay = λ q. k.only.lists_stay ∙ l.lists_stay refl;
    reads_stay = λ q. k.faults_stay refl ∙ l.reads_stay refl;
  }

  pub looks-behind : {Z : Type 0} (e : ReadFault) (r : Result Z LoadFault) → LoadsFiles {X = X} tree first next (Ok x)
      → ReadsFiles {X = Y} tree next last (Err e) → IsErrAnd r (λ f. f ≡ of_reading e) → LoadsFiles tree first last r
  looks-behind e (Ok z) l k is = absurd is
  looks-behind {Z = Z} e (Err f) l k is = subst (λ (f : LoadFault). LoadsFiles {X = Z} tree first last (Err f)) (sym is) (unread-behind e l k)
