-- A tree of which naming files were read is so for each answer of the same cause.
use Rattle.std.proofs.Common.{◌≡◌, Result, Ok, Err, refl, ap, sym, subst, ◌∙◌, arith}
use Rattle.std.specs.Prelude.{IsErrAnd}
use Rattle.std.proofs.lemmas.Bool.{false≢true}
use Rattle.acl_text.specs.declared.faults.Rejection.{Rejection}
use Rattle.acl_text.specs.declared.faults.Rejection.TheVariants as rejections
use Rattle.acl_text.specs.Output.{Rose}
use Rattle.acl_host.specs.Outside.{OnlyListsAndReads, TreeMembers}
use Rattle.acl_host.specs.WholeFiles.{ListsFolder, ReadsFiles}
use Rattle.acl_host.specs.declared.look_faults.ListFault.{ListFault}
use Rattle.acl_host.specs.declared.look_faults.ReadFault.{ReadFault}
use Rattle.acl_host.specs.declared.look_faults.ReadFault.TheVariants as reads
use Rattle.acl_load.specs.declared.load_faults.LoadFault.{LoadFault}
use Rattle.acl_load.specs.declared.load_faults.LoadFault.TheVariants as loads
use Rattle.acl_load.specs.LoadFaults.{LoadsFiles, fails_to_list, fails_to_read, of_reading, of_rejection}

-- The fault, in an answer of another type.
abbrev retyped : {A B : Type 0} → Result A LoadFault → Result B LoadFault
retyped (Ok x) = Err loads.Memory
retyped (Err fault) = Err fault

module _ {S X Y : Type 0} (tree : TreeMembers S) (first last : S) where
  pub looks-loaded : (x : X) (y : Y) → LoadsFiles {X = X} tree first last (Ok x) → LoadsFiles {X = Y} tree first last (Ok y)
  looks-loaded x y l = record {
    only = l.only;
    list_failed = λ q. absurd (false≢true (ap fails_to_list q));
    read_failed = λ q. absurd (false≢true (ap fails_to_read q));
    lists_stay = λ q. l.lists_stay refl;
    reads_stay = λ q. l.reads_stay refl;
  }

  same-fault : (e : LoadFault) → LoadsFiles {X = X} tree first last (Err e) → LoadsFiles {X = Y} tree first last (Err e)
  same-fault e l = record {
    only = l.only;
    list_failed = λ q. l.list_failed (ap retyped q);
    read_failed = λ q. l.read_failed (ap retyped q);
    lists_stay = l.lists_stay;
    reads_stay = l.reads_stay;
  }

  pub looks-failed : (e : LoadFault) (r : Result Y LoadFault) → LoadsFiles {X = X} tree first last (Err e) → IsErrAnd r (λ f. f ≡ e)
      → LoadsFiles tree first last r
  looks-failed e (Ok y) l is = absurd is
  looks-failed e (Err f) l is = subst (λ (g : LoadFault). LoadsFiles {X = Y} tree first last (Err g)) (sym is) (same-fault e l)

  rejected : (x : X) (e : Rejection) → LoadsFiles {X = X} tree first last (Ok x)
      → LoadsFiles {X = Y} tree first last (Err (of_rejection e))
  rejected x (rejections.Fault f) l = record {
    only = l.only;
    list_failed = λ q. absurd (false≢true (ap fails_to_list q));
    read_failed = λ q. absurd (false≢true (ap fails_to_read q));
    lists_stay = λ q. l.lists_stay refl;
    reads_stay = λ q. l.reads_stay refl;
  }
  rejected x rejections.Memory l = record {
    only = l.only;
    list_failed = λ q. absurd (false≢true (ap fails_to_list q));
    read_failed = λ q. absurd (false≢true (ap fails_to_read q));
    lists_stay = λ q. l.lists_stay refl;
    reads_stay = λ q. l.reads_stay refl;
  }

  pub looks-rejected : (x : X) (e : Rejection) (r : Result Y LoadFault) → LoadsFiles {X = X} tree first last (Ok x)
      → IsErrAnd r (λ f. f ≡ of_rejection e) → LoadsFiles tree first last r
  looks-rejected x e (Ok y) l is = absurd is
  looks-rejected x e (Err f) l is =
      subst (λ (g : LoadFault). LoadsFiles {X = Y} tree first last (Err g)) (sym is) (rejected x e l)

-- A folder is listed, and then its files are read.
module _ {S X Y : Type 0} (tree : TreeMembers S) (first next last : S) where
  both : {R : Result X ListFault} {Q : Result Y ReadFault} → ListsFolder tree first next R → ReadsFiles tree next last Q
      → OnlyListsAndReads tree first last
  both l k =
      let listed = l.only.reads_stay in
      let more = l.only.lists_grow in
      let stay = k.only.lists_stay in
      let grown = k.only.reads_grow in
      record {
        looks = record {
          files_stay = k.only.looks.files_stay ∙ l.only.looks.files_stay;
          begun_stays = k.only.looks.begun_stays ∙ l.only.looks.begun_stays;
          faults_stay = k.only.looks.faults_stay ∙ l.only.looks.faults_stay;
          refusals_stay = k.only.looks.refusals_stay ∙ l.only.looks.refusals_stay;
        };
        lists_grow = omega (arith, more, stay);
        reads_grow = omega (arith, listed, grown);
      }

  pub looks-both : {Z : Type 0} (x : X) (y : Y) (z : Z) → ListsFolder tree first next (Ok x) → ReadsFiles tree next last (Ok y)
      → LoadsFiles tree first last (Ok z)
  looks-both x y z l k = record {
    only = both l k;
    list_failed = λ q. absurd (false≢true (ap fails_to_list q));
    read_failed = λ q. absurd (false≢true (ap fails_to_read q));
    lists_stay = λ q. k.only.lists_stay ∙ l.faults_stay refl;
    reads_stay = λ q. k.faults_stay refl ∙ l.only.reads_stay;
  }

  unread-behind : {Z : Type 0} (x : X) (e : ReadFault) → ListsFolder tree first next (Ok x) → ReadsFiles {X = Y} tree next last (Err e)
      → LoadsFiles {X = Z} tree first last (Err (of_reading e))
  unread-behind x (reads.Fault f) l k = record {
    only = both l k;
    list_failed = λ q. absurd (false≢true (ap fails_to_list q));
    read_failed = λ q. absurd (false≢true (ap fails_to_read q));
    lists_stay = λ q. k.only.lists_stay ∙ l.faults_stay refl;
    reads_stay = λ q. k.faults_stay refl ∙ l.only.reads_stay;
  }
  unread-behind x reads.Outside l k = record {
    only = both l k;
    list_failed = λ q. absurd (false≢true (ap fails_to_list q));
    read_failed = λ q. subst (λ n. Rose n (tree.read_faults last)) l.only.reads_stay (k.failed refl);
    lists_stay = λ q. k.only.lists_stay ∙ l.faults_stay refl;
    reads_stay = λ q. absurd (false≢true (sym q));
  }
  unread-behind x reads.Memory l k = record {
    only = both l k;
    list_failed = λ q. absurd (false≢true (ap fails_to_list q));
    read_failed = λ q. absurd (false≢true (ap fails_to_read q));
    lists_stay = λ q. k.only.lists_stay ∙ l.faults_stay refl;
    reads_stay = λ q. k.faults_stay refl ∙ l.only.reads_stay;
  }

  pub looks-unread : {Z : Type 0} (x : X) (e : ReadFault) (r : Result Z LoadFault) → ListsFolder tree first next (Ok x)
      → ReadsFiles {X = Y} tree next last (Err e) → IsErrAnd r (λ f. f ≡ of_reading e) → LoadsFiles tree first last r
  looks-unread x e (Ok z) l k is = absurd is
  looks-unread {Z = Z} x e (Err f) l k is =
      subst (λ (g : LoadFault). LoadsFiles {X = Z} tree first last (Err g)) (sym is) (unread-behind x e l k)
