-- Values that stand, and those that are read, are the same; and so are the inputs of a command.
use Prim.Native.Nat.{zero, suc}
use Rattle.std.proofs.Common.{◌≡◌, ◌∙◌, ◌<◌, ◌==◌, ℕ, true, false, List, [], ◌∷◌, length, nat_eq, codes, Option, None, Some, option_and_then, refl, ap, subst, arith}
use Rattle.std.specs.Prelude.{IsSomeAnd}
use Rattle.std.proofs.lemmas.Bool.{eqb-false, ne_eqb}
use Rattle.std.proofs.lemmas.Option.{none-some, option_and_then_some, same_Some}
use Rattle.std.specs.List.{ends_with}
use Rattle.clap.specs.Words.{App, Kinds, Row, fault_of, matches_of}
use Rattle.acl_packet.specs.Decimals.{number_in}
use Rattle.acl_packet.proofs.DecimalLaws.{number-in, number-is}
use Rattle.acl_packet.proofs.ChoiceLaws.{guarded, refused}
use Rattle.acl_host.specs.declared.days.Day.{Day}
use Rattle.acl_host.specs.NamedDays.{day_named}
use Rattle.acl_options.specs.Commands.{Inputs, IsCount, IsDate, IsFile, IsFolder, IsTakenBy, NamesInputs, value_in}
use Rattle.acl_options.specs.ComputableCommands.{count_in, date_in, date_named, definitions_in, file_named, folder_named, inputs_in, is_none, is_taken, not_zero, policy_in, rows_in}
use Rattle.acl_options.proofs.NamedDates.{named-text, text-named}

-- ---- one value

folder-named : (text path : List ℕ) → folder_named text ≡ Some path → (text ≡ path) × IsFolder path
folder-named text path e =
    let p = refused (length text == 0) (Some text) path e in
    let is = same_Some text path p.1 in
    (is, subst IsFolder is (positive (length text) p.0))
  where
    positive : (n : ℕ) → (n == 0) ≡ false → 0 < n
    positive zero h = absurd cc
    positive (suc n) h = omega arith

named-folder : (path : List ℕ) → IsFolder path → folder_named path ≡ Some path
named-folder path f = rw (ne_eqb (length path) 0 (λ z. omega (arith, f, z))) refl

file-named : (text path : List ℕ) → file_named text ≡ Some path → (text ≡ path) × IsFile path
file-named text path e =
    let p = refused (ends_with nat_eq text (47 ∷ [])) (folder_named text) path e in
    let f = folder-named text path p.1 in
    (f.0, record { nonempty = f.1; no_slash = subst (λ t. ends_with nat_eq t (47 ∷ []) ≡ false) f.0 p.0 })

named-file : (path : List ℕ) → IsFile path → file_named path ≡ Some path
named-file path f = rw (f.no_slash) (named-folder path f.nonempty)

pub date-named : (text : Option (List ℕ)) (date : Option Day) → date_named text ≡ Some date → IsDate text date
date-named None None e = tt
date-named None (Some day) e = absurd (none-some day (same_Some None (Some day) e))
date-named (Some text) date e = option_and_then_some _ (day_named text) date e
    (λ day is some. subst (IsDate (Some text)) (same_Some (Some day) date some) (named-text text day is))

pub named-date : (text : Option (List ℕ)) (date : Option Day) → IsDate text date → date_named text ≡ Some date
named-date None None d = refl
named-date None (Some day) d = absurd d
named-date (Some text) None d = absurd d
named-date (Some text) (Some day) d = rw (text-named text day d) refl

pub count-named : (most : ℕ) (text : List ℕ) (n : ℕ) → count_in most text ≡ Some n → IsCount most n text
count-named most text n e =
    option_and_then_some not_zero (number_in most text) n e (λ m found kept.
    let q = refused (m == 0) (Some m) n kept in
    let number = number-is most m text found in
    subst (λ k. IsCount most k text) (same_Some m n q.1) (record {
      number = number.0;
      from_one = omega (arith, eqb-false m 0 q.0);
      at_most = number.1;
    }))

pub named-count : (most : ℕ) (text : List ℕ) (n : ℕ) → IsCount most n text → count_in most text ≡ Some n
named-count most text n c =
    ap (option_and_then not_zero) (number-in most n text c.number c.at_most) ∙ rw (ne_eqb n 0 (λ z. omega (arith, c.from_one, z))) refl

-- ---- a value among the rows

pub count-among : (most : ℕ) (text : Option (List ℕ)) (n : ℕ) → option_and_then (count_in most) text ≡ Some n → IsSomeAnd text (IsCount most n)
count-among most None n e = absurd (none-some n e)
count-among most (Some text) n e = count-named most text n e

pub among-count : (most : ℕ) (text : Option (List ℕ)) (n : ℕ) → IsSomeAnd text (IsCount most n) → option_and_then (count_in most) text ≡ Some n
among-count most None n h = absurd h
among-count most (Some text) n h = named-count most text n h

pub file-in : (text : Option (List ℕ)) (path : List ℕ) → option_and_then file_named text ≡ Some path → (text ≡ Some path) × IsFile path
file-in None path e = absurd (none-some path e)
file-in (Some text) path e = let f = file-named text path e in (ap Some f.0, f.1)

pub in-file : (text : Option (List ℕ)) (path : List ℕ) → text ≡ Some path → IsFile path → option_and_then file_named text ≡ Some path
in-file text path e f = ap (option_and_then file_named) e ∙ named-file path f

pub folder-in : (text : Option (List ℕ)) (path : List ℕ) → option_and_then folder_named text ≡ Some path → (text ≡ Some path) × IsFolder path
folder-in None path e = absurd (none-some path e)
folder-in (Some text) path e = let f = folder-named text path e in (ap Some f.0, f.1)

pub in-folder : (text : Option (List ℕ)) (path : List ℕ) → text ≡ Some path → IsFolder path → option_and_then folder_named text ≡ Some path
in-folder text path e f = ap (option_and_then folder_named) e ∙ named-folder path f

-- ---- the words

pub none-is : (kinds : Kinds) → is_none kinds ≡ true → kinds ≡ []
none-is [] e = refl
none-is (k ∷ ks) e = absurd cc

-- clap takes the words, and the options that it finds are read
pub read-of-taken : {A : Type 0} (command : App) (read : List Row → Option A) (words : List (List ℕ)) (x : A)
    → option_and_then read (rows_in command words) ≡ Some x → IsTakenBy command words × (read (matches_of command words) ≡ Some x)
read-of-taken command read words x e =
    option_and_then_some read (rows_in command words) x e (λ rows is found.
    let g = guarded (is_taken command words) (Some (matches_of command words)) rows is in
    (none-is (fault_of command words) g.0, ap read (same_Some _ rows g.1) ∙ found))

pub taken-and-read : {A : Type 0} (command : App) (read : List Row → Option A) (words : List (List ℕ))
    → IsTakenBy command words → option_and_then read (rows_in command words) ≡ read (matches_of command words)
taken-and-read command read words taken = rw (ap is_none taken) refl

-- ---- inputs

named-parts : (command : App) (words : List (List ℕ)) (policy definitions : List ℕ) (date : Option Day)
    → policy_in (matches_of command words) ≡ Some policy → definitions_in (matches_of command words) ≡ Some definitions
    → date_in (matches_of command words) ≡ Some date
    → NamesInputs command words (record { policy = policy; definitions = definitions; date = date })
named-parts command words policy definitions date p d t =
    let file = file-in (value_in command words (codes "policy_file")) policy p in
    let folder = folder-in (value_in command words (codes "definitions_directory")) definitions d in
    record {
      policy = file.0;
      policy_stands = file.1;
      definitions = folder.0;
      definitions_stands = folder.1;
      date = date-named (value_in command words (codes "date")) date t;
    }

pub inputs-named : (command : App) (words : List (List ℕ)) (i : Inputs) → inputs_in (matches_of command words) ≡ Some i → NamesInputs command words i
unfolding inputs_in
inputs-named command words i e =
    let rows = matches_of command words in
    option_and_then_some _ (policy_in rows) i e (λ policy p e1.
    option_and_then_some _ (definitions_in rows) i e1 (λ definitions d e2.
    option_and_then_some _ (date_in rows) i e2 (λ date t e3.
    subst (NamesInputs command words) (same_Some _ i e3) (named-parts command words policy definitions date p d t))))

pub named-inputs : (command : App) (words : List (List ℕ)) (i : Inputs) → NamesInputs command words i → inputs_in (matches_of command words) ≡ Some i
unfolding inputs_in
named-inputs command words i n =
    rw (
      in-file (value_in command words (codes "policy_file")) i.policy n.policy n.policy_stands,
      in-folder (value_in command words (codes "definitions_directory")) i.definitions n.definitions n.definitions_stands,
      named-date (value_in command words (codes "date")) i.date n.date,
    ) refl
