-- A policy that is read fulfils its conditions, and stands where its words do.
use Rattle.std.proofs.Common.{map, ◌≡◌, ◌≢◌, ℕ, ◌+◌, ◌<◌, ◌≤◌, ◌==◌, Bool, true, false, cond, if◌then◌else◌, not, nat_le, List, [], ◌∷◌, ◌++◌, length, get_or, Result, Ok, Err, IfOk, IfSome, inl, inr, refl, ap, sym, ◌∙◌, subst, append_assoc, append-nil, length-append, codes, arith}
use Rattle.std.specs.Prelude.{◌⊎◌}
use Rattle.std.specs.List.{All, list_any, count_by}
use Rattle.std.specs.Result.{IfErr}
use Rattle.std.specs.Str.{bytes_eq}
use Rattle.std.proofs.lemmas.Bool.Decides.{nat_tests}
use Rattle.std.proofs.lemmas.Grind.{flat_map-append}
use Rattle.std.proofs.lemmas.List.Elements.{All-nil, All-push, All-weaker, recursion_from_All}
use Rattle.std.proofs.lemmas.List.Quantifiers.{all_pairs_push}
use Rattle.std.proofs.lemmas.List.Sums.{count_by-le-length, sum_by-append, sum_by-cons}
use Rattle.acl_text.specs.declared.faults.Place.{Place}
use Rattle.acl_text.specs.declared.faults.Slip.{Slip}
use Rattle.acl_text.specs.declared.faults.Refusal.{Refusal}
use Rattle.acl_text.specs.declared.faults.Refusal.TheVariants as refusals
use Rattle.acl_text.specs.declared.file_lines.Line.{Line}
use Rattle.acl_text.specs.Answers.{Gives, slip_told}
use Rattle.acl_text.specs.Names.{is_name}
use Rattle.acl_text.specs.Steps.{◌>>=◌}
use Rattle.acl_words.specs.declared.forms.Form.{Form}
use Rattle.acl_words.specs.declared.forms.Form.TheVariants as forms
use Rattle.acl_words.specs.Tokens.{Token}
use Rattle.acl_words.specs.Places.{IsLinePlace, HaveLinePlaces}
use Rattle.acl_policy.specs.declared.term_drafts.TermDraft.{TermDraft}
use Rattle.acl_policy.specs.RawTerms.{RawTerm}
use Rattle.acl_words.specs.declared.word_lists.Word.{Word}
use Rattle.acl_target.specs.declared.targets.Kind.{Kind}
use Rattle.acl_target.specs.declared.targets.Kind.TheVariants.{Cisco, Juniper, Iptables, Nftables}
use Rattle.acl_target.specs.declared.targets.Target.{Target}
use Rattle.acl_policy.specs.declared.blocks.Block.{Block}
use Rattle.acl_policy.specs.declared.blocks.Policy.{Policy}
use Rattle.acl_policy.specs.declared.states.Part.{Part}
use Rattle.acl_policy.specs.declared.states.Part.TheVariants.{Start, Header, InHeader, HeaderEnd, Term, Named, InTerm, TermEnd}
use Rattle.acl_policy.specs.declared.states.PolicyState.{PolicyState}
use Rattle.acl_policy.specs.declared.target_lines.NamedTarget.{NamedTarget}
use Rattle.acl_policy.specs.declared.values.Takes.TheVariants as takes
use Rattle.acl_target.specs.Clashes.{clash, same_kind}
use Rattle.acl_policy.specs.Conditions.{IsRawTerm, Each, StandsBehind, NumbersDiffer, NameIsNew, IsBlock, targets_of, terms_of, IsPolicy}
use Rattle.acl_target.specs.TargetData.{IsTarget, FitsPlatform}
use Rattle.acl_policy.specs.Policies.{start, with_number, behind_target, behind_header_keyword, behind_name, with_block, behind_word, behind_words, behind_keyword, behind_begin, behind_end, behind_mark, is_mark, values_of, behind_marks, behind_all, last_place, end_of, policy_of}
use Rattle.acl_policy.specs.PolicyPlaces.{TermStands, BlockStands, PolicyStands, IsSlipPlace}
use Rattle.acl_policy.specs.Keywords.{entry}
use Rattle.acl_policy.specs.Slips.{start_place}
use Rattle.acl_policy.specs.Targets.{is_word, target_line}
use Rattle.acl_policy.specs.Terms.{no_word, list_at, draft_behind}
use Rattle.acl_policy.specs.Values.{is_plain, is_value, word_of, some_values, text_fits}
use Rattle.acl_policy.proofs.ClashLaws.{any_same, clash_same}
use Rattle.acl_text.specs.AnsweredCodes.{EndsAnswered}
use Rattle.acl_text.specs.declared.faults.Code.TheVariants as codes_of
use Rattle.acl_policy.proofs.Outcomes.{Has, ToldAt, answered_for, bind_has, if_has, at_other, and_right, not_false}
use Rattle.acl_policy.proofs.TargetFit.{IsNamed, line_good, renumbered}
use Rattle.acl_policy.proofs.TermFit.{Stand, Fits, Sound, some_fit, draft_sound, term_sound}

each_push : {A : Type 0} (R : List A → A → Type 0) (before xs : List A) (x : A) → Each R before xs → R (before ++ xs) x
    → Each R before (xs ++ x ∷ [])
each_push R before [] x h k = (subst (λ b. R b x) (append-nil before) k, tt)
each_push R before (y ∷ ys) x h k =
    (h.0, each_push R (before ++ y ∷ []) ys x h.1 (subst (λ b. R b x) (sym (append_assoc before (y ∷ []) ys)) k))

-- Numbers count the targets of a platform, so that they differ.
abbrev IsCounted : List Target → Target → Type 0
IsCounted all t = t.number ≤ count_by (λ e. same_kind e.kind t.kind) all

count_more : (p : Target → Bool) (xs : List Target) (x : Target) → count_by p xs ≤ count_by p (xs ++ x ∷ [])
count_more p xs x = omega (arith, sum_by-append (λ y. cond (p y) 1 0) xs (x ∷ []))

count_one : (p : Target → Bool) (xs : List Target) (x : Target) → p x ≡ true → count_by p xs + 1 ≤ count_by p (xs ++ x ∷ [])
count_one p xs x e =
    let one : count_by p (x ∷ []) ≡ 1 = sum_by-cons (λ y. cond (p y) 1 0) x [] ∙ ap (λ b. cond b 1 0 + 0) e in
    omega (arith, one, sum_by-append (λ y. cond (p y) 1 0) xs (x ∷ []))

same_itself : (k : Kind) → same_kind k k ≡ true
same_itself Cisco = refl
same_itself Juniper = refl
same_itself Iptables = refl
same_itself Nftables = refl

counted_push : (all : List Target) (t : Target) → t.number ≡ count_by (λ e. same_kind e.kind t.kind) all + 1
    → All (IsCounted all) all → All (IsCounted (all ++ t ∷ [])) (all ++ t ∷ [])
counted_push all t n h = All-push (IsCounted (all ++ t ∷ [])) all t
    (All-weaker (IsCounted all) (IsCounted (all ++ t ∷ []))
    (λ e le. omega (arith, le, count_more (λ (x : Target). same_kind x.kind e.kind) all t)) all h)
    (omega (arith, n, count_one (λ (x : Target). same_kind x.kind t.kind) all t (same_itself t.kind)))

numbers_push : (all : List Target) (t : Target) → t.number ≡ count_by (λ e. same_kind e.kind t.kind) all + 1
    → All (IsCounted all) all → NumbersDiffer all → NumbersDiffer (all ++ t ∷ [])
numbers_push all t n h differ = all_pairs_push (λ (a b : Target). a.kind ≡ b.kind → a.number ≢ b.number) all t differ
    (λ k d lt. less (get_or all k d) (h k d lt))
  where
    less : (e : Target) → IsCounted all e → e.kind ≡ t.kind → e.number ≢ t.number
    less e le same equal =
        let counts : count_by (λ (x : Target). same_kind x.kind e.kind) all ≡ count_by (λ (x : Target). same_kind x.kind t.kind) all
        = ap (λ q. count_by (λ (x : Target). same_kind x.kind q) all) same in
        omega (arith, le, n, equal, counts)

few : (n : ℕ) → nat_le 64 n ≡ false → n < 64
few n h = grind (arith, nat_tests)

fewer_terms : (n : ℕ) → nat_le 1024 n ≡ false → n < 1024
fewer_terms n h = grind (arith, nat_tests)

target_is : (earlier : List Target) (t : Target) → length earlier < 64 → FitsPlatform t.kind t → IsTarget (with_number earlier t)
target_is earlier t h g =
    let most = count_by-le-length (λ e. same_kind e.kind t.kind) earlier in
    record { platform = renumbered t.kind t _ g; number_from = omega arith; number_to = omega arith }

stands_behind : (earlier : List Target) (t : Target) → list_any (λ e. clash e t) earlier ≡ false
    → StandsBehind earlier (with_number earlier t)
stands_behind earlier t h = record {
  clashes_not = any_same (λ e. clash e (with_number earlier t)) (λ e. clash e t) earlier (λ e. clash_same e t _) ∙ h;
  number_is = refl;
}

-- The terms of the blocks, and one that is open, are among those that have begun.
abbrev open_terms : Part → ℕ
open_terms Start = 0
open_terms Header = 0
open_terms InHeader = 0
open_terms HeaderEnd = 0
open_terms Term = 0
open_terms Named = 1
open_terms InTerm = 1
open_terms TermEnd = 0

abbrev Few : Part → PolicyState → Type 0
Few p s = (length (terms_of s.blocks) + length s.terms + open_terms p ≤ s.term_count) × (s.term_count ≤ 1024)

terms_in : (blocks : List Block) (targets : List Target) (terms : List RawTerm)
    → length (terms_of (blocks ++ record { targets = targets; terms = terms } ∷ [])) ≡ length (terms_of blocks) + length terms
terms_in blocks targets terms =
    ap length (flat_map-append (λ (b : Block). b.terms) blocks (record { targets = targets; terms = terms } ∷ []))
    ∙ length-append (terms_of blocks) (terms ++ [])
    ∙ ap (λ xs. length (terms_of blocks) + length xs) (append-nil terms)

targets_in : (blocks : List Block) (targets : List Target) (terms : List RawTerm)
    → targets_of blocks ++ targets ≡ targets_of (blocks ++ record { targets = targets; terms = terms } ∷ []) ++ []
targets_in blocks targets terms =
    ap (λ xs. targets_of blocks ++ xs) (sym (append-nil targets))
    ∙ sym (flat_map-append (λ (b : Block). b.targets) blocks (record { targets = targets; terms = terms } ∷ []))
    ∙ sym (append-nil (targets_of (blocks ++ record { targets = targets; terms = terms } ∷ [])))

some : (n : ℕ) → (n == 0) ≡ false → 0 < n
some n h = grind (arith, nat_tests)

longer : (ts : List RawTerm) (t : RawTerm) → length (ts ++ t ∷ []) ≡ length ts + 1
longer ts t = length-append ts (t ∷ [])

module _ (At : Place → Type 0) where
  abbrev GoodTarget : Target → Type 0
  GoodTarget t = IsTarget t × At t.place

  abbrev GoodTerm : RawTerm → Type 0
  GoodTerm t = IsRawTerm t × TermStands At t

  abbrev GoodBlock : Block → Type 0
  GoodBlock b = IsBlock b × BlockStands At b

  -- What holds of the blocks, of all targets, and of the block's targets and terms.
  record Base (blocks : List Block) (earlier targets : List Target) (terms : List RawTerm) : Type 0 where
    pub blocks_are : All GoodBlock blocks
    pub earlier_is : earlier ≡ targets_of blocks ++ targets
    pub all_stand : Each StandsBehind [] earlier
    pub numbers_differ : NumbersDiffer earlier
    pub all_counted : All (IsCounted earlier) earlier
    pub few_targets : length earlier ≤ 64
    pub targets_are : All GoodTarget targets
    pub terms_are : All GoodTerm terms
    pub names_differ : Each NameIsNew [] terms

  abbrev SoundName : List RawTerm → TermDraft → Type 0
  SoundName terms d =
      (is_name d.term.name.text ≡ true)
      × (list_any (λ e. bytes_eq e.name.text d.term.name.text) terms ≡ false)
      × At d.term.name.place

  -- What holds besides by the part where the reading stands.
  abbrev Stands : Part → List Target → List RawTerm → TermDraft → Type 0
  Stands Start targets terms d = Unit {0}
  Stands Header targets terms d = Unit {0}
  Stands InHeader targets terms d = Unit {0}
  Stands HeaderEnd targets terms d = 0 < length targets
  Stands Term targets terms d = 0 < length targets
  Stands Named targets terms d = (0 < length targets) × SoundName terms d
  Stands InTerm targets terms d = (0 < length targets) × SoundName terms d
  Stands TermEnd targets terms d = (0 < length targets) × (0 < length terms)

  -- The same, at a part that is told apart.
  record GoodAt (p : Part) (s : PolicyState) : Type 0 where
    pub base : Base s.blocks s.earlier s.targets s.terms
    pub draft_is : Sound At s.draft.term.name s.draft
    pub stands : Stands p s.targets s.terms s.draft
    pub few_terms : Few p s

  abbrev Good : PolicyState → Type 0
  Good s = GoodAt s.part s

  start_good : Good start
  start_good = record {
    base = record {
      blocks_are = All-nil GoodBlock;
      earlier_is = refl;
      all_stand = tt;
      numbers_differ = λ i j d lt in_list. absurd (omega (arith, lt, in_list));
      all_counted = All-nil (IsCounted []);
      few_targets = omega arith;
      targets_are = All-nil GoodTarget;
      terms_are = All-nil GoodTerm;
      names_differ = tt;
    };
    draft_is = draft_sound At no_word;
    stands = tt;
    few_terms = (omega arith, omega arith);
  }

  with_target_base : (s : PolicyState) (t : Target) → Base s.blocks s.earlier s.targets s.terms → GoodTarget t
      → length s.earlier < 64 → StandsBehind s.earlier t
      → Base s.blocks (s.earlier ++ t ∷ []) (s.targets ++ t ∷ []) s.terms
  with_target_base s t b h room k = record {
    blocks_are = b.blocks_are;
    earlier_is = ap (λ xs. xs ++ t ∷ []) b.earlier_is ∙ append_assoc (targets_of s.blocks) s.targets (t ∷ []);
    all_stand = each_push StandsBehind [] s.earlier t b.all_stand k;
    numbers_differ = numbers_push s.earlier t k.number_is b.all_counted b.numbers_differ;
    all_counted = counted_push s.earlier t k.number_is b.all_counted;
    few_targets = omega (arith, room, length-append s.earlier (t ∷ []));
    targets_are = All-push GoodTarget s.targets t b.targets_are h;
    terms_are = b.terms_are;
    names_differ = b.names_differ;
  }

  target_good : (s : PolicyState) (k : Token) (n : NamedTarget) → GoodAt InHeader s → s.part ≡ InHeader → At k.place → IsNamed At n
      → Has (ToldAt At) Good (behind_target s k n)
  unfolding behind_target
  target_good s k n h p a g = if_has (ToldAt At) Good (list_any (λ e. clash e n.target) s.earlier) _ _ (λ _. (g.name_stands, tt))
      (λ free. if_has (ToldAt At) Good (nat_le 64 (length s.earlier)) _ _ (λ _. (a, tt))
      (λ room. record {
        base = with_target_base s (with_number s.earlier n.target) h.base
            (target_is s.earlier n.target (few (length s.earlier) room) g.fits, g.line_stands)
            (few (length s.earlier) room) (stands_behind s.earlier n.target free);
        draft_is = h.draft_is;
        stands = stands_in (with_number s.earlier n.target);
        few_terms = subst (λ q. Few q s) (sym p) h.few_terms;
      }))
    where
      stands_in : (t : Target) → Stands s.part (s.targets ++ t ∷ []) s.terms s.draft
      stands_in t = subst (λ q. Stands q (s.targets ++ t ∷ []) s.terms s.draft) (sym p) tt

  header_good : (s : PolicyState) (k : Token) (ws : List Token) → GoodAt InHeader s → s.part ≡ InHeader → Good s
      → At k.place → Stand At ws → Has (ToldAt At) Good (behind_header_keyword s k ws)
  unfolding behind_header_keyword
  header_good s k ws h p g a st = if_has (ToldAt At) Good (bytes_eq k.text (codes "comment::")) _ _
      (λ _. bind_has (ToldAt At) (λ _. All (Fits At takes.String) (map word_of ws)) Good (some_values takes.String k ws) _ (some_fit At takes.String k ws a st) (λ _ _. g))
      (λ _. if_has (ToldAt At) Good (bytes_eq k.text (codes "target::")) _ _
      (λ _. bind_has (ToldAt At) (IsNamed At) Good (target_line k ws) _ (line_good At k ws a st) (λ n m. target_good s k n h p a m))
      (λ _. (a, tt)))

  name_good : (s : PolicyState) (w : Token) → GoodAt Term s → At w.place → Has (ToldAt At) Good (behind_name s w)
  unfolding behind_name
  name_good s w h a = if_has (ToldAt At) Good (not (is_value takes.Name w)) _ _ (λ _. (a, answered_for w.form codes_of.Syntax tt))
      (λ named. if_has (ToldAt At) Good (list_any (λ t. bytes_eq t.name.text w.text) s.terms) _ _ (λ _. (a, tt))
      (λ new. if_has (ToldAt At) Good (nat_le 1024 s.term_count) _ _ (λ _. (a, tt))
      (λ room. record {
        base = h.base;
        draft_is = draft_sound At (word_of w);
        stands = (h.stands, (and_right (is_plain w.form) (is_name w.text) (not_false (is_value takes.Name w) named), new, a));
        few_terms = (omega (arith, h.few_terms.0), omega (arith, fewer_terms s.term_count room));
      })))

  block_is : (s : PolicyState) → GoodAt TermEnd s → GoodBlock (record { targets = s.targets; terms = s.terms })
  block_is s h = (
    record {
      some_target = h.stands.0;
      targets_are = All-weaker GoodTarget IsTarget (λ t g. g.0) s.targets h.base.targets_are;
      some_term = h.stands.1;
      terms_are = All-weaker GoodTerm IsRawTerm (λ t g. g.0) s.terms h.base.terms_are;
      names_differ = h.base.names_differ;
    },
    record {
      targets_stand = All-weaker GoodTarget (λ (t : Target). At t.place) (λ t g. g.1) s.targets h.base.targets_are;
      terms_stand = All-weaker GoodTerm (TermStands At) (λ t g. g.1) s.terms h.base.terms_are;
    },
  )

  with_block_base : (s : PolicyState) → GoodAt TermEnd s → Base (with_block s).blocks s.earlier [] []
  with_block_base s h =
      let b : Block = record { targets = s.targets; terms = s.terms } in
      record {
        blocks_are = All-push GoodBlock s.blocks b h.base.blocks_are (block_is s h);
        earlier_is = h.base.earlier_is ∙ targets_in s.blocks s.targets s.terms;
        all_stand = h.base.all_stand;
        numbers_differ = h.base.numbers_differ;
        all_counted = h.base.all_counted;
        few_targets = h.base.few_targets;
        targets_are = All-nil GoodTarget;
        terms_are = All-nil GoodTerm;
        names_differ = tt;
      }

  word_good : (p : Part) (s : PolicyState) (w : Token) → GoodAt p s → At w.place → Has (ToldAt At) Good (behind_word p s w)
  unfolding behind_word
  word_good Start s w h a = if_has (ToldAt At) Good (is_word w (codes "header")) _ _
      (λ _. record { base = h.base; draft_is = h.draft_is; stands = tt; few_terms = h.few_terms }) (λ _. (a, answered_for w.form codes_of.Syntax tt))
  word_good Header s w h a = (a, answered_for w.form codes_of.Syntax tt)
  word_good InHeader s w h a = (a, answered_for w.form codes_of.Syntax tt)
  word_good HeaderEnd s w h a = if_has (ToldAt At) Good (is_word w (codes "term")) _ _
      (λ _. record { base = h.base; draft_is = h.draft_is; stands = h.stands; few_terms = h.few_terms })
      (λ _. if_has (ToldAt At) Good (is_word w (codes "header")) _ _ (λ _. (a, tt)) (λ _. (a, answered_for w.form codes_of.Syntax tt)))
  word_good Term s w h a = name_good s w h a
  word_good Named s w h a = (a, answered_for w.form codes_of.Syntax tt)
  word_good InTerm s w h a = (a, answered_for w.form codes_of.Syntax tt)
  word_good TermEnd s w h a = if_has (ToldAt At) Good (is_word w (codes "term")) _ _
      (λ _. record { base = h.base; draft_is = h.draft_is; stands = h.stands.0; few_terms = h.few_terms })
      (λ _. if_has (ToldAt At) Good (is_word w (codes "header")) _ _
      (λ _. record {
        base = with_block_base s h;
        draft_is = h.draft_is;
        stands = tt;
        few_terms = (omega (arith, h.few_terms.0, terms_in s.blocks s.targets s.terms), h.few_terms.1);
      })
      (λ _. (a, answered_for w.form codes_of.Syntax tt)))

  words_good : (s : PolicyState) (ws : List Token) → Good s → Stand At ws → Has (ToldAt At) Good (behind_words s ws)
  words_good s [] h st = h
  words_good s (w ∷ ws) h st = bind_has (ToldAt At) Good Good (behind_word s.part s w) _ (word_good s.part s w h st.0) (λ t g. words_good t ws g st.1)

  keyword_good : (p : Part) (s : PolicyState) (k : Token) (ws : List Token) → s.part ≡ p → GoodAt p s → Good s
      → At k.place → Stand At ws → Has (ToldAt At) Good (behind_keyword p s k ws)
  unfolding behind_keyword
  keyword_good Start s k ws e h g a st = (a, tt)
  keyword_good Header s k ws e h g a st = (a, tt)
  keyword_good InHeader s k ws e h g a st = header_good s k ws h e g a st
  keyword_good HeaderEnd s k ws e h g a st = (a, tt)
  keyword_good Term s k ws e h g a st = (a, tt)
  keyword_good Named s k ws e h g a st = (a, tt)
  keyword_good InTerm s k ws e h g a st = bind_has (ToldAt At) (Sound At s.draft.term.name) Good (draft_behind s.draft k ws) _
      (term_sound At s.draft.term.name s.draft k ws h.draft_is a st)
      (λ d m. record {
        base = h.base;
        draft_is = record { name_is = refl; action_fits = m.action_fits; lists = m.lists };
        stands = subst (λ q. Stands q s.targets s.terms d) (sym e) (h.stands.0, named_on d m.name_is);
        few_terms = subst (λ q. Few q s) (sym e) h.few_terms;
      })
    where
      named_on : (d : TermDraft) → d.term.name ≡ s.draft.term.name → SoundName s.terms d
      named_on d n = (
        ap (λ w. is_name w.text) n ∙ h.stands.1.0,
        ap (λ w. list_any (λ e. bytes_eq e.name.text w.text) s.terms) n ∙ h.stands.1.1,
        subst (λ (w : Word). At w.place) (sym n) h.stands.1.2,
      )
  keyword_good TermEnd s k ws e h g a st = (a, tt)

  begin_good : (p : Part) (s : PolicyState) (m : Token) → GoodAt p s → At m.place → Has (ToldAt At) Good (behind_begin p s m)
  unfolding behind_begin
  begin_good Start s m h a = (a, tt)
  begin_good Header s m h a = record { base = h.base; draft_is = h.draft_is; stands = tt; few_terms = h.few_terms }
  begin_good InHeader s m h a = (a, tt)
  begin_good HeaderEnd s m h a = (a, tt)
  begin_good Term s m h a = (a, tt)
  begin_good Named s m h a = record { base = h.base; draft_is = h.draft_is; stands = h.stands; few_terms = h.few_terms }
  begin_good InTerm s m h a = (a, tt)
  begin_good TermEnd s m h a = (a, tt)

  term_is : (d : TermDraft) → Sound At d.term.name d → d.has_action ≡ true → is_name d.term.name.text ≡ true → At d.term.name.place
      → GoodTerm d.term
  term_is d h acted named a = (
    record {
      name_is = named;
      action_is = (h.action_fits acted).0;
      words_fit = λ key. All-weaker (Fits At (entry key).takes) (λ w. text_fits (entry key).takes w.text ≡ true) (λ w f. f.0)
          (list_at d.term key) (h.lists key);
    },
    record {
      name_stands = a;
      action_stands = (h.action_fits acted).1;
      lists_stand = λ key. All-weaker (Fits At (entry key).takes) (λ (w : Word). At w.place) (λ w f. f.1)
          (list_at d.term key) (h.lists key);
    },
  )

  with_term_base : (s : PolicyState) → GoodAt InTerm s → s.draft.has_action ≡ true
      → Base s.blocks s.earlier s.targets (s.terms ++ s.draft.term ∷ [])
  with_term_base s h acted = record {
    blocks_are = h.base.blocks_are;
    earlier_is = h.base.earlier_is;
    all_stand = h.base.all_stand;
    numbers_differ = h.base.numbers_differ;
    all_counted = h.base.all_counted;
    few_targets = h.base.few_targets;
    targets_are = h.base.targets_are;
    terms_are = All-push GoodTerm s.terms s.draft.term h.base.terms_are
        (term_is s.draft h.draft_is acted h.stands.1.0 h.stands.1.2);
    names_differ = each_push NameIsNew [] s.terms s.draft.term h.base.names_differ h.stands.1.1;
  }

  end_good : (p : Part) (s : PolicyState) (m : Token) → GoodAt p s → At m.place → Has (ToldAt At) Good (behind_end p s m)
  unfolding behind_end
  end_good Start s m h a = (a, tt)
  end_good Header s m h a = (a, tt)
  end_good InHeader s m h a = if_has (ToldAt At) Good (length s.targets == 0) _ _ (λ _. (a, tt))
      (λ c. record { base = h.base; draft_is = h.draft_is; stands = some (length s.targets) c; few_terms = h.few_terms })
  end_good HeaderEnd s m h a = (a, tt)
  end_good Term s m h a = (a, tt)
  end_good Named s m h a = (a, tt)
  end_good InTerm s m h a = if_has (ToldAt At) Good s.draft.has_action _ _
      (λ c. record {
        base = with_term_base s h c;
        draft_is = draft_sound At no_word;
        stands = (h.stands.0, omega (arith, longer s.terms s.draft.term));
        few_terms = (omega (arith, h.few_terms.0, longer s.terms s.draft.term), h.few_terms.1);
      })
      (λ _. (a, tt))
  end_good TermEnd s m h a = (a, tt)

  ended_good : (s : PolicyState) (m : Token) (ws : List Token) → Good s → At m.place → Stand At ws
      → Has (ToldAt At) Good (behind_end s.part s m >>= λ t. behind_words t ws)
  ended_good s m ws h a st = bind_has (ToldAt At) Good Good (behind_end s.part s m) _ (end_good s.part s m h a) (λ t g. words_good t ws g st)

  mark_good : (f : Form) (s : PolicyState) (m : Token) (ws : List Token) → Good s → At m.place → Stand At ws
      → Has (ToldAt At) Good (behind_mark f s m ws)
  unfolding behind_mark
  mark_good forms.Keyword s m ws h a st = keyword_good s.part s m ws refl h h a st
  mark_good forms.Begin s m ws h a st = bind_has (ToldAt At) Good Good (behind_begin s.part s m) _ (begin_good s.part s m h a) (λ t g. words_good t ws g st)
  mark_good forms.End s m ws h a st = ended_good s m ws h a st
  mark_good forms.Plain s m ws h a st = ended_good s m ws h a st
  mark_good forms.Quoted s m ws h a st = ended_good s m ws h a st
  mark_good forms.Unclosed s m ws h a st = ended_good s m ws h a st
  mark_good forms.Bad s m ws h a st = ended_good s m ws h a st

  either : {A : Type 0} (Q : A → Type 0) (c : Bool) (x y : A) → Q x → Q y → Q (if c then x else y)
  either Q true x y h k = h
  either Q false x y h k = k

  values_stand : (ws : List Token) → Stand At ws → Stand At (values_of ws)
  values_stand [] st = tt
  values_stand (w ∷ ws) st = either (Stand At) (is_mark w.form) _ _ tt (st.0, values_stand ws st.1)

  marks_good : (s : PolicyState) (ws : List Token) → Good s → Stand At ws → Has (ToldAt At) Good (behind_marks s ws)
  marks_good s [] h st = h
  marks_good s (w ∷ ws) h st = if_has (ToldAt At) Good (is_mark w.form) _ _
      (λ _. bind_has (ToldAt At) Good Good (behind_mark w.form s w (values_of ws)) _
      (mark_good w.form s w (values_of ws) h st.0 (values_stand ws st.1)) (λ t g. marks_good t ws g st.1))
      (λ _. marks_good s ws h st.1)

  all_good : (ws : List Token) → Stand At ws → Has (ToldAt At) Good (behind_all ws)
  all_good ws st = bind_has (ToldAt At) Good Good (behind_words start (values_of ws)) _
      (words_good start (values_of ws) start_good (values_stand ws st)) (λ s g. marks_good s ws g st)

  -- A slip stands at such a place, or at the start.
  abbrev OrStart : Place → Type 0
  OrStart place = (place ≡ start_place) ⊎ At place

  abbrev GoodPolicy : Policy → Type 0
  GoodPolicy p = IsPolicy p × All (BlockStands At) p.blocks

  end_is_good : (p : Part) (s : PolicyState) (place : Place) → GoodAt p s → OrStart place → Has (ToldAt OrStart) GoodPolicy (end_of p s place)
  unfolding end_of
  end_is_good Start s place h a = (a, tt)
  end_is_good Header s place h a = (a, tt)
  end_is_good InHeader s place h a = (a, tt)
  end_is_good HeaderEnd s place h a = (a, tt)
  end_is_good Term s place h a = (a, tt)
  end_is_good Named s place h a = (a, tt)
  end_is_good InTerm s place h a = (a, tt)
  end_is_good TermEnd s place h a =
      let b = with_block_base s h in
      let all : s.earlier ≡ targets_of (with_block s).blocks = b.earlier_is ∙ append-nil (targets_of (with_block s).blocks) in (
        record {
          blocks_are = All-weaker GoodBlock IsBlock (λ x g. g.0) (with_block s).blocks b.blocks_are;
          targets_stand = subst (λ ts. Each StandsBehind [] ts) all b.all_stand;
          numbers_differ = subst NumbersDiffer all b.numbers_differ;
          few_targets = subst (λ (ts : List Target). length ts ≤ 64) all b.few_targets;
          few_terms = omega (arith, h.few_terms.0, h.few_terms.1, terms_in s.blocks s.targets s.terms);
        },
        All-weaker GoodBlock (BlockStands At) (λ x g. g.1) (with_block s).blocks b.blocks_are,
      )

  last_stands : (place : Place) (ws : List Token) → OrStart place → Stand At ws → OrStart (last_place place ws)
  last_stands place [] h st = h
  last_stands place (w ∷ ws) h st = last_stands w.place ws (inr st.0) st.1

  policy_good : (ws : List Token) → Stand At ws → Has (ToldAt OrStart) GoodPolicy (policy_of ws)
  unfolding policy_of
  policy_good ws st = bind_has (ToldAt OrStart) Good GoodPolicy (behind_all ws) _
      (at_other (ToldAt At) (ToldAt OrStart) Good (behind_all ws) (all_good ws st) (λ p h. (inr h.0, h.1)))
      (λ s g. end_is_good s.part s (last_place start_place ws) g (last_stands start_place ws (inl refl) st))

-- Each word stands anywhere.
anywhere : (ws : List Token) → Stand (λ _. Unit {0}) ws
anywhere [] = tt
anywhere (w ∷ ws) = (tt, anywhere ws)

given_fits : (r : Result Policy Refusal) (x : Result Policy Slip) → Gives slip_told r x
    → Has (ToldAt (OrStart (λ _. Unit {0}))) (GoodPolicy (λ _. Unit {0})) x → IfOk r IsPolicy
given_fits (Ok p) x e h = (subst (Has (ToldAt (OrStart (λ _. Unit {0}))) (GoodPolicy (λ _. Unit {0}))) e h).0
given_fits (Err f) x e h = tt

pub read_fits : (r : Result Policy Refusal) (ws : List Token) → Gives slip_told r (policy_of ws) → IfOk r IsPolicy
read_fits r ws e = given_fits r (policy_of ws) e (policy_good (λ _. Unit {0}) ws (anywhere ws))

answered_slip : (x : Result Policy Slip) → Has (ToldAt (OrStart (λ _. Unit {0}))) (GoodPolicy (λ _. Unit {0})) x → EndsAnswered x
answered_slip (Ok p) h = tt
answered_slip (Err s) h = h.1

-- the code of a policy's slip is one that `aclgen` answers
pub policy_answered : (ws : List Token) → EndsAnswered (policy_of ws)
policy_answered ws = answered_slip (policy_of ws) (policy_good (λ _. Unit {0}) ws (anywhere ws))

lines_stand : (lines : List Line) (ws : List Token) → HaveLinePlaces lines ws → Stand (IsLinePlace lines) ws
lines_stand lines ws h = recursion_from_All (λ (w : Token). IsLinePlace lines w.place) ws h

given_stands : (lines : List Line) (r : Result Policy Refusal) (x : Result Policy Slip) → Gives slip_told r x
    → Has (ToldAt (OrStart (IsLinePlace lines))) (GoodPolicy (IsLinePlace lines)) x → IfOk r (PolicyStands lines)
given_stands lines (Ok p) x e h = (subst (Has (ToldAt (OrStart (IsLinePlace lines))) (GoodPolicy (IsLinePlace lines))) e h).1
given_stands lines (Err f) x e h = tt

pub read_stands : (lines : List Line) (r : Result Policy Refusal) (ws : List Token) → Gives slip_told r (policy_of ws)
    → HaveLinePlaces lines ws → IfOk r (PolicyStands lines)
read_stands lines r ws e h = given_stands lines r (policy_of ws) e (policy_good (IsLinePlace lines) ws (lines_stand lines ws h))

given_slip : (lines : List Line) (r : Result Policy Refusal) (x : Result Policy Slip) → Gives slip_told r x
    → Has (ToldAt (OrStart (IsLinePlace lines))) (GoodPolicy (IsLinePlace lines)) x
    → IfErr r (λ e. IfSome (slip_told e) (λ s. IsSlipPlace lines s.place))
given_slip lines (Ok p) x e h = tt
given_slip lines (Err (refusals.Slip s)) x e h = (subst (Has (ToldAt (OrStart (IsLinePlace lines))) (GoodPolicy (IsLinePlace lines))) e h).0
given_slip lines (Err refusals.Memory) x e h = tt

pub read_slips : (lines : List Line) (r : Result Policy Refusal) (ws : List Token) → Gives slip_told r (policy_of ws)
    → HaveLinePlaces lines ws → IfErr r (λ e. IfSome (slip_told e) (λ s. IsSlipPlace lines s.place))
read_slips lines r ws e h = given_slip lines r (policy_of ws) e (policy_good (IsLinePlace lines) ws (lines_stand lines ws h))
