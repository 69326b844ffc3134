-- The blocks of a policy, from its words.
--
-- The words are cut at each keyword and at each brace. Such a mark is judged with the words behind it, its values, up
-- to the next mark: so a keyword is closed before the next word that is no value of its is judged, and a word that is a
-- slip by itself stands among the values of the keyword before it and is met before that one is closed.
use Rattle.std.specs.Prelude.{ℕ, ◌+◌, Bool, true, false, not, ◌==◌, nat_le, if◌then◌else◌, List, [], ◌∷◌, ◌++◌, length, Result, Ok, Err, codes}
use Rattle.std.specs.List.{list_any, count_by}
use Rattle.std.specs.Str.{bytes_eq}
use Rattle.acl_text.specs.declared.faults.Code.TheVariants as codes_of
use Rattle.acl_text.specs.declared.faults.Place.{Place}
use Rattle.acl_text.specs.declared.faults.Slip.{Slip}
use Rattle.acl_words.specs.declared.forms.Form.{Form}
use Rattle.acl_words.specs.declared.forms.Form.TheVariants as forms
use Rattle.acl_words.specs.Tokens.{Token}
use Rattle.acl_target.specs.declared.targets.Target.{Target}
use Rattle.acl_policy.specs.declared.blocks.Policy.{Policy}
use Rattle.acl_policy.specs.declared.states.Part.{Part}
use Rattle.acl_policy.specs.declared.states.Part.TheVariants.{Start, Header, InHeader, HeaderEnd, Term, Named, InTerm, TermEnd}
use Rattle.acl_policy.specs.declared.states.PolicyState.{PolicyState}
use Rattle.acl_policy.specs.declared.target_lines.NamedTarget.{NamedTarget}
use Rattle.acl_policy.specs.declared.values.Takes.TheVariants as takes
use Rattle.acl_target.specs.Clashes.{clash, same_kind}
use Rattle.acl_text.specs.Refusals.{slip}
use Rattle.acl_policy.specs.Slips.{start_place, slip_of, slip_for}
use Rattle.acl_text.specs.Steps.{◌>>=◌}
use Rattle.acl_policy.specs.Targets.{is_word, target_line}
use Rattle.acl_policy.specs.Terms.{no_draft, draft_of, draft_behind}
use Rattle.acl_policy.specs.Values.{is_value, word_of, some_values}

abbrev pub start : PolicyState
start = record {
  blocks = [];
  earlier = [];
  targets = [];
  terms = [];
  term_count = 0;
  part = Start;
  draft = no_draft;
}

-- A policy has at most 64 target lines and 1,024 terms.
abbrev pub most_targets : ℕ
most_targets = 64

abbrev pub most_terms : ℕ
most_terms = 1024

-- A target's number counts the target lines of its platform in the policy, from 1.
abbrev pub with_number : List Target → Target → Target
with_number earlier t = record t { number = count_by (λ e. same_kind e.kind t.kind) earlier + 1 }

abbrev pub with_target : PolicyState → Target → PolicyState
with_target s t = record s { earlier = s.earlier ++ t ∷ []; targets = s.targets ++ t ∷ [] }

-- A target stands where it clashes with no target of the policy before it, of any block, and is none too many.
unfoldable pub behind_target : PolicyState → Token → NamedTarget → Result PolicyState Slip
behind_target s k n =
    if list_any (λ e. clash e n.target) s.earlier
    then Err (slip codes_of.FilterTwice n.place n.target.name)
    else if nat_le most_targets (length s.earlier) then Err (slip_of codes_of.TooMany k)
    else Ok (with_target s (with_number s.earlier n.target))

-- A keyword of a header. Its comment is read and not written.
unfoldable pub behind_header_keyword : PolicyState → Token → List Token → Result PolicyState Slip
behind_header_keyword s k ws =
    if bytes_eq k.text (codes "comment::") then (some_values takes.String k ws >>= λ _. Ok s)
    else if bytes_eq k.text (codes "target::") then (target_line k ws >>= λ n. behind_target s k n)
    else Err (slip_of codes_of.Keyword k)

-- The name of a term: a name, which no term of the block has, and not of a term too many.
unfoldable pub behind_name : PolicyState → Token → Result PolicyState Slip
behind_name s w =
    if not (is_value takes.Name w) then Err (slip_for codes_of.Syntax w)
    else if list_any (λ t. bytes_eq t.name.text w.text) s.terms
    then Err (slip_of codes_of.TermTwice w)
    else if nat_le most_terms s.term_count then Err (slip_of codes_of.TooMany w)
    else Ok (record s { draft = draft_of (word_of w); term_count = s.term_count + 1; part = Named })

-- The block's targets and terms become a block.
abbrev pub with_block : PolicyState → PolicyState
with_block s = record s {
  blocks = s.blocks ++ record { targets = s.targets; terms = s.terms } ∷ [];
  targets = [];
  terms = [];
}

abbrev pub with_term : PolicyState → PolicyState
with_term s = record s { terms = s.terms ++ s.draft.term ∷ []; draft = no_draft; part = TermEnd }

-- A word that is no value of a keyword.
unfoldable pub behind_word : Part → PolicyState → Token → Result PolicyState Slip
behind_word Start s w =
    if is_word w (codes "header") then Ok (record s { part = Header })
    else Err (slip_for codes_of.Syntax w)
behind_word HeaderEnd s w =
    if is_word w (codes "term") then Ok (record s { part = Term })
    -- the block before it has no term
    else if is_word w (codes "header") then Err (slip codes_of.Missing w.place (codes "term"))
    else Err (slip_for codes_of.Syntax w)
behind_word Term s w = behind_name s w
behind_word TermEnd s w =
    if is_word w (codes "term") then Ok (record s { part = Term })
    else if is_word w (codes "header") then Ok (record (with_block s) { part = Header })
    else Err (slip_for codes_of.Syntax w)
behind_word _ s w = Err (slip_for codes_of.Syntax w)

abbrev pub behind_words : PolicyState → List Token → Result PolicyState Slip
behind_words s [] = Ok s
behind_words s (w ∷ ws) = behind_word s.part s w >>= λ t. behind_words t ws

-- A keyword, with its values.
unfoldable pub behind_keyword : Part → PolicyState → Token → List Token → Result PolicyState Slip
behind_keyword InHeader s k ws = behind_header_keyword s k ws
behind_keyword InTerm s k ws = draft_behind s.draft k ws >>= λ d. Ok (record s { draft = d })
behind_keyword _ s k ws = Err (slip_of codes_of.Syntax k)

-- `{`.
unfoldable pub behind_begin : Part → PolicyState → Token → Result PolicyState Slip
behind_begin Header s m = Ok (record s { part = InHeader })
behind_begin Named s m = Ok (record s { part = InTerm })
behind_begin _ s m = Err (slip_of codes_of.Syntax m)

-- `}`. A header has a target, and a term an action.
unfoldable pub behind_end : Part → PolicyState → Token → Result PolicyState Slip
behind_end InHeader s m =
    if length s.targets == 0 then Err (slip codes_of.Missing m.place (codes "target::"))
    else Ok (record s { part = HeaderEnd })
behind_end InTerm s m =
    if s.draft.has_action then Ok (with_term s)
    else Err (slip codes_of.Missing m.place (codes "action::"))
behind_end _ s m = Err (slip_of codes_of.Syntax m)

-- A keyword or a brace, and the words behind it up to the next one.
unfoldable pub behind_mark : Form → PolicyState → Token → List Token → Result PolicyState Slip
behind_mark forms.Keyword s m ws = behind_keyword s.part s m ws
behind_mark forms.Begin s m ws = behind_begin s.part s m >>= λ t. behind_words t ws
behind_mark _ s m ws = behind_end s.part s m >>= λ t. behind_words t ws

abbrev pub is_mark : Form → Bool
is_mark forms.Keyword = true
is_mark forms.Begin = true
is_mark forms.End = true
is_mark _ = false

-- The words before the first mark.
abbrev pub values_of : List Token → List Token
values_of [] = []
values_of (w ∷ ws) = if is_mark w.form then [] else w ∷ values_of ws

-- Each mark is judged with the words behind it before the next one is.
abbrev pub behind_marks : PolicyState → List Token → Result PolicyState Slip
behind_marks s [] = Ok s
behind_marks s (w ∷ ws) =
    if is_mark w.form then (behind_mark w.form s w (values_of ws) >>= λ t. behind_marks t ws)
    else behind_marks s ws

abbrev pub behind_all : List Token → Result PolicyState Slip
behind_all ws = behind_words start (values_of ws) >>= λ s. behind_marks s ws

-- The place of the last word, or line 0 of the policy where there is none.
abbrev pub last_place : Place → List Token → Place
last_place place [] = place
last_place place (w ∷ ws) = last_place w.place ws

-- The end of the text.
unfoldable pub end_of : Part → PolicyState → Place → Result Policy Slip
end_of Start s place = Err (slip codes_of.Missing place (codes "header"))
end_of HeaderEnd s place = Err (slip codes_of.Missing place (codes "term"))
end_of TermEnd s place = Ok (record { blocks = (with_block s).blocks })
end_of _ s place = Err (slip codes_of.Syntax place (codes "end"))

-- The policy of the words, or the first slip.
unfoldable pub policy_of : List Token → Result Policy Slip
policy_of ws = behind_all ws >>= λ s. end_of s.part s (last_place start_place ws)
