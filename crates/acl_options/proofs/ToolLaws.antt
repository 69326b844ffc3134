-- What the words of acltool are read as, and what they ask for, are the same.
use Rattle.std.proofs.Common.{◌≡◌, ◌∙◌, ℕ, Bool, true, false, List, [], ◌∷◌, codes, Option, None, Some, option_and_then, option_map, Result, IfOk, inl, inr, refl, ap, sym, subst}
use Rattle.std.specs.Prelude.{IfSome, IfNone, IsSomeAnd, if◌then◌else◌}
use Rattle.std.specs.Str.{bytes_eq}
use Rattle.std.proofs.lemmas.Slice.Eq.{bytes_eq-Decides}
use Rattle.std.proofs.lemmas.Option.{none-some, option_and_then_some, same_Some}
use Rattle.std.proofs.lemmas.Result.{IfOk-weaker}
use Rattle.clap.specs.Words.{matches_of}
use Rattle.acl_packet.specs.declared.addresses.Family.{Family}
use Rattle.acl_packet.specs.declared.addresses.Family.TheVariants.{V4, V6}
use Rattle.acl_packet.proofs.ChoiceLaws.{chosen, guarded}
use Rattle.acl_options.specs.CodeViews.{tool_view}
use Rattle.acl_options.specs.Commands.{Inputs, value_in}
use Rattle.acl_options.specs.ComputableCommands.{inputs_in, rows_in}
use Rattle.acl_options.specs.ComputableTools.{dead_in, family_in, family_named, first_in, speedway_in, standard_in, tool_request_of}
use Rattle.acl_options.specs.ToolCommands.{AsksForDead, AsksForSpeedway, AsksForStandard, AsksForTool, ToolRequest, Speedway, Dead, Standard, dead, family_text, speedway, standard}
use Rattle.acl_options.specs.declared.tool_commands.ToolCommand.{ToolCommand}
use Rattle.acl_options.proofs.CommandLaws.{among-count, count-among, inputs-named, named-inputs, read-of-taken, taken-and-read}

-- ---- one value

family-named : (text : List ℕ) (family : Family) → family_named text ≡ Some family → text ≡ family_text family
family-named text family e =
    by (bytes_eq text (codes "inet")) (bytes_eq text (codes "inet6")) ((bytes_eq-Decides text (codes "inet")).0) ((bytes_eq-Decides text (codes "inet6")).0) e
  where
    by : (a b : Bool) → (a ≡ true → text ≡ codes "inet") → (b ≡ true → text ≡ codes "inet6")
        → (if a then Some V4 else if b then Some V6 else None) ≡ Some family → text ≡ family_text family
    by true b is4 is6 f = is4 refl ∙ ap family_text (same_Some V4 family f)
    by false true is4 is6 f = is6 refl ∙ ap family_text (same_Some V6 family f)
    by false false is4 is6 f = absurd (none-some family f)

named-family : (text : List ℕ) (family : Family) → text ≡ family_text family → family_named text ≡ Some family
named-family text V4 e = ap family_named e
named-family text V6 e = ap family_named e

family-in : (text : Option (List ℕ)) (family : Family) → option_and_then family_named text ≡ Some family
    → IsSomeAnd text (λ t. t ≡ family_text family)
family-in None family e = absurd (none-some family e)
family-in (Some text) family e = family-named text family e

in-family : (text : Option (List ℕ)) (family : Family) → IsSomeAnd text (λ t. t ≡ family_text family)
    → option_and_then family_named text ≡ Some family
in-family None family h = absurd h
in-family (Some text) family h = named-family text family h

-- ---- the commands

speedway-asked : (words : List (List ℕ)) (r : ToolRequest) → option_and_then speedway_in (rows_in speedway words) ≡ Some r
    → AsksForTool (codes "speedway" ∷ words) r
unfolding speedway_in
speedway-asked words r e =
    let g = read-of-taken speedway speedway_in words r e in
    let rows = matches_of speedway words in
    option_and_then_some _ (inputs_in rows) r g.1 (λ inputs i e1.
    option_and_then_some _ (family_in rows) r e1 (λ family f e2.
    subst (AsksForTool (codes "speedway" ∷ words)) (same_Some _ r e2) (record {
      behind = words;
      begins = refl;
      asks = record {
        taken = g.0;
        inputs_named = inputs-named speedway words inputs i;
        family_named = family-in (value_in speedway words (codes "family")) family f;
      };
    })))

speedway-answered : (words : List (List ℕ)) (inputs : Inputs) (family : Family) → AsksForSpeedway inputs family words
    → option_and_then speedway_in (rows_in speedway words) ≡ Some (Speedway inputs family)
unfolding speedway_in
speedway-answered words inputs family a =
    taken-and-read speedway speedway_in words a.taken
    ∙ rw (named-inputs speedway words inputs a.inputs_named, in-family (value_in speedway words (codes "family")) family a.family_named) refl

dead-asked : (words : List (List ℕ)) (r : ToolRequest) → option_and_then dead_in (rows_in dead words) ≡ Some r → AsksForTool (codes "dead" ∷ words) r
unfolding dead_in
dead-asked words r e =
    let g = read-of-taken dead dead_in words r e in
    option_and_then_some _ (inputs_in (matches_of dead words)) r g.1 (λ inputs i e1.
    subst (AsksForTool (codes "dead" ∷ words)) (same_Some _ r e1) (record {
      behind = words;
      begins = refl;
      asks = record { taken = g.0; inputs_named = inputs-named dead words inputs i };
    }))

dead-answered : (words : List (List ℕ)) (inputs : Inputs) → AsksForDead inputs words → option_and_then dead_in (rows_in dead words) ≡ Some (Dead inputs)
unfolding dead_in
dead-answered words inputs a = taken-and-read dead dead_in words a.taken ∙ rw (named-inputs dead words inputs a.inputs_named) refl

standard-asked : (words : List (List ℕ)) (r : ToolRequest) → option_and_then standard_in (rows_in standard words) ≡ Some r
    → AsksForTool (codes "standard" ∷ words) r
unfolding standard_in
standard-asked words r e =
    let g = read-of-taken standard standard_in words r e in
    let rows = matches_of standard words in
    option_and_then_some _ (inputs_in rows) r g.1 (λ inputs i e1.
    option_and_then_some _ (first_in rows) r e1 (λ first f e2.
    subst (AsksForTool (codes "standard" ∷ words)) (same_Some _ r e2) (record {
      behind = words;
      begins = refl;
      asks = record {
        taken = g.0;
        inputs_named = inputs-named standard words inputs i;
        first_named = count-among 99 (value_in standard words (codes "first_number")) first f;
      };
    })))

standard-answered : (words : List (List ℕ)) (inputs : Inputs) (first : ℕ) → AsksForStandard inputs first words
    → option_and_then standard_in (rows_in standard words) ≡ Some (Standard inputs first)
unfolding standard_in
standard-answered words inputs first a =
    taken-and-read standard standard_in words a.taken
    ∙ rw (named-inputs standard words inputs a.inputs_named, among-count 99 (value_in standard words (codes "first_number")) first a.first_named) refl

-- ---- all commands

pub tool-asked : (words : List (List ℕ)) (r : ToolRequest) → tool_request_of words ≡ Some r → AsksForTool words r
unfolding tool_request_of
tool-asked [] r e = absurd (none-some r e)
tool-asked (name ∷ words) r e =
    let same = λ (text : List ℕ) (h : bytes_eq name text ≡ true) (asks : AsksForTool (text ∷ words) r).
    subst (λ n. AsksForTool (n ∷ words) r) (sym ((bytes_eq-Decides name text).0 h)) asks in
    elim (chosen (bytes_eq name (codes "speedway")) (option_and_then speedway_in (rows_in speedway words)) _ (Some r) e) [
      | inl h ↦ same (codes "speedway") h.0 (speedway-asked words r h.1)
      | inr h ↦ elim (chosen (bytes_eq name (codes "dead")) (option_and_then dead_in (rows_in dead words)) _ (Some r) h.1) [
        | inl k ↦ same (codes "dead") k.0 (dead-asked words r k.1)
        | inr k ↦
            let g = guarded (bytes_eq name (codes "standard")) (option_and_then standard_in (rows_in standard words)) r k.1 in
            same (codes "standard") g.0 (standard-asked words r g.1)
      ]
    ]

pub tool-answered : (words : List (List ℕ)) (r : ToolRequest) → AsksForTool words r → tool_request_of words ≡ Some r
unfolding tool_request_of
tool-answered words (Speedway inputs family) a = ap tool_request_of a.begins ∙ speedway-answered a.behind inputs family a.asks
tool-answered words (Dead inputs) a = ap tool_request_of a.begins ∙ dead-answered a.behind inputs a.asks
tool-answered words (Standard inputs first) a = ap tool_request_of a.begins ∙ standard-answered a.behind inputs first a.asks

-- ---- over what a reader gives

abbrev Exact : List (List ℕ) → Option ToolCommand → Type 0
Exact words r = option_map tool_view r ≡ tool_request_of words

request-some : (words : List (List ℕ)) (r : Option ToolCommand) → Exact words r → IfSome r (λ o. AsksForTool words (tool_view o))
request-some words None e = tt
request-some words (Some o) e = tool-asked words (tool_view o) (sym e)

request-none : (words : List (List ℕ)) (r : Option ToolCommand) → Exact words r → IfNone r ((o : ToolRequest) → AsksForTool words o → ⊥)
request-none words None e = λ o a. none-some o (e ∙ tool-answered words o a)
request-none words (Some o) e = tt

pub tool-some : {E : Type 0} (words : List (List ℕ)) (r : Result (Option ToolCommand) E) → IfOk r (Exact words)
    → IfOk r (λ o. IfSome o (λ x. AsksForTool words (tool_view x)))
tool-some words r = IfOk-weaker r _ _ (request-some words)

pub tool-none : {E : Type 0} (words : List (List ℕ)) (r : Result (Option ToolCommand) E) → IfOk r (Exact words)
    → IfOk r (λ o. IfNone o ((x : ToolRequest) → AsksForTool words x → ⊥))
tool-none words r = IfOk-weaker r _ _ (request-none words)
