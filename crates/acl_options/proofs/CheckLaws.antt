-- What the words of aclcheck are read as, and what they ask for, are the same.
use Rattle.std.proofs.Common.{◌≡◌, ◌∙◌, ℕ, List, [], ◌∷◌, codes, Option, None, Some, option_and_then, option_map, Result, IfOk, inl, inr, refl, ap, sym, subst}
use Rattle.std.specs.Prelude.{IfSome, IfNone, IsSomeAnd}
use Rattle.std.specs.Str.{bytes_eq}
use Rattle.std.proofs.lemmas.Slice.Eq.{bytes_eq-Decides}
use Rattle.std.proofs.lemmas.Option.{none-some, option_and_then_some, same_Some}
use Rattle.std.proofs.lemmas.Result.{IfOk-weaker}
use Rattle.clap.specs.Words.{matches_of}
use Rattle.acl_packet.specs.declared.packets.Packet.{Packet}
use Rattle.acl_packet.proofs.ChoiceLaws.{chosen, guarded}
use Rattle.acl_options.specs.PacketTexts.{IsPacketText}
use Rattle.acl_options.specs.PacketTextSteps.{packet_in}
use Rattle.acl_options.proofs.PacketTextLaws.{is-packet, packet-is}
use Rattle.acl_target.specs.TargetTexts.{kind_text}
use Rattle.acl_target.specs.declared.targets.Kind.{Kind}
use Rattle.acl_target.specs.declared.targets.Kind.TheVariants.{Cisco, Juniper, Iptables, Nftables}
use Rattle.acl_options.specs.CheckCommands.{AsksForCheck, AsksPolicy, AsksText, CheckRequest, AskPolicy, AskText, FileSection, policy_command, text_command}
use Rattle.acl_options.specs.CodeViews.{check_view}
use Rattle.acl_options.specs.Commands.{Inputs, value_in}
use Rattle.acl_options.specs.ComputableChecks.{check_request_of, file_section_in, kind_in, kind_named, packet_named, path_in, policy_question_in, section_in, text_question_in}
use Rattle.acl_options.specs.ComputableCommands.{inputs_in, rows_in}
use Rattle.acl_options.specs.declared.check_commands.CheckCommand.{CheckCommand}
use Rattle.acl_options.proofs.CommandLaws.{among-count, count-among, folder-in, in-folder, inputs-named, named-inputs, read-of-taken, taken-and-read}

-- ---- one value

packet-among : (text : Option (List ℕ)) (p : Packet) → option_and_then packet_in text ≡ Some p → IsSomeAnd text (λ t. IsPacketText t p)
packet-among None p e = absurd (none-some p e)
packet-among (Some text) p e = packet-is text p e

among-packet : (text : Option (List ℕ)) (p : Packet) → IsSomeAnd text (λ t. IsPacketText t p) → option_and_then packet_in text ≡ Some p
among-packet None p h = absurd h
among-packet (Some text) p h = is-packet text p h

kind-named : (text : List ℕ) (kind : Kind) → kind_named text ≡ Some kind → text ≡ kind_text kind
kind-named text kind e =
    let same = λ (k : Kind). (bytes_eq-Decides text (kind_text k)).0 in
    elim (chosen (bytes_eq text (kind_text Cisco)) (Some Cisco) _ (Some kind) e) [
      | inl h ↦ same Cisco h.0 ∙ ap kind_text (same_Some Cisco kind h.1)
      | inr h ↦ elim (chosen (bytes_eq text (kind_text Juniper)) (Some Juniper) _ (Some kind) h.1) [
        | inl k ↦ same Juniper k.0 ∙ ap kind_text (same_Some Juniper kind k.1)
        | inr k ↦ elim (chosen (bytes_eq text (kind_text Iptables)) (Some Iptables) _ (Some kind) k.1) [
          | inl l ↦ same Iptables l.0 ∙ ap kind_text (same_Some Iptables kind l.1)
          | inr l ↦
              let g = guarded (bytes_eq text (kind_text Nftables)) (Some Nftables) kind l.1 in
              same Nftables g.0 ∙ ap kind_text (same_Some Nftables kind g.1)
        ]
      ]
    ]

named-kind : (text : List ℕ) (kind : Kind) → text ≡ kind_text kind → kind_named text ≡ Some kind
named-kind text Cisco e = ap kind_named e
named-kind text Juniper e = ap kind_named e
named-kind text Iptables e = ap kind_named e
named-kind text Nftables e = ap kind_named e

kind-among : (text : Option (List ℕ)) (kind : Kind) → option_and_then kind_named text ≡ Some kind → IsSomeAnd text (λ t. t ≡ kind_text kind)
kind-among None kind e = absurd (none-some kind e)
kind-among (Some text) kind e = kind-named text kind e

among-kind : (text : Option (List ℕ)) (kind : Kind) → IsSomeAnd text (λ t. t ≡ kind_text kind) → option_and_then kind_named text ≡ Some kind
among-kind None kind h = absurd h
among-kind (Some text) kind h = named-kind text kind h

-- ---- the commands

policy-asked : (words : List (List ℕ)) (r : CheckRequest) → option_and_then policy_question_in (rows_in policy_command words) ≡ Some r
    → AsksForCheck (codes "policy" ∷ words) r
unfolding policy_question_in
policy-asked words r e =
    let g = read-of-taken policy_command policy_question_in words r e in
    let rows = matches_of policy_command words in
    option_and_then_some _ (inputs_in rows) r g.1 (λ inputs i e1.
    option_and_then_some _ (packet_named rows) r e1 (λ packet p e2.
    subst (AsksForCheck (codes "policy" ∷ words)) (same_Some _ r e2) (record {
      behind = words;
      begins = refl;
      asks = record {
        taken = g.0;
        inputs_named = inputs-named policy_command words inputs i;
        packet_named = packet-among (value_in policy_command words (codes "packet")) packet p;
      };
    })))

policy-answered : (words : List (List ℕ)) (inputs : Inputs) (packet : Packet) → AsksPolicy inputs packet words
    → option_and_then policy_question_in (rows_in policy_command words) ≡ Some (AskPolicy inputs packet)
unfolding policy_question_in
policy-answered words inputs packet a =
    taken-and-read policy_command policy_question_in words a.taken
    ∙ rw (named-inputs policy_command words inputs a.inputs_named, among-packet (value_in policy_command words (codes "packet")) packet a.packet_named) refl

text-asked : (words : List (List ℕ)) (r : CheckRequest) → option_and_then text_question_in (rows_in text_command words) ≡ Some r
    → AsksForCheck (codes "text" ∷ words) r
unfolding text_question_in file_section_in
text-asked words r e =
    let g = read-of-taken text_command text_question_in words r e in
    let rows = matches_of text_command words in
    option_and_then_some _ (file_section_in rows) r g.1 (λ at is e1.
    option_and_then_some _ (packet_named rows) r e1 (λ packet p e2.
    subst (AsksForCheck (codes "text" ∷ words)) (same_Some _ r e2)
    (option_and_then_some _ (path_in rows) at is (λ path q f1.
    option_and_then_some _ (kind_in rows) at f1 (λ kind k f2.
    option_and_then_some _ (section_in rows) at f2 (λ number n f3.
    let file = folder-in (value_in text_command words (codes "text")) path q in
    subst (λ s. AsksForCheck (codes "text" ∷ words) (AskText s packet)) (same_Some _ at f3) (record {
      behind = words;
      begins = refl;
      asks = record {
        taken = g.0;
        path = file.0;
        path_stands = file.1;
        kind = kind-among (value_in text_command words (codes "platform")) kind k;
        number = count-among 1024 (value_in text_command words (codes "section")) number n;
        packet_named = packet-among (value_in text_command words (codes "packet")) packet p;
      };
    })))))))

text-answered : (words : List (List ℕ)) (at : FileSection) (packet : Packet) → AsksText at packet words
    → option_and_then text_question_in (rows_in text_command words) ≡ Some (AskText at packet)
unfolding text_question_in file_section_in
text-answered words at packet a =
    taken-and-read text_command text_question_in words a.taken
    ∙ rw (
      in-folder (value_in text_command words (codes "text")) at.path a.path a.path_stands,
      among-kind (value_in text_command words (codes "platform")) at.kind a.kind,
      among-count 1024 (value_in text_command words (codes "section")) at.number a.number,
      among-packet (value_in text_command words (codes "packet")) packet a.packet_named,
    ) refl

-- ---- both

pub check-asked : (words : List (List ℕ)) (r : CheckRequest) → check_request_of words ≡ Some r → AsksForCheck words r
unfolding check_request_of
check-asked [] r e = absurd (none-some r e)
check-asked (name ∷ words) r e =
    elim (chosen (bytes_eq name (codes "policy")) (option_and_then policy_question_in (rows_in policy_command words)) _ (Some r) e) [
      | inl h ↦ subst (λ n. AsksForCheck (n ∷ words) r) (sym ((bytes_eq-Decides name (codes "policy")).0 h.0)) (policy-asked words r h.1)
      | inr h ↦
          let g = guarded (bytes_eq name (codes "text")) (option_and_then text_question_in (rows_in text_command words)) r h.1 in
          subst (λ n. AsksForCheck (n ∷ words) r) (sym ((bytes_eq-Decides name (codes "text")).0 g.0)) (text-asked words r g.1)
    ]

pub check-answered : (words : List (List ℕ)) (r : CheckRequest) → AsksForCheck words r → check_request_of words ≡ Some r
unfolding check_request_of
check-answered words (AskPolicy inputs packet) a = ap check_request_of a.begins ∙ policy-answered a.behind inputs packet a.asks
check-answered words (AskText at packet) a = ap check_request_of a.begins ∙ text-answered a.behind at packet a.asks

-- ---- over what a reader gives

abbrev Exact : List (List ℕ) → Option CheckCommand → Type 0
Exact words r = option_map check_view r ≡ check_request_of words

request-some : (words : List (List ℕ)) (r : Option CheckCommand) → Exact words r → IfSome r (λ o. AsksForCheck words (check_view o))
request-some words None e = tt
request-some words (Some o) e = check-asked words (check_view o) (sym e)

request-none : (words : List (List ℕ)) (r : Option CheckCommand) → Exact words r → IfNone r ((o : CheckRequest) → AsksForCheck words o → ⊥)
request-none words None e = λ o a. none-some o (e ∙ check-answered words o a)
request-none words (Some o) e = tt

pub check-some : {E : Type 0} (words : List (List ℕ)) (r : Result (Option CheckCommand) E) → IfOk r (Exact words)
    → IfOk r (λ o. IfSome o (λ x. AsksForCheck words (check_view x)))
check-some words r = IfOk-weaker r _ _ (request-some words)

pub check-none : {E : Type 0} (words : List (List ℕ)) (r : Result (Option CheckCommand) E) → IfOk r (Exact words)
    → IfOk r (λ o. IfNone o ((x : CheckRequest) → AsksForCheck words x → ⊥))
check-none words r = IfOk-weaker r _ _ (request-none words)
