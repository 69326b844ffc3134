-- What is wrong with a term has a code that `aclgen` answers.
use Rattle.std.proofs.Common.{ℕ, Bool, true, false, List, [], ◌∷◌, is_some}
use Rattle.std.specs.List.{list_all}
use Rattle.acl_packet.specs.Packets.{has_ports}
use Rattle.acl_text.specs.AnsweredCodes.{IsAnswered, SlipIsAnswered}
use Rattle.acl_text.specs.Refusals.{first_some}
use Rattle.acl_text.specs.declared.faults.Code.{Code}
use Rattle.acl_text.specs.declared.faults.Code.TheVariants as codes
use Rattle.acl_text.proofs.AnsweredLaws.{either_answered, first_answered}
use Rattle.acl_words.specs.declared.word_lists.Word.{Word}
use Rattle.acl_policy.specs.RawTerms.{RawTerm}
use Rattle.acl_naming.specs.Definitions.{Definition, Naming}
use Rattle.acl_terms.specs.Matching.{icmp_family, only, protocols_of, type_in, types_of}
use Rattle.acl_terms.specs.Options.{option_of, verdict_of}
use Rattle.acl_terms.specs.Slips.{are_one, clash_slip, codes_slip, first_unless, is_defined, network_slip, networks_slip, option_fits, option_slip, port_protocol_slip, port_words, reaches_protocol, reset_slip, same_slip, service_slip, services_slip, slip_of, type_slip, types_slip, unless, verdict_fits}

unless_answered : (c : Bool) (code : Code) (w : Word) → IsAnswered code → SlipIsAnswered (unless c code w)
unless_answered true code w h = tt
unless_answered false code w h = h

first_unless_answered : (c : Bool) (code : Code) (ws : List Word) → IsAnswered code → SlipIsAnswered (first_unless c code ws)
first_unless_answered c code [] h = tt
first_unless_answered c code (w ∷ ws) h = unless_answered c code w h

service_answered : (services : List Definition) (protos : List ℕ) (w : Word) → SlipIsAnswered (service_slip services protos w)
service_answered services protos w =
    either_answered (unless (is_defined services w.text) codes.UnknownName w)
    (unless (list_all (reaches_protocol services w.text) protos) codes.NoPortForProtocol w)
    (unless_answered (is_defined services w.text) codes.UnknownName w tt)
    (unless_answered (list_all (reaches_protocol services w.text) protos) codes.NoPortForProtocol w tt)

clash_answered : (ws : List Word) → SlipIsAnswered (clash_slip ws)
clash_answered [] = tt
clash_answered (w ∷ ws) = first_answered (same_slip w) ws (λ v. unless_answered _ codes.OptionClash v tt)

-- the questions on options, and on the action
options_answered : (protos : List ℕ) (t : RawTerm) → SlipIsAnswered (first_some (clash_slip t.options ∷ option_slip protos t.options ∷ reset_slip protos t.action ∷ []))
options_answered protos t =
    either_answered (clash_slip t.options) (first_some (option_slip protos t.options ∷ reset_slip protos t.action ∷ [])) (clash_answered t.options)
    (either_answered (option_slip protos t.options) (first_some (reset_slip protos t.action ∷ []))
    (first_unless_answered (option_fits (option_of t.options) protos) codes.OptionProtocol t.options tt)
    (either_answered (reset_slip protos t.action) (first_some []) (unless_answered (verdict_fits (verdict_of t.action.text) protos) codes.ResetProtocol t.action tt) tt))

-- the questions on words, from codes on
words_answered : (protos : List ℕ) (t : RawTerm) → SlipIsAnswered (first_some (codes_slip protos t ∷ clash_slip t.options ∷ option_slip protos t.options ∷ reset_slip protos t.action ∷ []))
words_answered protos t =
    either_answered (codes_slip protos t) (first_some (clash_slip t.options ∷ option_slip protos t.options ∷ reset_slip protos t.action ∷ []))
    (first_unless_answered (are_one (types_of (icmp_family protos) t.icmp_types)) codes.IcmpCode t.icmp_codes tt)
    (options_answered protos t)

pub term_answered : (n : Naming) (t : RawTerm) → SlipIsAnswered (slip_of n t)
unfolding slip_of
term_answered n t =
    let protos = protocols_of t.protocols in
    let words = codes_slip protos t ∷ clash_slip t.options ∷ option_slip protos t.options ∷ reset_slip protos t.action ∷ [] in
    either_answered (networks_slip n.networks t) (first_some (port_protocol_slip protos t ∷ services_slip n.services protos t ∷ types_slip protos t ∷ words))
    (first_answered (network_slip n.networks) _ (λ w. unless_answered (is_defined n.networks w.text) codes.UnknownName w tt))
    (either_answered (port_protocol_slip protos t) (first_some (services_slip n.services protos t ∷ types_slip protos t ∷ words))
    (first_unless_answered (only has_ports protos) codes.PortProtocol (port_words t) tt)
    (either_answered (services_slip n.services protos t) (first_some (types_slip protos t ∷ words))
    (first_answered (service_slip n.services protos) (port_words t) (λ w. service_answered n.services protos w))
    (either_answered (types_slip protos t) (first_some words)
    (first_answered (type_slip (icmp_family protos)) t.icmp_types (λ w. unless_answered (is_some (type_in (icmp_family protos) w.text)) codes.IcmpProtocol w tt))
    (words_answered protos t))))
