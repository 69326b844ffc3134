-- The words of options and actions, and what an option asks of a packet.
use Rattle.std.specs.Prelude.{ℕ, Bool, true, ◌||◌, ◌==◌, nat_le, if◌then◌else◌, List, [], ◌∷◌, codes}
use Rattle.std.specs.Str.{bytes_eq}
use Rattle.acl_packet.specs.declared.filtering.Verdict.{Verdict}
use Rattle.acl_packet.specs.declared.filtering.Verdict.TheVariants.{Accept, Deny, Reject, Reset}
use Rattle.acl_packet.specs.declared.packets.Packet.{Packet}
use Rattle.acl_packet.specs.Packets.{has_ack_or_rst, has_flag, is_initial, is_tracked}
use Rattle.acl_words.specs.declared.word_lists.Word.{Word}
use Rattle.acl_terms.specs.declared.options.Opt.{Opt}
use Rattle.acl_terms.specs.declared.options.Opt.TheVariants.{Plain, Established, TcpEstablished, TcpInitial, Rst}
use Rattle.acl_terms.specs.declared.options.Mode.{Mode}
use Rattle.acl_terms.specs.declared.options.Mode.TheVariants.{Stateful, Stateless}

-- The option of a word of `option::`.
abbrev pub opt_named : List ℕ → Opt
opt_named text =
    if bytes_eq text (codes "established") then Established
    else if bytes_eq text (codes "tcp-established") then TcpEstablished
    else if bytes_eq text (codes "tcp-initial") then TcpInitial
    else Rst

-- A term's option is that of its first word. Another one would be a slip.
abbrev pub option_of : List Word → Opt
option_of [] = Plain
option_of (w ∷ ws) = opt_named w.text

-- The verdict of a word of `action::`.
abbrev pub verdict_of : List ℕ → Verdict
verdict_of text =
    if bytes_eq text (codes "accept") then Accept
    else if bytes_eq text (codes "deny") then Deny
    else if bytes_eq text (codes "reject") then Reject
    else Reset

-- Whether a packet passes the option (Capirca, option keywords). Where connections are known, `established` and
-- `tcp-established` ask for the packet's. Else they ask for the flags of TCP; and of UDP `established` asks, where
-- no destination port is named, for a port from 1024 on, which a client would have. The flag says that
-- `destination-port::` is written.
abbrev pub passes : Opt → Mode → Bool → Packet → Bool
passes Plain mode named p = true
passes Established Stateful named p = is_tracked p.conn
passes Established Stateless named p =
    if p.proto == 6 then has_ack_or_rst p else named || nat_le 1024 p.dport
passes TcpEstablished Stateful named p = is_tracked p.conn
passes TcpEstablished Stateless named p = has_ack_or_rst p
passes TcpInitial mode named p = is_initial p
passes Rst mode named p = has_flag p.flags 4
