-- The values of keywords.
use Rattle.std.specs.Prelude.{◌≡◌, ℕ, Bool, true, false, ◌&&◌, ◌||◌, if◌then◌else◌, List, [], ◌∷◌, is_some, Result, Ok, Err, codes}
use Rattle.std.specs.List.{All}
use Rattle.std.specs.Str.{bytes_eq}
use Rattle.acl_packet.specs.declared.addresses.Family.TheVariants.{V4, V6}
use Rattle.acl_packet.specs.Decimals.{number_in}
use Rattle.acl_packet.specs.NumberWords.{protocol_in, icmp_in}
use Rattle.acl_text.specs.declared.faults.Code.TheVariants.{Missing, Value}
use Rattle.acl_text.specs.declared.faults.Slip.{Slip}
use Rattle.acl_text.specs.Names.{is_name}
use Rattle.acl_words.specs.declared.forms.Form.{Form}
use Rattle.acl_words.specs.declared.forms.Form.TheVariants.{Plain, Quoted}
use Rattle.acl_words.specs.Tokens.{Token}
use Rattle.acl_words.specs.declared.word_lists.Word.{Word}
use Rattle.acl_policy.specs.declared.values.Takes.{Takes}
use Rattle.acl_policy.specs.declared.values.Takes.TheVariants as takes
use Rattle.acl_host.specs.NamedDays.{day_named}
use Rattle.acl_policy.specs.Slips.{slip_of, slip_for}

abbrev pub is_action : List ℕ → Bool
is_action bs = bytes_eq bs (codes "accept") || bytes_eq bs (codes "deny")
    || bytes_eq bs (codes "reject") || bytes_eq bs (codes "reject-with-tcp-rst")

abbrev pub is_option : List ℕ → Bool
is_option bs = bytes_eq bs (codes "established") || bytes_eq bs (codes "tcp-established")
    || bytes_eq bs (codes "tcp-initial") || bytes_eq bs (codes "rst")

-- All three mean that the term is logged.
abbrev pub is_logging : List ℕ → Bool
is_logging bs =
    bytes_eq bs (codes "true") || bytes_eq bs (codes "True") || bytes_eq bs (codes "syslog")

-- A type of ICMP in either family.
abbrev pub is_icmp_type : List ℕ → Bool
is_icmp_type bs = is_some (icmp_in V4 bs) || is_some (icmp_in V6 bs)

-- A code of ICMP is a number of 8 bits (RFC 792; RFC 4443 section 2.1).
abbrev pub is_icmp_code : List ℕ → Bool
is_icmp_code bs = is_some (number_in 255 bs)

abbrev pub is_plain : Form → Bool
is_plain Plain = true
is_plain _ = false

abbrev pub is_quoted : Form → Bool
is_quoted Quoted = true
is_quoted _ = false

-- Whether a text is one that a keyword of these values takes.
abbrev pub text_fits : Takes → List ℕ → Bool
text_fits takes.String bs = true
text_fits takes.Any bs = true
text_fits takes.Name bs = is_name bs
text_fits takes.Action bs = is_action bs
text_fits takes.Protocol bs = is_some (protocol_in bs)
text_fits takes.IcmpType bs = is_icmp_type bs
text_fits takes.IcmpCode bs = is_icmp_code bs
text_fits takes.Opt bs = is_option bs
text_fits takes.Logging bs = is_logging bs
text_fits takes.Day bs = is_some (day_named bs)

-- A string is no word, and a word is no string; `owner::` alone takes either.
abbrev pub form_fits : Takes → Form → Bool
form_fits takes.String form = is_quoted form
form_fits takes.Any form = is_plain form || is_quoted form
form_fits _ form = is_plain form

-- A keyword that takes words, and neither strings nor anything.
abbrev pub takes_words : Takes → Bool
takes_words takes.String = false
takes_words takes.Any = false
takes_words _ = true

abbrev pub is_value : Takes → Token → Bool
is_value kind w = form_fits kind w.form && text_fits kind w.text

-- None of the words is a string, a keyword or a brace.
abbrev pub ArePlain : List Token → Type 0
ArePlain ws = All (λ w. w.form ≡ Plain) ws

abbrev pub word_of : Token → Word
word_of w = record { place = w.place; text = w.text }

-- Each word is a value, or the first one that is none is the slip.
abbrev pub all_values : Takes → List Token → Result (Unit {0}) Slip
all_values kind [] = Ok tt
all_values kind (w ∷ ws) = if is_value kind w then all_values kind ws else Err (slip_for Value w)

-- A keyword has a value.
abbrev pub some_values : Takes → Token → List Token → Result (Unit {0}) Slip
some_values kind keyword [] = Err (slip_of Missing keyword)
some_values kind keyword (w ∷ ws) = all_values kind (w ∷ ws)

-- A keyword has one value.
abbrev pub one_value : Takes → Token → List Token → Result (Unit {0}) Slip
one_value kind keyword [] = Err (slip_of Missing keyword)
one_value kind keyword (w ∷ []) = if is_value kind w then Ok tt else Err (slip_for Value w)
one_value kind keyword (w ∷ v ∷ ws) =
    if is_value kind w then Err (slip_for Value v) else Err (slip_for Value w)
