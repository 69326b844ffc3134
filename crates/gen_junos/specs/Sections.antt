-- The section of a Junos document that a filter becomes, and how many entries it has. The form of a
-- section is aclgen's own; what its lines mean is said by the language.
use Rattle.std.specs.Prelude.{ℕ, ◌+◌, List, [], ◌∷◌, length, map, codes, Option, None, Some}
use Rattle.std.specs.List.{sum_by}
use Rattle.acl_packet.specs.declared.filtering.Verdict.TheVariants.{Deny}
use Rattle.acl_platform.specs.declared.filters.Filter.{Filter}
use Rattle.acl_platform.specs.declared.rules.Rule.{Rule}
use Rattle.acl_platform.specs.declared.rules.Test.{Test}
use Rattle.acl_platform.specs.declared.rules.Test.TheVariants.{Plain, AckOrRst, SynNotAck, Rst, State}
use Rattle.acl_packet.specs.Addresses.{first_family}
use Rattle.acl_platform.specs.Elements.{address_elements, number_elements, port_elements}
use Rattle.junos_lang.specs.declared.documents.JTerm.{JTerm}
use Rattle.junos_lang.specs.declared.documents.JTest.{JTest}
use Rattle.junos_lang.specs.declared.documents.JTest.TheVariants as tests
use Rattle.junos_lang.specs.declared.documents.Section.{Section}
use Rattle.junos_lang.specs.Documents.{bare_term}

-- The test of a term. A router follows no connection, so that no rule for it asks for one.
abbrev pub test_of : Test → Option JTest
test_of Plain = None
test_of AckOrRst = Some tests.Established
test_of SynNotAck = Some tests.Initial
test_of Rst = Some tests.Rst
test_of State = None

-- A note that is empty is not written.
abbrev pub note_of : List ℕ → Option (List ℕ)
note_of [] = None
note_of (b ∷ bs) = Some (b ∷ bs)

-- A rule is one term, with all elements of its sets.
abbrev pub term_of : Rule → JTerm
term_of r = record {
  note = note_of r.note;
  name = r.name;
  src = address_elements r.src;
  dst = address_elements r.dst;
  protos = number_elements r.protos;
  sports = port_elements r.sports;
  dports = port_elements r.dports;
  itypes = number_elements r.itypes;
  icodes = number_elements r.icodes;
  test = test_of r.test;
  syslog = r.log;
  verdict = r.verdict;
}

-- A filter has a term on Junos, so that one without a rule has a term that does what its end does.
abbrev pub default_term : JTerm
default_term = bare_term (codes "default-deny") Deny

abbrev pub terms_of : List Rule → List JTerm
terms_of [] = default_term ∷ []
terms_of (r ∷ rules) = map term_of (r ∷ rules)

-- A filter for Junos has one family.
abbrev pub section_of : Filter → Section
section_of f =
    record { family = first_family f.families; name = f.name; terms = terms_of f.rules }

-- A term counts as one entry, and so does each element of its lists.
abbrev pub term_count : JTerm → ℕ
term_count t = 1 + length t.src + length t.dst + length t.protos + length t.sports
    + length t.dports + length t.itypes + length t.icodes

abbrev pub entry_count : Filter → ℕ
entry_count f = sum_by term_count (section_of f).terms
