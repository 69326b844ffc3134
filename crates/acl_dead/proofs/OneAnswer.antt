-- A question has one answer.
use Rattle.std.proofs.Common.{◌≡◌, ℕ, ◌*◌, ◌⊎◌, Bool, true, false, if◌then◌else◌, List, [], ◌∷◌, Contains, length, get_or, map, take, drop, refl, sym, ap, ◌∙◌, arith, inl, inr}
use Rattle.acl_packet.specs.declared.addresses.Family.{Family}
use Rattle.acl_packet.specs.declared.addresses.Family.TheVariants.{V4, V6}
use Rattle.acl_packet.specs.declared.packets.Conn.{Conn}
use Rattle.acl_packet.specs.declared.packets.Conn.TheVariants.{New, Established}
use Rattle.acl_packet.specs.declared.packets.Packet.{Packet}
use Rattle.acl_packet.specs.Packets.{fields}
use Rattle.acl_host.specs.declared.days.Day.{Day}
use Rattle.acl_target.specs.declared.targets.Target.{Target}
use Rattle.acl_terms.specs.declared.terms.Term.{Term}
use Rattle.term_boxes.specs.Coordinates.{numbers_of, packet_at, place_of_connection, place_of_flags}
use Rattle.term_boxes.proofs.CoordinateLaws.{packet-back}
use Rattle.term_boxes.proofs.TermLaws.{fields-fit}
use Rattle.acl_dead.specs.declared.decisions.Decided.{Decided}
use Rattle.acl_dead.specs.declared.decisions.Decided.TheVariants as answers
use Rattle.acl_dead.specs.Deciding.{Answers, AnswersAreOne, AnswersFirst, IsCount, IsFirst, IsGridSize, IsProduct, IsSuch, Question, connection_place, connections, destination_boundary, family_place, field_boundary, flag_sums, order_of, question_of, source_boundary}
use Rattle.acl_dead.proofs.Lists.{contains_cases, contains_none, one_list, order_cases}

-- ---- counts

one_count : (test : ℕ → Bool) (n m : ℕ) → IsCount test n → IsCount test m → n ≡ m
one_count test n m a b =
    a.3 ∙ ap (λ (xs : List ℕ). length xs) (one_list a.0 b.0 a.1 b.1 (λ z h. (b.2 z).1 ((a.2 z).0 h)) (λ z h. (a.2 z).1 ((b.2 z).0 h)))
    ∙ sym b.3

one_product : (tests : List (ℕ → Bool)) (last n m : ℕ) → IsProduct tests last n → IsProduct tests last m → n ≡ m
one_product [] last n m a b = a ∙ sym b
one_product (test ∷ tests) last n m a b =
    a.4 ∙ ap (λ k. k * a.1) (one_count test a.0 b.0 a.2 b.2) ∙ ap (λ k. b.0 * k) (one_product tests last a.1 b.1 a.3 b.3) ∙ sym b.4

pub one_size : (f : Family) (q : Question) (n m : ℕ) → IsGridSize f q n → IsGridSize f q m → n ≡ m
one_size f q n m a b =
    one_product (source_boundary f q ∷ destination_boundary f q ∷ map (field_boundary f q) fields)
    (length (flag_sums q) * length (connections q.target)) n m a b

-- ---- packets

one_family : (f g : Family) → family_place f ≡ family_place g → f ≡ g
one_family V4 V4 e = refl
one_family V4 V6 e = absurd (omega arith)
one_family V6 V4 e = absurd (omega arith)
one_family V6 V6 e = refl

pub new_only : (c : Conn) → Contains (New ∷ []) c → New ≡ c
new_only c h = elim (contains_cases New [] c h) [ inl e ↦ e | inr none ↦ absurd (contains_none c none) ]

pub known : (stateful : Bool) (c : Conn) → Contains (if stateful then New ∷ Established ∷ [] else New ∷ []) c
    → (New ≡ c) ⊎ (Established ≡ c)
known false c h = inl (new_only c h)
known true c h = elim (contains_cases New (Established ∷ []) c h) [
  | inl e ↦ inl e
  | inr later ↦ elim (contains_cases Established [] c later) [ inl e ↦ inr e | inr none ↦ absurd (contains_none c none) ]
]

one_connection : (c d : Conn) → (New ≡ c) ⊎ (Established ≡ c) → (New ≡ d) ⊎ (Established ≡ d)
    → connection_place c ≡ connection_place d → c ≡ d
one_connection c d (inl e) (inl g) same = sym e ∙ g
one_connection c d (inr e) (inr g) same = sym e ∙ g
one_connection c d (inl e) (inr g) same =
    absurd (let k : 0 ≡ 1 = ap connection_place e ∙ same ∙ sym (ap connection_place g) in omega arith)
one_connection c d (inr e) (inl g) same =
    absurd (let k : 1 ≡ 0 = ap connection_place e ∙ same ∙ sym (ap connection_place g) in omega arith)

same_packet : (q : Question) (p r : Packet) → IsSuch q p → IsSuch q r → order_of p ≡ order_of r → p ≡ r
same_packet q p r a b e =
    let at : (k : ℕ) → get_or (order_of p) k 0 ≡ get_or (order_of r) k 0 = λ k. ap (λ (xs : List ℕ). get_or xs k 0) e in
    let family = one_family p.family r.family (at 0) in
    let conn = one_connection p.conn r.conn (known q.target.stateful p.conn a.on_grid.connection)
    (known q.target.stateful r.conn b.on_grid.connection) (at 9) in
    let src : p.src ≡ r.src = at 1 in
    let dst : p.dst ≡ r.dst = at 2 in
    let proto : p.proto ≡ r.proto = at 3 in
    let sport : p.sport ≡ r.sport = at 4 in
    let dport : p.dport ≡ r.dport = at 5 in
    let itype : p.itype ≡ r.itype = at 6 in
    let icode : p.icode ≡ r.icode = at 7 in
    let flags : p.flags ≡ r.flags = at 8 in
    let numbers : numbers_of p ≡ numbers_of r =
    ap (λ x. x ∷ p.dst ∷ p.proto ∷ p.sport ∷ p.dport ∷ p.itype ∷ p.icode ∷ place_of_flags p.flags ∷ place_of_connection p.conn ∷ []) src
    ∙ ap (λ x. r.src ∷ x ∷ p.proto ∷ p.sport ∷ p.dport ∷ p.itype ∷ p.icode ∷ place_of_flags p.flags ∷ place_of_connection p.conn ∷ []) dst
    ∙ ap (λ x. r.src ∷ r.dst ∷ x ∷ p.sport ∷ p.dport ∷ p.itype ∷ p.icode ∷ place_of_flags p.flags ∷ place_of_connection p.conn ∷ []) proto
    ∙ ap (λ x. r.src ∷ r.dst ∷ r.proto ∷ x ∷ p.dport ∷ p.itype ∷ p.icode ∷ place_of_flags p.flags ∷ place_of_connection p.conn ∷ []) sport
    ∙ ap (λ x. r.src ∷ r.dst ∷ r.proto ∷ r.sport ∷ x ∷ p.itype ∷ p.icode ∷ place_of_flags p.flags ∷ place_of_connection p.conn ∷ []) dport
    ∙ ap (λ x. r.src ∷ r.dst ∷ r.proto ∷ r.sport ∷ r.dport ∷ x ∷ p.icode ∷ place_of_flags p.flags ∷ place_of_connection p.conn ∷ []) itype
    ∙ ap (λ x. r.src ∷ r.dst ∷ r.proto ∷ r.sport ∷ r.dport ∷ r.itype ∷ x ∷ place_of_flags p.flags ∷ place_of_connection p.conn ∷ []) icode
    ∙ ap (λ x. r.src ∷ r.dst ∷ r.proto ∷ r.sport ∷ r.dport ∷ r.itype ∷ r.icode ∷ place_of_flags x ∷ place_of_connection p.conn ∷ []) flags
    ∙ ap (λ x. r.src ∷ r.dst ∷ r.proto ∷ r.sport ∷ r.dport ∷ r.itype ∷ r.icode ∷ place_of_flags r.flags ∷ place_of_connection x ∷ []) conn in
    sym (packet-back p (fields-fit p a.of_target.packet)).1
    ∙ ap (λ f. packet_at f (numbers_of p)) family
    ∙ ap (λ ns. packet_at r.family ns) numbers
    ∙ (packet-back r (fields-fit r b.of_target.packet)).1

-- ---- answers

one_first : (q : Question) (p r : Packet) → IsFirst q p → IsFirst q r → p ≡ r
one_first q p r a b = elim (order_cases (order_of p) (order_of r) refl) [
  | inl less ↦ absurd (b.first p a.such less)
  | inr other ↦ elim other [
    | inl same ↦ same_packet q p r a.such b.such same
    | inr more ↦ absurd (a.first r b.such more)
  ]
]

one_answer : (q : Question) (a b : Decided) → Answers q a → Answers q b → a ≡ b
one_answer q answers.Undecided answers.Undecided h k = refl
one_answer q answers.Undecided answers.Dead h k = absurd (k.0 h)
one_answer q answers.Undecided (answers.Packet r) h k = absurd (k.0 h)
one_answer q answers.Dead answers.Undecided h k = absurd (h.0 k)
one_answer q answers.Dead answers.Dead h k = refl
one_answer q answers.Dead (answers.Packet r) h k = absurd (h.1 r k.1.such.of_target k.1.such.decided)
one_answer q (answers.Packet p) answers.Undecided h k = absurd (h.0 k)
one_answer q (answers.Packet p) answers.Dead h k = absurd (k.1 p h.1.such.of_target h.1.such.decided)
one_answer q (answers.Packet p) (answers.Packet r) h k = ap answers.Packet (one_first q p r h.1 k.1)

first_answer : (target : Target) (today : Day) (before after : List Term) (a b : Decided)
    → AnswersFirst target today before after a → AnswersFirst target today before after b → a ≡ b
first_answer target today before [] a b h k = absurd h
first_answer target today before (t ∷ later) a b h k = one_answer (question_of target today before t) a b h k

pub answers-one : AnswersAreOne
answers-one terms target today place a b h k =
    first_answer target today (take place terms) (drop place terms) a b h k
