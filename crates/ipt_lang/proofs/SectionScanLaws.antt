-- A section is taken where a text begins with one.
use Rattle.std.proofs.Common.{◌≡◌, ℕ, ◌<◌, Bool, List, [], ◌∷◌, ◌++◌, length, flat_map, Option, ap, sym, subst, ◌∙◌, append-nil}
use Rattle.std.specs.List.{AllByRecursion}
use Rattle.std.specs.Option.{IsSomeAnd}
use Rattle.acl_packet.specs.declared.addresses.Family.{Family}
use Rattle.acl_packet.specs.declared.filtering.Hook.{Hook}
use Rattle.acl_packet.specs.declared.packets.Packet.{Packet}
use Rattle.acl_rows.specs.Rows.{text_of_rows}
use Rattle.acl_rows.specs.declared.scanning.TakenSection.{TakenSection}
use Rattle.ipt_lang.specs.declared.chain_rows.TargetRow.{TargetRow}
use Rattle.ipt_lang.specs.declared.chain_scans.TakenChains.{TakenChains}
use Rattle.ipt_lang.specs.declared.documents.Chain.{Chain}
use Rattle.ipt_lang.specs.declared.documents.Section.{Section}
use Rattle.ipt_lang.specs.declared.row_scans.TakenPolicy.{TakenPolicy}
use Rattle.ipt_lang.specs.Documents.{IsChain, IsSection}
use Rattle.ipt_lang.specs.ScanSteps.{IsAny, IsBody, IsChainsTaken, Lacks, TakesBody, TakesPolicy, body_text, section, target, target_rows}
use Rattle.ipt_lang.specs.Texts.{chain_rows, default_rows, section_rows, target_row, text_of}
use Rattle.ipt_lang.proofs.ChainScanLaws.{behind_target, chain_once, no_chain, policy_ended, section_first}
use Rattle.ipt_lang.proofs.FirstRowLaws.{front_once, item_first, parts_text, row_shorter}
use Rattle.ipt_lang.proofs.RowScanLaws.{policy_once, target_once}

-- ---- behind the first row

pub body_passed : (hook : Hook) (f : Family) (text : List ℕ) (policy : TakenPolicy) → TakesPolicy hook text policy
    → (p : Packet) (taken : TakenChains) (found : List Chain) → IsChainsTaken hook f policy.rest.now p taken found
    → (accept : Option Bool) (chains : List Chain) (others : List Section) → IsSection (section hook f accept chains)
    → text ≡ body_text hook f accept chains (text_of others) → (found ≡ chains) × (taken.rest.now ≡ text_of others)
body_passed hook f text policy t p taken found c accept chains others h e =
    let behind = text_of_rows (flat_map (chain_rows hook f) chains) ++ text_of others in
    let q = policy_once hook policy.accept accept policy.rest.now behind t.none (λ _. policy_ended hook f chains others h.chains) (sym t.written ∙ e) in
    front_once (IsChain f) (chain_rows hook f) (chain_once hook f) found chains taken.rest.now (text_of others)
    c.front.valid h.chains c.front.ended (no_chain hook f others) (sym c.front.written ∙ q.1)

-- ---- sections

pub section_text : (s : Section) (rest : List ℕ)
    → text_of_rows (section_rows s) ++ rest ≡ text_of_rows (target_rows (target s.hook s.family)) ++ body_text s.hook s.family s.accept s.chains rest
section_text s rest =
    let first = target_rows (target s.hook s.family) in
    let policy = default_rows s.hook s.accept in
    let chains = flat_map (chain_rows s.hook s.family) s.chains in
    ap (λ rows. text_of_rows rows ++ rest) (section_first s) ∙ parts_text first (behind_target s) rest
    ∙ ap (λ t. text_of_rows first ++ t) (parts_text policy chains rest)

pub sections_text : (s : Section) (others : List Section)
    → text_of (s ∷ others) ≡ text_of_rows (target_rows (target s.hook s.family)) ++ body_text s.hook s.family s.accept s.chains (text_of others)
sections_text s others =
    sym (append-nil (text_of (s ∷ others))) ∙ item_first section_rows s others [] ∙ ap (λ t. text_of_rows (section_rows s) ++ t) (append-nil (text_of others))
    ∙ section_text s (text_of others)

-- the text begins with the target's row, and with the section whose body is behind it
pub section_written : (text : List ℕ) (t : TargetRow) (rest : List ℕ) (p : Packet) (taken : TakenSection) (s : Section)
    → text ≡ text_of_rows (target_rows t) ++ rest → IsBody t.hook t.family rest p taken s → text ≡ text_of_rows (section_rows s) ++ taken.rest.now
section_written text t rest p taken s e body =
    let same : t ≡ target s.hook s.family = ap (λ h. target h t.family) (sym body.target.0) ∙ ap (λ f. target s.hook f) (sym body.target.1) in
    e ∙ ap (λ u. text_of_rows (target_rows u) ++ rest) same ∙ ap (λ b. text_of_rows (target_rows (target s.hook s.family)) ++ b) body.written
    ∙ sym (section_text s taken.rest.now)

pub section_shorter : (text rest : List ℕ) (s : Section) → text ≡ text_of_rows (section_rows s) ++ rest → length rest < length text
section_shorter text rest s e =
    row_shorter (target_row s.hook s.family) (behind_target s) text rest (e ∙ ap (λ rows. text_of_rows rows ++ rest) (section_first s))

-- what is taken behind the target's row is what stands behind the first section
pub section_each : (text : List ℕ) (t : TargetRow) (rest : List ℕ) (p : Packet) (taken : Option TakenSection)
    → text ≡ text_of_rows (target_rows t) ++ rest → TakesBody t.hook t.family rest p taken
    → (s : Section) (others : List Section) → IsSection s → AllByRecursion IsSection others → text ≡ text_of (s ∷ others)
    → IsSomeAnd taken (λ x. x.rest.now ≡ text_of others)
section_each text t rest p taken e body s others h k f =
    let first = target s.hook s.family in
    let same = target_once t first rest (body_text s.hook s.family s.accept s.chains (text_of others)) tt tt (sym e ∙ f ∙ sections_text s others) in
    let own = subst (λ u. TakesBody u.hook u.family rest p taken) same.0 body in
    own.each s.accept s.chains others h k same.1

pub no_target : (text : List ℕ) → Lacks IsAny target_rows text → (s : Section) (others : List Section) → text ≡ text_of (s ∷ others) → ⊥
no_target text none s others e =
    none (target s.hook s.family) (body_text s.hook s.family s.accept s.chains (text_of others)) tt (e ∙ sections_text s others)
