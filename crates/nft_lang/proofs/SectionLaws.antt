-- A section is taken from the front of a text: its head, and then its items.
use Rattle.std.proofs.Common.{◌≡◌, ℕ, ◌+◌, ◌^◌, ◌<◌, true, List, [], ◌∷◌, ◌++◌, length, flat_map, Option, None, Some, refl, ap, sym, subst, ◌∙◌, append_assoc, arith, length-append}
use Rattle.std.specs.Borrow.{Bor}
use Rattle.std.specs.Option.{IsSomeAnd}
use Rattle.std.proofs.lemmas.Grind.{flat_map-append}
use Rattle.std.proofs.lemmas.List.{append_cancel_left, map-append}
use Rattle.acl_packet.specs.declared.packets.Packet.{Packet}
use Rattle.acl_text.specs.Cuts.{views}
use Rattle.acl_rows.specs.Rows.{row_text, text_of_rows}
use Rattle.acl_rows.specs.Scans.{TakesSection}
use Rattle.nft_lang.specs.declared.chain_rows.TableHead.{TableHead}
use Rattle.nft_lang.specs.declared.documents.Item.{Item}
use Rattle.nft_lang.specs.declared.documents.Section.{Section}
use Rattle.nft_lang.specs.declared.scanning.Taken.{Taken}
use Rattle.nft_lang.specs.Documents.{IsSection, fits_i32, table_names}
use Rattle.nft_lang.specs.ScanSteps.{TakesItems, TakesChain, head_in, head_rows_of, items_text, name_in, outcome_from, section_of, section_text}
use Rattle.nft_lang.specs.Texts.{end_rows, head_rows, item_rows, section_rows}
use Rattle.nft_lang.specs.Walks.{first_holding, section_outcome}
use Rattle.nft_lang.proofs.HeadLaws.{head_again}

section_begins : (head : TableHead) (items : List Item) (more : List ℕ)
    → section_text head items ++ more ≡ text_of_rows (head_rows_of head) ++ (items_text head.families items ++ more)
unfolding section_text section_rows items_text
section_begins head items more =
    let rows = flat_map (item_rows head.families) items ++ end_rows in
    ap (λ t. t ++ more) (flat_map-append row_text (head_rows_of head) rows)
    ∙ append_assoc (text_of_rows (head_rows_of head)) (text_of_rows rows) more

-- ---- the items behind a head

decided_from : (head : TableHead) (items : List Item) (p : Packet) → outcome_from head (first_holding items p) p ≡ section_outcome (section_of head items) p
unfolding section_outcome
decided_from head items p = refl

-- a chain's items stand behind its head
behind_head : (head : TableHead) (text rest : List ℕ) (items : List Item) (more : List ℕ) → text ≡ text_of_rows (head_rows_of head) ++ rest
    → text ≡ section_text head items ++ more → rest ≡ items_text head.families items ++ more
behind_head head text rest items more w e =
    append_cancel_left (text_of_rows (head_rows_of head)) rest (items_text head.families items ++ more) (sym w ∙ e ∙ section_begins head items more)

pub chain_taken : (head : TableHead) (p : Packet) (text rest : List ℕ) (items taken : Taken) → text ≡ text_of_rows (head_rows_of head) ++ rest
    → TakesItems head.families p rest (Some items) → taken.decided ≡ outcome_from head items.decided p → taken.rest.now ≡ items.rest.now
    → TakesChain head p text (Some taken)
chain_taken head p text rest items taken w takes d r =
    let front = takes.some.0 in
    let is = takes.some.1 in
    record {
      some = (
        front,
        record {
          valid = is.valid;
          written_first = w ∙ ap (λ t. text_of_rows (head_rows_of head) ++ t) (is.written_first ∙ ap (λ t. items_text head.families front ++ t) (sym r))
              ∙ sym (section_begins head front taken.rest.now);
          decided = d ∙ ap (λ o. outcome_from head o p) is.decided ∙ decided_from head front p;
        },
      );
      each = λ others more h e. r ∙ takes.each others more h (behind_head head text rest others more w e);
    }

pub no_items : (head : TableHead) (p : Packet) (text rest : List ℕ) → text ≡ text_of_rows (head_rows_of head) ++ rest
    → TakesItems head.families p rest None → TakesChain head p text None
no_items head p text rest w takes = record {
  some = tt;
  each = λ others more h e. takes.each others more h (behind_head head text rest others more w e);
}

pub no_head : (head : TableHead) (p : Packet) (text : List ℕ) → ((rest : List ℕ) → text ≡ text_of_rows (head_rows_of head) ++ rest → ⊥)
    → TakesChain head p text None
no_head head p text n = record {
  some = tt;
  each = λ others more h e. n (items_text head.families others ++ more) (e ∙ section_begins head others more);
}

-- ---- sections

abbrev head_of : Section → TableHead
head_of s = record { hook = s.hook; families = s.families; number = s.number; priority = s.priority; accept = s.accept }

first_text : (s : Section) (others : List Section)
    → text_of_rows (flat_map section_rows (s ∷ others)) ≡ section_text (head_of s) s.items ++ text_of_rows (flat_map section_rows others)
unfolding section_text
first_text s others = flat_map-append row_text (section_rows s) (flat_map section_rows others)

each_section : (p : Packet) (text : List ℕ) (taken : Option Taken) (head : TableHead) → head ≡ head_in text → TakesChain head p text taken
    → (s : Section) (others : List Section) → IsSection s → text ≡ text_of_rows (flat_map section_rows (s ∷ others))
    → IsSomeAnd taken (λ t. t.rest.now ≡ text_of_rows (flat_map section_rows others))
each_section p text taken head r takes s others h e =
    let written = e ∙ first_text s others in
    let more = text_of_rows (flat_map section_rows others) in
    let read = head_again (head_of s) text (items_text s.families s.items ++ more) h.number h.priority (written ∙ section_begins (head_of s) s.items more) in
    let own = subst (λ x. TakesChain x p text taken) (r ∙ read.0) takes in
    own.each s.items more h.items written

section_shorter : (head : TableHead) (items : List Item) (text rest : List ℕ) → text ≡ section_text head items ++ rest → length rest < length text
unfolding section_text section_rows head_rows row_text
section_shorter head items text rest e =
    let size : length text ≡ length (section_text head items) + length rest = ap length e ∙ length-append (section_text head items) rest in
    omega (arith, size)

pub name_pushed : {name : List ℕ} (before after : List (Bor (List ℕ))) (pushed : Bor (List ℕ)) → after ≡ before ++ pushed ∷ [] → pushed.now ≡ name
    → views after ≡ views before ++ name ∷ []
name_pushed before after pushed e n =
    ap views e ∙ map-append (λ x. x.now) before (pushed ∷ []) ∙ ap (λ w. views before ++ w ∷ []) n

pub section_taken : (p : Packet) (text : List ℕ) (before after : List (List ℕ)) (taken : Taken) (head : TableHead) → head ≡ head_in text
    → head.number < 2 ^ 32 → fits_i32 head.priority ≡ true → TakesChain head p text (Some taken) → after ≡ before ++ name_in text ∷ []
    → TakesSection IsSection table_names section_rows section_outcome text p before after (Some (record { outcome = taken.decided; rest = taken.rest }))
unfolding section_text
section_taken p text before after taken head r small fits takes n =
    let items = takes.some.0 in
    let is = takes.some.1 in
    let read = head_again head text (items_text head.families items ++ taken.rest.now) small fits (is.written_first ∙ section_begins head items taken.rest.now) in
    record {
      some = (
        section_of head items,
        record {
          valid = record { number = small; priority = fits; items = is.valid };
          written = is.written_first;
          named = n ∙ ap (λ name. before ++ name ∷ []) read.1;
          decided = is.decided;
          shorter = section_shorter head items text taken.rest.now is.written_first;
        },
      );
      none = tt;
      each = λ s others h _ e. each_section p text (Some taken) head r takes s others h e;
    }

pub no_section : (p : Packet) (text : List ℕ) (names : List (List ℕ)) (head : TableHead) → head ≡ head_in text → TakesChain head p text None
    → TakesSection IsSection table_names section_rows section_outcome text p names names None
no_section p text names head r takes =
    record { some = tt; none = refl; each = λ s others h _ e. each_section p text None head r takes s others h e }
