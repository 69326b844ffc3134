-- Texts that begin with groups of hexadecimal digits, or with an IPv6 address.
use Rattle.std.proofs.Common.{◌≡◌, ℕ, ◌+◌, ◌-◌, ◌*◌, ◌^◌, ◌<◌, ◌≤◌, true, false, List, [], ◌∷◌, ◌++◌, length, Some, inl, inr, refl, ap, sym, subst, ◌∙◌, arith}
use Rattle.std.proofs.lemmas.List.{append_assoc, append-nil}
use Rattle.acl_packet.specs.declared.addresses.Family.TheVariants.{V6}
use Rattle.acl_text.specs.Fronts.{GroupsGoOn, IsAddressFront, IsGroupFront, IsHexFront, IsNextGroup, IsSideFront}
use Rattle.acl_text.specs.Ipv6.{IsGroup, grouped}
use Rattle.acl_text.proofs.Groups.{hex-step}

-- ---- groups of one digit to four

pub one_hex : (text rest : List ℕ) (a : ℕ) → IsHexFront text rest a → IsGroupFront text rest a
one_hex text rest a d = record {
  front = d.byte ∷ [];
  text_is = d.text_is;
  group_is = record {
    nonempty = omega arith;
    short = omega arith;
    value = hex-step 0 a a d.byte [] d.digit (ap Some (omega arith));
  };
}

pub two_hex : (text behind rest : List ℕ) (a b : ℕ) → IsHexFront text behind a → IsHexFront behind rest b → IsGroupFront text rest (a * 16 + b)
two_hex text behind rest a b d e =
    let value : (0 * 16 + a) * 16 + b ≡ a * 16 + b = omega arith in
    record {
      front = d.byte ∷ e.byte ∷ [];
      text_is = d.text_is ∙ ap (λ t. d.byte ∷ t) e.text_is;
      group_is = record {
        nonempty = omega arith;
        short = omega arith;
        value = hex-step 0 a _ d.byte (e.byte ∷ []) d.digit (hex-step (0 * 16 + a) b _ e.byte [] e.digit (ap Some value));
      };
    }

pub three_hex : (text behind after rest : List ℕ) (a b c : ℕ) → IsHexFront text behind a → IsHexFront behind after b → IsHexFront after rest c
    → IsGroupFront text rest ((a * 16 + b) * 16 + c)
three_hex text behind after rest a b c d e f =
    let value : ((0 * 16 + a) * 16 + b) * 16 + c ≡ (a * 16 + b) * 16 + c = omega arith in
    record {
      front = d.byte ∷ e.byte ∷ f.byte ∷ [];
      text_is = d.text_is ∙ ap (λ t. d.byte ∷ t) (e.text_is ∙ ap (λ t. e.byte ∷ t) f.text_is);
      group_is = record {
        nonempty = omega arith;
        short = omega arith;
        value = hex-step 0 a _ d.byte (e.byte ∷ f.byte ∷ []) d.digit (hex-step (0 * 16 + a) b _ e.byte (f.byte ∷ []) e.digit
            (hex-step ((0 * 16 + a) * 16 + b) c _ f.byte [] f.digit (ap Some value)));
      };
    }

pub four_hex : (text behind after end rest : List ℕ) (a b c d : ℕ) → IsHexFront text behind a → IsHexFront behind after b → IsHexFront after end c → IsHexFront end rest d
    → IsGroupFront text rest (((a * 16 + b) * 16 + c) * 16 + d)
four_hex text behind after end rest a b c d e f g h =
    let value : (((0 * 16 + a) * 16 + b) * 16 + c) * 16 + d ≡ ((a * 16 + b) * 16 + c) * 16 + d = omega arith in
    record {
      front = e.byte ∷ f.byte ∷ g.byte ∷ h.byte ∷ [];
      text_is = e.text_is ∙ ap (λ t. e.byte ∷ t) (f.text_is ∙ ap (λ t. f.byte ∷ t) (g.text_is ∙ ap (λ t. g.byte ∷ t) h.text_is));
      group_is = record {
        nonempty = omega arith;
        short = omega arith;
        value = hex-step 0 a _ e.byte (f.byte ∷ g.byte ∷ h.byte ∷ []) e.digit (hex-step (0 * 16 + a) b _ f.byte (g.byte ∷ h.byte ∷ []) f.digit
            (hex-step ((0 * 16 + a) * 16 + b) c _ g.byte (h.byte ∷ []) g.digit
            (hex-step (((0 * 16 + a) * 16 + b) * 16 + c) d _ h.byte [] h.digit (ap Some value))));
      };
    }

-- ---- several groups

pub go_no_further : (text : List ℕ) (left value : ℕ) → GroupsGoOn text text left value left value
go_no_further text left value = record {
  front = [];
  groups = [];
  text_is = refl;
  go_on = λ dotted bs g h. subst (λ (t : List ℕ). IsGroup t g) (sym (append-nil bs)) h;
  counted = omega arith;
  number = refl;
}

pub go_further : (text rest end : List ℕ) (left value g more left_behind value_behind : ℕ) → 0 < left → IsNextGroup text rest g → more ≡ value * 65536 + g
    → GroupsGoOn rest end (left - 1) more left_behind value_behind → GroupsGoOn text end left value left_behind value_behind
go_further text rest end left value g more left_behind value_behind some h e r =
    let group = h.group_is in
    record {
      front = 58 ∷ (group.front ++ r.front);
      groups = g ∷ r.groups;
      text_is = h.text_is ∙ ap (λ t. 58 ∷ t) (group.text_is ∙ ap (λ t. group.front ++ t) r.text_is ∙ sym (append_assoc group.front r.front end));
      go_on = λ dotted bs first w. inl (bs, group.front ++ r.front, refl, w, r.go_on dotted group.front g group.group_is);
      counted = omega (arith, r.counted);
      number = r.number ∙ ap (λ v. grouped v r.groups) e;
    }

pub no_side : (text : List ℕ) → IsSideFront text text 8 0
no_side text = record {
  front = [];
  groups = [];
  text_is = refl;
  side_is = λ dotted. inl (refl, refl);
  counted = omega arith;
  number = refl;
}

pub side_front : (text rest end : List ℕ) (g left value : ℕ) → IsGroupFront text rest g → GroupsGoOn rest end 7 g left value → IsSideFront text end left value
side_front text rest end g left value h r =
    let first : g ≡ 0 * 65536 + g = omega arith in
    record {
      front = h.front ++ r.front;
      groups = g ∷ r.groups;
      text_is = h.text_is ∙ ap (λ t. h.front ++ t) r.text_is ∙ sym (append_assoc h.front r.front end);
      side_is = λ dotted. inr (r.go_on dotted h.front g h.group_is);
      counted = omega (arith, r.counted);
      number = r.number ∙ ap (λ v. grouped v r.groups) first;
    }

-- ---- addresses

pub short_front : (text rest next behind end : List ℕ) (front_left front back_left back n : ℕ) → IsSideFront text rest front_left front
    → rest ≡ 58 ∷ next → next ≡ 58 ∷ behind → IsSideFront behind end back_left back → 9 ≤ front_left + back_left
    → n ≡ front * 65536 ^ front_left + back → IsAddressFront V6 text end n
short_front text rest next behind end front_left front back_left back n h e f k fewer joined =
    let left : front_left ≡ 8 - length h.groups = omega (arith, h.counted) in
    record {
      front = h.front ++ 58 ∷ 58 ∷ k.front;
      text_is = h.text_is ∙ ap (λ t. h.front ++ t) (e ∙ ap (λ t. 58 ∷ t) (f ∙ ap (λ t. 58 ∷ t) k.text_is)) ∙ sym (append_assoc h.front (58 ∷ 58 ∷ k.front) end);
      address_is = inr (record {
        before = h.front;
        behind = k.front;
        text = refl;
        front = h.groups;
        back = k.groups;
        front_is = h.side_is false;
        back_is = k.side_is true;
        fewer = omega (arith, h.counted, k.counted);
        value = joined ∙ ap (λ v. v * 65536 ^ front_left + back) h.number ∙ ap (λ i. grouped 0 h.groups * 65536 ^ i + back) left
            ∙ ap (λ v. grouped 0 h.groups * 65536 ^ (8 - length h.groups) + v) k.number;
      });
    }
