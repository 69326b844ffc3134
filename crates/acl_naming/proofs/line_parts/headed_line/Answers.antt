use Rattle.std.proofs.Common.{◌≡◌, ℕ, ◌-◌, ◌<◌, ◌≤◌, List, length, take, drop, refl, ap, ◌∙◌, arith}
use Rattle.std.specs.List.{list_all}
use Rattle.std.proofs.lemmas.List.{length-take, take_rest}
use Rattle.acl_text.specs.Cursors.{is_white}
use Rattle.acl_naming.specs.declared.line_parts.LineForm.TheVariants.{Lone, Named}
use Rattle.acl_naming.specs.Fronts.{shown}
use Rattle.acl_naming.specs.LineSteps.{is_ink, is_plain}
use Rattle.acl_naming.proofs.LineLaws.{lone_line, named_line, of_form, split_whole}
use Rattle.acl_naming.proofs.line_parts.headed_line.Goals as goal

-- so many bytes stand in front
long_front : (text word : List ℕ) (end : ℕ) → word ≡ take end text → end ≤ length text → length word ≡ end
long_front text word end is h = ap (λ (t : List ℕ). length t) is ∙ omega (arith, length-take end text, h)

pub returns-in-Some : goal.returns-in-Some
returns-in-Some c =
    let bytes = c.args.bytes.now in
    let front = c.split_at.result.0.now in
    let text = c.split_at.result.1.now in
    let end = c.ink_front-end.result in
    let word = shown c.new-word.result in
    let behind = take (length text - end) (drop end text) in
    let blank = c.split_at-2.result.0.now in
    let tail = c.split_at-2.result.1.now in
    let long : length word ≡ end = long_front text word end c.new-word.ensures c.ink_front-end.ensures.fits in
    let some : 0 < length word = omega (arith, long, c.if-end-eq0.false) in
    of_form bytes _ c.in-Some.rest.now (Lone c.new-word.result) _ (λ x. x)
    (lone_line bytes front text word behind blank tail c.in-Some.rest.now _ _
    (split_whole bytes front text c.white_front.result c.split_at.ensures.front c.split_at.ensures.back)
    (split_whole text word behind end c.new-word.ensures (take_rest text end))
    (split_whole behind blank tail c.white_front-2.result c.split_at-2.ensures.front c.split_at-2.ensures.back)
    c.in-Some.ensures
    (ap (λ (t : List ℕ). list_all is_white t) c.split_at.ensures.front ∙ c.white_front.ensures.white)
    some
    (ap (λ (t : List ℕ). list_all is_ink t) c.new-word.ensures ∙ c.ink_front-end.ensures.ink)
    (ap (λ (t : List ℕ). list_all is_white t) c.split_at-2.ensures.front ∙ c.white_front-2.ensures.white)
    (omega (arith, long)) refl)

pub returns : goal.returns
returns c =
    let bytes = c.args.bytes.now in
    let front = c.split_at.result.0.now in
    let text = c.split_at.result.1.now in
    let end = c.ink_front-end.result in
    let name = shown c.new-word.result in
    let behind = take (length text - end) (drop end text) in
    let blank = c.split_at-2.result.0.now in
    let tail = c.split_at-2.result.1.now in
    let text2 = c.in_ok-text.text.now in
    let end2 = c.plain_front-end.result in
    let items = shown c.new.result in
    let behind2 = take (length text2 - end2) (drop end2 text2) in
    let long : length name ≡ end = long_front text name end c.new-word.ensures c.ink_front-end.ensures.fits in
    let long2 : length items ≡ end2 = long_front text2 items end2 c.new.ensures c.plain_front-end.ensures.fits in
    let some : 0 < length name = omega (arith, long, c.if-end-eq0.false) in
    of_form bytes _ c.in_ok-rest.rest.now (Named c.new-word.result c.new.result) _ (λ x. x)
    (named_line bytes front text name behind blank tail text2 items behind2 c.in_ok-rest.rest.now _ _
    (split_whole bytes front text c.white_front.result c.split_at.ensures.front c.split_at.ensures.back)
    (split_whole text name behind end c.new-word.ensures (take_rest text end))
    (split_whole behind blank tail c.white_front-2.result c.split_at-2.ensures.front c.split_at-2.ensures.back)
    c.in_ok-text.ensures
    (split_whole text2 items behind2 end2 c.new.ensures (take_rest text2 end2))
    c.in_ok-rest.ensures
    (ap (λ (t : List ℕ). list_all is_white t) c.split_at.ensures.front ∙ c.white_front.ensures.white)
    some
    (ap (λ (t : List ℕ). list_all is_ink t) c.new-word.ensures ∙ c.ink_front-end.ensures.ink)
    (ap (λ (t : List ℕ). list_all is_white t) c.split_at-2.ensures.front ∙ c.white_front-2.ensures.white)
    (ap (λ (t : List ℕ). list_all is_plain t) c.new.ensures ∙ c.plain_front-end.ensures.plain)
    (omega (arith, long, long2)) refl)
