-- What the judge of a policy's words has open, and what the words that come will give.
use Rattle.std.specs.Prelude.{◌≡◌, List, ◌++◌, Option, None, Some, Result, Ok, Err}
use Rattle.acl_text.specs.Answers.{Stops, slip_told}
use Rattle.acl_text.specs.declared.faults.Refusal.{Refusal}
use Rattle.acl_text.specs.declared.faults.Slip.{Slip}
use Rattle.acl_text.specs.Steps.{◌>>=◌}
use Rattle.acl_words.specs.declared.forms.Form.{Form}
use Rattle.acl_words.specs.declared.forms.Form.TheVariants as forms
use Rattle.acl_words.specs.Tokens.{Token}
use Rattle.acl_policy.specs.declared.states.PolicyState.{PolicyState}
use Rattle.acl_policy.specs.declared.word_judges.Judge.{Judge}
use Rattle.acl_policy.specs.Policies.{behind_words, behind_mark, values_of, behind_marks}

-- A keyword or a brace with words behind it, or the words before the first one.
abbrev pub behind_open : Option Token → PolicyState → List Token → Result PolicyState Slip
behind_open None s ws = behind_words s ws
behind_open (Some m) s ws = behind_mark m.form s m ws

-- What further words stand behind, once those so far are judged: a keyword has further values, and behind a brace
-- they are plain words.
abbrev pub if_keyword : Form → Token → Option Token
if_keyword forms.Keyword m = Some m
if_keyword form m = None

abbrev pub still_open : Option Token → Option Token
still_open None = None
still_open (Some m) = if_keyword m.form m

-- Where these words stand behind what is open, and the others are still to come.
unfoldable pub rest_behind : Option Token → PolicyState → List Token → List Token → Result PolicyState Slip
rest_behind mark s vs ws = behind_open mark s (vs ++ values_of ws) >>= λ t. behind_marks t ws

-- What the words that come give behind what a judge has read.
abbrev pub rest_of : Judge → List Token → Result PolicyState Slip
rest_of j ws = rest_behind j.mark j.state j.held.items ws

-- A step changes nothing of what any further words give, or its slip is what they give.
abbrev pub KeepsReading : {X : Type 0} → (List Token → Result PolicyState Slip) → (List Token → Result PolicyState Slip)
    → Result X Refusal → Type 0
KeepsReading old new (Ok x) = (ws : List Token) → old ws ≡ new ws
KeepsReading old new (Err e) = (ws : List Token) → Stops slip_told e (old ws)
