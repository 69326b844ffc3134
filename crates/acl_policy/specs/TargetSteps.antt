-- What the private steps that read a target line give.
use Rattle.acl_words.specs.Tokens.{Token}
use Rattle.acl_policy.specs.declared.target_lines.NamedTarget.{NamedTarget}
use Rattle.acl_policy.specs.declared.target_lines.TargetForm.{TargetForm}
use Rattle.acl_policy.specs.Targets.{named_target}

-- The target of the form, by the keyword of its line and the word that names it.
abbrev pub formed_target : Token → Token → TargetForm → NamedTarget
formed_target k n form = named_target n (record {
  place = k.place;
  kind = form.kind;
  name = n.text;
  families = form.families;
  hook = form.hook;
  stateful = form.stateful;
  ending = form.ending;
  priority = form.priority;
  verbose = form.verbose;
  number = 0;
})
