-- The question that the code's value stands for.
use Rattle.std.specs.Prelude.{map}
use Rattle.acl_dead.specs.declared.questions.Asked.{Asked}
use Rattle.acl_dead.specs.Deciding.{Question}

abbrev pub question : Asked → Question
question a = record {
  target = a.target.now;
  today = a.today;
  earlier = map (λ t. t.now) a.earlier.items;
  term = a.term.now;
}
