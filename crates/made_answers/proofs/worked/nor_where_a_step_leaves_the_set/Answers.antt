use Rattle.std.proofs.Common.{sym, refl, arith}
use Rattle.std.proofs.lemmas.Bool.{false≢true}
use Rattle.type_table.specs.Table.{next}
use Rattle.made_answers.proofs.worked.nor_where_a_step_leaves_the_set.Goals as goal

pub returns : goal.returns
unfolding next
returns c = record {
  set = λ has. false≢true (has.closed 1 0 2 refl refl);
  answer = λ yes. false≢true (sym (yes.yes.1.certified.never_leaves 1 0 (omega arith) (omega arith)));
}
