use Rattle.std.proofs.Common.{refl}
use Rattle.type_table.specs.Name.{is_name}
use Rattle.object_name.specs.ObjectName.{is_object_name}
use Rattle.transaction_key.specs.TransactionKey.{is_transaction_key}
use Rattle.request_text.specs.Shapes.{has_words, is_verb, key_at}
use Rattle.request_text.specs.Preparing.{decide_request_of, decision_at}
use Rattle.request_text.specs.Requests.{alone, question_of, request_of}
use Rattle.request_text.proofs.worked.lines_that_decide.Goals as goal

pub returns-clause-commit : goal.returns-clause-commit
unfolding is_name is_object_name is_transaction_key request_of question_of alone decide_request_of decision_at has_words key_at is_verb
returns-clause-commit c = refl

pub returns-clause-abort : goal.returns-clause-abort
unfolding is_name is_object_name is_transaction_key request_of question_of alone decide_request_of decision_at has_words key_at is_verb
returns-clause-abort c = refl

pub returns-clause-neither : goal.returns-clause-neither
unfolding is_name is_object_name is_transaction_key request_of question_of alone decide_request_of decision_at has_words key_at is_verb
returns-clause-neither c = refl

pub returns-clause-nothing : goal.returns-clause-nothing
unfolding is_name is_object_name is_transaction_key request_of question_of alone decide_request_of decision_at has_words key_at is_verb
returns-clause-nothing c = refl

pub returns-clause-no_key : goal.returns-clause-no_key
unfolding is_name is_object_name is_transaction_key request_of question_of alone decide_request_of decision_at has_words key_at is_verb
returns-clause-no_key c = refl

pub returns-clause-prepared : goal.returns-clause-prepared
unfolding is_name is_object_name is_transaction_key request_of question_of alone decide_request_of decision_at has_words key_at is_verb
returns-clause-prepared c = refl

pub returns-clause-under_a_key : goal.returns-clause-under_a_key
unfolding is_name is_object_name is_transaction_key request_of question_of alone decide_request_of decision_at has_words key_at is_verb
returns-clause-under_a_key c = refl
