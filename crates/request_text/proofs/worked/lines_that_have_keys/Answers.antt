use Rattle.std.proofs.Common.{refl}
use Rattle.type_table.specs.Name.{is_name}
use Rattle.object_name.specs.ObjectName.{is_object_name}
use Rattle.transaction_key.specs.TransactionKey.{is_transaction_key}
use Rattle.request_text.specs.Shapes.{has_words, is_verb, key_at, key_in_front, transaction_at}
use Rattle.request_text.specs.Calls.{has_calls}
use Rattle.request_text.specs.Requests.{calls_request_of, commit_request_of, do_request_of, keyed_commit_of, keyed_do_of, outcome_request_of, plain_commit_of, question_of, request_of}
use Rattle.request_text.proofs.worked.lines_that_have_keys.Goals as goal

pub returns-clause-plain : goal.returns-clause-plain
unfolding is_name is_object_name is_transaction_key request_of question_of commit_request_of keyed_commit_of plain_commit_of do_request_of keyed_do_of calls_request_of outcome_request_of has_calls has_words key_at key_in_front transaction_at is_verb
returns-clause-plain c = refl

pub returns-clause-commit : goal.returns-clause-commit
unfolding is_name is_object_name is_transaction_key request_of question_of commit_request_of keyed_commit_of plain_commit_of do_request_of keyed_do_of calls_request_of outcome_request_of has_calls has_words key_at key_in_front transaction_at is_verb
returns-clause-commit c = refl

pub returns-clause-no_key : goal.returns-clause-no_key
unfolding is_name is_object_name is_transaction_key request_of question_of commit_request_of keyed_commit_of plain_commit_of do_request_of keyed_do_of calls_request_of outcome_request_of has_calls has_words key_at key_in_front transaction_at is_verb
returns-clause-no_key c = refl

pub returns-clause-key_before_number : goal.returns-clause-key_before_number
unfolding is_name is_object_name is_transaction_key request_of question_of commit_request_of keyed_commit_of plain_commit_of do_request_of keyed_do_of calls_request_of outcome_request_of has_calls has_words key_at key_in_front transaction_at is_verb
returns-clause-key_before_number c = refl

pub returns-clause-bad_number : goal.returns-clause-bad_number
unfolding is_name is_object_name is_transaction_key request_of question_of commit_request_of keyed_commit_of plain_commit_of do_request_of keyed_do_of calls_request_of outcome_request_of has_calls has_words key_at key_in_front transaction_at is_verb
returns-clause-bad_number c = refl

pub returns-clause-whole : goal.returns-clause-whole
unfolding is_name is_object_name is_transaction_key request_of question_of commit_request_of keyed_commit_of plain_commit_of do_request_of keyed_do_of calls_request_of outcome_request_of has_calls has_words key_at key_in_front transaction_at is_verb
returns-clause-whole c = refl

pub returns-clause-nothing : goal.returns-clause-nothing
unfolding is_name is_object_name is_transaction_key request_of question_of commit_request_of keyed_commit_of plain_commit_of do_request_of keyed_do_of calls_request_of outcome_request_of has_calls has_words key_at key_in_front transaction_at is_verb
returns-clause-nothing c = refl

pub returns-clause-empty_key : goal.returns-clause-empty_key
unfolding is_name is_object_name is_transaction_key request_of question_of commit_request_of keyed_commit_of plain_commit_of do_request_of keyed_do_of calls_request_of outcome_request_of has_calls has_words key_at key_in_front transaction_at is_verb
returns-clause-empty_key c = refl

pub returns-clause-outcome : goal.returns-clause-outcome
unfolding is_name is_object_name is_transaction_key request_of question_of commit_request_of keyed_commit_of plain_commit_of do_request_of keyed_do_of calls_request_of outcome_request_of has_calls has_words key_at key_in_front transaction_at is_verb
returns-clause-outcome c = refl

pub returns-clause-calls : goal.returns-clause-calls
unfolding is_name
returns-clause-calls c = refl
