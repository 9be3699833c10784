use Rattle.std.proofs.Common.{refl}
use Rattle.type_table.specs.Name.{is_name}
use Rattle.object_name.specs.ObjectName.{is_object_name}
use Rattle.transaction_key.specs.TransactionKey.{is_transaction_key}
use Rattle.request_text.specs.Shapes.{has_words, is_verb, key_at, number_at, transaction_at}
use Rattle.request_text.specs.Preparing.{prepare_request_of}
use Rattle.request_text.specs.Requests.{request_of}
use Rattle.request_text.proofs.worked.lines_that_prepare.Goals as goal

pub returns-clause-prepare : goal.returns-clause-prepare
unfolding is_name is_object_name is_transaction_key request_of prepare_request_of has_words key_at number_at transaction_at is_verb
returns-clause-prepare c = refl

pub returns-clause-latest : goal.returns-clause-latest
unfolding is_name is_object_name is_transaction_key request_of prepare_request_of has_words key_at number_at transaction_at is_verb
returns-clause-latest c = refl

pub returns-clause-too_late : goal.returns-clause-too_late
unfolding is_name is_object_name is_transaction_key request_of prepare_request_of has_words key_at number_at transaction_at is_verb
returns-clause-too_late c = refl

pub returns-clause-no_end : goal.returns-clause-no_end
unfolding is_name is_object_name is_transaction_key request_of prepare_request_of has_words key_at number_at transaction_at is_verb
returns-clause-no_end c = refl

pub returns-clause-key_before_numbers : goal.returns-clause-key_before_numbers
unfolding is_name is_object_name is_transaction_key request_of prepare_request_of has_words key_at number_at transaction_at is_verb
returns-clause-key_before_numbers c = refl

pub returns-clause-bad_number : goal.returns-clause-bad_number
unfolding is_name is_object_name is_transaction_key request_of prepare_request_of has_words key_at number_at transaction_at is_verb
returns-clause-bad_number c = refl
