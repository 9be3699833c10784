use Rattle.std.proofs.Common.{refl}
use Rattle.type_table.specs.Name.{is_name}
use Rattle.object_name.specs.ObjectName.{is_object_name}
use Rattle.request_text.specs.Shapes.{has_words, request_name_at, asked_name_at, object_at, transaction_at, is_verb}
use Rattle.request_text.specs.Requests.{request_of, question_of, call_request_of, kept_of, find_of}
use Rattle.request_text.proofs.worked.lines_say_objects_by_names.Goals as goal

pub returns-clause-call : goal.returns-clause-call
unfolding is_name is_object_name request_of question_of call_request_of kept_of find_of has_words request_name_at asked_name_at object_at transaction_at is_verb
returns-clause-call c = refl

pub returns-clause-kept : goal.returns-clause-kept
unfolding is_name is_object_name request_of question_of call_request_of kept_of find_of has_words request_name_at asked_name_at object_at transaction_at is_verb
returns-clause-kept c = refl

pub returns-clause-find : goal.returns-clause-find
unfolding is_name is_object_name request_of question_of call_request_of kept_of find_of has_words request_name_at asked_name_at object_at transaction_at is_verb
returns-clause-find c = refl

pub returns-clause-no_name : goal.returns-clause-no_name
unfolding is_name is_object_name request_of question_of call_request_of kept_of find_of has_words request_name_at asked_name_at object_at transaction_at is_verb
returns-clause-no_name c = refl

pub returns-clause-comma : goal.returns-clause-comma
unfolding is_name is_object_name request_of question_of call_request_of kept_of find_of has_words request_name_at asked_name_at object_at transaction_at is_verb
returns-clause-comma c = refl

pub returns-clause-without_the_sign : goal.returns-clause-without_the_sign
unfolding is_name is_object_name request_of question_of call_request_of kept_of find_of has_words request_name_at asked_name_at object_at transaction_at is_verb
returns-clause-without_the_sign c = refl

pub returns-clause-with_the_sign : goal.returns-clause-with_the_sign
unfolding is_name is_object_name request_of question_of call_request_of kept_of find_of has_words request_name_at asked_name_at object_at transaction_at is_verb
returns-clause-with_the_sign c = refl
