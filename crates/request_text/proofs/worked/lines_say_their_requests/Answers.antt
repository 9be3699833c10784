use Rattle.std.proofs.Common.{refl}
use Rattle.type_table.specs.Name.{is_name}
use Rattle.request_text.specs.Shapes.{has_words, request_name_at, object_at, transaction_at, is_verb}
use Rattle.request_text.specs.Requests.{plain_commit_of, request_of, question_of, alone, call_request_of, commit_request_of}
use Rattle.request_text.proofs.worked.lines_say_their_requests.Goals as goal

pub returns-clause-begin : goal.returns-clause-begin
unfolding is_name request_of question_of alone call_request_of commit_request_of plain_commit_of has_words request_name_at object_at transaction_at is_verb
returns-clause-begin c = refl

pub returns-clause-call : goal.returns-clause-call
unfolding is_name request_of question_of alone call_request_of commit_request_of plain_commit_of has_words request_name_at object_at transaction_at is_verb
returns-clause-call c = refl

pub returns-clause-unknown_verb : goal.returns-clause-unknown_verb
unfolding is_name request_of question_of alone call_request_of commit_request_of plain_commit_of has_words request_name_at object_at transaction_at is_verb
returns-clause-unknown_verb c = refl

pub returns-clause-space_behind : goal.returns-clause-space_behind
unfolding is_name request_of question_of alone call_request_of commit_request_of plain_commit_of has_words request_name_at object_at transaction_at is_verb
returns-clause-space_behind c = refl

pub returns-clause-words_before_numbers : goal.returns-clause-words_before_numbers
unfolding is_name request_of question_of alone call_request_of commit_request_of plain_commit_of has_words request_name_at object_at transaction_at is_verb
returns-clause-words_before_numbers c = refl

pub returns-clause-bad_number : goal.returns-clause-bad_number
unfolding is_name request_of question_of alone call_request_of commit_request_of plain_commit_of has_words request_name_at object_at transaction_at is_verb
returns-clause-bad_number c = refl
