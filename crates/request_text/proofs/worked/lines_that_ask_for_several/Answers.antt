use Rattle.std.proofs.Common.{refl}
use Rattle.type_table.specs.Name.{is_name}
use Rattle.object_name.specs.ObjectName.{is_object_name}
use Rattle.request_text.specs.Shapes.{is_verb}
use Rattle.request_text.specs.Calls.{has_calls, has_objects}
use Rattle.request_text.specs.Requests.{do_request_of, request_of, question_of, calls_request_of, objects_request_of}
use Rattle.request_text.proofs.worked.lines_that_ask_for_several.Goals as goal

pub returns-clause-peek : goal.returns-clause-peek
unfolding is_name is_object_name request_of question_of do_request_of calls_request_of objects_request_of has_calls has_objects is_verb
returns-clause-peek c = refl

pub returns-clause-whole : goal.returns-clause-whole
unfolding is_name is_object_name request_of question_of do_request_of calls_request_of objects_request_of has_calls has_objects is_verb
returns-clause-whole c = refl

pub returns-clause-committed : goal.returns-clause-committed
unfolding is_name is_object_name request_of question_of do_request_of calls_request_of objects_request_of has_calls has_objects is_verb
returns-clause-committed c = refl

pub returns-clause-nothing : goal.returns-clause-nothing
unfolding is_name is_object_name request_of question_of do_request_of calls_request_of objects_request_of has_calls has_objects is_verb
returns-clause-nothing c = refl

pub returns-clause-no_object : goal.returns-clause-no_object
unfolding is_name is_object_name request_of question_of do_request_of calls_request_of objects_request_of has_calls has_objects is_verb
returns-clause-no_object c = refl

pub returns-clause-half_a_call : goal.returns-clause-half_a_call
unfolding is_name is_object_name request_of question_of do_request_of calls_request_of objects_request_of has_calls has_objects is_verb
returns-clause-half_a_call c = refl

pub returns-clause-names_before_numbers : goal.returns-clause-names_before_numbers
unfolding is_name is_object_name request_of question_of do_request_of calls_request_of objects_request_of has_calls has_objects is_verb
returns-clause-names_before_numbers c = refl

pub returns-clause-bad_number : goal.returns-clause-bad_number
unfolding is_name is_object_name request_of question_of do_request_of calls_request_of objects_request_of has_calls has_objects is_verb
returns-clause-bad_number c = refl

pub returns-clause-bad_object : goal.returns-clause-bad_object
unfolding is_name is_object_name request_of question_of do_request_of calls_request_of objects_request_of has_calls has_objects is_verb
returns-clause-bad_object c = refl
