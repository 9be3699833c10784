use Rattle.std.proofs.Common.{refl}
use Rattle.type_table.specs.Name.{is_name}
use Rattle.request_text.specs.Shapes.{has_words_from, is_verb}
use Rattle.request_text.specs.Requests.{request_of, question_of, extend_request_of}
use Rattle.request_text.proofs.worked.lines_that_ask_for_more_objects.Goals as goal

pub returns-clause-extend : goal.returns-clause-extend
unfolding is_name request_of question_of extend_request_of has_words_from is_verb
returns-clause-extend c = refl

pub returns-clause-no_type : goal.returns-clause-no_type
unfolding is_name request_of question_of extend_request_of has_words_from is_verb
returns-clause-no_type c = refl
