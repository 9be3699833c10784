use Rattle.std.proofs.Common.{refl}
use Rattle.type_table.specs.Name.{is_name}
use Rattle.line_text.specs.Shapes.{is_key, exactly, name_at, number_at, kind_at}
use Rattle.line_text.specs.LineTests.{line_fault, words_fault, item_fault}
use Rattle.line_text.specs.Outcome.{outcome_of, first_fault}
use Rattle.store_text.specs.Body.{line_of, size_of_words, max_of_words, object_of_words, nameless_of_words, end_of_words}
use Rattle.jobs_text.specs.JobLines.{job_line_of, job_of, do_of}
use Rattle.jobs_text.proofs.worked.texts_say_their_lines.Goals as goal

pub returns : goal.returns
unfolding outcome_of first_fault line_fault words_fault item_fault is_key exactly name_at is_name number_at kind_at line_of size_of_words max_of_words object_of_words nameless_of_words end_of_words job_line_of job_of do_of
returns c = record { jobs = refl; sized = refl; spaced = refl }
