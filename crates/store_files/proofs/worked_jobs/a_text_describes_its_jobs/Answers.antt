use Rattle.std.proofs.Common.{[], ◌∷◌, ap, sym, refl}
use Rattle.std.specs.Option.{option_to_list}
use Rattle.type_table.specs.Name.{is_name}
use Rattle.line_text.specs.Shapes.{is_key, exactly, name_at, number_at, kind_at}
use Rattle.line_text.specs.LineTests.{line_fault, words_fault, item_fault}
use Rattle.line_text.specs.Outcome.{outcome_of, first_fault, fault_on}
use Rattle.line_text.specs.declared.fault.FaultKind.TheVariants.{OutOfRange}
use Rattle.store_text.specs.Body.{line_of, max_of_words, object_of_words, nameless_of_words, end_of_words}
use Rattle.jobs_text.specs.Examples.{jobs_lines}
use Rattle.jobs_text.specs.JobLines.{job_line_of, job_of, do_of}
use Rattle.store_files.proofs.JobLists.{both-jobs}
use Rattle.store_files.proofs.worked_jobs.a_text_describes_its_jobs.Goals as goal

pub returns-clause-described : goal.returns-clause-described
returns-clause-described c = λ file has. record {
  lines = jobs_lines;
  accepted = c.texts_say_their_lines.ensures.jobs;
  described = record {
    size = sym (ap option_to_list has.size_is);
    max = ap (λ most. most ∷ []) (sym has.max_is);
    objects = has.objects_are;
    jobs = both-jobs file.jobs.items has.jobs_are;
  };
}

pub returns-clause-one_worker : goal.returns-clause-one_worker
unfolding outcome_of first_fault line_fault words_fault item_fault is_key exactly name_at is_name number_at kind_at line_of max_of_words object_of_words nameless_of_words end_of_words job_line_of job_of do_of
returns-clause-one_worker c = (fault_on 3 OutOfRange, refl)
