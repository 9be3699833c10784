-- The lists of jobs of the worked text.
use Rattle.std.proofs.Common.{◌≡◌, ◌∙◌, ℕ, suc, zero, List, Some, length, map, slice_get, ap, sym}
use Rattle.std.proofs.lemmas.List.{length-map}
use Rattle.std.proofs.lemmas.Option.{none-some, same_Some, slice_get-map}
use Rattle.std.specs.Option.{option_map}
use Rattle.std.specs.Prelude.{Vec}
use Rattle.std.specs.declared.alloc.Global.{Global}
use Rattle.jobs_text.specs.Examples.{job_lines}
use Rattle.jobs_text.specs.Jobs.{Call, AreJobsOf, calls_in, jobs_of}
use Rattle.jobs_text.specs.declared.jobs_file.Job.{Job}
use Rattle.store_files.specs.JobExamples.{both_lists}

-- the list of each is that of its lines
at_worker : (w : ℕ) (calls : List (List Call)) → slice_get both_lists w ≡ Some calls → calls ≡ jobs_of w job_lines
at_worker zero calls there = sym (same_Some _ calls there)
at_worker (suc zero) calls there = sym (same_Some _ calls there)
at_worker (suc (suc w)) calls there = absurd (none-some calls there)

-- the lists of both workers are those of their lines
pub both-jobs : (lists : List (Vec Job Global)) → map calls_in lists ≡ both_lists → AreJobsOf 2 job_lines lists
both-jobs lists are = record {
  count = sym (length-map lists calls_in) ∙ ap (λ (l : List (List (List Call))). length l) are;
  each = λ w list there.
      let at : slice_get both_lists w ≡ Some (calls_in list) = ap (λ (l : List (List (List Call))). slice_get l w) (sym are) ∙ slice_get-map calls_in lists w ∙ ap (option_map calls_in) there in
      at_worker w (calls_in list) at;
}
