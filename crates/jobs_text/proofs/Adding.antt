-- Jobs that are put after those of their workers.
use Rattle.std.proofs.Common.{◌≡◌, ℕ, ◌+◌, ◌<◌, List, [], ◌∷◌, ◌++◌, length, drop, get_or, map, Some, refl, sym, ap, ◌∙◌, inl, inr, cond, append_assoc, append-nil}
use Rattle.std.specs.Prelude.{Vec, slice_set}
use Rattle.std.specs.List.{AllByRecursion, slice_get}
use Rattle.std.specs.declared.alloc.Global.{Global}
use Rattle.std.proofs.lemmas.Bool.{ne_eqb, eq-eqb}
use Rattle.std.proofs.lemmas.List.{map-append, length-set}
use Rattle.std.proofs.lemmas.Option.{slice_get_read}
use Rattle.type_table.proofs.Elements.{each-found}
use Rattle.jobs_text.specs.declared.job_line.JobLine.{JobLine}
use Rattle.jobs_text.specs.declared.job_line.JobLine.TheVariants as line
use Rattle.jobs_text.specs.declared.jobs_file.Job.{Job}
use Rattle.jobs_text.specs.Jobs.{Call, calls_before_job, calls_in, job_of_worker, job_at, jobs_of, AddJobs, AreJobsOf}
use Rattle.jobs_text.proofs.Taken.{drop-next, set_found}

-- no job
pub adds_none : (lists : List (Vec Job Global)) → AddJobs lists lists (λ w. [])
adds_none lists = record { count = refl; each = λ w list at. (list, at, sym (append-nil (calls_in list))) }

-- one job of one worker
pub adds_one : (old : List (Vec Job Global)) (v : ℕ) (before after : Vec Job Global) (job : Job) → v < length old → before ≡ get_or old v before
    → after.items ≡ before.items ++ job ∷ [] → AddJobs old (slice_set old v after) (λ w. job_of_worker v w job.calls.items)
adds_one old v before after job below at step = record {
  count = length-set old v after;
  each = λ w list found. elim (set_found old v w after list below found) [
    | inl same ↦
        let of : job_of_worker v w job.calls.items ≡ job.calls.items ∷ [] = ap (λ t. cond t (job.calls.items ∷ []) []) (eq-eqb v w (sym same.0)) in
        let pushed : calls_in list ≡ calls_in before ++ job.calls.items ∷ [] = ap calls_in same.1 ∙ ap (map (λ (j : Job). j.calls.items)) step ∙ map-append (λ (j : Job). j.calls.items) before.items (job ∷ []) in
        (before, ap (slice_get old) same.0 ∙ slice_get_read old (length old) v before refl below at, pushed ∙ ap (λ l. calls_in before ++ l) (sym of))
    | inr other ↦
        let of : job_of_worker v w job.calls.items ≡ [] = ap (λ t. cond t (job.calls.items ∷ []) []) (ne_eqb v w (λ e. other.0 (sym e))) in
        (list, other.1, sym (ap (λ l. calls_in list ++ l) of ∙ append-nil (calls_in list)))
  ];
}

-- the job that a `job` line opens
pub adds_opened : (old new : List (Vec Job Global)) (x : JobLine) (behind : List JobLine) (v : ℕ) (calls : List Call) → x ≡ line.Job v → calls ≡ calls_before_job behind
    → AddJobs old new (λ w. job_of_worker v w calls) → AddJobs old new (λ w. job_at w x behind)
adds_opened old new x behind v calls is calls_is h = record {
  count = h.count;
  each = λ w list at.
      let was = h.each w list at in
      let same : job_of_worker v w calls ≡ job_at w x behind = ap (job_of_worker v w) calls_is ∙ sym (ap (λ y. job_at w y behind) is) in
      (was.0, was.1, was.2 ∙ ap (λ l. calls_in was.0 ++ l) same);
}

-- another line opens none
pub adds_unopened : (lists : List (Vec Job Global)) (x : JobLine) (behind : List JobLine) → ((v : ℕ) → x ≡ line.Job v → ⊥) → AddJobs lists lists (λ w. job_at w x behind)
adds_unopened lists (line.Job v) behind other = absurd (other v refl)
adds_unopened lists (line.Do x call) behind other = adds_none lists

-- the jobs so far are those that the lines so far open
pub record AreSoFar (workers : ℕ) (lines : List JobLine) (place : ℕ) (lists : List (Vec Job Global)) : Type 0 where
  pub count : length lists ≡ workers
  pub each : (w : ℕ) (list : Vec Job Global) → slice_get lists w ≡ Some list → calls_in list ++ jobs_of w (drop place lines) ≡ jobs_of w lines

-- before the first line there is none
pub none_so_far : (workers : ℕ) (lines : List JobLine) (lists : List (Vec Job Global)) → length lists ≡ workers
    → AllByRecursion (λ (list : Vec Job Global). list.items ≡ []) lists → AreSoFar workers lines 0 lists
none_so_far workers lines lists count empty = record {
  count = count;
  each = λ w list at. let none : list.items ≡ [] = each-found (λ (l : Vec Job Global). l.items ≡ []) lists w list empty at in rw none refl;
}

-- one more line
pub more_so_far : (workers : ℕ) (lines behind : List JobLine) (place : ℕ) (line : JobLine) (old new : List (Vec Job Global)) → place < length lines → line ≡ get_or lines place line
    → behind ≡ drop (place + 1) lines → AreSoFar workers lines place old → AddJobs old new (λ w. job_at w line behind) → AreSoFar workers lines (place + 1) new
more_so_far workers lines behind place line old new below at rest_is so_far step = record {
  count = step.count ∙ so_far.count;
  each = λ w list found.
      let was = step.each w list found in
      let rest = jobs_of w (drop (place + 1) lines) in
      let more = job_at w line behind in
      let opened : jobs_of w (drop place lines) ≡ more ++ rest = ap (jobs_of w) (drop-next lines place line below at) ∙ ap (λ l. job_at w line l ++ rest) (sym rest_is) in
      ap (λ l. l ++ rest) was.2 ∙ append_assoc (calls_in was.0) more rest ∙ ap (λ l. calls_in was.0 ++ l) (sym opened) ∙ so_far.each w was.0 was.1;
}

-- after the last line they are all
pub all_so_far : (workers : ℕ) (lines : List JobLine) (place : ℕ) (lists : List (Vec Job Global)) → drop place lines ≡ [] → AreSoFar workers lines place lists → AreJobsOf workers lines lists
all_so_far workers lines place lists none so_far = record {
  count = so_far.count;
  each = λ w list at. sym (append-nil (calls_in list)) ∙ sym (ap (λ rest. calls_in list ++ jobs_of w rest) none) ∙ so_far.each w list at;
}
