-- The lines that say what workers did, after the text of a history: each is a comment there.
use Rattle.std.specs.Prelude.{ℕ, List, [], ◌∷◌, codes}
use Rattle.std.specs.Fmt.{decimal}
use Rattle.std.specs.List.{flat_map, enumerate_from}
use Rattle.line_text.specs.Spelling.{text_of}
use Rattle.script_run.specs.Lines.{kept_words, refusal_number, refusal_name}
use Rattle.worker_turns.specs.declared.outcome.Outcome.{Outcome}
use Rattle.worker_turns.specs.declared.outcome.Outcome.TheVariants.{Committed, GaveUp, Refused, NotRun}
use Rattle.worker_turns.specs.declared.outcome.Report.{Report}

-- ---- kept states

-- the line of an object, by its place, and its kept state
abbrev pub kept_line : ℕ × ℕ → List (List ℕ)
kept_line p = kept_words (p.0) (p.1)

-- a line for the kept state of each object, in order
abbrev pub kept_text : List ℕ → List ℕ
kept_text kept = text_of kept_line (enumerate_from 0 kept)

-- ---- jobs

-- `committed T`, `gaveup`, `refused N Kind` or `notrun`
abbrev pub outcome_words : Outcome → List (List ℕ)
outcome_words (Committed t) = codes "committed" ∷ decimal t ∷ []
outcome_words GaveUp = codes "gaveup" ∷ []
outcome_words (Refused r) = codes "refused" ∷ decimal (refusal_number r) ∷ refusal_name r ∷ []
outcome_words NotRun = codes "notrun" ∷ []

-- `# job W I ..`, for job I of worker W with its outcome
abbrev pub job_words : ℕ → ℕ × Outcome → List (List ℕ)
job_words w p = codes "#" ∷ codes "job" ∷ decimal w ∷ decimal (p.0) ∷ outcome_words (p.1)

-- a line for each job of a worker, in order: its jobs are counted from 0
abbrev pub report_text : ℕ × Report → List ℕ
report_text p = text_of (job_words (p.0)) (enumerate_from 0 (p.1).outcomes.items)

-- those of all workers, in order
abbrev pub reports_text : List Report → List ℕ
reports_text reports = flat_map report_text (enumerate_from 0 reports)
