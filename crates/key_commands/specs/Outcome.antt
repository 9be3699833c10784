-- What `outcome DATABASE KEY` answers.
use Rattle.std.specs.Prelude.{◌≡◌, ℕ, Bool, true, false, List, [], ◌∷◌, Option, None, Some, IfSome, codes}
use Rattle.std.specs.List.{flat_map, list_any}
use Rattle.sqlite_trees.specs.Tree.{Trees}
use Rattle.transaction_key.specs.TransactionKey.{is_transaction_key}
use Rattle.journal.specs.declared.outcome_row.Outcome.{Outcome}
use Rattle.journal.specs.declared.outcome_row.Outcome.TheVariants.{Aborted, Committed}
use Rattle.journal.specs.Contents.{Contents, contents_of}
use Rattle.command_files.specs.Answers.{Answers}
use Rattle.command_files.specs.declared.status.Verdict.{Verdict}
use Rattle.command_files.specs.declared.status.Verdict.TheVariants.{Yes, No}
use Rattle.key_commands.specs.declared.key_outcome.Fate.{Fate}
use Rattle.key_commands.specs.declared.key_outcome.Fate.TheVariants.{Ended, Prepared, Unknown}
use Rattle.key_commands.specs.Held.{has_key, prepared_in}
use Rattle.key_commands.specs.Keys.{outcome_under}
use Rattle.key_commands.specs.Reading.{StaysAs}

-- whether it is prepared and not decided, else what is kept of it
abbrev pub fate_by : Bool → Option Outcome → Fate
fate_by true kept = Prepared
fate_by false None = Unknown
fate_by false (Some outcome) = Ended outcome

-- what became of the transaction that has this key
abbrev pub fate_under : Contents → List ℕ → Fate
fate_under c key = fate_by (list_any (has_key key) (prepared_in c)) (outcome_under c key)

-- no where nothing is known
abbrev pub fate_verdict : Fate → Verdict
fate_verdict Prepared = Yes
fate_verdict (Ended outcome) = Yes
fate_verdict Unknown = No

-- a space and words, or nothing where there is none
abbrev pub words_behind : List ℕ → List ℕ
words_behind [] = []
words_behind (b ∷ text) = 32 ∷ b ∷ text

-- that it is committed, with its replies, of which there may be none
abbrev pub committed_text : List ℕ → List ℕ
committed_text replies = flat_map (λ (piece : List ℕ). piece) (codes "committed" ∷ words_behind replies ∷ (10 ∷ []) ∷ [])

abbrev pub fate_text : Fate → List ℕ
fate_text Prepared = codes "prepared\n"
fate_text (Ended (Committed replies)) = committed_text replies
fate_text (Ended Aborted) = codes "aborted\n"
fate_text Unknown = codes "unknown\n"

-- the line of what became of it, by the file that is held, which says then what it said, if no wrong answer of a disk was taken as true
abbrev pub TellsOutcome : Type 0 → Option Trees → Option Trees → List ℕ → Answers
TellsOutcome clean found left key verdict text =
    (is_transaction_key key ≡ true)
    × (clean → IfSome found (λ was. (verdict ≡ fate_verdict (fate_under (contents_of was) key)) × (text ≡ fate_text (fate_under (contents_of was) key)) × StaysAs left (contents_of was)))
