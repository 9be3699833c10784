-- Command lines with options: of the commands that set workers to work, and of `audit`.
use Rattle.std.specs.Prelude.{◌≡◌, ◌≢◌, ◌==◌, false, ℕ, ◌<◌, ◌≤◌, ◌^◌, length, List, [], ◌∷◌, ◌++◌, Option, Some, None, IfSome, ⊤, slice_index, codes}
use Rattle.std.specs.Str.Parse.{IsNumeral, digits_value, without_leading_plus}
use Rattle.clap.specs.Walk.{Text}

-- the word begins with no hyphen
abbrev pub IsPlain : Text → Type 0
IsPlain word = (slice_index word 0 == 45) ≡ false

-- an option with a value
pub data Setting : Type 0 where
  workers : Setting
  tries : Setting
  seed : Setting
  following : Setting

-- its name
abbrev pub setting_name : Setting → Text
setting_name workers = codes "workers"
setting_name tries = codes "tries"
setting_name seed = codes "seed"
setting_name following = codes "then"

-- the words after a command's name, in their order
pub data Line : Type 0 where
  -- no more words
  done : Line
  -- `--`, and operands alone
  dashes : List Text → Line
  -- an operand
  operand : Text → Line → Line
  -- `--NAME VALUE`
  apart : Setting → Text → Line → Line
  -- `--NAME=VALUE`
  joined : Setting → Text → Line → Line

-- its words
abbrev pub line_words : Line → List Text
line_words done = []
line_words (dashes operands) = codes "--" ∷ operands
line_words (operand word rest) = word ∷ line_words rest
line_words (apart setting value rest) = (codes "--" ++ setting_name setting) ∷ value ∷ line_words rest
line_words (joined setting value rest) = (codes "--" ++ setting_name setting ++ codes "=" ++ value) ∷ line_words rest

-- its operands
abbrev pub operands_of : Line → List Text
operands_of done = []
operands_of (dashes operands) = operands
operands_of (operand word rest) = word ∷ operands_of rest
operands_of (apart setting value rest) = operands_of rest
operands_of (joined setting value rest) = operands_of rest

-- the value of an option, where it is this one's
abbrev pub value_for : Setting → Setting → Text → List Text
value_for workers workers value = value ∷ []
value_for tries tries value = value ∷ []
value_for seed seed value = value ∷ []
value_for following following value = value ∷ []
value_for wanted setting value = []

-- all values of an option
abbrev pub values_of : Setting → Line → List Text
values_of wanted done = []
values_of wanted (dashes operands) = []
values_of wanted (operand word rest) = values_of wanted rest
values_of wanted (apart setting value rest) = value_for wanted setting value ++ values_of wanted rest
values_of wanted (joined setting value rest) = value_for wanted setting value ++ values_of wanted rest

-- no operand before `--` looks like an option
abbrev pub IsClear : Line → Type 0
IsClear done = ⊤
IsClear (dashes operands) = ⊤
IsClear (operand word rest) = (slice_index word 0 ≡ 45 → slice_index word 1 ≢ 45) × IsClear rest
IsClear (apart setting value rest) = IsClear rest
IsClear (joined setting value rest) = IsClear rest

-- the text is the number in decimal digits, with or without a `+` before them
abbrev pub SpellsNumber : Text → ℕ → Type 0
SpellsNumber text n = IsNumeral 10 (without_leading_plus text) × (digits_value 10 (without_leading_plus text) ≡ n)

-- an option was given once, with this number
abbrev pub IsGiven : List Text → ℕ → Type 0
IsGiven values n = (text : Text) × (values ≡ text ∷ []) × SpellsNumber text n

-- the same, or the option wasn't given and the number is this one
abbrev pub IsGivenOr : ℕ → List Text → ℕ → Type 0
IsGivenOr other [] n = n ≡ other
IsGivenOr other (value ∷ values) n = IsGiven (value ∷ values) n

-- an option was given once, with this number, or is none of the command's
abbrev pub IsGivenAny : List Text → Option ℕ → Type 0
IsGivenAny values None = values ≡ []
IsGivenAny values (Some n) = IsGiven values n

-- what the workers are to do
pub record Work : Type 0 where
  -- the path of the jobs
  pub jobs : Text
  -- the paths of the type files
  pub types : List Text
  -- how many workers there are
  pub workers : ℕ
  -- how often a job is tried at most
  pub tries : ℕ
  -- the seed of the schedule, where one is drawn
  pub seed : Option ℕ

-- the command that asks for it
abbrev pub work_name : Option ℕ → Text
work_name None = codes "work"
work_name (Some s) = codes "stress"

-- there is at least one TYPE, and each number is in its range
pub record IsWholeWork (w : Work) : Type 0 where
  pub types : 0 < length w.types
  pub some_worker : 1 ≤ w.workers
  pub few_workers : w.workers ≤ 16
  pub some_try : 1 ≤ w.tries
  pub few_tries : w.tries ≤ 100
  pub seed : IfSome w.seed (λ s. s < 2 ^ 64)

-- the line says it
pub record SaysWork (line : Line) (w : Work) : Type 0 where
  pub clear : IsClear line
  pub operands : operands_of line ≡ w.jobs ∷ w.types
  pub workers : IsGiven (values_of workers line) w.workers
  pub tries : IsGivenOr 3 (values_of tries line) w.tries
  pub seed : IsGivenAny (values_of seed line) w.seed
  pub following : values_of following line ≡ []

-- the words are those of a line that says it, after its command's name
abbrev pub AreWorkWords : List Text → Work → Type 0
AreWorkWords words w = (line : Line) × (words ≡ work_name w.seed ∷ line_words line) × SaysWork line w

-- the histories that are to be audited
pub record Audit : Type 0 where
  -- the path of the first history
  pub history : Text
  -- the paths of those that follow it, in their order
  pub later : List Text
  -- the paths of the type files
  pub types : List Text

-- there is at least one TYPE
abbrev pub IsWholeAudit : Audit → Type 0
IsWholeAudit a = 0 < length a.types

-- the line says it, and has no option but `--then`
pub record SaysAudit (line : Line) (a : Audit) : Type 0 where
  pub clear : IsClear line
  pub operands : operands_of line ≡ a.history ∷ a.types
  pub later : values_of following line ≡ a.later
  pub alone : (other : Setting) → other ≢ following → values_of other line ≡ []

-- the words are those of a line that says it, after `audit`
abbrev pub AreAuditWords : List Text → Audit → Type 0
AreAuditWords words a = (line : Line) × (words ≡ codes "audit" ∷ line_words line) × SaysAudit line a
