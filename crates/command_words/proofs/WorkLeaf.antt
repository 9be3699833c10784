-- `work` and `stress` as they are built.
use Rattle.std.proofs.Common.{◌≡◌, refl, true, false, Bool, List, [], ◌∷◌, Bor}
use Rattle.clap.specs.Simple.{Shape}
use Rattle.clap.specs.declared.builder.value_parser.ValueParser.TheVariants as parser
use Rattle.command_words.specs.Lines.{Setting, following, seed, tries, workers}
use Rattle.command_words.specs.Program.{stress_app, work_app}
use Rattle.command_words.specs.Words.{Text}
use Rattle.command_words.proofs.Leaves.{leaf_of}
use Rattle.command_words.proofs.LineRules.{Offers, TakesLine}

-- the command, by whether it takes a seed
abbrev pub work_leaf : Bor (List (Bor Text)) → Bool → Shape
work_leaf listed false = leaf_of (parser.Names listed) work_app
work_leaf listed true = leaf_of (parser.Names listed) stress_app

-- its options
abbrev pub work_options : Bool → List Setting
work_options false = workers ∷ tries ∷ []
work_options true = workers ∷ tries ∷ seed ∷ []

-- it takes a first file, types and these options
pub work_line : (listed : Bor (List (Bor Text))) (seeded : Bool) → TakesLine (work_leaf listed seeded) (work_options seeded)
work_line listed false = record { rules = refl; again = refl; wants_word = refl; wants_command = refl; negates = refl }
work_line listed true = record { rules = refl; again = refl; wants_word = refl; wants_command = refl; negates = refl }

-- which options those are
pub takes_workers : (seeded : Bool) → Offers (work_options seeded) workers
takes_workers false = refl
takes_workers true = refl

pub takes_tries : (seeded : Bool) → Offers (work_options seeded) tries
takes_tries false = refl
takes_tries true = refl

pub takes_seed : (seeded : Bool) → seeded ≡ true → Offers (work_options seeded) seed
takes_seed false is = absurd cc
takes_seed true is = refl

pub no_following : (seeded : Bool) → ¬ (Offers (work_options seeded) following)
no_following false offered = cc
no_following true offered = cc
