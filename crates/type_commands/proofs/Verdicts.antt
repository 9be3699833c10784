-- The text of an answer says what the answer does.
use Rattle.std.proofs.Common.{◌≡◌, ◌↔◌, ◌∙◌, ℕ, List, Bool, true, Option, None, Some, Ok, Err}
use Rattle.command_files.specs.Answers.{IsThis}
use Rattle.command_files.specs.declared.status.Verdict.{Verdict}
use Rattle.command_files.specs.declared.status.Verdict.TheVariants.{Yes, No}
use Rattle.table_checker.specs.Checked.{IsStrong}
use Rattle.table_checker.specs.Laws.{CoversType}
use Rattle.declared_text.specs.Canonical.{canonical_text as declared_text}
use Rattle.declared_types.specs.declared.declared_type.Declaration.{Declaration}
use Rattle.type_table.specs.declared.kind.Kind.{Kind}
use Rattle.type_text.specs.Canonical.{canonical_text}
use Rattle.declared_types.specs.declared.type_file.TypeFile.{TypeFile}
use Rattle.table_maker.specs.declared.make_error.MakeError.TheVariants.{BadParameter}
use Rattle.type_commands.specs.Made.{CannotBeMade, IsMadeOf, MakesFamily, MakesFor, MakesTables}
use Rattle.type_commands.specs.Request.{Wanted}
use Rattle.type_commands.specs.Verdict.{SaysOf, yes_line}

-- the line of a yes
pub line_says : (kind : Kind) (file : TypeFile) (strong : Bool) (line : List ℕ) → ((strong ≡ true) ↔ IsStrong (record { kind = kind; file = file })) → CoversType kind file
    → line ≡ yes_line strong → (v : Verdict) (text : List ℕ) → IsThis Yes line v text → SaysOf kind file v text
line_says kind file strong line exact covers is Yes text this = record { strong = strong; is_strong = exact; covers = covers; line = this.1 ∙ is }
line_says kind file strong line exact covers is No text this = absurd (let clash = this.0 in cc)

-- the text of what is made
pub family_says : (wanted : Option Wanted) (made : Declaration) → MakesFor wanted (Ok made) → (v : Verdict) (text : List ℕ) → IsThis Yes (declared_text made) v text → MakesFamily wanted v text
family_says None made makes v text this = absurd makes
family_says (Some wanted) made makes Yes text this = (made, makes, this.1)
family_says (Some wanted) made makes No text this = absurd (let clash = this.0 in cc)

-- what is asked for out of its range can't be made
pub bad_parameter : (wanted : Option Wanted) → MakesFor wanted (Err BadParameter) → CannotBeMade wanted
bad_parameter None bad = bad
bad_parameter (Some wanted) bad = λ good fits. absurd (bad good)

-- the text of a file with made tables
pub tables_say : (given file : TypeFile) → IsMadeOf given file → (v : Verdict) (text : List ℕ) → IsThis Yes (canonical_text file) v text → MakesTables given v text
tables_say given file made Yes text this = (file, made, this.1)
tables_say given file made No text this = absurd (let clash = this.0 in cc)
