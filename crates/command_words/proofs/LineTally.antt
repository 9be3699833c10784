-- What a line has given to a command over a store's objects, and its rows.
use Rattle.std.proofs.Common.{◌≡◌, ◌∙◌, ◌++◌, ap, refl, subst, sym, true, false, ⊎_elim, List, [], ◌∷◌}
use Rattle.std.specs.Prelude.{codes, is_some, pos, Option, Some, None}
use Rattle.std.specs.Str.{bytes_eq}
use Rattle.std.proofs.lemmas.List.{append-nil}
use Rattle.clap.specs.Walk.{Row, has_row, used, with_values, without}
use Rattle.clap.specs.Kinds.{Kinds, or_else, value_kinds, values_kinds}
use Rattle.clap.specs.Faults.{repeat_fault, use_fault}
use Rattle.clap.specs.declared.builder.value_parser.Reading.{Reading}
use Rattle.clap.specs.declared.builder.value_parser.Reading.TheVariants.{AsWritten, WithoutMinus}
use Rattle.clap.specs.declared.builder.value_parser.ValueParser.{ValueParser}
use Rattle.clap.specs.declared.builder.value_parser.ValueParser.TheVariants as parser
use Rattle.clap.specs.declared.error.kind.ErrorKind.TheVariants.{ArgumentConflict}
use Rattle.clap.specs.declared.parser.matches.ValueSource.TheVariants.{CommandLine}
use Rattle.command_words.specs.Lines.{Setting, following, seed, setting_name, tries, value_for, workers}
use Rattle.command_words.specs.Words.{Text}
use Rattle.command_words.proofs.LineRules.{IsOther, Offers, path_built, same_or_other, self_name, setting_rule, types_built}
use Rattle.command_words.proofs.OptionLemmas.{by_test, never, or_else_none}
use Rattle.command_words.proofs.RowLemmas.{has_row_at, joined_row, none_without, row_at, row_joined, row_kept}

-- ---- what was given

-- the operands, and the values of each option
pub record Tally : Type 0 where
  pub operands : List Text
  pub values : Setting → List Text

-- nothing was given
abbrev pub nothing_given : Tally
nothing_given = record { operands = []; values = λ _. [] }

-- one more operand
abbrev pub with_operand : Tally → Text → Tally
with_operand t word = record t { operands = t.operands ++ word ∷ [] }

-- one more value
abbrev pub with_value : Tally → Setting → Text → Tally
with_value t s value = record t { values = λ wanted. t.values wanted ++ value_for wanted s value }

-- the row of an argument that was given these values, which are read so
abbrev pub given_row : Text → Reading → List Text → Option Row
given_row id how [] = None
given_row id how (value ∷ values) = Some (record { id = id; values = value ∷ values; count = None; source = Some CommandLine; reading = how })

-- the rows of the operands
abbrev pub path_row : List Text → Option Row
path_row [] = None
path_row (path ∷ types) = given_row (codes "path") AsWritten (path ∷ [])

abbrev pub types_row : List Text → Option Row
types_row [] = None
types_row (path ∷ types) = given_row (codes "types") AsWritten types

-- how an option's value is read, and which values it takes
abbrev pub reading_by : Setting → Reading
reading_by workers = WithoutMinus
reading_by tries = WithoutMinus
reading_by seed = AsWritten
reading_by following = AsWritten

abbrev pub values_by : Setting → ValueParser
values_by workers = parser.Signed (pos 1) (pos 16)
values_by tries = parser.Signed (pos 1) (pos 100)
values_by seed = parser.Unsigned 0 18446744073709551615
values_by following = parser.String

-- values of an option that may come once: none, or one that it takes
abbrev pub IsFitOnce : List Setting → Setting → List Text → Type 0
IsFitOnce options s [] = Unit {0}
IsFitOnce options s (value ∷ []) = Offers options s × (value_kinds false (values_by s) value ≡ [])
IsFitOnce options s (value ∷ more ∷ values) = ⊥

-- values of an option that may come any number of times: any
abbrev pub IsFitOften : List Setting → Setting → List Text → Type 0
IsFitOften options s [] = Unit {0}
IsFitOften options s (value ∷ values) = Offers options s

-- the values are fit for the option, and there are none where the command doesn't take it
abbrev pub IsFit : List Setting → Setting → List Text → Type 0
IsFit options following values = IsFitOften options following values
IsFit options s values = IsFitOnce options s values

-- after these values of the option this one may come
abbrev pub MayFollow : Setting → List Text → Text → Type 0
MayFollow following values value = Unit {0}
MayFollow s values value = (values ≡ []) × (value_kinds false (values_by s) value ≡ [])

-- the option has the row of these values
abbrev pub HasRowOf : List Row → Setting → List Text → Type 0
HasRowOf rows s values = row_at (setting_name s) rows ≡ given_row (setting_name s) (reading_by s) values

-- the rows are those of what was given
pub record Tallies (options : List Setting) (rows : List Row) (t : Tally) : Type 0 where
  pub path : row_at (codes "path") rows ≡ path_row t.operands
  pub types : row_at (codes "types") rows ≡ types_row t.operands
  pub settings : (s : Setting) → HasRowOf rows s (t.values s)
  pub fit : (s : Setting) → IsFit options s (t.values s)

-- no value is fit
none_fit : (options : List Setting) (s : Setting) → IsFit options s []
none_fit options workers = tt
none_fit options tries = tt
none_fit options seed = tt
none_fit options following = tt

-- and where the command doesn't take the option, nothing else
once_offered : (options : List Setting) (s : Setting) (values : List Text) → IsFitOnce options s values → ¬ (Offers options s) → values ≡ []
once_offered options s [] fit refused = refl
once_offered options s (value ∷ []) fit refused = absurd (refused fit.0)
once_offered options s (value ∷ more ∷ values) fit refused = absurd fit

any_offered : (options : List Setting) (s : Setting) (values : List Text) → IsFitOften options s values → ¬ (Offers options s) → values ≡ []
any_offered options s [] fit refused = refl
any_offered options s (value ∷ values) fit refused = absurd (refused fit)

pub none_offered : (options : List Setting) (s : Setting) (values : List Text) → IsFit options s values → ¬ (Offers options s) → values ≡ []
none_offered options workers values fit refused = once_offered options workers values fit refused
none_offered options tries values fit refused = once_offered options tries values fit refused
none_offered options seed values fit refused = once_offered options seed values fit refused
none_offered options following values fit refused = any_offered options following values fit refused

-- of nothing there are no rows
pub none_tallied : (options : List Setting) → Tallies options [] nothing_given
none_tallied options = record { path = refl; types = refl; settings = λ _. refl; fit = none_fit options }

-- a further value joins those before it
joined_given : (id : Text) (how : Reading) (values : List Text) (value : Text)
    → Some (joined_row id how CommandLine (value ∷ []) (given_row id how values)) ≡ given_row id how (values ++ value ∷ [])
joined_given id how [] value = refl
joined_given id how (first ∷ values) value = refl

-- ---- one more operand

-- no row of an option is the row of an operand
apart_path : (s : Setting) → bytes_eq (codes "path") (setting_name s) ≡ false
apart_path workers = refl
apart_path tries = refl
apart_path seed = refl
apart_path following = refl

apart_types : (s : Setting) → bytes_eq (codes "types") (setting_name s) ≡ false
apart_types workers = refl
apart_types tries = refl
apart_types seed = refl
apart_types following = refl

-- the first operand is the path
pub path_used : (options : List Setting) (rows : List Row) (t : Tally) (word : Text) → t.operands ≡ [] → Tallies options rows t
    → Tallies options (used path_built (word ∷ []) rows) (with_operand t word)
path_used options rows t word first tallied =
    let missing : row_at (codes "path") rows ≡ None = tallied.path ∙ ap path_row first in
    let as_added : used path_built (word ∷ []) rows ≡ with_values (codes "path") AsWritten CommandLine (word ∷ []) rows =
    ap (with_values (codes "path") AsWritten CommandLine (word ∷ [])) (none_without (codes "path") rows missing) in
    let one : t.operands ++ word ∷ [] ≡ word ∷ [] = ap (λ (os : List Text). os ++ word ∷ []) first in
    subst (λ (rs : List Row). Tallies options rs (with_operand t word)) (sym as_added) (record {
      path = row_joined (codes "path") AsWritten CommandLine (word ∷ []) rows refl
          ∙ ap (λ (o : Option Row). Some (joined_row (codes "path") AsWritten CommandLine (word ∷ []) o)) missing ∙ sym (ap path_row one);
      types = row_kept (codes "path") (codes "types") AsWritten CommandLine (word ∷ []) rows refl ∙ tallied.types ∙ ap types_row first ∙ sym (ap types_row one);
      settings = λ s. row_kept (codes "path") (setting_name s) AsWritten CommandLine (word ∷ []) rows (apart_path s) ∙ tallied.settings s;
      fit = tallied.fit;
    })

-- each other operand is a type
pub types_used : (options : List Setting) (rows : List Row) (t : Tally) (word path : Text) (types : List Text) → t.operands ≡ path ∷ types → Tallies options rows t
    → Tallies options (used types_built (word ∷ []) rows) (with_operand t word)
types_used options rows t word path types others tallied =
    let more : t.operands ++ word ∷ [] ≡ path ∷ (types ++ word ∷ []) = ap (λ (os : List Text). os ++ word ∷ []) others in
    record {
      path = row_kept (codes "types") (codes "path") AsWritten CommandLine (word ∷ []) rows refl ∙ tallied.path ∙ ap path_row others ∙ sym (ap path_row more);
      types = row_joined (codes "types") AsWritten CommandLine (word ∷ []) rows refl
          ∙ ap (λ (o : Option Row). Some (joined_row (codes "types") AsWritten CommandLine (word ∷ []) o)) (tallied.types ∙ ap types_row others)
          ∙ joined_given (codes "types") AsWritten types word ∙ sym (ap types_row more);
      settings = λ s. row_kept (codes "types") (setting_name s) AsWritten CommandLine (word ∷ []) rows (apart_types s) ∙ tallied.settings s;
      fit = tallied.fit;
    }

-- ---- one more value of an option

-- what isn't there is nothing
none_found : {X : Type 0} (o : Option X) → is_some o ≡ false → o ≡ None
none_found None missing = refl
none_found (Some x) missing = let bad : true ≡ false = missing in absurd cc

-- no row is that of no values
none_given : (id : Text) (how : Reading) (values : List Text) → given_row id how values ≡ None → values ≡ []
none_given id how [] none = refl
none_given id how (value ∷ values) none = absurd cc

-- where no kind comes of the value of an argument that is set once, it wasn't given before and takes the value
set_parts : (id : Text) (rows : List Row) (p : ValueParser) (value : Text) → or_else (repeat_fault false id rows) (values_kinds false p (value ∷ [])) ≡ []
    → (row_at id rows ≡ None) × (value_kinds false p value ≡ [])
set_parts id rows p value none =
    let parts = or_else_none (repeat_fault false id rows) _ none in
    by_test (has_row id rows)
    (λ has. absurd (never ArgumentConflict [] (simp has at parts.0)))
    (λ lacks. (none_found (row_at id rows) (sym (has_row_at id rows) ∙ lacks), (or_else_none (value_kinds false p value) [] parts.1).0))

-- and the other way round
pub set_passes : (id : Text) (rows : List Row) (p : ValueParser) (value : Text) → row_at id rows ≡ None → value_kinds false p value ≡ []
    → or_else (repeat_fault false id rows) (values_kinds false p (value ∷ [])) ≡ []
set_passes id rows p value missing fits =
    let lacks : has_row id rows ≡ false = has_row_at id rows ∙ ap (λ (o : Option Row). is_some o) missing in
    let first : repeat_fault false id rows ≡ [] = simp lacks refl in
    ap (λ (k : Kinds). or_else k (values_kinds false p (value ∷ []))) first ∙ ap (λ (k : Kinds). or_else k []) fits

-- the same of an option that is set once
once_clear : (s : Setting) (value : Text) (rows : List Row) (values : List Text) → HasRowOf rows s values
    → or_else (repeat_fault false (setting_name s) rows) (values_kinds false (values_by s) (value ∷ [])) ≡ []
    → (values ≡ []) × (value_kinds false (values_by s) value ≡ [])
once_clear s value rows values has none =
    let parts = set_parts (setting_name s) rows (values_by s) value none in
    (none_given (setting_name s) (reading_by s) values (sym has ∙ parts.0), parts.1)

once_passes : (s : Setting) (value : Text) (rows : List Row) (values : List Text) → HasRowOf rows s values
    → (values ≡ []) × (value_kinds false (values_by s) value ≡ [])
    → or_else (repeat_fault false (setting_name s) rows) (values_kinds false (values_by s) (value ∷ [])) ≡ []
once_passes s value rows values has may =
    set_passes (setting_name s) rows (values_by s) value (has ∙ ap (given_row (setting_name s) (reading_by s)) may.0) may.1

-- the same of each option, by its rule
pub value_clear : (s : Setting) (value : Text) (rows : List Row) (values : List Text) → HasRowOf rows s values
    → use_fault false (setting_rule s) (value ∷ []) rows ≡ [] → MayFollow s values value
value_clear workers value rows values has none = once_clear workers value rows values has none
value_clear tries value rows values has none = once_clear tries value rows values has none
value_clear seed value rows values has none = once_clear seed value rows values has none
value_clear following value rows values has none = tt

pub value_passes : (s : Setting) (value : Text) (rows : List Row) (values : List Text) → HasRowOf rows s values
    → MayFollow s values value → use_fault false (setting_rule s) (value ∷ []) rows ≡ []
value_passes workers value rows values has may = once_passes workers value rows values has may
value_passes tries value rows values has may = once_passes tries value rows values has may
value_passes seed value rows values has may = once_passes seed value rows values has may
value_passes following value rows values has may = refl

-- the rows with the value of an option
abbrev with_row : Setting → Text → List Row → List Row
with_row s value rows = with_values (setting_name s) (reading_by s) CommandLine (value ∷ []) rows

once_used : (s : Setting) (value : Text) (rows : List Row) (values : List Text) → HasRowOf rows s values → values ≡ []
    → with_row s value (without (setting_name s) rows) ≡ with_row s value rows
once_used s value rows values has first =
    ap (with_row s value) (none_without (setting_name s) rows (has ∙ ap (given_row (setting_name s) (reading_by s)) first))

setting_used : (s : Setting) (value : Text) (rows : List Row) (values : List Text) → HasRowOf rows s values → MayFollow s values value
    → used (setting_rule s) (value ∷ []) rows ≡ with_row s value rows
setting_used workers value rows values has may = once_used workers value rows values has may.0
setting_used tries value rows values has may = once_used tries value rows values has may.0
setting_used seed value rows values has may = once_used seed value rows values has may.0
setting_used following value rows values has may = refl

-- an option's value is its own, and no other's
own_value : (s : Setting) (value : Text) → value_for s s value ≡ value ∷ []
own_value workers value = refl
own_value tries value = refl
own_value seed value = refl
own_value following value = refl

-- a value that may follow is fit after the others
once_more : (options : List Setting) (s : Setting) (values : List Text) (value : Text) → Offers options s → (values ≡ []) × (value_kinds false (values_by s) value ≡ [])
    → IsFitOnce options s (values ++ value ∷ [])
once_more options s values value offered may = subst (λ (vs : List Text). IsFitOnce options s (vs ++ value ∷ [])) (sym may.0) (offered, may.1)

fit_more : (options : List Setting) (s : Setting) (values : List Text) (value : Text) → Offers options s → MayFollow s values value
    → IsFit options s (values ++ value ∷ [])
fit_more options workers values value offered may = once_more options workers values value offered may
fit_more options tries values value offered may = once_more options tries values value offered may
fit_more options seed values value offered may = once_more options seed values value offered may
fit_more options following [] value offered may = offered
fit_more options following (first ∷ values) value offered may = offered

-- the options are apart from the operands
path_apart : (s : Setting) → bytes_eq (setting_name s) (codes "path") ≡ false
path_apart workers = refl
path_apart tries = refl
path_apart seed = refl
path_apart following = refl

types_apart : (s : Setting) → bytes_eq (setting_name s) (codes "types") ≡ false
types_apart workers = refl
types_apart tries = refl
types_apart seed = refl
types_apart following = refl

-- an option has the row of its values, where the last of all values is this one
abbrev HasRow : List Row → Tally → Setting → Text → Setting → Type 0
HasRow rows t s value wanted = HasRowOf (with_row s value rows) wanted (t.values wanted ++ value_for wanted s value)

-- and its values are fit
abbrev HasFit : List Setting → Tally → Setting → Text → Setting → Type 0
HasFit options t s value wanted = IsFit options wanted (t.values wanted ++ value_for wanted s value)

-- the value of an option that may follow those before it joins what was given
pub value_used : (options : List Setting) (rows : List Row) (t : Tally) (s : Setting) (value : Text) → Offers options s
    → MayFollow s (t.values s) value → Tallies options rows t
    → Tallies options (used (setting_rule s) (value ∷ []) rows) (with_value t s value)
value_used options rows t s value offered may tallied =
    subst (λ (rs : List Row). Tallies options rs (with_value t s value)) (sym (setting_used s value rows (t.values s) (tallied.settings s) may)) (record {
      path = row_kept (setting_name s) (codes "path") (reading_by s) CommandLine (value ∷ []) rows (path_apart s) ∙ tallied.path;
      types = row_kept (setting_name s) (codes "types") (reading_by s) CommandLine (value ∷ []) rows (types_apart s) ∙ tallied.types;
      settings = λ wanted. ⊎_elim (λ same. subst (HasRow rows t s value) same own_row) (λ other. kept_row wanted other) (same_or_other wanted s);
      fit = λ wanted. ⊎_elim (λ same. subst (HasFit options t s value) same own_fit) (λ other. kept_fit wanted other) (same_or_other wanted s);
    })
  where
    joined : t.values s ++ value ∷ [] ≡ t.values s ++ value_for s s value
    joined = ap (λ (vs : List Text). t.values s ++ vs) (sym (own_value s value))

    own_row : HasRow rows t s value s
    own_row = row_joined (setting_name s) (reading_by s) CommandLine (value ∷ []) rows (self_name s)
        ∙ ap (λ (o : Option Row). Some (joined_row (setting_name s) (reading_by s) CommandLine (value ∷ []) o)) (tallied.settings s)
        ∙ joined_given (setting_name s) (reading_by s) (t.values s) value
        ∙ ap (given_row (setting_name s) (reading_by s)) joined

    own_fit : HasFit options t s value s
    own_fit = subst (IsFit options s) joined (fit_more options s (t.values s) value offered may)

    unchanged : (wanted : Setting) → IsOther wanted s → t.values wanted ≡ t.values wanted ++ value_for wanted s value
    unchanged wanted other = sym (append-nil (t.values wanted)) ∙ ap (λ (vs : List Text). t.values wanted ++ vs) (sym (other.none value))

    kept_row : (wanted : Setting) → IsOther wanted s → HasRow rows t s value wanted
    kept_row wanted other = row_kept (setting_name s) (setting_name wanted) (reading_by s) CommandLine (value ∷ []) rows other.apart
        ∙ tallied.settings wanted ∙ ap (given_row (setting_name wanted) (reading_by wanted)) (unchanged wanted other)

    kept_fit : (wanted : Setting) → IsOther wanted s → HasFit options t s value wanted
    kept_fit wanted other = subst (IsFit options wanted) (unchanged wanted other) (tallied.fit wanted)
