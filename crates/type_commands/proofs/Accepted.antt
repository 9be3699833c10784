-- `check` says yes of what `make` and `tables` wrote.
use Rattle.std.proofs.Common.{◌≡◌, ◌↔◌, ℕ, [], ◌≤◌, true, false, List, Ok, Err, refl, sym, ap, subst, ◌∙◌}
use Rattle.std.proofs.lemmas.Bool.{false≢true}
use Rattle.command_files.specs.declared.status.Verdict.{Verdict}
use Rattle.command_files.specs.declared.status.Verdict.TheVariants.{Yes, No}
use Rattle.declared_types.specs.Declarations.{file_of, number_file, IsByTable}
use Rattle.declared_types.specs.TypeFile.{PartsTellTheFile}
use Rattle.declared_types.specs.declared.declared_type.Declaration.{Declaration}
use Rattle.declared_types.specs.declared.declared_type.Declaration.TheVariants.{Table, Number as Numbers}
use Rattle.declared_types.specs.declared.type_file.TypeFile.{TypeFile}
use Rattle.made_answers.specs.Answers.{HasClosedSet, IsAnsweredStrongly, IsAnsweredYes}
use Rattle.made_answers.specs.Laws.{AmountsAreAccepted, ElementsAreAccepted, IsForEachKind, IsForTables, MadeIsAccepted, NumbersAreAccepted}
use Rattle.number_text.specs.Canonical.{WrittenIsRead}
use Rattle.number_types.specs.Calls.{most_number}
use Rattle.number_types.specs.Number.{Number}
use Rattle.table_families.specs.Number.{amounts_number}
use Rattle.table_maker.specs.Made.{Family, IsMadeFile}
use Rattle.type_table.specs.declared.kind.Kind.{Kind}
use Rattle.type_table.specs.declared.kind.Kind.TheVariants as kinds
use Rattle.type_table.specs.declared.table_kind.TableKind.{TableKind}
use Rattle.type_table.specs.declared.table_kind.TableKind.TheVariants as tabled
use Rattle.type_table.specs.Kind.{of_table}
use Rattle.type_table.specs.Name.{is_name}
use Rattle.type_text.specs.Canonical.{LinesTellTheFile}
use Rattle.type_text.specs.TypeFile.{IsFileOf}
use Rattle.type_commands.specs.Accepted.{IsFor, IsKnownFile, IsReadFrom, IsSaidStrongly, SaysYesOfMade, SaysYesOfTables}
use Rattle.type_commands.specs.Made.{DeclaresFormula, IsMadeFor, IsMadeOf}
use Rattle.type_commands.specs.Request.{Wanted, account, counter, stock, set, semiqueue, queue, seats, number, formula_of, table, value}
use Rattle.type_commands.specs.Verdict.{SaysOf, SaysYes, yes_line}

-- ---- what is read is what was written

-- a number's name is a name
abbrev IsNamed : Declaration → Type 0
IsNamed (Table file) = Unit {0}
IsNamed (Numbers v) = is_name v.name ≡ true

-- what is known of reading
pub record AreReadings : Type 0 where
  pub lines : LinesTellTheFile
  pub parts : PartsTellTheFile
  pub numbers : WrittenIsRead

read_is_made : AreReadings → (made back : Declaration) → IsNamed made → IsReadFrom made back → made ≡ back
read_is_made known (Table a) (Table b) named is =
    let first = is.written.1 in
    let second = is.read.1 in
    let same : first.0 ≡ second.0 = let both = sym first.1 ∙ second.1 in cc in
    ap Table (known.parts a b (known.lines first.0 a b is.made_known is.back_known first.2 (subst (λ l. IsFileOf l b) (sym same) second.2)))
read_is_made known (Table a) (Numbers w) named is = absurd (false≢true (sym is.written.0 ∙ is.read.0))
read_is_made known (Numbers v) (Table b) named is = absurd (false≢true (sym is.read.0 ∙ is.written.0))
read_is_made known (Numbers v) (Numbers w) named is = ap Numbers (sym (known.numbers v w is.made_known named is.read.1))

-- ---- what is said

-- where the checker's answer is a yes, a yes is said
says_yes : (kind : Kind) (file : TypeFile) → IsAnsweredYes kind file → (verdict : Verdict) (line : List ℕ) → SaysOf kind file verdict line → verdict ≡ Yes
says_yes kind file answered Yes line says = refl
says_yes kind file answered No line says = absurd (let clash = answered.alone (Err (file, says.refusal)) (refl, says.first) in cc)

-- and a strong one where it is strong
says_strongly : (kind : Kind) (file : TypeFile) → IsAnsweredStrongly kind file → (verdict : Verdict) (line : List ℕ) → SaysOf kind file verdict line → IsSaidStrongly verdict line
says_strongly kind file answered Yes line says = record { yes = refl; strong = says.line ∙ ap yes_line (says.is_strong.1 answered.strong) }
says_strongly kind file answered No line says = absurd (let clash = says_yes kind file answered.yes No line says in cc)

-- where a yes is said of a made file, its set is closed and holds the initial state
set_of_yes : (kind : TableKind) (file : TypeFile) (line : List ℕ) → SaysYes (of_table kind) file line → HasClosedSet file
set_of_yes tabled.Undo file line says = record { begins_inside = says.covers.begins_inside; closed = says.covers.closed }
set_of_yes tabled.Intentions file line says = record { begins_inside = says.covers.begins_inside; closed = says.covers.closed }

-- ---- what is made is accepted

-- a family's file, for a kind with a conflict table
by_table : (f : Family) → IsForTables f → (made : Declaration) (kind : Kind) → IsByTable kind → DeclaresFormula (table f) made → IsAnsweredStrongly kind (file_of made)
by_table f each (Table file) kinds.Undo so is = each tabled.Undo file is
by_table f each (Table file) kinds.Intentions so is = each tabled.Intentions file is
by_table f each (Table file) kinds.Escrow so is = absurd so
by_table f each (Numbers v) kind so is = absurd is

-- that of a family of numbers
by_amounts : (f : Family) → IsForEachKind f → (made : Declaration) (kind : Kind) → DeclaresFormula (table f) made → IsAnsweredStrongly kind (file_of made)
by_amounts f each (Table file) kind is = each kind file is
by_amounts f each (Numbers v) kind is = absurd is

made_accepted : ElementsAreAccepted → AmountsAreAccepted → NumbersAreAccepted → (wanted : Wanted) (made : Declaration) (kind : Kind)
    → IsMadeFor wanted made → IsFor wanted kind → IsKnownFile made → IsAnsweredStrongly kind (file_of made)
made_accepted of_elements of_amounts numbers (account cap amounts) made kind is so known = by_amounts _ (of_amounts cap amounts is.good).accounts made kind is.follows
made_accepted of_elements of_amounts numbers (counter cap amounts) made kind is so known = by_amounts _ (of_amounts cap amounts is.good).counters made kind is.follows
made_accepted of_elements of_amounts numbers (stock cap amounts) made kind is so known = by_amounts _ (of_amounts cap amounts is.good).stocks made kind is.follows
made_accepted of_elements of_amounts numbers (set elements) made kind is so known = by_table _ (of_elements elements 0).sets made kind so is.follows
made_accepted of_elements of_amounts numbers (semiqueue elements capacity) made kind is so known = by_table _ (of_elements elements capacity).semiqueues made kind so is.follows
made_accepted of_elements of_amounts numbers (queue elements capacity) made kind is so known = by_table _ (of_elements elements capacity).queues made kind so is.follows
made_accepted of_elements of_amounts numbers (seats count) made kind is so known = by_table _ (of_elements [] count).seats made kind so is.follows
made_accepted of_elements of_amounts numbers (number max amounts) (Table file) kind is so known = absurd is.follows
made_accepted of_elements of_amounts numbers (number max amounts) (Numbers v) kind is so known =
    let fits = subst (λ (w : Number). w.max ≤ most_number) is.follows known.max_fits in
    let yes = numbers max amounts fits is.good is.fits in
    subst (λ k. IsAnsweredStrongly k (number_file v)) (sym so) (subst (λ w. IsAnsweredStrongly kinds.Escrow (number_file w)) (sym is.follows) yes)

-- and a number that is made has a name
made_named : (wanted : Wanted) (made : Declaration) → IsMadeFor wanted made → IsNamed made
unfolding is_name
made_named wanted (Table file) is = tt
made_named (account cap amounts) (Numbers v) is = absurd is.follows
made_named (counter cap amounts) (Numbers v) is = absurd is.follows
made_named (stock cap amounts) (Numbers v) is = absurd is.follows
made_named (set elements) (Numbers v) is = absurd is.follows
made_named (semiqueue elements capacity) (Numbers v) is = absurd is.follows
made_named (queue elements capacity) (Numbers v) is = absurd is.follows
made_named (seats count) (Numbers v) is = absurd is.follows
made_named (number max amounts) (Numbers v) is = ap (λ (w : Number). is_name w.name) is.follows

pub says_yes_of_made : AreReadings → ElementsAreAccepted → AmountsAreAccepted → NumbersAreAccepted → SaysYesOfMade
says_yes_of_made known of_elements of_amounts numbers = λ wanted made back kind verdict line is so read says.
    let yes = made_accepted of_elements of_amounts numbers wanted made kind is so read.made_known in
    says_strongly kind (file_of back) (subst (λ d. IsAnsweredStrongly kind (file_of d)) (read_is_made known made back (made_named wanted made is) read) yes) verdict line says

-- ---- what `tables` writes

-- the set of a file with the same table and set
same_set : (given file : TypeFile) → IsMadeOf given file → HasClosedSet given ↔ HasClosedSet file
same_set given file is = (
  λ set. record { begins_inside = rw (is.table, is.reach) set.begins_inside; closed = rw (is.table, is.reach) set.closed },
  λ set. record { begins_inside = rw (is.table, is.reach) at set.begins_inside; closed = rw (is.table, is.reach) at set.closed },
)

-- a yes of a made file is said exactly there
said_exactly : MadeIsAccepted → (kind : TableKind) (file : TypeFile) → IsMadeFile file → (verdict : Verdict) (line : List ℕ) → SaysOf (of_table kind) file verdict line → (verdict ≡ Yes) ↔ HasClosedSet file
said_exactly accepted kind file made Yes line says = (λ yes. set_of_yes kind file line says, λ set. refl)
said_exactly accepted kind file made No line says = (
  λ yes. absurd (let clash = yes in cc),
  λ set. says_yes (of_table kind) file ((accepted kind file made).1 set) No line says,
)

pub says_yes_of_tables : AreReadings → MadeIsAccepted → SaysYesOfTables
says_yes_of_tables known accepted = λ given file back kind verdict line is read says.
    let same : file_of back ≡ file = sym (ap file_of (read_is_made known (Table file) back tt read)) in
    let said = said_exactly accepted kind file is.made verdict line (subst (λ f. SaysOf (of_table kind) f verdict line) same says) in
    let sets = same_set given file is in
    (λ yes. sets.1 (said.0 yes), λ set. said.1 (sets.0 set))
