-- What `==` says of the parts of a table.
use Rattle.std.proofs.Common.{◌≡◌, ℕ, Bool, true, eqb, List, Option, Some, None, refl, sym, ap}
use Rattle.std.specs.Bool.{Decides}
use Rattle.std.specs.Cmp.{unsigned_Decides, booleans_Decides}
use Rattle.std.specs.Option.{option_eq}
use Rattle.std.proofs.lemmas.Bool.{false≢true}
use Rattle.std.proofs.lemmas.Bool.Decides.{Decides-and}
use Rattle.std.proofs.lemmas.Option.{none-some, same_Some}
use Rattle.std.proofs.lemmas.Slice.Eq.{bytes_eq-Decides, slice_eq-Decides}
use Rattle.std.specs.Str.{bytes_eq}
use lib.Pointwise.{pointwise}
use mathlib.Core.Bool.{beq}
use Rattle.type_table.specs.Op.{is_same_op}
use Rattle.type_table.specs.Table.{Table, table_at}
use Rattle.type_table.specs.declared.op.Op.{Op}

-- two entries of the steps
same-entry : (a b : Option ℕ) → Decides (option_eq eqb a b) (a ≡ b)
same-entry None None = (λ t. refl, λ e. refl)
same-entry None (Some b) = (λ t. absurd (false≢true t), λ e. absurd (none-some b e))
same-entry (Some a) None = (λ t. absurd (false≢true t), λ e. absurd (none-some a (sym e)))
same-entry (Some a) (Some b) = (λ t. ap Some ((unsigned_Decides a b).0 t), λ e. (unsigned_Decides a b).1 (same_Some a b e))

-- two operations
same-op : (a b : Op) → Decides (is_same_op a b) (a ≡ b)
same-op a b =
    let both = Decides-and (bytes_eq a.call b.call) (bytes_eq a.reply b.reply) (bytes_eq-Decides a.call b.call) (bytes_eq-Decides a.reply b.reply) in
    (λ t. let parts = both.0 t in λ i. record { call = parts.0 i; reply = parts.1 i }, λ e. both.1 (ap (λ (o : Op). o.call) e, ap (λ (o : Op). o.reply) e))

pub same-members : (a b : List Bool) (r : Bool) → r ≡ pointwise beq a b → r ≡ true → a ≡ b
same-members a b r is = (slice_eq-Decides booleans_Decides a b r is).0

pub same-name : (a b : List ℕ) → bytes_eq a b ≡ true → a ≡ b
same-name a b = (bytes_eq-Decides a b).0

pub same-steps : (a b : List (Option ℕ)) (r : Bool) → r ≡ pointwise (option_eq eqb) a b → r ≡ true → a ≡ b
same-steps a b r is = (slice_eq-Decides same-entry a b r is).0

pub same-ops : (a b : List Op) → pointwise is_same_op a b ≡ true → a ≡ b
same-ops a b = (slice_eq-Decides same-op a b (pointwise is_same_op a b) refl).0

-- a table of these parts, which are those of the other one but for where it begins
pub same-at : (a b : Table) (state : ℕ) → a.name ≡ b.name → a.states ≡ b.states → a.initial ≡ state → a.ops ≡ b.ops → a.steps ≡ b.steps → a ≡ table_at b state
same-at a b state name states initial ops steps = λ i. record { name = name i; states = states i; initial = initial i; ops = ops i; steps = steps i }
