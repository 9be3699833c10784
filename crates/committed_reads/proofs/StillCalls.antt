-- Calls of which each operation changes nothing.
use Rattle.std.proofs.Common.{◌≡◌, ◌↔◌, ℕ, ◌/◌, ◌%◌, ◌<◌, ◌≤◌, Bool, true, false, ◌==◌, nat_lt, List, [], length, get_or, Option, Some, None, slice_get, refl, sym, ap, subst, ◌∙◌, inl, inr, arith}
use Rattle.std.specs.Str.{bytes_eq}
use Rattle.std.proofs.lemmas.Bool.{eqb-true, eq-eqb}
use Rattle.std.proofs.lemmas.List.{get_or-map}
use Rattle.std.proofs.lemmas.Slice.Eq.{bytes_eq-Decides}
use Rattle.type_table.specs.Operation.{place_of}
use Rattle.type_table.specs.Table.{Table, call_of, first_op, is_same_call}
use Rattle.type_table.specs.declared.kind.Kind.TheVariants.{Escrow}
use Rattle.type_table.specs.declared.op.Op.{Op}
use Rattle.escrow_laws.specs.Bounds.{bounds_of, gives_of, takes_of}
use Rattle.number_types.specs.Number.{Number, IsNumber}
use Rattle.number_types.specs.Operations.{ops_of_call, op_at, op_done, op_bounds, bounds_or_none, number_bounds, number_table, IsAmountOf, NumberHasTable, NumberTellsBounds}
use Rattle.number_types.specs.declared.number_call.NumberCall.{NumberCall}
use Rattle.number_types.specs.declared.number_call.NumberCall.TheVariants as calls
use Rattle.number_types.specs.declared.number_op.NumberOp.{NumberOp}
use Rattle.number_types.specs.declared.number_op.NumberOp.TheVariants.{Take, Short, Give, Full, AtLeast, Below, Value}
use Rattle.number_types.proofs.Called.{asks_same, first_there, first_done}
use Rattle.number_types.proofs.FirstNamed.{first_named}
use Rattle.number_types.proofs.FirstOfLine.{first_even}
use Rattle.number_types.proofs.SameCall.{asked}
use Rattle.number_types.proofs.Tables.{found, amounts_fit, bounds_at_number, done_is}
use Rattle.declared_types.specs.Declarations.{number_file}
use Rattle.declared_types.proofs.TableOps.{op_below}
use Rattle.table_checker.specs.Checked.{Checked}
use Rattle.committed_reads.specs.Still.{is_still, is_still_by, IsStillCall}

-- ---- operations of one call

-- what is of the call of an operation that has a name is an operation
pub same-below : (T : Table) (c k : ℕ) → first_op T (call_of T c) ≡ Some c → is_same_call T k c ≡ true → k < length T.ops
same-below T c k first same =
    let names = (bytes_eq-Decides (call_of T k) (call_of T c)).0 same in
    op_below T k (ap (λ (name : List ℕ). nat_lt 0 (length name)) names ∙ (first_named T (call_of T c) c first).1)

pub first-below : (T : Table) (c : ℕ) → first_op T (call_of T c) ≡ Some c → c < length T.ops
first-below T c first = op_below T c (first_named T (call_of T c) c first).1

-- it is of its own call
pub same-itself : (T : Table) (c : ℕ) → is_same_call T c c ≡ true
same-itself T c = (bytes_eq-Decides (call_of T c) (call_of T c)).1 refl

-- the name of an operation's call
pub name-at : (T : Table) (k : ℕ) (op : Op) → k < length T.ops → op ≡ get_or T.ops k op → call_of T k ≡ op.call
name-at T k op inside is = get_or-map (λ (o : Op). o.call) T.ops k op [] inside ∙ ap (λ (o : Op). o.call) (sym is)

-- ---- of a number

-- it gives as much as it takes
abbrev even : Table → ℕ → Bool
even T k = gives_of (slice_get (bounds_of T) k) == takes_of (slice_get (bounds_of T) k)

-- a call that reads: it asks whether the number is at least so great, or which it is
abbrev Reads : NumberCall → Type 0
Reads (calls.Take n) = ⊥
Reads calls.TakeAny = ⊥
Reads (calls.Give n) = ⊥
Reads calls.GiveAny = ⊥
Reads (calls.AtLeast n) = Unit {0}
Reads calls.Value = Unit {0}

-- the first operation of a line moves the number where its call doesn't read
first-reads : (max : ℕ) (call : NumberCall) (n : ℕ) (op : NumberOp) → slice_get (ops_of_call call n) 0 ≡ Some op → IsAmountOf max op → (op_bounds max op).gives ≡ (op_bounds max op).takes → Reads (asked op)
first-reads max (calls.Take k) n (Take m) is fits balanced = absurd (omega (arith, fits.0, balanced))
first-reads max calls.TakeAny n (Take m) is fits balanced = absurd (omega (arith, fits.0, balanced))
first-reads max (calls.Give k) n (Give m) is fits balanced = absurd (omega (arith, fits.0, balanced))
first-reads max calls.GiveAny n (Give m) is fits balanced = absurd (omega (arith, fits.0, balanced))
first-reads max call n (AtLeast m) is fits balanced = tt
first-reads max call n (Below m) is fits balanced = tt
first-reads max call n (Value m) is fits balanced = tt
first-reads max call n op is fits balanced = absurd (cc)

-- each operation of a call that reads leaves it
reads-leaves : (max : ℕ) (op : NumberOp) → Reads (asked op) → (op_bounds max op).gives ≡ (op_bounds max op).takes
reads-leaves max (AtLeast n) reads = refl
reads-leaves max (Below n) reads = refl
reads-leaves max (Value n) reads = refl
reads-leaves max (Take n) reads = absurd reads
reads-leaves max (Short n) reads = absurd reads
reads-leaves max (Give n) reads = absurd reads
reads-leaves max (Full n) reads = absurd reads

module _ (tells : NumberTellsBounds) (v : Number) (known : IsNumber v) where
  bounds-at : (k : ℕ) → k < length (number_table v).ops → slice_get (bounds_of (number_table v)) k ≡ Some (bounds_or_none v.max (op_done v k))
  bounds-at k below = ap (λ bs. slice_get bs k) (tells v known) ∙ bounds_at_number v k below

  even-at : (k : ℕ) → k < length (number_table v).ops → (o : Option NumberOp) → op_done v k ≡ o →
      even (number_table v) k ≡ ((bounds_or_none v.max o).gives == (bounds_or_none v.max o).takes)
  even-at k below o is = ap (λ b. gives_of b == takes_of b) (bounds-at k below ∙ ap (λ a. Some (bounds_or_none v.max a)) is)

  module _ (c : ℕ) (first : first_op (number_table v) (call_of (number_table v) c) ≡ Some c) where
    -- where the first operation leaves the number each of its call does
    call-even : even (number_table v) c ≡ true → (k : ℕ) → is_same_call (number_table v) k c ≡ true → even (number_table v) k ≡ true
    call-even leaves k same = go (op_done v k) refl
      where
        op : NumberOp
        op = (first_there v c known first).0

        at : op_at v c ≡ Some op
        at = (first_there v c known first).1

        reads : Reads (asked op)
        reads =
            let here = found v c op at in
            let zeroth = subst (λ i. slice_get (ops_of_call here.call here.n) i ≡ Some op) (first_even v c known first) here.op_is in
            let balanced = eqb-true (op_bounds v.max op).gives (op_bounds v.max op).takes (sym (even-at c (first-below (number_table v) c first) (Some op) (first_done v c op known at first)) ∙ leaves) in
            first-reads v.max here.call here.n op zeroth (amounts_fit v c op known at) balanced

        go : (o : Option NumberOp) → op_done v k ≡ o → even (number_table v) k ≡ true
        go None is = even-at k (same-below (number_table v) c k first same) None is
        go (Some a) is =
            let alike : asked a ≡ asked op = asks_same v k c a op known (done_is v k a is) at same in
            even-at k (same-below (number_table v) c k first same) (Some a) is
            ∙ eq-eqb (op_bounds v.max a).gives (op_bounds v.max a).takes (reads-leaves v.max a (subst Reads (sym alike) reads))

-- so its first operation tells it
pub number-call : NumberTellsBounds → (checked : Checked) (v : Number) → checked.kind ≡ Escrow → checked.file ≡ number_file v → IsNumber v → (c : ℕ) →
    first_op checked.file.table (call_of checked.file.table c) ≡ Some c → (is_still checked c ≡ true) ↔ IsStillCall checked c
number-call tells checked v kind is known c first = (
  λ passes k same.
      way k
      ∙ ap (λ T. even T k) table
      ∙ call-even tells v known c (subst (λ T. first_op T (call_of T c) ≡ Some c) table first)
      (sym (way c ∙ ap (λ T. even T c) table) ∙ passes) k (subst (λ T. is_same_call T k c ≡ true) table same),
  λ all. all c (same-itself checked.file.table c),
)
  where
    table : checked.file.table ≡ number_table v
    table = ap (λ f. f.table) is

    way : (k : ℕ) → is_still checked k ≡ even checked.file.table k
    way k = ap (λ way. is_still_by way checked.file k) kind
