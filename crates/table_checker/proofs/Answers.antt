-- Each file has one answer.
use Rattle.std.proofs.Common.{◌≡◌, ℕ, ◌+◌, ◌-◌, ◌*◌, ◌<◌, ◌⊎◌, Bool, true, false, List, length, Option, Some, None, Ok, Err, inl, inr, refl, sym, ap, subst, ◌∙◌, arith, rules}
use Rattle.std.proofs.lemmas.Bool.{cases_lt, false≢true}
use Rattle.std.proofs.lemmas.Nat.{same_from_place}
use Rattle.equi_cert.specs.Fault.{is_fault, leads_outside, IsFirstFault}
use Rattle.equi_cert.specs.Simulation.{IsSimulation}
use Rattle.equi_cert.specs.Relation.{relates}
use Rattle.type_table.specs.Table.{Table, next}
use Rattle.type_table.specs.declared.kind.Kind.{Kind}
use Rattle.type_table.specs.declared.kind.Kind.TheVariants as kinds
use Rattle.type_table.specs.declared.table_kind.TableKind.{TableKind}
use Rattle.type_table.specs.declared.table_kind.TableKind.TheVariants as tabled
use Rattle.escrow_laws.specs.Bounds.{amounts_of, bounds_of}
use Rattle.escrow_laws.specs.Faults.{IsNumericFault, IsFirstNumericFault}
use Rattle.escrow_laws.specs.Laws.{BoundsAreNumeric, NumericIsFaultless}
use Rattle.declared_types.specs.TypeFile.{conflicts_of}
use Rattle.declared_types.specs.declared.type_file.TypeFile.{TypeFile}
use Rattle.table_checker.specs.Answer.{OneAnswer}
use Rattle.table_checker.specs.Checked.{IsCheckedBy, IsCommuting, IsNumericType, condition_of}
use Rattle.table_checker.specs.Condition.{triple_number, fails_at, IsFirstFailure}
use Rattle.table_checker.specs.Reach.{leaves_at, IsFirstLeave}
use Rattle.table_checker.specs.Refusal.{IsFirstReason, IsFirstOfCommuting, IsFirstOfNumeric}
use Rattle.table_checker.specs.declared.condition.Condition.{Condition}
use Rattle.table_checker.specs.declared.refusal.CheckRefusal.{CheckRefusal}
use Rattle.table_checker.specs.declared.refusal.CheckRefusal.TheVariants.{InitialOutside, NotClosed, NotSimulation, NotCommuting, NotNumeric}

-- what is true isn't false
both : {P : Type 0} (b : Bool) → b ≡ true → b ≡ false → P
both b holds fails = absurd (false≢true (sym fails ∙ holds))

-- two numbers of which neither is less are equal
by_order : (a b : ℕ) → (a < b → ⊥) → (b < a → ⊥) → a ≡ b
by_order a b not_less not_more = elim (cases_lt a b) [
  | inl less ↦ absurd (not_less less)
  | inr fine ↦ elim (cases_lt b a) [ inl more ↦ absurd (not_more more) | inr same ↦ omega arith ]
]

-- ---- first places

-- two first steps that leave the set are one
first_leave : (T : Table) (members : List Bool) (s k r c : ℕ) → IsFirstLeave T members s k → IsFirstLeave T members r c → (s ≡ r) × (k ≡ c)
first_leave T members s k r c a b =
    let states : s ≡ r = by_order s r (λ less. both (leaves_at T members s k) a.leaves (b.least_state s k less a.operation))
    (λ more. both (leaves_at T members r c) b.leaves (a.least_state r c more b.operation)) in
    let here : leaves_at T members s c ≡ true = ap (λ x. leaves_at T members x c) states ∙ b.leaves in
    let there : leaves_at T members r k ≡ true = ap (λ x. leaves_at T members x k) (sym states) ∙ a.leaves in
    (states, by_order k c (λ less. both (leaves_at T members r k) there (b.least_operation k less)) (λ more. both (leaves_at T members s c) here (a.least_operation c more)))

-- so are two first faults of a relation
first_fault : (T : Table) (related : ℕ → ℕ → Bool) (s t k a b c : ℕ) → IsFirstFault T related s t k → IsFirstFault T related a b c → (s ≡ a) × (t ≡ b) × (k ≡ c)
first_fault T related s t k a b c f g =
    let firsts : s ≡ a = by_order s a (λ less. both (is_fault T related s t k) f.fails (g.least_first s t k less))
    (λ more. both (is_fault T related a b c) g.fails (f.least_first a b c more)) in
    let g_here : is_fault T related s b c ≡ true = ap (λ x. is_fault T related x b c) firsts ∙ g.fails in
    let f_there : is_fault T related a t k ≡ true = ap (λ x. is_fault T related x t k) (sym firsts) ∙ f.fails in
    let seconds : t ≡ b = by_order t b (λ less. both (is_fault T related a t k) f_there (g.least_second t k less))
    (λ more. both (is_fault T related s b c) g_here (f.least_second b c more)) in
    let g_same : is_fault T related s t c ≡ true = ap (λ x. is_fault T related s x c) seconds ∙ g_here in
    let f_same : is_fault T related a b k ≡ true = ap (λ x. is_fault T related a x k) (sym seconds) ∙ f_there in
    (firsts, seconds, by_order k c (λ less. both (is_fault T related a b k) f_same (g.least_operation k less)) (λ more. both (is_fault T related s t c) g_same (f.least_operation c more)))

-- two first failures are one, since a row and a place in it follow from their number
first_failure : (condition : Condition) (file : TypeFile) (rows : List (List Bool)) (p q s a b r : ℕ)
    → IsFirstFailure condition file rows p q s → IsFirstFailure condition file rows a b r → (p ≡ a) × (q ≡ b) × (s ≡ r)
first_failure condition file rows p q s a b r f g =
    let T = file.table in
    let numbers : triple_number T p q s ≡ triple_number T a b r = by_order (triple_number T p q s) (triple_number T a b r)
    (λ less. both (fails_at condition file rows p q s) f.fails (g.first p q s f.inside less))
    (λ more. both (fails_at condition file rows a b r) g.fails (f.first a b r g.inside more)) in
    let pairs = same_from_place (p * length T.ops + q) s (a * length T.ops + b) r T.states f.inside.state g.inside.state numbers in
    let ops = same_from_place p q a b (length T.ops) f.inside.held g.inside.held pairs.0 in
    (ops.0, ops.1, pairs.1)

-- ---- a simulation has no fault

-- where both next states are there, and equal or a pair, they don't lead outside
not_outside : (related : ℕ → ℕ → Bool) (s t : ℕ) → (s ≡ t) ⊎ (related s t ≡ true) → leads_outside related (Some s) (Some t) ≡ false
not_outside related s t (inl same) = search (rules, same)
not_outside related s t (inr pair) = search (rules, pair)

-- the next states of a pair of a simulation don't lead outside
stays_inside : (T : Table) (related : ℕ → ℕ → Bool) (s t k : ℕ) (o : Option ℕ) → IsSimulation T related → related s t ≡ true → next T s k ≡ o → leads_outside related o (next T t k) ≡ false
stays_inside T related s t k None simulation pair e = refl
stays_inside T related s t k (Some s2) simulation pair e =
    let (t2, there, fine) = simulation s t k s2 pair e in
    rw there (not_outside related s2 t2 fine)

no_fault : (T : Table) (related : ℕ → ℕ → Bool) (s t k : ℕ) → IsSimulation T related → is_fault T related s t k ≡ true → ⊥
no_fault T related s t k simulation fault = split (related s t) refl
  where
    split : (b : Bool) → related s t ≡ b → ⊥
    split true pair = false≢true (sym (rw pair (stays_inside T related s t k (next T s k) simulation pair refl)) ∙ fault)
    split false none = false≢true (sym (rw none (refl)) ∙ fault)

-- ---- one answer

-- no first reason holds of a file that passes
none_of_commuting : (kind : TableKind) (file : TypeFile) (r : CheckRefusal) → IsCommuting kind file → IsFirstOfCommuting kind file r → ⊥
none_of_commuting kind file InitialOutside passed reason = both _ passed.certified.begins_inside reason
none_of_commuting kind file (NotClosed s k) passed reason = both _ reason.1.leaves (passed.certified.never_leaves s k reason.1.state reason.1.operation)
none_of_commuting kind file (NotSimulation s t k) passed reason = no_fault file.table (relates file.relation) s t k passed.certified.simulation reason.2.fails
none_of_commuting kind file (NotCommuting p q s) passed reason = both _ reason.1.fails (passed.passes p q s reason.1.inside)
none_of_commuting kind file (NotNumeric k s) passed reason = reason

-- two first reasons are equal
one_of_commuting : (kind : TableKind) (file : TypeFile) (a b : CheckRefusal) → IsFirstOfCommuting kind file a → IsFirstOfCommuting kind file b → a ≡ b
one_of_commuting kind file InitialOutside InitialOutside x y = refl
one_of_commuting kind file InitialOutside (NotClosed s k) x y = both _ y.0 x
one_of_commuting kind file InitialOutside (NotSimulation s t k) x y = both _ y.0 x
one_of_commuting kind file InitialOutside (NotCommuting p q s) x y = both _ y.0.begins_inside x
one_of_commuting kind file (NotClosed s k) InitialOutside x y = both _ x.0 y
one_of_commuting kind file (NotClosed s k) (NotClosed r c) x y =
    let same = first_leave file.table file.reach s k r c x.1 y.1 in
    rw (same.0, same.1) refl
one_of_commuting kind file (NotClosed s k) (NotSimulation a b c) x y = both _ x.1.leaves (y.1 s k x.1.state x.1.operation)
one_of_commuting kind file (NotClosed s k) (NotCommuting a b c) x y = both _ x.1.leaves (y.0.never_leaves s k x.1.state x.1.operation)
one_of_commuting kind file (NotSimulation s t k) InitialOutside x y = both _ x.0 y
one_of_commuting kind file (NotSimulation s t k) (NotClosed a b) x y = both _ y.1.leaves (x.1 a b y.1.state y.1.operation)
one_of_commuting kind file (NotSimulation s t k) (NotSimulation a b c) x y =
    let same = first_fault file.table (relates file.relation) s t k a b c x.2 y.2 in
    rw (same.0, same.1, same.2) refl
one_of_commuting kind file (NotSimulation s t k) (NotCommuting a b c) x y = absurd (no_fault file.table (relates file.relation) s t k y.0.simulation x.2.fails)
one_of_commuting kind file (NotCommuting p q s) InitialOutside x y = both _ x.0.begins_inside y
one_of_commuting kind file (NotCommuting p q s) (NotClosed a b) x y = both _ y.1.leaves (x.0.never_leaves a b y.1.state y.1.operation)
one_of_commuting kind file (NotCommuting p q s) (NotSimulation a b c) x y = absurd (no_fault file.table (relates file.relation) a b c x.0.simulation y.2.fails)
one_of_commuting kind file (NotCommuting p q s) (NotCommuting a b c) x y =
    let same = first_failure (condition_of kind) file (conflicts_of kind file) p q s a b c x.1 y.1 in
    rw (same.0, same.1, same.2) refl
one_of_commuting kind file InitialOutside (NotNumeric c r) x y = absurd y
one_of_commuting kind file (NotClosed s k) (NotNumeric c r) x y = absurd y
one_of_commuting kind file (NotSimulation s t k) (NotNumeric c r) x y = absurd y
one_of_commuting kind file (NotCommuting p q s) (NotNumeric c r) x y = absurd y
one_of_commuting kind file (NotNumeric k s) b x y = absurd x

-- no first fault is that of a numeric type
none_of_numeric : BoundsAreNumeric → NumericIsFaultless → (T : Table) (r : CheckRefusal) → IsNumericType T → IsFirstOfNumeric T r → ⊥
none_of_numeric numeric faultless T InitialOutside passed reason = reason
none_of_numeric numeric faultless T (NotClosed s k) passed reason = reason
none_of_numeric numeric faultless T (NotSimulation s t k) passed reason = reason
none_of_numeric numeric faultless T (NotCommuting p q s) passed reason = reason
none_of_numeric numeric faultless T (NotNumeric k s) passed reason =
    faultless T (amounts_of (bounds_of T)) (numeric T (T.states - 1) (bounds_of T) passed.bounds) k s reason.fails

-- and two are equal
one_fault : (T : Table) (k s c r : ℕ) → IsFirstNumericFault T k s → IsFirstNumericFault T c r → (k ≡ c) × (s ≡ r)
one_fault T k s c r a b =
    let ops : k ≡ c = by_order k c (λ less. b.least_operation k s less a.fails) (λ more. a.least_operation c r more b.fails) in
    let here = subst (λ x. IsNumericFault T x r) (sym ops) b.fails in
    let there = subst (λ x. IsNumericFault T x s) ops a.fails in
    (ops, by_order s r (λ less. b.least_state s less there) (λ more. a.least_state r more here))

one_of_numeric : (T : Table) (a b : CheckRefusal) → IsFirstOfNumeric T a → IsFirstOfNumeric T b → a ≡ b
one_of_numeric T InitialOutside b x y = absurd x
one_of_numeric T (NotClosed s k) b x y = absurd x
one_of_numeric T (NotSimulation s t k) b x y = absurd x
one_of_numeric T (NotCommuting p q s) b x y = absurd x
one_of_numeric T (NotNumeric k s) InitialOutside x y = absurd y
one_of_numeric T (NotNumeric k s) (NotClosed a b) x y = absurd y
one_of_numeric T (NotNumeric k s) (NotSimulation a b c) x y = absurd y
one_of_numeric T (NotNumeric k s) (NotCommuting a b c) x y = absurd y
one_of_numeric T (NotNumeric k s) (NotNumeric c r) x y =
    let same = one_fault T k s c r x y in
    rw (same.0, same.1) refl

-- ---- each kind

none_of_passed : BoundsAreNumeric → NumericIsFaultless → (kind : Kind) (file : TypeFile) (r : CheckRefusal) → IsCheckedBy kind file → IsFirstReason kind file r → ⊥
none_of_passed numeric faultless kinds.Undo file r passed reason = none_of_commuting tabled.Undo file r passed reason
none_of_passed numeric faultless kinds.Intentions file r passed reason = none_of_commuting tabled.Intentions file r passed reason
none_of_passed numeric faultless kinds.Escrow file r passed reason = none_of_numeric numeric faultless file.table r passed reason

one_reason : (kind : Kind) (file : TypeFile) (a b : CheckRefusal) → IsFirstReason kind file a → IsFirstReason kind file b → a ≡ b
one_reason kinds.Undo file a b x y = one_of_commuting tabled.Undo file a b x y
one_reason kinds.Intentions file a b x y = one_of_commuting tabled.Intentions file a b x y
one_reason kinds.Escrow file a b x y = one_of_numeric file.table a b x y

pub one_answer : BoundsAreNumeric → NumericIsFaultless → OneAnswer
one_answer numeric faultless kind file (Ok a) (Ok b) x y = ap (λ c. Ok c) (x.0 ∙ sym y.0)
one_answer numeric faultless kind file (Ok a) (Err b) x y = absurd (none_of_passed numeric faultless kind file b.1 x.1 y.1)
one_answer numeric faultless kind file (Err a) (Ok b) x y = absurd (none_of_passed numeric faultless kind file a.1 y.1 x.1)
one_answer numeric faultless kind file (Err (f, a)) (Err (g, b)) x y = rw (x.0, y.0, one_reason kind file a b x.1 y.1) refl
