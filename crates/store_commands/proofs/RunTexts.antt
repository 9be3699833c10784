-- What `run` writes is read as its store's history.
use Rattle.std.proofs.Common.{◌≡◌, ℕ, ◌+◌, ◌-◌, ◌<◌, ◌≤◌, ◌^◌, List, [], ◌∷◌, length, map, Option, Some, None, Ok, refl, sym, ap, subst, ◌∙◌, arith}
use Rattle.std.specs.List.{AllByRecursion}
use Rattle.std.proofs.lemmas.List.{length-map}
use Rattle.std.specs.Prelude.{slice_get, IfSome}
use Rattle.std.proofs.lemmas.Option.{none-some, same_Some, slice_get_within}
use Rattle.type_table.proofs.Elements.{each-append, each-places, each-weaker, element_at, found-map}
use Rattle.type_table.specs.Laws.{EndsWithin}
use Rattle.type_table.specs.Run.{run}
use Rattle.type_table.specs.Table.{Table, next}
use Rattle.escrow_laws.specs.Bounds.{AreBounds, bounds_of, moved_by}
use Rattle.escrow_laws.specs.declared.bounded.Bounded.{Bounded}
use Rattle.number_types.proofs.Tables.{moved_inside}
use Rattle.declared_types.specs.declared.type_file.TypeFile.{TypeFile}
use Rattle.type_table.specs.declared.kind.Kind.{Kind}
use Rattle.type_table.specs.declared.kind.Kind.TheVariants.{Undo, Intentions, Escrow}
use Rattle.table_checker.specs.Checked.{Checked, IsChecked, IsCheckedBy}
use Rattle.object_trait.specs.Object.{Object}
use Rattle.object_trait.specs.declared.event.Event.{Event}
use Rattle.object_trait.specs.declared.event.EventKind.{EventKind}
use Rattle.object_trait.specs.declared.event.EventKind.TheVariants as kind
use Rattle.serial_order.specs.After.{AreBelow, ArePlaces, NumbersInRun}
use Rattle.serial_order.specs.History.{commits, committed_by}
use Rattle.serial_order.specs.Operations.{ops}
use Rattle.serial_order.specs.Serial.{serial_at}
use Rattle.store_laws.specs.Stored.{Stored, objects}
use Rattle.history_judge.specs.Audit.{Audits, IsAudit}
use Rattle.history_judge.specs.declared.outcome.Audit.{Audit}
use Rattle.work_text.specs.TextHistory.{IsShortYes}
use Rattle.store_commands.specs.StoreAudit.{HasSerialRun, tables}

-- ---- lists

-- what holds of what a function makes of each element holds at each place
pub mapped : {X Y : Type 0} (f : X → Y) (P : Y → Type 0) (xs : List X) → ((i : ℕ) (x : X) → slice_get xs i ≡ Some x → P (f x)) → (i : ℕ) (y : Y)
    → slice_get (map f xs) i ≡ Some y → P y
mapped f P xs each i y at = let found = found-map f xs i y at in subst P found.2 (each i found.0 found.1)

-- ---- types

-- from nowhere nothing leads anywhere
no_run : (T : Table) (ks : List ℕ) → run T None ks ≡ None
no_run T [] = refl
no_run T (k ∷ ks) = no_run T ks

-- the runs of a number stay below its top
module _ (T : Table) (top : ℕ) (ops : List Bounded) (bounds : AreBounds T top ops) where
  step_below_by : (s k : ℕ) (o : Option Bounded) → slice_get ops k ≡ o → IfSome (next T s k) (λ t. t < top + 1)
  step_below_by s k None is = subst (λ (o : Option ℕ). IfSome o (λ t. t < top + 1)) (sym (bounds.steps s k ∙ ap (λ (o : Option Bounded). moved_by o s) is)) tt
  step_below_by s k (Some b) is = moved_inside top b s (bounds.within k b is) (next T s k) (bounds.steps s k ∙ ap (λ (o : Option Bounded). moved_by o s) is)

  ends_below : (ks : List ℕ) (from : Option ℕ) (e : ℕ) → IfSome from (λ s. s < top + 1) → run T from ks ≡ Some e → e < top + 1
  ends_below ks None e low leads = absurd (none-some e (sym (no_run T ks) ∙ leads))
  ends_below [] (Some s) e low leads = subst (λ n. n < top + 1) (same_Some s e leads) low
  ends_below (k ∷ ks) (Some s) e low leads = ends_below ks (next T s k) e (step_below_by s k (slice_get ops k) refl) leads

-- so the runs of what was checked end at numbers of 32 bits
ends_fit : EndsWithin → (kind : Kind) (file : TypeFile) (ks : List ℕ) (e : ℕ) → IsCheckedBy kind file → run file.table (Some file.table.initial) ks ≡ Some e → e < 2 ^ 32
ends_fit within Undo file ks e is leads = let inside = within file.table file.table.initial e ks is.table is.table.initial_inside leads in omega (arith, inside, is.table.states_fit)
ends_fit within Intentions file ks e is leads = let inside = within file.table file.table.initial e ks is.table is.table.initial_inside leads in omega (arith, inside, is.table.states_fit)
ends_fit within Escrow file ks e is leads =
    let T = file.table in
    let start = is.initial_inside in
    let inside = ends_below T (T.states - 1) (bounds_of T) is.bounds ks (Some T.initial) e (omega (arith, start)) leads in
    omega (arith, inside, start, is.states_fit)

module _ (s : Stored) (checked : (x : ℕ) (c : Checked) → slice_get s.types x ≡ Some c → IsChecked c) where
  -- what holds of the runs of each type holds of those of each table
  ends_are : EndsWithin → (x : ℕ) (T : Table) → slice_get (tables s) x ≡ Some T → (ks : List ℕ) (e : ℕ) → run T (Some T.initial) ks ≡ Some e → e < 2 ^ 32
  ends_are within =
      mapped (λ (c : Checked). c.file.table) (λ (T : Table). (ks : List ℕ) (e : ℕ) → run T (Some T.initial) ks ≡ Some e → e < 2 ^ 32) s.types
      (λ x c there ks e leads. ends_fit within c.kind c.file ks e (checked x c there) leads)

  -- ---- an audit

  finals_fit : EndsWithin → (order finals : List ℕ) → IsAudit (tables s) s.history order finals → AllByRecursion (λ n. n < 2 ^ 32) finals
  finals_fit within order finals audit =
      each-places (λ n. n < 2 ^ 32) finals (λ x n there.
      let low : x < length (tables s) = omega (arith, slice_get_within finals x n there, audit.leads.as_many) in
      let found = element_at (tables s) x low in
      ends_are within x found.0 found.1 (ops (serial_at x s.history)) n (audit.leads.states x found.0 n found.1 there))

commit_below : (n k m : ℕ) (happened : EventKind) → AreBelow n k m happened → AllByRecursion (λ t. t < m) (committed_by happened)
commit_below n k m (kind.Begin t) low = tt
commit_below n k m (kind.Op o t x) low = tt
commit_below n k m (kind.Busy c t x u) low = tt
commit_below n k m (kind.None t x c) low = tt
commit_below n k m (kind.Commit t) low = (low, tt)
commit_below n k m (kind.Abort t) low = tt
commit_below n k m (kind.Rollback t j) low = tt

commits_below : (n k m : ℕ) (H : List Event) → AllByRecursion (λ e. AreBelow n k m e.kind) H → AllByRecursion (λ t. t < m) (commits H)
commits_below n k m [] low = tt
commits_below n k m (e ∷ H) low = each-append (λ t. t < m) (committed_by e.kind) (commits H) (commit_below n k m e.kind low.0) (commits_below n k m H low.1)

-- a place is a byte
all_places : (objects : List Object) (x : ℕ) (o : Object) → slice_get objects x ≡ Some o → ArePlaces 256 o.table
all_places objects x o at k has = omega arith

-- the numbers of committed transactions have at most seven digits
pub commits_short : NumbersInRun → (s : Stored) → HasSerialRun s → s.limits.events ≤ 1000000 → AllByRecursion (λ n. n < 10 ^ 7) (commits s.history)
commits_short numbers s history limit =
    let below = numbers (objects s) 256 s.history history.run (all_places (objects s)) in
    let all = commits_below (length (objects s)) 256 (length s.history) s.history below in
    each-weaker (λ n low. omega (arith, low, history.room, limit)) (commits s.history) all

-- and so have those of a yes, but for states
pub audit_short : EndsWithin → NumbersInRun → (s : Stored) → ((x : ℕ) (c : Checked) → slice_get s.types x ≡ Some c → IsChecked c) → HasSerialRun s → s.limits.events ≤ 1000000
    → length s.types ≤ 65536 → (a : Audit) → Audits (tables s) s.history (Ok a) → IsShortYes a
audit_short within numbers s checked history limit few a audits =
    record {
      order = subst (AllByRecursion (λ n. n < 10 ^ 7)) (sym audits.1.order_is) (commits_short numbers s history limit);
      objects = omega (arith, audits.1.leads.as_many, length-map s.types (λ (c : Checked). c.file.table), few);
      finals = finals_fit s checked within a.order.items a.finals.items audits.1;
    }
