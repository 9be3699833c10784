-- The places of an open transaction's operations: how many are at each object, in its log and in the transaction's row.
use Rattle.std.proofs.Common.{◌≡◌, ℕ, zero, suc, ◌-◌, ◌<◌, true, false, ◌==◌, List, [], ◌∷◌, map, drop, length, Some, All, slice_get, refl, sym, ap, subst, ◌∙◌, arith}
use Rattle.std.specs.List.{list_any}
use Rattle.std.proofs.lemmas.List.{length-map}
use Rattle.std.proofs.lemmas.List.Elements.{All-from_recursion, All-filter, All-map, All-same, All-weaker}
use Rattle.type_table.specs.Table.{Table}
use Rattle.type_table.proofs.Elements.{filter-turned}
use Rattle.object_trait.specs.Object.{Object}
use Rattle.object_trait.specs.Meaning.{Meaning, open_of}
use Rattle.object_trait.specs.declared.event.Event.{Event}
use Rattle.object_trait.specs.declared.log_entry.LogEntry.{LogEntry}
use Rattle.serial_order.specs.Operations.{is_by, of}
use Rattle.serial_order.specs.History.{summary, is_open, surviving, IsOperation}
use Rattle.serial_order.specs.Serial.{surviving_at}
use Rattle.serial_order.specs.Represent.{struck_at}
use Rattle.serial_order.specs.After.{OperationsInRun, LogsAreCounted}
use Rattle.serial_order.specs.declared.entry.Entry.{Entry}
use Rattle.object_calls.specs.Ends.{times_in}
use Rattle.open_transactions.specs.Transactions.{Row}
use Rattle.store_laws.specs.Kept.{Keeping, objects_of, worked_objects, IsKept}
use Rattle.store_laws.specs.Before.{IsOpenRow, last_places, PlacesAreInside, HasWhatIsStruck}
use Rattle.store_laws.proofs.Filters.{count-map, count-none, count-drop}
use Rattle.store_laws.proofs.Lists.{inside-at}

-- the end of a mapped list
drop-mapped : {A B : Type 0} (f : A → B) (n : ℕ) (V : List A) → drop n (map f V) ≡ map f (drop n V)
drop-mapped f zero V = refl
drop-mapped f (suc n) [] = refl
drop-mapped f (suc n) (a ∷ V) = drop-mapped f n V

-- ---- an open transaction

module _ (k : Keeping) (H : List Event) (t : ℕ) (row : Row) (kept : IsKept k H) (there : IsOpenRow k t row) where
  -- it has this row
  pub row-at : slice_get k.rows t ≡ Some (Some row)
  row-at = inside-at k.rows t row there

  -- it is open
  pub open-now : is_open (summary H) t ≡ true
  open-now = sym (kept.transactions t (Some row) row-at).going

  -- its places
  pub row-places : row.places ≡ worked_objects t (summary H)
  row-places = (kept.transactions t (Some row) row-at).places row refl

  -- how many of its operations are at x, by its row
  pub own-count : (x : ℕ) → times_in x row.places ≡ length (of t (surviving_at x H))
  own-count x =
      ap (times_in x) row-places
      ∙ count-map (λ (e : Entry). e.at) (λ y. y == x) (of t (surviving H))
      ∙ ap length (filter-turned (λ (e : Entry). e.at == x) (is_by t) (surviving H))

  -- by the object's log
  pub entries-count : LogsAreCounted → (x : ℕ) (m : Meaning) → slice_get k.meanings x ≡ Some m → length (open_of t m.log) ≡ length (of t (surviving_at x H))
  entries-count counted x m is =
      sym (length-map (open_of t m.log) (λ (e : LogEntry). e.op))
      ∙ ap length ((counted m x H (kept.objects x m is).represents).own t open-now)
      ∙ length-map (of t (surviving_at x H)) (λ (e : Entry). e.op)

  -- none, where x is none of its places
  pub count-elsewhere : (x : ℕ) → list_any (λ y. y == x) row.places ≡ false → length (of t (surviving_at x H)) ≡ 0
  count-elsewhere x none = sym (own-count x) ∙ count-none (λ y. y == x) row.places none

  -- how many of its last n operations are at x
  pub struck-count : (x n : ℕ) → struck_at x (summary H) t n ≡ times_in x (last_places n row.places)
  struck-count x n =
      sym
      (ap (λ places. times_in x (last_places n places)) row-places
      ∙ ap (λ all. times_in x (drop (all - n) (worked_objects t (summary H)))) (length-map (of t (surviving H)) (λ (e : Entry). e.at))
      ∙ ap (times_in x) (drop-mapped (λ (e : Entry). e.at) (length (of t (surviving H)) - n) (of t (surviving H)))
      ∙ count-map (λ (e : Entry). e.at) (λ y. y == x) (drop (length (of t (surviving H)) - n) (of t (surviving H))))

-- ---- what the calls at the objects need

pub has_what_is_struck : LogsAreCounted → HasWhatIsStruck
has_what_is_struck counted = λ k H t n row kept there x m is.
    let most = count-drop (λ y. y == x) (length row.places - n) row.places in
    let own = own-count k H t row kept there x in
    let entries = entries-count k H t row kept there counted x m is in
    omega (arith, most, own, entries)

-- ---- operations

-- where there is an operation, there is an object
operation-inside : (tables : List Table) (x op : ℕ) → IsOperation (slice_get tables x) op → x < length tables
operation-inside [] x op is = absurd is
operation-inside (T ∷ tables) zero op is = omega arith
operation-inside (T ∷ tables) (suc x) op is = let rest = operation-inside tables x op is in omega (arith, rest)

-- the tables of objects of these meanings
abbrev tables_of : List Meaning → List Table
tables_of ms = map (λ (o : Object). o.table) (objects_of ms)

-- are as many
tables-count : (ms : List Meaning) → length (tables_of ms) ≡ length ms
tables-count [] = refl
tables-count (m ∷ ms) = ap (λ n. suc n) (tables-count ms)

module _ (operations : OperationsInRun) (k : Keeping) (H : List Event) (kept : IsKept k H) where
  -- each operation that survives is one of its object's table
  living : All (λ (e : Entry). IsOperation (slice_get (tables_of k.meanings) e.at) e.op) (surviving H)
  living = All-from_recursion (λ (e : Entry). IsOperation (slice_get (tables_of k.meanings) e.at) e.op) (surviving H) (operations (objects_of k.meanings) H kept.run)

  -- the places of one transaction's
  inside : (t : ℕ) → All (λ x. x < length k.meanings) (worked_objects t (summary H))
  inside t =
      All-map (λ x. x < length k.meanings) (λ (e : Entry). e.at) (of t (surviving H))
      (All-filter (is_by t) (λ (e : Entry). e.at < length k.meanings) (surviving H)
      (All-weaker (λ (e : Entry). IsOperation (slice_get (tables_of k.meanings) e.at) e.op) (λ (e : Entry). e.at < length k.meanings)
      (λ e is. subst (λ n. e.at < n) (tables-count k.meanings) (operation-inside (tables_of k.meanings) e.at e.op is))
      (surviving H) living))

pub places_are_inside : OperationsInRun → PlacesAreInside
places_are_inside operations = λ k H t row kept there.
    All-same (λ x. x < length k.meanings) row.places (worked_objects t (summary H)) (row-places k H t row kept there) (inside operations k H kept t)
