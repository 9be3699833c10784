-- The epoch that a store ends while all that is open is carried over, and the run that its next one begins with.
use Rattle.store_limits.specs.declared.limits.Limits.{Limits}
use Rattle.std.proofs.Common.{◌≡◌, ℕ, zero, suc, ◌+◌, ◌<◌, ◌≤◌, ◌^◌, true, false, ◌==◌, List, [], ◌∷◌, ◌++◌, map, filter, length, All, Option, Some, None, slice_get, refl, sym, ap, subst, ◌∙◌, inl, inr, add-one, arith}
use Rattle.std.specs.List.{AllByRecursion, range_with_len}
use Rattle.std.proofs.lemmas.Bool.{cases_Bool, cases_lt, eq-eqb, false≢true}
use Rattle.std.proofs.lemmas.Bool.Decides.{nat_tests}
use Rattle.std.proofs.lemmas.List.{length-map, get_or_past}
use Rattle.std.proofs.lemmas.List.Elements.{filter-append}
use Rattle.std.proofs.lemmas.Option.{none-some, get_or_from_slice_get, slice_get-get_or}
use Rattle.table_checker.specs.Checked.{Checked}
use Rattle.type_table.proofs.Elements.{range-more, each-weaker, each-passes, each-push}
use Rattle.object_trait.specs.Orders.{Pairs}
use Rattle.object_trait.specs.Object.{object_of}
use Rattle.object_trait.specs.Meaning.{Meaning}
use Rattle.object_trait.specs.Committed.{committed_of}
use Rattle.object_trait.specs.Laws.{CheckedIsCovered}
use Rattle.object_trait.specs.declared.event.Event.{Event}
use Rattle.object_trait.proofs.Lists.{pairs-weaker, pairs-push, pairs-filter}
use Rattle.serial_order.specs.Operations.{is_among}
use Rattle.serial_order.specs.History.{summary, is_open}
use Rattle.serial_order.specs.After.{LogsAreCounted, beginners}
use Rattle.serial_order.specs.Machine.{IsRun}
use Rattle.serial_order.specs.Replay.{open_count}
use Rattle.serial_order.specs.Laws.{AreChecked}
use Rattle.serial_order.specs.Epochs.{Epoch, types_at}
use Rattle.serial_order.specs.declared.entry.Entry.{Entry}
use Rattle.serial_order.proofs.Pairs.{each-all}
use Rattle.serial_order.proofs.Runs.{of_open}
use Rattle.committed_states.specs.Laws.{CommittedIsThere}
use Rattle.carried_runs.specs.Carried.{AreOpenOnce, carried_by}
use Rattle.carried_runs.specs.OpenEpochs.{IsOpenEpoch}
use Rattle.carried_runs.specs.Objects.{HaveShortLogs}
use Rattle.carried_runs.specs.Laws.{CarriedInAnyOrder, CarriedWorks, CarriedFits}
use Rattle.carried_runs.proofs.InRun.{each-among}
use Rattle.carried_runs.proofs.Showing.{carried-open}
use Rattle.carried_orders.specs.Merging.{AreMergedEvents, HaveRowsOf, beginner_in}
use Rattle.carried_orders.specs.Orders.{AreStrong, KeepsOrders, MergedKeepsOrders, OrderedIsUnseen}
use Rattle.carried_orders.proofs.Unseen.{same-events}
use Rattle.open_transactions.specs.Transactions.{Row, row, has_row, worker_of, objects_of_row}
use Rattle.store_laws.specs.Stored.{Stored, objects, types_of}
use Rattle.store_laws.specs.Kept.{keeping, objects_of, IsKept}
use Rattle.store_laws.specs.Before.{RowsSayWhoIsOpen, PlacesAreInside}
use Rattle.store.specs.Renews.{AreBeginStates, AreRenewed, RefusesRenew}
use Rattle.store.specs.CarriesAll.{open_ones, began_by, CarriesAll, IsUnseen, StaysBehind}
use Rattle.store.specs.declared.refusals.RenewRefusal.{RenewRefusal}
use Rattle.store.specs.declared.refusals.RenewRefusal.TheVariants.{StillOpen, NoMemory}
use Rattle.store.proofs.CarriedEpochs.{MayDoAgain, are-types, open-epoch}
use Rattle.store.proofs.CommittedStates.{is-committed}
use Rattle.store.proofs.Opens.{some-of}
use Rattle.store.proofs.Renewals.{kept-of, accepted}
use Rattle.store.proofs.Stored.{stored, shown}

-- ---- the open ones

-- those below n
abbrev pub open_below : List Event → ℕ → List ℕ
open_below H n = filter (is_open (summary H)) (range_with_len 0 n)

pub open-more : (H : List Event) (n : ℕ) → open_below H (n + 1) ≡ open_below H n ++ filter (is_open (summary H)) (n ∷ [])
open-more H n = ap (filter (is_open (summary H))) (range-more n) ∙ filter-append (is_open (summary H)) (range_with_len 0 n) (n ∷ [])

-- there are none where none is open
pub open-none : (H : List Event) (n : ℕ) → ((t : ℕ) → t < n → is_open (summary H) t ≡ false) → open_below H n ≡ []
open-none H zero none = refl
open-none H (suc n) none =
    ap (open_below H) (sym (add-one n)) ∙ open-more H n ∙ ap (λ ts. ts ++ filter (is_open (summary H)) (n ∷ [])) (open-none H n (λ t low. none t (omega (arith, low))))
    ∙ last (none n (omega arith))
  where
    last : is_open (summary H) n ≡ false → filter (is_open (summary H)) (n ∷ []) ≡ []
    last ended = rw ended refl

-- the numbers from 0 on ascend, and stay below
range-ascends : (n : ℕ) → Pairs (λ a b. a < b) (range_with_len 0 n) × AllByRecursion (λ a. a < n) (range_with_len 0 n)
range-ascends zero = (tt, tt)
range-ascends (suc n) =
    let rest = range-ascends n in
    let more : range_with_len 0 (suc n) ≡ range_with_len 0 n ++ n ∷ [] = ap (range_with_len 0) (sym (add-one n)) ∙ range-more n in
    subst (λ V. Pairs (λ a b. a < b) V × AllByRecursion (λ a. a < suc n) V) (sym more) (
      pairs-push (λ a b. a < b) (range_with_len 0 n) n rest.0 rest.1,
      each-push (λ a. a < suc n) (range_with_len 0 n) n (each-weaker (λ a low. omega (arith, low)) (range_with_len 0 n) rest.1) (omega arith),
    )

pub open-ascend : (H : List Event) → Pairs (λ a b. a < b) (open_ones H)
open-ascend H = pairs-filter (λ a b. a < b) (is_open (summary H)) (range_with_len 0 (summary H).begun) (range-ascends (summary H).begun).0

pub open-each : (H : List Event) → AllByRecursion (λ t. is_open (summary H) t ≡ true) (open_ones H)
open-each H = each-passes (λ t. is_open (summary H) t ≡ true) (is_open (summary H)) (range_with_len 0 (summary H).begun) (each-all (λ t passes. passes) (range_with_len 0 (summary H).begun))

pub open-once : (H : List Event) → AreOpenOnce (open_ones H) H
open-once H = record { apart = pairs-weaker (λ a b less. grind (arith, nat_tests, less)) (open_ones H) (open-ascend H); are_open = open-each H }

-- and all are among them
pub open-all : (H : List Event) (t : ℕ) → is_open (summary H) t ≡ true → is_among (open_ones H) t ≡ true
open-all H t going = inside (summary H).begun (of_open (summary H) t going).began
  where
    here : (ts : List ℕ) (u : ℕ) → (u == t) ≡ true → is_among (ts ++ u ∷ []) t ≡ true
    here [] u is = rw is refl
    here (v ∷ ts) u is =
        elim (cases_Bool (v == t)) [
          | inl at ↦ rw at refl
          | inr other ↦ rw other (here ts u is)
        ]

    before : (ts : List ℕ) (us : List ℕ) → is_among ts t ≡ true → is_among (ts ++ us) t ≡ true
    before [] us is = absurd (false≢true is)
    before (v ∷ ts) us is =
        elim (cases_Bool (v == t)) [
          | inl at ↦ rw at refl
          | inr other ↦ rw other (before ts us (rw other at is))
        ]

    inside : (n : ℕ) → t < n → is_among (open_below H n) t ≡ true
    inside zero low = absurd (omega (arith, low))
    inside (suc n) low =
        let more : open_below H (suc n) ≡ open_below H n ++ filter (is_open (summary H)) (n ∷ []) = ap (open_below H) (sym (add-one n)) ∙ open-more H n in
        elim (cases_lt t n) [
          | inl less ↦ ap (λ ts. is_among ts t) more ∙ before (open_below H n) (filter (is_open (summary H)) (n ∷ [])) (inside n less)
          | inr past ↦
              let is : n ≡ t = omega (arith, low, past) in
              let last : filter (is_open (summary H)) (n ∷ []) ≡ n ∷ [] = let now : is_open (summary H) n ≡ true = ap (is_open (summary H)) is ∙ going in rw now refl in
              ap (λ ts. is_among ts t) (more ∙ ap (λ ts. open_below H n ++ ts) last) ∙ here (open_below H n) n (eq-eqb n t is)
        ]

-- ---- what is kept

module _ (ms : List Meaning) (rows : List (Option Row)) (H : List Event) (kept : IsKept (keeping ms rows) H) where
  -- the row of an open transaction
  row-there : RowsSayWhoIsOpen → (t : ℕ) → is_open (summary H) t ≡ true → (r : Row) × (row rows t ≡ Some r) × (slice_get rows t ≡ Some (Some r))
  row-there says t going =
      let found = some-of (row rows t) (sym (says (keeping ms rows) H t kept) ∙ going) in
      elim (cases_lt t (length rows)) [
        | inl low ↦ (found.0, found.1, slice_get-get_or rows t None low ∙ ap Some found.1)
        | inr past ↦ absurd (none-some found.0 (sym (get_or_past rows t None past) ∙ found.1))
      ]

  pub rows-there : RowsSayWhoIsOpen → AllByRecursion (λ t. has_row rows t ≡ true) (open_ones H)
  rows-there says = each-weaker (λ t going. sym (says (keeping ms rows) H t kept) ∙ going) (open_ones H) (open-each H)

  pub rows-inside : RowsSayWhoIsOpen → PlacesAreInside → AllByRecursion (λ t. All (λ x. x < length ms) (objects_of_row (row rows t))) (open_ones H)
  rows-inside says inside =
      each-weaker
      (λ t going. let its = row-there says t going in rw its.1 (inside (keeping ms rows) H t its.0 kept its.1))
      (open_ones H) (open-each H)

  pub rows-of : RowsSayWhoIsOpen → HaveRowsOf rows (open_ones H) H
  rows-of says = λ t among.
      let its = row-there says t (each-among (λ u. is_open (summary H) u ≡ true) (open_ones H) t (open-each H) among) in
      ap objects_of_row its.1 ∙ (kept.transactions t (Some its.0) its.2).places its.0 refl

  began : RowsSayWhoIsOpen → (t : ℕ) → is_among (open_ones H) t ≡ true → beginner_in rows t ≡ began_by H t
  began says t among =
      let its = row-there says t (each-among (λ u. is_open (summary H) u ≡ true) (open_ones H) t (open-each H) among) in
      ap worker_of its.1 ∙ sym (get_or_from_slice_get (beginners H) t (its.0).worker 0 ((kept.transactions t (Some its.0) its.2).worker its.0 refl))

  -- the logs of objects are no longer than the history
  pub logs-short : LogsAreCounted → length H < 2 ^ 32 → HaveShortLogs ms
  logs-short counted fits = λ x m there. let log = (counted m x H (kept.objects x m there).represents).short in omega (arith, log, fits)

  module _ (covers : CheckedIsCovered) (there_is : CommittedIsThere) where
    -- at its committed state the type of an object may begin
    pub begins-inside : AreBeginStates committed_of ms
    begins-inside = λ x m state there is. (is-committed covers ms rows H kept there_is x state m there is).inside

    -- a new store of these objects at their committed states, and of more objects behind them, in which all that is open is done again
    module _ (limits : Limits) (forgotten : ℕ) (s : Stored) (same : shown (keeping ms rows) H limits forgotten ≡ s)
        (now more : List Meaning) (all : AreRenewed committed_of ms now) (new : Stored) (checked : AreChecked new.types) (made : new ≡ stored (types_of (now ++ more)) [] limits 0)
        (says : RowsSayWhoIsOpen) (keeps : MergedKeepsOrders) (events : List Event) (merged : AreMergedEvents ms rows (open_ones H) events) where
      abbrev ends : Epoch
      ends = record { history = H; kept = (kept-of committed_of ms now all).kept; added = types_of more }

      ends-open : IsOpenEpoch (types_of ms) ends
      ends-open = open-epoch ms rows H kept limits forgotten s same covers there_is now more all new checked made

      abbrev begins-as : List Checked
      begins-as = types_at (types_of ms) (kept-of committed_of ms now all).kept ++ types_of more

      types-are : types_of (now ++ more) ≡ begins-as
      types-are = are-types ms rows H kept limits forgotten s same covers there_is now more all new checked made

      abbrev U : List Entry
      U = merged.order

      abbrev first : List Event
      first = carried_by (began_by H) (open_ones H) U

      ordered : KeepsOrders (open_ones H) H U
      ordered = keeps ms rows H (open_ones H) U kept.run (λ x m there. (kept.objects x m there).represents) (open-once H) (rows-of says) merged.merged

      are-first : events ≡ first
      are-first = merged.are ∙ same-events H (open_ones H) U (beginner_in rows) (began_by H) (open-once H) ordered (began says)

      -- it may do so
      pub may-go-over : CarriedInAnyOrder → CarriedWorks → CarriedFits → (run : List Event) → run ≡ events
          → length H + open_count (summary H) ≤ limits.events → open_count (summary H) ≤ limits.«open» → MayDoAgain new run
      may-go-over any works fits run what limited few =
          let runs : IsRun (objects_of (now ++ more)) first =
          subst (λ ts. IsRun (map object_of ts) first) (sym types-are)
          (any (types_of ms) ends (began_by H) (open_ones H) U (accepted ms rows H kept) ends-open (open-once H) ordered.at_each) in
          let fit = fits (objects_of ms) H (began_by H) (open_ones H) U kept.run (open-once H) ordered.at_each in
          let long = fit.0 in
          let as_many = fit.1 in
          let opened = carried-open (began_by H) (open_ones H) U in
          subst (λ (z : Stored). MayDoAgain z run) (sym made) (subst (λ es. MayDoAgain (stored (types_of (now ++ more)) [] limits 0) es) (sym (what ∙ are-first)) (record {
            run = runs;
            works = works (began_by H) (open_ones H) U;
            new = refl;
            room = omega (arith, long, as_many, opened, limited);
            few = omega (arith, as_many, opened, few);
          }))

      module _ (done : Stored) (run : List Event) (what : run ≡ events) (does : done ≡ record new { history = run }) where
        done-is : done ≡ stored begins-as first limits 0
        done-is =
            does ∙ ap (λ (z : Stored). record z { history = run }) made ∙ ap (λ ts. stored ts run limits 0) types-are
            ∙ ap (λ es. stored begins-as es limits 0) (what ∙ are-first)

        pub carries-all : CarriesAll s (types_of more) done
        carries-all = subst (λ (z : Stored). CarriesAll z (types_of more) done) same (record {
          kept = (kept-of committed_of ms now all).kept;
          epoch = ends-open;
          order = U;
          ordered = ordered;
          is = done-is;
        })

        pub goes-unseen : OrderedIsUnseen → AreStrong (s.types ++ types_of more) → IsUnseen s (types_of more) done
        goes-unseen unseen = subst (λ (z : Stored). AreStrong (z.types ++ types_of more) → IsUnseen z (types_of more) done) same (λ strong K runs.
            unseen (types_of ms) ends K (began_by H) (open_ones H) U (accepted ms rows H kept) strong ends-open (open-once H) (open-all H) ordered
            (subst (λ (z : Stored). IsRun (objects z) (z.history ++ K)) done-is runs))

-- ---- as it is asked for

-- what was read is what the store has
pub merged-as : {R : Type 0} (meaning : R → Meaning) (rows : List (Option Row)) (has read : List R) (P those : List ℕ) (events : List Event) → read ≡ has → those ≡ P
    → AreMergedEvents (map meaning read) rows those events → AreMergedEvents (map meaning has) rows P events
merged-as meaning rows has read P those events same are merged =
    subst (λ xs. AreMergedEvents (map meaning xs) rows P events) same (subst (λ ts. AreMergedEvents (map meaning read) rows ts events) are merged)

pub inside-as : {R : Type 0} (meaning : R → Meaning) (rows : List (Option Row)) (has read : List R) (P those : List ℕ) → read ≡ has → those ≡ P
    → AllByRecursion (λ t. All (λ x. x < length (map meaning has)) (objects_of_row (row rows t))) P → AllByRecursion (λ t. All (λ x. x < length read) (objects_of_row (row rows t))) those
inside-as meaning rows has read P those same are inside =
    subst (λ ts. AllByRecursion (λ t. All (λ x. x < length read) (objects_of_row (row rows t))) ts) (sym are)
    (subst (λ n. AllByRecursion (λ t. All (λ x. x < n) (objects_of_row (row rows t))) P) (length-map has meaning ∙ ap length (sym same)) inside)

-- where nobody is open, what refuses a renewal refuses this one
pub stays-behind : (s : Stored) → ((t : ℕ) → is_open (summary s.history) t ≡ false) → (why : RenewRefusal) → RefusesRenew s why → StaysBehind s why
stays-behind s none StillOpen some = absurd (false≢true (sym (none some.0) ∙ some.1))
stays-behind s none NoMemory closed = λ some. absurd (false≢true (sym (none some.0) ∙ some.1))
