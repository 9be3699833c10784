-- The epoch that a store ends by carrying open transactions over, perhaps with objects more, and the run that its next one begins with.
use Rattle.store_limits.specs.declared.limits.Limits.{Limits}
use Rattle.std.proofs.Common.{◌≡◌, ℕ, ◌+◌, ◌<◌, ◌≤◌, ◌^◌, true, List, [], ◌++◌, map, length, Option, refl, sym, ap, subst, ◌∙◌, arith}
use Rattle.std.specs.List.{AllByRecursion}
use Rattle.std.proofs.lemmas.Bool.Decides.{nat_tests}
use Rattle.std.proofs.lemmas.List.{length-map, map-append}
use Rattle.type_table.proofs.Elements.{found-map}
use Rattle.store_limits.specs.Standard.{most_of_each}
use Rattle.table_checker.specs.Checked.{Checked}
use Rattle.object_trait.specs.Object.{Object, object_of}
use Rattle.object_trait.specs.Meaning.{Meaning}
use Rattle.object_trait.specs.Committed.{committed_of}
use Rattle.object_trait.specs.Laws.{CheckedIsCovered}
use Rattle.object_trait.specs.declared.event.Event.{Event}
use Rattle.object_trait.proofs.Lists.{pairs-weaker}
use Rattle.serial_order.specs.History.{summary}
use Rattle.serial_order.specs.Laws.{AreChecked}
use Rattle.serial_order.specs.After.{LogsAreCounted}
use Rattle.serial_order.specs.Machine.{IsRun}
use Rattle.serial_order.specs.Replay.{open_count}
use Rattle.serial_order.specs.Epochs.{Epoch, types_at}
use Rattle.serial_order.specs.declared.entry.Entry.{Entry}
use Rattle.committed_states.specs.Committed.{AreCommittedStates, IsCommitted}
use Rattle.committed_states.specs.Laws.{CommittedIsThere}
use Rattle.carried_runs.specs.Carried.{AreOpenOnce, IsCarriedOrder, carried_by, carried_of_logs}
use Rattle.carried_runs.specs.OpenEpochs.{IsOpenEpoch}
use Rattle.carried_runs.specs.Objects.{HaveShortLogs}
use Rattle.carried_runs.specs.Laws.{CarriedInAnyOrder, CarriedWorks, CarriedFits, LogsTellOrder}
use Rattle.carried_runs.specs.Redo.{begins_or_works}
use Rattle.carried_runs.proofs.Showing.{carried-open}
use Rattle.open_transactions.specs.Transactions.{Row}
use Rattle.store_laws.specs.Stored.{Stored, objects, types_of}
use Rattle.store_laws.specs.Kept.{keeping, objects_of, IsKept}
use Rattle.store.specs.Renews.{AreBeginStates, AreRenewed}
use Rattle.store.specs.Carries.{Carries, MayBeCarried}
use Rattle.store.proofs.CommittedStates.{is-committed}
use Rattle.store.specs.Ends.{begun}
use Rattle.store.proofs.Renewals.{AreKept, kept-of, accepted, checked-behind}
use Rattle.store.proofs.Stored.{stored, shown}

-- what `redone` asks for of a new store
pub record MayDoAgain (s : Stored) (events : List Event) : Type 0 where
  pub run : IsRun (objects s) events
  pub works : AllByRecursion (λ e. begins_or_works e.kind ≡ true) events
  pub new : s.history ≡ []
  pub room : length events + open_count (summary events) ≤ s.limits.events
  pub few : open_count (summary events) ≤ s.limits.«open»

-- what the logs of these objects tell
pub told-is : {R : Type 0} (meaning : R → Meaning) (w : ℕ) (those : List ℕ) (objects read : List R) (events run : List Event) → run ≡ events
    → events ≡ carried_by (λ _. w) those (carried_of_logs 0 those (map meaning read)) → read ≡ objects → run ≡ carried_by (λ _. w) those (carried_of_logs 0 those (map meaning objects))
told-is meaning w those objects read events run same told is = same ∙ told ∙ ap (λ xs. carried_by (λ _. w) those (carried_of_logs 0 those (map meaning xs))) is

-- a store of these objects and then of what is added
pub made-with : {R : Type 0} (meaning : R → Meaning) (these added objects : List R) (limits : Limits) (new : Stored) → objects ≡ these ++ added → new ≡ begun (map meaning objects) limits
    → new ≡ stored (types_of (map meaning these ++ map meaning added)) [] limits 0
made-with meaning these added objects limits new same made = made ∙ ap (λ ms. stored (types_of ms) [] limits 0) (ap (map meaning) same ∙ map-append meaning these added)

module _ (ms : List Meaning) (rows : List (Option Row)) (H : List Event) (kept : IsKept (keeping ms rows) H) (limits : Limits) (forgotten : ℕ) (s : Stored)
    (same : shown (keeping ms rows) H limits forgotten ≡ s) where
  -- the logs of objects are no longer than the history
  pub short-logs : LogsAreCounted → length H < 2 ^ 32 → HaveShortLogs ms
  short-logs counted fits = λ x m there. let log = (counted m x H (kept.objects x m there).represents).short in omega (arith, log, fits)

  module _ (those : List ℕ) (may : MayBeCarried those s) where
    -- none is carried twice
    pub once : AreOpenOnce those H
    once = subst (λ (z : Stored). AreOpenOnce those z.history) (sym same) (record {
      apart = pairs-weaker (λ a b less. grind (arith, nat_tests, less)) those may.ascend;
      are_open = may.are_open;
    })

    -- no more than are open
    pub few-carried : CarriedFits → LogsTellOrder → open_count (summary H) ≤ limits.«open» → limits.«open» ≤ most_of_each → length those ≤ 65536
    few-carried fits tells few most =
        let order = tells ms H those kept.run (λ x m there. (kept.objects x m there).represents) once in
        let opened = (fits (objects_of ms) H (λ _. 0) those (carried_of_logs 0 those ms) kept.run once order).1 in
        omega (arith, opened, few, most)

  module _ (covers : CheckedIsCovered) (there_is : CommittedIsThere) where
    -- at its committed state the type of an object may begin
    pub committed-inside : AreBeginStates committed_of ms
    committed-inside = λ x m state there is. (is-committed covers ms rows H kept there_is x state m there is).inside

    -- a new store of these objects at their committed states, and of more objects behind them
    module _ (now more : List Meaning) (all : AreRenewed committed_of ms now) (new : Stored) (checked : AreChecked new.types) (made : new ≡ stored (types_of (now ++ more)) [] limits 0) where
      -- the states at which it begins
      abbrev its : AreKept committed_of ms now
      its = kept-of committed_of ms now all

      -- its types are those at these states, and then those of what is added
      abbrev begins-with : List Checked
      begins-with = types_at (types_of ms) its.kept ++ types_of more

      pub are-types : types_of (now ++ more) ≡ begins-with
      are-types = map-append (λ (m : Meaning). m.checked) now more ∙ ap (λ ts. ts ++ types_of more) its.types

      -- the history and the committed states are an open epoch
      abbrev ended : Epoch
      ended = record { history = H; kept = its.kept; added = types_of more }

      pub open-epoch : IsOpenEpoch (types_of ms) ended
      open-epoch =
          record {
            run = kept.run;
            as_many = its.as_many ∙ sym (length-map ms (λ (m : Meaning). m.checked));
            added = checked-behind now more (subst AreChecked (ap (λ (z : Stored). z.types) made) checked);
            kept = are-committed;
          }
        where
          are-committed : AreCommittedStates (objects_of ms) its.kept H
          are-committed = λ x o state there here.
              let type = found-map object_of (types_of ms) x o there in
              let one = found-map (λ (m : Meaning). m.checked) ms x type.0 type.1 in
              subst (λ (p : Object). IsCommitted p state x H) (ap object_of one.2 ∙ type.2) (is-committed covers ms rows H kept there_is x state one.0 one.1 (its.states x one.0 state one.1 here).0)

      module _ (any : CarriedInAnyOrder) (works : CarriedWorks) (fits : CarriedFits) (tells : LogsTellOrder) (w : ℕ) (those : List ℕ) (may : MayBeCarried those s) where
        -- what the logs tell, in their order
        abbrev told : List Entry
        told = carried_of_logs 0 those ms

        ordered : IsCarriedOrder those H told
        ordered = tells ms H those kept.run (λ x m there. (kept.objects x m there).represents) (once those may)

        -- it is a run of the new objects
        runs : IsRun (objects_of (now ++ more)) (carried_by (λ _. w) those told)
        runs =
            subst (λ ts. IsRun (map object_of ts) (carried_by (λ _. w) those told)) (sym are-types)
            (any (types_of ms) ended (λ _. w) those told (accepted ms rows H kept) open-epoch (once those may) ordered)

        -- so the new store may do it again
        pub may-do-again : (events : List Event) → events ≡ carried_by (λ _. w) those told → length H + open_count (summary H) ≤ limits.events → open_count (summary H) ≤ limits.«open» → MayDoAgain new events
        may-do-again events what limited few =
            let fit = fits (objects_of ms) H (λ _. w) those told kept.run (once those may) ordered in
            let long = fit.0 in
            let as_many = fit.1 in
            let opened = carried-open (λ _. w) those told in
            subst (λ (z : Stored). MayDoAgain z events) (sym made) (subst (λ es. MayDoAgain (stored (types_of (now ++ more)) [] limits 0) es) (sym what) (record {
              run = runs;
              works = works (λ _. w) those told;
              new = refl;
              room = omega (arith, long, as_many, opened, limited);
              few = omega (arith, as_many, opened, few);
            }))

        -- and then it carries them
        pub carries : (done : Stored) (events : List Event) → events ≡ carried_by (λ _. w) those told → done ≡ record new { history = events } → Carries s w those (types_of more) done
        carries done events what does =
            subst (λ (z : Stored). Carries z w those (types_of more) done) same (record {
              kept = its.kept;
              epoch = open-epoch;
              order = told;
              ordered = ordered;
              is = does ∙ ap (λ (z : Stored). record z { history = events }) made ∙ ap (λ ts. stored ts events limits 0) are-types ∙ ap (λ es. stored begins-with es limits 0) what;
            })
