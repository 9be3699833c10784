-- What a history and the kept states of a store owe the serial order.
use Rattle.store_limits.specs.declared.limits.Limits.{Limits}
use Rattle.std.proofs.Common.{◌≡◌, ℕ, ◌<◌, ◌^◌, List, map, Option, Some, slice_get, sym, ap, subst, ◌∙◌}
use Rattle.std.specs.Option.{option_map}
use Rattle.std.proofs.lemmas.List.{map-append}
use Rattle.std.proofs.lemmas.Option.{slice_get-map}
use Rattle.type_table.specs.Run.{run}
use Rattle.type_table.specs.Laws.{RunsAlong}
use Rattle.type_table.proofs.Elements.{found-map}
use Rattle.type_table.specs.declared.kind.Kind.{Kind}
use Rattle.type_table.specs.declared.kind.Kind.TheVariants.{Undo, Intentions, Escrow}
use Rattle.table_checker.specs.Checked.{IsChecked}
use Rattle.object_trait.specs.Object.{Object, object_of}
use Rattle.object_trait.specs.Meaning.{Meaning, object, run_log, state_by, state_of}
use Rattle.object_trait.specs.declared.event.Event.{Event}
use Rattle.object_trait.specs.declared.log_entry.LogEntry.{LogEntry}
use Rattle.serial_order.specs.Operations.{ops}
use Rattle.serial_order.specs.History.{commits}
use Rattle.serial_order.specs.Serial.{IsSerial, surviving_at}
use Rattle.serial_order.specs.Represent.{plain, RepresentsUndo, RepresentsBy, KeptAgreesBy}
use Rattle.serial_order.specs.Laws.{AreChecked, IsSerialAndKept, CheckedHeadline}
use Rattle.serial_order.specs.declared.entry.Entry.{Entry}
use Rattle.serial_order.proofs.RepresentLogs.{ops-plain}
use Rattle.open_transactions.specs.Transactions.{Row}
use Rattle.store_laws.specs.Stored.{Stored, objects, types_of}
use Rattle.store_laws.specs.Kept.{keeping, objects_of, IsKept}
use Rattle.store.specs.KeptState.{IsKeptState}
use Rattle.store.proofs.Stored.{shown}

-- ---- update in place

-- all that survives leads to the state after the log
represents-run : RunsAlong → (o : Object) (base : ℕ) (log : List LogEntry) (x : ℕ) (C : List ℕ) (V : List Entry) → RepresentsUndo o base log x C V
    → run o.table (Some o.table.initial) (ops V) ≡ run_log o base log
represents-run along o base log x C V represents =
    ap (λ W. run o.table (Some o.table.initial) (ops W)) (sym represents.whole)
    ∙ ap (run o.table (Some o.table.initial)) (map-append (λ (e : Entry). e.op) represents.past (map (plain x) log))
    ∙ along o.table (Some o.table.initial) (ops represents.past) (ops (map (plain x) log))
    ∙ ap (λ from. run o.table from (ops (map (plain x) log))) represents.reached
    ∙ ap (run o.table (Some base)) (ops-plain x log)

-- and so to the kept state, where that is of update in place
in-place : RunsAlong → (kind : Kind) (o : Object) (base : ℕ) (log : List LogEntry) (x : ℕ) (C : List ℕ) (V : List Entry) (state : ℕ) → RepresentsBy kind o base log x C V
    → state_by kind o base log ≡ Some state → kind ≡ Undo → run o.table (Some o.table.initial) (ops V) ≡ Some state
in-place along Undo o base log x C V state represents is undo = represents-run along o base log x C V represents ∙ is
in-place along Intentions o base log x C V state represents is undo = cc
in-place along Escrow o base log x C V state represents is undo = cc

-- ---- a store

module _ (headline : CheckedHeadline) (ms : List Meaning) (rows : List (Option Row)) (H : List Event) (limits : Limits) (forgotten : ℕ) (kept : IsKept (keeping ms rows) H)
    (s : Stored) (same : shown (keeping ms rows) H limits forgotten ≡ s) where
  -- the checker said yes for each of its types
  accepted : AreChecked (types_of ms)
  accepted x c there =
      let found = found-map (λ (m : Meaning). m.checked) ms x c there in
      subst IsChecked found.2 (kept.objects x found.0 found.1).checked

  -- as its callers see them
  pub checked-shown : AreChecked s.types
  checked-shown = subst (λ (z : Stored). AreChecked z.types) same accepted

  -- so the headline holds of it
  owed : IsSerialAndKept (objects_of ms) H
  owed = headline (types_of ms) H accepted kept.run

  -- its history is serially legal
  pub serial-shown : IsSerial (objects s) s.history
  serial-shown = subst (λ (z : Stored). IsSerial (objects z) z.history) same owed.serially_legal

  -- the object at a place, as a caller sees it
  object-at : (x : ℕ) (m : Meaning) → slice_get ms x ≡ Some m → slice_get (objects_of ms) x ≡ Some (object m)
  object-at x m there =
      slice_get-map object_of (types_of ms) x
      ∙ ap (option_map object_of) (slice_get-map (λ (n : Meaning). n.checked) ms x ∙ ap (option_map (λ (n : Meaning). n.checked)) there)

  -- and its state
  pub kept-shown : RunsAlong → (x state : ℕ) (m : Meaning) → slice_get ms x ≡ Some m → state_of m ≡ Some state → state < 2 ^ 32 → IsKeptState s x state
  kept-shown along x state m there is fits =
      let represents = (kept.objects x m there).represents in
      subst (λ (z : Stored). IsKeptState z x state) same
      (record {
        o = object m;
        there = object-at x m there;
        in_place = in-place along m.checked.kind (object m) m.base m.log x (commits H) (surviving_at x H) state represents is;
        agrees = subst (λ state. KeptAgreesBy m.checked.kind (object m) state x H) is (owed.kept x m (object-at x m there) represents);
        fits = fits;
      })
