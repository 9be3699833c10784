-- A renewal that carries transactions.
use Rattle.std.proofs.Common.{◌≡◌, List, [], ◌∷◌, ◌++◌, append_assoc, map, sym, ap, subst, ◌∙◌}
use Rattle.std.proofs.lemmas.List.{length-map, map-append}
use Rattle.type_table.proofs.Elements.{found-map}
use Rattle.table_checker.specs.Checked.{Checked, IsChecked}
use Rattle.object_trait.specs.Object.{Object, object_of}
use Rattle.object_trait.specs.Meaning.{Meaning, object}
use Rattle.object_trait.specs.declared.event.Event.{Event}
use Rattle.serial_order.specs.Epochs.{ClosedIsEpoch, types_behind}
use Rattle.serial_order.specs.Machine.{IsRun}
use Rattle.serial_order.specs.Laws.{MachineMayApply}
use Rattle.committed_states.specs.Committed.{AreCommittedStates, IsCommitted}
use Rattle.committed_states.specs.Laws.{ClosedIsCommitted}
use Rattle.committed_states.proofs.Fronts.{runs-front, runs-rest}
use Rattle.committed_states.proofs.Staying.{committed-back}
use Rattle.carried_runs.specs.Carried.{number_in, begins_from, done_again, carried_run}
use Rattle.carried_runs.specs.OpenEpochs.{IsOpenEpoch}
use Rattle.carried_runs.specs.Laws.{CarriedIsRun, CarriedApplies, RenewCarries}

pub renew_carries : ClosedIsEpoch → ClosedIsCommitted → CarriedIsRun → RenewCarries
renew_carries closed_epoch closed carries = λ ms epoch D worker P checked added going none_committed none objects states as_many once.
    let types : List Checked = map (λ (m : Meaning). m.checked) ms in
    let H : List Event = epoch.history in
    let left : AreCommittedStates (map object_of types) epoch.kept H = λ x o s there kept_there.
    let type = found-map object_of types x o there in
    let found = found-map (λ (m : Meaning). m.checked) ms x type.0 type.1 in
    let m = found.0 in
    let its = objects x m found.1 in
    let yes : IsChecked m.checked = subst IsChecked (sym found.2) (checked x type.0 type.1) in
    let here = closed (map object_of types) (H ++ D) x m s yes going none its.1 its.0 (states x m s found.1 kept_there) in
    subst (λ (p : Object). IsCommitted p s x H) (ap object_of found.2 ∙ type.2)
    (committed-back (map object_of types) H D x (object m) s (runs-rest (map object_of types) [] H D going) none_committed here) in
    let ended : IsOpenEpoch types epoch = record {
      run = runs-front (map object_of types) [] H D going;
      as_many = as_many ∙ sym (length-map ms (λ (m : Meaning). m.checked));
      added = added;
      kept = left;
    } in (
      closed_epoch ms (record epoch { history = H ++ D }) checked going none as_many added objects states,
      ended,
      carries types epoch worker P checked ended once,
    )

-- ---- what is done again

pub carried_applies : CarriedIsRun → MachineMayApply → CarriedApplies
carried_applies carries applies = λ types epoch worker P checked ended once A B e m same there represents room.
    let objects = map object_of (types_behind types epoch) in
    let done : List Event = begins_from worker 0 P ++ map (done_again worker P) A in
    let event : Event = done_again worker P e in
    let rest : List Event = map (done_again worker P) B in
    let whole : carried_run worker P epoch.history ≡ done ++ event ∷ rest =
    ap (λ U. begins_from worker 0 P ++ map (done_again worker P) U) (sym same) ∙ ap (λ K. begins_from worker 0 P ++ K) (map-append (done_again worker P) A (e ∷ B))
    ∙ sym (append_assoc (begins_from worker 0 P) (map (done_again worker P) A) (event ∷ rest)) in
    let run : IsRun objects (done ++ event ∷ rest) = subst (IsRun objects) whole (carries types epoch worker P checked ended once) in
    applies objects done (worker e.by) (number_in P e.by) e.at e.op m (runs-front objects [] done (event ∷ rest) run) (runs-rest objects [] done (event ∷ rest) run).0 there represents room
