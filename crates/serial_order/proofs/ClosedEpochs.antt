-- A history with no open transaction is an epoch.
use Rattle.std.proofs.Common.{◌≡◌, ℕ, true, List, map, Some, slice_get, sym, ap, subst, ◌∙◌}
use Rattle.std.specs.Option.{option_map}
use Rattle.std.proofs.lemmas.Option.{same_Some, slice_get-map}
use Rattle.std.proofs.lemmas.List.{length-map}
use Rattle.type_table.proofs.Elements.{found-map}
use Rattle.type_table.specs.Laws.{EndsInside}
use Rattle.type_table.specs.declared.kind.Kind.{Kind}
use Rattle.type_table.specs.declared.kind.Kind.TheVariants.{Undo, Intentions, Escrow}
use Rattle.table_checker.specs.Checked.{Checked, IsChecked}
use Rattle.object_trait.specs.Object.{Object, CoversBy, object_of}
use Rattle.object_trait.specs.Laws.{CheckedIsCovered}
use Rattle.object_trait.specs.Meaning.{Meaning, object, log_ops, state_by}
use Rattle.object_trait.specs.Sound.{IsSoundBy}
use Rattle.object_trait.specs.declared.log_entry.LogEntry.{LogEntry}
use Rattle.serial_order.specs.Represent.{KeptAgreesBy}
use Rattle.serial_order.specs.Laws.{CheckedHeadline}
use Rattle.serial_order.specs.Epochs.{IsKeptAt, ClosedIsEpoch, StatesAreInside}
use Rattle.serial_order.proofs.Idle.{none-idle}

-- at the state of a sound object its type may begin
inside-by : EndsInside → (kind : Kind) (o : Object) (base : ℕ) (log : List LogEntry) (state : ℕ) → CoversBy kind o → IsSoundBy kind o base log
    → state_by kind o base log ≡ Some state → o.set state ≡ true
inside-by ends Undo o base log state covers sound is = ends o.table o.set base state (log_ops log) covers.closed sound.inside is
inside-by ends Intentions o base log state covers sound is = subst (λ s. o.set s ≡ true) (same_Some base state is) sound.inside
inside-by ends Escrow o base log state covers sound is = subst (λ s. o.set s ≡ true) (same_Some base state is) sound.inside

pub states-are-inside : CheckedIsCovered → EndsInside → StatesAreInside
states-are-inside covered ends m s checked sound is =
    inside-by ends m.checked.kind (object m) m.base m.log s (covered m.checked checked).0 sound is

pub closed-is-epoch : CheckedIsCovered → CheckedHeadline → EndsInside → ClosedIsEpoch
closed-is-epoch covered headline ends = λ ms e checked going none many added objects states.
    let types = map (λ (m : Meaning). m.checked) ms in
    let owed = headline types e.history checked going in
    record {
      run = going;
      as_many = many ∙ sym (length-map ms (λ (m : Meaning). m.checked));
      added = added;
      kept = λ x c s there kept.
          let found = found-map (λ (m : Meaning). m.checked) ms x c there in
          let m = found.0 in
          let its = objects x m found.1 in
          let is = states x m s found.1 kept in
          let at : slice_get (map object_of types) x ≡ Some (object m) = slice_get-map object_of types x ∙ ap (option_map object_of) (there ∙ ap Some (sym found.2)) in
          let yes : IsChecked m.checked = subst IsChecked (sym found.2) (checked x c there) in
          subst (λ (d : Checked). IsKeptAt d s x e.history) found.2
          (record {
            inside = inside-by ends m.checked.kind (object m) m.base m.log s (covered m.checked yes).0 its.0 is;
            idle = none-idle e.history x none;
            agrees = subst (λ k. KeptAgreesBy m.checked.kind (object m) k x e.history) is (owed.kept x m at its.1);
          });
    }
