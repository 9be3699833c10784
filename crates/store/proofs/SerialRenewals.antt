-- Stores that went on from one another are epochs, so what is known of epochs holds of them.
use Rattle.std.proofs.Common.{◌≡◌, ℕ, ◌<◌, ◌≤◌, List, [], ◌∷◌, ◌++◌, map, length, Some, slice_get, refl, sym, ap, subst, ◌∙◌, append_assoc, arith}
use Rattle.std.proofs.lemmas.List.{append-nil, length-append}
use Rattle.std.proofs.lemmas.Option.{slice_get_within}
use Rattle.type_table.proofs.Elements.{element_at}
use Rattle.type_table.specs.Run.{run, IsLegal, Looks, AreEqui}
use Rattle.table_checker.specs.Checked.{Checked}
use Rattle.object_trait.specs.Object.{object_of}
use Rattle.serial_order.specs.Laws.{AreChecked}
use Rattle.serial_order.specs.Machine.{IsRun}
use Rattle.serial_order.specs.Operations.{ops}
use Rattle.serial_order.specs.Serial.{serial_at}
use Rattle.serial_order.specs.Epochs.{Epoch, IsEpoch, AreEpochs, types_at, types_after, serial_over, EpochsAreSerial, EpochsGoOn}
use Rattle.serial_order.proofs.EpochTypes.{length-types_at}
use Rattle.store_laws.specs.Stored.{Stored, objects}
use Rattle.store.specs.Renews.{Extends}
use Rattle.store.specs.Renewals.{AreRenewals, last_of, serial_through, BeginsAsSerial, RenewalsAreSerial}

-- all that ended before the last one
record Before (first : Stored) (more : List Stored) : Type 0 where
  es : List Epoch
  epochs : AreEpochs first.types es
  types : (last_of first more).types ≡ types_after first.types es
  as_many : length first.types ≤ length (last_of first more).types
  serial : (x : ℕ) → serial_through x first more ≡ serial_over x es ++ ops (serial_at x (last_of first more).history)

before : (first : Stored) (more : List Stored) → AreRenewals first more → Before first more
before first [] chain = record { es = []; epochs = tt; types = refl; as_many = omega arith; serial = λ x. refl }
before first (next ∷ more) chain =
    let on = chain.0 in
    let rest = before next more chain.1 in
    let e : Epoch = record { history = first.history; kept = on.extends.kept; added = on.added } in
    let types : next.types ≡ types_at first.types on.extends.kept ++ on.added = on.types ∙ ap (λ (s : Stored). s.types) on.extends.is in
    record {
      es = e ∷ rest.es;
      epochs = (on.extends.epoch, subst (λ ts. AreEpochs ts rest.es) types rest.epochs);
      types = rest.types ∙ ap (λ ts. types_after ts rest.es) types;
      as_many = omega (arith, rest.as_many, ap length types, length-append (types_at first.types on.extends.kept) on.added, length-types_at first.types on.extends.kept on.extends.as_many);
      serial = λ x. ap (λ w. ops (serial_at x first.history) ++ w) (rest.serial x)
          ∙ sym (append_assoc (ops (serial_at x first.history)) (serial_over x rest.es) (ops (serial_at x (last_of next more).history)));
    }

-- with the last one, which was renewed
serial-more : (x : ℕ) (es : List Epoch) (e : Epoch) → serial_over x (es ++ e ∷ []) ≡ serial_over x es ++ ops (serial_at x e.history)
serial-more x [] e = append-nil (ops (serial_at x e.history))
serial-more x (first ∷ es) e =
    ap (λ w. ops (serial_at x first.history) ++ w) (serial-more x es e) ∙ sym (append_assoc (ops (serial_at x first.history)) (serial_over x es) (ops (serial_at x e.history)))

module _ (serial : EpochsAreSerial) (on : EpochsGoOn) (first : Stored) (more : List Stored) (checked : AreChecked first.types) (chain : AreRenewals first more) (x : ℕ) (c : Checked)
    (there : slice_get first.types x ≡ Some c) where
  so-far : Before first more
  so-far = before first more chain

  legal : IsRun (objects (last_of first more)) (last_of first more).history → IsLegal c.file.table (Some c.file.table.initial) (serial_through x first more)
  legal runs =
      let b = so-far in
      let low : x < length (types_after first.types b.es) = omega (arith, slice_get_within first.types x c there, b.as_many, ap length b.types) in
      let found = element_at (types_after first.types b.es) x low in
      let all = serial first.types b.es checked b.epochs x c found.0 there found.1 in
      let run-of : IsRun (map object_of (types_after first.types b.es)) (last_of first more).history = subst (λ ts. IsRun (map object_of ts) (last_of first more).history) b.types runs in
      subst (λ w. IsLegal c.file.table (Some c.file.table.initial) w) (sym (b.serial x)) (all.1 (last_of first more).history run-of)

  begins : (new : Stored) (added : List Checked) (begun : Checked) → Extends (last_of first more) added new → slice_get new.types x ≡ Some begun → BeginsAsSerial first more x c begun
  begins new added begun extends at =
      let b = so-far in
      let e : Epoch = record { history = (last_of first more).history; kept = extends.kept; added = added } in
      let epoch : IsEpoch (types_after first.types b.es) e = subst (λ ts. IsEpoch ts e) b.types extends.epoch in
      let longer = on first.types b.es e b.epochs epoch in
      let types : new.types ≡ types_after first.types (b.es ++ e ∷ []) =
      ap (λ (s : Stored). s.types) extends.is ∙ ap (λ ts. types_at ts extends.kept ++ added) b.types ∙ sym longer.1 in
      let known = (serial first.types (b.es ++ e ∷ []) checked longer.0 x c begun there (subst (λ ts. slice_get ts x ≡ Some begun) types at)).0 in
      let order : serial_over x (b.es ++ e ∷ []) ≡ serial_through x first more = serial-more x b.es e ∙ sym (b.serial x) in
      record {
        looks = subst (λ w. Looks c.file.table (Some begun.file.table.initial) (run c.file.table (Some c.file.table.initial) w)) order known.looks;
        equi = λ strong. subst (λ w. AreEqui c.file.table (Some begun.file.table.initial) (run c.file.table (Some c.file.table.initial) w)) order (known.equi strong);
      }

pub renewals-serial : EpochsAreSerial → EpochsGoOn → RenewalsAreSerial
renewals-serial serial on first more checked chain runs x c there =
    (legal serial on first more checked chain x c there runs, begins serial on first more checked chain x c there)
