-- The histories of epochs of checked types pass their audit.
use Rattle.std.proofs.Common.{◌≡◌, ◌≢◌, ℕ, zero, suc, ◌+◌, List, [], ◌∷◌, ◌++◌, length, map, take, ◌⊎◌, inl, inr, Some, None, option_map, Result, Ok, Err, IsOk, Vec, slice_get, refl, sym, ap, subst, ◌∙◌, append_assoc, arith}
use Rattle.std.specs.declared.alloc.Global.{Global}
use Rattle.std.specs.List.{flat_map}
use Rattle.std.proofs.lemmas.Bool.{false≢true}
use Rattle.std.proofs.lemmas.List.{length-append, length-map, map-append, take-append-le, take_all}
use Rattle.std.proofs.lemmas.Option.{same_Some, slice_get-map}
use Rattle.type_table.specs.Table.{Table, table_at}
use Rattle.type_table.specs.Run.{IsLegal}
use Rattle.table_checker.specs.At.{AtIsChecked, checked_at}
use Rattle.table_checker.specs.Checked.{Checked}
use Rattle.object_trait.specs.Object.{object_of}
use Rattle.serial_order.specs.Operations.{ops}
use Rattle.serial_order.specs.History.{IsHistory}
use Rattle.serial_order.specs.Laws.{AreChecked, RunIsHistory}
use Rattle.serial_order.specs.Serial.{serial_at}
use Rattle.serial_order.specs.Epochs.{AreEpochs, Epoch, EpochsAreSerial, IsEpoch, types_after, types_at, types_behind}
use Rattle.serial_order.specs.Epochs as epochs
use Rattle.serial_order.proofs.EpochTypes.{goes-on, length-types_at}
use Rattle.serial_order.proofs.Epochs.{behind-checked}
use Rattle.history_audit.specs.Laws.{tables_of}
use Rattle.history_audit.specs.Epochs.{AreHistories, AreSerialOver, EpochsDecide, EpochsPass, PassEpochs, serial_over_histories, tables_at, told_from, types_of_all}
use Rattle.history_judge.specs.declared.outcome.Audit.{Audit}
use Rattle.history_judge.specs.declared.outcome.AuditFault.{AuditFault}
use Rattle.history_judge.specs.declared.outcome.AuditFault.TheVariants.{BadEvent, IllegalOp, NoMemory}
use Rattle.history_audit.specs.declared.epoch_fault.EpochFault.{EpochFault}
use Rattle.history_audit.proofs.EpochTables.{none-begun}
use Rattle.history_audit.proofs.FirstTables.{missing, no-state}
use Rattle.history_audit.proofs.NotThere.{not_there}
use Rattle.history_audit.proofs.SerialsOver.{all-alike}

-- the table of a checked type
abbrev table : Checked → Table
table c = c.file.table

-- the tables of checked types
abbrev tables : List Checked → List Table
tables types = map table types

-- ---- tables

-- the table of an object is that of its type
same-tables : (types : List Checked) → tables_of (map object_of types) ≡ tables types
same-tables [] = refl
same-tables (c ∷ types) = ap (λ them. c.file.table ∷ them) (same-tables types)

-- so it is of the first of more types
first-tables : (types more : List Checked) → take (length types) (tables (types ++ more)) ≡ tables types
first-tables types more =
    ap (take (length types)) (map-append table types more)
    ∙ take-append-le (length types) (tables types) (tables more) (omega (arith, length-map types table))
    ∙ take_all (length types) (tables types) (omega (arith, length-map types table))

-- types at kept states, and more of them, have the tables that begin at these states
tables-kept : (types more : List Checked) (kept : List ℕ) → length kept ≡ length types → tables (types_at types kept ++ more) ≡ tables_at (tables (types ++ more)) kept
tables-kept [] more [] as_many = sym (none-begun (tables more))
tables-kept [] more (s ∷ kept) as_many = absurd (omega (arith, as_many))
tables-kept (c ∷ types) more [] as_many = absurd (omega (arith, as_many))
tables-kept (c ∷ types) more (s ∷ kept) as_many = ap (λ them. table_at c.file.table s ∷ them) (tables-kept types more kept (omega (arith, as_many)))

-- the types with which the rest of the epochs begin, and all that are added by them
tables-behind : (types : List Checked) (e : Epoch) (es : List Epoch) → IsEpoch types e
    → tables (types_of_all (types_behind types e) es) ≡ tables_at (tables (types_of_all types (e ∷ es))) e.kept
tables-behind types e es epoch =
    let more = flat_map (λ (f : Epoch). f.added) es in
    ap tables (append_assoc (types_at types e.kept) e.added more) ∙ tables-kept types (e.added ++ more) e.kept epoch.as_many

-- and how many they are
length-behind : (types : List Checked) (e : Epoch) → IsEpoch types e → length (types_behind types e) ≡ length types + length e.added
length-behind types e epoch = length-append (types_at types e.kept) e.added ∙ ap (λ n. n + length e.added) (length-types_at types e.kept epoch.as_many)

-- ---- histories

epoch-histories : RunIsHistory → (types : List Checked) (es : List Epoch) → AreEpochs types es → AreHistories (tables (types_of_all types es)) (told_from (length types) es)
epoch-histories runs types [] are = tt
epoch-histories runs types (e ∷ es) are =
    let its = subst (λ them. IsHistory them e.history) (same-tables types) (runs (map object_of types) e.history are.0.run) in
    let rest = epoch-histories runs (types_behind types e) es are.1 in
    let there = subst (λ n. AreHistories (tables (types_of_all (types_behind types e) es)) (told_from n es)) (length-behind types e are.0) rest in (
      subst (λ them. IsHistory them e.history) (sym (first-tables types (flat_map (λ (f : Epoch). f.added) (e ∷ es)))) its,
      all-alike (tables (types_of_all types (e ∷ es))) e.kept (told_from (length types + length e.added) es)
          (subst (λ them. AreHistories them (told_from (length types + length e.added) es)) (tables-behind types e es are.0) there),
    )

-- ---- the serial order

-- it is that of the epochs
same-serial : (x n : ℕ) (es : List Epoch) → epochs.serial_over x es ≡ serial_over_histories x (told_from n es)
same-serial x n [] = refl
same-serial x n (e ∷ es) = ap (λ them. ops (serial_at x e.history) ++ them) (same-serial x (n + length e.added) es)

-- each type goes on to the end
there-at_last : (types : List Checked) (es : List Epoch) (x : ℕ) (c : Checked) → AreEpochs types es → slice_get types x ≡ Some c
    → (last : Checked) × (slice_get (types_after types es) x ≡ Some last)
there-at_last types [] x c are at = (c, at)
there-at_last types (e ∷ es) x c are at =
    let next = goes-on types e x c are.0.as_many at in
    there-at_last (types_behind types e) es x (checked_at c next.s) are.1 next.behind

-- of an object that is there
of-old : EpochsAreSerial → (types : List Checked) (es : List Epoch) (n x : ℕ) (c : Checked) → AreChecked types → AreEpochs types es → slice_get types x ≡ Some c
    → IsLegal c.file.table (Some c.file.table.initial) (serial_over_histories x (told_from n es))
of-old serial types es n x c checked are there =
    let (last, behind) = there-at_last types es x c are there in
    subst (IsLegal c.file.table (Some c.file.table.initial)) (same-serial x n es) (serial types es checked are x c last there behind).0.legal

-- it is there from the start, or it is added
among : (types more : List Checked) (x : ℕ) (T : Table) → slice_get (tables (types ++ more)) x ≡ Some T
    → ((c : Checked) × (slice_get types x ≡ Some c) × (c.file.table ≡ T)) ⊎ (slice_get types x ≡ None)
among [] more x T at = inr refl
among (c ∷ types) more zero T at = inl (c, refl, same_Some c.file.table T at)
among (c ∷ types) more (suc x) T at = among types more x T at

none-of : (types : List Checked) (x : ℕ) → slice_get types x ≡ None → slice_get (tables types) x ≡ None
none-of types x none = slice_get-map table types x ∙ ap (option_map table) none

-- of one that isn't there yet nothing happens in the first epoch
later-serial : RunIsHistory → (types : List Checked) (e : Epoch) (es : List Epoch) (n x : ℕ) (T : Table) → IsEpoch types e → slice_get types x ≡ None
    → IsLegal T (Some T.initial) (serial_over_histories x (told_from (n + length e.added) es)) → IsLegal T (Some T.initial) (serial_over_histories x (told_from n (e ∷ es)))
later-serial runs types e es n x T epoch none legal =
    let history = subst (λ them. IsHistory them e.history) (same-tables types) (runs (map object_of types) e.history epoch.run) in
    subst (λ them. IsLegal T (Some T.initial) (them ++ serial_over_histories x (told_from (n + length e.added) es))) (sym (not_there (tables types) e.history x history (none-of types x none))) legal

-- and it is among the types of all with which the rest begin
later-table : (types : List Checked) (e : Epoch) (es : List Epoch) (x : ℕ) (T : Table) → IsEpoch types e → slice_get types x ≡ None
    → slice_get (tables (types_of_all types (e ∷ es))) x ≡ Some T → slice_get (tables (types_of_all (types_behind types e) es)) x ≡ Some T
later-table types e es x T epoch none at =
    ap (λ them. slice_get them x) (tables-behind types e es epoch) ∙ no-state (tables (types_of_all types (e ∷ es))) e.kept x (missing types e.kept x epoch.as_many none) ∙ at

epoch-serial : RunIsHistory → AtIsChecked → EpochsAreSerial → (types : List Checked) (es : List Epoch) (n : ℕ) → AreChecked types → AreEpochs types es
    → AreSerialOver (tables (types_of_all types es)) (told_from n es)
epoch-serial runs at_checked serial types [] n checked are x T at = refl
epoch-serial runs at_checked serial types (e ∷ es) n checked are x T at =
    elim (among types (flat_map (λ (f : Epoch). f.added) (e ∷ es)) x T at) [
      | inl old ↦
          let P : Table → Type 0 = λ U. IsLegal U (Some U.initial) (serial_over_histories x (told_from n (e ∷ es))) in
          subst P old.2 (of-old serial types (e ∷ es) n x old.0 checked are old.1)
      | inr none ↦
          later-serial runs types e es n x T are.0 none
          (epoch-serial runs at_checked serial (types_behind types e) es (n + length e.added) (behind-checked at_checked types e checked are.0) are.1 x T (later-table types e es x T are.0 none at))
    ]

-- ---- the audit

by-fault : (outcome : Result (Vec Audit Global) EpochFault) (f : EpochFault) (fault : AuditFault) → outcome ≡ Err f → f.fault ≡ fault
    → (((g : EpochFault) → outcome ≡ Err g → g.fault ≢ NoMemory) → ⊥) → f.fault ≡ NoMemory
by-fault outcome f NoMemory at is never = is
by-fault outcome f (BadEvent place) at is never = absurd (never (λ g same memory. let one = at in let other = same in let bad = is in let none = memory in cc))
by-fault outcome f (IllegalOp i x j) at is never = absurd (never (λ g same memory. let one = at in let other = same in let bad = is in let none = memory in cc))

passes : (outcome : Result (Vec Audit Global) EpochFault) → (((f : EpochFault) → outcome ≡ Err f → f.fault ≢ NoMemory) → IsOk outcome) → PassEpochs outcome
passes (Ok audits) decided = tt
passes (Err f) decided = by-fault (Err f) f f.fault refl refl (λ memory. false≢true (decided memory))

pub epochs_pass : RunIsHistory → AtIsChecked → EpochsAreSerial → EpochsDecide → EpochsPass
epochs_pass runs at_checked serial decide = λ types es outcome checked are said.
    let all = tables (types_of_all types es) in
    let hs = told_from (length types) es in
    passes outcome (λ memory. (decide all hs outcome said memory).1 (epoch-histories runs types es are, epoch-serial runs at_checked serial types es (length types) checked are))
