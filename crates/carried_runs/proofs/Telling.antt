-- The log of an object tells what carried transactions did there.
use Rattle.std.proofs.Common.{◌≡◌, ℕ, true, false, not, List, ◌++◌, map, filter, refl, sym, ap, ◌∙◌, inl, inr}
use Rattle.std.specs.List.{AllByRecursion}
use Rattle.std.proofs.lemmas.Bool.{cases_Bool, false≢true}
use Rattle.std.proofs.lemmas.List.Elements.{filter-append}
use Rattle.type_table.specs.declared.kind.Kind.{Kind}
use Rattle.type_table.specs.declared.kind.Kind.TheVariants.{Undo, Intentions, Escrow}
use Rattle.type_table.proofs.Elements.{each-weaker, filter-none, mine-within}
use Rattle.object_trait.specs.Object.{Object}
use Rattle.object_trait.specs.Meaning.{object}
use Rattle.object_trait.specs.declared.log_entry.LogEntry.{LogEntry}
use Rattle.serial_order.specs.Operations.{is_among, pending}
use Rattle.serial_order.specs.History.{commits}
use Rattle.serial_order.specs.Serial.{surviving_at}
use Rattle.serial_order.specs.Represent.{plain, RepresentsBy}
use Rattle.serial_order.specs.declared.entry.Entry.{Entry}
use Rattle.serial_order.proofs.RepresentLogs.{filter-plain}
use Rattle.committed_states.specs.Committed.{of_these}
use Rattle.carried_runs.specs.Carried.{is_carried}
use Rattle.carried_runs.specs.Laws.{LogsTellCarried}
use Rattle.carried_runs.proofs.Leaving.{AreOutside}
use Rattle.carried_runs.proofs.InRun.{are-outside}

-- what is committed isn't carried
not-carried : (C P : List ℕ) (t : ℕ) → AreOutside C P → is_among C t ≡ true → is_among P t ≡ false
not-carried C P t outside inside =
    elim (cases_Bool (is_among P t)) [
      | inl mine ↦ absurd (false≢true (sym (outside t mine) ∙ inside))
      | inr other ↦ other
    ]

-- where each entry is done that is committed
by-flags : (C P : List ℕ) → AreOutside C P → (x : ℕ) (log : List LogEntry) → AllByRecursion (λ e. e.done ≡ is_among C e.by) log → AllByRecursion (λ e. is_among P (plain x e).by ≡ is_carried P e) log
by-flags C P outside x log flags = each-weaker (λ e flag. one e flag) log flags
  where
    one : (e : LogEntry) → e.done ≡ is_among C e.by → is_among P e.by ≡ is_carried P e
    one e flag =
        elim (cases_Bool (is_among P e.by)) [
          | inl mine ↦ rw (mine, flag, outside e.by mine) refl
          | inr other ↦ rw other refl
        ]

-- where none is done
by-open : (P : List ℕ) (x : ℕ) (log : List LogEntry) → AllByRecursion (λ e. e.done ≡ false) log → AllByRecursion (λ e. is_among P (plain x e).by ≡ is_carried P e) log
by-open P x log flags = each-weaker (λ e flag. one e flag) log flags
  where
    one : (e : LogEntry) → e.done ≡ false → is_among P e.by ≡ is_carried P e
    one e flag =
        elim (cases_Bool (is_among P e.by)) [
          | inl mine ↦ rw (mine, flag) refl
          | inr other ↦ rw other refl
        ]

-- what is pending has all that is carried
of-pending : (C P : List ℕ) (V : List Entry) → AreOutside C P → of_these P (pending C V) ≡ of_these P V
of-pending C P V outside = mine-within (λ (e : Entry). not (is_among C e.by)) (λ e. is_among P e.by) V (λ e mine. ap not (outside e.by mine))

tell-by : (kind : Kind) (o : Object) (base : ℕ) (log : List LogEntry) (x : ℕ) (C P : List ℕ) (V : List Entry) → AreOutside C P → RepresentsBy kind o base log x C V → map (plain x) (filter (is_carried P) log) ≡ of_these P V
tell-by Undo o base log x C P V outside represents =
    sym (filter-plain (λ e. is_among P e.by) (is_carried P) x log (by-flags C P outside x log represents.flags))
    ∙ sym (ap (λ W. W ++ of_these P (map (plain x) log)) (filter-none (λ (e : Entry). is_among P e.by) represents.past (each-weaker (λ e inside. not-carried C P e.by outside inside) represents.past represents.ended)))
    ∙ sym (filter-append (λ (e : Entry). is_among P e.by) represents.past (map (plain x) log)) ∙ ap (of_these P) represents.whole
tell-by Intentions o base log x C P V outside represents =
    sym (filter-plain (λ e. is_among P e.by) (is_carried P) x log (by-open P x log represents.flags)) ∙ ap (of_these P) represents.whole ∙ of-pending C P V outside
tell-by Escrow o base log x C P V outside represents =
    sym (filter-plain (λ e. is_among P e.by) (is_carried P) x log (by-open P x log represents.flags)) ∙ ap (of_these P) represents.whole ∙ of-pending C P V outside

pub logs_tell_carried : LogsTellCarried
logs_tell_carried = λ m x H P represents once. tell-by m.checked.kind (object m) m.base m.log x (commits H) P (surviving_at x H) (are-outside P H once) represents
