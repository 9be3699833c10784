-- An operation and its commit at once, where no transaction is open: base is the number after it.
use Rattle.std.proofs.Common.{◌≡◌, ℕ, ◌+◌, ◌-◌, ◌≤◌, false, List, [], ◌∷◌, ◌++◌, Some, refl, sym, ap, subst, ◌∙◌, arith}
use Rattle.std.specs.Prelude.{slice_get}
use Rattle.std.proofs.lemmas.Bool.{eq-eqb}
use Rattle.type_table.specs.Table.{next}
use Rattle.type_table.specs.Run.{IsLegal}
use Rattle.escrow_laws.specs.Bounds.{moved_by}
use Rattle.escrow_laws.specs.declared.bounded.Bounded.{Bounded}
use Rattle.escrow_laws.specs.declared.mark.OpenMark.{OpenMark}
use Rattle.escrow_laws.proofs.Numbers.{inside_is}
use Rattle.object_trait.specs.Object.{CoversBy}
use Rattle.object_trait.specs.Meaning.{Meaning, object, open_of, own_of, run_log}
use Rattle.object_trait.specs.Steps.{MayApply, applied, IsCommitBy, IsCommit}
use Rattle.object_trait.specs.declared.log_entry.LogEntry.{LogEntry}
use Rattle.object_trait.proofs.Runs.{open-push}
use Rattle.escrow_manager.specs.Numeric.{bounds_in, greatest}
use Rattle.escrow_manager.specs.Kept.{IsKeptInEscrow}
use Rattle.escrow_manager.specs.declared.totals.Totals.{Totals}
use Rattle.escrow_manager.proofs.Keeping.{escrow-sound, sound-escrow, escrow-view, legal-told}

-- with another base
abbrev pub with_base : Meaning → ℕ → Meaning
with_base m s = record m { base = s }

-- the number after an operation
abbrev pub moved_base : Meaning → Bounded → ℕ
moved_base m b = m.base - b.takes + b.gives

module _ {m : Meaning} {marks : List OpenMark} {totals : Totals} (h : IsKeptInEscrow m marks totals) (idle : m.log ≡ []) (t k : ℕ) (b : Bounded) (found : slice_get (bounds_in m.checked) k ≡ Some b) (may : MayApply m t k) where
  -- base is between the bounds of what is legal for t
  between : (b.low ≤ m.base) × (m.base ≤ b.high)
  between =
      let view = escrow-view m h.numeric t ∙ ap (λ log. run_log (object m) m.base (open_of t log)) idle in
      (legal-told h t k m.base b found view).1 may.legal

  -- so as much is there as it takes
  enough-there : b.takes ≤ m.base
  enough-there =
      let low = between.0 in
      let enough = (h.numeric.bounds.within k b found).enough in
      omega (arith, low, enough)

  -- and there is room for what it gives
  room-there : moved_base m b ≤ greatest m.checked
  room-there =
      let high = between.1 in
      let enough = enough-there in
      let room = (h.numeric.bounds.within k b found).room in
      omega (arith, high, enough, room)

  alone-steps : next m.checked.file.table m.base k ≡ Some (moved_base m b)
  alone-steps =
      let enough = enough-there in
      let same : m.base + b.gives - b.takes ≡ moved_base m b = omega (arith, enough) in
      h.numeric.bounds.steps m.base k ∙ ap (λ o. moved_by o m.base) found ∙ inside_is b m.base between.0 between.1 ∙ ap Some same

  pub alone-commits : IsCommit (applied m t k) t (with_base m (moved_base m b))
  alone-commits =
      let entry : LogEntry = record { by = t; op = k; done = false } in
      let own : open_of t (m.log ++ entry ∷ []) ≡ entry ∷ [] = rw idle (open-push [] entry refl) in
      record {
        checked = refl;
        commit =
            subst (λ kind. IsCommitBy kind (object m) m.base (m.log ++ entry ∷ []) t (moved_base m b) m.log) (sym h.numeric.escrow)
            (record { rest = rw (idle, eq-eqb t t refl) refl; reached = ap (run_log (object m) m.base) own ∙ alone-steps });
      }

  pub alone-kept : IsKeptInEscrow (with_base m (moved_base m b)) marks totals
  alone-kept =
      let old = escrow-sound m h.numeric h.sound in
      let covers = subst (λ kind. CoversBy kind (object m)) h.numeric.escrow h.covered in
      let room = room-there in
      let states = h.base_fits in
      record {
        numeric = h.numeric;
        covered = h.covered;
        base_fits = omega (arith, room, states);
        ops_fit = h.ops_fit;
        room = h.room;
        sound =
            sound-escrow (with_base m (moved_base m b)) h.numeric
            (record {
              inside = covers.closed m.base k (moved_base m b) old.inside alone-steps;
              all_open = old.all_open;
              firm = λ u n s low high. subst (λ log. IsLegal m.checked.file.table (Some s) (own_of log u)) (sym idle) refl;
            });
        listed = h.listed;
        summed = h.summed;
      }
