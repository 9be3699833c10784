-- Escrow: an object goes on representing what survives, as with deferred update; its base is the serial state itself.
use Rattle.std.proofs.Common.{◌≡◌, ℕ, suc, ◌+◌, false, not, List, [], ◌∷◌, ◌++◌, map, filter, Some, refl, sym, ap, ◌∙◌}
use Rattle.std.proofs.Math.Path.{fun_ext}
use Rattle.std.specs.Prelude.{unwrap_or}
use Rattle.std.specs.List.{AllByRecursion}
use Rattle.type_table.specs.Laws.{RunsAlong}
use Rattle.type_table.proofs.Elements.{each-weaker, each-filter}
use Rattle.escrow_laws.specs.Firm.{with_op, keeps}
use Rattle.type_table.specs.declared.kind.Kind.TheVariants.{Escrow}
use Rattle.object_trait.specs.Object.{Object}
use Rattle.object_trait.specs.Alone.{keeps_alone}
use Rattle.object_trait.specs.Strike.{keep_first}
use Rattle.object_trait.specs.Meaning.{is_open_of, open_of, log_ops, own_of}
use Rattle.object_trait.specs.Steps as steps
use Rattle.object_trait.specs.Steps.{IsEscrowCommit}
use Rattle.object_trait.specs.declared.log_entry.LogEntry.{LogEntry}
use Rattle.serial_order.specs.Operations.{is_among, is_by, ops, of, serial, pending}
use Rattle.serial_order.specs.View.{above_at, own_at, number_at, stops_at, alone_at}
use Rattle.serial_order.specs.Represent.{plain, RepresentsIntentions, RepresentsEscrow}
use Rattle.serial_order.specs.declared.entry.Entry.{Entry}
use Rattle.serial_order.proofs.Lists.{serial-snoc, pending-snoc, serial-apart, serial-strike}
use Rattle.serial_order.proofs.Legal.{run-append}
use Rattle.serial_order.proofs.RepresentLogs.{ops-plain, filter-plain, open-plain}
use Rattle.serial_order.proofs.RepresentDeferred.{deferred_of, deferred_represents-op, deferred_represents-strike}

-- what represents so represents as deferred update does
pub as_deferred : (o : Object) (base : ℕ) (log : List LogEntry) (x : ℕ) (C : List ℕ) (V : List Entry) → RepresentsEscrow o base log x C V → RepresentsIntentions o base log x C V
as_deferred o base log x C V represents = record { reached = rw represents.reached (λ ks legal. legal, λ ks legal. legal); whole = represents.whole; flags = represents.flags }

module _ (o : Object) (base : ℕ) (log : List LogEntry) (x : ℕ) (C : List ℕ) (V : List Entry) (represents : RepresentsEscrow o base log x C V) where
  -- one more operation, of a transaction that didn't commit
  pub escrow_represents-op : (t k : ℕ) → is_among C t ≡ false →
      RepresentsEscrow o base (log ++ (record { by = t; op = k; done = false }) ∷ []) x C (V ++ (record { by = t; at = x; op = k }) ∷ [])
  escrow_represents-op t k apart =
      let like = deferred_represents-op o base log x C V (as_deferred o base log x C V represents) t k apart in
      record { reached = rw (serial-apart C V (record { by = t; at = x; op = k }) apart) represents.reached; whole = like.whole; flags = like.flags }

  -- a transaction's open entries in the log
  opens : (t : ℕ) → AllByRecursion (λ e. is_by t (plain x e) ≡ is_open_of t e) log
  opens t = open-plain x t log (each-weaker (λ e undone mine. undone) log represents.flags)

  -- one more commit
  pub escrow_represents-commit : RunsAlong → (t new_base : ℕ) (new_log : List LogEntry) → is_among C t ≡ false → IsEscrowCommit o base log t new_base new_log →
      RepresentsEscrow o new_base new_log x (C ++ t ∷ []) V
  escrow_represents-commit along t new_base new_log apart commit =
      let own : ops (of t V) ≡ log_ops (open_of t log) = ap ops (deferred_of o base log x C V (as_deferred o base log x C V represents) t apart) ∙ ops-plain x (open_of t log) in
      record {
        reached = rw (serial-snoc C t V, run-append along o.table (Some o.table.initial) (serial C V) (of t V), represents.reached, own) commit.reached;
        whole =
            ap (map (plain x)) commit.rest
            ∙ sym (filter-plain (λ e. not (is_by t e)) (λ e. not (is_open_of t e)) x log (each-weaker (λ e same. ap not same) log (opens t)))
            ∙ ap (filter (λ e. not (is_by t e))) represents.whole
            ∙ sym (pending-snoc C t V);
        flags = rw commit.rest (each-filter (λ e. e.done ≡ false) (λ e. not (is_open_of t e)) log represents.flags);
      }

  -- a strike of a transaction that didn't commit
  pub escrow_represents-strike : (t n : ℕ) → is_among C t ≡ false → RepresentsEscrow o base (keep_first (is_open_of t) n log) x C (keep_first (is_by t) n V)
  escrow_represents-strike t n apart =
      let like = deferred_represents-strike o base log x C V (as_deferred o base log x C V represents) t n apart in
      record { reached = rw (serial-strike C t n V apart) represents.reached; whole = like.whole; flags = like.flags }

  -- ---- who keeps a transaction from an operation

  -- what each did is in the log
  own-alike : own_at C V ≡ own_of log
  own-alike = fun_ext (λ u.
      ap (λ W. ops (of u W)) (sym represents.whole)
      ∙ ap ops (filter-plain (is_by u) (is_open_of u) x log (opens u))
      ∙ ops-plain x (open_of u log))

  above-plain : (t : ℕ) (es : List LogEntry) → above_at t (map (plain x) es) ≡ steps.above t es
  above-plain t [] = refl
  above-plain t (e ∷ es) = ap (λ n. n + suc e.by) (above-plain t es)

  above-alike : (t : ℕ) → above_at t (pending C V) ≡ steps.above t log
  above-alike t = ap (above_at t) (sym represents.whole) ∙ above-plain t log

  number-alike : number_at o C V ≡ base
  number-alike = ap (λ found. unwrap_or found 0) represents.reached

  -- the machine and the object agree on it
  pub escrow_stops-alike : (t k : ℕ) (e : LogEntry) → stops_at Escrow o C V t k (plain x e) ≡ steps.stops_by Escrow o base log t k e
  escrow_stops-alike t k e =
      ap (λ b. keeps o.table o.amounts b (with_op (own_at C V) t k) (above_at t (pending C V)) t e.by) number-alike
      ∙ ap (λ (own : ℕ → List ℕ). keeps o.table o.amounts base (with_op own t k) (above_at t (pending C V)) t e.by) own-alike
      ∙ ap (λ m. keeps o.table o.amounts base (with_op (own_of log) t k) m t e.by) (above-alike t)

  pub escrow_alone-alike : (t k : ℕ) (e : LogEntry) → alone_at Escrow o C V t k (plain x e) ≡ steps.alone_by Escrow o base log t k e
  escrow_alone-alike t k e =
      ap (λ b. keeps_alone o.table o.amounts b (with_op (own_at C V) t k) t e.by) number-alike
      ∙ ap (λ (own : ℕ → List ℕ). keeps_alone o.table o.amounts base (with_op own t k) t e.by) own-alike
