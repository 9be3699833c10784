-- Deferred update: an object goes on representing what survives, by an operation, a commit and a strike.
use Rattle.std.proofs.Common.{◌≡◌, ℕ, false, not, List, [], ◌∷◌, ◌++◌, map, filter, length, Some, refl, sym, ap, ◌∙◌}
use Rattle.std.specs.List.{AllByRecursion}
use Rattle.std.proofs.lemmas.List.{map-append, length-map}
use Rattle.type_table.specs.Run.{run, AreEqui}
use Rattle.type_table.specs.Laws.{RunsAlong}
use Rattle.type_table.proofs.Elements.{each-weaker, each-append, each-filter}
use Rattle.object_trait.specs.Object.{Object}
use Rattle.object_trait.specs.Strike.{keep_first}
use Rattle.object_trait.specs.Meaning.{is_open_of, open_of, log_ops, run_log}
use Rattle.object_trait.specs.Steps.{IsIntentionsCommit}
use Rattle.object_trait.specs.declared.log_entry.LogEntry.{LogEntry}
use Rattle.object_trait.proofs.Striking.{each-keep_first}
use Rattle.serial_order.specs.Operations.{is_among, is_by, ops, of, serial}
use Rattle.serial_order.specs.Represent.{plain, RepresentsIntentions}
use Rattle.serial_order.specs.declared.entry.Entry.{Entry}
use Rattle.serial_order.proofs.Lists.{serial-snoc, pending-snoc, serial-apart, pending-more, of-pending, serial-strike, pending-strike}
use Rattle.serial_order.proofs.Legal.{run-append, run-equi}
use Rattle.serial_order.proofs.RepresentLogs.{ops-plain, filter-plain, strike-plain, open-plain}

module _ (o : Object) (base : ℕ) (log : List LogEntry) (x : ℕ) (C : List ℕ) (V : List Entry) (represents : RepresentsIntentions o base log x C V) where
  -- a transaction's operations in the log are its open entries
  deferred_open : (t : ℕ) → AllByRecursion (λ e. is_by t (plain x e) ≡ is_open_of t e) log
  deferred_open t = open-plain x t log (each-weaker (λ e undone mine. undone) log represents.flags)

  -- the operations of a transaction that didn't commit are its open entries
  pub deferred_of : (t : ℕ) → is_among C t ≡ false → of t V ≡ map (plain x) (open_of t log)
  deferred_of t apart =
      sym (of-pending C t V apart)
      ∙ ap (of t) (sym represents.whole)
      ∙ filter-plain (is_by t) (is_open_of t) x log (deferred_open t)

  -- as many open entries as there are operations of a transaction that didn't commit
  pub deferred_represents-count : (t : ℕ) → is_among C t ≡ false → length (of t V) ≡ length (open_of t log)
  deferred_represents-count t apart = ap length (deferred_of t apart) ∙ length-map (open_of t log) (plain x)

  -- the state after a transaction's open entries is equieffective to that after the serial order and its operations
  pub deferred_represents-run : RunsAlong → (t : ℕ) → is_among C t ≡ false →
      AreEqui o.table (run_log o base (open_of t log)) (run o.table (Some o.table.initial) (ops (serial C V ++ of t V)))
  deferred_represents-run along t apart =
      let behind : ops (of t V) ≡ log_ops (open_of t log) = ap ops (deferred_of t apart) ∙ ops-plain x (open_of t log) in
      rw (run-append along o.table (Some o.table.initial) (serial C V) (of t V), behind)
      (run-equi along o.table (Some base) (run o.table (Some o.table.initial) (ops (serial C V))) (log_ops (open_of t log)) represents.reached)

  -- one more operation, of a transaction that didn't commit
  pub deferred_represents-op : (t k : ℕ) → is_among C t ≡ false →
      RepresentsIntentions o base (log ++ (record { by = t; op = k; done = false }) ∷ []) x C (V ++ (record { by = t; at = x; op = k }) ∷ [])
  deferred_represents-op t k apart =
      let entry : LogEntry = record { by = t; op = k; done = false } in
      record {
        reached = rw (serial-apart C V (plain x entry) apart) represents.reached;
        whole =
            map-append (plain x) log (entry ∷ [])
            ∙ ap (λ W. W ++ plain x entry ∷ []) represents.whole
            ∙ sym (pending-more C V (plain x entry) apart);
        flags = each-append (λ e. e.done ≡ false) log (entry ∷ []) represents.flags (refl, tt);
      }

  -- one more commit: its entries leave the log
  pub deferred_represents-commit : RunsAlong → (t new_base : ℕ) (new_log : List LogEntry) → is_among C t ≡ false → IsIntentionsCommit o base log t new_base new_log →
      RepresentsIntentions o new_base new_log x (C ++ t ∷ []) V
  deferred_represents-commit along t new_base new_log apart commit =
      let after = deferred_represents-run along t apart in
      record {
        reached = rw (serial-snoc C t V) (λ ks legal. after.0 ks (commit.reached.0 ks legal), λ ks legal. commit.reached.1 ks (after.1 ks legal));
        whole =
            ap (map (plain x)) commit.rest
            ∙ sym (filter-plain (λ e. not (is_by t e)) (λ e. not (is_open_of t e)) x log (each-weaker (λ e same. ap not same) log (deferred_open t)))
            ∙ ap (filter (λ e. not (is_by t e))) represents.whole
            ∙ sym (pending-snoc C t V);
        flags = rw commit.rest (each-filter (λ e. e.done ≡ false) (λ e. not (is_open_of t e)) log represents.flags);
      }

  -- a strike of a transaction that didn't commit
  pub deferred_represents-strike : (t n : ℕ) → is_among C t ≡ false → RepresentsIntentions o base (keep_first (is_open_of t) n log) x C (keep_first (is_by t) n V)
  deferred_represents-strike t n apart = record {
    reached = rw (serial-strike C t n V apart) represents.reached;
    whole =
        sym (strike-plain (is_by t) (is_open_of t) n x log (deferred_open t))
        ∙ ap (keep_first (is_by t) n) represents.whole
        ∙ sym (pending-strike C t n V apart);
    flags = each-keep_first (λ e. e.done ≡ false) (is_open_of t) n log represents.flags;
  }
