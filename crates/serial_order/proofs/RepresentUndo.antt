-- Update in place: an object goes on representing what survives, by an operation, a commit and a strike.
use Rattle.std.proofs.Common.{◌≡◌, ℕ, true, false, List, [], ◌∷◌, ◌++◌, map, length, Some, refl, sym, ap, ◌∙◌}
use Rattle.std.specs.List.{AllByRecursion}
use Rattle.std.proofs.lemmas.List.{append_assoc, map-append, length-map}
use Rattle.std.proofs.lemmas.List.Elements.{filter-append}
use Rattle.type_table.specs.Run.{run}
use Rattle.type_table.specs.Laws.{RunsAlong}
use Rattle.type_table.proofs.Elements.{each-weaker, each-both, each-append, each-map, filter-none, eqb-sym}
use Rattle.object_trait.specs.Object.{Object}
use Rattle.object_trait.specs.Strike.{keep_first}
use Rattle.object_trait.specs.Meaning.{is_open_of, open_of, run_log}
use Rattle.object_trait.specs.Steps.{IsSettled, marked}
use Rattle.object_trait.specs.declared.log_entry.LogEntry.{LogEntry}
use Rattle.object_trait.proofs.Striking.{each-keep_first}
use Rattle.serial_order.specs.Operations.{is_among, is_by, ops, of}
use Rattle.serial_order.specs.Represent.{plain, RepresentsUndo}
use Rattle.serial_order.specs.declared.entry.Entry.{Entry}
use Rattle.serial_order.proofs.Strikes.{keep_first-behind}
use Rattle.serial_order.proofs.Pairs.{each-front, each-rest}
use Rattle.serial_order.proofs.Lists.{is_one-outside, is_among-apart, is_among-snoc}
use Rattle.serial_order.proofs.Legal.{run-append}
use Rattle.serial_order.proofs.RepresentLogs.{ops-plain, filter-plain, strike-plain, open-plain}

module _ (o : Object) (base : ℕ) (log : List LogEntry) (x : ℕ) (C : List ℕ) (V : List Entry) (represents : RepresentsUndo o base log x C V) where
  -- the state after what survives is that after the log
  pub undo_represents-run : RunsAlong → run o.table (Some o.table.initial) (ops V) ≡ run_log o base log
  undo_represents-run along =
      ap (λ W. run o.table (Some o.table.initial) (ops W)) (sym represents.whole)
      ∙ run-append along o.table (Some o.table.initial) represents.past (map (plain x) log)
      ∙ ap (λ from. run o.table from (ops (map (plain x) log))) represents.reached
      ∙ ap (run o.table (Some base)) (ops-plain x log)

  -- done entries before the log may move into base
  pub undo_represents-settled : RunsAlong → (new_base : ℕ) (new_log : List LogEntry) → IsSettled o base log new_base new_log → RepresentsUndo o new_base new_log x C V
  undo_represents-settled along new_base new_log s =
      let moved : List Entry = map (plain x) s.moved in
      let flags = rw s.front at represents.flags in
      record {
        past = represents.past ++ moved;
        reached =
            run-append along o.table (Some o.table.initial) represents.past moved
            ∙ ap (λ from. run o.table from (ops moved)) represents.reached
            ∙ ap (run o.table (Some base)) (ops-plain x s.moved)
            ∙ s.reached;
        whole =
            append_assoc represents.past moved (map (plain x) new_log)
            ∙ ap (λ rest. represents.past ++ rest) (sym (map-append (plain x) s.moved new_log) ∙ ap (map (plain x)) (sym s.front))
            ∙ represents.whole;
        ended = each-append (λ e. is_among C e.by ≡ true) represents.past moved represents.ended
            (each-map (λ e. is_among C e.by ≡ true) (plain x) s.moved (each-both (λ e flag done. sym flag ∙ done) s.moved (each-front (λ e. e.done ≡ is_among C e.by) s.moved new_log flags) s.done));
        flags = each-rest (λ e. e.done ≡ is_among C e.by) s.moved new_log flags;
      }

  -- one more operation, of a transaction that didn't commit
  pub undo_represents-op : (t k : ℕ) → is_among C t ≡ false →
      RepresentsUndo o base (log ++ (record { by = t; op = k; done = false }) ∷ []) x C (V ++ (record { by = t; at = x; op = k }) ∷ [])
  undo_represents-op t k apart =
      let entry : LogEntry = record { by = t; op = k; done = false } in
      record {
        past = represents.past;
        reached = represents.reached;
        whole =
            ap (λ rest. represents.past ++ rest) (map-append (plain x) log (entry ∷ []))
            ∙ sym (append_assoc represents.past (map (plain x) log) (plain x entry ∷ []))
            ∙ ap (λ W. W ++ plain x entry ∷ []) represents.whole;
        ended = represents.ended;
        flags = each-append (λ e. e.done ≡ is_among C e.by) log (entry ∷ []) represents.flags (sym apart, tt);
      }

  -- one more commit: its entries are done
  pub undo_represents-commit : (t : ℕ) → RepresentsUndo o base (map (marked t) log) x (C ++ t ∷ []) V
  undo_represents-commit t = record {
    past = represents.past;
    reached = represents.reached;
    whole = ap (λ rest. represents.past ++ rest) (plain-marked log) ∙ represents.whole;
    ended = each-weaker (λ e h. is_among-snoc C t e.by ∙ rw h refl) represents.past represents.ended;
    flags = each-map (λ e. e.done ≡ is_among (C ++ t ∷ []) e.by) (marked t) log
        (each-weaker (λ e flag. rw (flag, eqb-sym e.by t) (sym (is_among-snoc C t e.by))) log represents.flags);
  }
    where
      -- marks change no operation
      plain-marked : (entries : List LogEntry) → map (plain x) (map (marked t) entries) ≡ map (plain x) entries
      plain-marked [] = refl
      plain-marked (e ∷ entries) = ap (λ rest. plain x e ∷ rest) (plain-marked entries)

  -- the operations of a transaction that didn't commit are its open entries
  undo_open : (t : ℕ) → is_among C t ≡ false → AllByRecursion (λ e. is_by t (plain x e) ≡ is_open_of t e) log
  undo_open t apart = open-plain x t log (each-weaker (λ e flag mine. flag ∙ is_one-outside C e.by t apart mine) log represents.flags)

  -- what survives before the log is of other transactions
  undo_others : (t : ℕ) → is_among C t ≡ false → AllByRecursion (λ e. is_by t e ≡ false) represents.past
  undo_others t apart = each-weaker (λ e inside. is_among-apart C t e.by apart inside) represents.past represents.ended

  -- a strike of a transaction that didn't commit
  pub undo_represents-strike : (t n : ℕ) → is_among C t ≡ false → RepresentsUndo o base (keep_first (is_open_of t) n log) x C (keep_first (is_by t) n V)
  undo_represents-strike t n apart = record {
    past = represents.past;
    reached = represents.reached;
    whole =
        ap (λ rest. represents.past ++ rest) (sym (strike-plain (is_by t) (is_open_of t) n x log (undo_open t apart)))
        ∙ sym (keep_first-behind (is_by t) n represents.past (map (plain x) log) (undo_others t apart))
        ∙ ap (keep_first (is_by t) n) represents.whole;
    ended = represents.ended;
    flags = each-keep_first (λ e. e.done ≡ is_among C e.by) (is_open_of t) n log represents.flags;
  }

  -- they are its open entries, in order
  pub undo_of : (t : ℕ) → is_among C t ≡ false → of t V ≡ map (plain x) (open_of t log)
  undo_of t apart =
      ap (of t) (sym represents.whole)
      ∙ filter-append (is_by t) represents.past (map (plain x) log)
      ∙ ap (λ front. front ++ of t (map (plain x) log)) (filter-none (is_by t) represents.past (undo_others t apart))
      ∙ filter-plain (is_by t) (is_open_of t) x log (undo_open t apart)

  -- as many open entries as there are operations of a transaction that didn't commit
  pub undo_represents-count : (t : ℕ) → is_among C t ≡ false → length (of t V) ≡ length (open_of t log)
  undo_represents-count t apart = ap length (undo_of t apart) ∙ length-map (open_of t log) (plain x)
