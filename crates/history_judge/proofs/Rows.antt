-- What an event that may come next does to the rows of transactions.
use Rattle.std.proofs.Common.{◌≡◌, ℕ, ◌-◌, ◌==◌, true, false, not, ◌&&◌, ◌||◌, List, [], ◌∷◌, ◌++◌, length, map, take, Option, Some, None, slice_get, refl, sym, ap, subst, ◌∙◌, inl, inr, arith}
use Rattle.std.specs.List.{take-map}
use Rattle.std.proofs.lemmas.Bool.{eq-eqb}
use Rattle.std.proofs.lemmas.Bool.Decides.{nat_tests}
use Rattle.std.proofs.lemmas.List.{length-append, length-map, length-set, map-append}
use Rattle.std.proofs.lemmas.Option.{none-some, same_Some, slice_get_within}
use Rattle.type_table.specs.Table.{Table}
use Rattle.type_table.proofs.Elements.{each-weaker, cases-more, cases-set, filter-none, eqb-sym}
use Rattle.object_trait.specs.declared.event.EventKind.{EventKind}
use Rattle.object_trait.specs.declared.event.EventKind.TheVariants as kind
use Rattle.object_trait.specs.declared.event.EventKind.TheVariants.{Begin, Op, Busy, Commit, Abort, Rollback}
use Rattle.serial_order.specs.Operations.{is_by, of}
use Rattle.serial_order.specs.History.{Summary, summary, is_open, ContinuesHistory}
use Rattle.serial_order.specs.After.{summary_next, AreInRun, is_open_after, SummaryAfter, HistoryOpensAfter}
use Rattle.serial_order.specs.Held.{own_after, OwnAfter}
use Rattle.history_judge.specs.declared.executed.Executed.{Executed}
use Rattle.history_judge.specs.Rows.{executed_of, operations_of, IsRowOf, AreRowsOf}
use Rattle.history_judge.specs.Moves.{IsRowMoved, RowsMove, MovedRowsAgree}

-- ---- one row

-- the row of an open transaction, of which the operations are known
open-row : (its : List Executed) (t : ℕ) (s : Summary) → is_open s t ≡ true → its ≡ operations_of t s → IsRowOf (Some its) t s
open-row its t s open_now operations = record {
  going = sym open_now;
  operations = λ those is. sym (same_Some its those is) ∙ operations;
}

-- that of a transaction that isn't open
closed-row : (t : ℕ) (s : Summary) → is_open s t ≡ false → IsRowOf None t s
closed-row t s closed = record {
  going = sym closed;
  operations = λ its is. absurd (none-some its is);
}

-- of a transaction to which nothing happened
same-row : (row : Option (List Executed)) (t : ℕ) (s now : Summary) → is_open now t ≡ is_open s t → of t now.survives ≡ of t s.survives → IsRowOf row t s → IsRowOf row t now
same-row row t s now opens own known = record {
  going = known.going ∙ sym opens;
  operations = λ its is. known.operations its is ∙ ap (map executed_of) (sym own);
}

-- ---- one row moved

module _ (old new : List (Option (List Executed))) (s now : Summary) (known : AreRowsOf old s) (in_run : AreInRun now) where
  -- where the moved row is right, and nothing happened to other transactions
  rows-moved : (t : ℕ) (moved : List Executed → Option (List Executed)) → IsRowMoved old new t moved → now.begun ≡ s.begun
      → ((its : List Executed) → its ≡ operations_of t s → IsRowOf (moved its) t now)
      → ((u : ℕ) → (u == t) ≡ false → is_open now u ≡ is_open s u) → ((u : ℕ) → (t == u) ≡ false → of u now.survives ≡ of u s.survives)
      → AreRowsOf new now
  rows-moved t moved move begun here opens own = record {
    known = in_run;
    begun = ap length move.becomes ∙ length-set old t (moved move.its) ∙ known.begun ∙ sym begun;
    each = λ u row there.
        elim (cases-set old t (moved move.its) u row (ap (λ rows. slice_get rows u) (sym move.becomes) ∙ there)) [
          | inl is ↦
              subst (λ v. IsRowOf row v now) (sym is.0)
              (subst (λ r. IsRowOf r t now) is.1 (here move.its ((known.each t (Some move.its) move.was).operations move.its refl)))
          | inr other ↦ same-row row u s now (opens u other.0) (own u (eqb-sym t u ∙ other.0)) (known.each u row other.1)
        ];
  }

  -- the end of a transaction
  rows-end : (t : ℕ) → now.begun ≡ s.begun → ((u : ℕ) → is_open now u ≡ (not (u == t) && is_open s u))
      → ((u : ℕ) → (t == u) ≡ false → of u now.survives ≡ of u s.survives) → IsRowMoved old new t (λ its. None) → AreRowsOf new now
  rows-end t begun opens own move =
      rows-moved t (λ its. None) move begun
      (λ its was. closed-row t now (opens t ∙ rw (eq-eqb t t refl) refl))
      (λ u other. opens u ∙ rw other refl)
      own

-- ---- each kind of event

module _ (old new : List (Option (List Executed))) (s : Summary) (known : AreRowsOf old s) where
  -- an operation
  rows-op : (t x k : ℕ) → AreInRun (summary_next s (Op k t x)) → is_open s t ≡ true → ((u : ℕ) → of u (summary_next s (Op k t x)).survives ≡ own_after u s (Op k t x))
      → RowsMove (Op k t x) old new → AreRowsOf new (summary_next s (Op k t x))
  rows-op t x k in_run open_now own move =
      rows-moved old new s (summary_next s (Op k t x)) known in_run t (λ its. Some (its ++ (record { x = x; k = k }) ∷ [])) move refl
      (λ its was. open-row (its ++ (record { x = x; k = k }) ∷ []) t (summary_next s (Op k t x)) open_now (operations its was))
      (λ u other. refl)
      (λ u other. own u ∙ rw other refl)
    where
      mine : of t (summary_next s (Op k t x)).survives ≡ of t s.survives ++ (record { by = t; at = x; op = k }) ∷ []
      mine = own t ∙ rw (eq-eqb t t refl) refl

      operations : (its : List Executed) → its ≡ operations_of t s → its ++ (record { x = x; k = k }) ∷ [] ≡ operations_of t (summary_next s (Op k t x))
      operations its was =
          ap (λ those. those ++ (record { x = x; k = k }) ∷ []) was
          ∙ sym (map-append executed_of (of t s.survives) ((record { by = t; at = x; op = k }) ∷ []))
          ∙ ap (map executed_of) (sym mine)

  -- a rollback
  rows-rollback : (t n : ℕ) → AreInRun (summary_next s (Rollback t n)) → is_open s t ≡ true → ((u : ℕ) → of u (summary_next s (Rollback t n)).survives ≡ own_after u s (Rollback t n))
      → RowsMove (Rollback t n) old new → AreRowsOf new (summary_next s (Rollback t n))
  rows-rollback t n in_run open_now own move =
      rows-moved old new s (summary_next s (Rollback t n)) known in_run t (λ its. Some (take (length its - n) its)) move refl
      (λ its was. open-row (take (length its - n) its) t (summary_next s (Rollback t n)) open_now (operations its was))
      (λ u other. refl)
      (λ u other. own u ∙ rw other refl)
    where
      mine : of t (summary_next s (Rollback t n)).survives ≡ take (length (of t s.survives) - n) (of t s.survives)
      mine = own t ∙ rw (eq-eqb t t refl) refl

      operations : (its : List Executed) → its ≡ operations_of t s → take (length its - n) its ≡ operations_of t (summary_next s (Rollback t n))
      operations its was =
          ap (λ those. take (length those - n) those) was
          ∙ ap (λ l. take (l - n) (operations_of t s)) (length-map (of t s.survives) executed_of)
          ∙ take-map executed_of (length (of t s.survives) - n) (of t s.survives)
          ∙ ap (map executed_of) (sym mine)

  -- a begin: the next transaction, which has no operation
  rows-begin : (t : ℕ) → AreInRun (summary_next s (Begin t)) → t ≡ s.begun → ((u : ℕ) → is_open (summary_next s (Begin t)) u ≡ (u == t || is_open s u))
      → RowsMove (Begin t) old new → AreRowsOf new (summary_next s (Begin t))
  rows-begin t in_run next opens becomes = record {
    known = in_run;
    begun = let counted = ap length becomes ∙ length-append old (Some [] ∷ []) in let were = known.begun in omega (arith, counted, were);
    each = λ u row there.
        elim (cases-more old (Some []) u row (ap (λ rows. slice_get rows u) (sym becomes) ∙ there)) [
          | inl was ↦ same-row row u s (summary_next s (Begin t)) (opens u ∙ rw (earlier u row was) refl) refl (known.each u row was)
          | inr is ↦ subst (λ r. IsRowOf r u (summary_next s (Begin t))) is.1 (last u (is.0 ∙ known.begun))
        ];
  }
    where
      earlier : (u : ℕ) (row : Option (List Executed)) → slice_get old u ≡ Some row → (u == t) ≡ false
      earlier u row was = let low = slice_get_within old u row was in let all = known.begun in grind (arith, nat_tests, low, all, next)

      none : of s.begun s.survives ≡ []
      none = filter-none (is_by s.begun) s.survives (each-weaker (λ e before. let low = before.0 in grind (arith, nat_tests, low)) s.survives known.known.survive)

      last : (u : ℕ) → u ≡ s.begun → IsRowOf (Some []) u (summary_next s (Begin t))
      last u is =
          open-row [] u (summary_next s (Begin t)) (opens u ∙ rw (eq-eqb u t (is ∙ sym next)) refl)
          (sym (ap (λ n. map executed_of (of n s.survives)) is ∙ ap (map executed_of) none))

-- any event that may come next
rows-after : (tables : List Table) (old new : List (Option (List Executed))) (s : Summary) (happened : EventKind)
    → AreRowsOf old s → AreInRun (summary_next s happened) → ContinuesHistory tables s happened
    → ((u : ℕ) → is_open (summary_next s happened) u ≡ is_open_after s happened u) → ((u : ℕ) → of u (summary_next s happened).survives ≡ own_after u s happened)
    → RowsMove happened old new → AreRowsOf new (summary_next s happened)
rows-after tables old new s (Begin t) known in_run may opens own move = rows-begin old new s known t in_run may opens move
rows-after tables old new s (Op k t x) known in_run may opens own move = rows-op old new s known t x k in_run may.0 own move
rows-after tables old new s (Busy c t x u) known in_run may opens own move = subst (λ rows. AreRowsOf rows s) (sym move) known
rows-after tables old new s (kind.None t x c) known in_run may opens own move = subst (λ rows. AreRowsOf rows s) (sym move) known
rows-after tables old new s (Commit t) known in_run may opens own move = rows-end old new s (summary_next s (Commit t)) known in_run t refl opens (λ u other. refl) move
rows-after tables old new s (Abort t) known in_run may opens own move =
    rows-end old new s (summary_next s (Abort t)) known in_run t refl opens (λ u other. own u ∙ rw other refl) move
rows-after tables old new s (Rollback t n) known in_run may opens own move = rows-rollback old new s known t n in_run may.0 own move

pub moved_rows_agree : SummaryAfter → HistoryOpensAfter → OwnAfter → MovedRowsAgree
moved_rows_agree seen_law opens_law own_law = λ tables H e old new known may move.
    let opens = opens_law tables (summary H) e.kind known.known may in
    subst (AreRowsOf new) (sym (seen_law H e))
    (rows-after tables old new (summary H) e.kind known opens.0 may opens.1 (own_law (summary H) e.kind) move)
