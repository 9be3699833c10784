-- What is prepared where an epoch ends, and where the next one begins.
use Rattle.std.proofs.Common.{◌≡◌, ◌∙◌, inl, inr, ℕ, ◌<◌, Bool, true, false, List, [], map, Option, Some, None, sym, ap, subst}
use Rattle.std.specs.List.{AllByRecursion}
use Rattle.std.proofs.lemmas.Bool.{false≢true}
use Rattle.type_table.proofs.Elements.{each-both, each-map, each-weaker}
use Rattle.table_checker.specs.Checked.{Checked}
use Rattle.serial_order.specs.History.{begins, is_open, summary}
use Rattle.serial_order.specs.Operations.{is_among}
use Rattle.serial_order.specs.declared.entry.Entry.{Entry}
use Rattle.serial_order.proofs.Runs.{of_open}
use Rattle.carried_runs.specs.Carried.{IsCarriedOrder, carried_by, number_in}
use Rattle.carried_runs.proofs.Renumbering.{number-below}
use Rattle.store_laws.specs.Stored.{Stored}
use Rattle.store.specs.CarriesAll.{began_by, open_ones}
use Rattle.store.proofs.CarriedAll.{open-all}
use Rattle.journal.specs.Outcomes.{Outcomes}
use Rattle.journal.specs.declared.prepared_row.Prepared.{Prepared}
use Rattle.durable_store.specs.Epochs.{GoesOver}
use Rattle.durable_store.specs.Held.{moved_among, prepared_numbers}
use Rattle.serving.specs.declared.extension.Extension.{Extension}
use Rattle.serving.specs.Epochs.{closed_by, closings}
use Rattle.serving.specs.NextEpoch.{IsNextStore}
use Rattle.serving.proofs.OneName.{number-one}
use Rattle.held_votes.specs.VotesHeld.{operations_at}
use Rattle.held_votes.proofs.OwnEvents.{AreBeside, open-beside, works-beside}
use Rattle.held_votes.proofs.Commands.{closing-beside}
use Rattle.held_votes.proofs.Carrying.{carried-begins, carried-open, carried-works}
use Rattle.held_votes.proofs.Rows.{HaveBegun, Holds, IsBesideRow, IsIn, all-in, each-beside, each-open, holds-among, holds-prepared, in-map, in-numbers, open_rows}

-- ---- an epoch ends

-- nobody who is prepared is concerned
pub closings-beside : (goes : Bool) (ps : List Prepared) (s : Stored) (n : ℕ) → is_among (prepared_numbers ps) n ≡ true → AreBeside n (closings goes ps s)
closings-beside true ps s n inside = tt
closings-beside false ps s n inside = closing-beside n s.history (prepared_numbers ps) inside

-- ---- the next one begins

-- those go over, which are all that is prepared, maybe with others: the next store's first events carry them, and the rows have their numbers there
pub record Begins (old : Stored) (ps : List Prepared) (new : Stored) (now : List Prepared) : Type 0 where
  pub worker : ℕ → ℕ
  pub those : List ℕ
  pub order : List Entry
  pub is : new.history ≡ carried_by worker those order
  pub rows : now ≡ map (moved_among those) ps
  pub ordered : IsCarriedOrder those old.history order
  pub go : (n : ℕ) → is_among (prepared_numbers ps) n ≡ true → is_open (summary old.history) n ≡ true → is_among those n ≡ true

over-begins : (added : List Checked) (old : Stored) (ps : List Prepared) (new : Stored) (now : List Prepared) → GoesOver added old ps new now → Begins old ps new now
over-begins added old ps new now (GoesOver.all strong carries renumbers) = record {
  worker = began_by old.history;
  those = open_ones old.history;
  order = carries.1.order;
  is = ap (λ (s : Stored). s.history) carries.3 ∙ ap (λ (s : Stored). s.history) carries.1.is;
  rows = renumbers;
  ordered = carries.1.ordered.at_each;
  go = λ n inside opened. open-all old.history n opened;
}
over-begins added old ps new now (GoesOver.some weak those in_order carries renumbers) = record {
  worker = λ _. 0;
  those = those;
  order = carries.1.order;
  is = ap (λ (s : Stored). s.history) carries.2 ∙ ap (λ (s : Stored). s.history) carries.1.is;
  rows = renumbers;
  ordered = carries.1.ordered;
  go = λ n inside opened. in_order.same n ∙ inside;
}

pub next-begins : (waits : Option Extension) (ps : List Prepared) (old new : Stored) (now : List Prepared) → IsNextStore waits ps old new now → Begins old ps new now
next-begins None ps old new now next = over-begins [] old ps new now next
next-begins (Some e) ps old new now next = over-begins next.0 old ps new now next.2

-- ---- what goes over

module _ (goes : Bool) (s : Stored) (rows : List Prepared) (new : Stored) (now : List Prepared) (next : Begins (closed_by goes (open_rows s.history rows) s) (open_rows s.history rows) new now) where
  -- each row that is prepared goes over
  goes-over : (q : Prepared) → IsIn q (open_rows s.history rows) → is_open (summary s.history) q.number ≡ true → is_among next.those q.number ≡ true
  goes-over q there opened =
      let inside = in-numbers (open_rows s.history rows) q there in
      let beside = closings-beside goes (open_rows s.history rows) s q.number inside in
      next.go q.number inside (open-beside s.history (closings goes (open_rows s.history rows) s) q.number ((of_open (summary s.history) q.number opened).began) beside ∙ opened)

  all-go : AllByRecursion (λ (q : Prepared). is_among next.those q.number ≡ true) (open_rows s.history rows)
  all-go =
      each-both {P = λ q. IsIn q (open_rows s.history rows)} {Q = λ (q : Prepared). is_open (summary s.history) q.number ≡ true} {S = λ (q : Prepared). is_among next.those q.number ≡ true} goes-over (open_rows s.history rows)
      (all-in (open_rows s.history rows)) (each-open s.history rows)

  -- so each has begun there
  pub begun-over : HaveBegun new.history now
  begun-over =
      subst (HaveBegun new.history) (sym next.rows)
      (each-map (λ (q : Prepared). q.number < begins new.history) (moved_among next.those) (open_rows s.history rows)
      (each-weaker {P = λ (q : Prepared). is_among next.those q.number ≡ true} {Q = λ (q : Prepared). number_in next.those q.number < begins new.history}
      (λ q inside. subst (λ n. number_in next.those q.number < n) (sym (ap begins next.is ∙ carried-begins next.worker next.those next.order)) (number-below next.those q.number inside))
      (open_rows s.history rows) all-go))

  module _ (outcomes : Outcomes) (p : Prepared) (holds : Holds s.history rows outcomes p) where
    mine : is_among next.those p.number ≡ true
    mine = goes-over p (holds-prepared s.history rows outcomes p holds) holds.opened

    -- it has a number and a place of its own there
    beside-over : (q : Prepared) → IsBesideRow s.history p q × (is_open (summary s.history) q.number ≡ true) → IsBesideRow new.history (moved_among next.those p) (moved_among next.those q)
    beside-over q (inl closed, opened) = absurd (false≢true (sym closed ∙ opened))
    beside-over q (inr (inl same), opened) = inr (inl (ap (moved_among next.those) same))
    beside-over q (inr (inr (number, place)), opened) = inr (inr (λ same. number (number-one next.those p.number q.number mine same), place))

    pub holds-over : Holds new.history now outcomes (moved_among next.those p)
    holds-over = record {
      there = subst (IsIn (moved_among next.those p)) (sym next.rows) (in-map (moved_among next.those) (open_rows s.history rows) p (holds-prepared s.history rows outcomes p holds));
      opened = ap (λ H. is_open (summary H) (number_in next.those p.number)) next.is ∙ carried-open next.worker next.those next.order p.number mine;
      free = holds.free;
      alone =
          subst (AllByRecursion (IsBesideRow new.history (moved_among next.those p))) (sym next.rows)
          (each-map (IsBesideRow new.history (moved_among next.those p)) (moved_among next.those) (open_rows s.history rows)
          (each-weaker {P = λ (q : Prepared). IsBesideRow s.history p q × (is_open (summary s.history) q.number ≡ true)} {Q = λ q. IsBesideRow new.history (moved_among next.those p) (moved_among next.those q)} beside-over
          (open_rows s.history rows) (each-beside s.history rows outcomes p holds)));
    }

    -- with its operations
    pub works-over : (x : ℕ) → operations_at new.history (number_in next.those p.number) x ≡ operations_at s.history p.number x
    works-over x =
        let ps = open_rows s.history rows in
        ap (λ H. operations_at H (number_in next.those p.number) x) next.is
        ∙ carried-works next.worker next.those next.order (closed_by goes ps s).history p.number x next.ordered mine
        ∙ works-beside s.history (closings goes ps s) p.number x (closings-beside goes ps s p.number (holds-among s.history rows outcomes p holds))
