-- The lines of events, row by row.
use Rattle.std.proofs.Common.{Some, true, ◌≡◌, refl, sym, ap, ℕ, zero, suc, ◌+◌, List, [], ◌∷◌, ◌++◌, add-one, drop, length, take, arith, ◌∙◌}
use Rattle.std.proofs.lemmas.List.{length-drop, take_all}
use Rattle.std.proofs.lemmas.Option.{same_Some}
use Rattle.sqlite_value.specs.declared.value.Value.TheVariants.{Text}
use Rattle.sqlite_value.specs.Order.{Row, bytes, column}
use Rattle.sqlite_trees.specs.View.{Advances, View}
use Rattle.object_trait.specs.declared.event.EventKind.{EventKind}
use Rattle.object_trait.specs.declared.event.EventKind.TheVariants.{Begin, Op, Busy, None, Commit, Abort, Rollback}
use Rattle.event_text.specs.EventText.{event_lines, line_in_row}
use Rattle.event_text.proofs.Groups.{lines-append, lines-more, no-lines}
use Rattle.journal.specs.declared.event_row.EventRow.{EventRow}
use Rattle.journal.specs.declared.event_row.EventRow.TheVariants.{Lines, Single}
use Rattle.journal.specs.EventRow.{event_read_back, event_row, event_told, events_in_row, events_in_rows, lines_column}
use Rattle.journal.specs.SingleEvent.{single_row}
use Rattle.journal.specs.Rows.{value_rows}
use Rattle.journal.proofs.CursorRows.{placed}
use Rattle.journal.proofs.EventPlaces.{events-more}
use Rattle.journal.proofs.RowLemmas.{length-rows}

-- ---- one row

single-long : (n : ℕ) (e : EventKind) → length (single_row n e) ≡ 7
single-long n (Begin t) = refl
single-long n (Op k t x) = refl
single-long n (Busy c t x u) = refl
single-long n (None t x c) = refl
single-long n (Commit t) = refl
single-long n (Abort t) = refl
single-long n (Rollback t m) = refl

-- one of lines has those of its events
pub group-lines : (row : Row) (n : ℕ) (text : List ℕ) (said : EventRow) → length row ≡ 4 → column row lines_column ≡ Text text → row ≡ event_row n said → text ≡ event_lines (events_in_row said)
group-lines row n text (Lines events) four at is = ap bytes (sym at ∙ ap (λ r. column r lines_column) is)
group-lines row n text (Single e) four at is =
    let long = ap length is ∙ single-long n e in
    absurd (omega (arith, four, long))

-- one of an event has its line
pub single-line : (row : Row) (n : ℕ) (e : EventKind) (said : EventRow) → row ≡ single_row n e → row ≡ event_row n said → line_in_row e ≡ event_lines (events_in_row said)
single-line row n e said here is =
    let same : Single e ≡ said = sym (event_read_back n (Single e)) ∙ ap event_told (sym here ∙ is) ∙ event_read_back n said in
    let one : event_lines (e ∷ []) ≡ line_in_row e = lines-more [] e ∙ ap (λ front. front ++ line_in_row e) no-lines in
    sym one ∙ ap (λ r. event_lines (events_in_row r)) same

-- ---- all rows, of which n were read

-- the next one
pub record IsNext (rows : List EventRow) (n : ℕ) (row : Row) (left : List Row) : Type 0 where
  pub said : EventRow
  pub is : row ≡ event_row n said
  pub more : left ≡ value_rows event_row (n + 1) (drop (n + 1) rows)
  pub taken : take (n + 1) rows ≡ take n rows ++ said ∷ []

drop-next : (rows : List EventRow) (n : ℕ) (said : EventRow) (rest : List EventRow) → drop n rows ≡ said ∷ rest → (drop (suc n) rows ≡ rest) × (take (suc n) rows ≡ take n rows ++ said ∷ [])
drop-next [] zero said rest is = absurd (cc)
drop-next [] (suc n) said rest is = absurd (cc)
drop-next (row ∷ rows) zero said rest is =
    let first : row ≡ said = cc in
    let more : rows ≡ rest = cc in
    (more, ap (λ r. r ∷ []) first)
drop-next (row ∷ rows) (suc n) said rest is =
    let (more, taken) = drop-next rows n said rest is in
    (more, ap (λ rs. row ∷ rs) taken)

next-in : (rest rows : List EventRow) (n : ℕ) (row : Row) (left : List Row) → drop n rows ≡ rest → value_rows event_row n rest ≡ row ∷ left → IsNext rows n row left
next-in [] rows n row left rest is = absurd (cc)
next-in (said ∷ more) rows n row left rest is =
    let (dropped, taken) = drop-next rows n said more rest in
    let here : event_row n said ≡ row = cc in
    let behind : value_rows event_row (suc n) more ≡ left = cc in
    record {
      said = said;
      is = sym here;
      more = rw add-one (sym behind ∙ ap (value_rows event_row (suc n)) (sym dropped));
      taken = rw add-one taken;
    }

-- a cursor that has the rows left that weren't read gives it
pub advanced : (rows : List EventRow) (n : ℕ) (old new : View) (row : Row) → Advances old new 0 row true → old.cursors 0 ≡ Some (value_rows event_row n (drop n rows))
    → (left : List Row) × (new.cursors 0 ≡ Some (value_rows event_row (n + 1) (drop (n + 1) rows))) × IsNext rows n row left
advanced rows n old new row adv at =
    let rest : value_rows event_row n (drop n rows) ≡ row ∷ adv.0 = same_Some (value_rows event_row n (drop n rows)) (row ∷ adv.0) (sym at ∙ adv.1) in
    let next = next-in (drop n rows) rows n row adv.0 refl rest in
    (adv.0, placed old new adv.0 adv.2 ∙ ap Some next.more, next)

-- or there is none
pub all-read : (rows : List EventRow) (n : ℕ) → value_rows event_row n (drop n rows) ≡ [] → take n rows ≡ rows
all-read rows n none = take_all n rows (omega (arith, length-drop n rows, ap length none, length-rows event_row n (drop n rows)))

-- its lines are behind the others
pub lines-next : (rows : List EventRow) (n : ℕ) (row : Row) (left : List Row) (old new : List ℕ) (next : IsNext rows n row left) → old ≡ event_lines (events_in_rows (take n rows))
    → ((said : EventRow) → row ≡ event_row n said → new ≡ old ++ event_lines (events_in_row said)) → new ≡ event_lines (events_in_rows (take (n + 1) rows))
lines-next rows n row left old new next before put =
    put next.said next.is
    ∙ ap (λ front. front ++ event_lines (events_in_row next.said)) before
    ∙ sym (ap (λ rs. event_lines (events_in_rows rs)) next.taken ∙ ap event_lines (events-more (take n rows) next.said) ∙ lines-append (events_in_rows (take n rows)) (events_in_row next.said))
