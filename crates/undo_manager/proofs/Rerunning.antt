-- The run of what a strike leaves, entry by entry.
use Rattle.std.proofs.Common.{◌≡◌, ◌<◌, ◌≤◌, ◌+◌, ℕ, true, false, cond, List, [], ◌∷◌, ◌++◌, length, take, drop, get_or, set, Some, IsSome, refl, sym, ap, ◌∙◌, arith, add-zero}
use Rattle.std.specs.List.{filter}
use Rattle.std.proofs.lemmas.Bool.{not_from_true, not_from_false, cond-true, cond-false}
use Rattle.std.proofs.lemmas.List.{append-nil, append_assoc, drop_more, drop_all, drop-drop, drop-set-lt, take_more_set, get_or-drop, length-set, length-take}
use Rattle.type_table.specs.Table.{Table, next}
use Rattle.type_table.specs.Run.{IsLegal}
use Rattle.type_table.proofs.Legal.{legal_there, legal-somewhere}
use Rattle.object_trait.specs.Meaning.{log_ops, is_open_of}
use Rattle.object_trait.specs.declared.log_entry.LogEntry.{LogEntry}
use Rattle.undo_manager.specs.Log.{entries, LeadsTo, stays_in_log}
use Rattle.undo_manager.specs.Rerun.{IsRerun}
use Rattle.undo_manager.specs.declared.undo_entry.UndoEntry.{UndoEntry}
use Rattle.undo_manager.proofs.Running.{entries-append, steps-join}

-- what a strike of t's leaves of a log
abbrev pub left_of : ℕ → List UndoEntry → List LogEntry
left_of t log = filter (stays_in_log t) (entries log)

-- the entries from a place up to `read` were run again: those that are left come first in the log, and lead to a state
pub record IsRunTo (T : Table) (t place : ℕ) (old : List UndoEntry) (start : ℕ) (now : List UndoEntry) (kept read state : ℕ) : Type 0 where
  pub rest : List UndoEntry
  pub front : take kept now ≡ take place old ++ rest
  pub behind : drop read now ≡ drop read old
  pub left : entries rest ++ left_of t (drop read old) ≡ left_of t (drop place old)
  pub steps : LeadsTo T start rest state
  pub legal : IsLegal T (Some state) (log_ops (left_of t (drop read old)))
  pub order : kept ≤ read
  pub long : length now ≡ length old

-- none was
pub run-begins : (T : Table) (t place : ℕ) (old : List UndoEntry) (start : ℕ) → IsLegal T (Some start) (log_ops (left_of t (drop place old))) →
    IsRunTo T t place old start old place place start
run-begins T t place old start legal = record {
  rest = [];
  front = sym (append-nil (take place old));
  behind = refl;
  left = refl;
  steps = refl;
  legal = legal;
  order = omega arith;
  long = refl;
}

-- what is read is what was there
read-behind : (read : ℕ) (old now : List UndoEntry) (x : UndoEntry) → drop read now ≡ drop read old → x ≡ get_or now read x → x ≡ get_or old read x
read-behind read old now x same e =
    let first : (l : List UndoEntry) → get_or (drop read l) 0 x ≡ get_or l read x = λ l. rw add-zero at (get_or-drop read l 0 x) in
    e ∙ (sym (first now) ∙ (ap (λ l. get_or l 0 x) same ∙ first old))

-- what is left from an entry on
left-behind : (t read : ℕ) (old : List UndoEntry) (x : UndoEntry) → read < length old → x ≡ get_or old read x →
    left_of t (drop read old) ≡ cond (stays_in_log t x.entry) (x.entry ∷ left_of t (drop (read + 1) old)) (left_of t (drop (read + 1) old))
left-behind t read old x inside e = ap (left_of t) (drop_more old read x inside ∙ ap (λ y. y ∷ drop (read + 1) old) (sym e))

-- where it is struck
left-struck : (t read : ℕ) (old : List UndoEntry) (x : UndoEntry) → read < length old → x ≡ get_or old read x → is_open_of t x.entry ≡ true →
    left_of t (drop read old) ≡ left_of t (drop (read + 1) old)
left-struck t read old x inside e is =
    left-behind t read old x inside e ∙ cond-false (stays_in_log t x.entry) (x.entry ∷ left_of t (drop (read + 1) old)) (left_of t (drop (read + 1) old)) (not_from_true (is_open_of t x.entry) is)

-- where it isn't
left-kept : (t read : ℕ) (old : List UndoEntry) (x : UndoEntry) → read < length old → x ≡ get_or old read x → is_open_of t x.entry ≡ false →
    left_of t (drop read old) ≡ x.entry ∷ left_of t (drop (read + 1) old)
left-kept t read old x inside e isnt =
    left-behind t read old x inside e ∙ cond-true (stays_in_log t x.entry) (x.entry ∷ left_of t (drop (read + 1) old)) (left_of t (drop (read + 1) old)) (not_from_false (is_open_of t x.entry) isnt)

-- equal from a place on, and so from the next
drop-next : (read : ℕ) (old now : List UndoEntry) → drop read now ≡ drop read old → drop (read + 1) now ≡ drop (read + 1) old
drop-next read old now same = sym (drop-drop 1 read now) ∙ (ap (drop 1) same ∙ drop-drop 1 read old)

-- an entry that is struck is passed
pub run-struck : (T : Table) (t place : ℕ) (old : List UndoEntry) (start : ℕ) (now : List UndoEntry) (kept read state : ℕ) (x : UndoEntry) →
    IsRunTo T t place old start now kept read state → read < length old → x ≡ get_or now read x → is_open_of t x.entry ≡ true →
    IsRunTo T t place old start now kept (read + 1) state
run-struck T t place old start now kept read state x r inside e is =
    let same = left-struck t read old x inside (read-behind read old now x r.behind e) is in
    let before : kept ≤ read = r.order in
    record {
      rest = r.rest;
      front = r.front;
      behind = drop-next read old now r.behind;
      left = ap (λ l. entries r.rest ++ l) (sym same) ∙ r.left;
      steps = r.steps;
      legal = rw same at r.legal;
      order = omega arith;
      long = r.long;
    }

-- another one is legal in the state reached
pub run-next : (T : Table) (t place : ℕ) (old : List UndoEntry) (start : ℕ) (now : List UndoEntry) (kept read state : ℕ) (x : UndoEntry) →
    IsRunTo T t place old start now kept read state → read < length old → x ≡ get_or now read x → is_open_of t x.entry ≡ false →
    IsSome (next T state x.entry.op)
run-next T t place old start now kept read state x r inside e isnt =
    let same = left-kept t read old x inside (read-behind read old now x r.behind e) isnt in
    legal-somewhere T (next T state x.entry.op) (log_ops (left_of t (drop (read + 1) old))) (rw same at r.legal)

-- and is run again
pub run-kept : (T : Table) (t place : ℕ) (old : List UndoEntry) (start : ℕ) (now : List UndoEntry) (kept read state : ℕ) (x : UndoEntry) (after : ℕ) →
    IsRunTo T t place old start now kept read state → read < length old → x ≡ get_or now read x → is_open_of t x.entry ≡ false → next T state x.entry.op ≡ Some after →
    IsRunTo T t place old start (set now kept (record { entry = x.entry; before = state })) (kept + 1) (read + 1) after
run-kept T t place old start now kept read state x after r inside e isnt step =
    let one : UndoEntry = record { entry = x.entry; before = state } in
    let same = left-kept t read old x inside (read-behind read old now x r.behind e) isnt in
    let before : kept ≤ read = r.order in
    let fits : kept < length now = omega (arith, r.long) in
    record {
      rest = r.rest ++ one ∷ [];
      front = take_more_set now kept one fits ∙ (ap (λ f. f ++ one ∷ []) r.front ∙ append_assoc (take place old) r.rest (one ∷ []));
      behind = drop-set-lt (read + 1) now kept one (omega arith) ∙ drop-next read old now r.behind;
      left = ap (λ l. l ++ left_of t (drop (read + 1) old)) (entries-append r.rest (one ∷ [])) ∙
          (append_assoc (entries r.rest) (x.entry ∷ []) (left_of t (drop (read + 1) old)) ∙ (ap (λ l. entries r.rest ++ l) (sym same) ∙ r.left));
      steps = steps-join T start r.rest (one ∷ []) state after r.steps (refl, (after, (step, refl)));
      legal = legal_there T (next T state x.entry.op) after (log_ops (left_of t (drop (read + 1) old))) step (rw same at r.legal);
      order = omega arith;
      long = length-set now kept one ∙ r.long;
    }

-- all were
pub run-ends : (T : Table) (t place : ℕ) (old : List UndoEntry) (start : ℕ) (now : List UndoEntry) (kept read state : ℕ) →
    IsRunTo T t place old start now kept read state → length old ≤ read → IsRerun T t place old start (take kept now) state
run-ends T t place old start now kept read state r all =
    let none : left_of t (drop read old) ≡ [] = ap (left_of t) (drop_all read old all) in
    record {
      rest = r.rest;
      items = r.front;
      left = sym (append-nil (entries r.rest)) ∙ (ap (λ l. entries r.rest ++ l) (sym none) ∙ r.left);
      steps = r.steps;
      fewer = omega (arith, length-take kept now, r.long);
    }
