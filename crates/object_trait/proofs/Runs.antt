-- Logs: the operations of two put together, runs along them, and which of their entries are open.
use Rattle.std.proofs.Common.{◌≡◌, ℕ, List, [], ◌∷◌, ◌++◌, Option, Bool, true, false, not, ◌&&◌, ◌||◌, refl, ap, ◌∙◌, eqb}
use Rattle.std.specs.List.{filter, AllByRecursion}
use Rattle.std.proofs.lemmas.List.{append-nil, map-append}
use Rattle.std.proofs.lemmas.List.Elements.{filter-append}
use Rattle.std.proofs.lemmas.Bool.{cond-true, cond-false, eqb-true, eq-eqb, and_parts, and_from, and_left, not_from_false}
use Rattle.type_table.specs.Table.{Table}
use Rattle.type_table.specs.Run.{run, IsLegal}
use Rattle.type_table.specs.Laws.{RunsAlong}
use Rattle.type_table.proofs.Elements.{differ_turned, each-weaker, filter-all}
use Rattle.object_trait.specs.Meaning.{log_ops, is_open_of, open_of}
use Rattle.object_trait.specs.declared.log_entry.LogEntry.{LogEntry}

-- ---- operations

-- the operations of a log put together
pub ops-append : (V W : List LogEntry) → log_ops (V ++ W) ≡ log_ops V ++ log_ops W
ops-append V W = map-append (λ (e : LogEntry). e.op) V W

-- one more operation, which is legal in the state after the list
pub push-legal : RunsAlong → (T : Table) (from : Option ℕ) (v w : List ℕ) → IsLegal T (run T from v) w → IsLegal T from (v ++ w)
push-legal along T from v w h = rw (along T from v w) h

-- ---- open entries

-- a mark changes no entry that is done or another's
pub same_mark : (done by_t : Bool) → (by_t && not done) ≡ false → (done || by_t) ≡ done
same_mark true by_t isnt = refl
same_mark false true isnt = isnt
same_mark false false isnt = refl

-- an open entry of t isn't one of u
pub open-apart : (t u : ℕ) → eqb u t ≡ false → (e : LogEntry) → is_open_of t e ≡ true → is_open_of u e ≡ false
open-apart t u differ e mine =
    let by : e.by ≡ t = eqb-true e.by t (and_parts (eqb e.by t) (not e.done) mine).0 in
    and_left (eqb e.by u) (not e.done) (rw by (differ_turned t u differ))

-- where all entries are open, the open ones are all
pub open-all : (log : List LogEntry) → AllByRecursion (λ e. e.done ≡ false) log → filter (λ e. not e.done) log ≡ log
open-all log flags = filter-all (λ (e : LogEntry). not e.done) log (each-weaker (λ e held. ap not held) log flags)

-- one more open entry is its transaction's
pub open-push : (log : List LogEntry) (e : LogEntry) → e.done ≡ false → open_of e.by (log ++ e ∷ []) ≡ open_of e.by log ++ e ∷ []
open-push log e held =
    let is : is_open_of e.by e ≡ true = and_from (eqb e.by e.by) (not e.done) (eq-eqb e.by e.by refl) (not_from_false e.done held) in
    let one : open_of e.by (e ∷ []) ≡ e ∷ [] = cond-true (is_open_of e.by e) (e ∷ []) [] is in
    filter-append (is_open_of e.by) log (e ∷ []) ∙ ap (λ rest. open_of e.by log ++ rest) one

-- and no other's
pub open-push_other : (u : ℕ) (log : List LogEntry) (e : LogEntry) → eqb u e.by ≡ false → open_of u (log ++ e ∷ []) ≡ open_of u log
open-push_other u log e differ =
    let isnt : is_open_of u e ≡ false = and_left (eqb e.by u) (not e.done) (differ_turned e.by u differ) in
    let none : open_of u (e ∷ []) ≡ [] = cond-false (is_open_of u e) (e ∷ []) [] isnt in
    filter-append (is_open_of u) log (e ∷ []) ∙ (ap (λ rest. open_of u log ++ rest) none ∙ append-nil (open_of u log))
