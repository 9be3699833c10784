-- Logs that are passed from the back, in search of a transaction's open entries.
use Rattle.std.proofs.Common.{◌≡◌, ◌<◌, ◌≤◌, ◌+◌, ◌-◌, ℕ, zero, suc, true, false, not, eqb, cond, List, [], ◌∷◌, ◌++◌, map, length, take, drop, get_or, set, refl, sym, ap, ◌∙◌, inl, inr, arith}
use Rattle.std.proofs.lemmas.Bool.{cases_Bool, and_parts, or_right}
use Rattle.std.proofs.lemmas.List.{drop_more, drop_all, drop-set, take-set, take-take, take-append-drop, map-append, set-get_or, get_or-take, length-set}
use Rattle.object_trait.specs.Meaning.{is_open_of, open_of}
use Rattle.object_trait.proofs.Runs.{same_mark}
use Rattle.undo_manager.specs.Log.{entries, marked_one}
use Rattle.undo_manager.specs.declared.undo_entry.UndoEntry.{UndoEntry}

-- ---- how many open entries are passed

-- the number of t's open entries
abbrev pub opens : ℕ → List UndoEntry → ℕ
opens t log = length (open_of t (entries log))

-- of an entry and those after it
pub opens-cons : (t : ℕ) (u : UndoEntry) (log : List UndoEntry) → opens t (u ∷ log) ≡ cond (is_open_of t u.entry) 1 0 + opens t log
opens-cons t u log =
    elim (cases_Bool (is_open_of t u.entry)) [
      | inl is ↦ rw is (omega arith)
      | inr isnt ↦ rw isnt (omega arith)
    ]

-- of a front and of the rest
pub opens-split : (t place : ℕ) (log : List UndoEntry) → opens t (take place log) + opens t (drop place log) ≡ opens t log
opens-split t zero log = omega arith
opens-split t (suc place) [] = omega arith
opens-split t (suc place) (u ∷ log) = omega (arith, opens-split t place log, opens-cons t u (take place log), opens-cons t u log)

-- one place further to the front
pub opens-back : (t place : ℕ) (log : List UndoEntry) (x : UndoEntry) → place < length log → x ≡ get_or log place x →
    opens t (drop place log) ≡ cond (is_open_of t x.entry) 1 0 + opens t (drop (place + 1) log)
opens-back t place log x inside e =
    let here : x ∷ drop (place + 1) log ≡ drop place log = ap (λ y. y ∷ drop (place + 1) log) e ∙ sym (drop_more log place x inside) in
    ap (opens t) (sym here) ∙ opens-cons t x (drop (place + 1) log)

-- an open entry of t is passed
pub passed-open : (t place left m : ℕ) (log : List UndoEntry) (x : UndoEntry) → 0 < place → place ≤ length log → 0 < left → opens t (drop place log) + left ≡ m →
    x ≡ get_or log (place - 1) x → is_open_of t x.entry ≡ true → opens t (drop (place - 1) log) + (left - 1) ≡ m
passed-open t place left m log x some inside more passed e is =
    let same : (place - 1) + 1 ≡ place = omega arith in
    let back : opens t (drop (place - 1) log) ≡ 1 + opens t (drop place log) = rw (is, same) at (opens-back t (place - 1) log x (omega arith) e) in
    omega arith

-- another entry is
pub passed-other : (t place left m : ℕ) (log : List UndoEntry) (x : UndoEntry) → 0 < place → place ≤ length log → opens t (drop place log) + left ≡ m →
    x ≡ get_or log (place - 1) x → is_open_of t x.entry ≡ false → opens t (drop (place - 1) log) + left ≡ m
passed-other t place left m log x some inside passed e isnt =
    let same : (place - 1) + 1 ≡ place = omega arith in
    let back : opens t (drop (place - 1) log) ≡ 0 + opens t (drop place log) = rw (isnt, same) at (opens-back t (place - 1) log x (omega arith) e) in
    omega arith

-- where some aren't passed yet, the front isn't empty
pub some-front : (t place left m : ℕ) (log : List UndoEntry) → opens t (drop place log) + left ≡ m → m ≤ opens t log → 0 < left → 0 < place
some-front t zero left m log passed fits some = absurd (omega arith)
some-front t (suc place) left m log passed fits some = omega arith

-- where all are passed, the front has none
pub none-front : (t place : ℕ) (log : List UndoEntry) → opens t (drop place log) ≡ opens t log → opens t (take place log) ≡ 0
none-front t place log all = omega (arith, opens-split t place log)

-- ---- marks

-- so none but an open one of t
pub unmarked_one : (t : ℕ) (u : UndoEntry) → is_open_of t u.entry ≡ false → u ≡ marked_one t u
unmarked_one t u isnt = ap (λ done. record u { entry = record u.entry { done = done } }) (sym (same_mark u.entry.done (eqb u.entry.by t) isnt))

-- and an open one of t is done after it
pub marked_open : (t : ℕ) (u : UndoEntry) → is_open_of t u.entry ≡ true → record u { entry = record u.entry { done = true } } ≡ marked_one t u
marked_open t u is =
    let parts = and_parts (eqb u.entry.by t) (not u.entry.done) is in
    ap (λ done. record u { entry = record u.entry { done = done } }) (sym (or_right u.entry.done (eqb u.entry.by t) parts.0))

-- a log without open entries of t is as it was
pub unmarked : (t : ℕ) (log : List UndoEntry) → opens t log ≡ 0 → map (marked_one t) log ≡ log
unmarked t [] none = refl
unmarked t (u ∷ log) none =
    elim (cases_Bool (is_open_of t u.entry)) [
      | inl is ↦ absurd (let some = rw is at (sym (opens-cons t u log) ∙ none) in omega arith)
      | inr isnt ↦
          let rest : opens t log ≡ 0 = rw isnt at none in
          ap (λ x. x ∷ map (marked_one t) log) (sym (unmarked_one t u isnt)) ∙ ap (λ left. u ∷ left) (unmarked t log rest)
    ]

-- ---- a log that is marked from the back

-- from a place on each entry is marked, and before it none
pub record IsMarkedFrom (t place : ℕ) (old now : List UndoEntry) : Type 0 where
  pub front : take place now ≡ take place old
  pub behind : drop place now ≡ map (marked_one t) (drop place old)
  pub long : length now ≡ length old

-- what is read there is what was there
pub marked-read : (t place : ℕ) (old now : List UndoEntry) (x : UndoEntry) → IsMarkedFrom t (place + 1) old now → x ≡ get_or now place x → x ≡ get_or old place x
marked-read t place old now x m e =
    e ∙ (sym (get_or-take (place + 1) now place x (omega arith)) ∙ (ap (λ front. get_or front place x) m.front ∙ get_or-take (place + 1) old place x (omega arith)))

-- one place further to the front
pub marked-set : (t place : ℕ) (old now : List UndoEntry) (x v : UndoEntry) → place < length old → IsMarkedFrom t (place + 1) old now → x ≡ get_or now place x →
    v ≡ marked_one t x → IsMarkedFrom t place old (set now place v)
marked-set t place old now x v inside m e mark =
    let fits : place < length now = omega (arith, m.long) in
    let was : x ≡ get_or old place x = marked-read t place old now x m e in
    record {
      front = take-set now place v ∙ (sym (take-take place (place + 1) now (omega arith)) ∙ (ap (take place) m.front ∙ take-take place (place + 1) old (omega arith)));
      behind = drop-set now place v fits ∙ (ap (λ rest. v ∷ rest) m.behind ∙ (ap (λ y. y ∷ map (marked_one t) (drop (place + 1) old)) (mark ∙ ap (marked_one t) was) ∙ ap (map (marked_one t)) (sym (drop_more old place x inside))));
      long = length-set now place v ∙ m.long;
    }

-- an entry that isn't an open one of t stays as it is
pub marked-same : (t place : ℕ) (old now : List UndoEntry) (x : UndoEntry) → place < length old → IsMarkedFrom t (place + 1) old now → x ≡ get_or now place x →
    is_open_of t x.entry ≡ false → IsMarkedFrom t place old now
marked-same t place old now x inside m e isnt =
    let same : set now place x ≡ now = ap (set now place) e ∙ set-get_or now place x in
    rw same at (marked-set t place old now x x inside m e (unmarked_one t x isnt))

-- where the front has no open entries of t, the whole log is marked
pub marked-all : (t place : ℕ) (old now : List UndoEntry) → IsMarkedFrom t place old now → opens t (take place old) ≡ 0 → now ≡ map (marked_one t) old
marked-all t place old now m none =
    sym (take-append-drop place now) ∙ (ap (λ front. front ++ drop place now) (m.front ∙ sym (unmarked t (take place old) none)) ∙
    (ap (λ rest. map (marked_one t) (take place old) ++ rest) m.behind ∙ (sym (map-append (marked_one t) (take place old) (drop place old)) ∙ ap (map (marked_one t)) (take-append-drop place old))))

-- at the end no entry is marked yet
pub marked-begins : (t : ℕ) (log : List UndoEntry) → IsMarkedFrom t (length log) log log
marked-begins t log = record {
  front = refl;
  behind = rw (drop_all (length log) log (omega arith)) refl;
  long = refl;
}
