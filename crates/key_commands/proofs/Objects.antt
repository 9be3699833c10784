-- At which objects open transactions did what survives, event by event.
use Rattle.std.proofs.Common.{◌≡◌, ◌⊎◌, ◌∙◌, ◌==◌, ◌<◌, ◌≤◌, ◌+◌, ◌-◌, ℕ, Bool, true, false, not, nat_lt, List, [], ◌∷◌, ◌++◌, length, take, get_or, refl, ap, sym, inl, inr}
use Rattle.std.specs.Prelude.{Vec, if◌then◌else◌, slice_set}
use Rattle.std.specs.List.{AllByRecursion, AllZip, count_by, list_any, slice_index_or}
use Rattle.std.specs.declared.alloc.Global.{Global}
use Rattle.std.proofs.lemmas.Bool.{and_parts, cases_Bool, eq-eqb, eqb-true, false≢true, ltb-false, ltb-true}
use Rattle.std.proofs.lemmas.List.{get_or_past, length-map, map-append, nil_from_length, take-map, take_all, take_more}
use Rattle.std.proofs.lemmas.List.Folds.{list_any_at}
use Rattle.std.proofs.lemmas.Slice.Zip.{AllZip-long}
use Rattle.std.proofs.lemmas.Option.{slice_get_cases, slice_get_read}
use Rattle.type_table.proofs.Elements.{each-found, each-weaker, found-set, found-set_other}
use Rattle.object_trait.specs.declared.event.Event.{Event}
use Rattle.object_trait.specs.declared.event.EventKind.{EventKind}
use Rattle.object_trait.specs.declared.event.EventKind.TheVariants as kind
use Rattle.object_trait.specs.declared.event.EventKind.TheVariants.{Begin, Op, Busy, Commit, Abort, Rollback}
use Rattle.serial_order.specs.Operations.{of}
use Rattle.serial_order.specs.History.{Summary, is_begin, is_open, summary, surviving}
use Rattle.serial_order.specs.Held.{own_after}
use Rattle.serial_order.specs.declared.entry.Entry.{Entry}
use Rattle.serial_order.proofs.After.{seen_after_one}
use Rattle.serial_order.proofs.Held.{own_after_one}
use Rattle.carried_orders.specs.Merging.{worked_at}
use Rattle.key_commands.specs.Endings.{is_end_of}
use Rattle.event_text.specs.EventText.{events_of_kinds}
use Rattle.key_commands.specs.OpenObjects.{MarkedRowsChange, objects_after, objects_in, open_objects, row_objects}
use Rattle.key_commands.proofs.Marks.{open_is}

-- one of two that are the same
either : {X : Type 0} (b : Bool) (x : X) → (if b then x else x) ≡ x
either true x = refl
either false x = refl

-- ---- one event more

-- where it doesn't end t
worked-next : (s : Summary) (happened : EventKind) (t : ℕ) → is_end_of t happened ≡ false → worked_at (own_after t s happened) ≡ objects_after t (worked_at (of t s.survives)) happened
worked-next s (Begin u) t goes = refl
worked-next s (Op k u x) t goes =
    elim (cases_Bool (u == t)) [
      | inl mine ↦ rw mine (map-append (λ (e : Entry). e.at) (of t s.survives) ((record { by = u; at = x; op = k }) ∷ []))
      | inr other ↦ rw other refl
    ]
worked-next s (Busy c u x v) t goes = refl
worked-next s (kind.None u x c) t goes = refl
worked-next s (Commit u) t goes = refl
worked-next s (Abort u) t goes = rw goes refl
worked-next s (Rollback u n) t goes =
    elim (cases_Bool (u == t)) [
      | inl mine ↦
          rw mine
          (sym (ap (λ l. take (l - n) (worked_at (of t s.survives))) (length-map (of t s.survives) (λ (e : Entry). e.at))
          ∙ take-map (λ (e : Entry). e.at) (length (of t s.survives) - n) (of t s.survives)))
      | inr other ↦ rw other refl
    ]

-- what is open after the events H did in the beginning G of them that survives there
abbrev pub objects_so_far : List Event → List Event → ℕ → List ℕ
objects_so_far H G t = if is_open (summary H) t then worked_at (of t (surviving G)) else []

-- the same after one event more
so_far-next : (H G : List Event) (e : Event) (t : ℕ) → (is_open (summary H) t ≡ true → is_end_of t e.kind ≡ false)
    → objects_so_far H (G ++ e ∷ []) t ≡ (if is_open (summary H) t then objects_after t (objects_so_far H G t) e.kind else objects_so_far H G t)
so_far-next H G e t goes =
    elim (cases_Bool (is_open (summary H) t)) [
      | inl going ↦
          rw going
          (ap (λ (s : Summary). worked_at (of t s.survives)) (seen_after_one G e)
          ∙ ap worked_at (own_after_one (summary G) e.kind t)
          ∙ worked-next (summary G) e.kind t (goes going))
      | inr closed ↦ rw closed refl
    ]

-- no event ends one that is open after them
not_ended : (ks : List EventKind) (i t : ℕ) (d : EventKind) → i < length ks → is_open (summary (events_of_kinds ks)) t ≡ true → is_end_of t (get_or ks i d) ≡ false
not_ended ks i t d inside going =
    elim (cases_Bool (is_end_of t (get_or ks i d))) [
      | inl ends ↦
          let some : not (list_any (is_end_of t) ks) ≡ false = ap not (list_any_at (is_end_of t) ks i d inside ends) in
          let none : not (list_any (is_end_of t) ks) ≡ true = (and_parts (nat_lt t (count_by is_begin ks)) (not (list_any (is_end_of t) ks)) (sym (open_is t ks) ∙ going)).1 in
          absurd (false≢true (sym some ∙ none))
      | inr goes ↦ goes
    ]

-- ---- rows

-- a clone of a row that has nothing has nothing
clone_empty : (R : ℕ → ℕ → Type 0) (L : Vec ℕ Global → Type 0) (none row : Vec ℕ Global) → none.items ≡ [] → (row ≡ none) ⊎ (AllZip R none.items row.items × L row) → row.items ≡ []
clone_empty R L none row empty clone =
    elim clone [
      | inl same ↦ ap (λ (r : Vec ℕ Global). r.items) same ∙ empty
      | inr one ↦ nil_from_length row.items (AllZip-long R none.items row.items one.0 ∙ ap length empty)
    ]

-- and so have all of them
pub clones_empty : (R : ℕ → ℕ → Type 0) (L : Vec ℕ Global → Type 0) (none : Vec ℕ Global) (rows : List (Vec ℕ Global)) → none.items ≡ []
    → AllByRecursion (λ row. (row ≡ none) ⊎ (AllZip R none.items row.items × L row)) rows → AllByRecursion (λ (row : Vec ℕ Global). row.items ≡ []) rows
clones_empty R L none rows empty clones = each-weaker (λ row clone. clone_empty R L none row empty clone) rows clones

-- before the first event nothing was done
pub none_so_far : (H : List Event) (rows : List (Vec ℕ Global)) → AllByRecursion (λ (row : Vec ℕ Global). row.items ≡ []) rows → (t : ℕ) → objects_in rows t ≡ objects_so_far H [] t
none_so_far H rows empty t =
    elim (slice_get_cases rows t).1 [
      | inl (row, inside, there, same) ↦ ap row_objects there ∙ each-found (λ (row : Vec ℕ Global). row.items ≡ []) rows t row empty there ∙ sym nothing
      | inr (past, none) ↦ ap row_objects none ∙ sym nothing
    ]
  where
    nothing : objects_so_far H [] t ≡ []
    nothing = elim (cases_Bool (is_open (summary H) t)) [ inl going ↦ rw going refl | inr closed ↦ rw closed refl ]

-- after one event more
pub more_so_far : (ks : List EventKind) (marks : List Bool) (old new : List (Vec ℕ Global)) (i : ℕ) (d : EventKind) → i < length ks → d ≡ get_or ks i d
    → ((t : ℕ) → slice_index_or marks t false ≡ is_open (summary (events_of_kinds ks)) t)
    → ((t : ℕ) → objects_in old t ≡ objects_so_far (events_of_kinds ks) (events_of_kinds (take i ks)) t)
    → MarkedRowsChange marks (λ t xs. objects_after t xs d) old new
    → (t : ℕ) → objects_in new t ≡ objects_so_far (events_of_kinds ks) (events_of_kinds (take (i + 1) ks)) t
more_so_far ks marks old new i d inside at marked were step t =
    let H : List Event = events_of_kinds ks in
    let G : List Event = events_of_kinds (take i ks) in
    let e : Event = record { worker = 0; kind = d } in
    let one : take (i + 1) ks ≡ take i ks ++ d ∷ [] = take_more ks i d inside ∙ ap (λ k. take i ks ++ k ∷ []) (sym at) in
    let more : events_of_kinds (take (i + 1) ks) ≡ G ++ e ∷ [] =
    ap events_of_kinds one ∙ map-append (λ (k : EventKind). let f : Event = record { worker = 0; kind = k } in f) (take i ks) (d ∷ []) in
    step t
    ∙ ap (λ b. if b then objects_after t (objects_in old t) d else objects_in old t) (marked t)
    ∙ ap (λ xs. if is_open (summary H) t then objects_after t xs d else xs) (were t)
    ∙ sym (so_far-next H G e t (λ going. ap (is_end_of t) at ∙ not_ended ks i t d inside going))
    ∙ ap (λ K. objects_so_far H K t) (sym more)

-- after all of them
pub all_so_far : (ks : List EventKind) (rows : List (Vec ℕ Global)) (i : ℕ) → length ks ≤ i
    → ((t : ℕ) → objects_in rows t ≡ objects_so_far (events_of_kinds ks) (events_of_kinds (take i ks)) t) → (t : ℕ) → objects_in rows t ≡ open_objects (events_of_kinds ks) t
all_so_far ks rows i past are t = are t ∙ ap (λ l. objects_so_far (events_of_kinds ks) (events_of_kinds l) t) (take_all i ks past)

-- a row that is marked is there
pub marked_there : (marks : List Bool) (t : ℕ) → slice_index_or marks t false ≡ true → t < length marks
marked_there marks t marked =
    elim (cases_Bool (nat_lt t (length marks))) [
      | inl inside ↦ ltb-true t (length marks) inside
      | inr outside ↦ absurd (false≢true (sym (get_or_past marks t false (ltb-false t (length marks) outside)) ∙ marked))
    ]

-- what a row that is read has
row_read : (rows : List (Vec ℕ Global)) (t : ℕ) (row : Vec ℕ Global) → t < length rows → row ≡ get_or rows t row → objects_in rows t ≡ row.items
row_read rows t row inside at = ap row_objects (slice_get_read rows (length rows) t row refl inside at)

-- the rows, where that of t was changed, as it may be where t is marked
pub row_changed : (marks : List Bool) (old : List (Vec ℕ Global)) (t : ℕ) (was now : Vec ℕ Global) (change : List ℕ → List ℕ) → t < length old → slice_index_or marks t false ≡ true
    → was ≡ get_or old t was → now.items ≡ change was.items
    → MarkedRowsChange marks (λ u xs. if t == u then change xs else xs) old (slice_set old t now)
row_changed marks old t was now change inside marked at is u =
    elim (cases_Bool (t == u)) [
      | inl same ↦
          let here : t ≡ u = eqb-true t u same in
          let new : objects_in (slice_set old t now) u ≡ now.items = ap (λ k. objects_in (slice_set old t now) k) (sym here) ∙ ap row_objects (found-set old t now inside) in
          let before : was.items ≡ objects_in old u = sym (row_read old t was inside at) ∙ ap (objects_in old) here in
          rw (same, ap (λ k. slice_index_or marks k false) (sym here) ∙ marked) (new ∙ is ∙ ap change before)
      | inr other ↦
          rw other (ap row_objects (found-set_other old t u now (λ same. false≢true (sym other ∙ eq-eqb t u (sym same)))) ∙ sym (either (slice_index_or marks u false) (objects_in old u)))
    ]
