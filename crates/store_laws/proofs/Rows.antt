-- What an event that may come next does to the rows of transactions.
use Rattle.std.proofs.Common.{◌≡◌, ℕ, ◌-◌, ◌==◌, true, false, not, ◌&&◌, ◌||◌, List, [], ◌∷◌, ◌++◌, length, map, take, Option, Some, None, is_some, slice_get, refl, sym, ap, subst, ◌∙◌, inl, inr, append-nil, arith}
use Rattle.std.proofs.lemmas.Bool.{eq-eqb}
use Rattle.std.proofs.lemmas.Bool.Decides.{nat_tests}
use Rattle.std.proofs.lemmas.List.{length-append, length-map, length-set, map-append, take-map}
use Rattle.std.proofs.lemmas.Option.{none-some, same_Some, slice_get_within}
use Rattle.type_table.proofs.Elements.{each-weaker, found-last, cases-more, cases-set, filter-none, eqb-sym}
use Rattle.object_trait.specs.declared.event.EventKind.{EventKind}
use Rattle.object_trait.specs.declared.event.EventKind.TheVariants as kind
use Rattle.object_trait.specs.declared.event.EventKind.TheVariants.{Begin, Op, Busy, Commit, Abort, Rollback}
use Rattle.object_trait.specs.Object.{Object}
use Rattle.serial_order.specs.Operations.{is_by, of}
use Rattle.serial_order.specs.History.{Summary, is_open}
use Rattle.serial_order.specs.Machine.{May}
use Rattle.serial_order.specs.After.{summary_next, AreInRun, is_open_after, beginner}
use Rattle.serial_order.specs.Held.{own_after}
use Rattle.serial_order.specs.declared.entry.Entry.{Entry}
use Rattle.open_transactions.specs.Transactions.{Row}
use Rattle.store_laws.specs.Kept.{worked_objects}
use Rattle.store_laws.specs.Moves.{at_too, without_places, IsKeptRowMoved, KeptRowsMove}
use Rattle.store_laws.proofs.Lists.{before-more}

-- ---- what a row says, by what is seen and who began each transaction

pub record IsRowOf (row : Option Row) (t : ℕ) (s : Summary) (B : List ℕ) : Type 0 where
  pub going : is_some row ≡ is_open s t
  pub worker : (r : Row) → row ≡ Some r → slice_get B t ≡ Some r.worker
  pub places : (r : Row) → row ≡ Some r → r.places ≡ worked_objects t s

pub record AreRows (rows : List (Option Row)) (s : Summary) (B : List ℕ) : Type 0 where
  pub begun : length rows ≡ s.begun
  pub each : (t : ℕ) (row : Option Row) → slice_get rows t ≡ Some row → IsRowOf row t s B

-- the row of an open transaction, of which the worker and the places are known
open-row : (r : Row) (t : ℕ) (s : Summary) (B : List ℕ) → is_open s t ≡ true → slice_get B t ≡ Some r.worker → r.places ≡ worked_objects t s → IsRowOf (Some r) t s B
open-row r t s B open_now worker places = record {
  going = sym open_now;
  worker = λ q is. worker ∙ ap (λ (o : Row). Some o.worker) (same_Some r q is);
  places = λ q is. ap (λ (o : Row). o.places) (sym (same_Some r q is)) ∙ places;
}

-- that of a transaction that isn't open
closed-row : (t : ℕ) (s : Summary) (B : List ℕ) → is_open s t ≡ false → IsRowOf None t s B
closed-row t s B closed = record {
  going = sym closed;
  worker = λ r is. absurd (none-some r is);
  places = λ r is. absurd (none-some r is);
}

-- of a transaction to which nothing happened
same-row : (row : Option Row) (t : ℕ) (s now : Summary) (B C : List ℕ) → is_open now t ≡ is_open s t → of t now.survives ≡ of t s.survives
    → ((w : ℕ) → slice_get B t ≡ Some w → slice_get C t ≡ Some w) → IsRowOf row t s B → IsRowOf row t now C
same-row row t s now B C opens own begun known = record {
  going = known.going ∙ sym opens;
  worker = λ r is. begun r.worker (known.worker r is);
  places = λ r is. known.places r is ∙ ap (map (λ (e : Entry). e.at)) (sym own);
}

-- ---- one row moved

-- where the moved row is right, and nothing happened to other transactions
rows-moved : (old new : List (Option Row)) (t : ℕ) (moved : Row → Option Row) (s now : Summary) (B : List ℕ)
    → AreRows old s B → IsKeptRowMoved old new t moved → now.begun ≡ s.begun
    → ((r : Row) → IsRowOf (Some r) t s B → IsRowOf (moved r) t now B)
    → ((u : ℕ) → (u == t) ≡ false → is_open now u ≡ is_open s u) → ((u : ℕ) → (t == u) ≡ false → of u now.survives ≡ of u s.survives)
    → AreRows new now B
rows-moved old new t moved s now B known move begun here opens own = record {
  begun = ap length move.becomes ∙ length-set old t (moved move.row) ∙ known.begun ∙ sym begun;
  each = λ u row there.
      elim (cases-set old t (moved move.row) u row (ap (λ rows. slice_get rows u) (sym move.becomes) ∙ there)) [
        | inl is ↦
            subst (λ v. IsRowOf row v now B) (sym is.0)
            (subst (λ r. IsRowOf r t now B) is.1 (here move.row (known.each t (Some move.row) move.was)))
        | inr other ↦
            same-row row u s now B B (opens u other.0) (own u (eqb-sym t u ∙ other.0)) (λ w there. there) (known.each u row other.1)
      ];
}

-- ---- each kind of event

module _ (old new : List (Option Row)) (s : Summary) (B : List ℕ) (known : AreRows old s B) where
  -- that changes nothing
  rows-same : new ≡ old → AreRows new s B
  rows-same same = subst (λ rows. AreRows rows s B) (sym same) known

  -- an operation
  rows-op : (t x k : ℕ) → is_open s t ≡ true → ((u : ℕ) → of u (summary_next s (Op k t x)).survives ≡ own_after u s (Op k t x))
      → IsKeptRowMoved old new t (λ r. Some (at_too x r)) → AreRows new (summary_next s (Op k t x)) B
  rows-op t x k open_now own move =
      rows-moved old new t (λ r. Some (at_too x r)) s (summary_next s (Op k t x)) B known move refl
      (λ r was. open-row (at_too x r) t (summary_next s (Op k t x)) B open_now (was.worker r refl) (places r (was.places r refl)))
      (λ u other. refl)
      (λ u other. own u ∙ rw other refl)
    where
      mine : of t (summary_next s (Op k t x)).survives ≡ of t s.survives ++ (record { by = t; at = x; op = k }) ∷ []
      mine = own t ∙ rw (eq-eqb t t refl) refl

      places : (r : Row) → r.places ≡ worked_objects t s → r.places ++ x ∷ [] ≡ worked_objects t (summary_next s (Op k t x))
      places r was =
          ap (λ ps. ps ++ x ∷ []) was
          ∙ sym (map-append (λ (e : Entry). e.at) (of t s.survives) ((record { by = t; at = x; op = k }) ∷ []))
          ∙ ap (map (λ (e : Entry). e.at)) (sym mine)

  -- the end of a transaction
  rows-end : (t : ℕ) (now : Summary) → now.begun ≡ s.begun → ((u : ℕ) → is_open now u ≡ (not (u == t) && is_open s u))
      → ((u : ℕ) → (t == u) ≡ false → of u now.survives ≡ of u s.survives) → IsKeptRowMoved old new t (λ r. None) → AreRows new now B
  rows-end t now begun opens own move =
      rows-moved old new t (λ r. None) s now B known move begun
      (λ r was. closed-row t now B (opens t ∙ rw (eq-eqb t t refl) refl))
      (λ u other. opens u ∙ rw other refl)
      own

  -- a rollback
  rows-rollback : (t n : ℕ) → is_open s t ≡ true → ((u : ℕ) → of u (summary_next s (Rollback t n)).survives ≡ own_after u s (Rollback t n))
      → IsKeptRowMoved old new t (λ r. Some (without_places n r)) → AreRows new (summary_next s (Rollback t n)) B
  rows-rollback t n open_now own move =
      rows-moved old new t (λ r. Some (without_places n r)) s (summary_next s (Rollback t n)) B known move refl
      (λ r was. open-row (without_places n r) t (summary_next s (Rollback t n)) B open_now (was.worker r refl) (places r (was.places r refl)))
      (λ u other. refl)
      (λ u other. own u ∙ rw other refl)
    where
      mine : of t (summary_next s (Rollback t n)).survives ≡ take (length (of t s.survives) - n) (of t s.survives)
      mine = own t ∙ rw (eq-eqb t t refl) refl

      places : (r : Row) → r.places ≡ worked_objects t s → take (length r.places - n) r.places ≡ worked_objects t (summary_next s (Rollback t n))
      places r was =
          ap (λ ps. take (length ps - n) ps) was
          ∙ ap (λ l. take (l - n) (worked_objects t s)) (length-map (of t s.survives) (λ (e : Entry). e.at))
          ∙ take-map (λ (e : Entry). e.at) (length (of t s.survives) - n) (of t s.survives)
          ∙ ap (map (λ (e : Entry). e.at)) (sym mine)

  -- a begin: the next transaction, which has no operation
  rows-begin : (w t : ℕ) → AreInRun s → length B ≡ s.begun → t ≡ s.begun → ((u : ℕ) → is_open (summary_next s (Begin t)) u ≡ (u == t || is_open s u))
      → new ≡ old ++ Some (record { worker = w; places = [] }) ∷ [] → AreRows new (summary_next s (Begin t)) (B ++ w ∷ [])
  rows-begin w t in_run workers next opens becomes = record {
    begun = let counted = ap length becomes ∙ length-append old (Some fresh ∷ []) in let were = known.begun in omega (arith, counted, were);
    each = λ u row there.
        elim (cases-more old (Some fresh) u row (ap (λ rows. slice_get rows u) (sym becomes) ∙ there)) [
          | inl was ↦
              same-row row u s (summary_next s (Begin t)) B (B ++ w ∷ []) (opens u ∙ rw (earlier u row was) refl) refl
              (λ v there. before-more B w u v there) (known.each u row was)
          | inr is ↦ subst (λ r. IsRowOf r u (summary_next s (Begin t)) (B ++ w ∷ [])) is.1 (last u (is.0 ∙ known.begun))
        ];
  }
    where
      fresh : Row
      fresh = record { worker = w; places = [] }

      earlier : (u : ℕ) (row : Option Row) → slice_get old u ≡ Some row → (u == t) ≡ false
      earlier u row was = let low = slice_get_within old u row was in let all = known.begun in grind (arith, nat_tests, low, all, next)

      none : of s.begun s.survives ≡ []
      none = filter-none (is_by s.begun) s.survives (each-weaker (λ e before. let low = before.0 in grind (arith, nat_tests, low)) s.survives in_run.survive)

      last : (u : ℕ) → u ≡ s.begun → IsRowOf (Some fresh) u (summary_next s (Begin t)) (B ++ w ∷ [])
      last u is =
          open-row fresh u (summary_next s (Begin t)) (B ++ w ∷ []) (opens u ∙ rw (eq-eqb u t (is ∙ sym next)) refl)
          (ap (λ n. slice_get (B ++ w ∷ []) n) (is ∙ sym workers) ∙ found-last B w)
          (sym (ap (λ n. map (λ (e : Entry). e.at) (of n s.survives)) is ∙ ap (map (λ (e : Entry). e.at)) none))

-- any event that may come next
pub rows-after : (objects : List Object) (old new : List (Option Row)) (s : Summary) (B : List ℕ) (w : ℕ) (happened : EventKind)
    → AreRows old s B → AreInRun s → length B ≡ s.begun → May objects s happened
    → ((u : ℕ) → is_open (summary_next s happened) u ≡ is_open_after s happened u) → ((u : ℕ) → of u (summary_next s happened).survives ≡ own_after u s happened)
    → KeptRowsMove w happened old new → AreRows new (summary_next s happened) (B ++ beginner w happened)
rows-after objects old new s B w (Begin t) known in_run workers may opens own move = rows-begin old new s B known w t in_run workers may opens move
rows-after objects old new s B w (Op k t x) known in_run workers may opens own move = rw (append-nil B) (rows-op old new s B known t x k may.0 own move)
rows-after objects old new s B w (Busy c t x u) known in_run workers may opens own move = rw (append-nil B) (rows-same old new s B known move)
rows-after objects old new s B w (kind.None t x c) known in_run workers may opens own move = rw (append-nil B) (rows-same old new s B known move)
rows-after objects old new s B w (Commit t) known in_run workers may opens own move =
    rw (append-nil B) (rows-end old new s B known t (summary_next s (Commit t)) refl opens (λ u other. refl) move)
rows-after objects old new s B w (Abort t) known in_run workers may opens own move =
    rw (append-nil B) (rows-end old new s B known t (summary_next s (Abort t)) refl opens (λ u other. own u ∙ rw other refl) move)
rows-after objects old new s B w (Rollback t n) known in_run workers may opens own move = rw (append-nil B) (rows-rollback old new s B known t n may.0 own move)
