-- How many transactions are open after one more event, who began them, and where their operations are.
use Rattle.std.proofs.Common.{◌≡◌, ℕ, zero, suc, ◌+◌, ◌-◌, ◌<◌, Bool, true, false, cond, not, ◌&&◌, ◌||◌, ◌==◌, List, [], ◌∷◌, ◌++◌, filter, length, map, slice_get, refl, sym, ap, ◌∙◌, inl, inr, append-nil, length-append, zero-add, arith, ◌≢◌}
use Rattle.std.specs.List.{range_with_len, AllByRecursion}
use Rattle.std.proofs.lemmas.Bool.{cases_Bool, eqb-true, eq-eqb, false≢true}
use Rattle.std.proofs.lemmas.Bool.Decides.{nat_tests}
use Rattle.std.proofs.lemmas.Grind.{flat_map-append}
use Rattle.std.proofs.lemmas.List.Elements.{filter-append}
use Rattle.type_table.proofs.Elements.{each-append}
use Rattle.object_trait.specs.Object.{Object}
use Rattle.object_trait.specs.declared.event.Event.{Event}
use Rattle.object_trait.specs.declared.event.EventKind.{EventKind}
use Rattle.object_trait.specs.declared.event.EventKind.TheVariants as kind
use Rattle.object_trait.specs.declared.event.EventKind.TheVariants.{Begin, Op, Busy, Commit, Abort, Rollback}
use Rattle.object_trait.proofs.Striking.{each-keep_first}
use Rattle.serial_order.specs.Operations.{is_by, of}
use Rattle.serial_order.specs.History.{Summary, summary, is_open, is_begin, begins, IsOperation, survive_after, surviving}
use Rattle.serial_order.specs.Machine.{May}
use Rattle.serial_order.specs.Replay.{open_count}
use Rattle.serial_order.specs.After.{summary_next, AreInRun, CountsTo, OpensAfter, beginner, beginners, BeginnersAfter, OperationsInRun}
use Rattle.serial_order.specs.declared.entry.Entry.{Entry}
use Rattle.serial_order.proofs.After.{open-after}
use Rattle.serial_order.proofs.Events.{surviving-snoc}
use Rattle.serial_order.proofs.ContinuesHistory.{continues_history}
use Rattle.serial_order.proofs.Runs.{in_run, of_open}

-- ---- numbers that pass a test

-- how many numbers below n pass
abbrev passing : (ℕ → Bool) → ℕ → ℕ
passing test zero = 0
passing test (suc n) = passing test n + cond (test n) 1 0

-- the numbers from a on end with the last
range-last : (a n : ℕ) → range_with_len a (suc n) ≡ range_with_len a n ++ (a + n) ∷ []
range-last a zero = ap (λ j. j ∷ []) (omega arith)
range-last a (suc n) = ap (λ rest. a ∷ rest) (range-last (a + 1) n ∙ ap (λ j. range_with_len (a + 1) n ++ j ∷ []) (omega arith))

one-or-none : (b : Bool) (n : ℕ) → length (cond b (n ∷ []) []) ≡ cond b 1 0
one-or-none true n = refl
one-or-none false n = refl

-- they are what a filter keeps
filter-passing : (test : ℕ → Bool) (n : ℕ) → length (filter test (range_with_len 0 n)) ≡ passing test n
filter-passing test zero = refl
filter-passing test (suc n) =
    ap (λ V. length (filter test V)) (range-last 0 n ∙ ap (λ j. range_with_len 0 n ++ j ∷ []) (zero-add n))
    ∙ ap length (filter-append test (range_with_len 0 n) (n ∷ []))
    ∙ length-append (filter test (range_with_len 0 n)) (cond (test n) (n ∷ []) [])
    ∙ ap (λ k. length (filter test (range_with_len 0 n)) + k) (one-or-none (test n) n)
    ∙ ap (λ k. k + cond (test n) 1 0) (filter-passing test n)

-- tests that agree below n
passing-agree : (p q : ℕ → Bool) (n : ℕ) → ((i : ℕ) → i < n → p i ≡ q i) → passing p n ≡ passing q n
passing-agree p q zero same = refl
passing-agree p q (suc n) same =
    rw (same n (omega arith), passing-agree p q n (λ i less. same i (omega (arith, less)))) refl

-- without one that passes there is one less
passing-without : (p : ℕ → Bool) (t n : ℕ) → t < n → p t ≡ true → suc (passing (λ u. not (u == t) && p u) n) ≡ passing p n
passing-without p t zero less passes = absurd (omega (arith, less))
passing-without p t (suc n) less passes =
    elim (cases_Bool (n == t)) [
      | inl is ↦
          let here = eqb-true n t is in
          let same : passing (λ u. not (u == t) && p u) n ≡ passing p n =
          passing-agree (λ u. not (u == t) && p u) p n (λ i low. rw (differs i (rw here at low)) refl) in
          rw (same, is, rw (sym here) at passes) (omega arith)
      | inr other ↦
          let known = passing-without p t n (omega (arith, less, apart other)) passes in
          rw other (omega (arith, known))
    ]
  where
    differs : (i : ℕ) → i < t → (i == t) ≡ false
    differs i low = grind (arith, nat_tests, low)

    apart : (n == t) ≡ false → n ≢ t
    apart other e = false≢true (sym other ∙ eq-eqb n t e)

-- ---- how many are open

-- after the end of an open transaction
ended-count : (s : Summary) (now : ℕ → Bool) (t : ℕ) → is_open s t ≡ true → ((u : ℕ) → now u ≡ (not (u == t) && is_open s u)) →
    suc (length (filter now (range_with_len 0 s.begun))) ≡ open_count s
ended-count s now t open_now same =
    ap suc (filter-passing now s.begun ∙ passing-agree now (λ u. not (u == t) && is_open s u) s.begun (λ i low. same i))
    ∙ passing-without (is_open s) t s.begun (of_open s t open_now).began open_now
    ∙ sym (filter-passing (is_open s) s.begun)

-- after the begin of the next one
begun-count : (s : Summary) (now : ℕ → Bool) → ((u : ℕ) → now u ≡ (u == s.begun || is_open s u)) → length (filter now (range_with_len 0 (suc s.begun))) ≡ suc (open_count s)
begun-count s now same =
    let old : passing now s.begun ≡ passing (is_open s) s.begun = passing-agree now (is_open s) s.begun (λ i low. same i ∙ rw (older i low) refl) in
    let last : now s.begun ≡ true = same s.begun ∙ rw (eq-eqb s.begun s.begun refl) refl in
    filter-passing now (suc s.begun) ∙ rw (last, old, filter-passing (is_open s) s.begun) (omega arith)
  where
    older : (i : ℕ) → i < s.begun → (i == s.begun) ≡ false
    older i low = grind (arith, nat_tests, low)

-- after any event that may come next
counts-after : (objects : List Object) (s : Summary) (happened : EventKind) → AreInRun s → May objects s happened → CountsTo happened (open_count s) (open_count (summary_next s happened))
counts-after objects s (Begin t) known may = begun-count s (is_open (summary_next s (Begin t))) (λ u. open-after objects s (Begin t) known may u ∙ ap (λ n. u == n || is_open s u) may)
counts-after objects s (Op k t x) known may = refl
counts-after objects s (Busy c t x v) known may = refl
counts-after objects s (kind.None t x c) known may = refl
counts-after objects s (Commit t) known may = ended-count s (is_open (summary_next s (Commit t))) t may (open-after objects s (Commit t) known may)
counts-after objects s (Abort t) known may = ended-count s (is_open (summary_next s (Abort t))) t may (open-after objects s (Abort t) known may)
counts-after objects s (Rollback t n) known may = refl

pub opens_after : OpensAfter
opens_after = λ objects s happened known may. (open-after objects s happened known may, counts-after objects s happened known may)

-- ---- who began each

-- as many as began
begun-by : (H : List Event) → length (beginners H) ≡ begins H
begun-by [] = refl
begun-by (e ∷ H) =
    length-append (beginner e.worker e.kind) (beginners H)
    ∙ ap (λ n. length (beginner e.worker e.kind) + n) (begun-by H)
    ∙ of_kind e.kind
  where
    of_kind : (happened : EventKind) → length (beginner e.worker happened) + begins H ≡ length (cond (is_begin happened) (e ∷ filter (λ (f : Event). is_begin f.kind) H) (filter (λ (f : Event). is_begin f.kind) H))
    of_kind (Begin t) = omega arith
    of_kind (Op k t x) = zero-add (begins H)
    of_kind (Busy c t x u) = zero-add (begins H)
    of_kind (kind.None t x c) = zero-add (begins H)
    of_kind (Commit t) = zero-add (begins H)
    of_kind (Abort t) = zero-add (begins H)
    of_kind (Rollback t n) = zero-add (begins H)

pub beginners_after : BeginnersAfter
beginners_after = λ H.
    (begun-by H, λ e. flat_map-append (λ (f : Event). beginner f.worker f.kind) H (e ∷ []) ∙ ap (λ rest. beginners H ++ rest) (append-nil (beginner e.worker e.kind)))

-- ---- where operations are

module _ (objects : List Object) where
  -- an operation of the table of an object that is there
  abbrev IsThere : Entry → Type 0
  IsThere e = IsOperation (slice_get (map (λ (o : Object). o.table) objects) e.at) e.op

  -- by each event that may come next
  there-after : (s : Summary) (happened : EventKind) → May objects s happened → AllByRecursion IsThere s.survives → AllByRecursion IsThere (survive_after s.survives happened)
  there-after s (Begin t) may known = known
  there-after s (Op k t x) may known = each-append IsThere s.survives ((record { by = t; at = x; op = k }) ∷ []) known ((continues_history objects s (Op k t x) may).1, tt)
  there-after s (Busy c t x u) may known = known
  there-after s (kind.None t x c) may known = known
  there-after s (Commit t) may known = known
  there-after s (Abort t) may known = each-keep_first IsThere (is_by t) 0 s.survives known
  there-after s (Rollback t n) may known = each-keep_first IsThere (is_by t) (length (of t s.survives) - n) s.survives known

pub operations_in_run : OperationsInRun
operations_in_run = λ objects H run.
    in_run objects (λ K. AllByRecursion (IsThere objects) (surviving K)) tt
    (λ K e on may known. rw (surviving-snoc K e) (there-after objects (summary K) e.kind may known)) H run
