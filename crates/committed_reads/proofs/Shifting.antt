-- A history with one more transaction, after which the others have other numbers: what it says.
use Rattle.std.proofs.Common.{◌≡◌, ℕ, suc, ◌-◌, ◌<◌, ◌≤◌, true, false, ◌||◌, ◌==◌, nat_lt, List, [], ◌∷◌, ◌++◌, map, length, refl, sym, ap, ◌∙◌, inl, inr, append_assoc, arith, lt-ltb}
use Rattle.std.specs.List.{AllByRecursion}
use Rattle.std.proofs.lemmas.Bool.{cases_Bool, cases_lt, le-ltb, eq-eqb, or_right}
use Rattle.std.proofs.lemmas.Bool.Decides.{nat_tests}
use Rattle.std.proofs.lemmas.List.{map-append, length-map, take-map}
use Rattle.std.proofs.lemmas.List.Folds.{list_any-append}
use Rattle.type_table.specs.Table.{Table}
use Rattle.type_table.proofs.Elements.{eqb-sym}
use Rattle.object_trait.specs.declared.event.EventKind.{EventKind}
use Rattle.object_trait.specs.declared.event.EventKind.TheVariants as kind
use Rattle.object_trait.specs.declared.event.EventKind.TheVariants.{Begin, Op, Busy, Commit, Abort, Rollback}
use Rattle.serial_order.specs.Operations.{is_among, of}
use Rattle.serial_order.specs.History.{Summary, is_open, ContinuesHistory}
use Rattle.serial_order.specs.After.{summary_next}
use Rattle.serial_order.specs.Held.{own_after}
use Rattle.serial_order.specs.declared.entry.Entry.{Entry}
use Rattle.serial_order.proofs.Held.{own_after_one}
use Rattle.committed_reads.specs.Readers.{shifted, shifted_kind}

-- ---- numbers

-- those below r stay
pub shifted-below : (r t : ℕ) → t < r → shifted r t ≡ t
shifted-below r t below = rw (lt-ltb t r below) refl

-- the others move up by one
pub shifted-above : (r t : ℕ) → r ≤ t → shifted r t ≡ suc t
shifted-above r t above = rw (le-ltb t r above) refl

-- none is r
pub shifted-apart : (r t : ℕ) → (shifted r t == r) ≡ false
shifted-apart r t =
    elim (cases_lt t r) [
      | inl below ↦ rw (shifted-below r t below) (grind (arith, nat_tests, below))
      | inr above ↦ rw (shifted-above r t above) (grind (arith, nat_tests, above))
    ]

-- two are one where they were
pub shifted-one : (r t u : ℕ) → (shifted r t == shifted r u) ≡ (t == u)
shifted-one r t u =
    elim (cases_lt t r) [
      | inl below ↦ elim (cases_lt u r) [
        | inl too ↦ rw (shifted-below r t below, shifted-below r u too) refl
        | inr above ↦ rw (shifted-below r t below, shifted-above r u above) (grind (arith, nat_tests, below, above))
      ]
      | inr above ↦ elim (cases_lt u r) [
        | inl below ↦ rw (shifted-above r t above, shifted-below r u below) (grind (arith, nat_tests, below, above))
        | inr too ↦ rw (shifted-above r t above, shifted-above r u too) (grind (arith, nat_tests))
      ]
    ]

-- the operation, of its transaction's number
abbrev pub moved : ℕ → Entry → Entry
moved r e = record { by = shifted r e.by; at = e.at; op = e.op }

-- one of an earlier transaction is as it was
pub moved-same : (r : ℕ) (V : List Entry) → AllByRecursion (λ e. e.by < r) V → map (moved r) V ≡ V
moved-same r [] below = refl
moved-same r (e ∷ V) below =
    let same : moved r e ≡ e = ap (λ n. record { by = n; at = e.at; op = e.op }) (shifted-below r e.by below.0) in
    rw same (ap (λ rest. e ∷ rest) (moved-same r V below.1))

-- numbers that are less are as they were
pub map-below : (r : ℕ) (C : List ℕ) → ((t : ℕ) → is_among C t ≡ true → t < r) → map (shifted r) C ≡ C
map-below r [] below = refl
map-below r (t ∷ C) below =
    rw (shifted-below r t (below t (rw (eq-eqb t t refl) refl))) (ap (λ rest. t ∷ rest) (map-below r C (λ u inside. below u (or_right (t == u) (is_among C u) inside))))

-- t is among these where its number is among theirs
pub among-shifted : (r : ℕ) (C : List ℕ) (t : ℕ) → is_among (map (shifted r) C) (shifted r t) ≡ is_among C t
among-shifted r [] t = refl
among-shifted r (u ∷ C) t = rw (shifted-one r u t, among-shifted r C t) refl

-- r is none of them
pub among-apart : (r : ℕ) (C : List ℕ) → is_among (map (shifted r) C) r ≡ false
among-apart r [] = refl
among-apart r (u ∷ C) = rw (shifted-apart r u) (among-apart r C)

-- of t, by its number
pub of-moved : (r t : ℕ) (V : List Entry) → of (shifted r t) (map (moved r) V) ≡ map (moved r) (of t V)
of-moved r t [] = refl
of-moved r t (e ∷ V) =
    elim (cases_Bool (e.by == t)) [
      | inl mine ↦ rw (shifted-one r e.by t, mine) (ap (λ rest. moved r e ∷ rest) (of-moved r t V))
      | inr other ↦ rw (shifted-one r e.by t, other) (of-moved r t V)
    ]

-- ---- what a history says with the reader

-- s is what a history says, after the commits C and others; new is what it says with transaction r, that did R and committed after C
pub record IsWith (r : ℕ) (R : List Entry) (C : List ℕ) (s new : Summary) : Type 0 where
  pub later : r ≤ s.begun
  pub begun : new.begun ≡ suc s.begun
  pub rest : List ℕ
  pub committed : s.committed ≡ C ++ rest
  pub now : new.committed ≡ map (shifted r) C ++ r ∷ map (shifted r) rest
  pub aborted : new.aborted ≡ map (shifted r) s.aborted
  pub own : (t : ℕ) → of (shifted r t) new.survives ≡ map (moved r) (of t s.survives)
  pub reads : of r new.survives ≡ R

module _ (r : ℕ) (R : List Entry) (C : List ℕ) (s new : Summary) (known : IsWith r R C s new) where
  -- who committed
  with-committed : (t : ℕ) → is_among new.committed (shifted r t) ≡ is_among s.committed t
  with-committed t =
      ap (λ D. is_among D (shifted r t)) known.now
      ∙ list_any-append (λ u. u == shifted r t) (map (shifted r) C) (r ∷ map (shifted r) known.rest)
      ∙ parts
      ∙ sym (list_any-append (λ u. u == t) C known.rest) ∙ ap (λ D. is_among D t) (sym known.committed)
    where
      parts : (is_among (map (shifted r) C) (shifted r t) || (r == shifted r t || is_among (map (shifted r) known.rest) (shifted r t))) ≡ (is_among C t || is_among known.rest t)
      parts = rw (among-shifted r C t, among-shifted r known.rest t, eqb-sym r (shifted r t), shifted-apart r t) refl

  with-begun : (t : ℕ) → nat_lt (shifted r t) new.begun ≡ nat_lt t s.begun
  with-begun t =
      elim (cases_lt t r) [
        | inl below ↦ rw (shifted-below r t below, known.begun) (let low = known.later in grind (arith, nat_tests, below, low))
        | inr above ↦ rw (shifted-above r t above, known.begun) (grind (arith, nat_tests))
      ]

  -- who is open
  pub with-open : (t : ℕ) → is_open new (shifted r t) ≡ is_open s t
  with-open t = rw (with-begun t, with-committed t, known.aborted, among-shifted r s.aborted t) refl

  -- an event that may come next in the one may come next in the other
  pub with-continues : (tables : List Table) (happened : EventKind) → ContinuesHistory tables s happened → ContinuesHistory tables new (shifted_kind r happened)
  with-continues tables (Begin t) may = let low = known.later in shifted-above r t (omega (arith, may, low)) ∙ ap suc may ∙ sym known.begun
  with-continues tables (Op k t x) may = (with-open t ∙ may.0, may.1)
  with-continues tables (Busy c t x u) may = (with-open t ∙ may.0, may.1)
  with-continues tables (kind.None t x c) may = (with-open t ∙ may.0, may.1)
  with-continues tables (Commit t) may = with-open t ∙ may
  with-continues tables (Abort t) may = with-open t ∙ may
  with-continues tables (Rollback t n) may = (with-open t ∙ may.0, may.1, rw (known.own t, length-map (of t s.survives) (moved r)) may.2)

  -- what one transaction did after it
  with-own : (happened : EventKind) (t : ℕ) → own_after (shifted r t) new (shifted_kind r happened) ≡ map (moved r) (own_after t s happened)
  with-own (Begin u) t = known.own t
  with-own (Op k u y) t =
      elim (cases_Bool (u == t)) [
        | inl mine ↦ rw (shifted-one r u t, mine, known.own t) (sym (map-append (moved r) (of t s.survives) ((record { by = u; at = y; op = k }) ∷ [])))
        | inr other ↦ rw (shifted-one r u t, other) (known.own t)
      ]
  with-own (Busy c u y v) t = known.own t
  with-own (kind.None u y c) t = known.own t
  with-own (Commit u) t = known.own t
  with-own (Abort u) t =
      elim (cases_Bool (u == t)) [
        | inl mine ↦ rw (shifted-one r u t, mine) refl
        | inr other ↦ rw (shifted-one r u t, other) (known.own t)
      ]
  with-own (Rollback u n) t =
      elim (cases_Bool (u == t)) [
        | inl mine ↦ rw (shifted-one r u t, mine, known.own t, length-map (of t s.survives) (moved r)) (take-map (moved r) (length (of t s.survives) - n) (of t s.survives))
        | inr other ↦ rw (shifted-one r u t, other) (known.own t)
      ]

  -- and the reader
  with-reads : (happened : EventKind) → own_after r new (shifted_kind r happened) ≡ of r new.survives
  with-reads (Begin u) = refl
  with-reads (Op k u y) = rw (shifted-apart r u) refl
  with-reads (Busy c u y v) = refl
  with-reads (kind.None u y c) = refl
  with-reads (Commit u) = refl
  with-reads (Abort u) = rw (shifted-apart r u) refl
  with-reads (Rollback u n) = rw (shifted-apart r u) refl

  -- what changes where nobody begins or ends
  with-still : (happened : EventKind) (next now : Summary) → next.begun ≡ s.begun → next.committed ≡ s.committed → next.aborted ≡ s.aborted
      → now.begun ≡ new.begun → now.committed ≡ new.committed → now.aborted ≡ new.aborted
      → ((t : ℕ) → of (shifted r t) now.survives ≡ map (moved r) (of t next.survives)) → of r now.survives ≡ R → IsWith r R C next now
  with-still happened next now b c a nb nc na own reads = record {
    later = rw b known.later;
    begun = nb ∙ known.begun ∙ ap suc (sym b);
    rest = known.rest;
    committed = c ∙ known.committed;
    now = nc ∙ known.now;
    aborted = na ∙ known.aborted ∙ ap (map (shifted r)) (sym a);
    own = own;
    reads = reads;
  }

  own-next : (happened : EventKind) (t : ℕ) → of (shifted r t) (summary_next new (shifted_kind r happened)).survives ≡ map (moved r) (of t (summary_next s happened).survives)
  own-next happened t = own_after_one new (shifted_kind r happened) (shifted r t) ∙ with-own happened t ∙ ap (map (moved r)) (sym (own_after_one s happened t))

  reads-next : (happened : EventKind) → of r (summary_next new (shifted_kind r happened)).survives ≡ R
  reads-next happened = own_after_one new (shifted_kind r happened) r ∙ with-reads happened ∙ known.reads

  -- it is so after the event
  pub with-next : (happened : EventKind) → IsWith r R C (summary_next s happened) (summary_next new (shifted_kind r happened))
  with-next (Begin t) = record {
    later = let low = known.later in omega (arith, low);
    begun = ap suc known.begun;
    rest = known.rest;
    committed = known.committed;
    now = known.now;
    aborted = known.aborted;
    own = own-next (Begin t);
    reads = reads-next (Begin t);
  }
  with-next (Op k t x) = with-still (Op k t x) _ _ refl refl refl refl refl refl (own-next (Op k t x)) (reads-next (Op k t x))
  with-next (Busy c t x u) = known
  with-next (kind.None t x c) = known
  with-next (Commit t) = record {
    later = known.later;
    begun = known.begun;
    rest = known.rest ++ t ∷ [];
    committed = ap (λ D. D ++ t ∷ []) known.committed ∙ append_assoc C known.rest (t ∷ []);
    now = ap (λ D. D ++ shifted r t ∷ []) known.now ∙ append_assoc (map (shifted r) C) (r ∷ map (shifted r) known.rest) (shifted r t ∷ [])
        ∙ ap (λ D. map (shifted r) C ++ r ∷ D) (sym (map-append (shifted r) known.rest (t ∷ [])));
    aborted = known.aborted;
    own = own-next (Commit t);
    reads = reads-next (Commit t);
  }
  with-next (Abort t) = record {
    later = known.later;
    begun = known.begun;
    rest = known.rest;
    committed = known.committed;
    now = known.now;
    aborted = ap (λ D. D ++ shifted r t ∷ []) known.aborted ∙ sym (map-append (shifted r) s.aborted (t ∷ []));
    own = own-next (Abort t);
    reads = reads-next (Abort t);
  }
  with-next (Rollback t n) = with-still (Rollback t n) _ _ refl refl refl refl refl refl (own-next (Rollback t n)) (reads-next (Rollback t n))
