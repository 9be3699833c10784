-- What is safe stays so by each end of a transaction, so commit order stays legal.
use Rattle.std.proofs.Common.{◌≡◌, ℕ, ◌-◌, Bool, true, false, not, ◌&&◌, ◌||◌, ◌==◌, nat_lt, List, [], ◌∷◌, ◌++◌, take, drop, length, Some, refl, sym, ap, ◌∙◌, subst, inl, inr, append-nil, append_assoc}
use Rattle.std.proofs.Math.Bool.{or-false}
use Rattle.std.proofs.lemmas.Bool.{cases_Bool, eqb-true, eq-eqb}
use Rattle.std.proofs.lemmas.List.{take-append-drop}
use Rattle.std.proofs.lemmas.List.Elements.{filter-append}
use Rattle.type_table.specs.Table.{Table}
use Rattle.type_table.specs.Run.{run}
use Rattle.type_table.specs.Laws.{RunsAlong, LegalEnds}
use Rattle.type_table.proofs.Elements.{eqb-sym}
use Rattle.type_table.proofs.Legal.{is_there}
use Rattle.escrow_laws.specs.Safe.{IsSafe}
use Rattle.object_trait.specs.Strike.{keep_first}
use Rattle.object_trait.specs.declared.event.Event.{Event}
use Rattle.object_trait.specs.declared.event.EventKind.{EventKind}
use Rattle.object_trait.specs.declared.event.EventKind.TheVariants as kind
use Rattle.object_trait.specs.declared.event.EventKind.TheVariants.{Begin, Op, Busy, Commit, Abort, Rollback}
use Rattle.serial_order.specs.Operations.{is_among, is_by, ops, at_object, of, serial}
use Rattle.serial_order.specs.History.{Summary, summary, is_open}
use Rattle.serial_order.specs.Serial.{serial_at}
use Rattle.serial_order.specs.After.{summary_next}
use Rattle.serial_order.specs.declared.entry.Entry.{Entry}
use Rattle.serial_order.proofs.After.{seen_after_one}
use Rattle.serial_order.proofs.Lists.{is_among-snoc, is_one-apart, ops-append, serial-snoc}
use Rattle.serial_order.proofs.Runs.{open_is_uncommitted}
use Rattle.serial_order.proofs.Strikes.{keep_first-others, keep_first-mine}
use Rattle.escrow_exact.specs.Ends.{own_in, IsEnding, AreEndings}
use Rattle.escrow_exact.specs.Laws.{SafeEndsAreLegal}
use Rattle.escrow_exact.proofs.Commits.{part-turned, serial-same, open-apart}
use Rattle.escrow_exact.proofs.Parts.{safe-struck, safe-committed}

-- commit order leads to a number, from which what open transactions did is safe
record IsSafeAt (T : Table) (x : ℕ) (s : Summary) : Type 0 where
  base : ℕ
  committed : run T (Some T.initial) (ops (serial s.committed (at_object x s.survives))) ≡ Some base
  safe : IsSafe T base (own_in x s)

-- ---- a strike

-- who isn't open did nothing
own-ended : (x : ℕ) (s : Summary) (u : ℕ) → is_open s u ≡ false → own_in x s u ≡ []
own-ended x s u ended = rw ended refl

-- t's operations are struck but for the first n, over all objects; t and all others are as open as before, or t isn't open any more
module _ (T : Table) (x t n : ℕ) (s after : Summary) (open_now : is_open s t ≡ true) (kept : after.survives ≡ keep_first (is_by t) n s.survives) (same_committed : after.committed ≡ s.committed)
    (others : (u : ℕ) → (u == t) ≡ false → is_open after u ≡ is_open s u) where
  abbrev V : List Entry
  V = s.survives

  of-other : (u : ℕ) → (u == t) ≡ false → of u (at_object x (keep_first (is_by t) n V)) ≡ of u (at_object x V)
  of-other u other =
      part-turned x u (keep_first (is_by t) n V)
      ∙ ap (at_object x) (keep_first-others (is_by u) (is_by t) n V (λ e mine. is_one-apart e.by t u (eqb-sym t u ∙ other) mine))
      ∙ sym (part-turned x u V)

  same_order : ops (serial after.committed (at_object x after.survives)) ≡ ops (serial s.committed (at_object x V))
  same_order =
      rw (same_committed, kept) (ap ops (serial-same s.committed t (at_object x (keep_first (is_by t) n V)) (at_object x V) (open_is_uncommitted s t open_now) of-other))

  -- of t's a front is left
  mine : of t (at_object x V) ≡ of t (at_object x (keep_first (is_by t) n V)) ++ at_object x (drop n (of t V))
  mine =
      part-turned x t V ∙ ap (at_object x) (sym (take-append-drop n (of t V))) ∙ filter-append (λ e. e.at == x) (take n (of t V)) (drop n (of t V))
      ∙ ap (λ W. W ++ at_object x (drop n (of t V))) (sym (part-turned x t (keep_first (is_by t) n V) ∙ ap (at_object x) (keep_first-mine (is_by t) n V)))

  own-front : (u : ℕ) → (struck : List ℕ) × (own_in x s u ≡ own_in x after u ++ struck)
  own-front u =
      elim (cases_Bool (u == t)) [
        | inl is ↦
            let same : u ≡ t = eqb-true u t is in
            elim (cases_Bool (is_open after t)) [
              | inl stays ↦ (
                ops (at_object x (drop n (of t V))),
                rw (same, open_now, stays, kept) (ap ops mine ∙ ops-append (of t (at_object x (keep_first (is_by t) n V))) (at_object x (drop n (of t V)))),
              )
              | inr ended ↦ (own_in x s u, rw (same, ended) refl)
            ]
        | inr other ↦ ([], rw (others u other, kept, of-other u other, append-nil (own_in x s u)) refl)
      ]

  safe-strike : IsSafeAt T x s → IsSafeAt T x after
  safe-strike is = record {
    base = is.base;
    committed = ap (run T (Some T.initial)) same_order ∙ is.committed;
    safe = safe-struck T is.base (own_in x s) (own_in x after) own-front is.safe;
  }

open-abort : (s : Summary) (t u : ℕ) → (u == t) ≡ false → is_open (summary_next s (Abort t)) u ≡ is_open s u
open-abort s t u other = rw (is_among-snoc s.aborted t u, eqb-sym t u, other, or-false (is_among s.aborted u)) refl

-- ---- a commit

module _ (along : RunsAlong) (ends : LegalEnds) (T : Table) (x t : ℕ) (s : Summary) (open_now : is_open s t ≡ true) (is : IsSafeAt T x s) where
  abbrev then : Summary
  then = summary_next s (Commit t)

  mine_open : own_in x s t ≡ ops (of t (at_object x s.survives))
  mine_open = rw open_now refl

  reached : (now : ℕ) × (run T (Some is.base) (own_in x s t) ≡ Some now)
  reached = ends T (Some is.base) (own_in x s t) (is.safe t [] tt)

  order : ops (serial then.committed (at_object x s.survives)) ≡ ops (serial s.committed (at_object x s.survives)) ++ own_in x s t
  order = ap ops (serial-snoc s.committed t (at_object x s.survives)) ∙ ops-append (serial s.committed (at_object x s.survives)) (of t (at_object x s.survives)) ∙ ap (λ w. ops (serial s.committed (at_object x s.survives)) ++ w) (sym mine_open)

  closed : is_open then t ≡ false
  closed = rw (is_among-snoc s.committed t t, eq-eqb t t refl) (shut (nat_lt t s.begun) (is_among s.committed t) (not (is_among s.aborted t)))
    where
      shut : (a b c : Bool) → (a && (not (b || true) && c)) ≡ false
      shut true true c = refl
      shut true false c = refl
      shut false b c = refl

  safe-commit : IsSafeAt T x then
  safe-commit = record {
    base = reached.0;
    committed = ap (run T (Some T.initial)) order ∙ along T (Some T.initial) (ops (serial s.committed (at_object x s.survives))) (own_in x s t) ∙ ap (λ found. run T found (own_in x s t)) is.committed ∙ reached.1;
    safe = safe-committed along T is.base reached.0 t (own_in x s) (own_in x then) reached.1 (own-ended x then t closed) (λ u other. rw (open-apart s t u other) refl) is.safe;
  }

-- ---- the law

module _ (along : RunsAlong) (ends : LegalEnds) (T : Table) (x : ℕ) where
  safe-end : (s : Summary) (happened : EventKind) → IsEnding s happened → IsSafeAt T x s → IsSafeAt T x (summary_next s happened)
  safe-end s (Begin t) end is = absurd end
  safe-end s (Op k t y) end is = absurd end
  safe-end s (Busy c t y u) end is = absurd end
  safe-end s (kind.None t y c) end is = absurd end
  safe-end s (Commit t) end is = safe-commit along ends T x t s end is
  safe-end s (Abort t) end is = safe-strike T x t 0 s (summary_next s (Abort t)) end refl refl (open-abort s t) is
  safe-end s (Rollback t n) end is = safe-strike T x t (length (of t s.survives) - n) s (summary_next s (Rollback t n)) end.0 refl refl (λ u other. refl) is

  safe-ends : (es H : List Event) → AreEndings H es → IsSafeAt T x (summary H) → IsSafeAt T x (summary (H ++ es))
  safe-ends [] H are is = subst (λ G. IsSafeAt T x (summary G)) (sym (append-nil H)) is
  safe-ends (e ∷ es) H are is =
      let next = subst (IsSafeAt T x) (sym (seen_after_one H e)) (safe-end (summary H) e.kind are.0 is) in
      subst (λ G. IsSafeAt T x (summary G)) (append_assoc H (e ∷ []) es) (safe-ends es (H ++ e ∷ []) are.1 next)

pub safe_ends_are_legal : RunsAlong → LegalEnds → SafeEndsAreLegal
safe_ends_are_legal along ends = λ T x H base committed safe es are.
    let at = safe-ends along ends T x es H are (record { base = base; committed = committed; safe = safe }) in
    is_there (run T (Some T.initial) (ops (serial_at x (H ++ es)))) at.base at.committed
