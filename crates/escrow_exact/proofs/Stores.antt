-- A store that refuses no end, and is serial in commit order, admits only what is safe.
use Rattle.std.proofs.Common.{◌≡◌, ℕ, true, ◌==◌, List, [], ◌∷◌, ◌++◌, Some, refl, sym, ap, ◌∙◌, inl, inr, append-nil, append_assoc}
use Rattle.std.proofs.lemmas.Bool.{cases_Bool, eqb-true, eq-eqb}
use Rattle.type_table.specs.Table.{Table}
use Rattle.type_table.specs.Run.{run}
use Rattle.type_table.proofs.Elements.{eqb-sym}
use Rattle.escrow_laws.specs.Firm.{with_op}
use Rattle.escrow_laws.specs.Safe.{Part, IsSafe}
use Rattle.object_trait.specs.declared.event.Event.{Event}
use Rattle.object_trait.specs.declared.event.EventKind.TheVariants.{Op}
use Rattle.serial_order.specs.Operations.{ops, at_object, of, serial}
use Rattle.serial_order.specs.History.{Summary, summary, is_open}
use Rattle.serial_order.specs.Serial.{serial_at}
use Rattle.serial_order.specs.declared.entry.Entry.{Entry}
use Rattle.serial_order.proofs.After.{seen_after_one}
use Rattle.serial_order.proofs.Lists.{filter-more, of-apart, of-more, ops-append, serial-apart}
use Rattle.serial_order.proofs.Pairs.{each-all}
use Rattle.serial_order.proofs.Runs.{open_is_uncommitted}
use Rattle.escrow_exact.specs.Ends.{own_in, open_own, AreEndings}
use Rattle.escrow_exact.specs.Stores.{Store, RefusesNoEnd}
use Rattle.escrow_exact.specs.Laws.{LegalEndsAreSafe, EscrowAdmitsTheSafe, StoresAdmitTheSafe, NoStoreAdmitsMore}
use Rattle.escrow_exact.proofs.Reaching.{same-done}

-- ---- one more operation

module _ (x : ℕ) (H : List Event) (w t k : ℕ) (open_now : is_open (summary H) t ≡ true) where
  abbrev more : Event
  more = record { worker = w; kind = Op k t x }

  abbrev last : Entry
  last = record { by = t; at = x; op = k }

  abbrev s : Summary
  s = summary H

  -- what survives at x
  at_x : at_object x (s.survives ++ last ∷ []) ≡ at_object x s.survives ++ last ∷ []
  at_x = filter-more (λ e. e.at == x) s.survives last (eq-eqb x x refl)

  -- commit order is the same
  pub same_order : serial_at x (H ++ more ∷ []) ≡ serial_at x H
  same_order =
      ap (λ (after : Summary). serial after.committed (at_object x after.survives)) (seen_after_one H more) ∙ ap (serial s.committed) at_x
      ∙ serial-apart s.committed (at_object x s.survives) last (open_is_uncommitted s t open_now)

  -- and t did one more
  pub own_more : (u : ℕ) → open_own x (H ++ more ∷ []) u ≡ with_op (open_own x H) t k u
  own_more u =
      ap (λ after. own_in x after u) (seen_after_one H more)
      ∙ elim (cases_Bool (u == t)) [
        | inl is ↦
            let same : u ≡ t = eqb-true u t is in
            rw (is, same, open_now, at_x, of-more t (at_object x s.survives) last (eq-eqb t t refl)) (ops-append (of t (at_object x s.survives)) (last ∷ []))
        | inr other ↦ rw (other, at_x, of-apart u (at_object x s.survives) last (eqb-sym t u ∙ other)) refl
      ]

-- ---- what is safe

-- it depends on nothing but what each did
pub safe-same : (T : Table) (base : ℕ) (own rest : ℕ → List ℕ) → ((u : ℕ) → rest u ≡ own u) → IsSafe T base own → IsSafe T base rest
safe-same T base own rest same safe = λ t ps others.
    rw (same-done own rest ps (each-all (λ (p : Part). same p.by) ps), same t) (safe t ps others)

-- ---- a store

-- it makes what ends follow
made-ends : (makes : Store) → RefusesNoEnd makes → (es H : List Event) → makes H ≡ true → AreEndings H es → makes (H ++ es) ≡ true
made-ends makes refuses [] H made ends = rw (append-nil H) made
made-ends makes refuses (e ∷ es) H made ends = rw (append_assoc H (e ∷ []) es) at (made-ends makes refuses es (H ++ e ∷ []) (refuses H e made ends.0) ends.1)

pub stores_admit_the_safe : LegalEndsAreSafe → StoresAdmitTheSafe
stores_admit_the_safe ends_safe = λ makes T x H base w t k refuses serial_order open_now committed made.
    let e : Event = record { worker = w; kind = Op k t x } in
    let G : List Event = H ++ e ∷ [] in
    let order : serial_at x G ≡ serial_at x H = same_order x H w t k open_now in
    let safe = ends_safe T x G base (ap (λ V. run T (Some T.initial) (ops V)) order ∙ committed) (λ es ends. serial_order (G ++ es) (made-ends makes refuses es G made ends)) in
    safe-same T base (open_own x G) (with_op (open_own x H) t k) (λ u. sym (own_more x H w t k open_now u)) safe

pub no_store_admits_more : EscrowAdmitsTheSafe → StoresAdmitTheSafe → NoStoreAdmitsMore
no_store_admits_more exact stores = λ makes objects H x o w t k refuses serial_order is_run there covered escrow open_now has made.
    let known = exact objects H x o t is_run there covered escrow open_now in
    (known.safe w k).1 (has, stores makes o.table x H known.base w t k refuses serial_order open_now known.committed made)
