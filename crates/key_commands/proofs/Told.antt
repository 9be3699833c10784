-- What is told of transactions that are prepared.
use Rattle.std.proofs.Common.{◌≡◌, ◌∙◌, ◌&&◌, ◌<◌, ◌≤◌, ◌+◌, ℕ, List, [], ◌∷◌, ◌++◌, length, map, take, get_or, refl, ap, ap₂, sym, subst, inl, inr}
use Rattle.std.specs.List.{AllByRecursion, flat_map}
use Rattle.std.specs.List.Sorted.{IsStrictlyIncreasing}
use Rattle.std.proofs.lemmas.Bool.{cases_Bool}
use Rattle.std.proofs.lemmas.List.{map-append, take_all, take_more}
use Rattle.type_table.proofs.Elements.{each-push}
use Rattle.object_trait.specs.declared.event.Event.{Event}
use Rattle.serial_order.specs.Operations.{is_among, of}
use Rattle.serial_order.specs.History.{is_open, summary, surviving}
use Rattle.carried_orders.specs.Merging.{worked_at}
use Rattle.store.specs.HeldAt.{AreHeldAt}
use Rattle.journal.specs.declared.prepared_row.Prepared.{Prepared}
use Rattle.key_commands.specs.declared.held_transactions.HeldTransaction.{HeldTransaction}
use Rattle.key_commands.specs.OpenObjects.{open_objects}
use Rattle.key_commands.specs.Prepared.{AreHeldTransactions, held_line, number_after_space, prepared_front}

-- the objects of what an open transaction did, each once, are those at which it holds operations
pub held_objects : (H : List Event) (t : ℕ) (xs : List ℕ) → IsStrictlyIncreasing xs → ((x : ℕ) → is_among xs x ≡ is_among (open_objects H t) x) → AreHeldAt H t xs
held_objects H t xs ascend same = record {
  ascend = ascend;
  are = λ x. same x ∙ among x;
}
  where
    among : (x : ℕ) → is_among (open_objects H t) x ≡ (is_open (summary H) t && is_among (worked_at (of t (surviving H))) x)
    among x = elim (cases_Bool (is_open (summary H) t)) [ inl going ↦ rw going refl | inr closed ↦ rw closed refl ]

-- one more is told
pub told_more : (H : List Event) (ps : List Prepared) (i : ℕ) (p : Prepared) (old new : List HeldTransaction) (held : HeldTransaction) → i < length ps → p ≡ get_or ps i p → held.prepared ≡ p
    → AreHeldAt H p.number held.objects.items → new ≡ old ++ held ∷ [] → AreHeldTransactions H (take i ps) old → AreHeldTransactions H (take (i + 1) ps) new
told_more H ps i p old new held inside at its objects is told =
    let Held : HeldTransaction → Type 0 = λ h. AreHeldAt H h.prepared.number h.objects.items in
    record {
      prepared =
          ap (map (λ (h : HeldTransaction). h.prepared)) is ∙ map-append (λ (h : HeldTransaction). h.prepared) old (held ∷ [])
          ∙ ap (λ those. those ++ held.prepared ∷ []) told.prepared ∙ ap (λ q. take i ps ++ q ∷ []) (its ∙ at) ∙ sym (take_more ps i p inside);
      objects = subst (AllByRecursion Held) (sym is) (each-push Held old held told.objects (subst (λ (q : Prepared). AreHeldAt H q.number held.objects.items) (sym its) objects));
    }

-- all are told
pub told_all : (H : List Event) (ps : List Prepared) (i : ℕ) (told : List HeldTransaction) → length ps ≤ i → AreHeldTransactions H (take i ps) told → AreHeldTransactions H ps told
told_all H ps i told past are = subst (λ those. AreHeldTransactions H those told) (take_all i ps past) are

-- the line of one with these objects
pub line_of : (held : HeldTransaction) (p : Prepared) (xs : List ℕ) → held.prepared ≡ p → held.objects.items ≡ xs → held_line held ≡ prepared_front p ++ (flat_map number_after_space xs ++ 10 ∷ [])
line_of held p xs those objects = ap₂ (λ (q : Prepared) (ys : List ℕ). prepared_front q ++ (flat_map number_after_space ys ++ 10 ∷ [])) those objects
