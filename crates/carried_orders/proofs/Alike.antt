-- Operations in two orders that are alike: at each object, and of each transaction. What may come next, and changes something, is the same.
use Rattle.std.proofs.Common.{◌≡◌, ℕ, ◌-◌, ◌≤◌, true, false, not, ◌&&◌, ◌==◌, List, [], ◌∷◌, ◌++◌, filter, take, length, Option, Some, None, slice_get, refl, sym, ap, subst, ◌∙◌, ◌⊎◌, inl, inr}
use Rattle.std.specs.List.{AllByRecursion}
use Rattle.std.proofs.lemmas.Bool.{cases_Bool, eqb-true}
use Rattle.std.proofs.lemmas.List.Elements.{filter-append}
use Rattle.type_table.specs.declared.kind.Kind.{Kind}
use Rattle.type_table.specs.declared.kind.Kind.TheVariants.{Undo, Intentions, Escrow}
use Rattle.object_trait.specs.Object.{Object}
use Rattle.object_trait.specs.Strike.{keep_first}
use Rattle.object_trait.specs.declared.event.EventKind.{EventKind}
use Rattle.object_trait.specs.declared.event.EventKind.TheVariants as kind
use Rattle.object_trait.specs.declared.event.EventKind.TheVariants.{Begin, Op, Busy, Commit, Abort, Rollback}
use Rattle.serial_order.specs.Operations.{at_object, is_by, of, serial}
use Rattle.serial_order.specs.History.{Summary, is_open, survive_after}
use Rattle.serial_order.specs.View.{view, is_legal_after, stops_at}
use Rattle.serial_order.specs.Machine.{MayDo, May}
use Rattle.serial_order.specs.After.{summary_next}
use Rattle.serial_order.specs.declared.entry.Entry.{Entry}
use Rattle.serial_order.proofs.Lists.{is_one-apart}
use Rattle.serial_order.proofs.Strikes.{keep_first-part, keep_first-others, keep_first-mine}
use Rattle.type_table.proofs.Elements.{eqb-sym}
use Rattle.carried_runs.specs.OldNumbers.{named_kind}

pub record AreAlike (V W : List Entry) : Type 0 where
  pub at_each : (x : ℕ) → at_object x V ≡ at_object x W
  pub of_each : (t : ℕ) → of t V ≡ of t W

-- what is said, with the operations in another order
abbrev pub in_order : Summary → List Entry → Summary
in_order s W = record s { survives = W }

-- ---- what stays alike

alike-push : (V W : List Entry) (e : Entry) → AreAlike V W → AreAlike (V ++ e ∷ []) (W ++ e ∷ [])
alike-push V W e alike = record {
  at_each = λ x. filter-append (λ (f : Entry). f.at == x) V (e ∷ []) ∙ ap (λ U. U ++ at_object x (e ∷ [])) (alike.at_each x) ∙ sym (filter-append (λ (f : Entry). f.at == x) W (e ∷ []));
  of_each = λ t. filter-append (is_by t) V (e ∷ []) ∙ ap (λ U. U ++ of t (e ∷ [])) (alike.of_each t) ∙ sym (filter-append (is_by t) W (e ∷ []));
}

alike-strike : (V W : List Entry) (t n : ℕ) → AreAlike V W → AreAlike (keep_first (is_by t) n V) (keep_first (is_by t) n W)
alike-strike V W t n alike = record { at_each = at; of_each = own }
  where
    at : (x : ℕ) → at_object x (keep_first (is_by t) n V) ≡ at_object x (keep_first (is_by t) n W)
    at x =
        keep_first-part (λ (f : Entry). f.at == x) (is_by t) n V
        ∙ ap (λ U. keep_first (is_by t) (length (at_object x (take n U))) (at_object x V)) (alike.of_each t)
        ∙ ap (λ U. keep_first (is_by t) (length (at_object x (take n (of t W)))) U) (alike.at_each x)
        ∙ sym (keep_first-part (λ (f : Entry). f.at == x) (is_by t) n W)

    own : (u : ℕ) → of u (keep_first (is_by t) n V) ≡ of u (keep_first (is_by t) n W)
    own u =
        elim (cases_Bool (t == u)) [
          | inl same ↦
              subst (λ v. of v (keep_first (is_by t) n V) ≡ of v (keep_first (is_by t) n W)) (eqb-true t u same)
              (keep_first-mine (is_by t) n V ∙ ap (take n) (alike.of_each t) ∙ sym (keep_first-mine (is_by t) n W))
          | inr other ↦
              keep_first-others (is_by u) (is_by t) n V (λ e mine. is_one-apart e.by t u other mine)
              ∙ alike.of_each u
              ∙ sym (keep_first-others (is_by u) (is_by t) n W (λ e mine. is_one-apart e.by t u other mine))
        ]

-- after an event they are
pub alike-after : (s : Summary) (W : List Entry) (happened : EventKind) → AreAlike s.survives W → AreAlike (summary_next s happened).survives (survive_after W happened)
alike-after s W (Begin t) alike = alike
alike-after s W (Op k t x) alike = alike-push s.survives W (record { by = t; at = x; op = k }) alike
alike-after s W (Busy c t x u) alike = alike
alike-after s W (kind.None t x c) alike = alike
alike-after s W (Commit t) alike = alike
alike-after s W (Abort t) alike = alike-strike s.survives W t 0 alike
alike-after s W (Rollback t n) alike =
    subst (λ k. AreAlike (keep_first (is_by t) (length (of t s.survives) - n) s.survives) (keep_first (is_by t) k W)) (ap (λ U. length U - n) (alike.of_each t))
    (alike-strike s.survives W t (length (of t s.survives) - n) alike)

pub order-after : (s : Summary) (W : List Entry) (happened : EventKind) → summary_next (in_order s W) happened ≡ in_order (summary_next s happened) (survive_after W happened)
order-after s W (Begin t) = refl
order-after s W (Op k t x) = refl
order-after s W (Busy c t x u) = refl
order-after s W (kind.None t x c) = refl
order-after s W (Commit t) = refl
order-after s W (Abort t) = refl
order-after s W (Rollback t n) = refl

-- ---- what may come next

view-alike : (way : Kind) (s : Summary) (W : List Entry) (x t : ℕ) → AreAlike s.survives W → view way s x t ≡ view way (in_order s W) x t
view-alike Undo s W x t alike = alike.at_each x
view-alike Intentions s W x t alike = ap (λ V. serial s.committed V ++ of t V) (alike.at_each x)
view-alike Escrow s W x t alike = ap (λ V. serial s.committed V ++ of t V) (alike.at_each x)

do-alike : (r : Option Object) (s : Summary) (W : List Entry) (x t k : ℕ) → AreAlike s.survives W → MayDo r s x t k → MayDo r (in_order s W) x t k
do-alike None s W x t k alike may = may
do-alike (Some o) s W x t k alike may = (
  may.0,
  subst (λ V. is_legal_after o V k ≡ true) (view-alike o.kind s W x t alike) may.1,
  subst (λ V. AllByRecursion (λ (e : Entry). (is_open s e.by && (not (e.by == t) && stops_at o.kind o s.committed V t k e)) ≡ false) V) (alike.at_each x) may.2,
)

-- an event may come next in the other order too; or it changes nothing, and has no name
pub goes-too : (objects : List Object) (s : Summary) (W : List Entry) (g : ℕ → ℕ) (happened : EventKind) → AreAlike s.survives W → May objects s happened
    → May objects (in_order s W) happened ⊎ ((summary_next s happened ≡ s) × (named_kind g happened ≡ []))
goes-too objects s W g (Begin t) alike may = inl may
goes-too objects s W g (Op k t x) alike may = inl (may.0, do-alike (slice_get objects x) s W x t k alike may.1)
goes-too objects s W g (Busy c t x u) alike may = inr (refl, refl)
goes-too objects s W g (kind.None t x c) alike may = inr (refl, refl)
goes-too objects s W g (Commit t) alike may = inl may
goes-too objects s W g (Abort t) alike may = inl may
goes-too objects s W g (Rollback t n) alike may = inl (may.0, may.1, subst (λ V. n ≤ length V) (alike.of_each t) may.2)
