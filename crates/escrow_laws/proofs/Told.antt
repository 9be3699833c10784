-- Plain bounds are those that the steps tell.
use Rattle.std.proofs.Common.{◌≡◌, ℕ, ◌+◌, ◌-◌, ◌<◌, ◌≤◌, Some, length, get_or, true, false, is_some, sym, ap, ◌∙◌, inl, inr, arith}
use Rattle.std.specs.Prelude.{slice_get}
use Rattle.std.specs.Option.{unwrap_or}
use Rattle.std.proofs.lemmas.Option.{slice_get-get_or}
use Rattle.std.proofs.lemmas.List.FromFn.{fill_by_all}
use Rattle.type_table.specs.Table.{Table, next}
use Rattle.type_table.proofs.Least.{first_below-none, first_below-found, last_below-found}
use Rattle.escrow_laws.specs.declared.bounded.Bounded.{Bounded}
use Rattle.escrow_laws.specs.Bounds.{moved, moved_by, IsWithinBounds, IsOneWay, nowhere, least_legal, greatest_legal, bounded_between, bounded_at}
use Rattle.escrow_laws.specs.Laws.{BoundsAreTold}
use Rattle.escrow_laws.proofs.Numbers.{inside_is, moved-under, moved-over, moved-nowhere}

-- what leads from `low` so far gives that, or takes it
abbrev by_end : Bounded → ℕ → Bounded
by_end b end = record { low = b.low; high = b.high; gives = end - b.low; takes = b.low - end }

gives-told : (b : Bounded) → IsOneWay b → b.takes ≤ b.low → (b.low + b.gives - b.takes) - b.low ≡ b.gives
gives-told b plain enough = elim plain.one_way [
  | inl none ↦ omega (arith, none, enough)
  | inr none ↦ omega (arith, none, enough)
]

takes-told : (b : Bounded) → IsOneWay b → b.takes ≤ b.low → b.low - (b.low + b.gives - b.takes) ≡ b.takes
takes-told b plain enough = elim plain.one_way [
  | inl none ↦ omega (arith, none, enough)
  | inr none ↦ omega (arith, none, enough)
]

end-told : (b : Bounded) → IsOneWay b → b.takes ≤ b.low → by_end b (b.low + b.gives - b.takes) ≡ b
end-told b plain enough =
    let gives = gives-told b plain enough in
    let takes = takes-told b plain enough in
    λ i. record { low = b.low; high = b.high; gives = gives i; takes = takes i }

-- the bounds that the steps of one operation tell, which is legal somewhere
one_way-told : (T : Table) (k : ℕ) (b : Bounded) → ((s : ℕ) → next T s k ≡ moved b s) → IsOneWay b → b.takes ≤ b.low → b.high < T.states → bounded_at T k ≡ b
one_way-told T k b steps plain enough below =
    ap (λ low. bounded_between T k low (greatest_legal T k)) least ∙ ap (bounded_between T k (Some b.low)) greatest
    ∙ ap (λ step. by_end b (unwrap_or step b.low)) (steps b.low ∙ inside_is b b.low (omega arith) some) ∙ end-told b plain enough
  where
    some : b.low ≤ b.high
    some = plain.somewhere

    legal : (s : ℕ) → b.low ≤ s → s ≤ b.high → is_some (next T s k) ≡ true
    legal s low high = ap is_some (steps s ∙ inside_is b s low high)

    under : (s : ℕ) → s < b.low → is_some (next T s k) ≡ false
    under s before = ap is_some (steps s ∙ moved-under b s before)

    over : (s : ℕ) → b.high < s → is_some (next T s k) ≡ false
    over s behind = ap is_some (steps s ∙ moved-over b s behind)

    least : least_legal T k ≡ Some b.low
    least =
        first_below-found (λ s. is_some (next T s k)) b.low T.states (first_below-none (λ s. is_some (next T s k)) b.low (λ s before. under s before))
        (legal b.low (omega arith) some) (omega (arith, some, below))

    greatest : greatest_legal T k ≡ Some b.high
    greatest = last_below-found (λ s. is_some (next T s k)) b.high T.states (legal b.high some (omega arith)) below (λ s behind inside. over s behind)

-- and the bounds that the steps of such an operation tell
nowhere-told : (T : Table) (k : ℕ) → ((s : ℕ) → next T s k ≡ moved nowhere s) → bounded_at T k ≡ nowhere
nowhere-told T k steps =
    ap (λ low. bounded_between T k low (greatest_legal T k)) (first_below-none (λ s. is_some (next T s k)) T.states (λ s below. ap is_some (steps s ∙ moved-nowhere s)))

pub bounds_told : BoundsAreTold
bounds_told = λ T ops some count plain bounds.
    let none : Bounded = record { low = 0; high = 0; gives = 0; takes = 0 } in
    sym (fill_by_all (bounded_at T) ops (length T.ops) none (sym count) (λ k below.
    let b : Bounded = get_or ops k none in
    let found : slice_get ops k ≡ Some b = slice_get-get_or ops k none (omega (arith, below, count)) in
    let fits : IsWithinBounds (T.states - 1) b = bounds.within k b found in
    let steps : (s : ℕ) → next T s k ≡ moved b s = λ s. bounds.steps s k ∙ ap (λ o. moved_by o s) found in
    sym (elim (plain k b found) [
      | inl way ↦
          let enough = fits.enough in
          let last = fits.legal in
          one_way-told T k b steps way enough (omega (arith, last, some))
      | inr none ↦ nowhere-told T k (λ s. steps s ∙ ap (λ c. moved c s) none) ∙ sym none
    ])))
