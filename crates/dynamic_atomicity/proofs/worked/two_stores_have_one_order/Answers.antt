use Rattle.std.proofs.Common.{◌≡◌, ℕ, true, false, [], ◌∷◌, refl}
use Rattle.std.proofs.lemmas.Bool.{false≢true}
use Rattle.serial_order.specs.Operations.{is_among}
use Rattle.dynamic_atomicity.specs.OrderExamples.{same_names, two_stores}
use Rattle.dynamic_atomicity.proofs.Joined.{joined_from}
use Rattle.dynamic_atomicity.proofs.worked.two_stores_have_one_order.Goals as goal

pub returns-clause-joined : goal.returns-clause-joined
returns-clause-joined c = joined_from same_names two_stores
    (none [], (none [], (none [], (none [], ((λ u is. refl), ((λ u is. refl), ((λ u is. refl), ((λ u is. refl), (none [], (none (0 ∷ []), (none (0 ∷ 1 ∷ []), (none (0 ∷ 1 ∷ []), tt))))))))))))
  where
    none : (K : _) (u : ℕ) → false ≡ true → is_among K u ≡ false
    none K u is = absurd (false≢true is)
