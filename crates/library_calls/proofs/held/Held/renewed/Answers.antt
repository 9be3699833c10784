use Rattle.std.proofs.Common.{◌≡◌, Some, refl, sym, ap, subst, ◌∙◌}
use Rattle.std.proofs.lemmas.Option.{same_Some}
use Rattle.store_laws.specs.Stored.{Stored}
use Rattle.store.specs.CarriesAll.{RenewsAll, StaysBehind}
use Rattle.library_calls.specs.Codes.{number}
use Rattle.library_calls.specs.Epochs.{renewed, not_renewed}
use Rattle.library_calls.specs.Holding.{store_at}
use Rattle.library_calls.specs.declared.held.Held.{Held}
use Rattle.library_calls.proofs.held.Held.renewed.Goals as goal

pub returns-in-Ok-clause-renews : goal.returns-in-Ok-clause-renews
returns-in-Ok-clause-renews c = λ s is.
    let same : c.in-OfStore.store ≡ s = same_Some c.in-OfStore.store s (sym (ap (λ (h : Held). store_at (Some h)) c.in-OfStore.is) ∙ is) in
    renewed c.in-Ok.anew refl (subst (λ (z : Stored). RenewsAll z c.in-Ok.anew) same c.in-Ok.ensures.over) refl

pub returns-in-Err-clause-renews : goal.returns-in-Err-clause-renews
returns-in-Err-clause-renews c = λ s is.
    let same : c.in-OfStore.store ≡ s = same_Some c.in-OfStore.store s (sym (ap (λ (h : Held). store_at (Some h)) c.in-OfStore.is) ∙ is) in
    not_renewed c.in-Err.refusal (ap number c.renew_code.ensures) (subst (λ (z : Stored). StaysBehind z c.in-Err.refusal) same c.in-Err.ensures.refused)
    (ap Some (c.in-Err.ensures.back ∙ same))
