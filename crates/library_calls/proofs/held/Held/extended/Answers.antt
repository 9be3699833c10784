use Rattle.std.proofs.Common.{◌≡◌, Some, map, refl, sym, ap, subst, ◌∙◌}
use Rattle.std.proofs.lemmas.Option.{same_Some}
use Rattle.objects.specs.Object.{meaning_of}
use Rattle.store_laws.specs.Stored.{Stored, types_of}
use Rattle.store.specs.Renews.{Extends, RefusesExtend}
use Rattle.library_calls.specs.Codes.{number}
use Rattle.library_calls.specs.Epochs.{extended, not_extended}
use Rattle.library_calls.specs.Holding.{store_at}
use Rattle.library_calls.specs.declared.held.Held.{Held}
use Rattle.library_calls.proofs.held.Held.extended.Goals as goal

pub returns-in-Ok-clause-extends : goal.returns-in-Ok-clause-extends
returns-in-Ok-clause-extends c = λ s is.
    let same : c.in-OfStore.store ≡ s = same_Some c.in-OfStore.store s (sym (ap (λ (h : Held). store_at (Some h)) c.in-OfStore.is) ∙ is) in
    extended c.in-Ok.grown refl (subst (λ (z : Stored). Extends z (types_of (map meaning_of c.args.added.items)) c.in-Ok.grown) same c.in-Ok.ensures.extended) refl

pub returns-in-Err-clause-extends : goal.returns-in-Err-clause-extends
returns-in-Err-clause-extends c = λ s is.
    let same : c.in-OfStore.store ≡ s = same_Some c.in-OfStore.store s (sym (ap (λ (h : Held). store_at (Some h)) c.in-OfStore.is) ∙ is) in
    not_extended c.in-Err.refusal (ap number c.extend_code.ensures) (subst (λ (z : Stored). RefusesExtend z (map meaning_of c.args.added.items) c.in-Err.refusal) same c.in-Err.ensures.refused)
    (ap Some (c.in-Err.ensures.back ∙ same))
