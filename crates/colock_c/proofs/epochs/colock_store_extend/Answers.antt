use Rattle.std.proofs.Common.{◌≡◌, ◌∙◌, ℕ, Option, Some, sym, ap, subst}
use Rattle.library_calls.specs.Codes.{number}
use Rattle.library_calls.specs.Epochs.{IsExtension}
use Rattle.library_calls.specs.Holding.{objects_at, store_at}
use Rattle.library_calls.specs.declared.held.Held.{Held}
use Rattle.colock_c.proofs.epochs.colock_store_extend.Goals as goal

pub returns-clause-extends : goal.returns-clause-extends
returns-clause-extends c = λ s ms is those.
    let same : c.args.slot.now.handle.held ≡ Some c.deref_mut.result.now = c.in-Some.ensures.0 ∙ ap Some (sym c.deref_mut.ensures.value) in
    let its : c.args.added.now.handle.held ≡ Some c.deref_mut-2.result.now = c.in-Some-take.ensures.0 ∙ ap Some (sym c.deref_mut-2.ensures.value) in
    let told = c.extend-code.ensures.extends s ms (ap store_at (sym same) ∙ is) (ap objects_at (sym its) ∙ those) in (
      subst (λ (n : ℕ). IsExtension s ms n c.put-3.new.self.handle.held) (sym c.number-2.ensures)
          (subst (λ (q : Option Held). IsExtension s ms (number c.extend-code.result) q) (sym c.put-3.ensures) told.0),
      ap objects_at c.put-2.ensures ∙ told.1,
    )
