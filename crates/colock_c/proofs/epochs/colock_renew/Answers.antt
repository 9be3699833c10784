use Rattle.std.proofs.Common.{◌≡◌, ◌∙◌, ℕ, Option, Some, sym, ap, subst}
use Rattle.library_calls.specs.Codes.{number}
use Rattle.library_calls.specs.Epochs.{IsRenewal}
use Rattle.library_calls.specs.Holding.{store_at}
use Rattle.library_calls.specs.declared.held.Held.{Held}
use Rattle.colock_c.proofs.epochs.colock_renew.Goals as goal

pub returns-clause-renews : goal.returns-clause-renews
returns-clause-renews c = λ s is.
    let same : c.args.slot.now.handle.held ≡ Some c.deref_mut.result.now = c.in-Some.ensures.0 ∙ ap Some (sym c.deref_mut.ensures.value) in
    subst (λ (n : ℕ). IsRenewal s n c.put.new.self.handle.held) (sym c.number-2.ensures)
    (subst (λ (q : Option Held). IsRenewal s (number c.renew-code.result) q) (sym c.put.ensures) (c.renew-code.ensures.renews s (ap store_at (sym same) ∙ is)))
