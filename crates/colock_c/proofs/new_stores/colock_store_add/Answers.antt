use Rattle.std.proofs.Common.{◌≡◌, ◌∙◌, ℕ, Option, Some, sym, ap, subst}
use Rattle.library_calls.specs.Codes.{number}
use Rattle.library_calls.specs.Holding.{objects_at, type_at}
use Rattle.library_calls.specs.Making.{AddsObject}
use Rattle.library_calls.specs.declared.held.Held.{Held}
use Rattle.colock_c.proofs.new_stores.colock_store_add.Goals as goal

pub returns-clause-adds : goal.returns-clause-adds
returns-clause-adds c = λ ms c' e f.
    let same : c.args.slot.now.handle.held ≡ Some c.deref_mut.result.now = c.in-Some.ensures.0 ∙ ap Some (sym c.deref_mut.ensures.value) in
    let of : c.args.of.now.handle.held ≡ Some c.deref.result.now = c.in-Some-take.ensures.0 ∙ ap Some (sym c.deref.ensures) in
    subst (λ (n : ℕ). AddsObject ms c' n c.put-3.new.self.handle.held) (sym c.number-2.ensures)
    (subst (λ (q : Option Held). AddsObject ms c' (number c.add_object-code.result) q) (sym c.put-3.ensures) (c.add_object-code.ensures.adds ms c' (ap objects_at (sym same) ∙ e) (ap type_at (sym of) ∙ f)))
