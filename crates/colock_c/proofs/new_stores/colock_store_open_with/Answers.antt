use Rattle.std.proofs.Common.{◌≡◌, ◌∙◌, ℕ, Option, Some, sym, ap, subst}
use Rattle.library_calls.specs.Codes.{number}
use Rattle.library_calls.specs.Holding.{objects_at}
use Rattle.library_calls.specs.Making.{MakesStore, limits_of}
use Rattle.library_calls.specs.declared.held.Held.{Held}
use Rattle.colock_c.proofs.new_stores.colock_store_open_with.Goals as goal

pub returns-clause-makes : goal.returns-clause-makes
returns-clause-makes c = λ ms e.
    let same : c.args.slot.now.handle.held ≡ Some c.deref_mut.result.now = c.in-Some.ensures.0 ∙ ap Some (sym c.deref_mut.ensures.value) in
    subst (λ (n : ℕ). MakesStore ms (limits_of c.args.events c.args.«open» c.args.objects) n c.put.new.self.handle.held) (sym c.number-2.ensures)
    (subst (λ (q : Option Held). MakesStore ms (limits_of c.args.events c.args.«open» c.args.objects) (number c.make-code.result) q) (sym c.put.ensures) (c.make-code.ensures.makes ms (ap objects_at (sym same) ∙ e)))
