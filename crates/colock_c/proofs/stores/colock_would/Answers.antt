use Rattle.std.proofs.Common.{◌≡◌, ℕ, Some, sym, ap, subst, ◌∙◌}
use Rattle.std.proofs.lemmas.Option.{same_Some}
use Rattle.store_laws.specs.Stored.{Stored}
use Rattle.library_calls.specs.Codes.{number}
use Rattle.library_calls.specs.Foreseen.{IsForeseen}
use Rattle.library_calls.specs.Holding.{store_at}
use Rattle.colock_c.proofs.stores.colock_would.Goals as goal

pub returns-clause-foreseen : goal.returns-clause-foreseen
returns-clause-foreseen c = λ s is.
    let held : c.args.slot.now.handle.held ≡ Some c.deref.result.now = c.in-Some.ensures.1 ∙ ap Some (sym c.deref.ensures) in
    let same : s ≡ c.stored.result.now = same_Some s c.stored.result.now (sym is ∙ ap store_at held ∙ c.stored.ensures) in
    subst (λ (n : ℕ). IsForeseen s c.args.transaction c.args.x c.args.name.now n c.would-code.new.answer) (sym c.number-2.ensures)
    (subst (λ (z : Stored). IsForeseen z c.args.transaction c.args.x c.args.name.now (number c.would-code.result) c.would-code.new.answer) (sym same) c.would-code.ensures.foreseen)
