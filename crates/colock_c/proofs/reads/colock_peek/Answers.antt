use Rattle.std.proofs.Common.{◌≡◌, ℕ, Some, sym, ap, subst, ◌∙◌}
use Rattle.std.proofs.lemmas.Option.{same_Some}
use Rattle.store_laws.specs.Stored.{Stored}
use Rattle.library_calls.specs.Codes.{number}
use Rattle.library_calls.specs.Holding.{store_at}
use Rattle.library_calls.specs.Reads.{IsPeekOf}
use Rattle.colock_c.proofs.reads.colock_peek.Goals as goal

pub returns-clause-peeked : goal.returns-clause-peeked
returns-clause-peeked c = λ s is.
    let held : c.args.slot.now.handle.held ≡ Some c.deref.result.now = c.in-Some.ensures.1 ∙ ap Some (sym c.deref.ensures) in
    let same : s ≡ c.stored.result.now = same_Some s c.stored.result.now (sym is ∙ ap store_at held ∙ c.stored.ensures) in
    subst (λ (n : ℕ). IsPeekOf s c.args.x c.args.name.now n c.peek-code.new.answer c.peek-code.new.commits) (sym c.number-2.ensures)
    (subst (λ (z : Stored). IsPeekOf z c.args.x c.args.name.now (number c.peek-code.result) c.peek-code.new.answer c.peek-code.new.commits) (sym same) c.peek-code.ensures.peeked)
