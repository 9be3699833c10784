use Rattle.std.proofs.Common.{ℕ, Ok, Err, refl, ap, subst}
use Rattle.serial_order.specs.declared.refusal.Refusal.TheVariants.{NotOpen}
use Rattle.store.specs.Calls.{Would}
use Rattle.library_calls.specs.Codes.{number}
use Rattle.library_calls.specs.Foreseen.{answered, refused}
use Rattle.library_calls.proofs.Told.{closed_call}
use Rattle.library_calls.proofs.store_calls.would.Goals as goal

pub returns-in_default-clause-foreseen : goal.returns-in_default-clause-foreseen
returns-in_default-clause-foreseen c = refused NotOpen refl (closed_call c.args.store.now c.args.transaction c.args.x c.args.name.now c.in_default.ensures.closed)

pub returns-in-Ok-clause-foreseen : goal.returns-in-Ok-clause-foreseen
returns-in-Ok-clause-foreseen c =
    answered c.in-Ok.given refl c.answer_words.ensures
    (subst (λ (t : ℕ). Would c.args.store.now t c.args.x c.args.name.now (Ok c.in-Ok.given)) c.in-Some.ensures.same c.in-Ok.ensures)

pub returns-in-Err-clause-foreseen : goal.returns-in-Err-clause-foreseen
returns-in-Err-clause-foreseen c =
    refused c.in-Err.refusal (ap number c.code_of.ensures)
    (subst (λ (t : ℕ). Would c.args.store.now t c.args.x c.args.name.now (Err c.in-Err.refusal)) c.in-Some.ensures.same c.in-Err.ensures)
