use Rattle.std.proofs.Common.{◌≡◌, ℕ, Some, Ok, Err, refl, sym, ap, subst, ◌∙◌}
use Rattle.serial_order.specs.declared.refusal.Refusal.{Refusal}
use Rattle.serial_order.specs.declared.refusal.Refusal.TheVariants.{NotOpen}
use Rattle.store.specs.Calls.{Would, unnumbered}
use Rattle.library_calls.specs.Codes.{number, code_of}
use Rattle.library_calls.specs.Foreseen.{answered, refused, IsForeseenAt}
use Rattle.library_calls.specs.declared.code.Code.TheVariants.{Done}
use Rattle.library_calls.proofs.Numbered.{same_number}
use Rattle.library_calls.proofs.Told.{closed_call, closed_unnumbered}
use Rattle.library_calls.proofs.store_calls.would_op.Goals as goal

pub returns-in_default-clause-foreseen : goal.returns-in_default-clause-foreseen
returns-in_default-clause-foreseen c =
    let s = c.args.store.now in
    let closed = c.in_default.ensures.closed in
    record {
      numbered = λ name is. refused NotOpen refl (closed_call s c.args.transaction c.args.x name closed);
      other = λ none. ap (λ (r : Refusal). number (code_of (Some r))) (sym (closed_unnumbered s c.args.transaction c.args.x closed));
    }

pub returns-in-Ok-clause-foreseen : goal.returns-in-Ok-clause-foreseen
returns-in-Ok-clause-foreseen c =
    let same = same_number c.args.c c.in-Some-operation_of.c (sym c.operation_of.ensures ∙ c.in-Some-operation_of.is) in
    subst (λ (k : ℕ). IsForeseenAt c.args.store.now c.args.transaction c.args.x k (number Done) c.answer_words.result) same
    (record {
      numbered = λ name is.
          answered c.in-Ok.given refl c.answer_words.ensures
          (subst (λ (t : ℕ). Would c.args.store.now t c.args.x name (Ok c.in-Ok.given)) c.in-Some.ensures.same (c.in-Ok.ensures.answer name is));
      other = λ none. absurd (let clash = c.in-Ok.ensures.unnumbered none in cc);
    })

pub returns-in-Err-clause-foreseen : goal.returns-in-Err-clause-foreseen
returns-in-Err-clause-foreseen c =
    let same = same_number c.args.c c.in-Some-operation_of.c (sym c.operation_of.ensures ∙ c.in-Some-operation_of.is) in
    subst (λ (k : ℕ). IsForeseenAt c.args.store.now c.args.transaction c.args.x k (number c.code_of.result) c.args.answer.now) same
    (record {
      numbered = λ name is.
          refused c.in-Err.refusal (ap number c.code_of.ensures)
          (subst (λ (t : ℕ). Would c.args.store.now t c.args.x name (Err c.in-Err.refusal)) c.in-Some.ensures.same (c.in-Err.ensures.answer name is));
      other = λ none.
          let told = c.in-Err.ensures.unnumbered none in
          let why : c.in-Err.refusal ≡ unnumbered c.args.store.now c.in-Some.t c.args.x = cc in
          ap number c.code_of.ensures ∙ ap (λ (r : Refusal). number (code_of (Some r))) why
          ∙ ap (λ (t : ℕ). number (code_of (Some (unnumbered c.args.store.now t c.args.x)))) c.in-Some.ensures.same;
    })
