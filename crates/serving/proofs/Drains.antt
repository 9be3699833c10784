-- When a begin isn't told to wait for the end of an epoch.
use Rattle.std.proofs.Common.{◌≡◌, ◌≢◌, ◌∙◌, ℕ, ◌<◌, true, false, Option, Result, Ok, Err, length, sym, subst, arith}
use Rattle.std.proofs.lemmas.Bool.Decides.{nat_tests}
use Rattle.std.specs.Prelude.{MatchBool}
use Rattle.serial_order.specs.declared.command.Command.TheVariants as command
use Rattle.serial_order.specs.declared.refusal.Refusal.{Refusal}
use Rattle.store_laws.specs.Stored.{MayStep, Stored}
use Rattle.serving.specs.declared.answer_line.AnswerLine.{AnswerLine}
use Rattle.serving.specs.declared.answer_line.AnswerLine.TheVariants.{Draining}
use Rattle.serving.specs.declared.extension.Extension.{Extension}
use Rattle.serving.specs.Does.{DoesBegin, begin_answer, is_epoch_full}
use Rattle.serving.specs.NextEpoch.{begin_limit}

-- what a store answers to a begin isn't that
other-answer : (life : ℕ) (r : Result ℕ Refusal) → begin_answer life r ≢ Draining
other-answer life (Ok n) is = cc
other-answer life (Err refusal) is = cc

-- where all that is open goes over
pub begins-at-once : (waits : Option Extension) (most life : ℕ) (old new : Stored) (answer : AnswerLine) → length old.history < 4294967295 → DoesBegin (begin_limit true waits most) life old answer new → answer ≢ Draining
begins-at-once waits most life old new answer low does told =
    let full : is_epoch_full 4294967295 old ≡ false = grind (arith, nat_tests, low) in
    let it = subst (λ b. MatchBool b ((answer ≡ Draining) × (new ≡ old)) ((r : Result ℕ Refusal) × MayStep old 0 command.Begin r new × (answer ≡ begin_answer life r))) full does in
    other-answer life it.0 (sym it.2 ∙ told)
