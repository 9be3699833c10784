use Rattle.std.proofs.Common.{◌≡◌, ℕ, List, true, subst, sym}
use Rattle.transaction_key.specs.TransactionKey.{is_transaction_key}
use Rattle.command_files.proofs.Comes.{comes}
use Rattle.key_commands.proofs.Tells.{tells_same}
use Rattle.key_commands.proofs.key_outcome.tell_outcome.Goals as goal

pub told_at-requires : goal.told_at-requires
told_at-requires g c = subst (λ (w : List ℕ). is_transaction_key w ≡ true) (sym c.in-Some.ensures.found.0) c.in-Some.ensures.found.1

pub returns-in_ok-told-in-Some-clause-comes : goal.returns-in_ok-told-in-Some-clause-comes
returns-in_ok-told-in-Some-clause-comes g c =
    comes _ _ _ _ c.put_answer.result _ _
    (λ v text this. tells_same _ _ _ c.in-Some.key c.args.key.now v c.in_ok-told-in-Some.told.verdict text c.deref.result.now c.in_ok-told-in-Some.told.text.items c.in-Some.ensures.found.0 this.0 this.1 c.deref.ensures.value c.in_ok-told-in-Some.ensures.told)
    (λ none. absurd none) c.put_answer.ensures.comes
