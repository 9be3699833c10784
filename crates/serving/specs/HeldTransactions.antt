-- What is told of the transactions that are prepared.
use Rattle.std.specs.Prelude.{◌≡◌, List}
use Rattle.journal.specs.declared.prepared_row.Prepared.{Prepared}
use Rattle.store.specs.HeldAt.{AreHeldAt}
use Rattle.store_laws.specs.Stored.{Stored}
use Rattle.serving.specs.declared.answer_line.AnswerLine.{AnswerLine}
use Rattle.serving.specs.declared.answer_line.AnswerLine.TheVariants.{Held}
use Rattle.serving.specs.declared.answer_line.HeldTransaction.{HeldTransaction}
use Rattle.serving.specs.Several.{InTurn}

-- one of them, with the objects at which it holds operations
pub record IsToldHeld (s : Stored) (p : Prepared) (told : HeldTransaction) : Type 0 where
  pub prepared : told.prepared ≡ p
  pub objects : AreHeldAt s.history p.number told.objects.items

-- these, in their order
abbrev pub TellsHeld : AnswerLine → List Prepared → Stored → Type 0
TellsHeld (Held told) ps s = InTurn (IsToldHeld s) ps told.items
TellsHeld answer ps s = ⊥

abbrev pub DoesHeld : List Prepared → Stored → AnswerLine → Stored → Type 0
DoesHeld ps old answer new = TellsHeld answer ps old × (new ≡ old)
