use Rattle.std.proofs.Common.{ap, inl, inr}
use Rattle.library_calls.specs.Codes.{number}
use Rattle.library_calls.proofs.texts.declared_of.Goals as goal

pub returns-in-Err-clause-refused : goal.returns-in-Err-clause-refused
returns-in-Err-clause-refused c =
    elim c.fault_code.ensures [
      | inl memory ↦ inl memory
      | inr text ↦ inr (record { why = c.in-Err.why; such = c.in-Err.ensures; of_text = text.0; told = ap number text.1; words_are = text.2 })
    ]
