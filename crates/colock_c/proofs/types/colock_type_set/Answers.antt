use Rattle.std.proofs.Common.{ℕ}
use Rattle.library_calls.specs.Families.{AreSetWords, HasNone, IsOfFamily}
use Rattle.line_text.specs.Text.{words_of}
use Rattle.table_families.specs.Set.{SetFits, set}
use Rattle.colock_c.proofs.Typings.{of_family}
use Rattle.colock_c.proofs.types.colock_type_set.Goals as goal

pub returns-clause-made : goal.returns-clause-made
returns-clause-made c = λ k empty is.
    of_family (IsOfFamily (AreSetWords c.args.elements.now) (SetFits (words_of c.args.elements.now)) (set (words_of c.args.elements.now))) (λ (n : ℕ). HasNone (AreSetWords c.args.elements.now) (SetFits (words_of c.args.elements.now)) n)
    c.set_file-made.result k c.args.fault.now c.hold_made.result c.hold_made.new.fault c.hold_made.new.slot.handle.held c.set_file-made.ensures.made c.set_file-made.ensures.refused (c.hold_made.ensures.made k empty is)
