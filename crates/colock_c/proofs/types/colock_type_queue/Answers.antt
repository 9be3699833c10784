use Rattle.std.proofs.Common.{ℕ}
use Rattle.library_calls.specs.Families.{AreSemiqueueWords, HasNone, IsOfFamily}
use Rattle.line_text.specs.Text.{words_of}
use Rattle.table_families.specs.Queue.{QueueFits, queue}
use Rattle.colock_c.proofs.Typings.{of_family}
use Rattle.colock_c.proofs.types.colock_type_queue.Goals as goal

pub returns-clause-made : goal.returns-clause-made
returns-clause-made c = λ k empty is.
    of_family (IsOfFamily (AreSemiqueueWords c.args.elements.now c.args.capacity) (QueueFits (words_of c.args.elements.now) c.args.capacity) (queue (words_of c.args.elements.now) c.args.capacity)) (λ (n : ℕ). HasNone (AreSemiqueueWords c.args.elements.now c.args.capacity) (QueueFits (words_of c.args.elements.now) c.args.capacity) n)
    c.queue_file-made.result k c.args.fault.now c.hold_made.result c.hold_made.new.fault c.hold_made.new.slot.handle.held c.queue_file-made.ensures.made c.queue_file-made.ensures.refused (c.hold_made.ensures.made k empty is)
