-- What the machine allows continues a history.
use Rattle.std.proofs.Common.{ℕ, List, map, Option, Some, None, option_map, slice_get}
use Rattle.std.proofs.lemmas.Option.{slice_get-map}
use Rattle.object_trait.specs.Object.{Object}
use Rattle.object_trait.specs.declared.event.EventKind.{EventKind}
use Rattle.object_trait.specs.declared.event.EventKind.TheVariants as kind
use Rattle.object_trait.specs.declared.event.EventKind.TheVariants.{Begin, Op, Busy, Commit, Abort, Rollback}
use Rattle.serial_order.specs.History.{Summary, IsOperation, IsOperationPlace, ContinuesHistory}
use Rattle.serial_order.specs.Machine.{MayDo, MayHaveNone, MayBeBusy, May}

-- what the machine may do is an operation of the object
does_operation : (o : Option Object) (s : Summary) (x t k : ℕ) → MayDo o s x t k → IsOperation (option_map (λ (object : Object). object.table) o) k
does_operation None s x t k may = may
does_operation (Some o) s x t k may = may.0

-- a call of which no operation is legal is named by an operation
none_of_operation : (o : Option Object) (s : Summary) (x t c : ℕ) → MayHaveNone o s x t c → IsOperationPlace (option_map (λ (object : Object). object.table) o) c
none_of_operation None s x t c may = may
none_of_operation (Some o) s x t c may = (may.0, may.1, may.2.0)

-- and so is one whose operations are blocked
busy_with_operation : (o : Option Object) (s : Summary) (x t c u : ℕ) → MayBeBusy o s x t c u → IsOperationPlace (option_map (λ (object : Object). object.table) o) c
busy_with_operation None s x t c u may = may
busy_with_operation (Some o) s x t c u may = (may.0, may.1, may.2.least.0)

-- what the machine allows continues a history
pub continues_history : (objects : List Object) (s : Summary) (happened : EventKind) → May objects s happened → ContinuesHistory (map (λ (o : Object). o.table) objects) s happened
continues_history objects s (Begin t) may = may
continues_history objects s (Op k t x) may = (may.0, rw (slice_get-map (λ (o : Object). o.table) objects x) (does_operation (slice_get objects x) s x t k may.1))
continues_history objects s (Busy c t x u) may = (may.0, rw (slice_get-map (λ (o : Object). o.table) objects x) (busy_with_operation (slice_get objects x) s x t c u may.1))
continues_history objects s (kind.None t x c) may = (may.0, rw (slice_get-map (λ (o : Object). o.table) objects x) (none_of_operation (slice_get objects x) s x t c may.1))
continues_history objects s (Commit t) may = may
continues_history objects s (Abort t) may = may
continues_history objects s (Rollback t n) may = may
