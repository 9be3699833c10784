use Rattle.std.proofs.Common.{◌∙◌, sym}
use Rattle.database_commands.proofs.NewStores.{describes, has_events}
use Rattle.database_commands.proofs.new_store.read_objects.Goals as goal

pub returns-then-has_none-clause-read : goal.returns-then-has_none-clause-read
returns-then-has_none-clause-read g c =
    describes _ c.in_ok-history.history (sym c.deref.ensures.value ∙ c.has_none.ensures.none c.if-has_none.true) c.in_ok-history.ensures.reads

pub returns-clause-refused : goal.returns-clause-refused
returns-clause-refused g c =
    has_events _ c.in_ok-history.history (λ none. c.has_none.ensures.some c.if-has_none.false (c.deref.ensures.value ∙ none)) c.in_ok-history.ensures.reads
