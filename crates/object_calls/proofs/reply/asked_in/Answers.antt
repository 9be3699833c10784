use Rattle.std.proofs.Common.{◌≡◌, ◌≤◌, ◌/◌, length, slice_get, Some, refl, sym, subst, ap, ◌∙◌}
use Rattle.std.proofs.lemmas.Bool.{false≢true}
use Rattle.type_table.specs.Operation.{place_of}
use Rattle.number_types.specs.declared.number_call.NumberCall.TheVariants.{Value}
use Rattle.type_table.specs.Limits.{most_ops}
use Rattle.type_table.specs.Table.{Table}
use Rattle.number_types.specs.Operations.{number_table}
use Rattle.declared_types.specs.Declarations.{file_of}
use Rattle.object_calls.specs.Replies.{idle_at}
use Rattle.object_calls.proofs.LookUps.{table_inside, table_asked, called_inside, called_asked, other_inside, other_asked}
use Rattle.object_calls.proofs.reply.asked_in.Goals as goal

pub returns-in-Table : goal.returns-in-Table
returns-in-Table c =
    let m = idle_at (file_of c.args.declared.now) c.args.s in
    let is : m.checked.file.table ≡ c.in-Table.file.table = rw (← c.declaration.ensures, c.in-Table.is) refl in
    let few : length m.checked.file.table.ops ≤ most_ops = subst (λ (T : Table). length T.ops ≤ most_ops) (sym is) c.states-states.ensures.table.ops_fit in
    record { inside = table_inside m.checked.file.table c.args.call c.requires.call few; asked = table_asked m 0 c.args.call c.requires.call few }

pub returns-then-not-reads_value : goal.returns-then-not-reads_value
returns-then-not-reads_value c =
    let m = idle_at (file_of c.args.declared.now) c.args.s in
    let v = c.in-Number.number in
    let known = c.calls-calls.ensures.number in
    let is : m.checked.file.table ≡ number_table v = rw (← c.declaration.ensures, c.in-Number.is) refl in
    let other : slice_get v.calls (place_of c.args.call.first / 2) ≡ Some Value → ⊥ =
    λ value. false≢true (sym c.if-not-reads_value.true ∙ c.reads_value.ensures.1 (ap (λ place. slice_get v.calls (place / 2)) c.place.ensures.exact ∙ value)) in
    record {
      inside = other_inside m 0 v known is c.args.call c.requires.call c.number_has_table.ensures other;
      asked = other_asked m 0 v known is c.args.call c.requires.call c.number_has_table.ensures other;
    }

pub returns-else-not-reads_value : goal.returns-else-not-reads_value
returns-else-not-reads_value c =
    let m = idle_at (file_of c.args.declared.now) c.args.s in
    let v = c.in-Number.number in
    let known = c.calls-calls.ensures.number in
    let is : m.checked.file.table ≡ number_table v = rw (← c.declaration.ensures, c.in-Number.is) refl in
    record {
      inside = called_inside m 0 v known is c.args.call c.requires.call c.args.s refl c.called.result c.called.ensures;
      asked = called_asked m 0 v known is c.args.call c.requires.call c.args.s refl c.called.result c.called.ensures;
    }
