use Rattle.std.proofs.Common.{ℕ, Some, slice_get, subst, ap, ◌∙◌}
use Rattle.type_table.specs.Table.{call_of}
use Rattle.store_laws.specs.Stored.{objects}
use Rattle.store.specs.Calls.{ComesIf}
use Rattle.store.proofs.OneAnswer.{calls-if, if-ok, if-err}
use Rattle.store.proofs.Known.{numbered-there}
use Rattle.store.proofs.store.Store.call_if.Goals as goal

pub returns-clause-step : goal.returns-clause-step
returns-clause-step g c =
    let s = c.args.self.now in
    let its = c.in_ok-call.ensures.call in
    let Comes : ℕ → Type 0 = λ n. ComesIf s c.args.w c.args.t c.args.x n c.args.answer c.answer_if.result c.answer_if.new.self in
    λ name is.
    calls-if s c.answer_if.new.self c.args.w c.args.t c.args.x c.args.c name its.1.0 its.1.1 c.in_ok-call.ensures.still_open is c.args.answer c.answer_if.result
    (subst Comes its.0 (rw c.of.ensures at c.answer_if.ensures))

pub returns-clause-unnumbered : goal.returns-clause-unnumbered
returns-clause-unnumbered g c =
    let its = c.in_ok-call.ensures.call in
    let call = c.in_ok-call.call in
    let named = numbered-there (slice_get (objects c.args.self.now) c.args.x) its.1.0 its.1.1 call its.1.2 in
    λ none. absurd (none (call_of its.1.0.table call.first) (named ∙ ap (λ n. Some n) its.0))

pub returns-clause-named : goal.returns-clause-named
returns-clause-named g c =
    let its = c.in_ok-call.ensures.call in
    let call = c.in_ok-call.call in
    let named = numbered-there (slice_get (objects c.args.self.now) c.args.x) its.1.0 its.1.1 call its.1.2 in
    if-ok c.answer_if.result (call_of its.1.0.table call.first, named ∙ ap (λ n. Some n) its.0)

pub returns-clause-err : goal.returns-clause-err
returns-clause-err g c =
    if-err c.args.self.now c.answer_if.new.self c.args.w c.args.t c.args.x c.in_ok-call.call.first c.args.answer c.answer_if.result (rw c.of.ensures at c.answer_if.ensures)
