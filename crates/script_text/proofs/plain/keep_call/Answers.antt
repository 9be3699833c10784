use Rattle.std.proofs.Common.{◌≡◌, List, ◌++◌, subst}
use Rattle.std.specs.Prelude.{codes}
use Rattle.serial_order.specs.declared.command.Command.{Command}
use Rattle.script_text.specs.Plain.{KeepsCommandOf}
use Rattle.script_text.proofs.PlainCommands.{KeepsCommandOf-call}
use Rattle.script_text.proofs.plain.keep_call.Goals as goal

pub returns-in-Some : goal.returns-in-Some
returns-in-Some c =
    KeepsCommandOf-call c.in_ok-t.t c.in_ok-x.x c.args.rest.now c.in_ok-t.rest.now c.in_ok-x.rest.now c.in-Some.behind.now c.args.kept.now c.put_known_call.new.self
    c.in_ok-t.ensures c.in_ok-x.ensures c.names_are_words.ensures c.in-Some.ensures

pub returns : goal.returns
returns c =
    let same : c.put_known_call.new.self ≡ c.args.kept.now = c.in_default.ensures in
    subst (λ (before : List Command). KeepsCommandOf (codes "call " ++ c.args.rest.now) c.in_ok-behind.behind.now before c.keep_new_call.new.kept) same
    (KeepsCommandOf-call c.in_ok-t.t c.in_ok-x.x c.args.rest.now c.in_ok-t.rest.now c.in_ok-x.rest.now c.in_ok-behind.behind.now c.put_known_call.new.self c.keep_new_call.new.kept
    c.in_ok-t.ensures c.in_ok-x.ensures c.names_are_words.ensures c.in_ok-behind.ensures)
