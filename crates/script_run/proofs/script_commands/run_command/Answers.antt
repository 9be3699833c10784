use Rattle.std.proofs.Common.{ap}
use Rattle.script_text.specs.Kept.{command_said}
use Rattle.store_laws.specs.Stored.{Stored}
use Rattle.script_run.specs.Turns.{by_script}
use Rattle.script_run.proofs.KeptEvents.{still-within}
use Rattle.script_run.proofs.Asked.{asked-refused, asked-accepted, accepted-line}
use Rattle.script_run.proofs.script_commands.run_command.Goals as goal

pub returns-in-Some-clause-runs : goal.returns-in-Some-clause-runs
returns-in-Some-clause-runs g c = asked-refused c.args.store.now c.ask.new.store (command_said c.args.names.now c.args.command.now) c.in-Some.refusal c.in-Some.ensures.asks c.write_refused.ensures

pub returns-in-None-clause-runs : goal.returns-in-None-clause-runs
returns-in-None-clause-runs g c =
    let s = c.args.store.now in
    let command = command_said c.args.names.now c.args.command.now in
    let its = asked-accepted c.command_appends.ensures.accepted s c.ask.new.store command c.in-None.ensures.asks in
    accepted-line s c.ask.new.store command its
    (c.write_last.ensures s.history (by_script its.happened) (ap (λ (z : Stored). z.history) its.now) (still-within s c.ask.new.store _ c.known.ensures.within its.now))
