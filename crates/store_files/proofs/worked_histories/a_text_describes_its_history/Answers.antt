use Rattle.std.proofs.Common.{◌≡◌, List, [], map, sym, ap, ◌∙◌}
use Rattle.std.specs.Option.{option_to_list}
use Rattle.line_text.specs.Outcome.{fault_on}
use Rattle.line_text.specs.declared.fault.FaultKind.TheVariants.{Missing}
use Rattle.store_text.specs.Said.{entries_of}
use Rattle.store_text.specs.declared.line.Line.{Line}
use Rattle.history_text.specs.Events.{event_in_line}
use Rattle.history_text.specs.Examples.{history_lines, some_events}
use Rattle.history_text.specs.declared.event_line.EventLine.{EventLine}
use Rattle.store_files.proofs.worked_histories.a_text_describes_its_history.Goals as goal

pub returns-clause-described : goal.returns-clause-described
returns-clause-described c = λ h has.
    let says = c.lines_say_their_history.ensures in
    record {
      lines = history_lines;
      accepted = c.texts_say_their_lines.ensures.history;
      described = record { size = sym (ap option_to_list has.size_is); objects = has.objects_are ∙ sym says.objects; events = has.events_are ∙ sym says.events };
    }

-- the text has events
pub returns-clause-other : goal.returns-clause-other
returns-clause-other c = λ h has other.
    let both = sym c.texts_say_their_lines.ensures.history ∙ other.accepted in
    let same : history_lines ≡ other.lines = cc in
    let told : some_events ≡ [] = sym c.lines_say_their_history.ensures.events ∙ ap (λ (lines : List (Line EventLine)). map event_in_line (entries_of lines)) same
    ∙ sym other.described.events ∙ has.events_are in
    cc

pub returns-clause-faulty : goal.returns-clause-faulty
returns-clause-faulty c = (fault_on 12 Missing, c.faults_of_the_history.ensures.no_end)
