use Rattle.std.proofs.Common.{◌++◌, ap, ◌∙◌}
use Rattle.journal.proofs.EventLines.{group-lines, single-line}
use Rattle.journal.proofs.event_lines.put_lines.Goals as goal

pub returns-in-Some : goal.returns-in-Some
returns-in-Some c = λ said is.
    c.in_ok-extend_from_slice.ensures.items
    ∙ ap (λ text. c.args.lines.now.items ++ text) (group-lines c.args.row.now c.args.position c.in-Some.text.now said c.in-Some.ensures.four c.in-Some.ensures.lines is)

pub returns : goal.returns
returns c = λ said is.
    c.in_ok-push_event.ensures.line
    ∙ ap (λ line. c.args.lines.now.items ++ line) (single-line c.args.row.now c.args.position c.in-Some-single_in.event said c.in-Some-single_in.ensures is)
