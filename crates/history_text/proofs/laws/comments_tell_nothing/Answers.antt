use Rattle.std.proofs.Common.{◌≡◌, filter, Ok, subst}
use Rattle.line_text.specs.Comments.{lines_text, tells}
use Rattle.line_text.specs.Outcome.{outcome_of}
use Rattle.store_text.specs.Body.{rules_for, store_rules}
use Rattle.history_text.specs.Events.{history_body}
use Rattle.history_text.proofs.Skipped.{size_skipped}
use Rattle.history_text.proofs.laws.comments_tell_nothing.Goals as goal

pub returns : goal.returns
returns c = λ lines items may read.
    let told = lines_text (filter tells lines) in
    c.comments_are_skipped.ensures (rules_for history_body (lines_text lines)) lines items may
    (subst (λ size. outcome_of (store_rules history_body size) told ≡ Ok items) (size_skipped lines may) read)
