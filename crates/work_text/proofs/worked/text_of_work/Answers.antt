use Rattle.std.proofs.Common.{refl}
use Rattle.std.specs.Fmt.{digits}
use Rattle.work_text.proofs.worked.text_of_work.Goals as goal

pub returns-clause-whole : goal.returns-clause-whole
unfolding digits
returns-clause-whole c = λ audit first second yes none one. rw (yes.order_is, yes.finals_are, none, one) refl

pub returns-clause-no_audit : goal.returns-clause-no_audit
unfolding digits
returns-clause-no_audit c = λ report one. rw one refl
