use Rattle.std.proofs.Common.{◌∙◌}
use Rattle.object_calls.proofs.AnswerChoice.{chosen_none, choice_within, chosen_illegal, chosen_blocked, free_answers, refused_answers}
use Rattle.object_calls.proofs.answer.choose_of.Goals as goal

pub loop-left-init : goal.loop-left-init
loop-left-init g c = chosen_none (g.R.Recovery.meaning c.args.object.now) c.args.t c.args.asked

pub admission-requires : goal.admission-requires
admission-requires g c =
    choice_within (g.R.Recovery.meaning c.args.object.now) c.args.t c.args.asked
    c.loop-left.left c.take_lowest.result c.take_lowest.new.word c.take_lowest.ensures c.loop-left.blocker c.loop-left.invariant c.beside-k.result c.beside-k.ensures c.requires

pub returns-in-Free : goal.returns-in-Free
returns-in-Free g c =
    free_answers (g.R.Recovery.meaning c.args.object.now) c.args.t c.args.asked
    c.loop-left.left c.take_lowest.result c.take_lowest.new.word c.take_lowest.ensures c.loop-left.blocker c.loop-left.invariant c.beside-k.result c.beside-k.ensures
    c.admission.result c.admission.ensures c.in-Free.is c.requires

pub loop-left-preserved-in-Blocked : goal.loop-left-preserved-in-Blocked
loop-left-preserved-in-Blocked g c =
    rw c.or-blocker.ensures
    (chosen_blocked (g.R.Recovery.meaning c.args.object.now) c.args.t c.args.asked
    c.loop-left.left c.take_lowest.result c.take_lowest.new.word c.take_lowest.ensures c.loop-left.blocker c.loop-left.invariant c.beside-k.result c.beside-k.ensures
    c.admission.result c.admission.ensures c.in-Blocked.u c.in-Blocked.is)

pub loop-left-preserved : goal.loop-left-preserved
loop-left-preserved g c =
    chosen_illegal (g.R.Recovery.meaning c.args.object.now) c.args.t c.args.asked
    c.loop-left.left c.take_lowest.result c.take_lowest.new.word c.take_lowest.ensures c.loop-left.blocker c.loop-left.invariant c.beside-k.result c.beside-k.ensures
    c.admission.result c.admission.ensures c.in-Illegal.is

pub returns : goal.returns
returns g c = λ k asks.
    c.busy_with.ensures
    ∙ refused_answers (g.R.Recovery.meaning c.args.object.now) c.args.t c.args.asked c.loop-left.left c.loop-left-test.false c.requires k asks c.loop-left.blocker c.loop-left.invariant
