use Rattle.std.proofs.Common.{refl, sym, ap, ◌∙◌}
use Rattle.std.specs.Option.{is_some}
use Rattle.declared_types.specs.Declarations.{file_of}
use Rattle.object_calls.specs.Replies.{idle_at}
use Rattle.object_calls.proofs.AnswerSearch.{searched_none, next_within, searched_illegal, found_replies, none_replies}
use Rattle.object_calls.proofs.reply.reply_of.Goals as goal

pub loop-left-init : goal.loop-left-init
loop-left-init c = searched_none (idle_at (file_of c.args.declared.now) c.args.s) 0 c.args.asked

pub next-requires-clause-operation : goal.next-requires-clause-operation
next-requires-clause-operation c =
    next_within (idle_at (file_of c.args.declared.now) c.args.s) 0 c.args.asked
    c.loop-left.left c.take_lowest.result c.take_lowest.new.word c.take_lowest.ensures _ c.loop-left.invariant c.beside-k.result c.beside-k.ensures c.requires.inside

pub loop-left-preserved : goal.loop-left-preserved
loop-left-preserved c =
    searched_illegal (idle_at (file_of c.args.declared.now) c.args.s) 0 c.args.asked
    c.loop-left.left c.take_lowest.result c.take_lowest.new.word c.take_lowest.ensures _ c.loop-left.invariant c.beside-k.result c.beside-k.ensures
    c.is_some.result (λ yes. sym (ap is_some c.next.ensures.exact) ∙ (sym c.is_some.ensures ∙ yes), λ legal. c.is_some.ensures ∙ (ap is_some c.next.ensures.exact ∙ legal)) c.if-is_some.false

pub returns-then-is_some : goal.returns-then-is_some
returns-then-is_some c = λ k asks.
    found_replies (idle_at (file_of c.args.declared.now) c.args.s) 0 c.args.asked
    c.loop-left.left c.take_lowest.result c.take_lowest.new.word c.take_lowest.ensures _ c.loop-left.invariant c.beside-k.result c.beside-k.ensures
    (sym (ap is_some c.next.ensures.exact) ∙ (sym c.is_some.ensures ∙ c.if-is_some.true)) refl c.requires.inside k asks

pub returns : goal.returns
returns c = λ k asks.
    none_replies (idle_at (file_of c.args.declared.now) c.args.s) 0 c.args.asked
    c.loop-left.left _ c.loop-left.invariant c.loop-left-test.false c.requires.inside k asks refl
