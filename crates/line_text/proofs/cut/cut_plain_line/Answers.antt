use Rattle.std.proofs.Common.{map, sym, arith}
use Rattle.line_text.proofs.Cutting.{HasCut-more, IsCut-from}
use Rattle.line_text.proofs.cut.cut_plain_line.Goals as goal

pub loop-rest-preserved : goal.loop-rest-preserved
loop-rest-preserved c =
    HasCut-more c.args.text.now c.loop-rest.rest.now c.in-Some.taken.word.now c.in-Some.taken.behind.now (map (λ w. w.now) c.loop-rest.words.items) (map (λ w. w.now) c.push_word.new.words.items) c.in-Some.taken.stop c.loop-rest.invariant c.in-Some.ensures.cut c.in-Some.ensures.word c.in_ok-push_word.ensures c.in-32.is

pub returns-in-10 : goal.returns-in-10
returns-in-10 c =
    IsCut-from c.args.text.now c.loop-rest.rest.now c.in-Some.taken.word.now c.in-Some.taken.behind.now (map (λ w. w.now) c.loop-rest.words.items) (map (λ w. w.now) c.push_word.new.words.items) c.in-Some.taken.stop c.loop-rest.invariant c.in-Some.ensures.cut c.in-Some.ensures.word c.in_ok-push_word.ensures c.in-10.is (sym c.if-is_comment.ensures) (omega (arith, c.if-text-taken.true))
