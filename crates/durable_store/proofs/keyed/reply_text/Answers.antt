use Rattle.std.proofs.Common.{◌≡◌, ◌∙◌, ◌<◌, ◌≤◌, ◌+◌, suc, ◌++◌, [], Option, get_or, length, take, ap, arith, subst, sym}
use Rattle.std.specs.Prelude.{◌==◌, min}
use Rattle.std.proofs.Math.Nat.{min-le_left, min-le_right}
use Rattle.type_table.specs.declared.op.Op.{Op}
use Rattle.attempts.specs.declared.outcome.AttemptCall.{AttemptCall}
use Rattle.durable_store.specs.Keys.{op_of_object, reply_word, reply_words, spaced_word}
use Rattle.std.specs.List.{join_with_byte}
use Rattle.std.proofs.lemmas.List.{length-map}
use Rattle.durable_store.proofs.ReplyTexts.{asked-at, few-of, joined-next, words-fit}
use Rattle.attempts.specs.Commands.{asked_call, asked_calls}
use Rattle.durable_store.proofs.keyed.reply_text.Goals as goal

-- src/keyed.rt:243:5
pub loop-at-preserved : goal.loop-at-preserved
loop-at-preserved c =
    let s = c.args.store.now in
    let calls = c.args.calls.now in
    let ks = c.args.operations.now in
    let at = c.loop-at.at in
    let none : AttemptCall = record { at = 0; name = record { ref_ptr = (0, 0); now = [] } } in
    let below : at < min (length calls) (length ks) = subst (λ n. at < n) c.min-at-end.ensures c.loop-at-test.true in
    let there = asked-at s calls ks at none c.index-operations-at.result (omega (arith, below, min-le_left (length calls) (length ks))) (omega (arith, below, min-le_right (length calls) (length ks)))
    c.index-operations-at.is in
    let next : suc at ≡ at + 1 = omega arith in
    c.in_ok-add_word.ensures
    ∙ ap (λ (op : Option Op). c.loop-at.text.items ++ spaced_word (at == 0) (reply_word op)) c.op_at-op.ensures
    ∙ ap (λ t. t ++ spaced_word (at == 0) (reply_word (op_of_object s (get_or calls at none).at c.index-operations-at.result))) c.loop-at.invariant
    ∙ sym (joined-next (reply_words s (asked_calls calls) ks) at (reply_word (op_of_object s (get_or calls at none).at c.index-operations-at.result)) there)
    ∙ ap (λ n. join_with_byte 32 (take n (reply_words s (asked_calls calls) ks))) next

-- src/keyed.rt:234:1
pub returns : goal.returns
returns c =
    let calls = asked_calls c.args.calls.now in
    c.new.ensures ∙ c.loop-at.invariant
    ∙ ap (join_with_byte 32) (words-fit c.args.store.now calls c.args.operations.now c.loop-at.at (few-of (length calls) (length c.args.operations.now) c.loop-at.at
    (subst (λ n. n ≤ c.loop-at.at) (c.min-at-end.ensures ∙ ap (λ n. min n (length c.args.operations.now)) (sym (length-map c.args.calls.now asked_call))) c.loop-at-test.false)))
