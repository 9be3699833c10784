use Rattle.std.proofs.Common.{sym, ap, subst, ◌∙◌, arith}
use Rattle.std.proofs.lemmas.Bool.{false≢true}
use Rattle.declared_types.specs.declared.type_file.TypeFile.{TypeFile}
use Rattle.table_checker.specs.Checked.{Checked}
use Rattle.committed_reads.specs.Still.{IsStillCall}
use Rattle.object_calls.specs.Calls.{IsCall}
use Rattle.object_calls.specs.Replies.{reply_at}
use Rattle.store.proofs.peek.peeked.Goals as goal

pub returns-then-not-is_still_call : goal.returns-then-not-is_still_call
returns-then-not-is_still_call g c = λ still.
    false≢true (sym c.if-not-is_still_call.true ∙ c.is_still_call.ensures.1 (subst (λ (k : Checked). IsStillCall k c.args.call.first) (sym c.checked.ensures) still))

pub reply_at-requires-clause-call : goal.reply_at-requires-clause-call
reply_at-requires-clause-call g c = subst (λ (f : TypeFile). IsCall f.table c.args.call) (sym c.declared.ensures.exact) c.requires.call

pub returns : goal.returns
returns g c = record {
  still = subst (λ (k : Checked). IsStillCall k c.args.call.first) c.checked.ensures (c.is_still_call.ensures.0 c.if-not-is_still_call.false);
  state = c.committed-state.result;
  committed = c.committed-state.ensures.exact;
  fits = omega (arith, c.committed-state.type_inv);
  reply = c.reply_at.ensures ∙ ap (λ (f : TypeFile). reply_at f.table c.committed-state.result c.args.call.first) c.declared.ensures.exact;
}
