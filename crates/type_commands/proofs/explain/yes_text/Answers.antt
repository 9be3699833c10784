use Rattle.std.proofs.Common.{◌≡◌, [], List, ℕ}
use Rattle.command_files.specs.declared.status.Verdict.TheVariants.{Yes}
use Rattle.type_commands.specs.Explain.{ExplainsBy, IsYesLine, SaysThen, pair_as}
use Rattle.type_commands.proofs.Explaining.{added_alone}
use Rattle.type_commands.proofs.explain.yes_text.Goals as goal

pub returns : goal.returns
returns c =
    let P : List ℕ → Type 0 = λ text.
    SaysThen (λ line. IsYesLine c.args.checked.now line) (λ rest. ExplainsBy c.args.checked.now.kind c.args.declared.now (pair_as c.args.asked) Yes rest) text in
    let start : c.new-text.result.writer.items ≡ [] = rw c.new-text.ensures.writer c.new.ensures.items in
    rw c.into_inner.ensures (added_alone P c.new-text.result.writer.items c.put_yes.new.out.writer.items start c.in_ok-put_yes.ensures)
