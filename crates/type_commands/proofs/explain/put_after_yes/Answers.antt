use Rattle.std.proofs.Common.{◌≡◌, ◌∙◌, sym, ap, subst, None, Some}
use Rattle.std.proofs.lemmas.Result.{on_ok_weaker}
use Rattle.command_files.specs.declared.status.Verdict.TheVariants.{Yes}
use Rattle.type_table.specs.Kind.{table_kind}
use Rattle.declared_types.specs.Declarations.{IsByTable, file_of}
use Rattle.type_commands.specs.Explain.{ExplainsNumber, pair_as}
use Rattle.type_commands.proofs.Explaining.{adds_weaker, by_number, by_table, is_by_table}
use Rattle.type_commands.proofs.explain.put_after_yes.Goals as goal

pub file-requires : goal.file-requires
file-requires g c = subst IsByTable (c.in-Some.ensures.back ∙ c.kind.ensures) (is_by_table c.in-Some.kind)

pub put_pairs-requires-clause-asked : goal.put_pairs-requires-clause-asked
put_pairs-requires-clause-asked g c = rw c.file.ensures.exact c.requires.asked

pub put_bounds-requires-clause-numeric : goal.put_bounds-requires-clause-numeric
put_bounds-requires-clause-numeric g c = sym c.kind.ensures ∙ c.in-None.ensures.back

pub returns-in-Some : goal.returns-in-Some
returns-in-Some g c =
    let is : table_kind c.args.checked.now.kind ≡ Some c.in-Some.kind = ap table_kind (sym c.kind.ensures) ∙ sym c.in-Some.ensures.exact in
    let put = rw c.file.ensures.exact at c.put_pairs.ensures in
    let file = file_of c.args.declared.now in
    let same : c.args.checked.now.file ≡ file = c.requires.same in
    on_ok_weaker c.put_pairs.result
    (adds_weaker _ _ _ _ (λ text says. by_table file (pair_as c.args.asked) (ExplainsNumber c.args.declared.now (pair_as c.args.asked) Yes) text c.args.checked.now.kind c.in-Some.kind is says))
    (rw same at put)

pub returns-in-None : goal.returns-in-None
returns-in-None g c =
    let is : table_kind c.args.checked.now.kind ≡ None = ap table_kind (sym c.kind.ensures) ∙ sym c.in-None.ensures.exact in
    on_ok_weaker c.put_bounds.result
    (adds_weaker _ _ _ _
    (λ text says. by_number (file_of c.args.declared.now) (pair_as c.args.asked) (ExplainsNumber c.args.declared.now (pair_as c.args.asked) Yes) text c.args.checked.now.kind is says))
    c.put_bounds.ensures
