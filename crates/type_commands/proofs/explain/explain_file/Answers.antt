use Rattle.std.proofs.Common.{refl}
use Rattle.std.proofs.lemmas.Result.{err_from_is_err_and}
use Rattle.command_files.proofs.Comes.{comes, refuses}
use Rattle.type_commands.specs.Explain.{pair_as, words_as}
use Rattle.type_commands.proofs.Explaining.{bad_text, bad_words}
use Rattle.type_commands.proofs.explain.explain_file.Goals as goal

pub returns-in_err-declared-clause-comes : goal.returns-in_err-declared-clause-comes
returns-in_err-declared-clause-comes g c =
    let held = g.S.Source.holds c.args.source.now c.args.path.now in
    let exit = err_from_is_err_and c.from_residual.result c.from_residual.ensures.1 in
    rw (exit.1, exit.2) (refuses _ _ _ _ _ _ (bad_text held c.args.kind (words_as c.args.words)) c.in_err-declared.ensures.refused)

pub returns-in-None-clause-comes : goal.returns-in-None-clause-comes
returns-in-None-clause-comes g c =
    let held = g.S.Source.holds c.args.source.now c.args.path.now in
    (bad_words held c.args.kind (words_as c.args.words) c.in_ok-declared.declared c.in_ok-declared.ensures.reads c.in-None.ensures.exact, refl)

pub returns-clause-comes : goal.returns-clause-comes
returns-clause-comes g c =
    let read = c.in_ok-declared.ensures in
    comes _ _ _ _ c.explain_read.result _ _
    (λ v text says. record {
      declaration = c.in_ok-declared.declared;
      asked = pair_as c.in-Some.asked;
      declared = read.reads;
      fits = read.fits;
      names = c.in-Some.ensures.exact;
      explains = says;
    }) (λ bad. absurd bad) c.explain_read.ensures
