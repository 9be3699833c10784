use Rattle.std.proofs.Common.{ℕ, List, map, IfSome, Option, subst, arith, ◌∙◌}
use Rattle.std.proofs.lemmas.Grind.{common_steps}
use Rattle.std.proofs.lemmas.List.Elements.{All-push}
use Rattle.command_files.specs.Answers.{IsEarlyFault}
use Rattle.command_files.proofs.Comes.{refused_more}
use Rattle.object_types.proofs.LookUps.{err_exit}
use Rattle.store_files.specs.Types.{IsFirstFaultyOf}
use Rattle.store_files.proofs.Objects.{at_map, files_push, first_faulty}
use Rattle.store_files.proofs.several_files.read_files.Goals as goal

pub returns-in_err-file-clause-refused : goal.returns-in_err-file-clause-refused
returns-in_err-file-clause-refused g c =
    let known = c.loop-path.invariant in
    let describes = g.F.Format.describes c.args.format.now in
    let is_faulty = g.F.Format.is_faulty c.args.format.now in
    let holds = g.S.Source.holds c.args.source.now in
    let paths = map (λ p. p.now) c.args.paths.now in
    let there = at_map (λ p. p.now) c.args.paths.now c.loop-path.path-index _ c.loop-path-test.true in
    let P : Option (List ℕ) → Type 0 = λ o. IfSome o is_faulty in
    err_exit (IsEarlyFault (IsFirstFaultyOf describes is_faulty holds paths)) c.from_residual-in_err-file.result c.in_err-file.field-0.0 c.from_residual-in_err-file.ensures.1
    (refused_more _ _ c.in_err-file.field-0.0 (λ faulty. first_faulty describes is_faulty holds paths _ c.loop-path.path-index _ there known.read (subst P (known.kept _) faulty)) c.in_err-file.ensures.refused)

pub loop-path-preserved : goal.loop-path-preserved
loop-path-preserved g c =
    let known = c.loop-path.invariant in
    let describes = g.F.Format.describes c.args.format.now in
    let is_faulty = g.F.Format.is_faulty c.args.format.now in
    let holds = g.S.Source.holds c.args.source.now in
    let paths = map (λ p. p.now) c.args.paths.now in
    let there = at_map (λ p. p.now) c.args.paths.now c.loop-path.path-index _ c.loop-path-test.true in
    let P : Option (List ℕ) → Type 0 = λ o. IfSome o (λ text. describes text c.in_ok-file.file) in
    record {
      room = grind (arith, common_steps);
      count = grind (arith, common_steps);
      kept = λ other. c.read_file.ensures.kept other ∙ known.kept other;
      fit = rw c.push_reserved.ensures.items (All-push (g.F.Format.is_fit c.args.format.now) _ c.in_ok-file.file known.fit c.in_ok-file.ensures.fit);
      read = files_push describes is_faulty holds paths _ c.loop-path.path-index _ there known.read _ c.in_ok-file.file (subst P (known.kept _) c.in_ok-file.ensures.reads) c.push_reserved.ensures.items;
    }
