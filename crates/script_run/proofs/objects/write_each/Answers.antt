use Rattle.store_limits.specs.Standard.{standard}
use Rattle.std.proofs.Common.{[], ◌∷◌, ◌++◌, map, subst, Ok, Err}
use Rattle.std.proofs.lemmas.List.{take_all}
use Rattle.std.proofs.lemmas.Result.{err_from_is_err_and}
use Rattle.line_text.specs.Spelling.{spaced}
use Rattle.outputs.specs.Out.{Puts}
use Rattle.store_laws.specs.Stored.{Stored}
use Rattle.store_text.specs.declared.line.ObjectLine.{ObjectLine}
use Rattle.history_text.specs.Canonical.{words_of, object_line}
use Rattle.script_run.specs.Turns.{object_turn}
use Rattle.script_run.specs.Runs.{Writes}
use Rattle.script_run.proofs.ObjectLines.{objects-more, objects-stopped}
use Rattle.script_run.proofs.Turns.{no_turns}
use Rattle.script_run.proofs.objects.write_each.Goals as goal

-- any store
some_store : Stored
some_store = record { types = []; history = []; limits = standard; forgotten = 0 }

pub loop-object-init : goal.loop-object-init
loop-object-init g c = λ s. no_turns s (g.W.Out.taken c.args.out.now) c.requires

pub write_object-requires : goal.write_object-requires
write_object-requires g c = (c.loop-object.invariant some_store).fault_is

pub loop-object-preserved : goal.loop-object-preserved
loop-object-preserved g c =
    let line = subst (λ (o : ObjectLine). Puts (g.W.Out.taken c.loop-object.out) (g.W.Out.taken c.write_object.new.out) (g.W.Out.fault c.write_object.new.out) (spaced (words_of (object_line o)) ++ 10 ∷ []) (Ok tt)) c.object-item.is
    c.in_ok-write_object.ensures
    in
    λ s. objects-more s c.args.objects.now c.loop-object.object-index c.object-item.result c.loop-object-test.true (c.loop-object.invariant s) line

pub returns-in_err-write_object : goal.returns-in_err-write_object
returns-in_err-write_object g c =
    let (d, returned, same) = err_from_is_err_and c.from_residual.result c.from_residual.ensures.1 in
    let line = subst (λ (o : ObjectLine). Puts (g.W.Out.taken c.loop-object.out) (g.W.Out.taken c.write_object.new.out) (g.W.Out.fault c.write_object.new.out) (spaced (words_of (object_line o)) ++ 10 ∷ []) (Err c.in_err-write_object.field-0.0)) c.object-item.is
    c.in_err-write_object.ensures
    in
    rw (returned, same)
    (record {
      writes = λ s. objects-stopped s c.args.objects.now c.loop-object.object-index c.object-item.result c.loop-object-test.true (c.loop-object.invariant s) line;
      fault = c.in_err-write_object.ensures.fault_is;
    })

pub returns : goal.returns
returns g c =
    let all = take_all c.loop-object.object-index c.args.objects.now c.loop-object-test.false in
    record {
      writes = λ s.
          subst (λ l. Writes s (map (object_turn s.history) l) (g.W.Out.taken c.args.out.now) (g.W.Out.taken c.loop-object.out) (g.W.Out.fault c.loop-object.out) s (Ok tt))
          all (c.loop-object.invariant s);
      fault = (c.loop-object.invariant some_store).fault_is;
    }
