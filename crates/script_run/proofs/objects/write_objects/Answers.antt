use Rattle.std.proofs.Common.{map}
use Rattle.std.proofs.lemmas.Result.{err_from_is_err_and}
use Rattle.store_text.specs.Kept.{size_lines}
use Rattle.history_text.specs.Canonical.{canonical_size}
use Rattle.script_run.specs.Turns.{size_turn}
use Rattle.script_run.proofs.ObjectLines.{size-written}
use Rattle.script_run.proofs.Turns.{join, stop}
use Rattle.script_run.proofs.objects.write_objects.Goals as goal

pub returns-in_err-write_size : goal.returns-in_err-write_size
returns-in_err-write_size g c =
    let (d, returned, same) = err_from_is_err_and c.from_residual.result c.from_residual.ensures.1 in
    rw (returned, same)
    (record {
      writes = λ s. stop s s (map (size_turn s.history) (size_lines (canonical_size c.args.objects.now))) _ (size-written s (canonical_size c.args.objects.now) c.in_err-write_size.ensures);
      fault = c.in_err-write_size.ensures.fault_is;
    })

pub returns : goal.returns
returns g c =
    record {
      writes = λ s.
          join s s s (map (size_turn s.history) (size_lines (canonical_size c.args.objects.now))) _ (size-written s (canonical_size c.args.objects.now) c.in_ok-write_size.ensures)
          (c.write_each.ensures.writes s);
      fault = c.write_each.ensures.fault;
    }
