use Rattle.type_table.proofs.Results.{on_err}
use Rattle.serving.proofs.Acknowledgements.{stops-here}
use Rattle.serving.proofs.server.Server.serve_group.Goals as goal

pub returns-in-Err-clause-stops : goal.returns-in-Err-clause-stops
returns-in-Err-clause-stops g c began given taken so_far = stops-here so_far

pub returns-in_err-serve_parts-clause-stops : goal.returns-in_err-serve_parts-clause-stops
returns-in_err-serve_parts-clause-stops g c =
    on_err c.from_residual.result (λ began given taken so_far.
    c.in_err-serve_parts.ensures.stops began given taken (g.R.Read.remaining c.args.input.now) (g.R.Read.remaining c.read.new.self) c.in-Ok.ensures.bytes.0 so_far)

pub returns-then-count-gt0-clause-serves : goal.returns-then-count-gt0-clause-serves
returns-then-count-gt0-clause-serves g c began given taken so_far =
    c.in_ok-serve_parts.ensures.serves began given taken (g.R.Read.remaining c.args.input.now) (g.R.Read.remaining c.read.new.self) c.in-Ok.ensures.bytes.0 so_far

pub returns-else-count-gt0-clause-serves : goal.returns-else-count-gt0-clause-serves
returns-else-count-gt0-clause-serves g c began given taken so_far =
    c.in_ok-serve_parts.ensures.serves began given taken (g.R.Read.remaining c.args.input.now) (g.R.Read.remaining c.read.new.self) c.in-Ok.ensures.bytes.0 so_far
