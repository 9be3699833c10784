use Rattle.std.proofs.Common.{◌≤◌, ◌+◌, length, arith}
use Rattle.serving.specs.Group.{known_from}
use Rattle.type_table.proofs.Results.{on_err}
use Rattle.serving.proofs.Parts.{part-consumed}
use Rattle.serving.proofs.ServedBytes.{stays-put}
use Rattle.serving.proofs.server.Server.serve_ended.Goals as goal

pub returns-in_err-serve_part-clause-stops : goal.returns-in_err-serve_part-clause-stops
returns-in_err-serve_part-clause-stops g c =
    let low : c.args.start ≤ c.args.at + 1 = omega (arith, c.requires.start) in
    let high : c.args.at + 1 ≤ length c.args.bytes.now = omega (arith, c.requires.inside) in
    on_err c.from_residual.result (λ began given taken given_now given_new consumed so_far.
    c.in_err-serve_part.ensures.stops began given taken (known_from c.args.start given_now) (known_from (c.args.at + 1) given_now)
    (part-consumed given_now given_new c.args.bytes.now c.args.start (c.args.at + 1) consumed low high) so_far)

pub returns-clause-serves : goal.returns-clause-serves
returns-clause-serves g c began given taken given_now given_new consumed so_far =
    let low : c.args.start ≤ c.args.at + 1 = omega (arith, c.requires.start) in
    let high : c.args.at + 1 ≤ length c.args.bytes.now = omega (arith, c.requires.inside) in
    c.in_ok-serve_part.ensures.serves began given taken (known_from c.args.start given_now) (known_from (c.args.at + 1) given_now)
    (part-consumed given_now given_new c.args.bytes.now c.args.start (c.args.at + 1) consumed low high) so_far

pub returns-then-not-ends_part-clause-stays_in_epoch : goal.returns-then-not-ends_part-clause-stays_in_epoch
returns-then-not-ends_part-clause-stays_in_epoch g c = stays-put c.args.self.now.session c.requires.sound
