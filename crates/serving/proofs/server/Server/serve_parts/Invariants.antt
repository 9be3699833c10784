-- A part is served after those before it.
use Rattle.std.proofs.Common.{◌≡◌, ◌≤◌, ℕ, List, Option, None, []}
use Rattle.std.specs.Io.KnownBytes.{Consumes}
use Rattle.outputs.specs.Gathered.{taken_by, under}
use Rattle.serving.specs.declared.session.Session.{Session as Began}
use Rattle.serving.specs.Acknowledged.{TellsSafely}
use Rattle.serving.specs.Server.{StaysInEpoch}
use Rattle.serving.specs.Group.{known_from}
use Rattle.serving.proofs.server.Server.serve_parts.Given as goal

abbrev pub invariant-loop-at : goal.invariant-loop-at
invariant-loop-at g l = record {
  low : l.start ≤ l.at;
  serves : (began : Began g.row.S.Denot) (given taken given_now given_new : Option (List ℕ)) → Consumes given_now given_new l.bytes → TellsSafely g.S.Store began given taken l.fn.self given_now (taken_by g.W.Out.taken l.fn.client.out)
      → TellsSafely g.S.Store began given taken l.self (known_from l.start given_now) (taken_by g.W.Out.taken l.client.out);
  asked : l.self.end ≡ None;
  told : l.self.answers.items ≡ [];
  stays : StaysInEpoch g.S.Store l.fn.self.session l.self.session;
  takes : g.W.Out.fault (under l.client.out) ≡ None;
}
