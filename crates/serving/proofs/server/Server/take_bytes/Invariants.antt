-- The bytes so far are served.
use Rattle.std.proofs.Common.{◌≡◌, ℕ, List, ◌++◌, take, None}
use Rattle.serving.specs.declared.answer_line.Answered.{Answered}
use Rattle.serving.specs.declared.session.Session.{Session}
use Rattle.serving.specs.Acknowledged.{NoneLast}
use Rattle.serving.specs.Left.{LeavesLines, began_at}
use Rattle.serving.specs.Server.{StaysInEpoch, HasServed}
use Rattle.serving.proofs.server.Server.take_bytes.Given as goal

abbrev pub invariant-loop-b : goal.invariant-loop-b
invariant-loop-b g l = record {
  stays : StaysInEpoch g.S.Store l.fn.self.session l.self.session;
  none : l.self.end ≡ None;
  served : (began : Session g.row.S.Denot) (told : List Answered) (seen : List ℕ) → HasServed g.S.Store began told seen l.fn.self → HasServed g.S.Store began told (seen ++ take l.b-index l.bytes) l.self;
  left : (began : Session g.row.S.Denot) (told : List Answered) (seen : List ℕ) → HasServed g.S.Store began told seen l.fn.self
      → LeavesLines g.S.Store (began_at g.S.Store began) NoneLast seen told l.fn.self.answers.items l.fn.self.session.store
      → LeavesLines g.S.Store (began_at g.S.Store began) NoneLast (seen ++ take l.b-index l.bytes) told l.self.answers.items l.self.session.store;
}
