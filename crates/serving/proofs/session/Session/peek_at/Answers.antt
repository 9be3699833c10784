use Rattle.journal.specs.Journal.{Clean, written}
use Rattle.serving.proofs.Peeked.{refused-there, replied-there}
use Rattle.serving.proofs.session.Session.peek_at.Goals as goal

pub returns-in-Ok : goal.returns-in-Ok
returns-in-Ok g c =
    replied-there c.store-store.result.now c.as_bytes.result.now c.number_of-x.result c.in-Ok.found c.store-store.ensures c.as_bytes.ensures.exact c.number_of-x.ensures c.in-Ok.ensures c.found_reply.ensures

pub returns-in-Err : goal.returns-in-Err
returns-in-Err g c =
    let s = c.args.self.now.store in
    refused-there (Clean g.S.Store s.journal) (written g.S.Store s.journal).objects s.store c.args.call c.store-store.result.now c.as_bytes.result.now c.number_of-x.result c.in-Err.refusal c.store-store.ensures c.as_bytes.ensures.exact
    c.number_of-x.ensures c.in-Err.ensures
