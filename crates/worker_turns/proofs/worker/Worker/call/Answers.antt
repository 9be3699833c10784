use Rattle.std.proofs.Common.{◌≡◌, ◌≤◌, ◌++◌, ◌∷◌, [], refl, subst}
use Rattle.object_trait.specs.declared.event.EventKind.TheVariants.{Op}
use Rattle.jobs_text.specs.Jobs.{Call, calls_in}
use Rattle.worker_turns.specs.Progress.{Progress}
use Rattle.worker_turns.specs.Turns.{receipt}
use Rattle.worker_turns.proofs.Asked.{IsAnswered, is-answered, calls-reply, calls-busy}
use Rattle.worker_turns.proofs.worker.Worker.call.Goals as goal
use Rattle.worker_turns.proofs.worker.Worker.call.Goals.{in-Reply, in-Busy}

pub returns-after-answer : goal.returns-after-answer
returns-after-answer g c =
    let old = c.args.store.now in
    let new = c.call_bytes.new.self in
    let call : Call = (c.args.x, c.args.name) in
    let its = is-answered old c.args.w c.args.t call c.in-Ok.answer new c.as_bytes.result.now c.as_bytes.ensures.exact c.in-Ok.ensures.step c.in-Ok.ensures.answer in
    let shown : Progress = record {
      jobs = calls_in c.self.inside.jobs;
      tries = c.self.inside.tries;
      receipts = c.self.inside.receipts.items;
      outcomes = c.self.inside.outcomes.items;
      broken = c.self.inside.broken;
      phase = c.self.inside.phase;
    } in
    let held = c.reserve.new.self.items in
    elim c.match-answer.branch [
      | in-Reply v ↦
          let k = v.in-Reply.k in
          let gets : v.take.new.receipts.items ≡ shown.receipts ++ receipt old.history c.args.w (Op k c.args.t c.args.x) ∷ [] =
          rw (v.take.ensures.gets, c.reserve.ensures.items, c.event_count-position.ensures.exact) refl in
          rw (← c.self.view_is, v.self-inside-is, v.self-is)
          (calls-reply old c.args.w c.args.t c.args.done call shown new k (subst (λ a. IsAnswered old c.args.w c.args.t call a new) v.in-Reply.is its) v.take.new.receipts.items gets)
      | in-Busy v ↦
          rw (← c.self.view_is, v.self-inside-is, v.self-is)
          (calls-busy old c.args.w c.args.t c.args.done call shown new c.in-Ok.answer its held v.note.new.receipts.items c.reserve.ensures.items
          (subst (λ n. old.forgotten ≤ n) c.event_count-position.ensures.exact c.event_count-position.ensures.within) v.note.ensures.gets v.in-Busy.is)
    ]
