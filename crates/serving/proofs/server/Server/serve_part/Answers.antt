use Rattle.std.proofs.Common.{◌≡◌, ◌∙◌, List, ap, subst}
use Rattle.std.specs.Io.KnownBytes.{Appends}
use Rattle.outputs.specs.Gathered.{taken_by}
use Rattle.serving.specs.declared.answer_line.Answered.{Answered}
use Rattle.serving.specs.declared.server.Server.{Server}
use Rattle.serving.specs.Told.{AppendsPart, answers_text}
use Rattle.serving.proofs.MoreEvents.{leaves-then, written-more}
use Rattle.serving.proofs.ServedBytes.{stays-then}
use Rattle.type_table.proofs.Results.{on_err}
use Rattle.serving.proofs.Acknowledgements.{stops-doing, stops-safely-telling, stops-settling, tells-group}
use Rattle.serving.proofs.server.Server.serve_part.Goals as goal

pub returns-in_err-take_bytes-clause-stops : goal.returns-in_err-take_bytes-clause-stops
returns-in_err-take_bytes-clause-stops g c =
    on_err c.from_residual.result (λ began given taken given_now given_new consumed so_far. stops-doing c.take_bytes.new.self.session.store given_new _ c.requires.asked c.in_err-take_bytes.ensures.clean consumed
    (c.in_err-take_bytes.ensures.failed began) so_far)

pub returns-in_err-settle_lasting-clause-stops : goal.returns-in_err-settle_lasting-clause-stops
returns-in_err-settle_lasting-clause-stops g c =
    let stays = c.in_ok-take_bytes.ensures.stays_in_epoch in
    on_err c.from_residual-in_err-settle_lasting.result (λ began given taken given_now given_new consumed so_far.
    stops-settling c.take_bytes.new.self c.settle_lasting.new.self.session.store given_new _ c.requires.asked (λ clean. stays.clean (c.in_err-settle_lasting.ensures.clean clean)) consumed
    (c.in_ok-take_bytes.ensures.serves began) (c.in_ok-take_bytes.ensures.left began) c.in_err-settle_lasting.ensures.crash so_far)

pub returns-in_err-settle_lasting-clause-crash : goal.returns-in_err-settle_lasting-clause-crash
returns-in_err-settle_lasting-clause-crash g c =
    let stays = c.in_ok-take_bytes.ensures.stays_in_epoch in
    leaves-then g.S.Store c.args.self.now.session.store c.take_bytes.new.self.session.store c.settle_lasting.new.self.session.store stays.clean stays.follows stays.crash
    (written-more g.S.Store c.take_bytes.new.self.session.store c.settle_lasting.new.self.session.store c.in_err-settle_lasting.ensures.crash)

pub returns-in_err-tell-clause-stops : goal.returns-in_err-tell-clause-stops
returns-in_err-tell-clause-stops g c =
    let said : c.deref.result.now ≡ c.take_bytes.new.self.answers.items = c.deref.ensures.value ∙ ap (λ (s : Server g.row.S.Denot). s.answers.items) c.in_ok-settle_lasting.ensures.others in
    on_err c.from_residual-in_err-tell.result (λ began given taken given_now given_new consumed so_far.
    stops-safely-telling c.take_bytes.new.self c.settle_lasting.new.self.session given_new (taken_by g.W.Out.taken c.tell.new.self.out) _ c.requires.asked so_far
    (c.in_ok-take_bytes.ensures.serves began) (c.in_ok-take_bytes.ensures.left began) consumed
    (subst (λ (xs : List Answered). AppendsPart (taken_by g.W.Out.taken c.args.client.now.out) (taken_by g.W.Out.taken c.tell.new.self.out) (answers_text xs)) said c.in_err-tell.ensures.part)
    c.in_ok-take_bytes.ensures.stays_in_epoch c.in_ok-settle_lasting.ensures.stays_in_epoch c.in_ok-settle_lasting.ensures.shows c.in_ok-settle_lasting.ensures.same
    c.in_ok-settle_lasting.ensures.crash)

pub returns-in_err-tell-clause-crash : goal.returns-in_err-tell-clause-crash
returns-in_err-tell-clause-crash g c = (stays-then c.in_ok-take_bytes.ensures.stays_in_epoch c.in_ok-settle_lasting.ensures.stays_in_epoch).crash

pub returns-clause-serves : goal.returns-clause-serves
returns-clause-serves g c began given taken given_now given_new consumed so_far =
    let same = c.in_ok-settle_lasting.ensures.others in
    let said : c.deref.result.now ≡ c.take_bytes.new.self.answers.items = c.deref.ensures.value ∙ ap (λ (s : Server g.row.S.Denot). s.answers.items) same in
    tells-group c.take_bytes.new.self (record { session = c.settle_lasting.new.self.session; line = c.settle_lasting.new.self.line; answers = c.clear.new.self; end = c.settle_lasting.new.self.end; full_since = c.settle_lasting.new.self.full_since })
    given_new (taken_by g.W.Out.taken c.tell.new.self.out) _ c.requires.asked so_far (c.in_ok-take_bytes.ensures.serves began) (c.in_ok-take_bytes.ensures.left began)
    consumed
    (subst (λ (xs : List Answered). Appends (taken_by g.W.Out.taken c.args.client.now.out) (taken_by g.W.Out.taken c.tell.new.self.out) (answers_text xs)) said c.in_ok-tell.ensures.told)
    c.in_ok-take_bytes.ensures.stays_in_epoch c.in_ok-settle_lasting.ensures.stays_in_epoch c.in_ok-settle_lasting.ensures.waits c.in_ok-settle_lasting.ensures.lets_go c.in_ok-settle_lasting.ensures.shows c.in_ok-settle_lasting.ensures.same
    c.in_ok-settle_lasting.ensures.crash (ap (λ (s : Server g.row.S.Denot). s.line) same) (ap (λ (s : Server g.row.S.Denot). s.end) same) c.clear.ensures.items

pub returns-clause-stays_in_epoch : goal.returns-clause-stays_in_epoch
returns-clause-stays_in_epoch g c = stays-then c.in_ok-take_bytes.ensures.stays_in_epoch c.in_ok-settle_lasting.ensures.stays_in_epoch

pub returns-clause-crash : goal.returns-clause-crash
returns-clause-crash g c = (stays-then c.in_ok-take_bytes.ensures.stays_in_epoch c.in_ok-settle_lasting.ensures.stays_in_epoch).crash
