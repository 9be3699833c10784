use Rattle.std.proofs.Common.{◌≡◌, ◌∙◌, Option, None, true, refl, sym, ap, subst}
use Rattle.std.specs.Io.KnownBytes.{Appends}
use Rattle.outputs.specs.Gathered.{taken_by}
use Rattle.serving.specs.declared.answer_line.Answered.{Answered}
use Rattle.serving.specs.declared.session.Session.{Session}
use Rattle.serving.specs.declared.server.Server.{Server}
use Rattle.serving.specs.Does.{is_epoch_full}
use Rattle.serving.specs.Epochs.{LeavesEpochs}
use Rattle.serving.specs.EpochEnd.{last_answers}
use Rattle.serving.specs.NextEpoch.{late_answer}
use Rattle.serving.specs.Server.{full_at}
use Rattle.serving.specs.Told.{AppendsPart, answers_text}
use Rattle.serving.proofs.Acknowledgements.{stops-begun, stops-epoch, tells-as, tells-epoch}
use Rattle.serving.proofs.LaterEpochs.{left-nowhere, writes-nowhere}
use Rattle.serving.proofs.Results.{if-value, of-ok}
use Rattle.serving.proofs.server.Server.next_epoch.Goals as goal

pub returns-in-Ok-tell_last-clause-serves : goal.returns-in-Ok-tell_last-clause-serves
returns-in-Ok-tell_last-clause-serves g c began given taken given_now so_far =
    let same = c.is_over.ensures.others in
    let session : c.is_over.new.self.session ≡ c.args.self.session = ap (λ (s : Server g.row.S.Denot). s.session) same in
    let ended : c.is_over.new.self.end ≡ c.args.self.end = ap (λ (s : Server g.row.S.Denot). s.end) same in
    let r = c.begin_epoch-session.result.1 in
    let of = c.begin_epoch-session.ensures in
    let late = if-value (λ (a : Option Answered). a ≡ late_answer c.is_over.new.self.session.waiting c.is_over.new.self.session.store.store) r c.in-Ok.late c.in-Ok.is of.late in
    tells-epoch (record { session = c.begin_epoch-session.result.0; line = c.is_over.new.self.line; answers = c.is_over.new.self.answers; end = c.is_over.new.self.end; full_since = None })
    (taken_by g.W.Out.taken c.tell_last.new.self.out) (g.A.Archive.kept c.args.archive.now) (g.A.Archive.kept c.begin_epoch-session.new.archive)
    (ended ∙ c.requires.asked) (subst (λ (s : Session g.row.S.Denot). is_epoch_full (full_at s) s.store.store ≡ true) (sym session) (c.if-not-is_over.ensures.full refl))
    (of-ok r c.in-Ok.late c.in-Ok.is of.ends) (of-ok r c.in-Ok.late c.in-Ok.is of.sound) of.named (of-ok r c.in-Ok.late c.in-Ok.is of.carried) (of-ok r c.in-Ok.late c.in-Ok.is of.counted) of.most of.none_waits (of-ok r c.in-Ok.late c.in-Ok.is of.shows)
    (of-ok r c.in-Ok.late c.in-Ok.is of.writes) of.clean of.crash of.left refl refl refl
    (subst (λ (a : Option Answered). Appends (taken_by g.W.Out.taken c.args.client.now.out) (taken_by g.W.Out.taken c.tell_last.new.self.out) (answers_text (last_answers a None))) late c.in-Ok-tell_last.ensures.told)
    (tells-as c.is_over.new.self session (ap (λ (s : Server g.row.S.Denot). s.line) same) (ap (λ (s : Server g.row.S.Denot). s.answers) same) ended so_far)

pub returns-in-Err-tell_last-clause-stops : goal.returns-in-Err-tell_last-clause-stops
returns-in-Err-tell_last-clause-stops g c began given taken given_now so_far =
    let same = c.is_over.ensures.others in
    let session : c.is_over.new.self.session ≡ c.args.self.session = ap (λ (s : Server g.row.S.Denot). s.session) same in
    let ended : c.is_over.new.self.end ≡ c.args.self.end = ap (λ (s : Server g.row.S.Denot). s.end) same in
    let r = c.begin_epoch-session.result.1 in
    let of = c.begin_epoch-session.ensures in
    let late = if-value (λ (a : Option Answered). a ≡ late_answer c.is_over.new.self.session.waiting c.is_over.new.self.session.store.store) r c.in-Ok.late c.in-Ok.is of.late in
    stops-begun (record { session = c.begin_epoch-session.result.0; line = c.is_over.new.self.line; answers = c.is_over.new.self.answers; end = c.is_over.new.self.end; full_since = None })
    (taken_by g.W.Out.taken c.tell_last.new.self.out) (g.A.Archive.kept c.args.archive.now) (g.A.Archive.kept c.begin_epoch-session.new.archive)
    (ended ∙ c.requires.asked) (subst (λ (s : Session g.row.S.Denot). is_epoch_full (full_at s) s.store.store ≡ true) (sym session) (c.if-not-is_over.ensures.full refl))
    (of-ok r c.in-Ok.late c.in-Ok.is of.ends) (of-ok r c.in-Ok.late c.in-Ok.is of.sound) of.named (of-ok r c.in-Ok.late c.in-Ok.is of.carried) (of-ok r c.in-Ok.late c.in-Ok.is of.counted) of.most of.none_waits (of-ok r c.in-Ok.late c.in-Ok.is of.shows)
    (of-ok r c.in-Ok.late c.in-Ok.is of.writes) of.clean of.crash of.left refl refl refl
    (subst (λ (a : Option Answered). AppendsPart (taken_by g.W.Out.taken c.args.client.now.out) (taken_by g.W.Out.taken c.tell_last.new.self.out) (answers_text (last_answers a None))) late c.in-Err-tell_last.ensures.part)
    (tells-as c.is_over.new.self session (ap (λ (s : Server g.row.S.Denot). s.line) same) (ap (λ (s : Server g.row.S.Denot). s.answers) same) ended so_far)

pub returns-in-Err-clause-stops : goal.returns-in-Err-clause-stops
returns-in-Err-clause-stops g c began given taken given_now so_far =
    let same = c.is_over.ensures.others in
    let session : c.is_over.new.self.session ≡ c.args.self.session = ap (λ (s : Server g.row.S.Denot). s.session) same in
    let of = c.begin_epoch-session.ensures in
    stops-epoch c.begin_epoch-session.result.0.store (subst (λ (s : Session g.row.S.Denot). is_epoch_full (full_at s) s.store.store ≡ true) (sym session) (c.if-not-is_over.ensures.full refl)) of.clean of.left
    (tells-as c.is_over.new.self session (ap (λ (s : Server g.row.S.Denot). s.line) same) (ap (λ (s : Server g.row.S.Denot). s.answers) same) (ap (λ (s : Server g.row.S.Denot). s.end) same) so_far)

pub returns-then-not-is_over-clause-writes : goal.returns-then-not-is_over-clause-writes
returns-then-not-is_over-clause-writes g c =
    writes-nowhere g.S.Store c.args.self.session.store c.is_over.new.self.session.store (g.A.Archive.kept c.args.archive.now) (ap (λ (s : Server g.row.S.Denot). s.session.store) c.is_over.ensures.others)

pub returns-then-not-is_over-clause-crash : goal.returns-then-not-is_over-clause-crash
returns-then-not-is_over-clause-crash g c =
    left-nowhere g.S.Store c.args.self.session.store c.is_over.new.self.session.store (g.A.Archive.kept c.args.archive.now) (ap (λ (s : Server g.row.S.Denot). s.session.store) c.is_over.ensures.others)

pub returns-then-not-is_over-clause-serves : goal.returns-then-not-is_over-clause-serves
returns-then-not-is_over-clause-serves g c began given taken given_now so_far =
    let same = c.is_over.ensures.others in
    tells-as c.is_over.new.self (ap (λ (s : Server g.row.S.Denot). s.session) same) (ap (λ (s : Server g.row.S.Denot). s.line) same) (ap (λ (s : Server g.row.S.Denot). s.answers) same)
    (ap (λ (s : Server g.row.S.Denot). s.end) same) so_far

pub returns-in-Ok-tell_last-clause-crash : goal.returns-in-Ok-tell_last-clause-crash
returns-in-Ok-tell_last-clause-crash g c =
    subst (λ (s : Session g.row.S.Denot). LeavesEpochs g.S.Store s.store c.begin_epoch-session.result.0.store (g.A.Archive.kept c.args.archive.now) (g.A.Archive.kept c.begin_epoch-session.new.archive))
    (ap (λ (s : Server g.row.S.Denot). s.session) c.is_over.ensures.others) c.begin_epoch-session.ensures.crash

pub returns-in-Err-tell_last-clause-crash : goal.returns-in-Err-tell_last-clause-crash
returns-in-Err-tell_last-clause-crash g c =
    subst (λ (s : Session g.row.S.Denot). LeavesEpochs g.S.Store s.store c.begin_epoch-session.result.0.store (g.A.Archive.kept c.args.archive.now) (g.A.Archive.kept c.begin_epoch-session.new.archive))
    (ap (λ (s : Server g.row.S.Denot). s.session) c.is_over.ensures.others) c.begin_epoch-session.ensures.crash

pub returns-in-Err-clause-crash : goal.returns-in-Err-clause-crash
returns-in-Err-clause-crash g c =
    subst (λ (s : Session g.row.S.Denot). LeavesEpochs g.S.Store s.store c.begin_epoch-session.result.0.store (g.A.Archive.kept c.args.archive.now) (g.A.Archive.kept c.begin_epoch-session.new.archive))
    (ap (λ (s : Server g.row.S.Denot). s.session) c.is_over.ensures.others) c.begin_epoch-session.ensures.crash
