use Rattle.std.proofs.Common.{◌≡◌, false, refl, subst}
use Rattle.std.proofs.lemmas.List.{length-map}
use Rattle.serial_order.specs.Replay.{is_history_full}
use Rattle.attempts.specs.Commands.{asked_call, asked_calls}
use Rattle.attempts.proofs.Attempts.{begins-asked, refused-asked, replays-all, answers-all}
use Rattle.attempts.proofs.transaction.attempt_in_room.Goals as goal

pub transact-requires-clause-going : goal.transact-requires-clause-going
transact-requires-clause-going g c κs within =
    (begins-asked c.args.store.now c.args.store.now c.begin_in_room.new.store c.args.w c.args.calls.now refl c.requires.room c.in-Ok.t
    c.in-Ok.ensures.begun).going

pub transact-requires-clause-room : goal.transact-requires-clause-room
transact-requires-clause-room g c κs within =
    let its =
    begins-asked c.args.store.now c.args.store.now c.begin_in_room.new.store c.args.w c.args.calls.now refl c.requires.room c.in-Ok.t
    c.in-Ok.ensures.begun
    in
    subst (λ n. is_history_full c.begin_in_room.new.store.limits c.begin_in_room.new.store.history n ≡ false) (length-map c.args.calls.now asked_call) its.room

pub returns-in-Ok-clause-replays : goal.returns-in-Ok-clause-replays
returns-in-Ok-clause-replays g c =
    let its =
    begins-asked c.args.store.now c.args.store.now c.begin_in_room.new.store c.args.w c.args.calls.now refl c.requires.room c.in-Ok.t
    c.in-Ok.ensures.begun
    in
    replays-all c.replays_join.ensures c.args.store.now c.begin_in_room.new.store c.transact.new.store c.args.w c.in-Ok.t (asked_calls c.args.calls.now) its c.transact.result c.transact.ensures

pub returns-in-Ok-clause-answers : goal.returns-in-Ok-clause-answers
returns-in-Ok-clause-answers g c =
    let its =
    begins-asked c.args.store.now c.args.store.now c.begin_in_room.new.store c.args.w c.args.calls.now refl c.requires.room c.in-Ok.t
    c.in-Ok.ensures.begun
    in
    answers-all c.replays_join.ensures c.args.store.now c.begin_in_room.new.store c.transact.new.store c.args.w c.in-Ok.t (asked_calls c.args.calls.now) its c.transact.result c.transact.ensures

pub returns-in-Err-clause-replays : goal.returns-in-Err-clause-replays
returns-in-Err-clause-replays g c =
    (refused-asked c.args.store.now c.args.store.now c.begin_in_room.new.store c.args.w c.args.calls.now refl c.requires.room c.in-Err.refusal
    c.in-Err.ensures.refused).1

pub returns-in-Err-clause-answers : goal.returns-in-Err-clause-answers
returns-in-Err-clause-answers g c =
    refused-asked c.args.store.now c.args.store.now c.begin_in_room.new.store c.args.w c.args.calls.now refl c.requires.room c.in-Err.refusal
    c.in-Err.ensures.refused
