use Rattle.std.proofs.Common.{◌≡◌, ◌≤◌, ◌∙◌, List, length, map, sym, ap, subst, arith}
use Rattle.std.proofs.lemmas.Bool.Decides.{nat_tests}
use Rattle.std.proofs.lemmas.List.{length-map}
use Rattle.std.specs.List.{zip}
use Rattle.line_text.specs.Text.{words_of}
use Rattle.attempts.specs.Commands.{asked_calls}
use Rattle.library_calls.specs.Attempts.{IsAttempted, attempt_words}
use Rattle.library_calls.specs.Codes.{number}
use Rattle.library_calls.proofs.Attempted.{calls-fit, fits-room, attempt-made}
use Rattle.library_calls.proofs.Narrowed.{Word}
use Rattle.library_calls.proofs.attempt_calls.attempt_words.Goals as goal

pub tell-requires : goal.tell-requires
tell-requires c =
    let xs = c.args.xs.now in
    let names = words_of c.args.names.now in
    let calls = asked_calls c.deref-2.result.now in
    let are : asked_calls c.deref-2.result.now ≡ zip c.args.xs.now (words_of c.args.names.now) =
    ap asked_calls c.deref-2.ensures.value ∙ c.in-Ok-calls_of.ensures ∙ ap (λ (ws : List Word). zip c.args.xs.now (map (λ (w : Word). w.now) ws)) c.deref.ensures.value
    ∙ ap (zip c.args.xs.now) c.in-Ok.ensures
    in
    let places : length c.args.xs.now ≤ length c.args.room.now = omega (arith, c.if-room-xs.false) in
    fits-room c.args.store.now c.attempt.new.store c.args.worker calls c.attempt.result c.args.room.now c.attempt.ensures.answers (calls-fit xs names calls c.args.room.now are places)

pub returns-clause-attempted : goal.returns-clause-attempted
returns-clause-attempted c =
    let xs = c.args.xs.now in
    let names = c.args.names.now in
    let calls = asked_calls c.deref-2.result.now in
    let many : length (words_of names) ≡ length c.in-Ok.words.items = sym (ap length c.in-Ok.ensures) ∙ length-map c.in-Ok.words.items (λ (w : Word). w.now) in
    let as_many : length (words_of names) ≡ length xs = many ∙ first_of (omega (arith, c.len.ensures), grind (arith, nat_tests, c.len.ensures, c.if-len-xs.false)) in
    let are : calls ≡ zip xs (words_of names) =
    ap asked_calls c.deref-2.ensures.value ∙ c.in-Ok-calls_of.ensures ∙ ap (λ (ws : List Word). zip xs (map (λ (w : Word). w.now) ws)) c.deref.ensures.value
    ∙ ap (zip xs) c.in-Ok.ensures
    in
    subst (λ code. IsAttempted c.args.store.now c.args.worker xs names c.args.room.now (number code) c.tell.new.room c.tell.new.outcome c.attempt.new.store) (sym c.tell.ensures.code)
    (attempt-made c.args.store.now c.attempt.new.store c.args.worker xs names c.args.room.now c.tell.new.room c.tell.new.outcome calls c.attempt.result as_many are
    c.attempt.ensures.replays c.attempt.ensures.answers c.tell.ensures.operations (subst (λ code. number code ≡ 0 → c.tell.new.outcome ≡ attempt_words c.attempt.result) c.tell.ensures.code c.tell.ensures.told))
