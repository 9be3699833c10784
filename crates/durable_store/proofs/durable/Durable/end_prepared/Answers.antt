use Rattle.std.proofs.Common.{◌≡◌, ◌∙◌, true, None, ap, sym, subst}
use Rattle.std.specs.Prelude.{Vec}
use Rattle.std.specs.declared.alloc.Global.{Global}
use Rattle.serial_order.specs.History.{is_open, summary}
use Rattle.journal.specs.declared.prepared_row.Prepared.{Prepared}
use Rattle.journal.specs.Journal.{written}
use Rattle.durable_store.specs.Held.{ArePrepared, but_number, first_passing, has_key, has_place}
use Rattle.durable_store.specs.Votes.{decided_command}
use Rattle.durable_store.proofs.Stepped.{behind-alike, done-behind}
use Rattle.durable_store.proofs.HeldKeys.{first-none, first-open, others-apart}
use Rattle.durable_store.proofs.Decided.{decided-prepared, ends-prepared}
use Rattle.durable_store.proofs.durable.Durable.end_prepared.Goals as goal

pub write_since-requires-clause-behind : goal.write_since-requires-clause-behind
write_since-requires-clause-behind g c =
    behind-alike g.S.Store c.args.self.now _ c.event_count-count.result
    (done-behind g.S.Store c.args.self.now (decided_command c.args.decision c.args.t) c.end_in.result c.end_in.new.store c.event_count-count.result c.steps_are_retraced.ensures.steps c.requires.sound c.event_count-count.ensures.exact
    c.event_count-count.ensures.within c.end_in.ensures)

pub write_since-requires-clause-prepared : goal.write_since-requires-clause-prepared
write_since-requires-clause-prepared g c = λ clean.
    let old = c.args.self.now in
    let c' = written g.S.Store old.journal in
    let are = c.requires.sound.prepared clean in
    let (p, found, number) = c.requires.there in
    let opened : is_open (summary old.store.history) c.args.t ≡ true = subst (λ n. is_open (summary old.store.history) n ≡ true) number (first-open old.store.history c' old.prepared.items (has_key c.args.key) p are found) in
    subst (ArePrepared c.end_in.new.store.history c') (sym c.remove_transaction.ensures)
    (decided-prepared old.store c.args.decision c.args.t c.end_in.result c.end_in.new.store c' old.prepared.items opened c.end_in.ensures are)

pub keep-requires-clause-unprepared : goal.keep-requires-clause-unprepared
keep-requires-clause-unprepared g c = λ clean.
    let old = c.args.self.now in
    let key = c.args.key in
    let are = c.requires.sound.prepared (c.write_since.ensures.clean clean) in
    let (p, found, number) = c.requires.there in
    let left : c.write_since.new.self.prepared.items ≡ but_number c.args.t old.prepared.items = ap (λ (ps : Vec Prepared Global). ps.items) c.in_ok-write_since.ensures.prepared ∙ c.remove_transaction.ensures in
    subst (λ ps. first_passing (has_place key) ps ≡ None) (sym left)
    (first-none (has_place key) (but_number c.args.t old.prepared.items) (others-apart key c.args.t old.prepared.items p are.apart found number))

pub returns-clause-ends : goal.returns-clause-ends
returns-clause-ends g c = λ clean.
    let mid = c.keep.ensures.clean clean in
    let (p, found, number) = c.requires.there in
    ends-prepared g.S.Store c.args.self.now c.write_since.new.self c.keep.new.self c.end_in.new.store c.args.key c.args.decision c.args.t c.event_count-count.result c.outcome_of.result c.end_in.result p c.requires.sound
    (c.write_since.ensures.clean mid) found number c.end_in.ensures c.event_count-count.ensures.exact c.write_since.ensures.store c.keep.ensures.store c.outcome_of.ensures (c.in_ok-write_since.ensures.written mid)
    (c.in_ok-keep.ensures.written clean)
