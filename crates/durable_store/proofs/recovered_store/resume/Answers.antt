use Rattle.std.proofs.Common.{◌≡◌, ◌∙◌, subst, sym}
use Rattle.std.proofs.lemmas.Result.{IfErr-weaker, IfOk-weaker}
use Rattle.sqlite_trees.specs.View.{IsClean}
use Rattle.journal.specs.Journal.{Clean, durable, written}
use Rattle.durable_store.specs.declared.durable.Durable.{Durable}
use Rattle.durable_store.specs.Held.{ArePrepared, undecided}
use Rattle.durable_store.specs.Names.{IndexesNames}
use Rattle.durable_store.proofs.Resumed.{IsReadAgain, leaves-before, not-made, not-prepared, resumed, resumed-found}
use Rattle.durable_store.proofs.recovered_store.resume.Goals as goal

pub returns-in-Err-store_of-clause-followed : goal.returns-in-Err-store_of-clause-followed
returns-in-Err-store_of-clause-followed g c = λ stray clean.
    let journal = c.args.journal in
    let was : Clean g.S.Store journal = subst (λ trees. IsClean (g.S.Store.view trees)) c.into_store-in-Err-store_of.ensures clean in
    (was, not-made (durable g.S.Store journal) c.args.said.now (c.requires.said was) (c.in-Err-store_of.ensures.followed stray))

pub recovered_or_back-requires : goal.recovered_or_back-requires
recovered_or_back-requires g c =
    let read : IsReadAgain g.S.Store c.args.journal c.prepared_of.new.journal c.args.said.now c.in-Ok-store_of.store = record {
      same = c.requires.same;
      says = c.requires.said;
      settled = λ clean. c.is_settled.ensures (c.requires.is_open clean);
      of = c.in-Ok-store_of.ensures.store;
      own = c.in-Ok-store_of.ensures.own;
      kept = c.in-Ok-prepared_of.ensures.kept;
      written = c.in-Ok-prepared_of.ensures.written;
      durable = c.in-Ok-prepared_of.ensures.durable;
      clean = c.prepared_of.ensures.clean;
      crash = c.prepared_of.ensures.crash;
    } in
    resumed g.S.Store c.args.journal c.prepared_of.new.journal c.args.said.now c.in-Ok-store_of.store c.in-Ok.names c.in-Ok-prepared_of.prepared c.is_strong-strong.result read
    (subst (λ os. IndexesNames os c.in-Ok.names) c.deref.ensures.value c.in-Ok.ensures) c.in-Ok-prepared_of.ensures.prepared c.is_strong-strong.ensures

pub returns-in-Ok-prepared_of-clause-found : goal.returns-in-Ok-prepared_of-clause-found
returns-in-Ok-prepared_of-clause-found g c =
    let made : Durable g.row.S.Denot = record { store = c.in-Ok-store_of.store; journal = c.prepared_of.new.journal; names = c.in-Ok.names; prepared = c.in-Ok-prepared_of.prepared; strong = c.is_strong-strong.result } in
    let says : Clean g.S.Store made.journal → written g.S.Store made.journal ≡ durable g.S.Store c.args.journal = λ clean. c.in-Ok-prepared_of.ensures.written clean ∙ c.requires.same (c.prepared_of.ensures.clean clean) in
    let read : IsReadAgain g.S.Store c.args.journal c.prepared_of.new.journal c.args.said.now c.in-Ok-store_of.store = record {
      same = c.requires.same;
      says = c.requires.said;
      settled = λ clean. c.is_settled.ensures (c.requires.is_open clean);
      of = c.in-Ok-store_of.ensures.store;
      own = c.in-Ok-store_of.ensures.own;
      kept = c.in-Ok-prepared_of.ensures.kept;
      written = c.in-Ok-prepared_of.ensures.written;
      durable = c.in-Ok-prepared_of.ensures.durable;
      clean = c.prepared_of.ensures.clean;
      crash = c.prepared_of.ensures.crash;
    } in
    let sound =
    resumed g.S.Store c.args.journal c.prepared_of.new.journal c.args.said.now c.in-Ok-store_of.store c.in-Ok.names c.in-Ok-prepared_of.prepared c.is_strong-strong.result read
    (subst (λ os. IndexesNames os c.in-Ok.names) c.deref.ensures.value c.in-Ok.ensures) c.in-Ok-prepared_of.ensures.prepared c.is_strong-strong.ensures in
    IfOk-weaker c.recovered_or_back.result _ _ (λ d did clean. resumed-found g.S.Store (durable g.S.Store c.args.journal) made d sound says did clean) c.recovered_or_back.ensures.recovers

pub returns-in-Ok-prepared_of-clause-crash : goal.returns-in-Ok-prepared_of-clause-crash
returns-in-Ok-prepared_of-clause-crash g c =
    let made : Durable g.row.S.Denot = record { store = c.in-Ok-store_of.store; journal = c.prepared_of.new.journal; names = c.in-Ok.names; prepared = c.in-Ok-prepared_of.prepared; strong = c.is_strong-strong.result } in
    let says : Clean g.S.Store made.journal → written g.S.Store made.journal ≡ durable g.S.Store c.args.journal = λ clean. c.in-Ok-prepared_of.ensures.written clean ∙ c.requires.same (c.prepared_of.ensures.clean clean) in
    IfErr-weaker c.recovered_or_back.result _ _ (λ e leaves. leaves-before g.S.Store c.args.journal made e.1 c.prepared_of.ensures.clean says c.prepared_of.ensures.crash leaves) c.recovered_or_back.ensures.crash

pub returns-in-Err-prepared_of-clause-followed : goal.returns-in-Err-prepared_of-clause-followed
returns-in-Err-prepared_of-clause-followed g c = λ stray clean.
    let journal = c.args.journal in
    let read : Clean g.S.Store c.prepared_of.new.journal = subst (λ trees. IsClean (g.S.Store.view trees)) c.into_store-in-Err-prepared_of.ensures clean in
    let was : Clean g.S.Store journal = c.prepared_of.ensures.clean read in
    let store = c.in-Ok-store_of.store in (
      was,
      not-prepared (durable g.S.Store journal) (written g.S.Store journal) c.args.said.now store (c.requires.said was) (c.requires.same was) c.in-Ok-store_of.ensures.store
          (λ are. c.in-Err-prepared_of.ensures.strays stray read (subst (λ rs. ArePrepared store.history (written g.S.Store journal) (undecided store.history rs)) (sym c.deref-2.ensures.value) are)),
    )
