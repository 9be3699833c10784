use Rattle.std.proofs.Common.{length, take, refl, sym, subst, arith}
use Rattle.std.proofs.lemmas.List.{length-take-le, take_all}
use Rattle.std.proofs.lemmas.Option.{slice_get_read}
use Rattle.type_table.proofs.Elements.{take-found}
use Rattle.durable_store.specs.Names.{IndexesNames}
use Rattle.durable_store.proofs.NameIndexes.{index_none}
use Rattle.durable_store.proofs.object_names.ObjectNames.of.Goals as goal

pub loop-x-init : goal.loop-x-init
loop-x-init c = index_none (record { numbers = c.new.result }) c.new.ensures.empty

pub loop-x-preserved : goal.loop-x-preserved
loop-x-preserved c =
    let objects = c.args.objects.now in
    let x = c.loop-x.x in
    let o = c.index-objects-x.result in
    let there = slice_get_read objects (length objects) x o refl c.loop-x-test.true c.index-objects-x.is in
    subst (λ os. IndexesNames os c.put.new.self) (sym (take-found objects x o there)) (c.in_ok-put.ensures (take x objects) (length-take-le x objects (omega (arith, c.loop-x-test.true))) c.loop-x.invariant)

pub returns : goal.returns
returns c = subst (λ os. IndexesNames os c.loop-x.names) (take_all c.loop-x.x c.args.objects.now c.loop-x-test.false) c.loop-x.invariant
