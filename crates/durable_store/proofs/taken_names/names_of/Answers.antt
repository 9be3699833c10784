use Rattle.std.proofs.Common.{length, take, refl, sym, subst}
use Rattle.std.proofs.lemmas.List.{take_all}
use Rattle.std.proofs.lemmas.Option.{slice_get_read}
use Rattle.type_table.proofs.Elements.{take-found}
use Rattle.durable_store.specs.Names.{SayNames}
use Rattle.durable_store.proofs.NameSets.{say_more, say_none}
use Rattle.durable_store.proofs.taken_names.names_of.Goals as goal

pub loop-object-init : goal.loop-object-init
loop-object-init c = say_none c.new-names.result.keys c.new-names.ensures.empty

pub loop-object-preserved : goal.loop-object-preserved
loop-object-preserved c =
    let objects = c.args.objects.now in
    let n = c.loop-object.object-index in
    let o = c.object-item.result in
    let there = slice_get_read objects (length objects) n o refl c.loop-object-test.true c.object-item.is in
    subst (λ os. SayNames os c.put_name.new.names.keys) (sym (take-found objects n o there)) (say_more (take n objects) c.loop-object.names.keys c.put_name.new.names.keys o c.loop-object.invariant c.in_ok-put_name.ensures)

pub returns : goal.returns
returns c = subst (λ os. SayNames os c.loop-object.names.keys) (take_all c.loop-object.object-index c.args.objects.now c.loop-object-test.false) c.loop-object.invariant
