use Rattle.std.proofs.Common.{◌≡◌, ◌∙◌, ◌++◌, Result, Ok, Err, ap, map, subst, sym}
use Rattle.std.specs.Prelude.{OnOk}
use Rattle.std.proofs.lemmas.Result.{IfErr-weaker, on_ok_weaker}
use Rattle.objects.specs.Object.{meaning_of}
use Rattle.store_laws.specs.Stored.{types_of}
use Rattle.journal.specs.Journal.{written}
use Rattle.journal.specs.Journal.{durable as durable_of}
use Rattle.durable_store.specs.Growth.{AreAdded}
use Rattle.durable_store.specs.Names.{HaveNewNames}
use Rattle.durable_store.proofs.GrowthOver.{grows, leaves-growth, made-for, over-alike, refuses}
use Rattle.durable_store.proofs.Growths.{added-placed}
use Rattle.durable_store.proofs.durable.Durable.extend.Goals as goal

-- what comes of two facts where the answer is `Ok`
from-both : {T E : Type 0} (r : Result T E) {P Q R : Type 0} → OnOk r P → OnOk r Q → (P → Q → R) → OnOk r R
from-both (Ok x) first second give = give first second
from-both (Err e) first second give = tt

pub grow_named-requires-clause-types : goal.grow_named-requires-clause-types
grow_named-requires-clause-types g c = λ clean.
    let growth = c.in-Ok-growth_of.growth in
    let was = c.in-Ok.known.texts.items in
    let now = (written g.S.Store c.known.new.self.journal).types in
    let known : was ≡ now = c.in-Ok.ensures.texts clean ∙ sym (ap (λ f. f.types) (c.in-Ok.ensures.written clean)) in
    let added = types_of (map meaning_of growth.objects.items) in
    subst (λ ts. AreAdded (ts ++ growth.texts.items) growth.lines.items added) known
    (added-placed c.args.texts.now (was ++ growth.texts.items) c.args.lines.now growth.lines.items added c.in-Ok-growth_of.ensures.grown.placed c.in-Ok-growth_of.ensures.grown.are)

pub returns-in-Ok-growth_of-clause-store : goal.returns-in-Ok-growth_of-clause-store
returns-in-Ok-growth_of-clause-store g c = on_ok_weaker c.grow_named.result.1 (λ over.
    let added = types_of (map meaning_of c.in-Ok-growth_of.growth.objects.items) in (
      added,
      c.in-Ok-growth_of.ensures.grown.are,
      over-alike added c.args.self.store c.known.new.self.store c.args.self.prepared.items c.known.new.self.prepared.items c.grow_named.result.0.store c.grow_named.result.0.prepared.items c.in-Ok.ensures.store
          (ap (λ rs. rs.items) c.in-Ok.ensures.prepared) over,
    )) c.grow_named.ensures.store

pub returns-in-Ok-growth_of-clause-durable : goal.returns-in-Ok-growth_of-clause-durable
returns-in-Ok-growth_of-clause-durable g c = from-both c.grow_named.result.1 c.grow_named.ensures.store c.grow_named.ensures.durable (λ over durable clean.
    let growth = c.in-Ok-growth_of.growth in
    let new = c.grow_named.result.0 in
    let between = c.grow_named.ensures.clean clean in
    grows c.args.texts.now c.args.lines.now c.in-Ok.known.texts.items (types_of (map meaning_of growth.objects.items)) growth.texts.items growth.lines.items c.args.self.store c.known.new.self.store
    c.args.self.prepared.items c.known.new.self.prepared.items new.store new.prepared.items (written g.S.Store c.args.self.journal) (written g.S.Store c.known.new.self.journal) (durable_of g.S.Store new.journal)
    (made-for c.in-Ok.known.texts.items c.args.texts.now c.args.lines.now growth c.in-Ok-growth_of.ensures.grown) (c.in-Ok.ensures.texts between) c.in-Ok.ensures.store (ap (λ rs. rs.items) c.in-Ok.ensures.prepared) (c.in-Ok.ensures.written between) over (durable clean))

pub returns-in-Ok-growth_of-clause-why : goal.returns-in-Ok-growth_of-clause-why
returns-in-Ok-growth_of-clause-why g c = IfErr-weaker c.grow_named.result.1 _ _ (λ why refused.
    refuses c.args.texts.now c.args.lines.now (map meaning_of c.in-Ok-growth_of.growth.objects.items) c.args.self.store c.known.new.self.store c.args.self.prepared.items c.known.new.self.prepared.items why
    c.in-Ok-growth_of.ensures.grown.are c.in-Ok-growth_of.ensures.grown.fresh c.in-Ok.ensures.store (ap (λ rs. rs.items) c.in-Ok.ensures.prepared) refused) c.grow_named.ensures.why

pub returns-in-Ok-growth_of-clause-crash : goal.returns-in-Ok-growth_of-clause-crash
returns-in-Ok-growth_of-clause-crash g c =
    let growth = c.in-Ok-growth_of.growth in
    leaves-growth g.S.Store c.args.self c.known.new.self c.grow_named.result.0 c.args.texts.now c.args.lines.now c.in-Ok.known.texts.items (types_of (map meaning_of growth.objects.items)) growth.texts.items growth.lines.items
    (made-for c.in-Ok.known.texts.items c.args.texts.now c.args.lines.now growth c.in-Ok-growth_of.ensures.grown) c.in-Ok.ensures.store c.in-Ok.ensures.prepared c.in-Ok.ensures.life c.in-Ok.ensures.clean c.in-Ok.ensures.written c.in-Ok.ensures.texts c.in-Ok.ensures.crash c.grow_named.ensures.crash

pub returns-in-Ok-growth_of-clause-named : goal.returns-in-Ok-growth_of-clause-named
returns-in-Ok-growth_of-clause-named g c = from-both c.grow_named.result.1 c.grow_named.ensures.store c.grow_named.ensures.durable (λ extends durable clean.
    subst (λ objects. HaveNewNames objects c.args.lines.now) (c.in-Ok.ensures.objects (c.grow_named.ensures.clean clean)) c.in-Ok-growth_of.ensures.named)
