use Rattle.std.proofs.Common.{◌≡◌, ◌↔◌, ◌∙◌, ap, length, map, sym, subst, true}
use Rattle.std.proofs.lemmas.List.{length-map}
use Rattle.object_trait.specs.Meaning.{Meaning}
use Rattle.objects.specs.Object.{meaning_of}
use Rattle.carried_orders.specs.Orders.{AreStrong}
use Rattle.store_laws.specs.Stored.{types_of}
use Rattle.durable_store.specs.declared.durable.Durable.{Durable}
use Rattle.durable_store.specs.GrowthParts.{IsAheadBy}
use Rattle.durable_store.specs.Held.{moved_among}
use Rattle.durable_store.specs.NextStore.{BeginsNext, GoOver, RefusesNext}
use Rattle.durable_store.proofs.Carried.{go-in, is-carried}
use Rattle.durable_store.proofs.Growths.{ahead-by}
use Rattle.durable_store.proofs.GrowthOver.{grown-by, leaves-grown}
use Rattle.durable_store.proofs.NextStores.{goes, refuses-over, went-over}
use Rattle.durable_store.proofs.durable.Durable.grow.Goals as goal

pub write_growth-requires-clause-ahead : goal.write_growth-requires-clause-ahead
write_growth-requires-clause-ahead g c =
    let d = c.args.self in
    let growth = c.args.growth in
    let moved = c.in-Ok.moved in
    let those = moved.those.items in
    let store = c.in-Ok-next_store.store in
    let ms = map meaning_of growth.objects.items in
    let still = c.stays_strong-still.result in
    let ahead : Durable g.row.S.Denot = record { store = store; journal = d.journal; names = c.args.names; prepared = moved.prepared; strong = still } in
    let as-many : length growth.lines.items ≡ length (types_of ms) =
    c.requires.as_many ∙ sym (length-map growth.objects.items meaning_of) ∙ sym (length-map ms (λ (m : Meaning). m.checked)) in
    let going : GoOver d.strong d.store.history d.prepared.items those = go-in d.strong d.store.history d.prepared.items c.deref.result.now those c.deref.ensures.value c.in-Ok.ensures.going in
    let begins : BeginsNext d.strong d.store those (types_of ms) store = subst (λ ns. BeginsNext d.strong d.store ns (types_of ms) store) c.deref-3.ensures.value c.in-Ok-next_store.ensures.begins in
    let stays : (still ≡ true) ↔ ((d.strong ≡ true) × AreStrong (types_of ms)) =
    subst (λ os. (still ≡ true) ↔ ((d.strong ≡ true) × AreStrong (types_of (map meaning_of os)))) c.deref-2.ensures.value c.stays_strong-still.ensures in
    subst (λ ts. IsAheadBy g.S.Store ts c.deref-in-Ok-next_store-2.result.now ahead) (sym c.deref-in-Ok-next_store.ensures.value)
    (subst (λ ls. IsAheadBy g.S.Store growth.texts.items ls ahead) (sym c.deref-in-Ok-next_store-2.ensures.value)
    (ahead-by g.S.Store d those store moved.prepared c.args.names still growth.texts.items growth.lines.items (types_of ms) c.at_is_strong.ensures c.requires.sound
    (is-carried g.S.Store d those (types_of ms) store c.requires.sound going begins) (c.in-Ok.ensures.renumbers ∙ ap (map (moved_among those)) c.deref.ensures.value)
    c.in-Ok-next_store.ensures.traced stays as-many c.requires.types c.requires.named))

pub returns-in-Ok-write_growth-clause-store : goal.returns-in-Ok-write_growth-clause-store
returns-in-Ok-write_growth-clause-store g c =
    let d = c.args.self in
    let moved = c.in-Ok.moved in
    let those = moved.those.items in
    let store = c.in-Ok-next_store.store in
    let new = c.write_growth.new.self in
    let added = types_of (map meaning_of c.args.growth.objects.items) in
    let going : GoOver d.strong d.store.history d.prepared.items those = go-in d.strong d.store.history d.prepared.items c.deref.result.now those c.deref.ensures.value c.in-Ok.ensures.going in
    let begins : BeginsNext d.strong d.store those added store = subst (λ ns. BeginsNext d.strong d.store ns added store) c.deref-3.ensures.value c.in-Ok-next_store.ensures.begins in
    went-over added d.store d.prepared.items store moved.prepared new.store new.prepared c.in-Ok-write_growth.ensures.store c.write_growth.ensures.prepared
    (goes d.strong added d.store d.prepared.items those store moved.prepared.items c.requires.sound.strong going begins (c.in-Ok.ensures.renumbers ∙ ap (map (moved_among those)) c.deref.ensures.value))

pub returns-in-Ok-write_growth-clause-crash : goal.returns-in-Ok-write_growth-clause-crash
returns-in-Ok-write_growth-clause-crash g c =
    let d = c.args.self in
    let growth = c.args.growth in
    let moved = c.in-Ok.moved in
    let those = moved.those.items in
    let store = c.in-Ok-next_store.store in
    let ms = map meaning_of growth.objects.items in
    let going : GoOver d.strong d.store.history d.prepared.items those = go-in d.strong d.store.history d.prepared.items c.deref.result.now those c.deref.ensures.value c.in-Ok.ensures.going in
    let begins : BeginsNext d.strong d.store those (types_of ms) store = subst (λ ns. BeginsNext d.strong d.store ns (types_of ms) store) c.deref-3.ensures.value c.in-Ok-next_store.ensures.begins in
    leaves-grown g.S.Store d those store moved.prepared c.write_growth.new.self growth.texts.items growth.lines.items (types_of ms) c.requires.sound going begins
    (c.in-Ok.ensures.renumbers ∙ ap (map (moved_among those)) c.deref.ensures.value)
    (grown-by g.S.Store d c.write_growth.new.self c.deref-in-Ok-next_store.result.now growth.texts.items c.deref-in-Ok-next_store-2.result.now growth.lines.items store.types store.history moved.prepared.items
    c.deref-in-Ok-next_store.ensures.value c.deref-in-Ok-next_store-2.ensures.value c.write_growth.ensures.crash)

pub returns-in-Ok-next_store-clause-crash : goal.returns-in-Ok-next_store-clause-crash
returns-in-Ok-next_store-clause-crash g c =
    let d = c.args.self in
    let growth = c.args.growth in
    let moved = c.in-Ok.moved in
    let those = moved.those.items in
    let store = c.in-Ok-next_store.store in
    let ms = map meaning_of growth.objects.items in
    let going : GoOver d.strong d.store.history d.prepared.items those = go-in d.strong d.store.history d.prepared.items c.deref.result.now those c.deref.ensures.value c.in-Ok.ensures.going in
    let begins : BeginsNext d.strong d.store those (types_of ms) store = subst (λ ns. BeginsNext d.strong d.store ns (types_of ms) store) c.deref-3.ensures.value c.in-Ok-next_store.ensures.begins in
    leaves-grown g.S.Store d those store moved.prepared c.write_growth.new.self growth.texts.items growth.lines.items (types_of ms) c.requires.sound going begins
    (c.in-Ok.ensures.renumbers ∙ ap (map (moved_among those)) c.deref.ensures.value)
    (grown-by g.S.Store d c.write_growth.new.self c.deref-in-Ok-next_store.result.now growth.texts.items c.deref-in-Ok-next_store-2.result.now growth.lines.items store.types store.history moved.prepared.items
    c.deref-in-Ok-next_store.ensures.value c.deref-in-Ok-next_store-2.ensures.value c.write_growth.ensures.crash)

pub returns-clause-why : goal.returns-clause-why
returns-clause-why g c =
    let d = c.args.self in
    let those = c.in-Ok.moved.those.items in
    let ms = map meaning_of c.args.growth.objects.items in
    let why = c.in-Err-next_store.refusal in
    let going : GoOver d.strong d.store.history d.prepared.items those = go-in d.strong d.store.history d.prepared.items c.deref.result.now those c.deref.ensures.value c.in-Ok.ensures.going in
    let refuses : RefusesNext d.strong d.store those ms why = subst (λ ns. RefusesNext d.strong d.store ns ms why) c.deref-3.ensures.value c.in-Err-next_store.ensures.refused in
    refuses-over d.strong d.store d.prepared.items those ms why c.requires.sound.strong going refuses
