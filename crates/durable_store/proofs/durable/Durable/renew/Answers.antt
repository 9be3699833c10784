use Rattle.std.proofs.Common.{◌∙◌, [], ap, map}
use Rattle.durable_store.specs.Held.{moved_among}
use Rattle.durable_store.specs.NextStore.{BeginsNext, GoOver}
use Rattle.durable_store.proofs.Carried.{begins-none, carried-ahead, comes-back, go-in, is-carried, leaves-over}
use Rattle.durable_store.proofs.NextStores.{goes, went-over}
use Rattle.durable_store.proofs.durable.Durable.renew.Goals as goal

pub write_epoch-requires : goal.write_epoch-requires
write_epoch-requires g c =
    let d = c.args.self in
    let moved = c.in-Ok.moved in
    let those = moved.those.items in
    let going : GoOver d.strong d.store.history d.prepared.items those = go-in d.strong d.store.history d.prepared.items c.deref.result.now those c.deref.ensures.value c.in-Ok.ensures.going in
    let begins : BeginsNext d.strong d.store those [] c.in-Ok-next_store.store =
    begins-none d.strong d.store those c.deref-2.result.now c.new.result.items c.in-Ok-next_store.store c.deref-2.ensures.value c.new.ensures.items c.in-Ok-next_store.ensures.begins in
    carried-ahead g.S.Store d those c.in-Ok-next_store.store moved.prepared c.at_is_strong.ensures c.requires (is-carried g.S.Store d those [] c.in-Ok-next_store.store c.requires going begins)
    (c.in-Ok.ensures.renumbers ∙ ap (map (moved_among those)) c.deref.ensures.value) c.in-Ok-next_store.ensures.traced

pub returns-in-Ok-write_epoch-clause-store : goal.returns-in-Ok-write_epoch-clause-store
returns-in-Ok-write_epoch-clause-store g c =
    let d = c.args.self in
    let moved = c.in-Ok.moved in
    let those = moved.those.items in
    let store = c.in-Ok-next_store.store in
    let new = c.write_epoch.new.self in
    let going : GoOver d.strong d.store.history d.prepared.items those = go-in d.strong d.store.history d.prepared.items c.deref.result.now those c.deref.ensures.value c.in-Ok.ensures.going in
    let begins : BeginsNext d.strong d.store those [] store =
    begins-none d.strong d.store those c.deref-2.result.now c.new.result.items store c.deref-2.ensures.value c.new.ensures.items c.in-Ok-next_store.ensures.begins in
    went-over [] d.store d.prepared.items store moved.prepared new.store new.prepared c.in-Ok-write_epoch.ensures.store c.write_epoch.ensures.prepared
    (goes d.strong [] d.store d.prepared.items those store moved.prepared.items c.requires.strong going begins (c.in-Ok.ensures.renumbers ∙ ap (map (moved_among those)) c.deref.ensures.value))

pub returns-in-Ok-write_epoch-clause-crash : goal.returns-in-Ok-write_epoch-clause-crash
returns-in-Ok-write_epoch-clause-crash g c =
    let d = c.args.self in
    let moved = c.in-Ok.moved in
    let those = moved.those.items in
    let going : GoOver d.strong d.store.history d.prepared.items those = go-in d.strong d.store.history d.prepared.items c.deref.result.now those c.deref.ensures.value c.in-Ok.ensures.going in
    let begins : BeginsNext d.strong d.store those [] c.in-Ok-next_store.store =
    begins-none d.strong d.store those c.deref-2.result.now c.new.result.items c.in-Ok-next_store.store c.deref-2.ensures.value c.new.ensures.items c.in-Ok-next_store.ensures.begins in
    leaves-over g.S.Store d those c.in-Ok-next_store.store moved.prepared c.write_epoch.new.self c.requires going begins
    (c.in-Ok.ensures.renumbers ∙ ap (map (moved_among those)) c.deref.ensures.value) c.write_epoch.ensures.crash

pub returns-in-Ok-next_store-clause-crash : goal.returns-in-Ok-next_store-clause-crash
returns-in-Ok-next_store-clause-crash g c =
    let d = c.args.self in
    let moved = c.in-Ok.moved in
    let those = moved.those.items in
    let going : GoOver d.strong d.store.history d.prepared.items those = go-in d.strong d.store.history d.prepared.items c.deref.result.now those c.deref.ensures.value c.in-Ok.ensures.going in
    let begins : BeginsNext d.strong d.store those [] c.in-Ok-next_store.store =
    begins-none d.strong d.store those c.deref-2.result.now c.new.result.items c.in-Ok-next_store.store c.deref-2.ensures.value c.new.ensures.items c.in-Ok-next_store.ensures.begins in
    leaves-over g.S.Store d those c.in-Ok-next_store.store moved.prepared c.write_epoch.new.self c.requires going begins
    (c.in-Ok.ensures.renumbers ∙ ap (map (moved_among those)) c.deref.ensures.value) c.write_epoch.ensures.crash

pub returns-clause-sound : goal.returns-clause-sound
returns-clause-sound g c = comes-back g.S.Store c.args.self c.in-Err-next_store.store c.requires c.in-Err-next_store.ensures.back
