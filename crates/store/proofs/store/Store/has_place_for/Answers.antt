use Rattle.std.proofs.Common.{◌≡◌, ◌+◌, ◌-◌, ◌≤◌, length, map, nat_le, subst, arith}
use Rattle.std.proofs.lemmas.List.{length-map}
use Rattle.store_laws.specs.Stored.{Stored, types_of}
use Rattle.store.proofs.Rooms.{places-tested}
use Rattle.store.proofs.store.Store.has_place_for.Goals as goal

pub returns : goal.returns
returns g c =
    let inside = c.self.inside in
    let meaning = g.R.Recovery.meaning in
    let there : c.len.result ≡ length (types_of (map meaning inside.objects.items)) =
    omega (arith, length-map inside.objects.items meaning, length-map (map meaning inside.objects.items) (λ m. m.checked), c.len.ensures, inside.objects.ok.0) in
    let few : c.len.result ≤ inside.limits.objects = omega (arith, c.self.invariant.1.within.few, length-map inside.objects.items meaning, c.len.ensures, inside.objects.ok.0) in
    subst (λ (z : Stored). nat_le c.args.more (inside.limits.objects - c.len.result) ≡ nat_le (length z.types + c.args.more) z.limits.objects) c.self.view_is
    (places-tested c.len.result (length (types_of (map meaning inside.objects.items))) c.args.more inside.limits.objects there few)
