use Rattle.std.proofs.Common.{◌≡◌, [], ◌++◌, length, map, sym, ap, ◌∙◌, arith}
use Rattle.std.proofs.lemmas.Bool.{false≢true}
use Rattle.std.proofs.lemmas.List.{length-map, map-append}
use Rattle.store_laws.specs.Stored.{types_of}
use Rattle.store.proofs.Renewals.{extends}
use Rattle.store.proofs.Rooms.{few-enough, succeeded, too-many}
use Rattle.store.proofs.Stored.{stored}
use Rattle.store.proofs.store.Store.extended.Goals as goal

pub returns-then-not-has_place_for-clause-refused : goal.returns-then-not-has_place_for-clause-refused
returns-then-not-has_place_for-clause-refused g c =
    let ms = map g.R.Recovery.meaning c.args.added.items in
    let as_many : c.len.result ≡ length ms = omega (arith, length-map c.args.added.items g.R.Recovery.meaning, c.len.ensures, c.args.added.ok.0) in
    (c.requires, too-many c.args.self.now c.len.result ms c.has_place_for.result c.has_place_for.ensures c.if-not-has_place_for.true as_many)

pub returns-then-not-are_fresh-clause-refused : goal.returns-then-not-are_fresh-clause-refused
returns-then-not-are_fresh-clause-refused g c =
    let ms = map g.R.Recovery.meaning c.args.added.items in
    let as_many : c.len.result ≡ length ms = omega (arith, length-map c.args.added.items g.R.Recovery.meaning, c.len.ensures, c.args.added.ok.0) in (
      c.requires,
      few-enough c.args.self.now c.len.result ms c.has_place_for.result c.has_place_for.ensures c.if-not-has_place_for.false as_many,
      λ fresh. false≢true (sym c.if-not-are_fresh.true ∙ c.are_fresh.ensures.1 fresh),
    )

pub returns-in_default-clause-refused : goal.returns-in_default-clause-refused
returns-in_default-clause-refused g c =
    let ms = map g.R.Recovery.meaning c.args.added.items in
    let as_many : c.len.result ≡ length ms = omega (arith, length-map c.args.added.items g.R.Recovery.meaning, c.len.ensures, c.args.added.ok.0) in
    (c.requires, few-enough c.args.self.now c.len.result ms c.has_place_for.result c.has_place_for.ensures c.if-not-has_place_for.false as_many, c.are_fresh.ensures.0 c.if-not-are_fresh.false)

pub returns-then-is_err-clause-refused : goal.returns-then-is_err-clause-refused
returns-then-is_err-clause-refused g c =
    let ms = map g.R.Recovery.meaning c.args.added.items in
    let as_many : c.len.result ≡ length ms = omega (arith, length-map c.args.added.items g.R.Recovery.meaning, c.len.ensures, c.args.added.ok.0) in
    (c.requires, few-enough c.args.self.now c.len.result ms c.has_place_for.result c.has_place_for.ensures c.if-not-has_place_for.false as_many, c.are_fresh.ensures.0 c.if-not-are_fresh.false)

pub renewed_objects-requires-after_bounds : goal.renewed_objects-requires-after_bounds
renewed_objects-requires-after_bounds g c κs within = λ x m s there is.
    let its = c.self.invariant.1.store.kept.objects x m there in
    c.states_are_inside.ensures m s its.checked its.sound is

pub returns-in-Ok-with_limits-clause-extended : goal.returns-in-Ok-with_limits-clause-extended
returns-in-Ok-with_limits-clause-extended g c =
    let inside = c.self.inside in
    let meaning = g.R.Recovery.meaning in
    let both = succeeded c.add_all.result (sym c.is_err.ensures.value ∙ c.if-is_err.false) c.add_all.ensures in
    extends c.checked_headline.ensures c.runs_along.ensures c.closed_is_epoch.ensures (map meaning inside.objects.items) (map meaning c.in-Ok.all.items) (map meaning c.args.added.items)
    inside.transactions.rows (inside.past.items ++ inside.history.items) inside.limits inside.forgotten c.args.self.now c.in-Ok-with_limits.store c.self.view_is c.self.invariant.1.store.kept c.requires
    c.in-Ok.ensures c.in-Ok-with_limits.ensures.checked
    (c.in-Ok-with_limits.ensures.made.1 ∙ ap (λ ms. stored (types_of ms) [] inside.limits 0) (ap (map meaning) both ∙ map-append meaning c.in-Ok.all.items c.args.added.items))

pub returns-clause-refused : goal.returns-clause-refused
returns-clause-refused g c =
    let ms = map g.R.Recovery.meaning c.args.added.items in
    let as_many : c.len.result ≡ length ms = omega (arith, length-map c.args.added.items g.R.Recovery.meaning, c.len.ensures, c.args.added.ok.0) in
    (c.requires, few-enough c.args.self.now c.len.result ms c.has_place_for.result c.has_place_for.ensures c.if-not-has_place_for.false as_many, c.are_fresh.ensures.0 c.if-not-are_fresh.false)
