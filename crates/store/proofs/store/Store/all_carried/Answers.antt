use Rattle.std.proofs.Common.{◌≡◌, length, map, sym, ◌∙◌, arith}
use Rattle.std.proofs.lemmas.Bool.{false≢true}
use Rattle.std.proofs.lemmas.List.{length-map}
use Rattle.store.proofs.Rooms.{few-enough, too-many}
use Rattle.store.proofs.store.Store.all_carried.Goals as goal

pub returns-then-not-has_place_for-clause-refused : goal.returns-then-not-has_place_for-clause-refused
returns-then-not-has_place_for-clause-refused g c =
    let ms = map g.R.Recovery.meaning c.args.added.items in
    let as_many : c.len.result ≡ length ms = omega (arith, length-map c.args.added.items g.R.Recovery.meaning, c.len.ensures, c.args.added.ok.0) in
    too-many c.args.self.now c.len.result ms c.has_place_for.result c.has_place_for.ensures c.if-not-has_place_for.true as_many

pub returns-then-not-are_fresh-clause-refused : goal.returns-then-not-are_fresh-clause-refused
returns-then-not-are_fresh-clause-refused g c =
    let ms = map g.R.Recovery.meaning c.args.added.items in
    let as_many : c.len.result ≡ length ms = omega (arith, length-map c.args.added.items g.R.Recovery.meaning, c.len.ensures, c.args.added.ok.0) in (
      few-enough c.args.self.now c.len.result ms c.has_place_for.result c.has_place_for.ensures c.if-not-has_place_for.false as_many,
      λ fresh. false≢true (sym c.if-not-are_fresh.true ∙ c.are_fresh.ensures.1 fresh),
    )

pub returns-in-Err-clause-refused : goal.returns-in-Err-clause-refused
returns-in-Err-clause-refused g c =
    let ms = map g.R.Recovery.meaning c.args.added.items in
    let as_many : c.len.result ≡ length ms = omega (arith, length-map c.args.added.items g.R.Recovery.meaning, c.len.ensures, c.args.added.ok.0) in
    (few-enough c.args.self.now c.len.result ms c.has_place_for.result c.has_place_for.ensures c.if-not-has_place_for.false as_many, c.are_fresh.ensures.0 c.if-not-are_fresh.false)
