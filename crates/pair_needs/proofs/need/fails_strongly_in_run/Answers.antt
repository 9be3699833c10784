use Rattle.std.proofs.Common.{refl, sym, ◌∙◌, arith}
use Rattle.std.proofs.lemmas.Bool.{false≢true}
use Rattle.std.proofs.lemmas.Option.{slice_get_read}
use Rattle.pair_needs.proofs.Places.{lead_inside}
use Rattle.pair_needs.proofs.Needing.{strongly-more, strongly-there, strongly-nowhere}
use Rattle.pair_needs.proofs.need.fails_strongly_in_run.Goals as goal

pub fails_strongly-requires-clause-state : goal.fails_strongly-requires-clause-state
fails_strongly-requires-clause-state c =
    lead_inside c.ends_within.ensures c.args.table.now c.args.leads.now c.loop-place.place c.index-leads-place.result c.requires.leads
    (slice_get_read c.args.leads.now _ c.loop-place.place c.index-leads-place.result refl c.loop-place-test.true c.index-leads-place.is)

pub returns-then-fails_strongly : goal.returns-then-fails_strongly
returns-then-fails_strongly c = (
  (λ t. strongly-there c.args.pair.kind c.args.table.now c.args.pair.p c.args.pair.q c.args.leads.now c.requires.leads c.loop-place.place c.index-leads-place.result
      (slice_get_read c.args.leads.now _ c.loop-place.place c.index-leads-place.result refl c.loop-place-test.true c.index-leads-place.is) (c.fails_strongly.ensures.0 c.if-fails_strongly.true)),
  (λ fails. refl),
)

pub loop-place-preserved : goal.loop-place-preserved
loop-place-preserved c =
    strongly-more c.args.pair.kind c.args.table.now c.args.pair.p c.args.pair.q c.args.leads.now c.loop-place.place c.index-leads-place.result c.loop-place.invariant
    (slice_get_read c.args.leads.now _ c.loop-place.place c.index-leads-place.result refl c.loop-place-test.true c.index-leads-place.is)
    (λ fails. false≢true (sym c.if-fails_strongly.false ∙ c.fails_strongly.ensures.1 fails))

pub returns : goal.returns
returns c = (
  (λ t. absurd (false≢true t)),
  (λ fails. absurd (strongly-nowhere c.args.pair.kind c.args.table.now c.args.pair.p c.args.pair.q c.args.leads.now c.requires.leads c.loop-place.place (omega (arith, c.loop-place-test.false)) c.loop-place.invariant fails)),
)
