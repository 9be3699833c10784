use Rattle.std.proofs.Common.{◌≡◌, ◌∙◌, Some, refl, sym, subst, arith}
use Rattle.std.specs.List.{slice_get}
use Rattle.std.proofs.lemmas.Option.{same_Some, slice_get_read}
use Rattle.type_table.specs.Commute.{Commutes}
use Rattle.pair_needs.specs.Needs.{only}
use Rattle.pair_needs.specs.declared.leads.Lead.{Lead}
use Rattle.pair_needs.proofs.Places.{lead_inside}
use Rattle.pair_needs.proofs.witness.found_at.Goals as goal

pub shown_length-requires-clause-state : goal.shown_length-requires-clause-state
shown_length-requires-clause-state c =
    lead_inside c.ends_within.ensures c.args.table.now c.args.leads.now c.args.place c.index-leads-place.result c.requires.leads
    (slice_get_read c.args.leads.now _ c.args.place c.index-leads-place.result refl c.requires.place c.index-leads-place.is)

pub returns-in_err-length-clause-none : goal.returns-in_err-length-clause-none
returns-in_err-length-clause-none c = rw c.from_residual.ensures (λ m there.
    let at : slice_get c.args.leads.now c.args.place ≡ Some c.index-leads-place.result =
    slice_get_read c.args.leads.now _ c.args.place c.index-leads-place.result refl c.requires.place c.index-leads-place.is in
    subst (λ (x : Lead). Commutes c.args.pair.kind c.args.table.now (only x.state) c.args.pair.p c.args.pair.q) (same_Some c.index-leads-place.result m (sym at ∙ there)) c.in_err-length.ensures)

pub returns-clause-none : goal.returns-clause-none
returns-clause-none c = record {
  lead = c.index-leads-place.result;
  there = slice_get_read c.args.leads.now _ c.args.place c.index-leads-place.result refl c.requires.place c.index-leads-place.is;
  state_is = refl;
  shown = c.in_ok-length.length;
  least_shown = c.in_ok-length.ensures;
  together = omega (arith, c.len.ensures, c.index-leads-place.result.list.ok.0);
}
