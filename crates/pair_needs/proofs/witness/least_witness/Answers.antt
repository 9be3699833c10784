use Rattle.std.proofs.Common.{◌≡◌, Option, Some, MatchOption, refl, subst, ◌∙◌}
use Rattle.std.specs.List.{slice_get}
use Rattle.std.proofs.lemmas.Option.{slice_get_read}
use Rattle.type_table.specs.Commute.{Commutes}
use Rattle.pair_needs.specs.Ends.{IsFirstShown}
use Rattle.pair_needs.specs.Needs.{only}
use Rattle.pair_needs.specs.declared.ends.Shown.{Shown}
use Rattle.pair_needs.specs.declared.witness.Witness.{Witness}
use Rattle.pair_needs.proofs.Places.{lead_inside, place_within, place-fails, none-fails, least-witness}
use Rattle.pair_needs.proofs.witness.least_witness.Goals as goal

pub returns-in_default : goal.returns-in_default
returns-in_default c = none-fails c.args.pair.kind c.args.table.now c.args.pair.p c.args.pair.q c.args.leads.now c.requires.leads c.in_default.ensures

pub bounds-leads-least : goal.bounds-leads-least
bounds-leads-least c = place_within c.args.pair.kind c.args.table.now c.args.pair.p c.args.pair.q c.args.leads.now c.in-Some.least c.in-Some.ensures.is_place

pub shown_at-requires-clause-state : goal.shown_at-requires-clause-state
shown_at-requires-clause-state c =
    lead_inside c.ends_within.ensures c.args.table.now c.args.leads.now c.in-Some.least.place c.index-leads-least.result c.requires.leads
    (slice_get_read c.args.leads.now _ c.in-Some.least.place c.index-leads-least.result refl (place_within c.args.pair.kind c.args.table.now c.args.pair.p c.args.pair.q c.args.leads.now c.in-Some.least c.in-Some.ensures.is_place) c.index-leads-least.is)

pub returns-in_default-2 : goal.returns-in_default-2
returns-in_default-2 c =
    let kind = c.args.pair.kind in
    let T = c.args.table.now in
    let p = c.args.pair.p in
    let q = c.args.pair.q in
    let lead = c.index-leads-least.result in
    let there : slice_get c.args.leads.now c.in-Some.least.place ≡ Some lead =
    slice_get_read c.args.leads.now _ c.in-Some.least.place c.index-leads-least.result refl (place_within c.args.pair.kind c.args.table.now c.args.pair.p c.args.pair.q c.args.leads.now c.in-Some.least c.in-Some.ensures.is_place) c.index-leads-least.is in
    let alike : Commutes kind T (only lead.state) p q =
    subst (λ (found : Option Shown). MatchOption found (Commutes kind T (only lead.state) p q) (IsFirstShown kind T p q lead.state)) c.in_default-2.is c.in_ok-shown.ensures in
    absurd (place-fails kind T p q c.args.leads.now c.in-Some.least lead c.in-Some.ensures.is_place there alike)

pub returns : goal.returns
returns c =
    let kind = c.args.pair.kind in
    let T = c.args.table.now in
    let p = c.args.pair.p in
    let q = c.args.pair.q in
    let lead = c.index-leads-least.result in
    let shown = c.in-Some-2.shown in
    let there : slice_get c.args.leads.now c.in-Some.least.place ≡ Some lead =
    slice_get_read c.args.leads.now _ c.in-Some.least.place c.index-leads-least.result refl (place_within c.args.pair.kind c.args.table.now c.args.pair.p c.args.pair.q c.args.leads.now c.in-Some.least c.in-Some.ensures.is_place) c.index-leads-least.is in
    let first : IsFirstShown kind T p q lead.state shown =
    subst (λ (found : Option Shown). MatchOption found (Commutes kind T (only lead.state) p q) (IsFirstShown kind T p q lead.state)) c.in-Some-2.is c.in_ok-shown.ensures in
    let w : Witness = record { state = lead.state; held_first = shown.held_first; lead = c.in_ok-list.list; tell = shown.tell } in
    least-witness kind T p q c.args.leads.now c.requires.leads c.in-Some.least lead shown w c.in-Some.ensures there first refl refl (c.in_ok-list.ensures.items ∙ c.deref.ensures.value) refl
