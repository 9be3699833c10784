use Rattle.std.proofs.Common.{◌<◌, ◌≤◌, map, length, vec_len, sym, ◌∙◌, arith}
use Rattle.std.proofs.lemmas.Bool.{eqb-false, false≢true}
use Rattle.std.proofs.lemmas.List.{length-map}
use Rattle.store.proofs.held_parts.held_for.Goals as goal

pub returns-then-len-limits-clause-refused : goal.returns-then-len-limits-clause-refused
returns-then-len-limits-clause-refused g c = omega (arith, length-map c.args.objects.now.items g.R.Recovery.meaning, c.if-len-limits.true, c.len.ensures, c.args.objects.now.ok.0)

pub returns-then-not-are_fresh-clause-refused : goal.returns-then-not-are_fresh-clause-refused
returns-then-not-are_fresh-clause-refused g c =
    let items = c.args.objects.now.items in
    let meaning = g.R.Recovery.meaning in
    let some : 0 < length (map meaning items) = omega (arith, length-map items meaning, eqb-false (vec_len c.args.objects.now) 0 (sym c.if-is_empty.ensures), c.args.objects.now.ok.0) in
    let few : length (map meaning items) ≤ c.args.limits.objects = omega (arith, length-map items meaning, c.if-len-limits.false, c.len.ensures, c.args.objects.now.ok.0) in
    (some, few, λ fresh. false≢true (sym c.if-not-are_fresh.true ∙ c.are_fresh.ensures.1 fresh))

pub returns-then-not-are_within-clause-refused : goal.returns-then-not-are_within-clause-refused
returns-then-not-are_within-clause-refused g c =
    let items = c.args.objects.now.items in
    let meaning = g.R.Recovery.meaning in
    let some : 0 < length (map meaning items) = omega (arith, length-map items meaning, eqb-false (vec_len c.args.objects.now) 0 (sym c.if-is_empty.ensures), c.args.objects.now.ok.0) in
    let few : length (map meaning items) ≤ c.args.limits.objects = omega (arith, length-map items meaning, c.if-len-limits.false, c.len.ensures, c.args.objects.now.ok.0) in
    (some, few, c.are_fresh.ensures.0 c.if-not-are_fresh.false, sym c.are_within.ensures ∙ c.if-not-are_within.true)

pub returns-in_default-clause-refused : goal.returns-in_default-clause-refused
returns-in_default-clause-refused g c =
    let items = c.args.objects.now.items in
    let meaning = g.R.Recovery.meaning in
    let some : 0 < length (map meaning items) = omega (arith, length-map items meaning, eqb-false (vec_len c.args.objects.now) 0 (sym c.if-is_empty.ensures), c.args.objects.now.ok.0) in
    let few : length (map meaning items) ≤ c.args.limits.objects = omega (arith, length-map items meaning, c.if-len-limits.false, c.len.ensures, c.args.objects.now.ok.0) in
    (some, few, c.are_fresh.ensures.0 c.if-not-are_fresh.false, sym c.are_within.ensures ∙ c.if-not-are_within.false)

pub returns-in_default-new-clause-refused : goal.returns-in_default-new-clause-refused
returns-in_default-new-clause-refused g c =
    let items = c.args.objects.now.items in
    let meaning = g.R.Recovery.meaning in
    let some : 0 < length (map meaning items) = omega (arith, length-map items meaning, eqb-false (vec_len c.args.objects.now) 0 (sym c.if-is_empty.ensures), c.args.objects.now.ok.0) in
    let few : length (map meaning items) ≤ c.args.limits.objects = omega (arith, length-map items meaning, c.if-len-limits.false, c.len.ensures, c.args.objects.now.ok.0) in
    (some, few, c.are_fresh.ensures.0 c.if-not-are_fresh.false, sym c.are_within.ensures ∙ c.if-not-are_within.false)

pub returns-clause-may : goal.returns-clause-may
returns-clause-may g c =
    let items = c.args.objects.now.items in
    let meaning = g.R.Recovery.meaning in
    let some : 0 < length (map meaning items) = omega (arith, length-map items meaning, eqb-false (vec_len c.args.objects.now) 0 (sym c.if-is_empty.ensures), c.args.objects.now.ok.0) in
    let few : length (map meaning items) ≤ c.args.limits.objects = omega (arith, length-map items meaning, c.if-len-limits.false, c.len.ensures, c.args.objects.now.ok.0) in
    record { some = some; few = few; fresh = c.are_fresh.ensures.0 c.if-not-are_fresh.false; limit = sym c.are_within.ensures ∙ c.if-not-are_within.false }

pub returns-clause-placed : goal.returns-clause-placed
returns-clause-placed g c = omega (arith, c.in-Ok-new.ensures, c.len-2.ensures, c.args.objects.now.ok.0)
