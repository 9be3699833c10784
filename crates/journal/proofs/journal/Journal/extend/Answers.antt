use Rattle.std.proofs.Common.{◌≡◌, ◌≤◌, ◌-◌, ◌++◌, ℕ, List, ap, drop, length, sym, take, ◌∙◌, arith}
use Rattle.std.proofs.lemmas.List.{length-drop, length-take-le, take-append-drop, take_all}
use Rattle.journal.specs.declared.state_row.FirstState.{FirstState}
use Rattle.journal.specs.Contents.{contents_by, extended_at, with_pending}
use Rattle.journal.specs.Journal.{written}
use Rattle.journal.proofs.Extended.{begins-anew, extends, extends-numbers, outcome-rows-same}
use Rattle.journal.proofs.Outcomes.{by-numbers}
use Rattle.journal.proofs.Writes.{none-pending}
use Rattle.journal.proofs.journal.Journal.extend.Goals as goal

-- the first states, and the rest, are all
halves : (count : ℕ) (states : List FirstState) → take count states ++ take (length states - count) (drop count states) ≡ states
halves count states =
    ap (λ back. take count states ++ back) (take_all (length states - count) (drop count states) (omega (arith, length-drop count states))) ∙ take-append-drop count states

pub returns-clause-kept : goal.returns-clause-kept
returns-clause-kept g c = λ clean.
    let states = c.args.states.now in
    let count = length states - length c.args.objects.now in
    let low : count ≤ length states = omega arith in
    let typed = c.append_each-3.ensures.clean clean in
    let all = c.append_each-2.ensures.clean typed in
    let first = c.append_each.ensures.clean all in
    let none = c.rewrite_states.ensures.clean first in
    let before = c.empty_epoch.ensures.clean none in
    let was = c.requires.journal before in (
      rw c.clear.ensures.items (begins-anew _ (g.S.Store.view c.empty_epoch.new.store) (g.S.Store.view c.rewrite_states.new.store) (g.S.Store.view c.append_each.new.store) (g.S.Store.view c.append_each-2.new.store) _ _ _ _ _ _ _ _ _ _ _
          was.0 (c.in_ok-empty_epoch.ensures.ok none) (c.in_ok-rewrite_states.ensures.ok first) (c.in_ok-append_each.ensures.ok all) (c.in_ok-append_each-2.ensures.ok typed)
          (c.in_ok-append_each-3.ensures.ok clean) (length-take-le count states low) (sym (c.requires.known before)) (c.requires.objects before ∙ omega (arith, c.requires.as_many before))),
      rw c.clear-2.ensures (omega arith),
      extends-numbers _ (g.S.Store.view c.empty_epoch.new.store) (g.S.Store.view c.rewrite_states.new.store) (g.S.Store.view c.append_each.new.store) (g.S.Store.view c.append_each-2.new.store) _ _ _ _ _ _ _ _ _ _ _
          was.0 (c.in_ok-empty_epoch.ensures.ok none) (c.in_ok-rewrite_states.ensures.ok first) (c.in_ok-append_each.ensures.ok all) (c.in_ok-append_each-2.ensures.ok typed)
          (c.in_ok-append_each-3.ensures.ok clean) (length-take-le count states low) (sym (c.requires.known before)) (c.requires.objects before ∙ omega (arith, c.requires.as_many before)) c.args.self.now.numbers c.args.self.now.index was.2,
    )

pub returns-clause-written : goal.returns-clause-written
returns-clause-written g c = λ clean.
    let states = c.args.states.now in
    let count = length states - length c.args.objects.now in
    let low : count ≤ length states = omega arith in
    let typed = c.append_each-3.ensures.clean clean in
    let all = c.append_each-2.ensures.clean typed in
    let first = c.append_each.ensures.clean all in
    let none = c.rewrite_states.ensures.clean first in
    let before = c.empty_epoch.ensures.clean none in
    let was = c.requires.journal before in
    let new = g.S.Store.view c.append_each-3.new.store in
    let it = c.args.self.now in
    ap (with_pending (contents_by it.numbers new.trees)) c.clear-2.ensures
    ∙ none-pending (contents_by it.numbers new.trees)
    ∙ by-numbers new.trees (g.S.Store.view it.store).trees it.numbers _
    (extends _ (g.S.Store.view c.empty_epoch.new.store) (g.S.Store.view c.rewrite_states.new.store) (g.S.Store.view c.append_each.new.store) (g.S.Store.view c.append_each-2.new.store) _ _ _ _ _ _ _ _ _ _ _
    was.0 (c.in_ok-empty_epoch.ensures.ok none) (c.in_ok-rewrite_states.ensures.ok first) (c.in_ok-append_each.ensures.ok all) (c.in_ok-append_each-2.ensures.ok typed)
    (c.in_ok-append_each-3.ensures.ok clean) (length-take-le count states low) (sym (c.requires.known before)) (c.requires.objects before ∙ omega (arith, c.requires.as_many before)))
    (outcome-rows-same _ (g.S.Store.view c.empty_epoch.new.store) (g.S.Store.view c.rewrite_states.new.store) (g.S.Store.view c.append_each.new.store) (g.S.Store.view c.append_each-2.new.store) _ _ _ _ _ _ _ _ _ _ _
    was.0 (c.in_ok-empty_epoch.ensures.ok none) (c.in_ok-rewrite_states.ensures.ok first) (c.in_ok-append_each.ensures.ok all) (c.in_ok-append_each-2.ensures.ok typed)
    (c.in_ok-append_each-3.ensures.ok clean) (length-take-le count states low) (sym (c.requires.known before)) (c.requires.objects before ∙ omega (arith, c.requires.as_many before)))
    ∙ ap (extended_at (written g.S.Store c.args.self.now) c.args.types.now c.args.objects.now) (halves count states)
