use Rattle.std.proofs.Common.{◌≡◌, ℕ, ◌-◌, ◌≤◌, List, length, drop, min, refl, ap, subst, ◌∙◌, arith}
use Rattle.std.proofs.lemmas.List.{length-drop}
use Rattle.object_trait.specs.declared.event.Event.{Event}
use Rattle.library_calls.specs.Histories.{copied, IsFilled}
use Rattle.library_calls.proofs.Rooms.{filled_behind}
use Rattle.library_calls.proofs.event_rooms.events.Goals as goal

pub returns-clause-copied : goal.returns-clause-copied
returns-clause-copied c =
    let s = c.args.store.now in
    let from = c.args.from in
    let first = c.forgotten_count-forgotten.result in
    let is : first ≡ s.forgotten = c.forgotten_count-forgotten.ensures in
    let behind : s.forgotten ≤ from = omega (arith, is, c.if-from-forgotten.false) in
    let filled : IsFilled (drop s.forgotten s.history) (from - s.forgotten) c.args.room.now c.fill.new.room =
    subst (λ (n : ℕ). IsFilled (drop s.forgotten s.history) (from - n) c.args.room.now c.fill.new.room) is
    (subst (λ (es : List Event). IsFilled es (from - first) c.args.room.now c.fill.new.room) c.history.ensures.exact c.fill.ensures.filled)
    in
    let long : length c.history.result.now ≡ length s.history - s.forgotten = ap length c.history.ensures.exact ∙ length-drop s.forgotten s.history in
    let left : length c.history.result.now - (from - first) ≡ length s.history - from = omega (arith, long, is, behind) in
    copied refl behind (filled_behind s.history s.forgotten from c.args.room.now c.fill.new.room behind filled) (c.fill.ensures.counted ∙ ap (min (length c.args.room.now)) left)
