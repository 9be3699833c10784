use Rattle.std.proofs.Common.{◌≡◌, ◌↔◌, ◌++◌, Bool, true, false, map, IsTrue, refl, subst, sym, ◌∙◌}
use Rattle.std.proofs.lemmas.Bool.{true≢false}
use Rattle.serial_order.specs.Replay.{is_history_full}
use Rattle.store_laws.specs.Stored.{Stored}
use Rattle.store.proofs.Answered.{room-tested}
use Rattle.store.proofs.store.Store.has_room_for_one.Goals as goal

-- there is room where the test says so, and not where it doesn't
by-test : (answer full : Bool) → (answer ≡ true → full ≡ false) → (answer ≡ false → full ≡ true) → IsTrue answer ↔ (full ≡ false)
by-test true full there full_else = (there, λ _. refl)
by-test false full there full_else = ((λ is. absurd (true≢false (sym is))), λ free. absurd (true≢false (sym (full_else refl) ∙ free)))

pub returns : goal.returns
returns g c =
    let inside = c.self.inside in
    let H = inside.past.items ++ inside.history.items in
    let ms = map g.R.Recovery.meaning inside.objects.items in
    let tested =
    room-tested c.rows_are_counted.ensures ms inside.transactions.rows inside.past.items inside.history.items c.deref.result.now inside.forgotten c.open_count-opened.result inside.limits c.has_room.result in
    subst (λ (z : Stored). IsTrue c.has_room.result ↔ (is_history_full z.limits z.history 1 ≡ false)) c.self.view_is
    (by-test c.has_room.result (is_history_full inside.limits H 1)
    (tested true c.self.invariant.1.store.kept c.open_count-opened.ensures.exact c.self.invariant.0 c.deref.ensures.value c.has_room.ensures)
    (tested false c.self.invariant.1.store.kept c.open_count-opened.ensures.exact c.self.invariant.0 c.deref.ensures.value c.has_room.ensures))
