use Rattle.std.proofs.Common.{◌<◌, arith, cond, set, sym, ap, subst, ◌∙◌}
use Rattle.std.specs.Prelude.{vec_len, vec_capacity}
use Rattle.std.specs.List.{insert}
use Rattle.std.proofs.lemmas.List.Edits.{insert_end}
use Rattle.escrow_manager.specs.Marks.{mark_owner, mark_index, IsMarkAt}
use Rattle.object_trait.proofs.Rows.{place-within, unlisted, put_there, put_before}
use Rattle.escrow_manager.proofs.marks.put_mark.Goals as goal
use Rattle.escrow_manager.proofs.marks.put_mark.Goals.{Else-is_at}

-- its transaction has none
none : (c : Else-is_at) → IsMarkAt c.args.own.by (mark_index c.args.own.by c.args.marks.now.items) c.args.marks.now.items → ⊥
none c here = c.is_at.ensures.elsewhere c.if-is_at.false (subst (λ n. IsMarkAt c.args.own.by n c.args.marks.now.items) (sym c.requires.place) here)

-- so there is room
room : (c : Else-is_at) → vec_len c.args.marks.now < vec_capacity c.args.marks.now
room c = c.requires.room (unlisted mark_owner c.args.own.by c.args.marks.now.items c.requires.ordered (none c))

pub push_reserved-requires : goal.push_reserved-requires
push_reserved-requires c = room c.before.before.before

pub insert-requires : goal.insert-requires
insert-requires c =
    let within = place-within mark_owner c.args.own.by c.args.marks.now.items in
    let place = c.requires.place in
    let long = c.args.marks.now.ok.0 in
    omega (arith, within, place, long)

pub returns-then-is_at : goal.returns-then-is_at
returns-then-is_at c =
    let marks = c.args.marks.now.items in
    let own = c.args.own in
    ap (λ n. set marks n own) c.requires.place ∙ put_there mark_owner own marks (subst (λ n. IsMarkAt own.by n marks) c.requires.place (c.is_at.ensures.there c.if-is_at.true))

pub returns-then-at-len : goal.returns-then-at-len
returns-then-at-len c =
    let marks = c.args.marks.now.items in
    let own = c.args.own in
    let last = sym (c.if-at-len.true ∙ c.len.ensures ∙ c.args.marks.now.ok.0) ∙ c.requires.place in
    c.push_reserved.ensures.items ∙ sym (insert_end marks own) ∙ ap (λ n. insert marks n own) last ∙ put_before mark_owner own marks (none c.before.before.before.before)

pub returns-else-at-len : goal.returns-else-at-len
returns-else-at-len c =
    let marks = c.args.marks.now.items in
    let own = c.args.own in
    c.insert.ensures.items ∙ ap (λ b. cond b (insert marks c.args.at own) marks) (c.insert.ensures.succeeds (room c.before.before.before.before)) ∙ ap (λ n. insert marks n own) c.requires.place ∙ put_before mark_owner own marks (none c.before.before.before.before)
