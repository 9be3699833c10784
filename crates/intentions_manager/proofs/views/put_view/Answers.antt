use Rattle.std.proofs.Common.{◌≡◌, ℕ, List, arith, cond, set, sym, ap, ◌∙◌}
use Rattle.std.specs.List.{insert}
use Rattle.std.proofs.lemmas.List.Edits.{insert_end}
use Rattle.intentions_manager.specs.Views.{view_owner, ViewsAscend, view_index, IsViewAt, seen_by}
use Rattle.intentions_manager.specs.declared.views.View.{View}
use Rattle.object_trait.proofs.Rows.{place-within, put_there, put_before}
use Rattle.intentions_manager.proofs.Seeing.{seen_nowhere}
use Rattle.intentions_manager.proofs.views.put_view.Goals as goal

-- who has no view sees no entries
none : (t : ℕ) (views : List View) → ViewsAscend views → (IsViewAt t (view_index t views) views → ⊥) → (seen_by t 0 views).count ≡ 0
none t views ordered free = ap (λ (v : View). v.count) (seen_nowhere t 0 views ordered free)

pub push_reserved-requires : goal.push_reserved-requires
push_reserved-requires c = c.requires.room (none c.args.view.by c.args.views.now.items c.requires.ordered (c.requires.place.elsewhere c.if-place.false))

pub insert-requires : goal.insert-requires
insert-requires c =
    let within = place-within view_owner c.args.view.by c.args.views.now.items in
    let index = c.requires.place.index in
    let long = c.args.views.now.ok.0 in
    omega (arith, within, index, long)

pub returns-then-place : goal.returns-then-place
returns-then-place c =
    let views = c.args.views.now.items in
    let view = c.args.view in
    ap (λ n. set views n view) c.requires.place.index ∙ put_there view_owner view views (c.requires.place.there c.if-place.true)

pub returns-then-place-len : goal.returns-then-place-len
returns-then-place-len c =
    let views = c.args.views.now.items in
    let view = c.args.view in
    let last = sym (c.if-place-len.true ∙ c.len.ensures ∙ c.args.views.now.ok.0) ∙ c.requires.place.index in
    c.push_reserved.ensures.items ∙ sym (insert_end views view) ∙ ap (λ n. insert views n view) last ∙ put_before view_owner view views (c.requires.place.elsewhere c.if-place.false)

pub returns-else-place-len : goal.returns-else-place-len
returns-else-place-len c =
    let views = c.args.views.now.items in
    let view = c.args.view in
    c.insert.ensures.items ∙ ap (λ b. cond b (insert views c.args.place.at view) views) (c.insert.ensures.succeeds (c.requires.room (none view.by views c.requires.ordered (c.requires.place.elsewhere c.if-place.false)))) ∙ ap (λ n. insert views n view) c.requires.place.index
    ∙ put_before view_owner view views (c.requires.place.elsewhere c.if-place.false)
