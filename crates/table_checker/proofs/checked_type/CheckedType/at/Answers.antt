use Rattle.std.proofs.Common.{◌≡◌, true, sym, subst, ap, ◌∙◌}
use Rattle.declared_types.specs.TypeFile.{file_at}
use Rattle.declared_types.specs.declared.type_file.TypeFile.{TypeFile}
use Rattle.table_checker.specs.Checked.{Checked, IsCheckedBy}
use Rattle.table_checker.specs.At.{may_begin_at, checked_at}
use Rattle.table_checker.specs.Declarations.{IsAccepted}
use Rattle.declared_types.specs.Declarations.{file_of, declared_at}
use Rattle.table_checker.specs.Still.{HoldsStill}
use Rattle.table_checker.proofs.Declared.{file_of-at, declared_for-at, holds_bounds-at, holds_still-at}
use Rattle.table_checker.proofs.checked_type.CheckedType.at.Goals as goal

-- what declares the new type
begun : (c : goal.After-result-2-1) → c.begin_at.new.self ≡ declared_at c.self.inside.declared c.args.state
begun c = c.begin_at.ensures ∙ ap (λ d. declared_at d c.args.state) c.in_ok-declared.ensures

pub invariant_of-result : goal.invariant_of-result
invariant_of-result c =
    let inside = c.self.inside in
    let d = inside.declared in
    let s = c.args.state in
    let member : may_begin_at (record { kind = inside.kind; file = file_of d }) s ≡ true =
    subst (λ (k : Checked). may_begin_at k s ≡ true) (sym c.self.view_is) (sym c.is_inside.ensures ∙ c.if-not-is_inside.false) in
    let checked = subst (λ (f : TypeFile). IsCheckedBy inside.kind f) (sym (file_of-at d s)) (c.at_is_checked.ensures (record { kind = inside.kind; file = file_of d }) s c.self.invariant.0.checked member) in
    let accepted : IsAccepted inside.kind (declared_at d s) inside.bounds =
    record { checked = checked; kinds = declared_for-at inside.kind d s c.self.invariant.0.kinds; bounds_are = holds_bounds-at inside.kind d s inside.bounds c.self.invariant.0.bounds_are } in
    let still : HoldsStill inside.kind (file_of (declared_at d s)) inside.still = holds_still-at inside.kind d s inside.still c.self.invariant.1 in (
      subst (λ e. IsAccepted inside.kind e c.copy-2.result) (sym (begun c)) (subst (λ bounds. IsAccepted inside.kind (declared_at d s) bounds) (sym c.copy-2.ensures) accepted),
      subst (λ e. HoldsStill inside.kind (file_of e) inside.still) (sym (begun c)) still,
    )

pub returns-clause-same : goal.returns-clause-same
returns-clause-same c =
    let inside = c.self.inside in
    let file : TypeFile = file_of c.begin_at.new.self in
    let same : file ≡ file_at (file_of inside.declared) c.args.state = ap file_of (begun c) ∙ file_of-at inside.declared c.args.state in
    let made : Checked = record { kind = inside.kind; file = file } in
    ap (λ (f : TypeFile). (let k : Checked = record { kind = inside.kind; file = f } in k)) same ∙ ap (λ (k : Checked). checked_at k c.args.state) c.self.view_is
