use Rattle.std.proofs.Common.{sym, ap, subst, ◌∙◌, arith}
use Rattle.table_checker.specs.Checked.{Checked}
use Rattle.table_checker.specs.At.{checked_at, IsInside}
use Rattle.store.proofs.renewed_objects.renewed_object.Goals as goal

pub shared_at-requires : goal.shared_at-requires
shared_at-requires g c = subst (λ (k : Checked). IsInside k c.args.state) (sym c.checked.ensures) c.requires

pub renewed-requires : goal.renewed-requires
renewed-requires g c = ap (λ (k : Checked). k.kind) c.in_ok-shared.ensures ∙ ap (λ (k : Checked). k.kind) c.checked.ensures

pub returns : goal.returns
returns g c = record {
  fits = omega arith;
  fresh = c.renewed.ensures.fresh;
  checked = c.renewed.ensures.checked ∙ c.in_ok-shared.ensures ∙ ap (λ (k : Checked). checked_at k c.args.state) c.checked.ensures;
}
