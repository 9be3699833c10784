use Rattle.std.proofs.Common.{◌≡◌, List, Bool, refl, sym, ap, subst, ◌∙◌}
use Rattle.type_table.specs.ConflictTable.{conflicts}
use Rattle.declared_types.specs.TypeFile.{conflicts_of}
use Rattle.pair_needs.specs.Explained.{IsExplained}
use Rattle.pair_needs.specs.declared.explained.Explained.{Explained}
use Rattle.pair_needs.proofs.Said.{explained-mended, explained-plain}
use Rattle.pair_needs.proofs.explainer.Explainer.with_mends.Goals as goal
use Rattle.pair_needs.proofs.explainer.Explainer.with_mends.Goals.{then-is_to_mend+in_ok-explained, else-is_to_mend}

pub returns : goal.returns
returns c =
    let kind = c.args.pair.kind in
    let file = c.args.file.now in
    let p = c.args.pair.p in
    let q = c.args.pair.q in
    let listed : c.conflicts-listed.result ≡ conflicts (conflicts_of kind file) p q = c.conflicts-listed.ensures ∙ ap (λ (rows : List (List Bool)). conflicts rows p q) c.conflicts.ensures.exact in
    elim c.if-is_to_mend.branch [
      | then-is_to_mend+in_ok-explained w ↦
          subst (λ (e : Explained). IsExplained kind file p q e) (sym w.explained-is)
          (explained-mended kind file p q _ (record { requested = refl; held = refl; listed = listed; need = c.requires.need; witness = c.requires.witness }) (sym c.is_to_mend.ensures ∙ w.if-is_to_mend.true)
          w.in_ok-explained.ensures w.fails_outside.ensures)
      | else-is_to_mend w ↦
          subst (λ (e : Explained). IsExplained kind file p q e) (sym w.explained-is)
          (explained-plain kind file p q _ (record { requested = refl; held = refl; listed = listed; need = c.requires.need; witness = c.requires.witness }) (sym c.is_to_mend.ensures ∙ w.if-is_to_mend.false)
          c.new.ensures.items refl)
    ]
