use Rattle.std.proofs.Common.{sym, ◌∙◌, arith}
use Rattle.object_trait.proofs.Amounts.{told-none}
use Rattle.escrow_manager.proofs.KeptOps.{unlined, listed, none-kept}
use Rattle.escrow_manager.proofs.manager.EscrowManager.number_kept.Goals as goal

pub returns-in_default : goal.returns-in_default
returns-in_default c =
    let v = c.args.number.now in
    told-none c.args.self.now c.args.t c.args.place c.args.u
    (none-kept c.number_has_table.ensures v c.call_at.ensures.number c.args.self.now c.requires.number c.args.t c.args.place c.args.u (omega arith) c.requires.place
    (λ p n low same. unlined v p n low (same ∙ sym (c.call_at.ensures.exact) ∙ c.in_default.is)))

pub returns-in-Take : goal.returns-in-Take
returns-in-Take c =
    let v = c.args.number.now in
    told-none c.args.self.now c.args.t c.args.place c.args.u
    (none-kept c.number_has_table.ensures v c.call_at.ensures.number c.args.self.now c.requires.number c.args.t c.args.place c.args.u (omega arith) c.requires.place
    (λ p n low same. listed v p n c.in-Some.call c.in-Take.is low (same ∙ sym (c.call_at.ensures.exact) ∙ c.in-Some.is)))
