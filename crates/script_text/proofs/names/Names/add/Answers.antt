use Rattle.std.proofs.Common.{[], ◌∷◌, sym, subst}
use Rattle.std.proofs.lemmas.List.Elements.{All-weaker}
use Rattle.script_text.specs.Fronts.{FindsName}
use Rattle.script_text.proofs.FrontWords.{FindsName-more}
use Rattle.script_text.proofs.names.Names.add.Goals as goal

pub invariant_of-self-2 : goal.invariant_of-self-2
invariant_of-self-2 c =
    let old = c.self.inside.names.items in
    let new = c.push.new.self.items in
    All-weaker (FindsName old) (FindsName new) (λ front finds. subst (λ names. FindsName names front) (sym c.in_ok-push.ensures.items) (FindsName-more old (c.args.name ∷ []) front finds)) c.self.inside.fronts c.self.invariant
