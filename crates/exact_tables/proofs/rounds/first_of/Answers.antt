use Rattle.std.proofs.Common.{◌≡◌, ◌+◌, ◌<◌, sym, ◌∙◌, subst}
use Rattle.std.proofs.lemmas.Bool.{false≢true}
use Rattle.exact_tables.specs.Search.{Marked, Strikes, IsToldAtOnce}
use Rattle.exact_tables.proofs.Loops.{told-more, told-less}
use Rattle.exact_tables.proofs.rounds.first_of.Goals as goal
use Rattle.exact_tables.proofs.rounds.first_of.Goals.{then-is_told_at_once+in_ok-strike, else-is_told_at_once}

pub loop-t-preserved : goal.loop-t-preserved
loop-t-preserved c =
    let T = c.args.table.now in
    elim c.if-is_told_at_once.branch [
      | then-is_told_at_once+in_ok-strike w ↦
          subst (λ (m : Marked). Strikes 1 (λ a b. (a ≡ c.args.s) × (b < c.loop-t.t + 1) × IsToldAtOnce T a b) c.args.search.now m) (sym w.search-is)
          (told-more T c.args.s c.loop-t.t c.args.search.now c.loop-t.search w.strike.new.self (c.is_told_at_once.ensures.0 w.if-is_told_at_once.true) c.loop-t.invariant w.in_ok-strike.ensures)
      | else-is_told_at_once w ↦
          subst (λ (m : Marked). Strikes 1 (λ a b. (a ≡ c.args.s) × (b < c.loop-t.t + 1) × IsToldAtOnce T a b) c.args.search.now m) (sym w.search-is)
          (told-less T c.args.s c.loop-t.t c.args.search.now c.loop-t.search (λ told. false≢true (sym w.if-is_told_at_once.false ∙ c.is_told_at_once.ensures.1 told)) c.loop-t.invariant)
    ]
