use Rattle.std.proofs.Common.{◌≡◌, ℕ, ◌+◌, ◌*◌, ◌<◌, List, [], ◌∷◌, ◌++◌, length, get_or, set, inl, inr, sym, subst, ◌∙◌, arith}
use Rattle.std.specs.Prelude.{Vec}
use Rattle.std.specs.declared.alloc.Global.{Global}
use Rattle.std.proofs.lemmas.Bool.{cases_lt}
use Rattle.exact_tables.specs.Predecessors.{lists_of, HaveSteps}
use Rattle.exact_tables.proofs.StepLists.{IsBefore, steps-same, steps-put, steps-skip}
use Rattle.exact_tables.proofs.predecessors.put_state.Goals as goal
use Rattle.exact_tables.proofs.predecessors.put_state.Goals.{in-Some+in_ok-put, in_default}

pub loop-k-init : goal.loop-k-init
loop-k-init c = steps-same c.args.table.now _ (IsBefore c.args.s 0) (lists_of c.args.lists.now) c.requires.lists
    (λ a j j_in below. inl below)
    (λ a j j_in is. elim is [ inl below ↦ below | inr here ↦ absurd (omega (arith, here.1)) ])

pub loop-k-preserved : goal.loop-k-preserved
loop-k-preserved c =
    let T = c.args.table.now in
    let s = c.args.s in
    let k = c.loop-k.k in
    let was = lists_of c.loop-k.lists in
    elim c.match-next.branch [
      | in-Some+in_ok-put w ↦
          let t = w.in-Some.t in
          let k_in : k < length T.ops = omega (arith, c.loop-k-test.true, c.op_count-ops.ensures.exact) in
          let put_is = subst (λ (n : ℕ). lists_of w.put.new.lists ≡ set was (t * n + k) (get_or was (t * n + k) [] ++ s ∷ [])) c.op_count-ops.ensures.exact w.in_ok-put.ensures in
          subst (λ (l : List (Vec ℕ Global)). HaveSteps T (IsBefore s (k + 1)) (lists_of l)) (sym w.lists-is)
          (subst (λ (l : List (List ℕ)). HaveSteps T (IsBefore s (k + 1)) l) (sym put_is)
          (steps-put T s k t was w.in-Some.ensures.inside k_in (sym c.next.ensures.exact ∙ w.in-Some.is) c.loop-k.invariant))
      | in_default w ↦
          subst (λ (l : List (Vec ℕ Global)). HaveSteps T (IsBefore s (k + 1)) (lists_of l)) (sym w.lists-is)
          (steps-skip T s k was (sym c.next.ensures.exact ∙ w.in_default.is) c.loop-k.invariant)
    ]

pub returns : goal.returns
returns c = steps-same c.args.table.now (IsBefore c.args.s c.loop-k.k) (λ a j. a < c.args.s + 1) (lists_of c.loop-k.lists) c.loop-k.invariant
    (λ a j j_in is. elim is [ inl below ↦ omega (arith, below) | inr here ↦ omega (arith, here.0) ])
    (λ a j j_in below. elim (cases_lt a c.args.s) [
      | inl before ↦ inl before
      | inr past ↦ inr (omega (arith, past, below), omega (arith, j_in, c.op_count-ops.ensures.exact, c.loop-k-test.false))
    ])
