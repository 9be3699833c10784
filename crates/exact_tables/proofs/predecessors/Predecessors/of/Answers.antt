use Rattle.std.proofs.Common.{◌≡◌, ◌+◌, ◌*◌, ◌<◌, ℕ, List, [], length, get_or, sym, ap, ◌∙◌, arith}
use Rattle.std.specs.Prelude.{Vec}
use Rattle.std.specs.declared.alloc.Global.{Global}
use Rattle.std.proofs.lemmas.List.{length-map}
use Rattle.std.proofs.lemmas.Nat.{mul-add-lt}
use Rattle.type_table.specs.Table.{Table}
use Rattle.exact_tables.specs.Predecessors.{lists_of, ArePredecessors}
use Rattle.exact_tables.specs.declared.predecessors.Predecessors.{Predecessors}
use Rattle.exact_tables.proofs.StepLists.{read-list, listed-steps, listed-inside}
use Rattle.exact_tables.proofs.predecessors.Predecessors.of.Goals as goal

-- what is read is the list of the state and the operation
shown : (T : Table) (p : Predecessors) (t k : ℕ) (list : Vec ℕ Global) (xs : List ℕ) → ArePredecessors T p → t < T.states → k < length T.ops → list ≡ get_or p.lists.items (t * p.ops + k) list → xs ≡ list.items →
    xs ≡ get_or (lists_of p.lists.items) (t * length T.ops + k) []
shown T p t k list xs h t_in k_in read same =
    let ops_is = h.ops in
    let whole = h.steps.whole in
    let many : length (lists_of p.lists.items) ≡ length p.lists.items = length-map p.lists.items (λ (l : Vec ℕ Global). l.items) in
    let position : t * p.ops + k ≡ t * length T.ops + k = ap (λ (n : ℕ). t * n + k) ops_is in
    let inside : t * p.ops + k < length p.lists.items = omega (arith, position, many, whole, mul-add-lt t (length T.ops) k T.states t_in k_in) in
    same ∙ sym (read-list p.lists.items (t * p.ops + k) list inside read) ∙ ap (λ (i : ℕ). get_or (lists_of p.lists.items) i []) position

pub returns-clause-exact : goal.returns-clause-exact
returns-clause-exact c =
    listed-steps c.steps_within.ensures c.args.table.now (lists_of c.args.self.now.lists.items) c.deref.result.now c.args.t c.args.k c.requires.steps.table c.requires.steps.steps c.requires.state c.requires.operation
    (shown c.args.table.now c.args.self.now c.args.t c.args.k c.index.result.now c.deref.result.now c.requires.steps c.requires.state c.requires.operation c.index.ensures c.deref.ensures.value)

pub returns-clause-inside : goal.returns-clause-inside
returns-clause-inside c =
    listed-inside c.args.table.now (lists_of c.args.self.now.lists.items) c.deref.result.now c.args.t c.args.k c.requires.steps.steps c.requires.state c.requires.operation
    (shown c.args.table.now c.args.self.now c.args.t c.args.k c.index.result.now c.deref.result.now c.requires.steps c.requires.state c.requires.operation c.index.ensures c.deref.ensures.value)
