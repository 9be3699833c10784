-- Operations of several transactions at several objects, oldest first.
use Rattle.std.specs.Prelude.{ℕ, List, map, filter, Bool, not, ◌==◌}
use Rattle.std.specs.List.{list_any, flat_map}
use Rattle.serial_order.specs.declared.entry.Entry.{Entry}

-- the transaction is one of these
abbrev pub is_among : List ℕ → ℕ → Bool
is_among ts t = list_any (λ u. u == t) ts

-- the operations alone
abbrev pub ops : List Entry → List ℕ
ops V = map (λ e. e.op) V

-- those at one object
abbrev pub at_object : ℕ → List Entry → List Entry
at_object x V = filter (λ e. e.at == x) V

abbrev pub is_by : ℕ → Entry → Bool
is_by t e = e.by == t

-- those of one transaction
abbrev pub of : ℕ → List Entry → List Entry
of t V = filter (is_by t) V

-- those of these transactions, one transaction after another
abbrev pub serial : List ℕ → List Entry → List Entry
serial ts V = flat_map (λ t. of t V) ts

-- those of all other transactions
abbrev pub pending : List ℕ → List Entry → List Entry
pending ts V = filter (λ e. not (is_among ts e.by)) V
