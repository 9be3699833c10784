-- Commands of the worked examples.
use Rattle.std.specs.Prelude.{ℕ, List, [], ◌∷◌, codes}
use Rattle.serial_order.specs.declared.command.Command.{Command}
use Rattle.serial_order.specs.declared.command.Command.TheVariants.{Begin, Call, Commit}

-- at the second object, 1 asks for a balance and 2 pays in, and 2 commits first. Transactions 0 and 3 ask for nothing
abbrev pub balance_and_deposit : List (ℕ × Command)
balance_and_deposit =
    (0, Begin) ∷ (0, Commit 0) ∷ (0, Begin) ∷ (0, Begin) ∷ (0, Call 1 1 (codes "balance")) ∷ (0, Call 2 1 (codes "deposit:1"))
    ∷ (0, Commit 2) ∷ (0, Commit 1) ∷ (0, Begin) ∷ (0, Commit 3) ∷ []
