-- Strikes of nothing: they may leave a meaning as it is.
use Rattle.std.proofs.Common.{◌≡◌, ℕ, ◌-◌, List, [], length, refl, sym, subst, arith}
use Rattle.type_table.specs.declared.kind.Kind.{Kind}
use Rattle.type_table.specs.declared.kind.Kind.TheVariants.{Undo, Intentions, Escrow}
use Rattle.object_trait.specs.Object.{Object}
use Rattle.object_trait.specs.Meaning.{Meaning, object, is_open_of, open_of}
use Rattle.object_trait.specs.Steps.{IsStrikeBy, Keeps, IsStrike}
use Rattle.object_trait.specs.declared.log_entry.LogEntry.{LogEntry}
use Rattle.object_trait.proofs.Striking.{keep_first-all}

-- all open entries may stay, by kinds of recovery
strike_by : (recovery : Kind) (o : Object) (base : ℕ) (log : List LogEntry) (t : ℕ) → IsStrikeBy recovery o base log t (length (open_of t log)) base log
strike_by Undo o base log t = record { moved = []; front = keep_first-all (is_open_of t) log; done = tt; reached = refl }
strike_by Intentions o base log t = record { same_base = refl; rest = sym (keep_first-all (is_open_of t) log) }
strike_by Escrow o base log t = record { same_base = refl; rest = sym (keep_first-all (is_open_of t) log) }

-- a strike of none
pub strike-untouched : (m : Meaning) (t n : ℕ) → n ≡ 0 → IsStrike m t n m
strike-untouched m t n none =
    let all : length (open_of t m.log) ≡ length (open_of t m.log) - n = omega (arith, none) in
    subst (λ k. Keeps m t k m) all (record { checked = refl; strike = strike_by m.checked.kind (object m) m.base m.log t })
