-- Which orders keep what precedes, event by event; and those of the runs that break.
use Rattle.std.proofs.Common.{◌≡◌, ℕ, true, false, ◌==◌, List, [], ◌∷◌, ◌++◌, refl, inl, inr, subst, append-nil, append_assoc}
use Rattle.std.specs.List.{AllByRecursion}
use Rattle.std.proofs.lemmas.Bool.{cases_Bool, false≢true, eqb-true, eq-eqb}
use Rattle.object_trait.specs.declared.event.Event.{Event}
use Rattle.object_trait.specs.declared.event.EventKind.{EventKind}
use Rattle.object_trait.specs.declared.event.EventKind.TheVariants.{Begin, Op, Commit}
use Rattle.serial_order.specs.Operations.{is_among}
use Rattle.serial_order.specs.History.{commits, committed_by}
use Rattle.serial_order.specs.Examples.{events}
use Rattle.dynamic_atomicity.specs.Dynamic.{comes_first, is_op_at, Dated, KeepsDated, KeepsObjectPrecedes}
use Rattle.dynamic_atomicity.specs.Converse.{executed_by, breaking}

-- ---- which orders keep what precedes

-- each operation comes after those that had committed, C having committed at the beginning
abbrev pub KeepsFrom : ℕ → List ℕ → List ℕ → List Event → Type 0
KeepsFrom x ts C [] = Unit {0}
KeepsFrom x ts C (e ∷ H) = ((t u : ℕ) → is_among C t ≡ true → is_op_at x u e.kind ≡ true → comes_first ts t u ≡ true) × KeepsFrom x ts (C ++ committed_by e.kind) H

keeps_there : (x : ℕ) (ts C : List ℕ) (before : List Event) (e : Event) (behind : List Event) (t u : ℕ) → KeepsFrom x ts C (before ++ e ∷ behind)
    → is_among (C ++ commits before) t ≡ true → is_op_at x u e.kind ≡ true → comes_first ts t u ≡ true
keeps_there x ts C [] e behind t u keeps ended operation = keeps.0 t u (rw (append-nil C) at ended) operation
keeps_there x ts C (f ∷ before) e behind t u keeps ended operation =
    keeps_there x ts (C ++ committed_by f.kind) before e behind t u keeps.1 (rw (append_assoc C (committed_by f.kind) (commits before)) ended) operation

pub keeps_from : (x : ℕ) (ts : List ℕ) (H : List Event) → KeepsFrom x ts [] H → KeepsObjectPrecedes x H ts
keeps_from x ts H keeps t u h inside = keeps_there x ts [] h.before h.happened h.behind t u (subst (KeepsFrom x ts []) h.whole keeps) h.ended h.operation

pub all-among : (P : ℕ → Type 0) (C : List ℕ) (s : ℕ) → AllByRecursion P C → is_among C s ≡ true → P s
all-among P [] s each among = absurd (false≢true among)
all-among P (v ∷ C) s each among = elim (cases_Bool (v == s)) [
  | inl is ↦ rw (eqb-true v s is) at each.0
  | inr isnt ↦ all-among P C s each.1 (simp isnt at among)
]

-- at an operation of v
pub keeps-op : (x : ℕ) (ts C : List ℕ) (v k : ℕ) → AllByRecursion (λ t. comes_first ts t v ≡ true) C → (t u : ℕ) → is_among C t ≡ true → is_op_at x u (Op k v x) ≡ true → comes_first ts t u ≡ true
keeps-op x ts C v k each t u ended operation = rw (eqb-true v u (simp (eq-eqb x x refl) at operation)) at (all-among (λ t. comes_first ts t v ≡ true) C t each ended)

keeps-by : (x : ℕ) (ts C : List ℕ) (v : ℕ) (r : List ℕ) (rest : List EventKind) → AllByRecursion (λ t. comes_first ts t v ≡ true) C → KeepsFrom x ts C (events rest) → KeepsFrom x ts C (events (executed_by x v r ++ rest))
keeps-by x ts C v [] rest each on = on
keeps-by x ts C v (k ∷ r) rest each on = (keeps-op x ts C v k each, rw (append-nil C) (keeps-by x ts C v r rest each on))

pub none : (x : ℕ) (ts C : List ℕ) (t u : ℕ) → is_among C t ≡ true → false ≡ true → comes_first ts t u ≡ true
none x ts C t u ended is = absurd (false≢true is)

pub keeps_breaking : (x : ℕ) (ts : List ℕ) (first second : ℕ) (w : List ℕ) (p q : ℕ) (r : List ℕ) → comes_first ts 0 1 ≡ true → comes_first ts 0 2 ≡ true
    → AllByRecursion (λ t. comes_first ts t 3 ≡ true) (0 ∷ first ∷ second ∷ []) → KeepsObjectPrecedes x (breaking x first second w p q r) ts
keeps_breaking x ts first second w p q r one two three =
    keeps_from x ts (breaking x first second w p q r) (
      none x ts [],
      keeps-by x ts [] 0 w (Commit 0 ∷ Begin 1 ∷ Begin 2 ∷ Op q 1 x ∷ Op p 2 x ∷ Commit first ∷ Commit second ∷ Begin 3 ∷ (executed_by x 3 r ++ Commit 3 ∷ [])) tt (
        none x ts [],
        (
          none x ts (0 ∷ []),
          (
            none x ts (0 ∷ []),
            (
              keeps-op x ts (0 ∷ []) 1 q (one, tt),
              (
                keeps-op x ts (0 ∷ []) 2 p (two, tt),
                (
                  none x ts (0 ∷ []),
                  (
                    none x ts (0 ∷ first ∷ []),
                    (
                      none x ts (0 ∷ first ∷ second ∷ []),
                      keeps-by x ts (0 ∷ first ∷ second ∷ []) 3 r (Commit 3 ∷ []) three (none x ts (0 ∷ first ∷ second ∷ []), tt),
                    ),
                  ),
                ),
              ),
            ),
          ),
        ),
      ),
    )

-- an order has each operation after those that had committed before it, where it has it after each of them
pub kept-each : (ts : List ℕ) (D : List Dated) → AllByRecursion (λ (d : Dated). AllByRecursion (λ t. comes_first ts t d.entry.by ≡ true) d.after) D → KeepsDated ts D
kept-each ts [] each = tt
kept-each ts (d ∷ D) each = ((λ inside t before. all-among (λ v. comes_first ts v d.entry.by ≡ true) d.after t each.0 before), kept-each ts D each.1)
