-- What a subcommand makes of the words after its name, where it has positionals and the call for help.
use Rattle.std.proofs.Common.{arith, suc, ◌≡◌, ◌∙◌, ◌++◌, ap, refl, subst, sym, true, false, Bool, ℕ, List, [], ◌∷◌, append_assoc}
use Rattle.std.specs.Prelude.{All, codes, None, Option, fold}
use Rattle.std.specs.Str.{bytes_eq}
use Rattle.std.specs.Cmp.Lexicographic.{same_text}
use Rattle.std.proofs.lemmas.List.{append-nil}
use Rattle.clap.specs.Walk.{Held, Row, Waiting, Walk, arg_by_index, finished, idle, settled, subcommand_met, to_positional, value, walked}
use Rattle.clap.specs.Kinds.{Kinds, or_else}
use Rattle.clap.specs.Faults.{check_fault, defaults_fault, settle_fault, step_fault, turn_fault, walk_fault}
use Rattle.clap.specs.Simple.{Shape}
use Rattle.command_words.specs.Lines.{IsPlain}
use Rattle.command_words.specs.Words.{Text, without_dashes}
use Rattle.command_words.proofs.OptionLemmas.{IsFree, RefusesOptions, by_test, holding, no_option, or_else_none}

-- ---- where the walk is

-- what is held between two words, which positional's turn it is, and what waits
pub record Place : Type 0 where
  pub rows : List Row
  pub pending : Option (Text × List Text)
  pub position : ℕ
  pub waiting : Waiting

-- what is held at a place
abbrev pub held_at : Place → Held
held_at p = holding p.rows p.pending

-- the walk at a place, before (false) or after (true) the first `--`
abbrev pub at : Bool → Place → Walk
at after_dashes p = record {
  held = held_at p;
  waiting = p.waiting;
  position = p.position;
  is_trailing = after_dashes;
  stopped = None;
}

-- where the walk begins
abbrev pub start : Place
start = record { rows = []; pending = None; position = 1; waiting = idle }

-- no option waits for a value, and no subcommand is met
pub record IsBetween (s : Shape) (p : Place) : Type 0 where
  pub free : IsFree s.rules p.waiting
  pub nameless : (word : Text) → subcommand_met [] p.waiting word ≡ None

-- the faults of an operand at a place
abbrev pub operand_fault : Shape → Place → Kinds
operand_fault s p = step_fault s p.position (held_at p) value

-- ---- one word

-- the word goes to the positional whose turn it is
pub record Reads (s : Shape) (after_dashes : Bool) (p : Place) (word : Text) : Type 0 where
  pub after : walked s.rules [] (at after_dashes p) word ≡ to_positional s.rules (arg_by_index s.rules p.position) word (at after_dashes p) (held_at p)
  pub fault : turn_fault s [] (at after_dashes p) word ≡ operand_fault s p

-- each word after `--` is an operand
pub after_reads : (s : Shape) (p : Place) (word : Text) → Reads s true p word
unfolding walked
after_reads s p word = record { after = refl; fault = refl }

-- and so is one before it that isn't refused
before_reads : (s : Shape) → RefusesOptions s.rules s.args_override_self → (p : Place) → IsBetween s p → (word : Text) → bytes_eq word (codes "--") ≡ false
    → turn_fault s [] (at false p) word ≡ [] → Reads s false p word
unfolding walked
before_reads s refused p between word other none =
    let flags = (or_else_none _ _ (simp (between.nameless word, other) at none)).0 in
    let met = no_option s.rules s.args_override_self refused p.waiting between.free p.rows p.pending word flags in
    record { after = simp (between.nameless word, other, met); fault = simp (between.nameless word, other, flags, met) }

-- and one that begins with no hyphen
pub plain_reads : (s : Shape) (p : Place) → IsBetween s p → (word : Text) → IsPlain word → Reads s false p word
unfolding walked
plain_reads s p between [] plain = record { after = simp (between.nameless [], between.free [] (held_at p)); fault = simp (between.nameless [], between.free [] (held_at p)) }
plain_reads s p between (x ∷ xs) plain =
    record { after = simp (plain, between.nameless (x ∷ xs), between.free (x ∷ xs) (held_at p)); fault = simp (plain, between.nameless (x ∷ xs), between.free (x ∷ xs) (held_at p)) }

-- `--` alone moves the walk past the first `--`
pub dashes_pass : (s : Shape) (p : Place) → IsBetween s p → walked s.rules [] (at false p) (codes "--") ≡ at true p
unfolding walked
dashes_pass s p between = simp (between.nameless (codes "--"))

-- ---- all words

-- the faults at the end of the words, by what is held there
abbrev pub ends : Shape → Held → Kinds
ends s h = or_else (settle_fault s.rules s.args_override_self h)
    (or_else (defaults_fault (settled s.rules h).rows s.rules) (check_fault s (finished s.rules h) false))

-- where the walk ends
abbrev pub end_of : Shape → Walk → List Text → Walk
end_of s w rest = fold (walked s.rules []) w rest

-- the faults of the words from here on
abbrev pub faults : Shape → Walk → List Text → Kinds
faults s w rest = or_else (walk_fault s [] w rest) (ends s (end_of s w rest).held)

-- where no kind comes of either step, none comes of both
pub both_none : (a b : Kinds) → a ≡ [] → b ≡ [] → or_else a b ≡ []
both_none a b first second = ap (λ (k : Kinds). or_else k b) first ∙ second

-- no fault comes of the first word, and none of the others
pub one_word : (s : Shape) (w : Walk) (word : Text) (rest : List Text) → faults s w (word ∷ rest) ≡ []
    → (turn_fault s [] w word ≡ []) × (faults s (walked s.rules [] w word) rest ≡ [])
unfolding walk_fault
one_word s w word rest none =
    let parts = or_else_none _ _ none in
    let turns = or_else_none _ _ parts.0 in
    (turns.0, both_none _ _ turns.1 parts.1)

-- ---- operands

-- a subcommand by its operands: where the walk is after them, and what holds of operands that were taken
pub record Takes (s : Shape) (place : List Text → Place) (AreTaken : List Text → Type 0) : Type 0 where
  pub refuses : RefusesOptions s.rules s.args_override_self
  pub between : (operands : List Text) → IsBetween s (place operands)
  pub first : AreTaken []
  pub next : (operands : List Text) (word : Text) → AreTaken operands → operand_fault s (place operands) ≡ [] → AreTaken (operands ++ word ∷ [])
  pub moves : (operands : List Text) (word : Text) (after_dashes : Bool) → AreTaken operands → operand_fault s (place operands) ≡ []
      → to_positional s.rules (arg_by_index s.rules (place operands).position) word (at after_dashes (place operands)) (held_at (place operands))
      ≡ at after_dashes (place (operands ++ word ∷ []))

-- the walk over the words has come to the place of these operands, with no fault
pub record Reaches (s : Shape) (place : List Text → Place) (AreTaken : List Text → Type 0) (w : Walk) (rest operands : List Text) : Type 0 where
  pub taken : AreTaken operands
  pub held : (end_of s w rest).held ≡ held_at (place operands)
  pub fault : ends s (held_at (place operands)) ≡ []

module _ (s : Shape) (place : List Text → Place) (AreTaken : List Text → Type 0) (takes : Takes s place AreTaken) where
  -- one operand, and then the others
  first_then : (t : Bool) (operands : List Text) (word : Text) (rest all : List Text) → AreTaken operands → faults s (at t (place operands)) (word ∷ rest) ≡ []
      → Reads s t (place operands) word
      → (AreTaken (operands ++ word ∷ []) → faults s (at t (place (operands ++ word ∷ []))) rest ≡ []
      → Reaches s place AreTaken (at t (place (operands ++ word ∷ []))) rest all)
      → Reaches s place AreTaken (at t (place operands)) (word ∷ rest) all
  first_then t operands word rest all taken none reads others =
      let parts = one_word s (at t (place operands)) word rest none in
      let clear = sym reads.fault ∙ parts.0 in
      let moved = reads.after ∙ takes.moves operands word t taken clear in
      let reached = others (takes.next operands word taken clear) (subst (λ (w : Walk). faults s w rest ≡ []) moved parts.1) in
      record { taken = reached.taken; held = ap (λ (w : Walk). (end_of s w rest).held) moved ∙ reached.held; fault = reached.fault }

  -- all words after `--` are operands
  after_all : (operands rest all : List Text) → operands ++ rest ≡ all → AreTaken operands → faults s (at true (place operands)) rest ≡ []
      → Reaches s place AreTaken (at true (place operands)) rest all
  unfolding walk_fault
  after_all operands [] all are taken none =
      subst (λ (os : List Text). Reaches s place AreTaken (at true (place operands)) [] os) (sym (append-nil operands) ∙ are)
      (record { taken = taken; held = refl; fault = none })
  after_all operands (word ∷ rest) all are taken none =
      first_then true operands word rest all taken none (after_reads s (place operands) word)
      (λ next clear. after_all (operands ++ word ∷ []) rest all (append_assoc operands (word ∷ []) rest ∙ are) next clear)

  -- past `--`
  dashes_then : (operands rest all : List Text) → operands ++ rest ≡ all → AreTaken operands → faults s (at false (place operands)) (codes "--" ∷ rest) ≡ []
      → Reaches s place AreTaken (at false (place operands)) (codes "--" ∷ rest) all
  dashes_then operands rest all are taken none =
      let passed = dashes_pass s (place operands) (takes.between operands) in
      let clear = (one_word s (at false (place operands)) (codes "--") rest none).1 in
      let reached = after_all operands rest all are taken (subst (λ (w : Walk). faults s w rest ≡ []) passed clear) in
      record { taken = reached.taken; held = ap (λ (w : Walk). (end_of s w rest).held) passed ∙ reached.held; fault = reached.fault }

  -- all words but the first `--` are operands
  before_all : (operands rest all : List Text) → operands ++ without_dashes rest ≡ all → AreTaken operands → faults s (at false (place operands)) rest ≡ []
      → Reaches s place AreTaken (at false (place operands)) rest all
  unfolding walk_fault
  before_all operands [] all are taken none =
      subst (λ (os : List Text). Reaches s place AreTaken (at false (place operands)) [] os) (sym (append-nil operands) ∙ are)
      (record { taken = taken; held = refl; fault = none })
  before_all operands (word ∷ rest) all are taken none =
      let P : Text → Type 0 = λ v. operands ++ without_dashes (v ∷ rest) ≡ all → faults s (at false (place operands)) (v ∷ rest) ≡ []
      → Reaches s place AreTaken (at false (place operands)) (v ∷ rest) all in
      by_test (bytes_eq word (codes "--"))
      (λ dashes. subst P (sym (same_text word (codes "--") (sym dashes))) (λ as_dashes clear. dashes_then operands rest all as_dashes taken clear) are none)
      (λ other.
      let turn = (one_word s (at false (place operands)) word rest none).0 in
      let with_word : operands ++ word ∷ without_dashes rest ≡ all = simp other at are in
      first_then false operands word rest all taken none (before_reads s takes.refuses (place operands) (takes.between operands) word other turn)
      (λ next clear. before_all (operands ++ word ∷ []) rest all (append_assoc operands (word ∷ []) (without_dashes rest) ∙ with_word) next clear))

  -- the words of a subcommand without the first `--` are its operands
  pub operands_taken : (rest : List Text) → place [] ≡ start → faults s (at false start) rest ≡ [] → Reaches s place AreTaken (at false start) rest (without_dashes rest)
  operands_taken rest starts none =
      subst (λ (p : Place). Reaches s place AreTaken (at false p) rest (without_dashes rest)) starts
      (before_all [] rest (without_dashes rest) refl takes.first (subst (λ (p : Place). faults s (at false p) rest ≡ []) (sym starts) none))

  -- ---- plain operands are taken

  -- no fault comes of these operands, nor at the end of them
  abbrev pub Passes : List Text → List Text → Type 0
  Passes operands [] = ends s (held_at (place operands)) ≡ []
  Passes operands (word ∷ rest) = (operand_fault s (place operands) ≡ []) × Passes (operands ++ word ∷ []) rest

  -- plain operands that pass come to no fault from any place on
  plain_pass : (operands rest : List Text) → AreTaken operands → All IsPlain rest → Passes operands rest → faults s (at false (place operands)) rest ≡ []
  unfolding walk_fault
  plain_pass operands [] taken plain passes = passes
  plain_pass operands (word ∷ rest) taken plain passes =
      let reads = plain_reads s (place operands) (takes.between operands) word (plain 0 word (omega arith)) in
      let moved = reads.after ∙ takes.moves operands word false taken passes.0 in
      let others = plain_pass (operands ++ word ∷ []) rest (takes.next operands word taken passes.0) (λ k d lt. plain (suc k) d (omega arith)) passes.1 in
      let parts = or_else_none _ _ (subst (λ (w : Walk). faults s w rest ≡ []) (sym moved) others) in
      both_none _ _ (both_none _ _ (reads.fault ∙ passes.0) parts.0) parts.1

  -- plain words that pass come to no fault
  pub plain_taken : (rest : List Text) → place [] ≡ start → All IsPlain rest → Passes [] rest → faults s (at false start) rest ≡ []
  plain_taken rest starts plain passes =
      subst (λ (p : Place). faults s (at false p) rest ≡ []) starts (plain_pass [] rest takes.first plain passes)
