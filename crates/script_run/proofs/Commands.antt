-- Commands that are asked one after another.
use Rattle.store_limits.specs.declared.limits.Limits.{Limits}
use Rattle.std.proofs.Common.{◌≡◌, ℕ, zero, suc, ◌+◌, ◌<◌, ◌≤◌, Bool, false, List, [], ◌∷◌, ◌++◌, length, map, take, drop, get_or, Option, None, Some, Result, Ok, Err, refl, sym, ap, ◌∙◌, subst, arith}
use Rattle.std.proofs.lemmas.Bool.{false≢true}
use Rattle.std.specs.Prelude.{slice_get}
use Rattle.std.proofs.lemmas.Option.{slice_get_within, get_or_from_slice_get}
use Rattle.std.proofs.lemmas.List.{length-map, take_more, take_all, take-append-drop}
use Rattle.object_trait.specs.Object.{Object}
use Rattle.object_trait.specs.declared.event.Event.{Event}
use Rattle.outputs.specs.declared.out.OutFault.{OutFault}
use Rattle.serial_order.specs.declared.command.Command.{Command}
use Rattle.script_text.specs.Kept.{command_said}
use Rattle.script_text.specs.declared.kept_command.KeptCommand.{KeptCommand}
use Rattle.store_laws.specs.Stored.{Stored, objects}
use Rattle.script_run.specs.Turns.{history_after, command_turn, command_turns}
use Rattle.script_run.specs.Runs.{MayRefuseMemory, Writes, RunsCommands}
use Rattle.script_run.proofs.Turns.{join, stop, no_turns, history_now}

-- ---- places at which memory is refused

-- a first place, and the others after it
first_and : Bool → (ℕ → Bool) → ℕ → Bool
first_and b others zero = b
first_and b others (suc place) = others place

-- the places of some commands, and those of the commands after them
memory_refused_both : {X : Type 0} → List X → (ℕ → Bool) → (ℕ → Bool) → ℕ → Bool
memory_refused_both [] first second = second
memory_refused_both (x ∷ xs) first second = first_and (first 0) (memory_refused_both xs (λ place. first (suc place)) second)

module _ (objects : List Object) (limits : Limits) where
  -- the turns of two lists of commands
  turns-join : (first second : ℕ → Bool) (H : List Event) (cs ds : List Command)
      → command_turns objects limits (memory_refused_both cs first second) H (cs ++ ds)
      ≡ command_turns objects limits first H cs ++ command_turns objects limits second (history_after H (command_turns objects limits first H cs)) ds
  unfolding memory_refused_both first_and
  turns-join first second H [] ds = refl
  turns-join first second H (c ∷ cs) ds =
      let turn = command_turn objects limits (first 0) H c in
      ap (λ l. turn ∷ l) (turns-join (λ place. first (suc place)) second turn.history cs ds)

  -- memory may be refused at these places of both lists
  may_refuse_memory-join : (first second : ℕ → Bool) (H : List Event) (cs ds : List Command) → MayRefuseMemory objects limits first H cs
      → MayRefuseMemory objects limits second (history_after H (command_turns objects limits first H cs)) ds → MayRefuseMemory objects limits (memory_refused_both cs first second) H (cs ++ ds)
  unfolding memory_refused_both first_and
  may_refuse_memory-join first second H [] ds p q = q
  may_refuse_memory-join first second H (c ∷ cs) ds p q =
      let turn = command_turn objects limits (first 0) H c in
      (p.0, may_refuse_memory-join (λ place. first (suc place)) second turn.history cs ds p.1 q)

  -- where it is refused nowhere, that is right
  pub never-memory_refused : (H : List Event) (cs : List Command) → MayRefuseMemory objects limits (λ place. false) H cs
  never-memory_refused H [] = tt
  never-memory_refused H (c ∷ cs) = (λ memory_refused. absurd (false≢true memory_refused), never-memory_refused (command_turn objects limits false H c).history cs)

-- ---- commands that are asked

-- none
pub no_commands : (s : Stored) (a : Option (List ℕ)) {f : Option OutFault} → f ≡ None → RunsCommands s [] a a f s (Ok tt)
no_commands s a no_fault = record { memory_refused = λ place. false; may_refuse_memory = tt; writes = no_turns s a no_fault }

-- some, and others after them
pub commands-join : (s mid new : Stored) (cs ds : List Command) {a b c : Option (List ℕ)} {f g : Option OutFault} {result : Result (Unit {0}) OutFault}
    → RunsCommands s cs a b f mid (Ok tt) → RunsCommands mid ds b c g new result → RunsCommands s (cs ++ ds) a c g new result
commands-join s mid new cs ds {b = b} {c = c} {g = g} {result = result} p q =
    let K = history_after s.history (command_turns (objects s) s.limits p.memory_refused s.history cs) in
    let now = history_now s mid (command_turns (objects s) s.limits p.memory_refused s.history cs) p.writes in
    let memory : MayRefuseMemory (objects s) s.limits q.memory_refused K ds =
    subst (λ (m : Stored). MayRefuseMemory (objects m) m.limits q.memory_refused m.history ds) now q.may_refuse_memory
    in
    let written : Writes mid (command_turns (objects s) s.limits q.memory_refused K ds) b c g new result =
    subst (λ (m : Stored). Writes mid (command_turns (objects m) m.limits q.memory_refused m.history ds) b c g new result) now q.writes
    in
    record {
      memory_refused = memory_refused_both cs p.memory_refused q.memory_refused;
      may_refuse_memory = may_refuse_memory-join (objects s) s.limits p.memory_refused q.memory_refused s.history cs ds p.may_refuse_memory memory;
      writes = rw (turns-join (objects s) s.limits p.memory_refused q.memory_refused s.history cs ds) (join s mid new _ _ p.writes written);
    }

-- some at which the output stopped, and nothing of what would follow
pub commands-stop : (s new : Stored) (cs ds : List Command) {a b : Option (List ℕ)} {f : Option OutFault} {e : OutFault}
    → RunsCommands s cs a b f new (Err e) → RunsCommands s (cs ++ ds) a b f new (Err e)
commands-stop s new cs ds p =
    record {
      memory_refused = memory_refused_both cs p.memory_refused (λ place. false);
      may_refuse_memory = may_refuse_memory-join (objects s) s.limits p.memory_refused (λ place. false) s.history cs ds p.may_refuse_memory (never-memory_refused (objects s) s.limits _ ds);
      writes = rw (turns-join (objects s) s.limits p.memory_refused (λ place. false) s.history cs ds) (stop s new _ _ p.writes);
    }

-- those before a place, and the one there
pub commands-more : (s mid new : Stored) (cs : List Command) (i : ℕ) (d : Command) {a b c : Option (List ℕ)} {f g : Option OutFault} {result : Result (Unit {0}) OutFault}
    → i < length cs → d ≡ get_or cs i d → RunsCommands s (take i cs) a b f mid (Ok tt) → RunsCommands mid (d ∷ []) b c g new result
    → RunsCommands s (take (i + 1) cs) a c g new result
commands-more s mid new cs i d {a = a} {c = c} {g = g} {result = result} inside is so_far one =
    let split : take i cs ++ d ∷ [] ≡ take (i + 1) cs = ap (λ x. take i cs ++ x ∷ []) is ∙ sym (take_more cs i d inside) in
    subst (λ l. RunsCommands s l a c g new result) split (commands-join s mid new (take i cs) (d ∷ []) so_far one)

-- those before the end
pub commands-all : (s new : Stored) (cs : List Command) (i : ℕ) {a b : Option (List ℕ)} {f : Option OutFault}
    → length cs ≤ i → RunsCommands s (take i cs) a b f new (Ok tt) → RunsCommands s cs a b f new (Ok tt)
commands-all s new cs i {a = a} {b = b} {f = f} past so_far = subst (λ l. RunsCommands s l a b f new (Ok tt)) (take_all i cs past) so_far

-- commands before a place were asked, and the output stopped at that of the place
pub commands-stop_at : (s mid new : Stored) (cs : List Command) (i : ℕ) (d : Command) {a b c : Option (List ℕ)} {f g : Option OutFault} {e : OutFault}
    → i < length cs → d ≡ get_or cs i d → RunsCommands s (take i cs) a b f mid (Ok tt) → RunsCommands mid (d ∷ []) b c g new (Err e)
    → RunsCommands s cs a c g new (Err e)
commands-stop_at s mid new cs i d {a = a} {c = c} {g = g} {e = e} inside is so_far stopped =
    subst (λ l. RunsCommands s l a c g new (Err e)) (take-append-drop (i + 1) cs)
    (commands-stop s new (take (i + 1) cs) (drop (i + 1) cs) (commands-more s mid new cs i d inside is so_far stopped))

-- ---- commands as they are kept

at_map : {A B : Type 0} (f : A → B) (xs : List A) (i : ℕ) (d : B) (x : A) → i < length xs → f (get_or xs i x) ≡ get_or (map f xs) i d
at_map f [] i d x inside = absurd (omega (arith, inside))
at_map f (y ∷ ys) zero d x inside = refl
at_map f (y ∷ ys) (suc i) d x inside = at_map f ys i d x (omega (arith, inside))

module _ (names : List (List ℕ)) (kept : List KeptCommand) (cs : List Command) (said : map (command_said names) kept ≡ cs) (i : ℕ) (k : KeptCommand) (there : slice_get kept i ≡ Some k) where
  inside : i < length kept
  inside = slice_get_within kept i k there

  as_long : length cs ≡ length kept
  as_long = ap (λ (zs : List Command). length zs) (sym said) ∙ length-map kept (command_said names)

  is_there : command_said names k ≡ get_or cs i (command_said names k)
  is_there =
      ap (command_said names) (sym (get_or_from_slice_get kept i k k there)) ∙ at_map (command_said names) kept i (command_said names k) k inside
      ∙ ap (λ (zs : List Command). get_or zs i (command_said names k)) said

  -- those before a place, and the one there
  pub kept-more : (s mid new : Stored) {a b c : Option (List ℕ)} {f g : Option OutFault} {result : Result (Unit {0}) OutFault}
      → RunsCommands s (take i cs) a b f mid (Ok tt) → RunsCommands mid (command_said names k ∷ []) b c g new result
      → RunsCommands s (take (i + 1) cs) a c g new result
  kept-more s mid new so_far one = commands-more s mid new cs i (command_said names k) (omega (arith, as_long, inside)) is_there so_far one

  -- the output stopped at that of the place
  pub kept-stop_at : (s mid new : Stored) {a b c : Option (List ℕ)} {f g : Option OutFault} {e : OutFault}
      → RunsCommands s (take i cs) a b f mid (Ok tt) → RunsCommands mid (command_said names k ∷ []) b c g new (Err e)
      → RunsCommands s cs a c g new (Err e)
  kept-stop_at s mid new so_far stopped = commands-stop_at s mid new cs i (command_said names k) (omega (arith, as_long, inside)) is_there so_far stopped
