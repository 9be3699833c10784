-- Replays of commands one after another.
use Rattle.store_limits.specs.declared.limits.Limits.{Limits}
use Rattle.std.proofs.Common.{◌≡◌, ℕ, suc, ◌+◌, ◌<◌, Bool, List, [], ◌∷◌, ◌++◌, length, map, refl, sym, ap, ◌∙◌, add-zero, zero-add, add-suc, suc-add, arith}
use Rattle.std.specs.Prelude.{if◌then◌else◌}
use Rattle.std.proofs.lemmas.List.{map-append, length-map}
use Rattle.object_trait.specs.Object.{Object}
use Rattle.object_trait.specs.declared.event.Event.{Event}
use Rattle.serial_order.specs.Laws.{ReplaysJoin}
use Rattle.serial_order.specs.Replay.{after_command, replay, replay_from}
use Rattle.serial_order.specs.declared.command.Command.{Command}
use Rattle.store_laws.specs.Stored.{Stored, objects}
use Rattle.attempts.specs.Commands.{commands_replayed}
use Rattle.attempts.specs.Made.{never}

-- a replay looks at the places of its own commands, wherever they are counted from
replay-alike : (os : List Object) (limits : Limits) (p q : ℕ → Bool) (n m : ℕ) (H : List Event) (cs : List (ℕ × Command))
    → ((i : ℕ) → i < length cs → p (n + i) ≡ q (m + i)) → replay_from os limits p n H cs ≡ replay_from os limits q m H cs
replay-alike os limits p q n m H [] same = refl
replay-alike os limits p q n m H (c ∷ cs) same =
    let here : p n ≡ q m = sym (ap p (add-zero n)) ∙ same 0 (omega arith) ∙ ap q (add-zero m) in
    replay-alike os limits p q (suc n) (suc m) (if p n then H else after_command os limits H (c.0) (c.1)) cs
    (λ i low. ap p (suc-add n i ∙ sym (add-suc n i)) ∙ same (suc i) (omega (arith, low)) ∙ ap q (add-suc m i ∙ sym (suc-add m i)))
    ∙ ap (λ b. replay_from os limits q (suc m) (if b then H else after_command os limits H (c.0) (c.1)) cs) here

-- the commands of one worker
abbrev asked : ℕ → List Command → List (ℕ × Command)
asked w cs = map (λ command. (w, command)) cs

-- so of a store
replayed-alike : (s : Stored) (w : ℕ) (cs : List Command) (p q : ℕ → Bool) → ((i : ℕ) → i < length cs → p i ≡ q i) → commands_replayed s p w cs ≡ commands_replayed s q w cs
replayed-alike s w cs p q same =
    let many : length (asked w cs) ≡ length cs = length-map cs (λ command. (w, command)) in
    ap (λ H. record s { history = H })
    (replay-alike (objects s) s.limits p q 0 0 s.history (asked w cs) (λ i low. ap p (zero-add i) ∙ same i (omega (arith, low, many)) ∙ ap q (sym (zero-add i))))

-- commands after others
replayed-join : ReplaysJoin → (s : Stored) (p : ℕ → Bool) (w : ℕ) (a b : List Command) → commands_replayed (commands_replayed s p w a) (λ i. p (length a + i)) w b ≡ commands_replayed s p w (a ++ b)
replayed-join joins s p w a b =
    let H = replay (objects s) s.limits p s.history (asked w a) in
    ap (λ n. record s { history = replay (objects s) s.limits (λ i. p (n + i)) H (asked w b) }) (sym (length-map a (λ command. (w, command))))
    ∙ ap (λ K. record s { history = K }) (sym (joins (objects s) s.limits p s.history (asked w a) (asked w b)))
    ∙ ap (λ cs. record s { history = replay (objects s) s.limits p s.history cs }) (sym (map-append (λ command. (w, command)) a b))

-- commands, and others after them, each at its own places
pub replayed-more : ReplaysJoin → (s mid now : Stored) (w : ℕ) (a b : List Command) (p first next : ℕ → Bool) → ((i : ℕ) → i < length a → p i ≡ first i)
    → ((i : ℕ) → i < length b → p (length a + i) ≡ next i) → mid ≡ commands_replayed s first w a → now ≡ commands_replayed mid next w b → now ≡ commands_replayed s p w (a ++ b)
replayed-more joins s mid now w a b p first next alike after before behind =
    behind
    ∙ ap (λ (m : Stored). commands_replayed m next w b) (before ∙ replayed-alike s w a first p (λ i low. sym (alike i low)))
    ∙ replayed-alike (commands_replayed s p w a) w b next (λ i. p (length a + i)) (λ i low. sym (after i low))
    ∙ replayed-join joins s p w a b

-- memory is refused nowhere
pub never-more : ReplaysJoin → (s mid now : Stored) (w : ℕ) (a b : List Command) → mid ≡ commands_replayed s never w a → now ≡ commands_replayed mid never w b → now ≡ commands_replayed s never w (a ++ b)
never-more joins s mid now w a b before behind = replayed-more joins s mid now w a b never never never (λ i low. refl) (λ i low. refl) before behind
