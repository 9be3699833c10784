-- Turns that are written one after another.
use Rattle.std.proofs.Common.{◌≡◌, ℕ, zero, suc, ◌+◌, ◌≤◌, List, [], ◌∷◌, ◌++◌, length, take, Option, Some, None, slice_get, Result, Ok, Err, refl, sym, ap, ◌∙◌, subst, append_assoc, append-nil, zero-add, arith}
use Rattle.std.proofs.lemmas.Grind.{flat_map-append}
use Rattle.std.proofs.lemmas.List.{take-append-le}
use Rattle.std.proofs.lemmas.Option.{none-some, same_Some, slice_get_within}
use Rattle.std.proofs.KnownBytes.{Appends-nil, Appends-trans}
use Rattle.std.specs.Io.KnownBytes.{Appends}
use Rattle.type_table.proofs.Elements.{found-front}
use Rattle.object_trait.specs.declared.event.Event.{Event}
use Rattle.outputs.specs.Out.{Puts}
use Rattle.outputs.specs.declared.out.OutFault.{OutFault}
use Rattle.store_laws.specs.Stored.{Stored}
use Rattle.script_run.specs.Turns.{Turn, line_of, text_of_turns, history_after}
use Rattle.script_run.specs.Runs.{StopsAt, WritesAll, Writes}

-- ---- two lists of turns

-- the history after both is that after the second
pub history_after-append : (H : List Event) (xs ys : List Turn) → history_after H (xs ++ ys) ≡ history_after (history_after H xs) ys
history_after-append H [] ys = refl
history_after-append H (x ∷ xs) ys = history_after-append x.history xs ys

-- the history at a turn is that after the turns up to it
pub history_at : (H : List Event) (turns : List Turn) (i : ℕ) (turn : Turn) → slice_get turns i ≡ Some turn → turn.history ≡ history_after H (take (suc i) turns)
history_at H [] i turn at = absurd (none-some turn at)
history_at H (x ∷ turns) zero turn at = ap (λ (y : Turn). y.history) (sym (same_Some x turn at))
history_at H (x ∷ turns) (suc i) turn at = history_at x.history turns i turn at

-- their texts follow each other
pub text_of-append : (xs ys : List Turn) → text_of_turns (xs ++ ys) ≡ text_of_turns xs ++ text_of_turns ys
text_of-append xs ys = flat_map-append line_of xs ys

-- a place in the second is one in both, further on by the length of the first
pub there_second : {X : Type 0} (xs ys : List X) (n i : ℕ) → n ≡ length xs + i → slice_get (xs ++ ys) n ≡ slice_get ys i
there_second [] ys n i e = ap (slice_get ys) (e ∙ zero-add i)
there_second (x ∷ xs) ys zero i e = absurd (omega arith)
there_second (x ∷ xs) ys (suc n) i e = there_second xs ys n i (omega arith)

-- what comes before that place
take_second : {X : Type 0} (xs ys : List X) (n i : ℕ) → n ≡ length xs + i → take n (xs ++ ys) ≡ xs ++ take i ys
take_second [] ys n i e = ap (λ k. take k ys) (e ∙ zero-add i)
take_second (x ∷ xs) ys zero i e = absurd (omega arith)
take_second (x ∷ xs) ys (suc n) i e = ap (λ l. x ∷ l) (take_second xs ys n i (omega arith))

-- ---- an output that stops

-- at a turn of the first list
stops_first : (s new : Stored) (xs ys : List Turn) (a b : Option (List ℕ)) → StopsAt s xs a b new → StopsAt s (xs ++ ys) a b new
stops_first s new xs ys a b h =
    let within : h.place ≤ length xs = omega (arith, slice_get_within xs h.place h.turn h.there) in
    record {
      place = h.place;
      turn = h.turn;
      there = found-front xs ys h.place h.turn h.there;
      taken = h.taken;
      short = h.short;
      bytes = subst (λ l. Appends a b (text_of_turns l ++ take h.taken (line_of h.turn))) (sym (take-append-le h.place xs ys within)) h.bytes;
      store = h.store;
    }

-- at one of the second, where the first was written
stops_second : (s mid new : Stored) (xs ys : List Turn) (a b c : Option (List ℕ)) → WritesAll s xs a b mid → StopsAt mid ys b c new → StopsAt s (xs ++ ys) a c new
stops_second s mid new xs ys a b c all h =
    let rest = take h.taken (line_of h.turn) in
    let joined : text_of_turns (take (length xs + h.place) (xs ++ ys)) ++ rest ≡ text_of_turns xs ++ (text_of_turns (take h.place ys) ++ rest) =
    ap (λ l. text_of_turns l ++ rest) (take_second xs ys (length xs + h.place) h.place refl)
    ∙ ap (λ l. l ++ rest) (text_of-append xs (take h.place ys)) ∙ append_assoc (text_of_turns xs) (text_of_turns (take h.place ys)) rest
    in
    record {
      place = length xs + h.place;
      turn = h.turn;
      there = there_second xs ys (length xs + h.place) h.place refl ∙ h.there;
      taken = h.taken;
      short = h.short;
      bytes = subst (Appends a c) (sym joined) (Appends-trans a b c (text_of_turns xs) (text_of_turns (take h.place ys) ++ rest) all.bytes h.bytes);
      store = h.store ∙ ap (λ (m : Stored). record m { history = h.turn.history }) all.store;
    }

-- ---- turns that are written

-- none
pub no_turns : (s : Stored) (a : Option (List ℕ)) {f : Option OutFault} → f ≡ None → Writes s [] a a f s (Ok tt)
no_turns s a no_fault = record { written = record { bytes = Appends-nil a; store = refl }; fault_is = no_fault }

-- one
pub one_turn : (s new : Stored) (turn : Turn) {a b : Option (List ℕ)} {f : Option OutFault} {result : Result (Unit {0}) OutFault}
    → new ≡ record s { history = turn.history } → Puts a b f (line_of turn) result → Writes s (turn ∷ []) a b f new result
one_turn s new turn {a = a} {b = b} {result = Ok done} is p =
    record { written = record { bytes = subst (Appends a b) (sym (append-nil (line_of turn))) p.whole; store = is }; fault_is = p.fault_is }
one_turn s new turn {result = Err e} is p =
    let (n, short, bytes) = p.beginning in
    record { written = record { place = 0; turn = turn; there = refl; taken = n; short = short; bytes = bytes; store = is }; fault_is = p.fault_is }

-- some, and others after them
pub join : (s mid new : Stored) (xs ys : List Turn) {a b c : Option (List ℕ)} {f g : Option OutFault} {result : Result (Unit {0}) OutFault}
    → Writes s xs a b f mid (Ok tt) → Writes mid ys b c g new result → Writes s (xs ++ ys) a c g new result
join s mid new xs ys {a = a} {b = b} {c = c} {result = Ok done} p q =
    record {
      written = record {
        bytes = subst (Appends a c) (sym (text_of-append xs ys)) (Appends-trans a b c (text_of_turns xs) (text_of_turns ys) p.written.bytes q.written.bytes);
        store =
            q.written.store ∙ ap (λ (m : Stored). record m { history = history_after m.history ys }) p.written.store
            ∙ ap (λ K. record s { history = K }) (sym (history_after-append s.history xs ys));
      };
      fault_is = q.fault_is;
    }
join s mid new xs ys {a = a} {b = b} {c = c} {result = Err e} p q =
    record { written = stops_second s mid new xs ys a b c p.written q.written; fault_is = q.fault_is }

-- some that the output stopped, and nothing of what would follow
pub stop : (s new : Stored) (xs ys : List Turn) {a b : Option (List ℕ)} {f : Option OutFault} {e : OutFault}
    → Writes s xs a b f new (Err e) → Writes s (xs ++ ys) a b f new (Err e)
stop s new xs ys {a = a} {b = b} p = record { written = stops_first s new xs ys a b p.written; fault_is = p.fault_is }

-- where all were written, the history is that after them, and nothing else has changed
pub history_now : (s new : Stored) (xs : List Turn) {a b : Option (List ℕ)} {f : Option OutFault} → Writes s xs a b f new (Ok tt)
    → new ≡ record s { history = history_after s.history xs }
history_now s new xs p = p.written.store
