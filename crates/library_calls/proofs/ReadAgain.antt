-- An event is read again of its words.
use Rattle.std.proofs.Common.{◌≡◌, ℕ, ◌<◌, ◌≤◌, true, ◌&&◌, nat_le, nat_lt, Some, None, option_map, refl, ap, ◌∙◌, arith}
use Rattle.std.specs.Prelude.{if◌then◌else◌}
use Rattle.std.proofs.lemmas.Bool.Decides.{nat_tests}
use Rattle.type_table.specs.Operation.{places}
use Rattle.object_trait.specs.declared.event.Event.{Event}
use Rattle.object_trait.specs.declared.event.EventKind.{EventKind}
use Rattle.object_trait.specs.declared.event.EventKind.TheVariants as kind
use Rattle.library_calls.specs.EventWords.{words_by, event_words, are_numbers, place_at, happened_at, event_at, AreSmall, HasNumbers}
use Rattle.library_calls.specs.Operations.{operation_count, operation_by_number}
use Rattle.library_calls.specs.declared.event_words.ColockEvent.{ColockEvent}

-- small numbers pass the test
numbers_pass : (t u w : ℕ) → t ≤ 4294967295 → u ≤ 4294967295 → w ≤ 255 → (nat_le t 4294967295 && nat_le u 4294967295 && nat_le w 255) ≡ true
numbers_pass t u w a b c =
    let first : nat_le t 4294967295 ≡ true = grind (arith, nat_tests, a) in
    let second : nat_le u 4294967295 ≡ true = grind (arith, nat_tests, b) in
    let third : nat_le w 255 ≡ true = grind (arith, nat_tests, c) in
    rw (first, second, third) refl

-- the number of an operation, and a place, are found again
operation_found : (k : ℕ) → k < operation_count → operation_by_number k ≡ Some k
operation_found k below =
    let test : nat_lt k operation_count ≡ true = grind (arith, nat_tests, below) in
    ap (λ b. if b then Some k else None) test

place_found : (c : ℕ) → c < places → place_at c ≡ Some c
place_found c below =
    let test : nat_lt c places ≡ true = grind (arith, nat_tests, below) in
    ap (λ b. if b then Some c else None) test

-- what is read where they do
event_of : (words : ColockEvent) (happened : EventKind) → are_numbers words ≡ true → happened_at words ≡ Some happened
    → event_at words ≡ Some (record { worker = words.worker; kind = happened })
event_of words happened pass is =
    ap (λ b. if b then option_map (λ h. record { worker = words.worker; kind = h }) (happened_at words) else None) pass
    ∙ ap (option_map (λ h. record { worker = words.worker; kind = h })) is

read_by : (w : ℕ) (happened : EventKind) → w ≤ 255 → AreSmall happened → event_at (words_by w happened) ≡ Some (record { worker = w; kind = happened })
read_by w (kind.Begin t) few small = event_of (words_by w (kind.Begin t)) (kind.Begin t) (numbers_pass t 0 w small (omega arith) few) refl
read_by w (kind.Op k t x) few small =
    event_of (words_by w (kind.Op k t x)) (kind.Op k t x) (numbers_pass t 0 w small.0 (omega arith) few) (ap (option_map (λ operation. kind.Op operation t x)) (operation_found k small.1))
read_by w (kind.Busy c t x u) few small =
    event_of (words_by w (kind.Busy c t x u)) (kind.Busy c t x u) (numbers_pass t u w small.0 small.2 few) (ap (option_map (λ d. kind.Busy d t x u)) (place_found c small.1))
read_by w (kind.None t x c) few small =
    event_of (words_by w (kind.None t x c)) (kind.None t x c) (numbers_pass t 0 w small.0 (omega arith) few) (ap (option_map (kind.None t x)) (place_found c small.1))
read_by w (kind.Commit t) few small = event_of (words_by w (kind.Commit t)) (kind.Commit t) (numbers_pass t 0 w small (omega arith) few) refl
read_by w (kind.Abort t) few small = event_of (words_by w (kind.Abort t)) (kind.Abort t) (numbers_pass t 0 w small (omega arith) few) refl
read_by w (kind.Rollback t n) few small = event_of (words_by w (kind.Rollback t n)) (kind.Rollback t n) (numbers_pass t n w small.0 small.1 few) refl

pub read_again : (e : Event) → HasNumbers e → event_at (event_words e) ≡ Some e
read_again e small = read_by e.worker e.kind small.0 small.1
