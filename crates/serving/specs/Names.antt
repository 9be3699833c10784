-- By which names a client knows its transactions.
use Rattle.std.specs.Prelude.{◌≡◌, ◌≢◌, ◌<◌, ℕ, ◌==◌, ◌&&◌, Bool, List, map, if◌then◌else◌, Option, Some, None, option_map}
use Rattle.std.specs.List.{AllByRecursion, find, list_any}
use Rattle.carried_runs.specs.Carried.{number_in}
use Rattle.object_trait.specs.Orders.{Pairs}
use Rattle.object_trait.specs.declared.event.Event.{Event}
use Rattle.journal.specs.declared.prepared_row.Prepared.{Prepared}
use Rattle.durable_store.specs.NextStore.{GoOver}
use Rattle.request_text.specs.declared.request.TransactionName.{TransactionName}
use Rattle.serving.specs.declared.names.Carried.{Carried}

-- the present life; who began in an earlier one, each with the number that it has now; and how many events there were as the epoch began, where that was known
pub record KnownNames : Type 0 where
  pub life : ℕ
  pub carried : List Carried
  pub begun_with : ℕ

-- a transaction that this life began
abbrev pub named : ℕ → ℕ → TransactionName
named life number = record { life = life; number = number }

-- ---- a number's name

abbrev pub is_numbered : ℕ → Carried → Bool
is_numbered number c = c.number == number

abbrev pub known_by : ℕ → ℕ → Option Carried → TransactionName
known_by life number None = named life number
known_by life number (Some c) = c.name

-- the name by which its client knows the transaction of this number: that of the first carried one that has the number, or one of this life
abbrev pub known_name : KnownNames → ℕ → TransactionName
known_name names number = known_by names.life number (find (is_numbered number) names.carried)

-- ---- a name's number

abbrev pub is_named : TransactionName → Carried → Bool
is_named t c = (c.name.life == t.life) && (c.name.number == t.number)

-- that of the first carried one of this name
abbrev pub carried_number : List Carried → TransactionName → Option ℕ
carried_number carried t = option_map (λ (c : Carried). c.number) (find (is_named t) carried)

-- this number, unless a carried one has it
abbrev pub unless_carried : List Carried → ℕ → Option ℕ
unless_carried carried number = if list_any (is_numbered number) carried then None else Some number

-- the number of the transaction of this name: this life's own says it, and is nobody's where one that was carried has that number
abbrev pub number_named : KnownNames → TransactionName → Option ℕ
number_named names t = if t.life == names.life then unless_carried names.carried t.number else carried_number names.carried t

-- ---- one name each

-- who was carried has a name of an earlier life, and no two have one number or one name
pub record AreNamedApart (names : KnownNames) : Type 0 where
  pub earlier : AllByRecursion (λ (c : Carried). c.name.life < names.life) names.carried
  pub numbered : Pairs (λ (c d : Carried). c.number ≢ d.number) names.carried
  pub named : Pairs (λ (c d : Carried). c.name ≢ d.name) names.carried

-- ---- where they come from

-- one that is prepared, by the name that its client was given
abbrev pub carried_given : Prepared → Carried
carried_given p = record { name = named p.given.life p.given.number; number = p.number }

-- where a session begins over a store in this life, in which these are prepared
abbrev pub given_names : ℕ → List Prepared → KnownNames
given_names life ps = record { life = life; carried = map carried_given ps; begun_with = 0 }

-- one that goes over into another epoch with those: by the name by which it is known, and with the number that it has there
abbrev pub carried_as : KnownNames → List ℕ → ℕ → Carried
carried_as names those number = record { name = known_name names number; number = number_in those number }

abbrev pub carried_over : KnownNames → List ℕ → List Carried
carried_over names those = map (carried_as names those) those

-- these are those that go over: all that is open after this history, or those that are prepared
pub record AreCarriedOver (names : KnownNames) (goes : Bool) (H : List Event) (ps : List Prepared) (carried : List Carried) : Type 0 where
  pub those : List ℕ
  pub in_order : GoOver goes H ps those
  pub are : carried ≡ carried_over names those
