-- What `make` is asked for.
use Rattle.std.specs.Borrow.{Bor}
use Rattle.std.specs.Prelude.{map, ◌≡◌, ◌≢◌, ℕ, ◌^◌, List, [], ◌∷◌, nat_lt, Option, Some, None, Result, Ok, Err, option_map, option_and_then, codes, length, ◌==◌, if◌then◌else◌}
use Rattle.std.specs.Str.{bytes_eq}
use Rattle.decimals.specs.Decimals.{number_of, long_number_of}
use Rattle.number_types.specs.Number.{Number}
use Rattle.type_table.specs.Name.{is_name}
use Rattle.table_families.specs.Account.{account as account_family, AccountFits}
use Rattle.table_families.specs.Amounts.{AreAmounts}
use Rattle.table_families.specs.Counter.{counter as counter_family, CounterFits}
use Rattle.table_families.specs.Elements.{AreElements}
use Rattle.table_maker.specs.Made.{Family}
use Rattle.table_families.specs.Semiqueue.{semiqueue as semiqueue_family, AreSemiqueueParameters, SemiqueueFits}
use Rattle.table_families.specs.Set.{set as set_family, SetFits}
use Rattle.table_families.specs.Number.{amounts_number, AreNumberAmounts, NumberFits}
use Rattle.table_families.specs.Queue.{queue as queue_family, QueueFits}
use Rattle.table_families.specs.Seats.{seats as seats_family, AreSeats, SeatsFit}
use Rattle.table_families.specs.Stock.{stock as stock_family, StockFits}
use Rattle.table_maker.specs.declared.make_error.MakeError.{MakeError}
use Rattle.table_maker.specs.declared.make_error.MakeError.TheVariants.{BadParameter, TooLarge, NoMemory}
use Rattle.type_commands.specs.declared.request.Request.{Request}
use Rattle.type_commands.specs.declared.request.Request.TheVariants as request

-- the bytes of a word
abbrev pub Text : Type 0
Text = List ℕ

-- the words behind references
abbrev pub texts : List (Bor Text) → List Text
texts words = map (λ w. w.now) words

-- a family and its parameters
pub data Wanted : Type 0 where
  account : ℕ → List ℕ → Wanted
  counter : ℕ → List ℕ → Wanted
  stock : ℕ → List ℕ → Wanted
  set : List Text → Wanted
  semiqueue : List Text → ℕ → Wanted
  queue : List Text → ℕ → Wanted
  seats : ℕ → Wanted
  number : ℕ → List ℕ → Wanted

-- what a request asks for
abbrev pub wanted_by : Request → Wanted
wanted_by (request.Account cap amounts) = account cap amounts.items
wanted_by (request.Counter cap amounts) = counter cap amounts.items
wanted_by (request.Stock cap amounts) = stock cap amounts.items
wanted_by (request.Set elements) = set elements.items
wanted_by (request.Semiqueue elements capacity) = semiqueue elements.items capacity
wanted_by (request.Queue elements capacity) = queue elements.items capacity
wanted_by (request.Seats count) = seats count
wanted_by (request.Number max amounts) = number max amounts.items

-- ---- words

-- the number that a word is, below 65,536, which no parameter reaches
abbrev pub parameter_of : Text → Option ℕ
parameter_of word = option_and_then (λ n. if nat_lt n (2 ^ 16) then Some n else None) (number_of word)

-- the number that a word is, of up to ten digits, at most 4,294,967,295
abbrev pub long_parameter_of : Text → Option ℕ
long_parameter_of word = option_and_then (λ n. if nat_lt n (2 ^ 32) then Some n else None) (long_number_of word)

-- the name that a word is
abbrev pub name_of_text : Text → Option Text
name_of_text word = if is_name word then Some word else None

module _ {T : Type 0} where
  -- what each of the words says, where all of them say something
  abbrev pub each_of : (Text → Option T) → List Text → Option (List T)
  each_of read [] = Some []
  each_of read (word ∷ rest) = option_and_then (λ value. option_map (λ values. value ∷ values) (each_of read rest)) (read word)

-- a size and amounts
abbrev pub of_amounts : (ℕ → List ℕ → Wanted) → Text → List Text → Option Wanted
of_amounts family size items = option_and_then (λ cap. option_map (family cap) (each_of parameter_of items)) (parameter_of size)

-- a size and elements
abbrev pub of_elements : (List Text → ℕ → Wanted) → Text → List Text → Option Wanted
of_elements family size items = option_and_then (λ capacity. option_map (λ elements. family elements capacity) (each_of name_of_text items)) (parameter_of size)

-- elements alone, where the size is 0
abbrev pub of_set : Text → List Text → Option Wanted
of_set size items = if bytes_eq size (codes "0") then option_map set (each_of name_of_text items) else None

-- a size alone
abbrev pub of_seats : Text → List Text → Option Wanted
of_seats size items = if length items == 0 then option_map seats (parameter_of size) else None

-- a greatest value and amounts, each of up to ten digits
abbrev pub of_number : Text → List Text → Option Wanted
of_number size items = option_and_then (λ max. option_map (number max) (each_of long_parameter_of items)) (long_parameter_of size)

-- what FAMILY, SIZE and the ITEMs ask for
abbrev pub wanted_of : Text → Text → List Text → Option Wanted
wanted_of family size items =
    if bytes_eq family (codes "account") then of_amounts account size items
    else if bytes_eq family (codes "counter") then of_amounts counter size items
    else if bytes_eq family (codes "stock") then of_amounts stock size items
    else if bytes_eq family (codes "set") then of_set size items
    else if bytes_eq family (codes "semiqueue") then of_elements semiqueue size items
    else if bytes_eq family (codes "queue") then of_elements queue size items
    else if bytes_eq family (codes "seats") then of_seats size items
    else if bytes_eq family (codes "number") then of_number size items
    else None

-- the result is what the words say, or `BadParameter` where they say nothing; memory is refused only where they say something
abbrev pub GivesSaid : {T V : Type 0} → Option T → (V → T) → Result V MakeError → Type 0
GivesSaid said shown (Ok value) = said ≡ Some (shown value)
GivesSaid said shown (Err BadParameter) = said ≡ None
GivesSaid said shown (Err TooLarge) = ⊥
GivesSaid said shown (Err NoMemory) = said ≢ None

-- ---- families

-- the parameters are good
abbrev pub IsGood : Wanted → Type 0
IsGood (account cap amounts) = AreAmounts cap amounts
IsGood (counter cap amounts) = AreAmounts cap amounts
IsGood (stock cap amounts) = AreAmounts cap amounts
IsGood (set elements) = AreElements 25 elements
IsGood (semiqueue elements capacity) = AreSemiqueueParameters elements capacity
IsGood (queue elements capacity) = AreSemiqueueParameters elements capacity
IsGood (seats count) = AreSeats count
IsGood (number max amounts) = AreNumberAmounts max amounts

-- the family isn't too large at them
abbrev pub Fits : Wanted → Type 0
Fits (account cap amounts) = AccountFits cap amounts
Fits (counter cap amounts) = CounterFits amounts
Fits (stock cap amounts) = StockFits amounts
Fits (set elements) = SetFits elements
Fits (semiqueue elements capacity) = SemiqueueFits elements capacity
Fits (queue elements capacity) = QueueFits elements capacity
Fits (seats count) = SeatsFit count
Fits (number max amounts) = NumberFits amounts

-- what is made: the file of a family, or a number, which has no table
pub data Formula : Type 0 where
  table : Family → Formula
  value : Number → Formula

-- the formula at them
abbrev pub formula_of : Wanted → Formula
formula_of (account cap amounts) = table (account_family cap amounts)
formula_of (counter cap amounts) = table (counter_family cap amounts)
formula_of (stock cap amounts) = table (stock_family cap amounts)
formula_of (set elements) = table (set_family elements)
formula_of (semiqueue elements capacity) = table (semiqueue_family elements capacity)
formula_of (queue elements capacity) = table (queue_family elements capacity)
formula_of (seats count) = table (seats_family count)
formula_of (number max amounts) = value (amounts_number max amounts)
