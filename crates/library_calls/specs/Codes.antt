-- What exports answer: codes, and of each its number.
use Rattle.std.specs.Prelude.{ℕ, Option, Some, None}
use Rattle.serial_order.specs.declared.refusal.Refusal.{Refusal}
use Rattle.serial_order.specs.declared.refusal.Refusal.TheVariants as refusal
use Rattle.store.specs.declared.refusals.ExtendRefusal.{ExtendRefusal}
use Rattle.store.specs.declared.refusals.ExtendRefusal.TheVariants as extends
use Rattle.store.specs.declared.refusals.NewRefusal.{NewRefusal}
use Rattle.store.specs.declared.refusals.NewRefusal.TheVariants as begins
use Rattle.store.specs.declared.refusals.PeekRefusal.{PeekRefusal}
use Rattle.store.specs.declared.refusals.PeekRefusal.TheVariants as peek
use Rattle.store.specs.declared.refusals.RenewRefusal.{RenewRefusal}
use Rattle.store.specs.declared.refusals.RenewRefusal.TheVariants as renews
use Rattle.store.specs.declared.event_replay.Stray.{Stray}
use Rattle.store.specs.declared.event_replay.Stray.TheVariants as stray
use Rattle.table_maker.specs.declared.make_error.MakeError.{MakeError}
use Rattle.table_maker.specs.declared.make_error.MakeError.TheVariants as make
use Rattle.library_calls.specs.declared.code.Code.{Code}
use Rattle.library_calls.specs.declared.code.Code.TheVariants.{Done, NotOpen, NoObject, NoCall, TooManyOpen, HistoryFull, NoMemory, BadRollback, NotHeld, InUse, BadText, Refused, BadKind, NoObjects, TooManyObjects, NotFresh, BadMax, StillOpen, NotMade, Forgotten, BadParameter, TooLarge, NoState, NoOperation, NotLegal, NoRoom, NeedsEscrow, Changes}

abbrev pub number : Code → ℕ
number Done = 0
number NotOpen = 1
number NoObject = 2
number NoCall = 3
number TooManyOpen = 4
number HistoryFull = 5
number NoMemory = 6
number BadRollback = 7
number NotHeld = 8
number InUse = 9
number BadText = 10
number Refused = 11
number BadKind = 12
number NoObjects = 13
number TooManyObjects = 14
number NotFresh = 15
number BadMax = 16
number StillOpen = 17
number NotMade = 18
number Forgotten = 19
number BadParameter = 20
number TooLarge = 21
number NoState = 22
number NoOperation = 23
number NotLegal = 24
number NoRoom = 25
number NeedsEscrow = 26
number Changes = 27

-- of a call of a store, which may be refused. A refusal has the number that the text of a run gives it
abbrev pub code_of : Option Refusal → Code
code_of None = Done
code_of (Some refusal.NotOpen) = NotOpen
code_of (Some refusal.NoObject) = NoObject
code_of (Some refusal.NoCall) = NoCall
code_of (Some refusal.TooManyOpen) = TooManyOpen
code_of (Some refusal.HistoryFull) = HistoryFull
code_of (Some refusal.NoMemory) = NoMemory
code_of (Some refusal.BadRollback) = BadRollback

-- of the objects of a store
abbrev pub new_code : NewRefusal → Code
new_code begins.NoObjects = NoObjects
new_code begins.TooManyObjects = TooManyObjects
new_code begins.NotFresh = NotFresh
new_code begins.BadMax = BadMax
new_code begins.NoMemory = NoMemory

-- of a store that is to begin anew
abbrev pub renew_code : RenewRefusal → Code
renew_code renews.StillOpen = StillOpen
renew_code renews.NoMemory = NoMemory

-- of a store that is to begin anew with more objects
abbrev pub extend_code : ExtendRefusal → Code
extend_code extends.StillOpen = StillOpen
extend_code extends.TooManyObjects = TooManyObjects
extend_code extends.NotFresh = NotFresh
extend_code extends.NoMemory = NoMemory

-- of a call that is to be answered to a transaction that only reads
abbrev pub peek_code : PeekRefusal → Code
peek_code peek.NoObject = NoObject
peek_code peek.NoCall = NoCall
peek_code peek.Changes = Changes

-- of an event that is to be made again
abbrev pub stray_code : Stray → Code
stray_code stray.NotMade = NotMade
stray_code stray.NoMemory = NoMemory

-- of a family whose type is to be made
abbrev pub made_code : MakeError → Code
made_code make.BadParameter = BadParameter
made_code make.TooLarge = TooLarge
made_code make.NoMemory = NoMemory
