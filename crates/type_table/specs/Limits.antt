-- The limits of the program; `tools/limits` lists where else a number of them is written.
use Rattle.std.specs.Prelude.{ℕ}

-- the most states of a type
abbrev pub most_states : ℕ
most_states = 1024

-- the most operations of a type
abbrev pub most_ops : ℕ
most_ops = 64

-- the most events of a history's text, and commands of a script
abbrev pub most_events : ℕ
most_events = 1000000

-- the most events that a store makes
abbrev pub longest_history : ℕ
longest_history = 4294967295

-- the most workers at a store
abbrev pub most_workers : ℕ
most_workers = 16

-- the most tries of a job
abbrev pub most_tries : ℕ
most_tries = 100

-- the most bytes of a line of a text
abbrev pub longest_line : ℕ
longest_line = 200

-- the most bytes of a name
abbrev pub longest_name : ℕ
longest_name = 32
