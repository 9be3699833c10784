-- The words of `serve`, in any order.
use Rattle.std.specs.Prelude.{◌≡◌, ℕ, ◌<◌, ◌^◌, Bool, true, false, List, [], ◌∷◌, Option, Some, None, option_map, unwrap_or, codes}
use Rattle.clap.specs.Walk.{Text}
use Rattle.std.specs.Borrow.{Bor}
use Rattle.command_words.specs.declared.serve.Parts.{Parts as Found}
use Rattle.command_words.specs.Lines.{SpellsNumber, IsPlain}

-- how a store is to be served
pub record Serve : Type 0 where
  -- the path of the store
  pub database : Text
  -- a torn write is supposed to leave each byte old or new
  pub fast : Bool
  -- the folder where the histories of epochs that are over are kept, if any
  pub archive : Option Text
  -- how many seconds what is open may go on in an epoch that is full
  pub drain : ℕ
  -- how many of the last outcomes of keys stay at least
  pub outcomes : ℕ

-- what some of the words say of it
pub record ServeParts : Type 0 where
  pub database : Option Text
  pub fast : Bool
  pub archive : Option Text
  pub drain : Option ℕ
  pub outcomes : Option ℕ

-- nothing of it
abbrev pub no_parts : ServeParts
no_parts = record { database = None; fast = false; archive = None; drain = None; outcomes = None }

-- the words say these parts, each at most once: `--fast`, `--archive FOLDER`, `--drain S`, `--outcomes N`, DATABASE or `-- DATABASE`, which may then begin with a hyphen
pub data Say : List Text → ServeParts → Type 0 where
  nothing : Say [] no_parts
  fast : (rest : List Text) (p : ServeParts) → Say rest p → p.fast ≡ false → Say (codes "--fast" ∷ rest) (record p { fast = true })
  archive : (folder : Text) (rest : List Text) (p : ServeParts)
      → Say rest p → p.archive ≡ None → Say (codes "--archive" ∷ folder ∷ rest) (record p { archive = Some folder })
  drain : (text : Text) (n : ℕ) (rest : List Text) (p : ServeParts)
      → Say rest p → p.drain ≡ None → SpellsNumber text n → n < 2 ^ 32 → Say (codes "--drain" ∷ text ∷ rest) (record p { drain = Some n })
  outcomes : (text : Text) (n : ℕ) (rest : List Text) (p : ServeParts)
      → Say rest p → p.outcomes ≡ None → SpellsNumber text n → n < 2 ^ 32 → Say (codes "--outcomes" ∷ text ∷ rest) (record p { outcomes = Some n })
  database : (path : Text) (rest : List Text) (p : ServeParts)
      → Say rest p → p.database ≡ None → IsPlain path → Say (path ∷ rest) (record p { database = Some path })
  dashes : (path : Text) (rest : List Text) (p : ServeParts)
      → Say rest p → p.database ≡ None → Say (codes "--" ∷ path ∷ rest) (record p { database = Some path })

-- with the path of the store they are whole; where they don't say how many, what is open has five seconds, and a million outcomes stay
pub record AreWhole (p : ServeParts) (s : Serve) : Type 0 where
  pub database : p.database ≡ Some s.database
  pub fast : p.fast ≡ s.fast
  pub archive : p.archive ≡ s.archive
  pub drain : s.drain ≡ unwrap_or p.drain 5
  pub outcomes : s.outcomes ≡ unwrap_or p.outcomes 1000000

-- the words after `serve` say it
pub record SayServe (rest : List Text) (s : Serve) : Type 0 where
  pub parts : ServeParts
  pub say : Say rest parts
  pub whole : AreWhole parts s

-- the words are those that say it, after `serve`
abbrev pub AreServeWords : List Text → Serve → Type 0
AreServeWords words s = (rest : List Text) × (words ≡ codes "serve" ∷ rest) × SayServe rest s

-- ---- inside the reader

-- what these parts say
abbrev pub said_by : Found → ServeParts
said_by p = record { database = option_map (λ (path : Bor Text). path.now) p.database; fast = p.fast; archive = option_map (λ (folder : Bor Text). folder.now) p.archive; drain = p.drain; outcomes = p.outcomes }
