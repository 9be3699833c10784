-- Which object a word says.
use Rattle.std.specs.Prelude.{◌≡◌, ℕ, List, length, unwrap_or}
use Rattle.store_text.specs.declared.line.ObjectLine.{ObjectLine}
use Rattle.durable_store.specs.Names.{find_named}
use Rattle.request_text.specs.declared.request.ObjectWord.{ObjectWord}
use Rattle.request_text.specs.declared.request.ObjectWord.TheVariants.{Number, Name}

-- the number that a word says: its own, or that of the object of these that has its name, if clean; a name that none has says a number that none has
abbrev pub Means : Type 0 → List ObjectLine → ObjectWord → ℕ → Type 0
Means clean objects (Number x) n = n ≡ x
Means clean objects (Name w) n = clean → n ≡ unwrap_or (find_named objects w) (length objects)
