-- The value of a text about a store's objects.
use Rattle.std.specs.Prelude.{◌≡◌, ◌⊎◌, ℕ, ◌<◌, ◌≤◌, true, List, [], ◌∷◌, length, IfSome, Result, Ok, Err}
use Rattle.std.specs.List.{AllByRecursion}
use Rattle.std.specs.Option.{option_to_list}
use Rattle.type_table.specs.Limits.{most_events}
use Rattle.line_text.specs.Outcome.{IsReached}
use Rattle.line_text.specs.Text.{lines_of}
use Rattle.line_text.specs.declared.fault.TextFault.{TextFault}
use Rattle.line_text.specs.declared.fault.FaultKind.TheVariants.{NoMemory}
use Rattle.store_text.specs.declared.line.Line.{Line}
use Rattle.store_text.specs.declared.line.ObjectLine.{ObjectLine}
use Rattle.store_text.specs.declared.parts.Parts.{Parts}
use Rattle.store_text.specs.Body.{Body, rules_for, store_outcome}
use Rattle.store_text.specs.Said.{said_sizes, said_limits, said_objects, entries_of}
use Rattle.store_text.specs.Named.{AreNamed}
use Rattle.store_text.specs.Size.{may_have, IsSize}

-- the parts are what the lines say, where what is kept of the entries says them
pub record IsPartsOf {K A : Type 0} (b : Body A) (said : K → List A) (lines : List (Line A)) (parts : Parts K) : Type 0 where
  pub size : said_sizes lines ≡ option_to_list parts.size
  pub max : b.has_max ≡ true → said_limits lines ≡ parts.max ∷ []
  pub objects : parts.objects.items ≡ said_objects lines
  pub entries : said parts.entries ≡ entries_of lines

-- every number and count of a text's parts is in its range, where the text may have so many objects as it says
pub record AreFit {K A : Type 0} (b : Body A) (said : K → List A) (parts : Parts K) : Type 0 where
  pub size : IfSome parts.size IsSize
  pub max : b.has_max ≡ true → (2 ≤ parts.max) × (parts.max ≤ most_events)
  pub some_object : 0 < length parts.objects.items
  pub objects : length parts.objects.items ≤ may_have parts.size
  pub files : AllByRecursion (λ (o : ObjectLine). o.file < may_have parts.size) parts.objects.items
  pub named : AreNamed parts.objects.items
  pub entries : length (said parts.entries) ≤ most_events
  pub in_range : AllByRecursion (λ x. b.is_in_range (may_have parts.size) x ≡ true) (said parts.entries)

-- the value of a text that has one, else the text's fault; or memory was refused at the line that was being read
abbrev pub ReadsStoreText : {A V : Type 0} → Body A → (List (Line A) → V → Type 0) → Result V TextFault → List ℕ → Type 0
ReadsStoreText {A} b IsValueOf (Ok value) text = (lines : List (Line A)) × (store_outcome b text ≡ Ok lines) × IsValueOf lines value
ReadsStoreText b IsValueOf (Err f) text = (store_outcome b text ≡ Err f) ⊎ ((f.kind ≡ NoMemory) × IsReached (rules_for b text) (lines_of text) f.line)
