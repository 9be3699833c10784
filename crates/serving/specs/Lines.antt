-- The lines of what was asked.
use Rattle.std.specs.Prelude.{◌≡◌, ℕ, Bool, true, false, ◌==◌, List, [], ◌∷◌, ◌++◌, Option, None, Some, Result, Ok}
use Rattle.std.specs.List.{AllByRecursion, flat_map, list_any}
use Rattle.request_text.specs.Requests.{asked_by}
use Rattle.request_text.specs.declared.fault.RequestFault.{RequestFault}
use Rattle.request_text.specs.declared.request.Request.{Request}
use Rattle.request_text.specs.declared.request.Request.TheVariants.{Extend, End}
use Rattle.serving.specs.declared.extension.Extension.{Extension}

-- a line with the LF that ends it
abbrev pub ended_line : List ℕ → List ℕ
ended_line line = line ++ 10 ∷ []

abbrev pub has_lf : List ℕ → Bool
has_lf line = list_any (λ b. b == 10) line

-- these bytes are these lines, and after them the beginning of one that no LF ends yet
pub record AreLines (bytes : List ℕ) (lines : List (List ℕ)) (half : List ℕ) : Type 0 where
  pub text : bytes ≡ flat_map ended_line lines ++ half
  pub whole : AllByRecursion (λ line. has_lf line ≡ false) lines
  pub within : has_lf half ≡ false

abbrev pub is_end : Result Request RequestFault → Bool
is_end (Ok End) = true
is_end asked = false

-- the line asks for the end
abbrev pub asks_end : List ℕ → Bool
asks_end line = is_end (asked_by line).request

-- it asks for more objects
abbrev pub is_more : Result Request RequestFault → Bool
is_more (Ok Extend) = true
is_more asked = false

-- while no extension waits, what asks for more objects may wait
abbrev pub is_taken : Option Extension → Result Request RequestFault → Bool
is_taken None asked = is_more asked
is_taken (Some e) asked = false

-- the line is taken so
abbrev pub may_wait : Option Extension → List ℕ → Bool
may_wait waits line = is_taken waits (asked_by line).request
