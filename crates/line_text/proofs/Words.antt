-- The words of a line.
use Rattle.std.proofs.Common.{◌≡◌, ℕ, false, List, [], sym}
use Rattle.std.proofs.lemmas.Bool.{cond-false}
use Rattle.line_text.specs.Text.{words_of, is_comment, content_of}

-- a line that is no comment has its words
pub content_of-plain : (bytes : List ℕ) → is_comment bytes ≡ false → words_of bytes ≡ content_of bytes
content_of-plain bytes e = sym (cond-false (is_comment bytes) [] (words_of bytes) e)
