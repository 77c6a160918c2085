-- Which bytes are a text (Avro 1.11, "Binary Encoding", string): a length, then that many bytes of UTF-8.
use Rattle.std.specs.Prelude.{◌≡◌, ◌≤◌, ℕ, List, ◌++◌, length, pos}
use Rattle.std.specs.Str.{IsUtf8}
use Rattle.spec_avro.specs.declared.limits.TheConstants.{MOST_CONTENT}
use Rattle.spec_avro.specs.Number.{IsNumber64}

-- the bytes spell the text
pub record IsText (text bytes : List ℕ) : Type 0 where
  pub len : List ℕ
  pub parts : bytes ≡ len ++ text
  pub number : IsNumber64 (pos (length text)) len
  pub short : length text ≤ MOST_CONTENT
  pub utf8 : IsUtf8 text
