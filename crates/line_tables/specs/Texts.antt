-- What a line table says.
use Rattle.std.specs.Prelude.{◌≡◌, ◌<◌, ℕ, IfSome, List}
use Rattle.byteview.specs.Numbers.{HasText, text}
use Rattle.line_tables.specs.declared.lookup.SourceLine.{SourceLine}

-- a text of a file: its bytes from some offset on, up to the NUL that ends it
pub record IsTextOf (bytes : List ℕ) (name : List ℕ) : Type 0 where
  pub at : ℕ
  pub has : HasText bytes at
  pub is : name ≡ text bytes at

-- a line of a source whose names are texts of a file
pub record IsLineOf (bytes : List ℕ) (l : SourceLine) : Type 0 where
  pub file : IsTextOf bytes l.file.now
  pub directory : IfSome l.directory (λ d. IsTextOf bytes d.now)
  pub line : 0 < l.line
