-- The head of a table of call frames.
use Rattle.std.specs.Prelude.{◌≡◌, ℕ, ◌+◌, ◌*◌, ◌%◌, ◌≤◌, true, List, Option, IfSome, drop, length, take}
use Rattle.judge_model.specs.FrameTables.{counted, row_count, table_head}
use Rattle.judge_model.specs.Frames.{are_zeros}
use Rattle.judge_model.specs.declared.certificate.StretchLine.{StretchLine}

-- bytes have room for their rows, and zeros behind these
pub record HasRoom (bytes : List ℕ) : Type 0 where
  pub room : 12 + 8 * row_count bytes ≤ length bytes
  pub rest : are_zeros (drop (12 + 8 * row_count bytes) bytes) ≡ true

-- all that a table is but for its rows
pub record IsHead (list : Option StretchLine) (at : ℕ) (bytes : List ℕ) : Type 0 where
  pub aligned : at % 4 ≡ 0
  pub head : take 4 bytes ≡ table_head
  pub points : IfSome list (λ s. counted (at + 4) bytes 4 ≡ s.address)
  pub room : HasRoom bytes
