-- Bytes of memory as a file has them, and zeros behind them.
use Rattle.std.specs.Prelude.{ℕ, List, ◌++◌, replicate}
use Rattle.loader_model.specs.declared.memory.Run.{Run}

abbrev pub padded : List ℕ → ℕ → List ℕ
padded bytes zeros = bytes ++ replicate zeros 0

-- all of a run
abbrev pub whole : Run → List ℕ
whole r = padded r.bytes.now r.zeros
