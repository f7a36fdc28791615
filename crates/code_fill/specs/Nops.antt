-- A part of the table of instructions that do nothing, for this crate's own functions.
use Rattle.std.specs.Prelude.{ℕ, List, Option, drop, find}
use Rattle.std.specs.Option.{option_and_then}
use Rattle.judge_model.specs.Fill.{begins_with, length_behind, nops}

-- those with an address of four bytes are the last four
abbrev pub long_nop_behind : ℕ → List ℕ → Option ℕ
long_nop_behind prefixes bytes = option_and_then (length_behind prefixes) (find (begins_with bytes) (drop 4 nops))
