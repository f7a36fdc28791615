-- Symbol lines that are read again from the text of a map: those whose names are spelled without an escape.
use Rattle.std.specs.Prelude.{ℕ, zero, suc, Bool, Option, Some, None, List, [], ◌∷◌, take, drop, option_map, codes}
use Rattle.std.specs.List.{prefix_len}
use Rattle.elf_model.specs.Image.MapRecord.{SymbolRow}
use Rattle.elf_model.specs.Image.MapText.{is_plain}
use Rattle.linkmap.specs.Reading.{Reads, address_at, both, definition_at, fork, seen, tag}

-- a name up to its newline, none of whose bytes is spelled with an escape
unfoldable pub plain_name_at : Reads (List ℕ)
plain_name_at bytes = option_map (λ rest. (take (prefix_len is_plain bytes) bytes, rest)) (tag (codes "\n") (drop (prefix_len is_plain bytes) bytes))

-- a symbol line of such a name, behind its first word, and whole
unfoldable pub plain_symbol_at : Reads SymbolRow
plain_symbol_at = seen (λ x. record { address = x.0; definition = x.1.0; name = x.1.1 }) (both address_at (both definition_at plain_name_at))

unfoldable pub plain_line_at : Reads SymbolRow
plain_line_at bytes = fork (tag (codes "symbol ") bytes) plain_symbol_at None

-- the first such lines of a text, and what is behind them
abbrev pub taken : Option (SymbolRow × List ℕ) → (List ℕ → List SymbolRow) → List SymbolRow
taken None next = []
taken (Some p) next = p.0 ∷ next p.1

unfoldable pub lines_in : ℕ → List ℕ → List SymbolRow
lines_in zero text = []
lines_in (suc n) text = taken (plain_line_at text) (lines_in n)

abbrev pub passed : Option (SymbolRow × List ℕ) → (List ℕ → List ℕ) → List ℕ
passed None next = []
passed (Some p) next = next p.1

unfoldable pub behind : ℕ → List ℕ → List ℕ
behind zero text = text
behind (suc n) text = passed (plain_line_at text) (behind n)

-- the symbol lines of a map: what they say, whether all of them are read again from its text, and what is behind them there
pub record SymbolRun : Type 0 where
  pub rows : List SymbolRow
  pub unkept : Bool
  pub rest : List ℕ
