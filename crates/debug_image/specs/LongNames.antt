-- Names of LOCAL symbols that come to more bytes than their object has: many of them are ends of one text. Tools get none of these.
use Rattle.std.specs.Prelude.{ℕ, ◌+◌, ◌==◌, Bool, cond, List, [], count_by, length, nat_lt, sum_by, unwrap_or}
use Rattle.std.specs.List.{range_with_len, slice_index_or}
use Rattle.elf_model.specs.Inputs.ObjectFile.{null_symbol, symbol_name, symbols}
use Rattle.elf_model.specs.Link.Loading.{LoadedObject}
use Rattle.elf_model.specs.Link.Resolution.{binding}
use Rattle.elf_model.specs.declared.constants.TheConstants.{STB_LOCAL}

-- the bytes that a symbol's name takes with its NUL, where the symbol is LOCAL
abbrev pub is_local : LoadedObject → ℕ → Bool
is_local o j = binding (slice_index_or (symbols o.bytes) j null_symbol) == STB_LOCAL

abbrev pub name_size : LoadedObject → ℕ → ℕ
name_size o j = cond (is_local o j) (length (unwrap_or (symbol_name o.bytes j) []) + 1) 0

-- they come to more bytes than the object has
abbrev pub has_long_names : LoadedObject → Bool
has_long_names o = nat_lt (length o.bytes) (sum_by (name_size o) (range_with_len 0 (length (symbols o.bytes))))

-- how many objects are so
abbrev pub long_named : List LoadedObject → ℕ
long_named objects = count_by has_long_names objects
