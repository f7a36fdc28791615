-- The names that the linker itself defines where no object does, and what each stands for (profile; ld(1) and GNU
-- ld define the same).
use Rattle.std.specs.Prelude.{ℕ, ◌&&◌, ◌||◌, Bool, false, cond, List, [], ◌∷◌, Option, None, Some, codes, drop, find, nat_eq, nat_le, option_map}
use Rattle.std.specs.List.{list_all, starts_with}
use Rattle.std.specs.Option.{option_map_or, option_or}
use Rattle.std.specs.Str.{bytes_eq}
use Rattle.elf_model.specs.Link.Loading.{LoadedObject}
use Rattle.elf_model.specs.Link.Pieces.{has_output}
use Rattle.elf_model.specs.declared.bound.Bound.{Bound}
use Rattle.elf_model.specs.declared.bound.Bound.TheVariants.{CodeEnd, DataEnd, GotStart, ImageEnd, ImageStart, OutputEnd, OutputStart, ZeroStart}

-- a name, and what it stands for
pub record BoundName : Type 0 where
  pub name : List ℕ
  pub bound : Bound

abbrev pub bound_name : List ℕ → Bound → BoundName
bound_name name bound = record { name = name; bound = bound }

-- the name by which code finds the GOT
abbrev pub got_name : List ℕ
got_name = codes "_GLOBAL_OFFSET_TABLE_"

abbrev pub bound_names : List BoundName
bound_names =
    bound_name (codes "__executable_start") ImageStart
    ∷ bound_name (codes "__ehdr_start") ImageStart
    ∷ bound_name (codes "_etext") CodeEnd
    ∷ bound_name (codes "etext") CodeEnd
    ∷ bound_name (codes "_edata") DataEnd
    ∷ bound_name (codes "edata") DataEnd
    ∷ bound_name (codes "__bss_start") ZeroStart
    ∷ bound_name (codes "_end") ImageEnd
    ∷ bound_name (codes "end") ImageEnd
    ∷ bound_name got_name GotStart
    ∷ []

-- the names for where arrays of functions begin and end, with the output names of their sections
pub record ArrayName : Type 0 where
  pub name : List ℕ
  pub bound : Bound
  pub output : List ℕ

abbrev pub array_name : List ℕ → Bound → List ℕ → ArrayName
array_name name bound output = record { name = name; bound = bound; output = output }

abbrev pub array_names : List ArrayName
array_names =
    array_name (codes "__init_array_start") OutputStart (codes ".init_array")
    ∷ array_name (codes "__init_array_end") OutputEnd (codes ".init_array")
    ∷ array_name (codes "__fini_array_start") OutputStart (codes ".fini_array")
    ∷ array_name (codes "__fini_array_end") OutputEnd (codes ".fini_array")
    ∷ array_name (codes "__preinit_array_start") OutputStart (codes ".preinit_array")
    ∷ array_name (codes "__preinit_array_end") OutputEnd (codes ".preinit_array")
    ∷ []

-- an identifier of C: ASCII letters, digits and underscores, at least one, no digit first
abbrev pub is_between : ℕ → ℕ → ℕ → Bool
is_between low high b = nat_le low b && nat_le b high

abbrev pub is_letter : ℕ → Bool
is_letter b = is_between 65 90 b || is_between 97 122 b || nat_eq b 95

abbrev pub is_letter_or_digit : ℕ → Bool
is_letter_or_digit b = is_letter b || is_between 48 57 b

abbrev pub is_identifier : List ℕ → Bool
is_identifier [] = false
is_identifier (b ∷ bs) = is_letter b && list_all is_letter_or_digit bs

-- a prefix in front of an identifier
abbrev pub is_prefixed : List ℕ → ℕ → List ℕ → Bool
is_prefixed prefix n name = starts_with nat_eq name prefix && is_identifier (drop n name)

-- __start_N and __stop_N, where the pieces of output name N begin and end
abbrev pub is_start_name : List ℕ → Bool
is_start_name name = is_prefixed (codes "__start_") 8 name

abbrev pub is_stop_name : List ℕ → Bool
is_stop_name name = is_prefixed (codes "__stop_") 7 name

-- the output name of which a name of the linker's speaks, where it speaks of one
abbrev pub array_named : List ℕ → Option ArrayName
array_named name = find (λ b. bytes_eq b.name name) array_names

unfoldable pub named_output : List ℕ → List ℕ
named_output name =
    option_map_or (λ b. b.output) (array_named name) (cond (is_start_name name) (drop 8 name) (drop 7 name))

-- what a name stands for that the linker always defines
unfoldable pub fixed_bound : List ℕ → Option Bound
fixed_bound name =
    option_or
    (option_map (λ b. b.bound) (find (λ b. bytes_eq b.name name) bound_names))
    (option_map (λ b. b.bound) (array_named name))

-- what __start_N and __stop_N stand for, where there are pieces of output name N
unfoldable pub output_bound : List ℕ → Option Bound
output_bound name = cond (is_start_name name) (Some OutputStart) (cond (is_stop_name name) (Some OutputEnd) None)

-- what a name stands for; None where the linker defines nothing for it
abbrev pub bound_of : List LoadedObject → List ℕ → Option Bound
bound_of objects name =
    option_or (fixed_bound name) (cond (has_output objects (named_output name)) (output_bound name) None)
