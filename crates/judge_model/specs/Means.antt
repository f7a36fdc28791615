-- F4. What the symbols mean that relocations name: an address or a number; or nothing (System V gABI 4, "Symbol Table"). What
-- the image has not means nothing, and no field may ask for it.
use Rattle.std.specs.Prelude.{ℕ, ℤ, pos, negsuc, ◌+◌, ◌-◌, ◌==◌, ◌&&◌, ◌||◌, Bool, not, cond, List, Option, None, Some, codes, find, is_some, nat_le, option_map}
use Rattle.std.specs.Option.{option_and_then, option_map_or, option_or}
use Rattle.std.specs.Str.{bytes_eq}
use Rattle.elf_model.specs.Inputs.ObjectFile.{rela_type}
use Rattle.elf_model.specs.Link.Meaning.{Common, Linker, Meaning, Symbol, object_meaning}
use Rattle.elf_model.specs.Link.Placement.{is_of_section}
use Rattle.elf_model.specs.Link.Relocation.{Relocation, is_local}
use Rattle.elf_model.specs.Link.Resolution.{SymbolOf, is_absolute, is_undefined, is_weak, symbol_type}
use Rattle.elf_model.specs.declared.constants.TheConstants.{STT_SECTION}
use Rattle.elf_model.specs.declared.records.Rela.{Rela}
use Rattle.judge_model.specs.Certificates.{merged_at, value_of_name}
use Rattle.judge_model.specs.declared.certificate.MergedLine.{MergedLine}
use Rattle.judge_model.specs.Links.{ForeignLink, objects_of, placed_of}
use Rattle.judge_model.specs.Names.{bound_of}
use Rattle.judge_model.specs.Plans.{is_provided, is_script_name}

-- what a name means: a script's name is the script's, also where an object defines it; inside PROVIDE it is so where no object
-- does; then come the definition that objects make of it, and the linker's
abbrev pub object_or_linker : ForeignLink → List ℕ → Option Meaning
object_or_linker l name = option_or (object_meaning (objects_of l) name) (option_map (Linker name) (bound_of l name))

-- the address of a section or a common block; None where the image has it not
abbrev pub address_of : ForeignLink → ℕ → ℕ → Option ℕ
address_of l object number = option_map (λ q. q.at) (find (is_of_section object number) (placed_of l))

-- The value of a symbol that an object defines: an absolute one's own; else the address of its section, and its offset there. Of a
-- section that is merged it is where the string or constant at this offset is.
abbrev pub value_in_section : ForeignLink → SymbolOf → Option ℕ → Option ℕ
value_in_section l s merged =
    cond (is_absolute s.entry) (Some s.entry.st_value)
    (option_or (option_map (λ a. a + s.entry.st_value) (address_of l s.object s.entry.st_shndx)) merged)

abbrev pub merged_value : List MergedLine → SymbolOf → Option ℕ
merged_value lines s = merged_at lines s.object s.entry.st_shndx s.entry.st_value

abbrev pub symbol_value : ForeignLink → SymbolOf → Option ℕ
symbol_value l s = value_in_section l s (merged_value l.certificate.merged s)

-- A relocation that names a section itself says by its addend what it means there. So of a section that is merged its value is the
-- one to which the addend has to be added to make the address of that string or constant. Only kinds whose formula is S + A can say
-- so: the addends of others count from elsewhere (System V gABI 4, SHF_MERGE; AMD64 psABI 4.4).
abbrev pub is_of_section_itself : SymbolOf → Bool
is_of_section_itself s = symbol_type s.entry == STT_SECTION

abbrev pub is_sum : ℕ → Bool
is_sum t = t == 1 || (t == 10 || (t == 11 || (t == 12 || t == 14)))

abbrev pub natural : ℤ → Option ℕ
natural (pos n) = Some n
natural (negsuc n) = None

abbrev pub added : Rela → Option ℕ
added e = cond (is_sum (rela_type e)) (natural e.r_addend) None

abbrev pub less : ℕ → ℕ → Option ℕ
less a v = cond (nat_le a v) (Some (v - a)) None

abbrev pub merged_base : List MergedLine → SymbolOf → ℕ → Option ℕ
merged_base lines s a = option_and_then (less a) (merged_at lines s.object s.entry.st_shndx (s.entry.st_value + a))

abbrev pub merged_reference : List MergedLine → Relocation → Option ℕ
merged_reference lines r = option_and_then (merged_base lines r.symbol) (added r.entry)

abbrev pub section_value : ForeignLink → Relocation → Option ℕ
section_value l r = value_in_section l r.symbol (merged_reference l.certificate.merged r)

abbrev pub value_of : ForeignLink → Meaning → Option ℕ
value_of l (Symbol s) = symbol_value l s
value_of l (Common b) = address_of l b.object b.number
value_of l (Linker name bound) = value_of_name l.certificate.names name

-- the value of a name of a symbol that isn't LOCAL; one that is WEAK needs no definition
abbrev pub is_by_script : ForeignLink → List ℕ → Bool
is_by_script l name =
    is_script_name l.plan name || (is_provided l.plan name && not (is_some (object_meaning (objects_of l) name)))

abbrev pub undefined_value : SymbolOf → Option ℕ
undefined_value s = cond (is_weak s.entry) (Some 0) None

abbrev pub named_value : ForeignLink → SymbolOf → Option ℕ
named_value l s =
    cond (is_by_script l s.name) (value_of_name l.certificate.names s.name)
    (option_map_or (value_of l) (object_or_linker l s.name) (undefined_value s))

-- the value of a LOCAL symbol that a relocation names; number 0 stands for none
abbrev pub defined_value : ForeignLink → Relocation → Option ℕ
defined_value l r = cond (is_of_section_itself r.symbol) (section_value l r) (symbol_value l r.symbol)

abbrev pub local_value : ForeignLink → Relocation → Option ℕ
local_value l r =
    cond (r.symbol.number == 0) (Some 0) (cond (is_undefined r.symbol.entry) None (defined_value l r))

-- a relocation is one of call frames that have no address of their own, as the linker made one list of all
abbrev pub has_address : ForeignLink → ℕ → ℕ → Bool
has_address l object number = is_some (address_of l object number)

abbrev pub is_of_frames : Relocation → Bool
is_of_frames r = bytes_eq r.name (codes ".eh_frame")

abbrev pub is_in_list : ForeignLink → Relocation → Bool
is_in_list l r = is_of_frames r && not (has_address l r.object r.section)

-- what a symbol means to a relocation that names it: frames that aren't edited have 0 for the LOCAL symbols of what the image
-- has not
abbrev pub is_frame_of_missing : ForeignLink → Relocation → Bool
is_frame_of_missing l r =
    (is_of_frames r && has_address l r.object r.section) && not (has_address l r.symbol.object r.symbol.entry.st_shndx)

abbrev pub local_meant : ForeignLink → Relocation → Option ℕ
local_meant l r = option_or (local_value l r) (cond (is_frame_of_missing l r && not (is_undefined r.symbol.entry)) (Some 0) None)

unfoldable pub meant : ForeignLink → Relocation → Option ℕ
meant l r = cond (is_local r.symbol) (local_meant l r) (named_value l r.symbol)

-- the definition that it names; None of what nothing but a script defines, and of what nothing does
abbrev pub definition_of : ForeignLink → SymbolOf → Option Meaning
definition_of l s = cond (is_local s) (cond (is_undefined s.entry) None (Some (Symbol s))) (cond (is_by_script l s.name) None (object_or_linker l s.name))
