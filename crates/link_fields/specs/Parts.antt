-- The parts of a link by which fields are judged, and what symbols mean by these alone.
use Rattle.std.specs.Prelude.{◌≡◌, ◌⊎◌, ◌↔◌, ℕ, ◌+◌, ◌%◌, ◌^◌, ◌==◌, ◌&&◌, ◌||◌, Bool, true, false, not, cond, List, Option, None, Some, Any, codes, find, is_some, option_map, unwrap_or}
use Rattle.std.specs.List.{list_any}
use Rattle.std.specs.Option.{option_and_then, option_map_or, option_or}
use Rattle.std.specs.Str.{bytes_eq}
use Rattle.elf_model.specs.Inputs.ObjectFile.{rela_type}
use Rattle.elf_model.specs.Link.LinkerNames.{fixed_bound, named_output, output_bound}
use Rattle.elf_model.specs.Link.Loading.{LoadedObject}
use Rattle.elf_model.specs.Link.Meaning.{Common, Linker, Meaning, Symbol, is_in_thread_storage, meaning_size, object_meaning}
use Rattle.elf_model.specs.Link.Pieces.{Piece, is_of_output}
use Rattle.elf_model.specs.Link.Placement.{Covers, Placed, is_of_section}
use Rattle.elf_model.specs.Link.Relocation.{Relocation, is_local}
use Rattle.elf_model.specs.Link.Resolution.{SymbolOf, is_absolute, is_undefined}
use Rattle.elf_model.specs.declared.bound.Bound.{Bound}
use Rattle.elf_model.specs.declared.link_map.DropLine.{DropLine}
use Rattle.elf_model.specs.declared.thing.Thing.{Thing}
use Rattle.judge_model.specs.Certificates.{NameRow, is_left_out, value_of_name}
use Rattle.judge_model.specs.Fields.{instruction_of, is_code_in}
use Rattle.judge_model.specs.Links.{ForeignLink, objects_of, pieces_of, placed_of, sections_of}
use Rattle.judge_model.specs.Means.{added, is_of_section_itself, merged_base, merged_value, undefined_value}
use Rattle.judge_model.specs.Placed.{things_of}
use Rattle.judge_model.specs.Plans.{Script, is_match}
use Rattle.judge_model.specs.Rewrites.{front_of}
use Rattle.judge_model.specs.declared.certificate.MergedLine.{MergedLine}
use Rattle.judge_model.specs.Runs.{IsBetween}
use Rattle.field_judge.specs.Given.{Given}
use Rattle.field_judge.specs.Rewritten.{IsPlaceRight}
use Rattle.link_fields.specs.declared.meanings.Meant.{Meant}

-- the image, the objects, the sections of the image, these and common blocks at their addresses, the certificate's lines of merged
-- strings and constants, its values of names and the address that it gives the GOT, and the script
pub record Parts : Type 0 where
  pub image : List ℕ
  pub objects : List LoadedObject
  pub pieces : List Piece
  pub placed : List Placed
  pub merged : List MergedLine
  pub rows : List NameRow
  pub got : Option ℕ
  pub script : Option Script

abbrev pub parts_of : ForeignLink → Parts
parts_of l = record {
  image = l.image;
  objects = objects_of l;
  pieces = pieces_of l;
  placed = placed_of l;
  merged = l.certificate.merged;
  rows = l.certificate.names;
  got = l.certificate.got;
  script = l.plan.script;
}

-- Names.

-- the script gives a name a value, outside PROVIDE or inside
abbrev pub is_script_name : Option Script → List ℕ → Bool
is_script_name script name = option_map_or (λ t. list_any (λ n. is_match n name) t.names) script false

abbrev pub is_provided : Option Script → List ℕ → Bool
is_provided script name = option_map_or (λ t. list_any (λ n. is_match n name) t.provided) script false

abbrev pub is_by_script : Parts → List ℕ → Bool
is_by_script p name =
    is_script_name p.script name || (is_provided p.script name && not (is_some (object_meaning p.objects name)))

-- the linker's names, where the image has these sections
abbrev pub bound_of : List Piece → List ℕ → Option Bound
bound_of pieces name =
    option_or (fixed_bound name) (cond (list_any (is_of_output (named_output name)) pieces) (output_bound name) None)

abbrev pub object_or_linker : List LoadedObject → List Piece → List ℕ → Option Meaning
object_or_linker objects pieces name = option_or (object_meaning objects name) (option_map (Linker name) (bound_of pieces name))

-- Values, where sections and blocks are placed and names have rows.

abbrev pub address_of : List Placed → ℕ → ℕ → Option ℕ
address_of placed object number = option_map (λ q. q.at) (find (is_of_section object number) placed)

abbrev pub value_in_section : List Placed → SymbolOf → Option ℕ → Option ℕ
value_in_section placed s merged =
    cond (is_absolute s.entry) (Some s.entry.st_value)
    (option_or (option_map (λ a. a + s.entry.st_value) (address_of placed s.object s.entry.st_shndx)) merged)

abbrev pub symbol_value : List Placed → List MergedLine → SymbolOf → Option ℕ
symbol_value placed merged s = value_in_section placed s (merged_value merged s)

abbrev pub value_of : List Placed → List MergedLine → List NameRow → Meaning → Option ℕ
value_of placed merged rows (Symbol s) = symbol_value placed merged s
value_of placed merged rows (Common b) = address_of placed b.object b.number
value_of placed merged rows (Linker name bound) = value_of_name rows name

abbrev pub named_value : Parts → SymbolOf → Option ℕ
named_value p s =
    cond (is_by_script p s.name) (value_of_name p.rows s.name)
    (option_map_or (value_of p.placed p.merged p.rows) (object_or_linker p.objects p.pieces s.name) (undefined_value s))

-- those of LOCAL symbols, by the addend of a relocation that names one, where its kind lets the addend say what is meant
abbrev pub reference : List MergedLine → SymbolOf → Option ℕ → Option ℕ
reference merged s a = option_and_then (merged_base merged s) a

abbrev pub section_value : List Placed → List MergedLine → SymbolOf → Option ℕ → Option ℕ
section_value placed merged s a = value_in_section placed s (reference merged s a)

abbrev pub defined_value : List Placed → List MergedLine → SymbolOf → Option ℕ → Option ℕ
defined_value placed merged s a = cond (is_of_section_itself s) (section_value placed merged s a) (symbol_value placed merged s)

abbrev pub local_value : List Placed → List MergedLine → SymbolOf → Option ℕ → Option ℕ
local_value placed merged s a =
    cond (s.number == 0) (Some 0) (cond (is_undefined s.entry) None (defined_value placed merged s a))

-- a section, by its name, has frames, and the symbol is one of a section that isn't placed
abbrev pub is_frame_of_missing : List Placed → Bool → SymbolOf → Bool
is_frame_of_missing placed frames s = frames && not (is_some (address_of placed s.object s.entry.st_shndx))

abbrev pub local_meant : List Placed → List MergedLine → Bool → SymbolOf → Option ℕ → Option ℕ
local_meant placed merged frames s a =
    option_or (local_value placed merged s a) (cond (is_frame_of_missing placed frames s && not (is_undefined s.entry)) (Some 0) None)

abbrev pub has_frames : List ℕ → Bool
has_frames name = bytes_eq name (codes ".eh_frame")

-- what a symbol means to a relocation of a section which has unedited frames, or hasn't, with the addend that may say what is meant
abbrev pub meant : Parts → Bool → SymbolOf → Option ℕ → Option ℕ
meant p frames s a = cond (is_local s) (local_meant p.placed p.merged frames s a) (named_value p s)

abbrev pub local_definition : SymbolOf → Option Meaning
local_definition s = cond (is_undefined s.entry) None (Some (Symbol s))

abbrev pub definition_of : Parts → SymbolOf → Option Meaning
definition_of p s =
    cond (is_local s) (local_definition s) (cond (is_by_script p s.name) None (object_or_linker p.objects p.pieces s.name))

abbrev pub size_of : Option Meaning → ℕ
size_of definition = unwrap_or (option_map meaning_size definition) 0

abbrev pub is_thread_use : List LoadedObject → Option Meaning → Bool
is_thread_use objects definition = option_map_or (is_in_thread_storage objects) definition false

-- what the code finds of a symbol, the value modulo 2 ^ 64
pub record IsMeant (p : Parts) (frames : Bool) (s : SymbolOf) (a : Option ℕ) (m : Meant) : Type 0 where
  pub value : m.value ≡ option_map (λ v. v % 2 ^ 64) (meant p frames s a)
  pub thread : m.thread ≡ is_thread_use p.objects (definition_of p s)
  pub size : m.size ≡ size_of (definition_of p s)

-- Fields.

-- a relocation is one of call frames that have their own address; it is one of those in the linker's list, which have none
abbrev pub has_address : Parts → Relocation → Bool
has_address p r = is_some (address_of p.placed r.object r.section)

abbrev pub is_in_own_frames : Parts → Relocation → Bool
is_in_own_frames p r = has_frames r.name && has_address p r

abbrev pub is_in_list : Parts → Relocation → Bool
is_in_list p r = has_frames r.name && not (has_address p r)

-- what a relocation gives its field
abbrev pub given : Parts → Relocation → Given
given p r = record {
  value = meant p (is_in_own_frames p r) r.symbol (added r.entry);
  addend = r.entry.r_addend;
  at = unwrap_or (address_of p.placed r.object r.section) 0;
  offset = r.entry.r_offset;
  size = size_of (definition_of p r.symbol);
  got = p.got;
  thread = is_thread_use p.objects (definition_of p r.symbol);
}

abbrev pub IsPlaceRightIn : Parts → List Thing → Relocation → Type 0
IsPlaceRightIn p taken r =
    IsPlaceRight p.image taken (given p r) (rela_type r.entry) (front_of r.entry) (is_code_in p.objects r) (instruction_of p.objects r)

pub record IsFieldRightIn (p : Parts) (taken : List Thing) (r : Relocation) : Type 0 where
  pub right : is_in_list p r ≡ false → IsPlaceRightIn p taken r

-- Where no slot may be: what takes up memory, and the gaps of runs.
abbrev pub IsTaken : ForeignLink → ℕ → Type 0
IsTaken l a = Any (λ t. Covers t a) (things_of l) ⊎ ((p : Placed) × (q : Placed) × IsBetween (sections_of l) p q a)

pub record AreTaken (l : ForeignLink) (taken : List Thing) : Type 0 where
  pub taken_is : (a : ℕ) → Any (λ t. Covers t a) taken ↔ IsTaken l a

-- the field of a relocation is right, or its section is left out
pub record IsFieldRightUnlessOut (p : Parts) (taken : List Thing) (drops : List DropLine) (r : Relocation) : Type 0 where
  pub right : not (is_left_out drops r.object r.section) ≡ true → IsFieldRightIn p taken r
