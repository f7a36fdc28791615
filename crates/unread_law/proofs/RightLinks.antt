-- A right link depends on its files through the objects that are loaded from them, and through whether these can be loaded.
use Rattle.std.proofs.Common.{◌≡◌, ℕ, List, ◌++◌, Option, None, Some, length, map, drop, sym, ◌∙◌, subst}
use Rattle.std.specs.Prelude.{◌<◌, ◌^◌, ◌≤◌, All, IfSome, IsSomeAnd, Ok, filter, is_some, not, true}
use Rattle.elf_model.specs.Image.MapRecord.{MapRecord}
use Rattle.elf_model.specs.Image.MemoryImage.{file_end, loads, thread_blocks}
use Rattle.elf_model.specs.Image.RightLink.{HasCommonLine, HasLine, HasNothingElse, HasSlot, Holds, HoldsGot, HoldsPiece, HoldsTables, IsClearOf, IsRightLink, Subject, drop_rows, facts_of_piece, facts_of_row, object_rows}
use Rattle.elf_model.specs.Image.SymbolTable.{entry_count, headers_at, name_section, tabled, tables}
use Rattle.elf_model.specs.Inputs.Command.{Plan, command_of}
use Rattle.elf_model.specs.Inputs.Files.{File}
use Rattle.elf_model.specs.Inputs.Records.{file_header}
use Rattle.elf_model.specs.Link.ArrayOrder.{placed_in_array_order}
use Rattle.elf_model.specs.Link.Commons.{blocks}
use Rattle.elf_model.specs.Link.LinkerValues.{end_of_pieces}
use Rattle.elf_model.specs.Link.Loading.{AreObjects, HaveLawfulGroups, LoadedObject, loaded_objects}
use Rattle.elf_model.specs.Link.Meaning.{Meaning, meaning_value, object_meaning}
use Rattle.elf_model.specs.Link.Pieces.{AreLawfulKinds, is_thread_zero, kept_sections}
use Rattle.elf_model.specs.Link.Placement.{HasRights, IsPlaced, Placed, Where, got_things, is_thread_place, placed_blocks, placed_by, thing_of, things, thread_ranges}
use Rattle.elf_model.specs.Link.Relocation.{AreLawfulRelocations}
use Rattle.elf_model.specs.Link.RelocationValues.{AllFit}
use Rattle.elf_model.specs.Link.Resolution.{AreSoundCommons, AreSoundSymbols, AreUnique, IsEntry}
use Rattle.elf_model.specs.Link.Slots.{has_got}
use Rattle.elf_model.specs.Link.ThreadStorage.{is_thread_data, thread_headers}
use Rattle.elf_model.specs.declared.link_map.SymtabLine.{SymtabLine}
use Rattle.elf_model.specs.declared.thing.Thing.{Thing}
use Rattle.elf_model.specs.declared.verdict.Clause.{Clause}
use Rattle.elf_model.specs.declared.verdict.Clause.TheVariants.{C1, C2, C3, C4, C5, C6, C7, C8, C9, C10, C11, C12, C13, C14}
use Rattle.unread_law.specs.Unread.{Agree, LoadsTheSame}
use Rattle.unread_law.proofs.Files.{loads_the_same}

module _ (plan : Plan) (files others : List File) (image : List ℕ) (m : MapRecord) (same : LoadsTheSame files others plan) where
  abbrev of_files : Subject
  of_files = record { plan = plan; files = files; image = image; map = m }

  abbrev of_others : Subject
  of_others = record { plan = plan; files = others; image = image; map = m }

  -- what a clause says of the objects
  abbrev sections : List LoadedObject → List Placed
  sections os = placed_by m.places (kept_sections os)

  abbrev placed : List LoadedObject → List Placed
  placed os = sections os ++ placed_blocks m.commons (blocks os)

  abbrev where_of : List LoadedObject → Where
  where_of os = record { base = plan.base; placed = placed os; got = m.got; slots = m.slots }

  abbrev all_things : List LoadedObject → List Thing
  all_things os = things image m (placed os)

  abbrev others_than_threads : List LoadedObject → List Thing
  others_than_threads os = got_things m.got ++ map thing_of (filter (λ q. not (is_thread_place q)) (placed os))

  abbrev listed_in_table : List LoadedObject → List Meaning
  listed_in_table os = tabled os m.symbols

  on : (P : List LoadedObject → Type 0) → P (loaded_objects files plan) → P (loaded_objects others plan)
  on P holds = subst P (sym same.objects) holds

  tables_on : (line : SymtabLine) → HoldsTables of_files line → HoldsTables of_others line
  tables_on line h = record {
    offset = h.offset;
    count = on (λ os. line.count ≡ entry_count (listed_in_table os)) h.count;
    names_fit = on (λ os. length (name_section (listed_in_table os)) < 2 ^ 32) h.names_fit;
    bytes = on (λ os. drop (file_end (loads image)) image ≡ tables (where_of os) (file_end (loads image)) (listed_in_table os)) h.bytes;
    headers_offset = on (λ os. (file_header image).e_shoff ≡ headers_at (file_end (loads image)) (listed_in_table os)) h.headers_offset;
    headers_count = h.headers_count;
    names_section = h.names_section;
  }

  held_on : (line : Option SymtabLine) → IfSome line (HoldsTables of_files) → IfSome line (HoldsTables of_others)
  held_on None h = h
  held_on (Some line) h = tables_on line h

  holds_on : (c : Clause) → Holds c of_files → Holds c of_others
  holds_on C1 h = h
  holds_on C2 h = record {
    files = same.there h.files;
    archives = same.archives h.archives;
    indexes = same.indexes h.indexes;
    objects = on AreObjects h.objects;
    groups = on HaveLawfulGroups h.groups;
    rows = on (λ os. m.objects ≡ object_rows 0 os) h.rows;
  }
  holds_on C3 h = record {
    kinds = on AreLawfulKinds h.kinds;
    sound = on AreSoundCommons h.sound;
    drops = on (λ os. m.drops ≡ drop_rows 0 os) h.drops;
    places = on (λ os. map facts_of_row m.places ≡ map facts_of_piece (kept_sections os)) h.places;
    commons = λ name. on (λ os. HasCommonLine m.commons os name) (h.commons name);
  }
  holds_on C4 h = h
  holds_on C5 h = on (λ os. IsPlaced plan.base (all_things os) (thread_ranges (placed os)) (placed_in_array_order (sections os))) h
  holds_on C6 h = on (λ os. HasRights plan.base (loads image) (all_things os) (got_things m.got)) h
  holds_on C7 h = record {
    present = on (λ os. is_some m.got ≡ has_got os) h.present;
    slots = λ q. on (λ os. HasSlot m.slots os q) (h.slots q);
    held = on (λ os. IfSome m.got (HoldsGot os (where_of os) image)) h.held;
  }
  holds_on C8 h = record {
    headers = on (λ os. thread_blocks image ≡ thread_headers plan.base (placed os)) h.headers;
    before = on (λ os. All (λ q. is_thread_zero q.piece ≡ true → end_of_pieces is_thread_data (placed os) ≤ q.at) (placed os)) h.before;
    clear = on (λ os. All (λ h. All (IsClearOf h.p_vaddr (end_of_pieces is_thread_data (placed os))) (others_than_threads os)) (thread_blocks image)) h.clear;
    held = h.held;
  }
  holds_on C9 h = record { lawful = on AreLawfulRelocations h.lawful; fits = on (λ os. AllFit os (where_of os)) h.fits }
  holds_on C10 h = on (λ os. All (HoldsPiece os (where_of os) image) (placed os)) h
  holds_on C11 h = on (λ os. HasNothingElse image m.symtab (all_things os)) h
  holds_on C12 h = on (λ os. IsEntry os plan.entry × IsSomeAnd (object_meaning os plan.entry) (λ d. (file_header image).e_entry ≡ meaning_value (where_of os) d)) h
  holds_on C13 h = record {
    sound = on AreSoundSymbols h.sound;
    unique = on AreUnique h.unique;
    lines = λ name. on (λ os. HasLine m.symbols os (where_of os) name) (h.lines name);
  }
  holds_on C14 h = record { asked = h.asked; held = held_on m.symtab h.held; none = h.none }

-- the plan of a command
pub same_plan : (words : List (List ℕ)) (p q : Plan) → command_of words ≡ Ok p → command_of words ≡ Ok q → p ≡ q
same_plan words p q one other = cc (sym one ∙ other)

pub right_links_too :
    (files others : List File) (words : List (List ℕ)) (image bytes : List ℕ) (plan : Plan) → command_of words ≡ Ok plan → Agree files others plan
    → IsRightLink files words image bytes → IsRightLink others words image bytes
right_links_too files others words image bytes plan command agree right =
    let own = same_plan words plan right.plan command right.read.plan in
    let loads_same = loads_the_same files others right.plan (subst (Agree files others) own agree) in
    record {
      plan = right.plan;
      map = right.map;
      read = record { plan = right.read.plan; map = right.read.map; spelled = right.read.spelled };
      holds = λ c. holds_on right.plan files others image right.map loads_same c (right.holds c);
    }
