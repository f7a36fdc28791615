-- The own link of linkable inputs is right: all clauses of a right link hold of it.
use Rattle.std.proofs.Common.{◌≡◌, ℕ, ◌+◌, ◌<◌, ◌^◌, Bool, false, true, not, cond, List, [], ◌∷◌, ◌++◌, length, refl, sym, ◌∙◌, ap, subst, arith}
use Rattle.std.specs.Prelude.{All, Option, Some, None, IfSome, IsSomeAnd, count_by, drop, find, is_some, map, option_map, unwrap_or}
use Rattle.std.specs.Option.{option_and_then}
use Rattle.std.proofs.lemmas.Bool.{false≢true}
use Rattle.std.proofs.lemmas.List.{map-append}
use Rattle.std.proofs.lemmas.List.Elements.{All-head, All-tail}
use Rattle.elf_model.specs.Link.ArrayOrder.{placed_in_array_order}
use Rattle.elf_model.specs.Own.Causes.{HasObjects, IsLinkable, IsReferred, IsResolved}
use Rattle.elf_model.specs.Inputs.Command.{IsBase, Plan}
use Rattle.elf_model.specs.Inputs.Files.{File}
use Rattle.elf_model.specs.Link.Commons.{Block, block_named, block_piece, block_pieces, blocks}
use Rattle.elf_model.specs.Own.ImageFile.{IsOwnMap, common_row_of, fields_with, fields_without, image_file, own_end, own_entry, own_fields, own_file_header, own_tabled, own_tables, place_row_of, symtab_line_of}
use Rattle.elf_model.specs.Link.Loading.{LoadedObject, loaded_objects}
use Rattle.elf_model.specs.Image.MapRecord.{CommonRow, MapRecord, PlaceRow}
use Rattle.elf_model.specs.Image.MapText.{IsMap, text}
use Rattle.elf_model.specs.Link.Meaning.{Meaning, meaning_value, meant, object_meaning}
use Rattle.elf_model.specs.Image.MemoryImage.{HasNoSections, file_end, loads}
use Rattle.elf_model.specs.Own.OwnLayout.{got_line_of, got_piece, header_count, own_address, own_in_load_order, own_places, own_segments, own_where}
use Rattle.elf_model.specs.Link.Pieces.{Piece, kept_sections}
use Rattle.elf_model.specs.Link.Placement.{HasRights, IsPlaced, Placed, Where, got_things, common_address, headers_thing, is_common_row_of, placed_block, placed_blocks, placed_by, thing_of, thread_ranges, things}
use Rattle.elf_model.specs.Inputs.Records.{file_header}
use Rattle.elf_model.specs.Link.RelocationValues.{AllFit}
use Rattle.elf_model.specs.Link.Resolution.{SymbolOf, chosen, is_in_thread_section}
use Rattle.elf_model.specs.Image.RightLink.{AreRelocationsRight, AreSectionsListed, AreSymbolsListed, AreTablesRight, EntersRight, HasLine, HasNothingElse, HasSlot, Holds, HoldsGot, HoldsPiece, HoldsTables, IsThreadBlockRight, IsGotRight, IsLoaded, IsRightLink, Subject, facts_of_block, facts_of_common, facts_of_piece, facts_of_row, placed_of, sections_of, where_of, things_of}
use Rattle.elf_model.specs.Image.SymbolTable.{headers_at, name_section, shstrtab_end, symtab_at, tabled, tables}
use Rattle.elf_model.specs.Link.Slots.{Request, has_got, is_slot_of, requests, size_with, slots}
use Rattle.elf_model.specs.declared.link_map.GotLine.{GotLine}
use Rattle.elf_model.specs.declared.link_map.SymtabLine.{SymtabLine}
use Rattle.elf_model.specs.declared.records.FileHeader.{FileHeader}
use Rattle.elf_model.specs.declared.records.ProgramHeader.{ProgramHeader}
use Rattle.elf_model.specs.declared.thing.Thing.{Thing}
use Rattle.elf_model.specs.declared.verdict.Clause.{Clause}
use Rattle.elf_model.specs.declared.verdict.Clause.TheVariants.{C1, C2, C3, C4, C5, C6, C7, C8, C9, C10, C11, C12, C13, C14}
use Rattle.own_link.proofs.ApartThings.{own_is_apart}
use Rattle.own_link.proofs.ImageOwn.{IsOwnImage, IsRoomFor, image_is_own, own_suits}
use Rattle.own_link.proofs.OwnThings.{own_stood, own_things_are, own_things_of}
use Rattle.own_link.proofs.OwnGot.{got_size_is, slots_count, slots_stand}
use Rattle.own_link.proofs.SlotLaws.{once_each, slots_count_by}
use Rattle.elf_model.proofs.BlockNames.{blocks_named}
use Rattle.elf_model.proofs.Listing.{chosen_means}
use Rattle.elf_model.proofs.Places.{are_own_placed}
use Rattle.elf_model.proofs.Running.{rounded_up}
use Rattle.own_link.proofs.Rights.{own_has_rights}
use Rattle.own_link.proofs.ThreadBlock.{own_thread_block}

-- the place lines of pieces at any addresses give these addresses back, and name these pieces
module _ (at : Piece → ℕ) where
  abbrev stand : Piece → Placed
  stand p = record { at = at p; piece = p }

  placed_again : (ps : List Piece) → placed_by (map place_row_of (map stand ps)) ps ≡ map stand ps
  placed_again [] = refl
  placed_again (p ∷ ps) = ap (λ (qs : List Placed). stand p ∷ qs) (placed_again ps)

  facts_again : (ps : List Piece) → map facts_of_row (map place_row_of (map stand ps)) ≡ map facts_of_piece ps
  facts_again [] = refl
  facts_again (p ∷ ps) = λ i. facts_of_piece p ∷ facts_again ps i

-- the entry's value, where there is a chosen definition
entered :
    (objects : List LoadedObject) (name : List ℕ) (o : Option SymbolOf) (value : Meaning → ℕ) (e : ℕ) (P : SymbolOf → Type 0) →
    chosen objects name ≡ o → e ≡ unwrap_or (option_map value (option_and_then (meant objects) o)) 0 → IsSomeAnd o P →
    IsSomeAnd (option_and_then (meant objects) o) (λ d. e ≡ value d)
entered objects name None value e P chosen_is is there = absurd there
entered objects name (Some s) value e P chosen_is is there = by (meant objects s) (chosen_means objects name s chosen_is) is
  where
    by : (m : Option Meaning) → is_some m ≡ true → e ≡ unwrap_or (option_map value m) 0 → IsSomeAnd m (λ d. e ≡ value d)
    by None some v = absurd (false≢true some)
    by (Some d) some v = v

-- what a block's line says but for its address is what it says at its own
facts_of_lines :
    (base : ℕ) (objects : List LoadedObject) (o : Option Block) →
    option_map facts_of_common (option_map (common_row_of base objects) o) ≡ option_map facts_of_block o
facts_of_lines base objects None = refl
facts_of_lines base objects (Some b) = refl

module _ (files : List File) (words : List (List ℕ)) (p : Plan) (m : MapRecord) (link : IsLinkable files words p) (based : IsBase p.base) (small : own_entry p.base (loaded_objects files p) p.entry < 2 ^ 64) (own_map : IsOwnMap p.base (loaded_objects files p) p.strip m) (is_map : IsMap m) where
  abbrev objects : List LoadedObject
  objects = loaded_objects files p

  abbrev table : Option (List Meaning)
  table = own_tabled p.strip objects m.symbols

  abbrev image : List ℕ
  image = image_file p.base objects (own_entry p.base objects p.entry) table

  abbrev placed : List Placed
  placed = own_in_load_order p.base objects

  abbrev subject : Subject
  subject = record { plan = p; files = files; image = image; map = m }

  referred : IsReferred files words p
  referred = link.before.before

  resolved : IsResolved files words p
  resolved = referred.before

  loading : HasObjects files words p
  loading = resolved.before

  room : IsRoomFor p.base objects table
  room = by p.strip refl
    where
      by : (b : Bool) → p.strip ≡ b → IsRoomFor p.base objects (own_tabled b objects m.symbols)
      by true stripped = tt
      by false kept = link.before.room.table kept m (subst (λ (b : Bool). IsOwnMap p.base objects b m) kept own_map)

  own_image : IsOwnImage p.base objects (own_entry p.base objects p.entry) table image
  own_image =
      image_is_own p.base objects resolved.kinds based link.before.room.layout (are_own_placed p.base objects resolved.kinds)
      loading.objects (own_entry p.base objects p.entry) table
      (own_suits p.base objects (own_entry p.base objects p.entry) table small room)

  -- the pieces stand where the map says, and so do all things
  abbrev own_stand : Piece → Placed
  own_stand = stand (own_address p.base objects)

  sections_are : sections_of subject ≡ own_places p.base objects (kept_sections objects)
  sections_are =
      ap (λ (rows : List PlaceRow). placed_by rows (kept_sections objects)) own_map.places
      ∙ placed_again (own_address p.base objects) (kept_sections objects)

  block_stands : (b : Block) → block_named objects b.name ≡ Some b → placed_block m.commons b ≡ own_stand (block_piece b)
  block_stands b named =
      let row : find (is_common_row_of b.name) m.commons ≡ Some (common_row_of p.base objects b) =
      own_map.commons b.name ∙ ap (option_map (common_row_of p.base objects)) named in
      let at : common_address m.commons b.name ≡ own_address p.base objects (block_piece b) =
      ap (λ (o : Option CommonRow). unwrap_or (option_map (λ (r : CommonRow). r.address) o) 0) row in
      λ i. record { at = at i; piece = block_piece b }

  blocks_stand : (bs : List Block) → All (λ b. block_named objects b.name ≡ Some b) bs → placed_blocks m.commons bs ≡ map own_stand (map block_piece bs)
  blocks_stand [] named = refl
  blocks_stand (b ∷ bs) named =
      ap (λ (q : Placed). q ∷ placed_blocks m.commons bs) (block_stands b (All-head (λ (c : Block). block_named objects c.name ≡ Some c) b bs named))
      ∙ ap (λ (qs : List Placed). own_stand (block_piece b) ∷ qs)
      (blocks_stand bs (All-tail (λ (c : Block). block_named objects c.name ≡ Some c) b bs named))

  placed_is : placed_of subject ≡ placed
  placed_is =
      ap (λ (qs : List Placed). qs ++ placed_blocks m.commons (blocks objects)) sections_are
      ∙ ap (λ (qs : List Placed). own_places p.base objects (kept_sections objects) ++ qs) (blocks_stand (blocks objects) (blocks_named objects))
      ∙ sym (map-append own_stand (kept_sections objects) (block_pieces objects))

  where_is : where_of subject ≡ own_where p.base objects
  where_is = λ i. record { base = p.base; placed = placed_is i; got = own_map.got i; slots = own_map.slots i }

  things_are : things_of subject ≡ own_things_of p.base objects
  things_are =
      ap (λ (ps : List Placed). things image m ps) placed_is
      ∙ (ap (λ (g : Option GotLine). headers_thing image ∷ (got_things g ++ map thing_of placed)) own_map.got
      ∙ (ap (λ (ts : List Thing). headers_thing image ∷ ts) (own_things_are p.base objects)
      ∙ ap (λ (t : Thing). t ∷ map thing_of (own_stood p.base objects)) own_image.headers_are))

  -- the clauses that speak of the map and of the pieces' places
  loaded : IsLoaded subject
  loaded = record {
    files = loading.before.before.files_are;
    archives = loading.before.archives;
    indexes = loading.before.indexes;
    objects = loading.objects;
    groups = loading.groups;
    rows = own_map.objects_are;
  }

  sections_listed : AreSectionsListed subject
  sections_listed = record {
    kinds = resolved.kinds;
    sound = resolved.commons;
    drops = own_map.drops;
    places = ap (map facts_of_row) own_map.places ∙ facts_again (own_address p.base objects) (kept_sections objects);
    commons = λ name.
        ap (option_map facts_of_common) (own_map.commons name) ∙ facts_of_lines p.base objects (block_named objects name);
  }

  placed_right : IsPlaced p.base (things_of subject) (thread_ranges (placed_of subject)) (placed_in_array_order (sections_of subject))
  placed_right =
      subst (λ (ts : List Thing). IsPlaced p.base ts (thread_ranges (placed_of subject)) (placed_in_array_order (sections_of subject))) (sym things_are)
      (subst (λ (qs : List Placed). IsPlaced p.base (own_things_of p.base objects) (thread_ranges qs) (placed_in_array_order (sections_of subject))) (sym placed_is)
      (subst (λ (qs : List Placed). IsPlaced p.base (own_things_of p.base objects) (thread_ranges placed) (placed_in_array_order qs)) (sym sections_are)
      (own_is_apart p.base objects resolved.kinds link.before.room.layout)))

  rights_right : HasRights p.base (loads image) (things_of subject) (got_things m.got)
  rights_right =
      subst (λ (hs : List ProgramHeader). HasRights p.base hs (things_of subject) (got_things m.got)) (sym own_image.loads_are)
      (subst (λ (ts : List Thing). HasRights p.base (own_segments p.base objects) ts (got_things m.got)) (sym things_are)
      (subst (λ (g : Option GotLine). HasRights p.base (own_segments p.base objects) (own_things_of p.base objects) (got_things g)) (sym own_map.got)
      (own_has_rights p.base objects resolved.kinds)))

  -- the GOT stands where one is asked for, and holds its slots
  got_there_by : (b : Bool) → is_some (cond b (Some (got_line_of p.base objects)) None) ≡ b
  got_there_by true = refl
  got_there_by false = refl

  has_slot : (q : Request) → HasSlot m.slots objects q
  has_slot q =
      ap (count_by (is_slot_of q)) own_map.slots
      ∙ (slots_count_by q (own_address p.base objects (got_piece objects) + 8) (slots objects) ∙ once_each q (requests objects))

  abbrev IsHeld : Option GotLine → Type 0
  IsHeld got = IfSome got (HoldsGot objects (own_where p.base objects) image)

  held_by : (b : Bool) → has_got objects ≡ b → IsHeld (cond b (Some (got_line_of p.base objects)) None)
  held_by false none = tt
  held_by true there = record {
    size =
        got_size_is objects there
        ∙ ap size_with (sym (slots_count (own_address p.base objects (got_piece objects) + 8) (slots objects)));
    places = slots_stand (own_address p.base objects (got_piece objects) + 8) (slots objects);
    bytes = own_image.got_held there;
  }

  got_right : IsGotRight subject
  got_right = record {
    present = ap is_some own_map.got ∙ got_there_by (has_got objects);
    slots = has_slot;
    held =
        subst (λ (w : Where). IfSome m.got (HoldsGot objects w image)) (sym where_is)
        (subst IsHeld (sym own_map.got) (held_by (has_got objects) refl));
  }

  -- the thread block stands where the thread-local pieces do
  thread_block_right : IsThreadBlockRight subject
  thread_block_right =
      own_thread_block p.base objects resolved.kinds loading.objects link.before.room.layout subject placed_is own_image.loads_are
      own_image.thread_blocks_are refl own_map.got

  relocations_right : AreRelocationsRight subject
  relocations_right = record {
    lawful = referred.relocations;
    fits = subst (AllFit objects) (sym where_is) link.fits;
  }

  -- those that speak of memory
  pieces_held : All (HoldsPiece objects (where_of subject) image) (placed_of subject)
  pieces_held =
      subst (λ (w : Where). All (HoldsPiece objects w image) w.placed) (sym where_is)
      own_image.pieces_held

  no_tables : m.symtab ≡ None → own_tables p.base objects table ≡ []
  no_tables none = by table (sym own_map.symtab ∙ none)
    where
      by : (t : Option (List Meaning)) → option_map (symtab_line_of p.base objects) t ≡ None → own_tables p.base objects t ≡ []
      by None e = refl
      by (Some ms) e = absurd (let clash : Some (symtab_line_of p.base objects ms) ≡ None = e in cc)

  nothing_else : HasNothingElse image m.symtab (things_of subject)
  nothing_else =
      subst (HasNothingElse image m.symtab) (sym things_are)
      (own_image.nothing_else m.symtab no_tables)

  -- those that speak of symbols
  entry_is : (file_header image).e_entry ≡ own_entry p.base objects p.entry
  entry_is = ap (λ (h : FileHeader). h.e_entry) own_image.header_is ∙ by table
    where
      by : (t : Option (List Meaning)) → (own_fields p.base objects (own_entry p.base objects p.entry) t).e_entry ≡ own_entry p.base objects p.entry
      by None = refl
      by (Some ms) = refl

  enters : EntersRight subject
  enters =
      let value : own_entry p.base objects p.entry ≡ unwrap_or (option_map (meaning_value (where_of subject)) (object_meaning objects p.entry)) 0 =
      ap (λ (w : Where). unwrap_or (option_map (meaning_value w) (object_meaning objects p.entry)) 0) (sym where_is) in (
        referred.entry,
        entered objects p.entry (chosen objects p.entry) (meaning_value (where_of subject)) ((file_header image).e_entry)
            (λ d. is_in_thread_section objects d ≡ false) refl (entry_is ∙ value) referred.entry,
      )

  symbols_listed : AreSymbolsListed subject
  symbols_listed = record {
    sound = resolved.sound;
    unique = resolved.unique;
    lines = subst (λ (w : Where). (name : List ℕ) → HasLine m.symbols objects w name) (sym where_is) own_map.symbols;
  }

  -- the symbol table stands where the words ask for one
  ends_are : file_end (loads image) ≡ own_end p.base objects
  ends_are = ap file_end own_image.loads_are

  -- the names stand in front of the end of the tables
  names_fit : p.strip ≡ false → length (name_section (tabled objects m.symbols)) < 2 ^ 32
  names_fit kept =
      let ms : List Meaning = tabled objects m.symbols in
      let small = link.before.room.table kept m (subst (λ (b : Bool). IsOwnMap p.base objects b m) kept own_map) in
      let up = (rounded_up 8 (shstrtab_end (own_end p.base objects) ms) (omega arith)).0 in
      omega (arith, small, up)

  tables_by : (b : Bool) → p.strip ≡ b → AreTablesRight subject
  tables_by true stripped =
      let bare : table ≡ None = ap (λ (b : Bool). own_tabled b objects m.symbols) stripped in
      let no_line : m.symtab ≡ None = own_map.symtab ∙ ap (option_map (symtab_line_of p.base objects)) bare in
      let header : file_header image ≡ own_file_header (fields_without (own_entry p.base objects p.entry)) (header_count objects) =
      own_image.header_is
      ∙ ap (λ (t : Option (List Meaning)). own_file_header (own_fields p.base objects (own_entry p.base objects p.entry) t) (header_count objects)) bare in
      record {
        asked = λ v. ap is_some no_line ∙ sym (ap not stripped);
        held = subst (λ (o : Option SymtabLine). IfSome o (HoldsTables subject)) (sym no_line) tt;
        none = λ n. subst HasNoSections (sym header) (record { offset = refl; count = refl; names = refl });
      }
  tables_by false kept =
      let ms : List Meaning = tabled objects m.symbols in
      let there : table ≡ Some ms = ap (λ (b : Bool). own_tabled b objects m.symbols) kept in
      let line : m.symtab ≡ Some (symtab_line_of p.base objects ms) = own_map.symtab ∙ ap (option_map (symtab_line_of p.base objects)) there in
      let header : file_header image ≡ own_file_header (fields_with (own_entry p.base objects p.entry) (headers_at (own_end p.base objects) ms)) (header_count objects) =
      own_image.header_is
      ∙ ap (λ (t : Option (List Meaning)). own_file_header (own_fields p.base objects (own_entry p.base objects p.entry) t) (header_count objects)) there in
      record {
        asked = λ v. ap is_some line ∙ sym (ap not kept);
        held =
            subst (λ (o : Option SymtabLine). IfSome o (HoldsTables subject)) (sym line) (record {
              offset = ap symtab_at (sym ends_are);
              count = refl;
              names_fit = names_fit kept;
              bytes =
                  ap (λ (n : ℕ). drop n image) ends_are
                  ∙ (own_image.tables_are
                  ∙ (ap (own_tables p.base objects) there
                  ∙ (λ i. tables (sym where_is i) (sym ends_are i) ms)));
              headers_offset = ap (λ (h : FileHeader). h.e_shoff) header ∙ ap (λ (n : ℕ). headers_at n ms) (sym ends_are);
              headers_count = ap (λ (h : FileHeader). h.e_shnum) header;
              names_section = ap (λ (h : FileHeader). h.e_shstrndx) header;
            });
        none = λ n. absurd (let clash : Some (symtab_line_of p.base objects ms) ≡ None = sym line ∙ n in cc);
      }

  right : (c : Clause) → Holds c subject
  right C1 = tt
  right C2 = loaded
  right C3 = sections_listed
  right C4 = own_image.accepted
  right C5 = placed_right
  right C6 = rights_right
  right C7 = got_right
  right C8 = thread_block_right
  right C9 = relocations_right
  right C10 = pieces_held
  right C11 = nothing_else
  right C12 = enters
  right C13 = symbols_listed
  right C14 = tables_by p.strip refl

  pub own_is_right :
      IsRightLink files words
      (image_file p.base (loaded_objects files p) (own_entry p.base (loaded_objects files p) p.entry) (own_tabled p.strip (loaded_objects files p) m.symbols))
      (text m)
  own_is_right = record {
    plan = p;
    map = m;
    read = record { plan = loading.before.before.words_are; map = is_map; spelled = refl };
    holds = right;
  }
