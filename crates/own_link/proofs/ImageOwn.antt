-- The image file of the own layout, for every list of objects: it reads back as its headers, is an image that a
-- loader maps, has the thread block, holds each piece, and has nothing else.
use Rattle.std.proofs.Common.{◌≡◌, inl, inr, ℕ, ◌+◌, ◌^◌, ◌<◌, Bool, true, false, ◌||◌, cond, List, [], ◌∷◌, ◌++◌, length, map, refl, sym, ◌∙◌, ap, subst, arith}
use Rattle.std.specs.Prelude.{All, Contains, IfSome, Option, None, Some, drop, is_some, option_map, slice_index}
use Rattle.std.specs.List.{list_any}
use Rattle.std.specs.Option.{option_map_or}
use Rattle.std.proofs.lemmas.List.{append-nil}
use Rattle.std.proofs.lemmas.List.Folds.{list_any_none}
use Rattle.elf_model.specs.Inputs.Command.{IsBase}
use Rattle.elf_model.specs.Link.Commons.{block_pieces, pieces}
use Rattle.elf_model.specs.Own.ImageFile.{HeaderFields, image_file, own_end, own_fields, own_file_header, own_tables}
use Rattle.elf_model.specs.Link.Loading.{AreObjects, LoadedObject}
use Rattle.elf_model.specs.Image.MemoryImage.{IsImage, loads, thread_blocks}
use Rattle.elf_model.specs.Link.LinkerValues.{least_of, start_of_pieces}
use Rattle.elf_model.specs.Own.OwnLayout.{IsNotTooLarge, code_pieces, code_start, count_if, data_pieces, data_start, got_piece, has_thread_pieces, header_count, is_nonempty, own_address, own_code, own_data, own_headers_size, own_in_load_order, own_where, own_loaded, own_read_only, own_segments, placed_has_bytes, read_only_start, segment}
use Rattle.elf_model.specs.Link.Pieces.{AreLawfulKinds, Piece, is_thread_piece, kept_sections}
use Rattle.elf_model.specs.Link.Meaning.{Meaning}
use Rattle.elf_model.specs.Link.Placement.{Placed, headers_thing}
use Rattle.elf_model.specs.Inputs.Records.{file_header}
use Rattle.elf_model.specs.Image.RightLink.{HasNothingElse, HoldsPiece, byte_at}
use Rattle.elf_model.specs.Link.Slots.{got_bytes, got_size, has_got}
use Rattle.elf_model.specs.Image.SymbolTable.{tables_end}
use Rattle.elf_model.specs.Link.ThreadStorage.{block_from, thread_header, thread_headers}
use Rattle.elf_model.specs.declared.link_map.SymtabLine.{SymtabLine}
use Rattle.elf_model.specs.declared.records.ProgramHeader.{ProgramHeader}
use Rattle.own_link.proofs.Bytes.{byte_here}
use Rattle.own_link.proofs.Held.{own_holds}
use Rattle.own_link.proofs.ImageRead.{IsOwnFile, SuitsFile, made_image, made_is_own}
use Rattle.own_link.proofs.ImageRight.{loads_are, own_headers_thing, own_is_image, own_thread_blocks}
use Rattle.elf_model.proofs.Listed.{All-from_contains, Contains-from_map}
use Rattle.own_link.proofs.Nothing.{own_has_nothing_else}
use Rattle.own_link.proofs.ApartThings.{load_size-less}
use Rattle.own_link.proofs.LoadedThings.{all_has_nothing_else, got_loaded, loaded_by_size}
use Rattle.own_link.proofs.OwnThings.{own_headers_at, own_things_of}
use Rattle.own_link.proofs.ThreadHeaders.{own_thread_headers, placed_pieces_are}
use Rattle.elf_model.proofs.Blocks.{block_pieces-each}
use Rattle.elf_model.proofs.TableLaws.{headers_at-multiple, length-tables}
use Rattle.elf_model.proofs.Places.{AreOwnPlaced, at_own_address, own_listed}
use Rattle.own_link.proofs.SegmentHeaders.{AreOwnSegments, own_segments_good}
use Rattle.own_link.proofs.SegmentPieces.{ArePlacedIn}
use Rattle.own_link.proofs.Segments.{AreGoodParts, own_parts, own_segments_are, segments_of}
use Rattle.own_link.proofs.SegmentsOwn.{own_parts_good}
use Rattle.own_link.proofs.ZeroFilled.{got_wants, loaded_wants_zero, own_wants, piece_wants}

-- the own header of the thread block, where there is one
abbrev pub own_thread_headers_of : ℕ → List LoadedObject → List ProgramHeader
own_thread_headers_of base objects = thread_headers base (own_in_load_order base objects)

-- as many headers are counted as there are, two to five
counted_by :
    (b c : Bool) (f g h : ProgramHeader) →
    ◌≡◌ {A = ℕ} (1 + (count_if b + count_if c)) (length (f ∷ (cond b (g ∷ []) [] ++ cond c (h ∷ []) [])))
counted_by true true f g h = refl
counted_by true false f g h = refl
counted_by false true f g h = refl
counted_by false false f g h = refl

-- the thread-local pieces tell whether there is a block
start_there : (qs : List Placed) → is_some (start_of_pieces is_thread_piece qs) ≡ list_any is_thread_piece (map (λ (q : Placed). q.piece) qs)
start_there [] = refl
start_there (q ∷ qs) = by (is_thread_piece q.piece) (start_there qs)
  where
    by :
        (b : Bool) → is_some (start_of_pieces is_thread_piece qs) ≡ list_any is_thread_piece (map (λ (r : Placed). r.piece) qs) →
        is_some (cond b (Some (least_of q.at (start_of_pieces is_thread_piece qs))) (start_of_pieces is_thread_piece qs))
        ≡ (b || list_any is_thread_piece (map (λ (r : Placed). r.piece) qs))
    by true rest = refl
    by false rest = rest

any_front : (t : Piece → Bool) (ps qs : List Piece) → list_any t qs ≡ false → list_any t (ps ++ qs) ≡ list_any t ps
any_front t [] qs none = none
any_front t (p ∷ ps) qs none = ap (λ (b : Bool). t p || b) (any_front t ps qs none)

thread_count_by :
    (base : ℕ) (qs : List Placed) (o : Option ℕ) →
    count_if (is_some o) ≡ length (option_map_or (λ b. thread_header base qs b ∷ []) (option_map (block_from qs) o) [])
thread_count_by base qs None = refl
thread_count_by base qs (Some a) = refl

pub thread_count : (base : ℕ) (objects : List LoadedObject) → count_if (has_thread_pieces objects) ≡ length (own_thread_headers_of base objects)
thread_count base objects =
    let qs : List Placed = own_in_load_order base objects in
    let there : is_some (start_of_pieces is_thread_piece qs) ≡ has_thread_pieces objects =
    start_there qs
    ∙ (ap (list_any is_thread_piece) (placed_pieces_are base objects)
    ∙ any_front is_thread_piece (kept_sections objects) (block_pieces objects)
    (list_any_none is_thread_piece (block_pieces objects) (block_pieces-each objects (λ p. is_thread_piece p ≡ false) (λ k s c. refl)))) in
    ap count_if (sym there) ∙ thread_count_by base qs (start_of_pieces is_thread_piece qs)

pub header_count_is :
    (base : ℕ) (objects : List LoadedObject) →
    header_count objects ≡ length (own_segments base objects) + (length (own_thread_headers_of base objects) + 1)
header_count_is base objects =
    let segments =
    counted_by (list_any is_nonempty (code_pieces objects)) (list_any is_nonempty (data_pieces objects))
    (segment base 4 base (read_only_start base objects) (own_read_only base objects))
    (segment base 5 (code_start base objects) (code_start base objects) (own_code base objects))
    (segment base 6 (data_start base objects) (data_start base objects) (own_data base objects)) in
    let threads = thread_count base objects in
    omega (arith, segments, threads)

few_by : (b c d : Bool) → ◌<◌ (2 + (count_if b + (count_if c + count_if d))) (2 ^ 16)
few_by true true true = omega arith
few_by true true false = omega arith
few_by true false true = omega arith
few_by true false false = omega arith
few_by false true true = omega arith
few_by false true false = omega arith
few_by false false true = omega arith
few_by false false false = omega arith

pub few_headers : (objects : List LoadedObject) → header_count objects < 2 ^ 16
few_headers objects =
    few_by (list_any is_nonempty (code_pieces objects)) (list_any is_nonempty (data_pieces objects)) (has_thread_pieces objects)

-- what is known of the own image
pub record IsOwnImage (base : ℕ) (objects : List LoadedObject) (entry : ℕ) (table : Option (List Meaning)) (image : List ℕ) : Type 0 where
  pub loads_are : loads image ≡ own_segments base objects
  pub accepted : IsImage image
  pub thread_blocks_are : thread_blocks image ≡ own_thread_headers_of base objects
  pub header_is : file_header image ≡ own_file_header (own_fields base objects entry table) (header_count objects)
  pub headers_are : headers_thing image ≡ own_headers_at base objects
  pub pieces_held : All (HoldsPiece objects (own_where base objects) image) (own_in_load_order base objects)
  pub got_held :
      has_got objects ≡ true → (k : ℕ) → k < got_size objects →
      byte_at image (own_address base objects (got_piece objects) + k) ≡ Some (slice_index (got_bytes objects (own_where base objects)) k)
  pub nothing_else :
      (symtab : Option SymtabLine) → (symtab ≡ None → own_tables base objects table ≡ []) →
      HasNothingElse image symtab (own_things_of base objects)
  pub tables_are : drop (own_end base objects) image ≡ own_tables base objects table

-- the fields of a header fit the file, where the table has room
abbrev pub IsRoomFor : ℕ → List LoadedObject → Option (List Meaning) → Type 0
IsRoomFor base objects table = IfSome table (λ ms. tables_end (own_end base objects) ms < 2 ^ 32)

pub own_suits :
    (base : ℕ) (objects : List LoadedObject) (entry : ℕ) (table : Option (List Meaning)) → entry < 2 ^ 64 → IsRoomFor base objects table →
    SuitsFile (own_fields base objects entry table) (own_end base objects + length (own_tables base objects table))
own_suits base objects entry None small room = record {
  fit = record { entry = small; offset = omega arith; count = omega arith; names = omega arith };
  sections = inl (record { offset = refl; count = refl; names = refl });
}
own_suits base objects entry (Some ms) small room =
    let long = length-tables (own_where base objects) (own_end base objects) ms in
    record {
      fit = record { entry = small; offset = omega (arith, room); count = omega arith; names = omega arith };
      sections =
          inr (record { offset = headers_at-multiple (own_end base objects) ms; inside = omega (arith, long); count = refl; names = refl });
    }

-- the own image where any bytes are wanted of the pieces, and any stand behind the last file part
abbrev pub wanted_image : (Placed → ℕ → ℕ) → ℕ → List LoadedObject → HeaderFields → List ℕ → List ℕ
wanted_image want base objects fields tail =
    made_image fields (header_count objects) base (own_headers_size objects) (own_segments base objects)
    (own_thread_headers_of base objects) (byte_here want (own_segments base objects) (own_loaded base objects)) tail

module _ (base : ℕ) (objects : List LoadedObject) (kinds : AreLawfulKinds objects) (based : IsBase base) (fits : IsNotTooLarge base objects) (stand : AreOwnPlaced base objects) (are_objects : AreObjects objects) where
  good : AreGoodParts base (own_headers_size objects) (own_parts base objects)
  good = own_parts_good base objects kinds based fits stand

  pub good_segments : AreOwnSegments base (own_headers_size objects) (own_segments base objects)
  good_segments =
      subst (AreOwnSegments base (own_headers_size objects)) (sym (own_segments_are base objects))
      (own_segments_good base (own_headers_size objects) (own_parts base objects) good)

  pub placed_in_parts : ArePlacedIn (own_parts base objects) (own_loaded base objects) (own_loaded base objects)
  placed_in_parts = record {
    joined = ap (λ (qs : List Placed). own_read_only base objects ++ (own_code base objects ++ qs)) (sym (append-nil (own_data base objects)));
    apart = stand.apart;
    listed = λ q c. c;
    all = λ q c. c;
  }

  module _ (want : Placed → ℕ → ℕ) (zero_filled : (q : Placed) (k : ℕ) → Contains (own_loaded base objects) q → placed_has_bytes q ≡ false → want q k ≡ 0) (fields : HeaderFields) (tail : List ℕ) (suits : SuitsFile fields (own_end base objects + length tail)) where
    wanted_made :
        (file :
        IsOwnFile (wanted_image want base objects fields tail) fields (header_count objects) base (own_headers_size objects) (own_segments base objects)
        (byte_here want (own_segments base objects) (own_loaded base objects)))
        × (file.threads ≡ own_thread_headers_of base objects)
        × (file.tail ≡ tail)
    wanted_made =
        made_is_own fields (header_count objects) base (own_headers_size objects) (own_segments base objects) (own_thread_headers_of base objects)
        (byte_here want (own_segments base objects) (own_loaded base objects)) tail good_segments
        (own_thread_headers base objects kinds are_objects fits) (header_count_is base objects) refl suits (few_headers objects)

    pub wanted_file :
        IsOwnFile (wanted_image want base objects fields tail) fields (header_count objects) base (own_headers_size objects) (own_segments base objects)
        (byte_here want (own_segments base objects) (own_loaded base objects))
    wanted_file = wanted_made.0

    -- the same, of the headers of the parts
    of_parts :
        (file :
        IsOwnFile (wanted_image want base objects fields tail) fields (header_count objects) base (own_headers_size objects)
        (segments_of base (own_parts base objects))
        (byte_here want (segments_of base (own_parts base objects)) (own_loaded base objects)))
        × (file.tail ≡ tail)
    of_parts =
        subst (λ (hs : List ProgramHeader).
        (file :
        IsOwnFile (wanted_image want base objects fields tail) fields (header_count objects) base (own_headers_size objects) hs
        (byte_here want hs (own_loaded base objects)))
        × (file.tail ≡ tail)) (own_segments_are base objects) (wanted_made.0, wanted_made.2)

    pub wanted_loads : loads (wanted_image want base objects fields tail) ≡ own_segments base objects
    wanted_loads =
        loads_are base (own_headers_size objects) (own_segments base objects) good_segments (wanted_image want base objects fields tail) fields
        (header_count objects) (byte_here want (own_segments base objects) (own_loaded base objects)) wanted_file

    pub wanted_is_image : IsImage (wanted_image want base objects fields tail)
    wanted_is_image =
        own_is_image base (own_headers_size objects) (own_segments base objects) good_segments (wanted_image want base objects fields tail) fields
        (header_count objects) (byte_here want (own_segments base objects) (own_loaded base objects)) wanted_file

    pub wanted_thread_blocks : thread_blocks (wanted_image want base objects fields tail) ≡ own_thread_headers_of base objects
    wanted_thread_blocks =
        own_thread_blocks base (own_headers_size objects) (own_segments base objects) good_segments (wanted_image want base objects fields tail) fields
        (header_count objects) (byte_here want (own_segments base objects) (own_loaded base objects)) wanted_made.0
        ∙ wanted_made.1

    pub wanted_header : file_header (wanted_image want base objects fields tail) ≡ own_file_header fields (header_count objects)
    wanted_header = wanted_file.header

    pub wanted_tail : drop (own_end base objects) (wanted_image want base objects fields tail) ≡ tail
    wanted_tail = wanted_made.0.rest ∙ wanted_made.2

    pub wanted_headers_thing : headers_thing (wanted_image want base objects fields tail) ≡ own_headers_at base objects
    wanted_headers_thing =
        own_headers_thing base (own_headers_size objects) (own_segments base objects) good_segments (wanted_image want base objects fields tail) fields
        (header_count objects) (byte_here want (own_segments base objects) (own_loaded base objects)) wanted_file

    pub wanted_holds :
        (q : Placed) → Contains (own_loaded base objects) q → (k : ℕ) → k < q.piece.size →
        byte_at (wanted_image want base objects fields tail) (q.at + k) ≡ Some (want q k)
    wanted_holds =
        own_holds base (own_headers_size objects) (own_parts base objects) good (own_loaded base objects) (own_loaded base objects)
        placed_in_parts want zero_filled (wanted_image want base objects fields tail) fields (header_count objects) of_parts.0

    pub wanted_has_nothing_else :
        (symtab : Option SymtabLine) → (symtab ≡ None → tail ≡ []) →
        HasNothingElse (wanted_image want base objects fields tail) symtab (own_things_of base objects)
    wanted_has_nothing_else symtab bare =
        all_has_nothing_else base objects kinds (wanted_image want base objects fields tail) symtab
        (own_has_nothing_else base (own_headers_size objects) (own_parts base objects) good (own_loaded base objects)
        (own_loaded base objects) placed_in_parts (omega arith) want zero_filled (wanted_image want base objects fields tail) fields
        (header_count objects) of_parts.0 symtab (λ none. of_parts.1 ∙ bare none))

  -- the image file wants the bytes of the input and of the fields
  module _ (entry : ℕ) (table : Option (List Meaning)) (suits : SuitsFile (own_fields base objects entry table) (own_end base objects + length (own_tables base objects table))) where
    abbrev fields : HeaderFields
    fields = own_fields base objects entry table

    abbrev tail : List ℕ
    tail = own_tables base objects table

    abbrev wants : Placed → ℕ → ℕ
    wants = own_wants base objects

    wants_zero : (q : Placed) (k : ℕ) → Contains (own_loaded base objects) q → placed_has_bytes q ≡ false → wants q k ≡ 0
    wants_zero = loaded_wants_zero objects are_objects base stand

    pieces_held : All (HoldsPiece objects (own_where base objects) (image_file base objects entry table)) (own_in_load_order base objects)
    pieces_held =
        All-from_contains (HoldsPiece objects (own_where base objects) (image_file base objects entry table)) (own_in_load_order base objects)
        (λ q c. record {
          bytes = λ k within.
              let i = Contains-from_map (at_own_address base objects) (pieces objects) q c in
              wanted_holds wants wants_zero fields tail suits q
              (loaded_by_size base objects kinds q (own_listed base objects kinds q c) (omega (arith, within))) k (let less = load_size-less q.piece in omega (arith, within, less))
              ∙ ap Some (piece_wants objects are_objects (own_where base objects) q.piece k (subst (λ (r : Placed). Contains (pieces objects) r.piece) i.is i.there));
        })

    got_held :
        has_got objects ≡ true → (k : ℕ) → k < got_size objects →
        byte_at (image_file base objects entry table) (own_address base objects (got_piece objects) + k) ≡ Some (slice_index (got_bytes objects (own_where base objects)) k)
    got_held there k within =
        wanted_holds wants wants_zero fields tail suits (at_own_address base objects (got_piece objects))
        (got_loaded base objects kinds there) k within
        ∙ ap Some (got_wants objects are_objects (own_where base objects) k)

    pub image_is_own : IsOwnImage base objects entry table (image_file base objects entry table)
    image_is_own = record {
      loads_are = wanted_loads wants wants_zero fields tail suits;
      accepted = wanted_is_image wants wants_zero fields tail suits;
      thread_blocks_are = wanted_thread_blocks wants wants_zero fields tail suits;
      header_is = wanted_header wants wants_zero fields tail suits;
      headers_are = wanted_headers_thing wants wants_zero fields tail suits;
      pieces_held = pieces_held;
      got_held = got_held;
      nothing_else = wanted_has_nothing_else wants wants_zero fields tail suits;
      tables_are = wanted_tail wants wants_zero fields tail suits;
    }
