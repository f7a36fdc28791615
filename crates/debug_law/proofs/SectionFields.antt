-- The section headers of an image for tools fit their fields, and their names have no NUL.
use Rattle.std.proofs.Common.{◌≡◌, ℕ, ◌+◌, ◌*◌, ◌%◌, ◌^◌, ◌<◌, ◌≤◌, ◌++◌, List, [], ◌∷◌, arith, codes, inl, inr, length, refl, sym}
use Rattle.std.specs.Prelude.{All, Bool, None, Option, Some, cond, false, find, max, nat_le, nat_lt, not, true, unwrap_or, ◌==◌, ◌&&◌}
use Rattle.std.specs.List.{list_all}
use Rattle.std.proofs.lemmas.Bool.{and_parts, leb-true}
use Rattle.std.proofs.lemmas.Nat.{and_le_r}
use Rattle.std.proofs.lemmas.List.Elements.{All-append, All-cons, All-contains, All-filter, All-head, All-map, All-nil, All-tail, All-weaker}
use Rattle.elf_model.specs.Image.MapText.{AreBytes}
use Rattle.elf_model.specs.Inputs.ObjectFile.{IsAlignment, IsObject, IsPlaced, sections}
use Rattle.elf_model.specs.Inputs.Records.{FitsSectionHeader}
use Rattle.elf_model.specs.Link.Commons.{block_pieces}
use Rattle.elf_model.specs.Link.Loading.{AreObjects, LoadedObject}
use Rattle.elf_model.specs.Link.Pieces.{AreLawfulKinds, Piece, gathering_names, is_gathered_by, kept_sections, lawful_types, output_name}
use Rattle.elf_model.specs.Link.Placement.{Placed, round_up}
use Rattle.elf_model.specs.Own.OwnLayout.{IsNotTooLarge, got_pieces, laid_out, own_address, own_laid_out, own_placed, placed_end}
use Rattle.elf_model.specs.declared.constants.TheConstants.{SHT_FINI_ARRAY, SHT_INIT_ARRAY, SHT_NOBITS, SHT_NOTE, SHT_PREINIT_ARRAY, SHT_PROGBITS, SHT_X86_64_UNWIND}
use Rattle.elf_model.proofs.Blocks.{block_pieces-each}
use Rattle.elf_model.proofs.Finding.{find-found}
use Rattle.elf_model.proofs.Listed.{All-from_contains, Contains-from_slice_get}
use Rattle.elf_model.proofs.PieceNumbers.{got_pieces-each}
use Rattle.elf_model.proofs.Places.{are_own_placed}
use Rattle.elf_model.proofs.Running.{rounded_up}
use Rattle.elf_model.proofs.Sectioned.{kept-each}
use Rattle.debug_image.specs.DebugSections.{AreLow, EndsLow, IsLow, Joined, alignment, data_end, debug_pieces, debug_rows, empty, grown, holds_strings, is_joined_of, joined_all, joined_from, joined_of, joined_rows, joined_with, left_flags, named, place_behind, place_in, places_from, row_of, rows_from, start_of}
use Rattle.debug_image.specs.Sections.{Section, begun, has_memory, runs_from, runs_of, same_section, section_row, section_rows, sections_of, title_of}
use Rattle.debug_image.specs.Sections.{grown as grown_run}
use Rattle.debug_image.specs.Tables.{HeaderRow, IsSmall, Tables, header_rows, headers_at, shstrtab_at, shstrtab_end, strings_row, strtab_at, symtab_at, symtab_row}
use Rattle.debug_image.proofs.Runs.{IsRunOf, runs_of-each}
use Rattle.debug_law.proofs.DataLength.{pieces_each, replaced_each}
use Rattle.debug_law.proofs.JoinedNames.{both}
use Rattle.debug_law.proofs.ObjectFields.{IsText, no_text, section_named}
use Rattle.debug_law.proofs.SymbolFields.{block_said}

-- a header with its name
pub record IsSaidHeader (r : HeaderRow) : Type 0 where
  pub fits : FitsSectionHeader r.header
  pub name : IsText r.title

-- texts that are written out
abbrev has_no_nul : List ℕ → Bool
has_no_nul name = list_all (λ b. not (b == 0)) name

written_out : (name : List ℕ) → has_no_nul name ≡ true → IsText name
written_out [] e = no_text
written_out (b ∷ bs) e =
    let parts = and_parts (not (b == 0)) (has_no_nul bs) e in
    All-cons (λ x. (x == 0) ≡ false) b bs (flip (b == 0) parts.0) (written_out bs parts.1)
  where
    flip : (t : Bool) → not t ≡ true → t ≡ false
    flip true e = sym e
    flip false e = refl

-- the output name of a text is one
gathering_texts : All IsText gathering_names
gathering_texts = All-weaker (λ n. has_no_nul n ≡ true) IsText written_out gathering_names all
  where
    each : (names : List (List ℕ)) → list_all has_no_nul names ≡ true → All (λ n. has_no_nul n ≡ true) names
    each [] e = All-nil (λ n. has_no_nul n ≡ true)
    each (n ∷ ns) e =
        let parts = and_parts (has_no_nul n) (list_all has_no_nul ns) e in
        All-cons (λ m. has_no_nul m ≡ true) n ns parts.0 (each ns parts.1)

    all : All (λ n. has_no_nul n ≡ true) gathering_names
    all = each gathering_names refl

output_text : (name : List ℕ) → IsText name → IsText (output_name name)
unfolding output_name
output_text name text = by (find (is_gathered_by name) gathering_names) refl
  where
    by : (o : Option (List ℕ)) → find (is_gathered_by name) gathering_names ≡ o → IsText (unwrap_or o name)
    by None f = text
    by (Some n) f = All-contains IsText gathering_names n gathering_texts (find-found (is_gathered_by name) gathering_names n f).there

-- pieces
pub record IsSaidPiece (p : Piece) : Type 0 where
  pub type_ : p.header.sh_type < 2 ^ 32
  pub align : p.align < 2 ^ 64
  pub name : IsText p.name

abbrev IsType : ℕ → Type 0
IsType t = t < 2 ^ 32

lawful : All IsType lawful_types
lawful = All-cons IsType SHT_PROGBITS (SHT_NOTE ∷ SHT_NOBITS ∷ SHT_INIT_ARRAY ∷ SHT_FINI_ARRAY ∷ SHT_PREINIT_ARRAY ∷ SHT_X86_64_UNWIND ∷ []) (omega arith) (All-cons IsType SHT_NOTE (SHT_NOBITS ∷ SHT_INIT_ARRAY ∷ SHT_FINI_ARRAY ∷ SHT_PREINIT_ARRAY ∷ SHT_X86_64_UNWIND ∷ []) (omega arith) (All-cons IsType SHT_NOBITS (SHT_INIT_ARRAY ∷ SHT_FINI_ARRAY ∷ SHT_PREINIT_ARRAY ∷ SHT_X86_64_UNWIND ∷ []) (omega arith) (All-cons IsType SHT_INIT_ARRAY (SHT_FINI_ARRAY ∷ SHT_PREINIT_ARRAY ∷ SHT_X86_64_UNWIND ∷ []) (omega arith) (All-cons IsType SHT_FINI_ARRAY (SHT_PREINIT_ARRAY ∷ SHT_X86_64_UNWIND ∷ []) (omega arith) (All-cons IsType SHT_PREINIT_ARRAY (SHT_X86_64_UNWIND ∷ []) (omega arith) (All-cons IsType SHT_X86_64_UNWIND [] (omega arith) (All-nil IsType)))))))

aligned_low : (a : ℕ) → IsAlignment a → max 1 a < 2 ^ 64
aligned_low a (inl none) = omega (arith, none)
aligned_low a (inr low) = let l = low.1 in omega (arith, l)

module _ (base : ℕ) (objects : List LoadedObject) (kinds : AreLawfulKinds objects) (fits : IsNotTooLarge base objects) (good : AreObjects objects) (bytes : All (λ o. AreBytes o.bytes) objects) where
  abbrev IsNamed : Piece → Type 0
  IsNamed p = (p.align < 2 ^ 64) × IsText p.name

  kept_named : All IsNamed (kept_sections objects)
  kept_named =
      kept-each IsNamed objects (λ k o there i h here.
      let whole : IsObject o.bytes = All-contains (λ (x : LoadedObject). IsObject x.bytes) objects o good (Contains-from_slice_get objects k o there) in
      let placed : IsPlaced (length o.bytes) h = All-contains (IsPlaced (length o.bytes)) (sections o.bytes) h whole.ranges (Contains-from_slice_get (sections o.bytes) i h here) in
      (aligned_low h.sh_addralign placed.alignment, section_named o.bytes i))

  kept_said : All IsSaidPiece (kept_sections objects)
  kept_said k d within =
      let named = kept_named k d within in
      record { type_ = All-contains IsType lawful_types _ lawful (kinds k d within).type_; align = named.0; name = named.1 }

  laid_said : All IsSaidPiece (laid_out objects)
  laid_said =
      All-append IsSaidPiece (kept_sections objects ++ block_pieces objects) (got_pieces objects)
      (All-append IsSaidPiece (kept_sections objects) (block_pieces objects) kept_said
      (block_pieces-each objects IsSaidPiece (λ k s c. record { type_ = omega arith; align = (block_said objects bytes k s c).align; name = no_text })))
      (got_pieces-each objects IsSaidPiece (record { type_ = omega arith; align = omega arith; name = no_text }))

  -- places
  abbrev IsSaidPlace : Placed → Type 0
  IsSaidPlace q = IsSaidPiece q.piece × (placed_end q ≤ 2 ^ 46)

  places_said : All IsSaidPlace (own_placed base objects)
  places_said =
      All-from_contains IsSaidPlace (own_placed base objects) (λ q c. (
        All-contains (λ (r : Placed). IsSaidPiece r.piece) (own_laid_out base objects) q
            (All-map (λ (r : Placed). IsSaidPiece r.piece) (λ p. record { at = own_address base objects p; piece = p }) (laid_out objects) laid_said)
            ((are_own_placed base objects kinds).all q c),
        All-contains (λ (r : Placed). placed_end r ≤ 2 ^ 46) (own_placed base objects) q fits.ends c,
      ))

  -- the greatest alignments of runs
  abbrev IsSaidAlign : Section → Type 0
  IsSaidAlign s = s.align < 2 ^ 64

  aligns_from : (count : ℕ) (s : Section) (qs : List Placed) → IsSaidAlign s → All IsSaidPlace qs → All IsSaidAlign (runs_from count s qs)
  aligns_from count s [] low all = All-cons IsSaidAlign s [] low (All-nil IsSaidAlign)
  aligns_from count s (q ∷ qs) low all =
      let here = (All-head IsSaidPlace q qs all).0.align in
      let rest = All-tail IsSaidPlace q qs all in
      both (λ b. All IsSaidAlign (cond b (runs_from count (grown_run s q) qs) (s ∷ runs_from count (begun q) qs))) (same_section count s.first.piece q.piece)
      (λ t. aligns_from count (grown_run s q) qs (omega (arith, low, here)) rest)
      (λ f. All-cons IsSaidAlign s (runs_from count (begun q) qs) low (aligns_from count (begun q) qs here rest))

  aligns_of : (count : ℕ) (qs : List Placed) → All IsSaidPlace qs → All IsSaidAlign (runs_of count qs)
  aligns_of count [] all = All-nil IsSaidAlign
  aligns_of count (q ∷ qs) all = aligns_from count (begun q) qs (All-head IsSaidPlace q qs all).0.align (All-tail IsSaidPlace q qs all)

  -- the header of a section
  title_said : (p : Piece) → IsSaidPiece p → IsText (title_of (length objects) p)
  title_said p said =
      both (λ b. IsText (cond b (codes "COMMON") (cond (nat_lt (length objects) p.object) (codes ".got") (output_name p.name)))) (p.object == length objects)
      (λ t. written_out (codes "COMMON") refl)
      (λ f. both (λ b. IsText (cond b (codes ".got") (output_name p.name))) (nat_lt (length objects) p.object) (λ t. written_out (codes ".got") refl)
      (λ g. output_text p.name said.name))

  section_said : (s : Section) → IsRunOf IsSaidPlace s → IsSaidAlign s → IsSaidHeader (section_row base (length objects) s)
  section_said s run low =
      let first = run.first.1 in
      let last = run.last_is.1 in
      let end = run.end in
      let flags = and_le_r s.first.piece.header.sh_flags 0x407 in
      record {
        fits = record {
          sh_name = omega arith;
          sh_type = run.first.0.type_;
          sh_flags = omega (arith, flags);
          sh_addr = omega (arith, first);
          sh_offset = omega (arith, first);
          sh_size = omega (arith, last, end);
          sh_link = omega arith;
          sh_info = omega arith;
          sh_addralign =
              both (λ b. cond b s.align s.first.piece.align < 2 ^ 64) (nat_lt 0 s.align && (s.first.at % s.align == 0)) (λ t. low) (λ f. run.first.0.align);
          sh_entsize = omega arith;
        };
        name = title_said s.first.piece run.first.0;
      }

  pub sections_said : All IsSaidHeader (section_rows base (length objects) (sections_of (length objects) (own_placed base objects)))
  sections_said =
      let runs = All-filter has_memory (IsRunOf IsSaidPlace) (runs_of (length objects) (own_placed base objects)) (runs_of-each (length objects) IsSaidPlace (own_placed base objects) places_said) in
      let aligns = All-filter has_memory IsSaidAlign (runs_of (length objects) (own_placed base objects)) (aligns_of (length objects) (own_placed base objects) places_said) in
      All-map IsSaidHeader (section_row base (length objects)) (sections_of (length objects) (own_placed base objects))
      (λ k d within. section_said _ (runs k d within) (aligns k d within))

-- What is joined of debug data is low, and its names are texts.
pub record IsSaidJoined (j : Joined) : Type 0 where
  pub low : IsLow j
  pub name : IsText j.title

alignment_low : (p : Piece) → alignment p ≤ 2 ^ 21
alignment_low p = both (λ b. nat_le p.align (2 ^ 21) ≡ b → cond b p.align 1 ≤ 2 ^ 21) (nat_le p.align (2 ^ 21)) (λ t e. leb-true p.align (2 ^ 21) e) (λ f e. omega arith) refl

named_said : (js : List Joined) (n : List ℕ) → All IsSaidJoined js → IsText n → IsSaidJoined (named js n)
named_said js n all text = by (find (is_joined_of n) js) refl
  where
    by : (o : Option Joined) → find (is_joined_of n) js ≡ o → IsSaidJoined (unwrap_or o (empty n))
    by None f = record { low = record { end = omega arith; some = omega arith; align = omega arith }; name = text }
    by (Some j) f = All-contains IsSaidJoined js j all (find-found (is_joined_of n) js j f).there

grown_said : (j : Joined) (p : Piece) → IsSaidJoined j → EndsLow (place_behind j p) → IsSaidJoined (grown j p)
grown_said j p said ends =
    let some = said.low.some in
    let align = said.low.align in
    let own = alignment_low p in
    record { low = record { end = ends; some = omega (arith, some); align = omega (arith, align, own) }; name = said.name }

joined_said : (js : List Joined) (ps : List Piece) → All IsSaidJoined js → All (λ p. IsText p.name) ps → All EndsLow (places_from js ps) → All IsSaidJoined (joined_all js ps)
joined_said js [] all texts low = all
joined_said js (p ∷ ps) all texts low =
    let rest : List Placed = places_from (joined_with js p) ps in
    let said = named_said js p.name all (All-head (λ (q : Piece). IsText q.name) p ps texts) in
    joined_said (joined_with js p) ps
    (replaced_each IsSaidJoined js (grown (named js p.name) p) all (grown_said (named js p.name) p said (All-head EndsLow (place_in js p) rest low)))
    (All-tail (λ (q : Piece). IsText q.name) p ps texts) (All-tail EndsLow (place_in js p) rest low)

from_said : (flags : _) (js : List Joined) (k : ℕ) (os : List LoadedObject) → All IsSaidJoined js → AreLow (rows_from flags js k os) → All IsSaidJoined (joined_from flags js k os)
from_said flags js k [] all low = all
from_said flags js k (o ∷ os) all low =
    let ps : List Piece = debug_pieces flags k o in
    let rest = rows_from flags (joined_all js ps) (k + 1) os in
    from_said flags (joined_all js ps) (k + 1) os
    (joined_said js ps all (pieces_each (λ p. IsText p.name) flags k o (λ i. section_named o.bytes i)) (All-head (All EndsLow) (places_from js ps) rest low))
    (All-tail (All EndsLow) (places_from js ps) rest low)

pub all_joined_said : (objects : List LoadedObject) → AreLow (debug_rows objects) → All IsSaidJoined (joined_of objects)
all_joined_said objects low = from_said (left_flags objects) [] 0 objects (All-nil IsSaidJoined) low

-- each of them moves the end of the file by less than 2 ^ 41
moved : (y : ℕ) (j : Joined) → IsSaidJoined j → (y ≤ start_of y j) × (start_of y j + j.end ≤ y + 2 ^ 41)
moved y j said =
    let some = said.low.some in
    let align = said.low.align in
    let end = said.low.end in
    let up = rounded_up j.align y (omega (arith, some)) in
    let low = up.0 in
    let high = up.1 in
    (low, omega (arith, high, align, end))

pub data_end_low : (y : ℕ) (js : List Joined) → All IsSaidJoined js → data_end y js ≤ y + 2 ^ 41 * length js
data_end_low y [] all = omega arith
data_end_low y (j ∷ js) all =
    let here = (moved y j (All-head IsSaidJoined j js all)).1 in
    let rest = data_end_low (start_of y j + j.end) js (All-tail IsSaidJoined j js all) in
    omega (arith, here, rest)

pub joined_rows_said : (y : ℕ) (js : List Joined) → All IsSaidJoined js → y + 2 ^ 41 * length js ≤ 2 ^ 60 → All IsSaidHeader (joined_rows y js)
joined_rows_said y [] all room = All-nil IsSaidHeader
joined_rows_said y (j ∷ js) all room =
    let said = All-head IsSaidJoined j js all in
    let here = (moved y j said).1 in
    let end = said.low.end in
    let align = said.low.align in
    All-cons IsSaidHeader (row_of (start_of y j) j) (joined_rows (start_of y j + j.end) js)
    (record {
      fits = record {
        sh_name = omega arith;
        sh_type = omega arith;
        sh_flags = both (λ b. cond b 0x30 0 < 2 ^ 64) (holds_strings j) (λ t. omega arith) (λ f. omega arith);
        sh_addr = omega arith;
        sh_offset = omega (arith, here, room);
        sh_size = omega (arith, end);
        sh_link = omega arith;
        sh_info = omega arith;
        sh_addralign = omega (arith, align);
        sh_entsize = both (λ b. cond b 1 0 < 2 ^ 64) (holds_strings j) (λ t. omega arith) (λ f. omega arith);
      };
      name = said.name;
    })
    (joined_rows_said (start_of y j + j.end) js (All-tail IsSaidJoined j js all) (omega (arith, here, room)))

-- The tables, which stand behind an end.
module _ (x : ℕ) (t : Tables) (low : x ≤ 2 ^ 60) (small : IsSmall t) where
  rounded : (e : ℕ) → round_up 8 e < e + 8
  rounded e = (rounded_up 8 e (omega arith)).1

  pub offset_low : headers_at x t < 2 ^ 64
  offset_low =
      let a = rounded x in
      let b = rounded (shstrtab_end x t) in
      let s = small.symbols in
      let n = small.names in
      let m = small.titles in
      omega (arith, low, a, b, s, n, m)

  strings_said : (title : List ℕ) (at size : ℕ) → IsText title → at < 2 ^ 64 → size < 2 ^ 64 → IsSaidHeader (strings_row title at size)
  strings_said title at size text here long = record {
    fits = record {
      sh_name = omega arith;
      sh_type = omega arith;
      sh_flags = omega arith;
      sh_addr = omega arith;
      sh_offset = here;
      sh_size = long;
      sh_link = omega arith;
      sh_info = omega arith;
      sh_addralign = omega arith;
      sh_entsize = omega arith;
    };
    name = text;
  }

  pub tables_said : All IsSaidHeader t.sections → All IsSaidHeader (header_rows x t)
  tables_said said =
      let a = rounded x in
      let s = small.symbols in
      let n = small.names in
      let m = small.titles in
      let count = small.sections in
      let locals = small.locals in
      let symbols : HeaderRow = symtab_row (symtab_at x) (length t.symbols) (length t.sections + 2) t.locals in
      let names : HeaderRow = strings_row (codes ".strtab") (strtab_at x t) (length t.names) in
      let titles : HeaderRow = strings_row (codes ".shstrtab") (shstrtab_at x t) (length t.titles) in
      All-append IsSaidHeader t.sections (symbols ∷ (names ∷ (titles ∷ []))) said
      (All-cons IsSaidHeader symbols (names ∷ (titles ∷ []))
      (record {
        fits = record {
          sh_name = omega arith;
          sh_type = omega arith;
          sh_flags = omega arith;
          sh_addr = omega arith;
          sh_offset = omega (arith, low, a);
          sh_size = omega (arith, s);
          sh_link = omega (arith, count);
          sh_info = locals;
          sh_addralign = omega arith;
          sh_entsize = omega arith;
        };
        name = written_out (codes ".symtab") refl;
      })
      (All-cons IsSaidHeader names (titles ∷ []) (strings_said (codes ".strtab") (strtab_at x t) (length t.names) (written_out (codes ".strtab") refl) (omega (arith, low, a, s)) (omega (arith, n)))
      (All-cons IsSaidHeader titles [] (strings_said (codes ".shstrtab") (shstrtab_at x t) (length t.titles) (written_out (codes ".shstrtab") refl) (omega (arith, low, a, s, n)) (omega (arith, m)))
      (All-nil IsSaidHeader))))
