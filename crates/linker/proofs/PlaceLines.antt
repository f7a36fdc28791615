-- The place and drop lines of the own map fit: numbers that are read from bytes are below 2 ^ 64, parts of bytes are bytes,
-- and the own layout ends at or below 2 ^ 46.
use Rattle.std.proofs.Common.{◌≡◌, ℕ, zero, suc, ◌+◌, ◌*◌, ◌<◌, ◌≤◌, ◌^◌, true, false, Bool, cond, List, [], ◌∷◌, length, drop, slice_index, map, refl, subst, arith}
use Rattle.std.specs.Prelude.{All, Option, None, Some, option_map, unwrap_or, find}
use Rattle.std.specs.List.{position_or_len, range_with_len, slice_get}
use Rattle.std.proofs.Math.Nat.{pow-le-pow_right}
use Rattle.std.proofs.lemmas.List.{length-take}
use Rattle.std.proofs.lemmas.List.Elements.{All-append, All-cons, All-contains, All-drop, All-get_or, All-head, All-map, All-nil, All-tail, All-take}
use Rattle.std.proofs.lemmas.List.FromFn.{length-map-range_with_len}
use Rattle.std.proofs.lemmas.Option.{get_or_from_slice_get, slice_get_within}
use Rattle.byteview.specs.Numbers.{is_nul, le_at, part, text}
use Rattle.byteview.proofs.NumberLaws.{le-below}
use Rattle.elf_model.specs.Own.ImageFile.{place_row_of}
use Rattle.elf_model.specs.Link.Loading.{AreObjects, LoadedObject}
use Rattle.elf_model.specs.Image.MapText.{AreBytes, FitsDrop, FitsPlace}
use Rattle.elf_model.specs.Inputs.ObjectFile.{IsObject, name_of_section, section_strings, sections}
use Rattle.elf_model.specs.Own.OwnLayout.{IsNotTooLarge, own_address, own_placed, placed_end}
use Rattle.elf_model.specs.Link.Pieces.{Piece, kept_sections, piece_of}
use Rattle.elf_model.specs.Link.Placement.{Placed, is_of_section}
use Rattle.elf_model.specs.Inputs.Records.{file_header, section_header}
use Rattle.elf_model.specs.Image.RightLink.{drop_rows, drops_from, is_dropped_line}
use Rattle.elf_model.specs.declared.link_map.DropLine.{DropLine}
use Rattle.elf_model.specs.declared.records.SectionHeader.{SectionHeader}
use Rattle.elf_model.proofs.Finding.{find-found}
use Rattle.elf_model.proofs.Listed.{All-from_contains}
use Rattle.elf_model.proofs.Sectioned.{kept-each}

-- a part of bytes is bytes
pub part-bytes : (bytes : List ℕ) (at n : ℕ) → AreBytes bytes → AreBytes (part bytes at n)
part-bytes bytes at n are = All-take (λ b. b < 256) n (drop at bytes) (All-drop (λ b. b < 256) at bytes are)

-- and so is a text among them
pub text-bytes : (bytes : List ℕ) (at : ℕ) → AreBytes bytes → AreBytes (text bytes at)
text-bytes bytes at are =
    All-take (λ b. b < 256) (position_or_len is_nul (drop at bytes)) (drop at bytes) (All-drop (λ b. b < 256) at bytes are)

at_index : (bytes : List ℕ) → AreBytes bytes → (k : ℕ) → slice_index bytes k < 256
at_index [] are k = omega arith
at_index (b ∷ bytes) are zero = All-head (λ b. b < 256) b bytes are
at_index (b ∷ bytes) are (suc k) = at_index bytes (All-tail (λ b. b < 256) b bytes are) k

-- a number of eight bytes is below 2 ^ 64
pub number-below : (bytes : List ℕ) (at : ℕ) → AreBytes bytes → le_at 8 bytes at < 2 ^ 64
number-below bytes at are =
    let small = le-below (part bytes at 8) (at_index (part bytes at 8) (part-bytes bytes at 8 are)) in
    let cut = length-take 8 (drop at bytes) in
    let short : length (part bytes at 8) ≤ 8 = omega (arith, cut) in
    let most : 256 ^ length (part bytes at 8) ≤ 256 ^ 8 = pow-le-pow_right (omega arith) short in
    omega (arith, small, most)

-- so the size of each section of a file is
pub sizes-below : (bytes : List ℕ) → AreBytes bytes → All (λ h. h.sh_size < 2 ^ 64) (sections bytes)
sizes-below bytes are =
    let from = (file_header bytes).e_shoff in
    All-map (λ (h : SectionHeader). h.sh_size < 2 ^ 64) (λ i. section_header (part bytes (from + 64 * i) 64)) (range_with_len 0 (file_header bytes).e_shnum)
    (All-from_contains (λ i. (section_header (part bytes (from + 64 * i) 64)).sh_size < 2 ^ 64) (range_with_len 0 (file_header bytes).e_shnum)
    (λ i _. number-below (part bytes (from + 64 * i) 64) 32 (part-bytes bytes (from + 64 * i) 64 are)))

size-below : (bytes : List ℕ) (i : ℕ) (h : SectionHeader) → AreBytes bytes → slice_get (sections bytes) i ≡ Some h → h.sh_size < 2 ^ 64
size-below bytes i h are at =
    subst (λ (g : SectionHeader). g.sh_size < 2 ^ 64) (get_or_from_slice_get (sections bytes) i h h at)
    (All-get_or (λ (g : SectionHeader). g.sh_size < 2 ^ 64) (sections bytes) i h (slice_get_within (sections bytes) i h at) (sizes-below bytes are))

-- the name of a section is bytes
name-bytes : (bytes : List ℕ) (o : Option SectionHeader) → AreBytes bytes → AreBytes (unwrap_or (option_map (name_of_section bytes) o) [])
name-bytes bytes None are = All-nil (λ b. b < 256)
name-bytes bytes (Some h) are = text-bytes (section_strings bytes) h.sh_name (part-bytes bytes _ _ are)

-- a file has fewer than 0xff00 sections
few-sections : (bytes : List ℕ) → IsObject bytes → length (sections bytes) < 65536
few-sections bytes object =
    let few = object.table.table.few in
    let same : length (sections bytes) ≡ (file_header bytes).e_shnum =
    length-map-range_with_len (λ i. section_header (part bytes ((file_header bytes).e_shoff + 64 * i) 64)) 0 (file_header bytes).e_shnum in
    omega (arith, few, same)

-- the own address of a piece is low
pub at_or : (o : Option Placed) → ((q : Placed) → o ≡ Some q → placed_end q ≤ 2 ^ 46) → unwrap_or (option_map (λ q. q.at) o) 0 < 2 ^ 64
at_or None each = omega arith
at_or (Some q) each = let end = each q refl in omega (arith, end)

address-below : (base : ℕ) (objects : List LoadedObject) (p : Piece) → IsNotTooLarge base objects → own_address base objects p < 2 ^ 64
address-below base objects p fits =
    at_or (find (is_of_section p.object p.section) (own_placed base objects))
    (λ q found. All-contains (λ (r : Placed). placed_end r ≤ 2 ^ 46) (own_placed base objects) q fits.ends
    (find-found (is_of_section p.object p.section) (own_placed base objects) q found).there)

-- the line of a kept section fits
pub all_places_fit :
    (base : ℕ) (objects : List LoadedObject) → IsNotTooLarge base objects → AreObjects objects → All (λ o. AreBytes o.bytes) objects → length objects < 2 ^ 64 →
    All FitsPlace (map (λ p. place_row_of (record { at = own_address base objects p; piece = p })) (kept_sections objects))
all_places_fit base objects fits are bytes few =
    All-map FitsPlace (λ p. place_row_of (record { at = own_address base objects p; piece = p })) (kept_sections objects)
    (kept-each (λ p. FitsPlace (place_row_of (record { at = own_address base objects p; piece = p }))) objects each)
  where
    at : (P : LoadedObject → Type 0) (k : ℕ) (o : LoadedObject) → slice_get objects k ≡ Some o → All P objects → P o
    at P k o there all =
        subst P (get_or_from_slice_get objects k o o there) (All-get_or P objects k o (slice_get_within objects k o there) all)

    each :
        (k : ℕ) (o : LoadedObject) → slice_get objects k ≡ Some o → (i : ℕ) (h : SectionHeader) → slice_get (sections o.bytes) i ≡ Some h →
        FitsPlace (place_row_of (record { at = own_address base objects (piece_of k o.bytes i h); piece = piece_of k o.bytes i h }))
    each k o there i h here =
        let own : AreBytes o.bytes = at (λ (x : LoadedObject). AreBytes x.bytes) k o there bytes in
        let whole : IsObject o.bytes = at (λ (x : LoadedObject). IsObject x.bytes) k o there are in
        let number = slice_get_within objects k o there in
        let section_number = slice_get_within (sections o.bytes) i h here in
        let sections_few = few-sections o.bytes whole in
        record {
          address = address-below base objects (piece_of k o.bytes i h) fits;
          size = size-below o.bytes i h own here;
          object = omega (arith, number, few);
          section = omega (arith, section_number, sections_few);
          name = name-bytes o.bytes (slice_get (sections o.bytes) i) own;
        }

-- the drop lines of an object from one section on
drops_from-fit : (k : ℕ) (o : LoadedObject) (hs : List SectionHeader) (i : ℕ) → k < 2 ^ 64 → i + length hs ≤ 2 ^ 64 → All FitsDrop (drops_from k o i hs)
drops_from-fit k o [] i low few = All-nil FitsDrop
drops_from-fit k o (h ∷ hs) i low few = by (is_dropped_line o i h) (drops_from-fit k o hs (i + 1) low (omega (arith, few)))
  where
    line : DropLine
    line = record { object = k; section = i }

    by : (b : Bool) → All FitsDrop (drops_from k o (i + 1) hs) → All FitsDrop (cond b (line ∷ drops_from k o (i + 1) hs) (drops_from k o (i + 1) hs))
    by true rest = All-cons FitsDrop line (drops_from k o (i + 1) hs) (record { object = low; section = omega (arith, few) }) rest
    by false rest = rest

-- those of all objects from one on
pub drop_rows-fit : (objects : List LoadedObject) (k : ℕ) → k + length objects ≤ 2 ^ 64 → AreObjects objects → All FitsDrop (drop_rows k objects)
drop_rows-fit [] k few are = All-nil FitsDrop
drop_rows-fit (o ∷ os) k few are =
    let sections_few = few-sections o.bytes (All-head (λ (x : LoadedObject). IsObject x.bytes) o os are) in
    All-append FitsDrop (drops_from k o 0 (sections o.bytes)) (drop_rows (k + 1) os)
    (drops_from-fit k o (sections o.bytes) 0 (omega (arith, few)) (omega (arith, sections_few)))
    (drop_rows-fit os (k + 1) (omega (arith, few)) (All-tail (λ (x : LoadedObject). IsObject x.bytes) o os are))
