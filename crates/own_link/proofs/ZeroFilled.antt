-- A NOBITS piece wants 0 everywhere: it has no bytes of its input, and no relocation's field lies in it. And the GOT is
-- none.
use Rattle.std.proofs.Common.{◌≡◌, ◌⊎◌, inl, inr, ◌==◌, ℕ, ◌+◌, ◌<◌, ◌≤◌, ◌&&◌, Bool, true, false, not, cond, List, [], length, refl, sym, ◌∙◌, ap, subst, arith}
use Rattle.std.specs.Prelude.{◌≢◌, All, Contains, Option, Some, None, find, nat_le, nat_lt, slice_index, unwrap_or}
use Rattle.std.specs.List.{slice_get}
use Rattle.std.specs.Option.{option_and_then}
use Rattle.std.proofs.lemmas.Bool.{and_parts, eq-eqb, eqb-true, false_from_ne_true, false≢true, not-false, or_right}
use Rattle.std.proofs.lemmas.List.Elements.{All-append, All-contains, Contains-append_cases, Contains-append_left}
use Rattle.std.proofs.lemmas.Option.{get_or_from_slice_get, slice_get_within}
use Rattle.elf_model.specs.Link.Commons.{block_pieces, pieces}
use Rattle.elf_model.specs.Link.Loading.{AreObjects, LoadedObject, is_dropped}
use Rattle.elf_model.specs.Inputs.ObjectFile.{IsObject, IsRelaSection, bytes_in_file, contents, has_no_bytes, null_section, section, sections}
use Rattle.elf_model.specs.Own.ImageFile.{is_got_piece, piece_byte}
use Rattle.elf_model.specs.Own.OwnLayout.{got_number, got_piece, got_pieces, laid_out, own_loaded, own_placed, own_thread_rest, own_where, placed_has_bytes}
use Rattle.elf_model.specs.Link.Pieces.{Piece, is_kept, is_nobits, kept_sections, piece_of}
use Rattle.elf_model.specs.Link.Placement.{Placed, Where}
use Rattle.elf_model.specs.Link.Relocation.{Relocation, is_in_field, relocations, width_of}
use Rattle.elf_model.specs.Link.Resolution.{sections_of_object}
use Rattle.elf_model.specs.Link.Slots.{got_bytes}
use Rattle.elf_model.specs.Link.WantedBytes.{byte_or_field, wanted_byte}
use Rattle.elf_model.specs.declared.records.SectionHeader.{SectionHeader}
use Rattle.elf_model.proofs.Blocks.{block_pieces-each, block_pieces-object}
use Rattle.elf_model.proofs.Finding.{find-none}
use Rattle.elf_model.proofs.Listed.{All-from_contains, Contains-from_map, Contains-from_slice_get}
use Rattle.elf_model.proofs.Places.{AreOwnPlaced, at_own_address}
use Rattle.elf_model.proofs.PieceNumbers.{got_pieces-each, pieces_low}
use Rattle.elf_model.proofs.Sectioned.{kept-each, relocations-each}

-- what the own link wants of a place's bytes
abbrev pub own_wants : ℕ → List LoadedObject → Placed → ℕ → ℕ
own_wants base objects q k = piece_byte objects (own_where base objects) q.piece k

-- a piece that is NOBITS has no bytes of its input
abbrev IsBare : Piece → Type 0
IsBare p = is_nobits p.header ≡ true → p.bytes ≡ []

no_contents : (b : Bool) (xs : List ℕ) → b ≡ true → unwrap_or (cond b None (Some xs)) [] ≡ []
no_contents b xs e = rw e refl

bare_section : (k : ℕ) (bytes : List ℕ) (i : ℕ) (h : SectionHeader) → slice_get (sections bytes) i ≡ Some h → IsBare (piece_of k bytes i h)
bare_section k bytes i h there nobits =
    ap (λ (o : Option SectionHeader). unwrap_or (option_and_then (bytes_in_file bytes) o) []) there
    ∙ no_contents (has_no_bytes h) (contents bytes h) (or_right (h.sh_type == 0) (h.sh_type == 8) nobits)

bare_pieces : (objects : List LoadedObject) → All IsBare (pieces objects)
bare_pieces objects =
    All-append IsBare (kept_sections objects) (block_pieces objects)
    (kept-each IsBare objects (λ k o there i h within. bare_section k o.bytes i h within))
    (block_pieces-each objects IsBare (λ k s c nobits. refl))

-- the header of section i of object k
abbrev header_at : List LoadedObject → ℕ → ℕ → SectionHeader
header_at objects k i = section (sections_of_object (slice_get objects k)) i

header_in : (objects : List LoadedObject) (k : ℕ) (o : LoadedObject) → slice_get objects k ≡ Some o → (i : ℕ) → header_at objects k i ≡ section (sections o.bytes) i
header_in objects k o there i = ap (λ (x : Option LoadedObject). section (sections_of_object x) i) there

-- the piece of a kept section has the section's header
pub piece_headers : (objects : List LoadedObject) → All (λ p. header_at objects p.object p.section ≡ p.header) (kept_sections objects)
piece_headers objects =
    kept-each (λ (p : Piece). header_at objects p.object p.section ≡ p.header) objects (λ k o there i h within.
    header_in objects k o there i ∙ get_or_from_slice_get (sections o.bytes) i h null_section within)

-- no relocation is of a NOBITS section
object_at : (objects : List LoadedObject) → AreObjects objects → (k : ℕ) (o : LoadedObject) → slice_get objects k ≡ Some o → IsObject o.bytes
object_at objects good k o there =
    All-contains (λ (x : LoadedObject). IsObject x.bytes) objects o good
    (Contains-from_slice_get objects k o there)

relocated_section :
    (bytes : List ℕ) → IsObject bytes → (h : SectionHeader) → Contains (sections bytes) h → h.sh_type ≡ 4 →
    (section (sections bytes) h.sh_info).sh_type ≢ 8
relocated_section bytes good h there rela =
    (All-contains (λ (s : SectionHeader). s.sh_type ≡ 4 → IsRelaSection (sections bytes) s) (sections bytes) h good.relas.tables.relas there rela).relocates.not_nobits

relocation_headers : (objects : List LoadedObject) → AreObjects objects → All (λ r. (header_at objects r.object r.section).sh_type ≢ 8) (relocations objects)
relocation_headers objects good =
    relocations-each (λ (r : Relocation). (header_at objects r.object r.section).sh_type ≢ 8) objects (λ k o there i h r entry.
    let rela =
    (and_parts (h.sh_type == 4) (not (is_dropped o i) && is_kept o h.sh_info (section (sections o.bytes) h.sh_info)) entry.kept).0 in
    subst (λ (g : SectionHeader). g.sh_type ≢ 8) (sym (header_in objects k o there h.sh_info))
    (relocated_section o.bytes (object_at objects good k o there) h (Contains-from_slice_get (sections o.bytes) i h entry.section) (eqb-true h.sh_type 4 rela)))

-- each relocation is of an object that is loaded
relocations_below : (objects : List LoadedObject) → All (λ r. r.object < length objects) (relocations objects)
relocations_below objects = relocations-each (λ (r : Relocation). r.object < length objects) objects (λ k o there i h r entry. slice_get_within objects k o there)

-- a field in a piece is one of the piece's section
own_section : (p : Piece) (k : ℕ) (r : Relocation) → is_in_field p.object p.section k r ≡ true → (r.object ≡ p.object) × (r.section ≡ p.section)
own_section p k r e =
    let numbers = r.object == p.object && r.section == p.section in
    let low = nat_le r.entry.r_offset k in
    let front = and_parts (numbers && low) (nat_lt k (r.entry.r_offset + width_of r)) e in
    let own = and_parts numbers low front.0 in
    let both = and_parts (r.object == p.object) (r.section == p.section) own.0 in
    (eqb-true r.object p.object both.0, eqb-true r.section p.section both.1)

module _ (objects : List LoadedObject) (good : AreObjects objects) where
  -- so no field lies in a NOBITS section
  outside_section :
      (p : Piece) (k : ℕ) → Contains (kept_sections objects) p → is_nobits p.header ≡ true → (r : Relocation) →
      Contains (relocations objects) r → is_in_field p.object p.section k r ≡ false
  outside_section p k there nobits r c =
      false_from_ne_true (is_in_field p.object p.section k r) (λ e.
      let own = own_section p k r e in
      let same : header_at objects r.object r.section ≡ p.header =
      ap (λ (n : ℕ). header_at objects n r.section) own.0
      ∙ (ap (header_at objects p.object) own.1
      ∙ All-contains (λ (q : Piece). header_at objects q.object q.section ≡ q.header) (kept_sections objects) p (piece_headers objects) there) in
      let kind = All-contains (λ (s : Relocation). (header_at objects s.object s.section).sh_type ≢ 8) (relocations objects) r (relocation_headers objects good) c in
      absurd (kind (ap (λ (h : SectionHeader). h.sh_type) same ∙ eqb-true p.header.sh_type 8 nobits)))

  -- nor in a block
  outside_block :
      (p : Piece) (k : ℕ) → Contains (block_pieces objects) p → (r : Relocation) → Contains (relocations objects) r →
      is_in_field p.object p.section k r ≡ false
  outside_block p k there r c =
      false_from_ne_true (is_in_field p.object p.section k r) (λ e.
      let own = own_section p k r e in
      let below = All-contains (λ (s : Relocation). s.object < length objects) (relocations objects) r (relocations_below objects) c in
      let block = All-contains (λ (q : Piece). q.object ≡ length objects) (block_pieces objects) p (block_pieces-object objects) there in
      omega (arith, own, below, block))

  outside :
      (p : Piece) (k : ℕ) → Contains (pieces objects) p → is_nobits p.header ≡ true → (r : Relocation) →
      Contains (relocations objects) r → is_in_field p.object p.section k r ≡ false
  outside p k there nobits r c = by (Contains-append_cases (kept_sections objects) (block_pieces objects) p there)
    where
      by : Contains (kept_sections objects) p ⊎ Contains (block_pieces objects) p → is_in_field p.object p.section k r ≡ false
      by (inl kept) = outside_section p k kept nobits r c
      by (inr block) = outside_block p k block r c

  wants_zero :
      (w : Where) (p : Piece) (k : ℕ) → Contains (pieces objects) p → is_nobits p.header ≡ true →
      wanted_byte objects w p k ≡ 0
  wants_zero w p k there nobits =
      let none : find (is_in_field p.object p.section k) (relocations objects) ≡ None =
      find-none (is_in_field p.object p.section k) (relocations objects)
      (All-from_contains (λ (r : Relocation). is_in_field p.object p.section k r ≡ false) (relocations objects) (outside p k there nobits)) in
      ap (byte_or_field objects w p k) none
      ∙ ap (λ (xs : List ℕ). slice_index xs k) (All-contains IsBare (pieces objects) p (bare_pieces objects) there nobits)

  -- a piece isn't the GOT, so its own bytes are wanted
  pub piece_wants : (w : Where) (p : Piece) (k : ℕ) → Contains (pieces objects) p → piece_byte objects w p k ≡ wanted_byte objects w p k
  piece_wants w p k there =
      let low = All-contains (λ (q : Piece). q.object ≤ length objects) (pieces objects) p (pieces_low objects) there in
      let other : is_got_piece objects p ≡ false =
      false_from_ne_true (is_got_piece objects p) (λ e. let same = eqb-true p.object (got_number objects) e in omega (arith, low, same)) in
      ap (λ (b : Bool). cond b (slice_index (got_bytes objects w) k) (wanted_byte objects w p k)) other

  -- the GOT's are wanted of the GOT
  pub got_wants : (w : Where) (k : ℕ) → piece_byte objects w (got_piece objects) k ≡ slice_index (got_bytes objects w) k
  got_wants w k =
      ap (λ (b : Bool). cond b (slice_index (got_bytes objects w) k) (wanted_byte objects w (got_piece objects) k))
      (eq-eqb (got_number objects) (got_number objects) refl)

  -- the GOT has bytes
  got_has_bytes : (p : Piece) → Contains (got_pieces objects) p → is_nobits p.header ≡ false
  got_has_bytes p c = All-contains (λ (q : Piece). is_nobits q.header ≡ false) (got_pieces objects) p (got_pieces-each objects (λ q. is_nobits q.header ≡ false) refl) c

  -- of the own layout's pieces those without bytes in the file
  pub own_wants_zero :
      (base : ℕ) → AreOwnPlaced base objects → (w : Where) (q : Placed) (k : ℕ) → Contains (own_placed base objects) q →
      placed_has_bytes q ≡ false → piece_byte objects w q.piece k ≡ 0
  own_wants_zero base stand w q k there e =
      let i = Contains-from_map (at_own_address base objects) (laid_out objects) q (stand.all q there) in
      by
      (Contains-append_cases (pieces objects) (got_pieces objects) q.piece
      (subst (λ (r : Placed). Contains (laid_out objects) r.piece) i.is i.there))
    where
      by : Contains (pieces objects) q.piece ⊎ Contains (got_pieces objects) q.piece → piece_byte objects w q.piece k ≡ 0
      by (inl piece) = piece_wants w q.piece k piece ∙ wants_zero w q.piece k piece (not-false (is_nobits q.piece.header) e)
      by (inr got) = absurd (false≢true (sym (got_has_bytes q.piece got) ∙ not-false (is_nobits q.piece.header) e))

  -- so do those that a segment loads
  pub loaded_wants_zero :
      (base : ℕ) → AreOwnPlaced base objects → (q : Placed) (k : ℕ) → Contains (own_loaded base objects) q →
      placed_has_bytes q ≡ false → own_wants base objects q k ≡ 0
  loaded_wants_zero base stand q k c =
      own_wants_zero base stand (own_where base objects) q k (Contains-append_left (own_loaded base objects) (own_thread_rest base objects) q c)
