-- A piece is of an object that is there, and has its section's size; or it is a common block, which no field is of.
use Rattle.std.proofs.Common.{◌≡◌, ℕ, ◌+◌, ◌<◌, ◌≤◌, ◌==◌, ◌&&◌, Bool, true, false, ◌⊎◌, inl, inr, List, [], ◌∷◌, Option, Some, None, get_or, length, refl, sym, ap, subst, ◌∙◌, arith}
use Rattle.std.specs.Prelude.{All, AllPairs, Contains, filter, find, nat_le, nat_lt, option_map, unwrap_or}
use Rattle.std.specs.List.{slice_get}
use Rattle.std.specs.Global.{Vec}
use Rattle.std.proofs.lemmas.Bool.{eqb-true}
use Rattle.std.proofs.lemmas.Option.{get_or_from_slice_get, none-some, slice_get_cases}
use Rattle.std.proofs.lemmas.List.Elements.{All-append, All-contains, All-cons, All-head, All-map, All-nil, All-tail, All-weaker}
use Rattle.elf_model.proofs.Blocks.{blocks-each}
use Rattle.elf_model.proofs.Finding.{find-none}
use Rattle.elf_model.proofs.Sectioned.{kept-each, relocations-each}
use Rattle.elf_model.specs.Link.Commons.{Block, block_of, block_piece, blocks}
use Rattle.elf_model.specs.Link.Loading.{LoadedObject}
use Rattle.elf_model.specs.Image.MapRecord.{PlaceRow}
use Rattle.elf_model.specs.Inputs.ObjectFile.{null_section, section, sections}
use Rattle.elf_model.specs.Link.Pieces as pieces
use Rattle.elf_model.specs.Link.Placement as placement
use Rattle.elf_model.specs.Link.Placement.{placed_block, placed_blocks, placed_by}
use Rattle.elf_model.specs.Link.Relocation.{Relocation, is_in_field, relocations, width_of}
use Rattle.elf_model.specs.Link.Resolution.{SymbolOf}
use Rattle.elf_model.specs.Image.RightLink.{Subject, objects_of, placed_of, sections_of, where_of}
use Rattle.elf_model.specs.Link.WantedBytes.{byte_or_field, wanted_byte}
use Rattle.elf_model.specs.declared.records.SectionHeader.{SectionHeader}
use Rattle.check_relocs.specs.Bytes.{FitsIn, HasFieldsInside, HoldsFields, byte_of, covers, fields_in, is_of}
use Rattle.check_relocs.specs.Fields.{AreRows, IsBefore, IsRowOf}
use Rattle.check_link.specs.Views.{placed_view, placed_views}
use Rattle.check_relocs.specs.declared.fields.Field.{Field}
use Rattle.check_link.specs.declared.things.Placed.{Placed}
use Rattle.elf_model.proofs.Listed.{All-unmap}
use Rattle.elf_model.proofs.Pairs.{AllPairs-nil}
use Rattle.check_link.proofs.Padded.{below_or_not}
use Rattle.check_relocs.proofs.WantedFields.{byte_in_row, byte_wanted, fields_inside, some_object}
use Rattle.checker.specs.Comparing.{AreHeld, AreOwn, IsRowAt}

pub record IsOfSection (objects : List LoadedObject) (p : pieces.Piece) : Type 0 where
  pub there : p.object < length objects
  pub size : (d : LoadedObject) → p.size ≡ (section (sections (get_or objects p.object d).bytes) p.section).sh_size

within : {X : Type 0} (xs : List X) (i : ℕ) (x : X) → slice_get xs i ≡ Some x → i < length xs
within {X} xs i x e = of (slice_get_cases xs i).1
  where
    of : ((y : X) × (i < length xs) × (slice_get xs i ≡ Some y) × (get_or xs i y ≡ y)) ⊎ ((length xs ≤ i) × (slice_get xs i ≡ None)) → i < length xs
    of (inl a) = a.1
    of (inr b) = absurd (none-some x (sym b.1 ∙ e))

all_of_sections : (objects : List LoadedObject) → All (IsOfSection objects) (pieces.kept_sections objects)
all_of_sections objects =
    kept-each (IsOfSection objects) objects
    (λ k o there i h has. record {
      there = within objects k o there;
      size = λ d. sym (ap (λ (x : LoadedObject). (section (sections x.bytes) i).sh_size) (get_or_from_slice_get objects k o d there)
          ∙ ap (λ (x : SectionHeader). x.sh_size) (get_or_from_slice_get (sections o.bytes) i h null_section has));
    })

-- pieces keep what all of them have where they are placed
pub placed_all : (P : pieces.Piece → Type 0) (rows : List PlaceRow) (ps : List pieces.Piece) → All P ps → All (λ q. P q.piece) (placed_by rows ps)
placed_all P [] ps all = All-nil (λ (q : placement.Placed). P q.piece)
placed_all P (row ∷ rows) [] all = All-nil (λ (q : placement.Placed). P q.piece)
placed_all P (row ∷ rows) (p ∷ ps) all =
    All-cons (λ (q : placement.Placed). P q.piece) (record { at = row.address; piece = p }) (placed_by rows ps)
    (All-head P p ps all) (placed_all P rows ps (All-tail P p ps all))

-- a piece is a kept section, or is of the object past the last one, as common blocks are
pub record IsBlockOf (objects : List LoadedObject) (p : pieces.Piece) : Type 0 where
  pub object : p.object ≡ length objects

abbrev pub IsThere : List LoadedObject → pieces.Piece → Type 0
IsThere objects p = IsOfSection objects p ⊎ IsBlockOf objects p

-- what holds of all kept sections and of all blocks holds of them where they are placed
pub placed_each :
    (P : pieces.Piece → Type 0) (s : Subject) → All P (pieces.kept_sections (objects_of s)) →
    ((k : ℕ) (t : SymbolOf) → P (block_piece (block_of (objects_of s) k t))) → All (λ q. P q.piece) (placed_of s)
placed_each P s kept each =
    All-append (λ (q : placement.Placed). P q.piece) (sections_of s) (placed_blocks s.map.commons (blocks (objects_of s)))
    (placed_all P s.map.places (pieces.kept_sections (objects_of s)) kept)
    (All-map (λ (q : placement.Placed). P q.piece) (placed_block s.map.commons) (blocks (objects_of s))
    (blocks-each (objects_of s) (λ (b : Block). P (block_piece b)) (λ k t c. each k t)))

placed_there : (s : Subject) → All (λ q. IsThere (objects_of s) q.piece) (placed_of s)
placed_there s =
    placed_each (IsThere (objects_of s)) s
    (All-weaker (IsOfSection (objects_of s)) (IsThere (objects_of s)) (λ p of. inl of) (pieces.kept_sections (objects_of s)) (all_of_sections (objects_of s)))
    (λ k t. inr (record { object = refl }))

pub is_there : (s : Subject) (q : placement.Placed) → Contains (placed_of s) q → IsThere (objects_of s) q.piece
is_there s q c = All-contains (λ (x : placement.Placed). IsThere (objects_of s) x.piece) (placed_of s) q (placed_there s) c

-- No relocation and no row is of the object past the last one.
not_in_field : (objects : List LoadedObject) (s k : ℕ) (r : Relocation) → r.object < length objects → is_in_field (length objects) s k r ≡ false
not_in_field objects s k r low = by (r.object == length objects) refl
  where
    by : (t : Bool) → (r.object == length objects) ≡ t → is_in_field (length objects) s k r ≡ false
    by true e = let same = eqb-true r.object (length objects) e in absurd (omega (arith, same, low))
    by false e = ap (λ (t : Bool). t && (r.section == s) && nat_le r.entry.r_offset k && nat_lt k (r.entry.r_offset + width_of r)) e

no_relocation : (objects : List LoadedObject) (s k : ℕ) → find (is_in_field (length objects) s k) (relocations objects) ≡ None
no_relocation objects s k =
    find-none (is_in_field (length objects) s k) (relocations objects)
    (All-weaker (λ (r : Relocation). r.object < length objects) (λ (r : Relocation). is_in_field (length objects) s k r ≡ false) (not_in_field objects s k) (relocations objects)
    (relocations-each (λ (r : Relocation). r.object < length objects) objects (λ n o there i h r is. within objects n o there)))

no_row : {X : Type 0} (rows : List X) (n : ℕ) → length rows ≤ n → slice_get rows n ≡ None
no_row {X} rows n past = of (slice_get_cases rows n).1
  where
    of : ((x : X) × (n < length rows) × (slice_get rows n ≡ Some x) × (get_or rows n x ≡ x)) ⊎ ((length rows ≤ n) × (slice_get rows n ≡ None)) → slice_get rows n ≡ None
    of (inl a) = let low = a.1 in absurd (omega (arith, low, past))
    of (inr b) = b.1

module _ (s : Subject) (rows : List (Vec Field)) (are : AreRows (objects_of s) (where_of s) rows) where
  no_fields : (section : ℕ) → fields_in rows (length (objects_of s)) section ≡ []
  no_fields section =
      ap (λ (o : Option (Vec Field)). filter (is_of section) (unwrap_or (option_map (λ row. row.items) o) []))
      (no_row rows (length (objects_of s)) (let count = are.count in omega (arith, count)))

  -- the byte that the fields give a piece is the wanted one
  wanted_is :
      (p : pieces.Piece) (k : ℕ) → IsThere (objects_of s) p →
      byte_of p.bytes k (find (covers k) (fields_in rows p.object p.section)) ≡ wanted_byte (objects_of s) (where_of s) p k
  wanted_is p k (inl of) = byte_wanted (objects_of s) (where_of s) rows are p k of.there
  wanted_is p k (inr block) =
      ap (λ (n : ℕ). byte_of p.bytes k (find (covers k) (fields_in rows n p.section))) block.object
      ∙ (ap (λ (fs : List Field). byte_of p.bytes k (find (covers k) fs)) (no_fields p.section)
      ∙ (sym (ap (byte_or_field (objects_of s) (where_of s) p k) (no_relocation (objects_of s) p.section k))
      ∙ sym (ap (λ (n : ℕ). byte_or_field (objects_of s) (where_of s) p k (find (is_in_field n p.section k) (relocations (objects_of s)))) block.object)))

  -- so is it for the placed piece that has a number
  pub wanted_at :
      (i : ℕ) (q : placement.Placed) → slice_get (placed_of s) i ≡ Some q → (k : ℕ) →
      byte_of q.piece.bytes k (find (covers k) (fields_in rows q.piece.object q.piece.section)) ≡ wanted_byte (objects_of s) (where_of s) q.piece k
  wanted_at i q there k =
      wanted_is q.piece k
      (subst (λ (x : placement.Placed). IsThere (objects_of s) x.piece) (get_or_from_slice_get (placed_of s) i q q there)
      (placed_there s i q (within (placed_of s) i q there)))

-- The row of one object, for the pieces of that object.
module _ (s : Subject) (n : ℕ) (row : List Field) (is : IsRowAt s n row) where
  own_row : (p : pieces.Piece) (o : LoadedObject) → p.object ≡ n → p.object < length (objects_of s) → IsRowOf (objects_of s) (where_of s) p.object (get_or (objects_of s) p.object o) row
  own_row p o same low =
      subst (λ (m : ℕ). IsRowOf (objects_of s) (where_of s) m (get_or (objects_of s) m o) row) (sym same) (is.there o (omega (arith, same, low)))

  -- the byte that the fields give a piece is the wanted one
  byte_is : (p : pieces.Piece) (k : ℕ) → IsThere (objects_of s) p → p.object ≡ n → byte_of p.bytes k (find (covers k) (filter (is_of p.section) row)) ≡ wanted_byte (objects_of s) (where_of s) p k
  byte_is p k (inl of) same =
      let o = (some_object (objects_of s) p.object of.there).0 in
      byte_in_row (objects_of s) (where_of s) row p k o of.there (own_row p o same of.there)
  byte_is p k (inr block) same =
      let none : row ≡ [] = is.past (let b = block.object in omega (arith, b, same)) in
      ap (λ (fs : List Field). byte_of p.bytes k (find (covers k) (filter (is_of p.section) fs))) none
      ∙ (sym (ap (byte_or_field (objects_of s) (where_of s) p k) (no_relocation (objects_of s) p.section k))
      ∙ sym (ap (λ (m : ℕ). byte_or_field (objects_of s) (where_of s) p k (find (is_in_field m p.section k) (relocations (objects_of s)))) block.object))

  -- the fields of a piece's section lie inside it
  inside_of : (p : pieces.Piece) → IsThere (objects_of s) p → p.object ≡ n → All (FitsIn p.size) (filter (is_of p.section) row)
  inside_of p (inl of) same =
      let o = (some_object (objects_of s) p.object of.there).0 in
      fields_inside (objects_of s) (where_of s) row p.object p.section p.size (get_or (objects_of s) p.object o) (of.size o) (own_row p o same of.there)
  inside_of p (inr block) same =
      let none : row ≡ [] = is.past (let b = block.object in omega (arith, b, same)) in
      subst (λ (fs : List Field). All (FitsIn p.size) (filter (is_of p.section) fs)) (sym none) (All-nil (FitsIn p.size))

  pub all_inside : (own : List Placed) → AreOwn s n (placed_views own) → All (HasFieldsInside row) own
  all_inside own of =
      let there = All-unmap (Contains (placed_of s)) placed_view own of.among in
      let same = All-unmap (λ (q : placement.Placed). q.piece.object ≡ n) placed_view own of.own in
      λ k d low. inside_of (placed_view (get_or own k d)).piece (is_there s (placed_view (get_or own k d)) (there k d low)) (same k d low)

  -- what memory holds by the row is what the tenth clause asks
  pub holds_wanted : (qs : List placement.Placed) → AreOwn s n qs → All (HoldsFields s.image row) qs → AreHeld s qs
  holds_wanted qs of held k d low =
      let q = get_or qs k d in
      record { bytes = λ j below. (held k d low).bytes j below ∙ ap Some (byte_is q.piece j (is_there s q (of.among k d low)) (of.own k d low)) }

  pub wanted_holds : (qs : List placement.Placed) → AreOwn s n qs → AreHeld s qs → All (HoldsFields s.image row) qs
  wanted_holds qs of held k d low =
      let q = get_or qs k d in
      record { bytes = λ j below. (held k d low).bytes j below ∙ ap Some (sym (byte_is q.piece j (is_there s q (of.among k d low)) (of.own k d low))) }

  -- each of its fields ends before all later ones begin
  pub rising_row : AllPairs IsBefore row
  rising_row = by (below_or_not n (length (objects_of s)))
    where
      by : (n < length (objects_of s)) ⊎ (length (objects_of s) ≤ n) → AllPairs IsBefore row
      by (inl low) = (is.there (some_object (objects_of s) n low).0 low).sorted.rising
      by (inr past) = subst (AllPairs IsBefore) (sym (is.past past)) (AllPairs-nil IsBefore)
