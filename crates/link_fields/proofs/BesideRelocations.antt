-- Bytes beside the fields of a section are those beside the fields of the relocations that relocate it.
use Rattle.std.proofs.Common.{◌≡◌, ℕ, ◌+◌, ◌<◌, ◌≤◌, Bool, true, false, not, List, [], length, get_or, None, Some, sym, ap, subst, ◌∙◌, arith}
use Rattle.std.specs.Prelude.{◌↔◌, All, Contains, IsTrue, Option, option_map, slice_index}
use Rattle.std.specs.Borrow.{Bor}
use Rattle.std.specs.List.{HoldsAt, slice_get}
use Rattle.std.specs.Option.{MatchOption}
use Rattle.std.proofs.lemmas.Option.{none-some, slice_get-get_or, slice_get-map, slice_get_past}
use Rattle.std.proofs.lemmas.Bool.{false≢true}
use Rattle.std.proofs.lemmas.List.Elements.{All-contains, All-map, All-weaker}
use Rattle.check_link.specs.Views.{placed_view, placed_views}
use Rattle.check_load.specs.Views.{loaded_view, loaded_views}
use Rattle.check_load.specs.declared.loaded.Loaded.{Loaded}
use Rattle.check_link.specs.declared.things.Placed as things
use Rattle.elf_model.specs.Image.RightLink.{byte_at}
use Rattle.elf_model.specs.Link.Pieces.{load_size}
use Rattle.elf_model.proofs.Listed.{All-from_contains, All-unmap, Contains-filter, Contains-from_filter}
use Rattle.elf_model.specs.Link.Loading.{LoadedObject}
use Rattle.elf_model.specs.Link.Relocation.{Relocation, relocations}
use Rattle.elf_model.specs.declared.link_map.DropLine.{DropLine}
use Rattle.judge_model.specs.Certificates.{is_left_out}
use Rattle.elf_model.specs.Link.Placement.{Placed}
use Rattle.judge_model.specs.Fields.{HoldsRest}
use Rattle.judge_model.specs.Links.{ForeignLink, objects_of, placed_of}
use Rattle.memory_judge.specs.Rests.{HoldsBetween, IsBeside}
use Rattle.memory_judge.specs.declared.rests.FieldSpan.{FieldSpan}
use Rattle.link_fields.proofs.OwnRelocations.{object_low}
use Rattle.link_fields.specs.Parts.{Parts, parts_of}
use Rattle.link_fields.specs.Rests.{HoldsRestIn, IsOutside, is_kept, kept_in}

null_object : LoadedObject
null_object = record { bytes = []; item = 0; offset = 0; path = []; dropped = [] }

-- an element that is there, as the definitions see it, and none past the end
pub viewed :
    (xs : List Loaded) (i : ℕ) (o : Option (Bor Loaded)) →
    MatchOption o (length xs ≤ i) (λ b. (i < length xs) × HoldsAt (λ y. b.now ≡ y) xs i) →
    option_map (λ (b : Bor Loaded). loaded_view b.now) o ≡ slice_get (loaded_views xs) i
viewed xs i None past = sym (slice_get-map loaded_view xs i ∙ ap (option_map loaded_view) (slice_get_past xs i past))
viewed xs i (Some b) at =
    ap (λ (x : Loaded). Some (loaded_view x)) (at.1 b.now)
    ∙ sym (slice_get-map loaded_view xs i ∙ ap (option_map loaded_view) (slice_get-get_or xs i b.now at.0))

-- no relocation is of no object
pub no_object :
    (objects : List LoadedObject) (n s k : ℕ) → None ≡ slice_get objects n → All (IsOutside n s k) (relocations objects)
no_object objects n s k none =
    All-from_contains (IsOutside n s k) (relocations objects)
    (λ r there object section.
    let low = object_low 0 objects r there in
    absurd (none-some (get_or objects n null_object) (none ∙ slice_get-get_or objects n null_object (omega (arith, low, object)))))

module _ (drops : List DropLine) (objects : List LoadedObject) (n s : ℕ) where
  kept_there : (r : Relocation) → Contains (kept_in drops objects) r → Contains (relocations objects) r × (is_kept drops r ≡ true)
  kept_there r there = Contains-from_filter (is_kept drops) (relocations objects) r there

  left_out_of : (r : Relocation) → r.object ≡ n → r.section ≡ s → is_left_out drops r.object r.section ≡ is_left_out drops n s
  left_out_of r object section = ap (λ (i : ℕ). is_left_out drops i r.section) object ∙ ap (λ (i : ℕ). is_left_out drops n i) section

  -- no relocation of a section that is left out is kept
  pub left_out : is_left_out drops n s ≡ true → (k : ℕ) → All (IsOutside n s k) (kept_in drops objects)
  left_out out k =
      All-from_contains (IsOutside n s k) (kept_in drops objects)
      (λ r there object section.
      absurd (false≢true (sym (ap not (left_out_of r object section ∙ out)) ∙ (kept_there r there).1)))

  -- and all relocations of one that isn't are
  pub kept_beside :
      is_left_out drops n s ≡ false → (k : ℕ) → All (IsOutside n s k) (relocations objects) ↔ All (IsOutside n s k) (kept_in drops objects)
  kept_beside stays k = (
    λ all.
        All-from_contains (IsOutside n s k) (kept_in drops objects)
        (λ r there. All-contains (IsOutside n s k) (relocations objects) r all (kept_there r there).0),
    λ all.
        All-from_contains (IsOutside n s k) (relocations objects)
        (λ r there object section.
        All-contains (IsOutside n s k) (kept_in drops objects) r all
        (Contains-filter (is_kept drops) (relocations objects) r there (ap not (left_out_of r object section ∙ stays))) object section),
  )

pub beside_none : (k : ℕ) → IsBeside [] k
beside_none k j d low = absurd (omega (arith, low))

-- by a link's parts memory holds the rest of a section exactly where it does
pub rest_right :
    (l : ForeignLink) (drops : List DropLine) → l.certificate.drops ≡ drops → (q : Placed) →
    HoldsRestIn (parts_of l) drops q ↔ HoldsRest l q
rest_right l drops same q = (
  λ h. record {
    bytes = λ k low outside.
        h.bytes k low (subst (λ (ds : List DropLine). All (IsOutside q.piece.object q.piece.section k) (kept_in ds (objects_of l))) same outside);
  },
  λ h. record {
    bytes = λ k low outside.
        h.bytes k low
        (subst (λ (ds : List DropLine). All (IsOutside q.piece.object q.piece.section k) (kept_in ds (objects_of l))) (sym same) outside);
  },
)

pub all_rests :
    (l : ForeignLink) (drops : List DropLine) → l.certificate.drops ≡ drops → (xs : List things.Placed) → placed_views xs ≡ placed_of l →
    All (λ q. HoldsRestIn (parts_of l) drops (placed_view q)) xs ↔ All (HoldsRest l) (placed_of l)
all_rests l drops same xs placed = (
  λ all.
      subst (All (HoldsRest l)) placed
      (All-map (HoldsRest l) placed_view xs
      (All-weaker (λ (q : things.Placed). HoldsRestIn (parts_of l) drops (placed_view q)) (λ q. HoldsRest l (placed_view q))
      (λ q h. (rest_right l drops same (placed_view q)).0 h) xs all)),
  λ all.
      All-weaker (λ (q : things.Placed). HoldsRest l (placed_view q)) (λ q. HoldsRestIn (parts_of l) drops (placed_view q))
      (λ q h. (rest_right l drops same (placed_view q)).1 h) xs
      (All-unmap (HoldsRest l) placed_view xs (subst (All (HoldsRest l)) (sym placed) all)),
)

-- memory holds the rest of a section where it holds the bytes beside the fields that are found
pub rest_by :
    (p : Parts) (drops : List DropLine) (q : Placed) (image : List ℕ) (objects : List LoadedObject) (size : ℕ) (spans : List FieldSpan) (b : Bool) →
    image ≡ p.image → objects ≡ p.objects → size ≡ load_size q.piece →
    ((k : ℕ) → IsBeside spans k ↔ All (IsOutside q.piece.object q.piece.section k) (kept_in drops objects)) →
    IsTrue b ↔ HoldsBetween image q.at size q.piece.bytes spans → IsTrue b ↔ HoldsRestIn p drops q
rest_by p drops q image objects size spans b same objects_are size_is found held = (
  λ e. record {
    bytes = λ k low outside.
        subst (λ (i : List ℕ). byte_at i (q.at + k) ≡ Some (slice_index q.piece.bytes k)) same
        (held.0 e k (omega (arith, low, size_is))
        ((found k).1
        (subst (λ (os : List LoadedObject). All (IsOutside q.piece.object q.piece.section k) (kept_in drops os)) (sym objects_are) outside)));
  },
  λ r.
      held.1
      (λ k low free.
      subst (λ (i : List ℕ). byte_at i (q.at + k) ≡ Some (slice_index q.piece.bytes k)) (sym same)
      (r.bytes k (omega (arith, low, size_is))
      (subst (λ (os : List LoadedObject). All (IsOutside q.piece.object q.piece.section k) (kept_in drops os)) objects_are ((found k).0 free)))),
)
