-- Memory at an address is what the one segment says that maps it.
use Rattle.std.proofs.Common.{◌≡◌, ℕ, zero, suc, ◌+◌, ◌/◌, ◌<◌, Bool, true, false, cond, List, [], ◌∷◌, length, get_or, refl, sym, ◌∙◌, ap, subst, arith}
use Rattle.std.specs.Prelude.{AllPairs, Contains, Some, find, option_map, slice_index}
use Rattle.elf_model.specs.Image.MemoryImage.{Cell, Encloses, IsImage, ShareNoPage, Touches, cell_of, loads, maps, memory_of, segment_byte}
use Rattle.elf_model.specs.declared.records.ProgramHeader.{ProgramHeader}
use Rattle.elf_model.proofs.Addresses.{mapped, maps-true}
use Rattle.loader_model.specs.Memory.{IsRun}

touches : (h : ProgramHeader) (a : ℕ) → maps h a ≡ true → Touches h (a / 4096)
touches h a e = let m = mapped h a e in (omega (arith, m), omega (arith, m))

-- of segments that share no page the first that maps an address is the only one
only_one :
    (b : Bool) (a : ℕ) (h : ProgramHeader) (hs : List ProgramHeader) (n : ℕ) (d : ProgramHeader) →
    maps h a ≡ b →
    AllPairs ShareNoPage (h ∷ hs) →
    n < length (h ∷ hs) →
    maps (get_or (h ∷ hs) n d) a ≡ true →
    ((m : ℕ) → m < length hs → maps (get_or hs m d) a ≡ true → find (λ g. maps g a) hs ≡ Some (get_or hs m d)) →
    cond b (Some h) (find (λ g. maps g a) hs) ≡ Some (get_or (h ∷ hs) n d)
only_one true a h hs zero d is apart within hit rest = refl
only_one true a h hs (suc m) d is apart within hit rest =
    absurd (apart 0 (suc m) d (omega arith) within (a / 4096) (touches h a is) (touches (get_or hs m d) a hit))
only_one false a h hs zero d is apart within hit rest = absurd (let e : false ≡ true = sym is ∙ hit in cc)
only_one false a h hs (suc m) d is apart within hit rest = rest m (omega (arith, within)) hit

pub find_only :
    (a : ℕ) (hs : List ProgramHeader) (n : ℕ) (d : ProgramHeader) →
    AllPairs ShareNoPage hs → n < length hs → maps (get_or hs n d) a ≡ true →
    find (λ g. maps g a) hs ≡ Some (get_or hs n d)
find_only a [] n d apart within hit = absurd (omega (arith, within))
find_only a (h ∷ hs) n d apart within hit =
    only_one (maps h a) a h hs n d refl apart within hit
    (λ m below is. find_only a hs m d (λ i j e low high. apart (suc i) (suc j) e (omega arith) (omega (arith, high))) below is)

-- the cell at an address that a segment maps
pub memory_at :
    (image : List ℕ) (a : ℕ) (h : ProgramHeader) → IsImage image → Contains (loads image) h → maps h a ≡ true →
    memory_of image a ≡ Some (cell_of image a h)
memory_at image a h is there hit =
    let m : maps (get_or (loads image) there.0 h) a ≡ true = rw there.2 hit in
    let f = find_only a (loads image) there.0 h is.pages there.1 m in
    rw f (ap (λ (g : ProgramHeader). Some (cell_of image a g)) there.2)

pub found_cell :
    (image file : List ℕ) (segments : List ProgramHeader) (a : ℕ) (h : ProgramHeader) →
    file ≡ image → segments ≡ loads file → Some h ≡ find (λ g. maps g a) segments →
    memory_of image a ≡ Some (cell_of image a h)
found_cell image file segments a h same kept found =
    let e : find (λ g. maps g a) (loads image) ≡ Some h =
    subst (λ (hs : List ProgramHeader). find (λ g. maps g a) hs ≡ Some h) (kept ∙ ap loads same) (sym found) in
    rw e refl

-- a run of an enclosing segment is a run of memory
pub run_of :
    (image file : List ℕ) (segments : List ProgramHeader) (at len : ℕ) (h : ProgramHeader) (bytes : List ℕ) (zeros : ℕ) →
    file ≡ image → segments ≡ loads file → IsImage file → Contains segments h → Encloses h at len →
    length bytes + zeros ≡ len →
    ((k : ℕ) → k < len → segment_byte file h (at + k) ≡ slice_index bytes k) →
    IsRun image at len bytes zeros
run_of image file segments at len h bytes zeros same kept is there inside whole bytes_are =
    subst (λ (f : List ℕ). IsRun f at len bytes zeros) same (record {
      whole = whole;
      same = λ k below.
          let m = maps-true h (at + k) (omega (arith, inside.0)) (omega (arith, inside.1, below)) in
          let c = memory_at file (at + k) h is (subst (λ (hs : List ProgramHeader). Contains hs h) kept there) m in
          let b = bytes_are k below in
          ap (option_map (λ (x : Cell). x.byte)) c ∙ ap Some b;
    })
