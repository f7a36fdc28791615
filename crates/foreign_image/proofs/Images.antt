-- A run of a segment that encloses it is a run of memory.
use Rattle.std.proofs.Common.{◌≡◌, ℕ, ◌+◌, ◌<◌, List, length, true, get_or, ap, subst, ◌∙◌, arith}
use Rattle.std.specs.Prelude.{AllPairs, Contains, Some, option_map, slice_index}
use Rattle.elf_model.specs.Image.MemoryImage.{Cell, Encloses, ShareNoPage, cell_of, loads, maps, memory_of, segment_byte}
use Rattle.elf_model.specs.declared.records.ProgramHeader.{ProgramHeader}
use Rattle.elf_model.proofs.Addresses.{maps-true}
use Rattle.judge_model.specs.Headers.{IsProgram}
use Rattle.loader_model.proofs.MemoryLemmas.{find_only}
use Rattle.loader_model.specs.Memory.{IsRun}

-- the cell at an address that a segment maps
memory_at :
    (image : List ℕ) (a : ℕ) (h : ProgramHeader) → AllPairs ShareNoPage (loads image) → Contains (loads image) h → maps h a ≡ true →
    memory_of image a ≡ Some (cell_of image a h)
memory_at image a h apart there hit =
    let m : maps (get_or (loads image) there.0 h) a ≡ true = rw there.2 hit in
    let f = find_only a (loads image) there.0 h apart there.1 m in
    rw f (ap (λ (g : ProgramHeader). Some (cell_of image a g)) there.2)

pub run_of :
    (image file : List ℕ) (segments : List ProgramHeader) (at len : ℕ) (h : ProgramHeader) (bytes : List ℕ) (zeros : ℕ) →
    file ≡ image → segments ≡ loads file → IsProgram file → Contains segments h → Encloses h at len →
    length bytes + zeros ≡ len →
    ((k : ℕ) → k < len → segment_byte file h (at + k) ≡ slice_index bytes k) →
    IsRun image at len bytes zeros
run_of image file segments at len h bytes zeros same kept is there inside whole bytes_are =
    subst (λ (f : List ℕ). IsRun f at len bytes zeros) same (record {
      whole = whole;
      same = λ k below.
          let m = maps-true h (at + k) (omega (arith, inside.0)) (omega (arith, inside.1, below)) in
          let c = memory_at file (at + k) h is.loads_are.pages (subst (λ (hs : List ProgramHeader). Contains hs h) kept there) m in
          let b = bytes_are k below in
          ap (option_map (λ (x : Cell). x.byte)) c ∙ ap Some b;
    })
