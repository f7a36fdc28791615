-- Segments share no page and rise exactly where each ends before the first page of the next one begins.
use Rattle.std.proofs.Common.{ℕ, ◌+◌, ◌*◌, ◌/◌, ◌<◌, Bool, List, length, get_or, arith}
use Rattle.std.specs.Prelude.{All, IsTrue}
use Rattle.elf_model.specs.Image.MemoryImage.{ShareNoPage}
use Rattle.elf_model.specs.declared.records.ProgramHeader.{ProgramHeader}
use Rattle.judge_model.specs.Headers.{AreLoads, IsLoad}
use Rattle.loader_model.proofs.Neighbours.{pairs_of_neighbours}
use Rattle.loader_model.specs.Table.{EndsBefore}
use Rattle.foreign_image.specs.Images.{PagesBefore}

before_trans : (f g h : ProgramHeader) → PagesBefore f g → PagesBefore g h → PagesBefore f h
before_trans f g h p q = omega (arith, p, q)

ends_of_pages : (g h : ProgramHeader) → PagesBefore g h → EndsBefore g h
ends_of_pages g h before = omega (arith, before)

apart_of_pages : (g h : ProgramHeader) → PagesBefore g h → ShareNoPage g h
apart_of_pages g h before k tg th = omega (arith, tg.1, th.0, before)

pages_of_apart : (g h : ProgramHeader) → EndsBefore g h → ShareNoPage g h → PagesBefore g h
pages_of_apart g h ends apart =
    let both : h.p_vaddr / 4096 * 4096 < g.p_vaddr + g.p_memsz → ⊥ =
    λ over.
    apart (h.p_vaddr / 4096) (omega (arith, ends, over), omega (arith, over)) (omega (arith, over), omega (arith, ends, over)) in
    omega (arith, both)

abbrev pub NearPages : List ProgramHeader → Type 0
NearPages hs = (k : ℕ) (d : ProgramHeader) → k + 1 < length hs → PagesBefore (get_or hs k d) (get_or hs (k + 1) d)

pub loads_are :
    (len : ℕ) (hs : List ProgramHeader) (b : Bool) → 0 < length hs → All (IsLoad len) hs →
    (IsTrue b → NearPages hs) × (NearPages hs → IsTrue b) → (IsTrue b → AreLoads len hs) × (AreLoads len hs → IsTrue b)
loads_are len hs b some each near = (
  λ yes.
      let pairs = pairs_of_neighbours PagesBefore before_trans hs (near.0 yes) in record {
        some = some;
        each = each;
        rising = λ i j d below within. ends_of_pages (get_or hs i d) (get_or hs j d) (pairs i j d below within);
        pages = λ i j d below within. apart_of_pages (get_or hs i d) (get_or hs j d) (pairs i j d below within);
      },
  λ are. near.1 (λ k d within.
      pages_of_apart (get_or hs k d) (get_or hs (k + 1) d) (are.rising k (k + 1) d (omega arith) within)
      (are.pages k (k + 1) d (omega arith) within)),
)
