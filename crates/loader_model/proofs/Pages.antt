-- Segments that begin on pages share none exactly where each ends before the next one begins.
use Rattle.std.proofs.Common.{◌≡◌, ℕ, ◌+◌, ◌/◌, ◌%◌, ◌<◌, Bool, List, length, get_or, arith}
use Rattle.std.specs.Prelude.{IsTrue, All, AllPairs}
use Rattle.elf_model.specs.Image.MemoryImage.{ShareNoPage}
use Rattle.elf_model.specs.declared.records.ProgramHeader.{ProgramHeader}
use Rattle.loader_model.specs.Table.{IsBelow, EndsBefore}
use Rattle.loader_model.proofs.Neighbours.{pairs_of_neighbours}

before_trans : (f g h : ProgramHeader) → EndsBefore f g → EndsBefore g h → EndsBefore f h
before_trans f g h p q = omega (arith, p, q)

apart_of_before : (g h : ProgramHeader) → h.p_vaddr % 4096 ≡ 0 → EndsBefore g h → ShareNoPage g h
apart_of_before g h page before k tg th = omega (arith, tg.1, th.0, page, before)

pub before_of_apart : (g h : ProgramHeader) → h.p_vaddr % 4096 ≡ 0 → 0 < h.p_memsz → IsBelow g h → ShareNoPage g h → EndsBefore g h
before_of_apart g h page some below apart =
    let both : h.p_vaddr < g.p_vaddr + g.p_memsz → ⊥ =
    λ over. apart (h.p_vaddr / 4096) (omega (arith, below, page), omega (arith, over, page)) (omega (arith, page), omega (arith, some, page)) in
    omega (arith, both)

abbrev pub NearEnds : List ProgramHeader → Type 0
NearEnds hs = (k : ℕ) (d : ProgramHeader) → k + 1 < length hs → EndsBefore (get_or hs k d) (get_or hs (k + 1) d)

pub pages_apart :
    (hs : List ProgramHeader) (b : Bool) →
    All (λ h. (h.p_vaddr % 4096 ≡ 0) × (0 < h.p_memsz)) hs → AllPairs IsBelow hs →
    (IsTrue b → NearEnds hs) × (NearEnds hs → IsTrue b) →
    (IsTrue b → AllPairs ShareNoPage hs) × (AllPairs ShareNoPage hs → IsTrue b)
pages_apart hs b good rising near = (
  λ yes i j d below within.
      apart_of_before (get_or hs i d) (get_or hs j d) (good j d within).0
      (pairs_of_neighbours EndsBefore before_trans hs (near.0 yes) i j d below within),
  λ apart. near.1
      (λ k d within.
      let page = good (k + 1) d within in
      before_of_apart (get_or hs k d) (get_or hs (k + 1) d) page.0 page.1 (rising k (k + 1) d (omega arith) within)
      (apart k (k + 1) d (omega arith) within)),
)
