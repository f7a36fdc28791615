-- What the block of thread-local storage promises (System V gABI 5, "Program Header", PT_TLS).
use Rattle.std.specs.Prelude.{ℕ, ◌+◌, ◌^◌, ◌≤◌, List, All, Contains, filter, map}
use Rattle.std.specs.Int.{IsPowerOfTwo}
use Rattle.elf_model.specs.Own.OwnLayout.{placed_end}
use Rattle.elf_model.specs.Link.Placement.{Placed, is_thread_place}
use Rattle.elf_model.specs.declared.tls_block.TlsBlock.{TlsBlock}

-- the thread-local ones among placed pieces
abbrev pub thread_places : List Placed → List Placed
thread_places ps = filter is_thread_place ps

-- The block as a relation: it begins at the least of the addresses, ends at the greatest of the ends, and has the
-- greatest of the alignments.
abbrev pub IsLeast : List ℕ → ℕ → Type 0
IsLeast xs x = Contains xs x × All (λ y. x ≤ y) xs

abbrev pub IsGreatest : List ℕ → ℕ → Type 0
IsGreatest xs x = Contains xs x × All (λ y. y ≤ x) xs

pub record IsBlockOf (ps : List Placed) (b : TlsBlock) : Type 0 where
  pub begins : IsLeast (map (λ q. q.at) ps) b.start
  pub ends : IsGreatest (map placed_end ps) (b.start + b.size)
  pub aligned : IsGreatest (map (λ q. q.piece.align) ps) b.align

-- its alignment is one that sections of objects have
pub record IsAligned (b : TlsBlock) : Type 0 where
  pub power : IsPowerOfTwo b.align
  pub small : b.align ≤ 2 ^ 21

-- it ends at or below the limit of addresses
abbrev pub EndsLow : TlsBlock → Type 0
EndsLow b = b.start + b.size ≤ 2 ^ 46
