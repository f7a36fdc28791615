-- F3 in parts: the lines, what is low enough and apart, what is in memory, and what words give an address.
use Rattle.std.specs.Prelude.{◌≡◌, ℕ, ◌%◌, List, All, AllPairs, Any, IfSome, false, map, true}
use Rattle.elf_model.specs.Image.MemoryImage.{first_address, loads}
use Rattle.elf_model.specs.Image.RightLink.{facts_of_piece, facts_of_row}
use Rattle.elf_model.specs.Link.Pieces.{is_thread_zero}
use Rattle.elf_model.specs.Link.Placement.{AreApart, thread_ranges}
use Rattle.judge_model.specs.Links.{ForeignLink, placed_of, plain_pieces}
use Rattle.judge_model.specs.Placed.{HasPlace, IsCommonRight, IsLow, MayBeBoth, StartsRight, is_both, things_of}

pub record AreLinesRight (l : ForeignLink) : Type 0 where
  pub lines : map facts_of_row l.certificate.places ≡ map facts_of_piece (plain_pieces l)
  pub commons : (name : List ℕ) → IsCommonRight l name

pub record IsLaidApart (l : ForeignLink) : Type 0 where
  pub low : All IsLow (placed_of l)
  pub aligned : All (λ q. q.at % q.piece.align ≡ 0) (placed_of l)
  pub apart : AllPairs AreApart (things_of l)
  pub threads_apart : AllPairs AreApart (thread_ranges (placed_of l))

pub record IsMapped (l : ForeignLink) : Type 0 where
  pub in_memory : All (λ q. is_thread_zero q.piece ≡ false → HasPlace (loads l.image) q) (placed_of l)
  pub not_both : Any (λ h. is_both h ≡ true) (loads l.image) → MayBeBoth l

pub record KeepsStarts (l : ForeignLink) : Type 0 where
  pub segment : IfSome l.plan.segment (λ a. first_address (loads l.image) ≡ a)
  pub starts : All (StartsRight l) l.plan.starts
