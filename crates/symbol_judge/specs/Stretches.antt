-- The stretches of memory that sections take up, and whether one of them has another stretch whole.
use Rattle.std.specs.Prelude.{◌≡◌, ℕ, ◌+◌, ◌-◌, ◌<◌, ◌≤◌, ◌==◌, cond, List, [], ◌∷◌, All, Any, filter, length, map, max, slice_index_or}
use Rattle.std.specs.List.Sorted.{IsNonDecreasingBy}
use Rattle.elf_model.specs.Link.Pieces.{load_size}
use Rattle.elf_model.specs.Link.Placement.{Placed}
use Rattle.elf_model.specs.declared.records.SectionHeader.{SectionHeader}
use Rattle.judge_model.specs.Tables.{is_in_memory}
use Rattle.symbol_judge.specs.declared.stretches.Stretch.{Stretch}

abbrev pub stretch_of : SectionHeader → Stretch
stretch_of h = record { from = h.sh_addr; to = h.sh_addr + h.sh_size }

abbrev pub stretches_of : List SectionHeader → List Stretch
stretches_of hs = map stretch_of (filter is_in_memory hs)

-- a stretch has the addresses from one on and below another
pub record Has (at end : ℕ) (s : Stretch) : Type 0 where
  pub from : s.from ≤ at
  pub to : end ≤ s.to

-- stretches of which each one reaches as far as any before it
abbrev pub reached : ℕ → List Stretch → List Stretch
reached far [] = []
reached far (s ∷ ss) = record { from = s.from; to = max far s.to } ∷ reached (max far s.to) ss

-- how far the first of such stretches reach
abbrev pub no_stretch : Stretch
no_stretch = record { from = 0; to = 0 }

abbrev pub reach_among : List Stretch → ℕ → ℕ
reach_among rs count = cond (count == 0) 0 (slice_index_or rs (count - 1) no_stretch).to

-- stretches by rising beginnings, and how far those up to each one reach
pub record AreReached (ss rs : List Stretch) : Type 0 where
  pub rising : IsNonDecreasingBy (λ s. s.from) ss
  pub reached_are : rs ≡ reached 0 ss

-- a piece lies in a stretch, where it takes up memory; and so do all
pub record IsCovered (ss : List Stretch) (q : Placed) : Type 0 where
  pub covered : 0 < load_size q.piece → Any (Has q.at (q.at + load_size q.piece)) ss

pub record AreCoveredBy (ss : List Stretch) (qs : List Placed) : Type 0 where
  pub covered : 0 < length ss → All (IsCovered ss) qs
