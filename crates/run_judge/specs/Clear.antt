-- Gaps between the neighbours of runs, and what lies in them.
use Rattle.std.specs.Prelude.{◌≡◌, ◌↔◌, ℕ, ◌+◌, ◌<◌, ◌≤◌, Bool, true, false, cond, not, List, None, Option, Some, All, length, slice_index_or, take}
use Rattle.std.specs.Borrow.{Bor}
use Rattle.std.specs.Str.{bytes_eq}
use Rattle.elf_model.specs.Link.Pieces.{Piece}
use Rattle.elf_model.specs.Link.Placement.{Covers, Placed, thing_of}
use Rattle.elf_model.specs.declared.thing.Thing.{Thing}
use Rattle.judge_model.specs.Runs.{run_name}
use Rattle.memory_judge.specs.Spans.{far}
use Rattle.run_judge.specs.declared.stretches.Stretch.{Stretch}
use Rattle.run_judge.specs.declared.clear.Tops.{Tops}
use Rattle.run_judge.specs.declared.pairs.RunPair.{RunPair}

-- the addresses between two neighbours, from one on and below another
abbrev pub gap_from : RunPair → ℕ
gap_from n = n.first.at + n.first.piece.header.sh_size

abbrev pub gap_to : RunPair → ℕ
gap_to n = n.second.at

pub record IsInGap (a : ℕ) (n : RunPair) : Type 0 where
  pub behind : gap_from n ≤ a
  pub before : a < gap_to n

-- a thing covers none of some addresses
pub record IsBesideGap (from to : ℕ) (t : Thing) : Type 0 where
  pub beside : (a : ℕ) → from ≤ a → a < to → ¬ Covers t a

-- a section is of another run name; one that is so is beside some addresses
abbrev pub is_strange : List ℕ → Piece → Bool
is_strange name p = not (bytes_eq name (run_name p.name))

pub record IsBesideIfStrange (name : List ℕ) (from to : ℕ) (q : Placed) : Type 0 where
  pub beside : is_strange name q.piece ≡ true → IsBesideGap from to (thing_of q)

-- Stretches of addresses, each with the run name of its section, where it is a section's.

abbrev pub is_named : Option (Bor (List ℕ)) → List ℕ → Bool
is_named None name = false
is_named (Some held) name = bytes_eq name held.now

-- one of another name ends at or below an address; one that begins below another does so
pub record EndsBy (name : List ℕ) (v : ℕ) (s : Stretch) : Type 0 where
  pub end : is_named s.name name ≡ false → s.to ≤ v

pub record Misses (name : List ℕ) (from to : ℕ) (s : Stretch) : Type 0 where
  pub misses : s.from < to → EndsBy name from s

-- stretches are those of things that are no sections, and of sections and blocks
pub record AreStretches (made : List Thing) (placed : List Placed) (ss : List Stretch) : Type 0 where
  pub told :
      (name : List ℕ) (from to : ℕ) → from < to → to ≤ far
      → All (Misses name from to) ss ↔ (All (IsBesideGap from to) made × All (IsBesideIfStrange name from to) placed)

-- the greatest end of stretches, and that of stretches of other names than the one's with this end
abbrev pub beside : Tops → List ℕ → ℕ
beside t name = cond (is_named t.name name) t.other_end t.end

pub record AreTops (ss : List Stretch) (t : Tops) : Type 0 where
  pub low : t.other_end ≤ t.end
  pub told : (name : List ℕ) (v : ℕ) → (beside t name ≤ v) ↔ All (EndsBy name v) ss

-- those of the first stretches of a list, of each number of them
pub record AreAllTops (ss : List Stretch) (ts : List Tops) : Type 0 where
  pub long : length ts ≡ length ss + 1
  pub each : (k : ℕ) (d : Tops) → k ≤ length ss → AreTops (take k ss) (slice_index_or ts k d)

-- no stretch of another name has an address of the gap
pub record IsGapClear (ss : List Stretch) (n : RunPair) : Type 0 where
  pub clear : gap_from n < gap_to n → All (Misses (run_name n.first.piece.name.now) (gap_from n) (gap_to n)) ss
