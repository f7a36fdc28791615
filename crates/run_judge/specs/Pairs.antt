-- The pairs of sections that are neighbours in a run.
use Rattle.std.specs.Prelude.{◌≡◌, ◌↔◌, ℕ, ◌<◌, Bool, List, None, Option, Some, Any, IfSome, cond, length, slice_index_or}
use Rattle.std.specs.Ordering.{is_eq}
use Rattle.elf_model.specs.Link.Pieces.{Piece, is_executable, is_nobits, is_thread_local, is_writable}
use Rattle.elf_model.specs.Link.Placement.{Placed}
use Rattle.check_link.specs.OutputSections.{section_order}
use Rattle.check_link.specs.Views.{placed_view}
use Rattle.check_link.specs.declared.output_sections.OutputSection.{OutputSection}
use Rattle.check_link.specs.declared.things.Placed as code
use Rattle.judge_model.specs.Fill.{runs_through}
use Rattle.judge_model.specs.Runs.{AreNeighbours, IsNext, run_name, run_rank}
use Rattle.run_judge.specs.declared.order.Ranked.{Ranked}
use Rattle.run_judge.specs.declared.pairs.RunPair.{RunPair}

-- a section with its rank
abbrev pub with_rank : List Placed → code.Placed → Ranked
with_rank qs q = record { rank = run_rank qs (placed_view q); placed = q }

-- what sections of one run have in common
pub record IsRunSection (p : Piece) (s : OutputSection) : Type 0 where
  pub name : s.name.now ≡ run_name p.name
  pub writable : s.writable ≡ is_writable p.header
  pub executable : s.executable ≡ is_executable p.header
  pub thread_local : s.thread_local ≡ is_thread_local p.header
  pub nobits : s.nobits ≡ is_nobits p.header

-- what is known of runs, once another section of one is the last
abbrev pub over_last : OutputSection → ℕ → (OutputSection → Option ℕ) → OutputSection → Option ℕ
over_last s i f t = cond (is_eq (section_order s t)) (Some i) (f t)

-- two sections have it in common
pub record IsAlike (p q : Piece) : Type 0 where
  pub name : run_name p.name ≡ run_name q.name
  pub writable : is_writable p.header ≡ is_writable q.header
  pub executable : is_executable p.header ≡ is_executable q.header
  pub thread_local : is_thread_local p.header ≡ is_thread_local q.header
  pub nobits : is_nobits p.header ≡ is_nobits q.header

-- of the first j sections, number i is the last that is like q; none is
pub record IsLastAt (qs : List Placed) (j : ℕ) (q : Piece) (i : ℕ) : Type 0 where
  pub before : i < j
  pub same : (d : Placed) → IsAlike (slice_index_or qs i d).piece q
  pub between : (k : ℕ) (d : Placed) → i < k → k < j → ¬ IsAlike (slice_index_or qs k d).piece q

abbrev pub IsLast : List Placed → ℕ → Piece → Option ℕ → Type 0
IsLast qs j q None = (k : ℕ) (d : Placed) → k < j → ¬ IsAlike (slice_index_or qs k d).piece q
IsLast qs j q (Some i) = IsLastAt qs j q i

-- these are the last ones of the first j sections, whatever they are like
pub record AreLasts (qs : List Placed) (j : ℕ) (f : OutputSection → Option ℕ) : Type 0 where
  pub last : (q : Piece) (t : OutputSection) → IsRunSection q t → IsLast qs j q (f t)

-- section j has this one before it in its run, or none
pub record IsBefore (qs : List Placed) (j : ℕ) (o : Option ℕ) : Type 0 where
  pub told : (i : ℕ) (d : Placed) → IsNext qs i j d ↔ (o ≡ Some i)
  pub within : IfSome o (λ i. i < length qs)

-- a pair is of two sections
pub record IsPair (p q : Placed) (n : RunPair) : Type 0 where
  pub first : placed_view n.first ≡ p
  pub second : placed_view n.second ≡ q

-- two sections of a list follow one another in a run, the second one of its first n
pub record AreNextBelow (qs : List Placed) (n : ℕ) (p q : Placed) : Type 0 where
  pub i : ℕ
  pub j : ℕ
  pub below : j < n
  pub next : IsNext qs i j p
  pub first : slice_index_or qs i p ≡ p
  pub second : slice_index_or qs j p ≡ q

pub record ArePairsBelow (qs : List Placed) (n : ℕ) (ps : List RunPair) : Type 0 where
  pub told : (p q : Placed) → AreNextBelow qs n p q ↔ Any (IsPair p q) ps

-- these are all neighbours in the runs of sections
pub record AreRunPairs (qs : List Placed) (ps : List RunPair) : Type 0 where
  pub told : (p q : Placed) → AreNeighbours qs p q ↔ Any (IsPair p q) ps

-- a pair of sections that are executed one behind the other
abbrev pub is_code_pair : RunPair → Bool
is_code_pair n = runs_through (placed_view n.first).piece
