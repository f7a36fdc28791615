-- F3. Where sections and common blocks are: aligned, apart, in memory with their rights, and in the runs that programs walk
-- over. Any layout and any addresses serve, but for those that the words give (System V gABI 5, "Program Loading").
use Rattle.std.specs.Prelude.{◌≡◌, ◌⊎◌, ℕ, ◌+◌, ◌*◌, ◌%◌, ◌==◌, ◌&&◌, Bool, true, false, not, cond, List, [], ◌∷◌, ◌++◌, Option, None, Some, All, AllPairs, Any, IfSome, bit_and, filter, find, map, nat_le, ◌-◌, ◌^◌, ◌≤◌, ◌||◌, is_some}
use Rattle.elf_model.specs.Image.MemoryImage.{Encloses, first_address, loads}
use Rattle.elf_model.specs.Image.RightLink.{HasCommonLine, facts_of_piece, facts_of_row}
use Rattle.elf_model.specs.Inputs.Records.{file_header}
use Rattle.elf_model.specs.Link.LinkerValues.{start_of_pieces}
use Rattle.elf_model.specs.Link.Pieces.{Piece, is_executable, is_of_output, is_thread_zero, is_writable}
use Rattle.elf_model.specs.Link.Placement.{AreApart, Covers, IsNear, Placed, is_common_row_of, thing_of, thread_ranges}
use Rattle.elf_model.specs.declared.constants.TheConstants.{PF_R, PF_W, PF_X}
use Rattle.elf_model.specs.declared.records.ProgramHeader.{ProgramHeader}
use Rattle.elf_model.specs.declared.records.SectionHeader.{SectionHeader}
use Rattle.elf_model.specs.declared.thing.Thing.{Thing}
use Rattle.judge_model.specs.Certificates.{IsInOrder}
use Rattle.judge_model.specs.Headers.{table_stretches}
use Rattle.judge_model.specs.Links.{ForeignLink, objects_of, pieces_of, placed_of, plain_pieces, sections_of}
use Rattle.judge_model.specs.Memory.{IsInReach}
use Rattle.judge_model.specs.Plans.{Start}
use Rattle.judge_model.specs.Runs.{AreNeighbours, IsBetween, same_name}
use Rattle.judge_model.specs.declared.certificate.MergedLine.{MergedLine}
use Rattle.judge_model.specs.declared.certificate.StretchLine.{StretchLine}

-- What takes up memory.

-- a stretch of the file, in each segment that has it in memory
abbrev pub has_part : ℕ → ℕ → ProgramHeader → Bool
has_part offset size h = nat_le h.p_offset offset && nat_le (offset + size) (h.p_offset + h.p_filesz)

abbrev pub part_in : ℕ → ℕ → ProgramHeader → Thing
part_in offset size h = record { at = h.p_vaddr + (offset - h.p_offset); size = size; align = 1; rights = 4; in_file = true }

abbrev pub mapped_parts : List ProgramHeader → ℕ → ℕ → List Thing
mapped_parts hs offset size = map (part_in offset size) (filter (has_part offset size) hs)

-- the file header and the program headers, where segments have them; what the linker filled
abbrev pub header_things : List ℕ → List Thing
header_things image =
    mapped_parts (loads image) 0 64
    ++ mapped_parts (loads image) (file_header image).e_phoff (56 * (file_header image).e_phnum)

abbrev pub stretch_thing : StretchLine → Thing
stretch_thing n = record { at = n.address; size = n.size; align = 4; rights = 4; in_file = true }

abbrev pub made_things : ForeignLink → List Thing
made_things l = header_things l.image ++ map stretch_thing (l.certificate.notes ++ l.certificate.areas)

-- all of it: headers, notes, areas of merged strings and constants and of call frames, sections and common blocks
abbrev pub things_of : ForeignLink → List Thing
things_of l = made_things l ++ map thing_of (placed_of l)

abbrev pub stretch_of : MergedLine → StretchLine
stretch_of m = record { address = m.address; size = m.size }

-- what its bytes are of: the same, but of an area the strings and constants in it, the list of call frames, and the tables of it
abbrev pub listed : Option StretchLine → List StretchLine
listed None = []
listed (Some s) = s ∷ []

abbrev pub explained_things : ForeignLink → List Thing
explained_things l =
    (header_things l.image
    ++ map stretch_thing
    (l.certificate.notes ++ (map stretch_of l.certificate.merged ++ (listed l.certificate.list ++ table_stretches l.image))))
    ++ map thing_of (placed_of l)

-- Each plain section has the line that tells its size and name, in order. Each common block has the line of its name, but
-- that --gc-sections may leave one out.
abbrev pub IsCommonRight : ForeignLink → List ℕ → Type 0
IsCommonRight l name =
    HasCommonLine l.certificate.commons (objects_of l) name
    ⊎ ((l.plan.collects ≡ true) × (find (is_common_row_of name) l.certificate.commons ≡ None))

-- Rights: R always, W and X as the section's flags say; a segment has at least these. None has both W and X unless the words,
-- a script or a section's own flags ask for it.
abbrev pub needed_rights : SectionHeader → ℕ
needed_rights h = PF_R + (cond (is_writable h) PF_W 0 + cond (is_executable h) PF_X 0)

abbrev pub LiesIn : List ProgramHeader → Placed → Type 0
LiesIn hs q =
    Any (λ h. Encloses h q.at (thing_of q).size × (bit_and h.p_flags (needed_rights q.piece.header) ≡ needed_rights q.piece.header)) hs

-- A section that takes up no memory may be beside all segments: where an output section is empty GNU ld and LLD make no
-- segment for it, and give it the address at which they are.
abbrev pub IsEmptyInReach : List ProgramHeader → Placed → Type 0
IsEmptyInReach hs q = ((thing_of q).size ≡ 0) × IsInReach hs q.at

abbrev pub HasPlace : List ProgramHeader → Placed → Type 0
HasPlace hs q = LiesIn hs q ⊎ IsEmptyInReach hs q

abbrev pub writes_code : SectionHeader → Bool
writes_code h = is_writable h && is_executable h

abbrev pub is_both : ProgramHeader → Bool
is_both h = bit_and h.p_flags (PF_W + PF_X) == PF_W + PF_X

abbrev pub MayBeBoth : ForeignLink → Type 0
MayBeBoth l =
    ((l.plan.writes_code || is_some l.plan.script) ≡ true) ⊎ Any (λ p. writes_code p.header ≡ true) (pieces_of l)

-- Runs: neighbours are near each other, and between them is nothing but sections of their name.
abbrev pub is_other : Piece → Placed → Bool
is_other p q = not (same_name p q.piece)

abbrev pub other_things : ForeignLink → Piece → List Thing
other_things l p = made_things l ++ map thing_of (filter (is_other p) (placed_of l))

pub record AreRuns (l : ForeignLink) : Type 0 where
  pub near : (p q : Placed) → AreNeighbours (sections_of l) p q → IsNear p q
  pub clear : (p q : Placed) (a : ℕ) → IsBetween (sections_of l) p q a → All (λ t. ¬ Covers t a) (other_things l p.piece)

-- The addresses of a program on x86-64, of sections too that take up no memory.
abbrev pub IsLow : Placed → Type 0
IsLow q = q.at + q.piece.size ≤ 2 ^ 47

-- Words that place: the first segment, and output sections, where these have anything.
abbrev pub StartsRight : ForeignLink → Start → Type 0
StartsRight l s = IfSome (start_of_pieces (is_of_output s.name) (placed_of l)) (λ a. a ≡ s.address)

pub record IsPlaced (l : ForeignLink) : Type 0 where
  pub ordered : IsInOrder l.certificate
  pub lines : map facts_of_row l.certificate.places ≡ map facts_of_piece (plain_pieces l)
  pub commons : (name : List ℕ) → IsCommonRight l name
  pub low : All IsLow (placed_of l)
  pub aligned : All (λ q. q.at % q.piece.align ≡ 0) (placed_of l)
  pub apart : AllPairs AreApart (things_of l)
  pub threads_apart : AllPairs AreApart (thread_ranges (placed_of l))
  pub in_memory : All (λ q. is_thread_zero q.piece ≡ false → HasPlace (loads l.image) q) (placed_of l)
  pub not_both : Any (λ h. is_both h ≡ true) (loads l.image) → MayBeBoth l
  pub runs : AreRuns l
  pub segment : IfSome l.plan.segment (λ a. first_address (loads l.image) ≡ a)
  pub starts : All (StartsRight l) l.plan.starts
