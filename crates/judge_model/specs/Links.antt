-- A link that another linker made, as the judge sees it: what the words ask for, the files, the image, and a certificate;
-- and its parts. Sections are those that COMDAT groups leave, but for those that the certificate leaves out.
use Rattle.std.specs.Prelude.{◌==◌, ◌&&◌, ◌||◌, ℕ, Bool, not, List, ◌++◌, filter, find, is_some}
use Rattle.std.specs.List.{list_any}
use Rattle.elf_model.specs.Image.MapRecord.{CommonRow}
use Rattle.elf_model.specs.Inputs.Files.{File}
use Rattle.elf_model.specs.Link.Commons.{Block, blocks}
use Rattle.elf_model.specs.Link.Loading.{LoadedObject}
use Rattle.elf_model.specs.Link.Pieces.{Piece, has_flag, is_executable, is_nobits, is_of_output, is_thread_local, is_writable, kept_sections}
use Rattle.elf_model.specs.Link.Placement.{Placed, is_common_row_of, placed_blocks, placed_by}
use Rattle.elf_model.specs.Link.Relocation.{Relocation, relocations}
use Rattle.elf_model.specs.declared.constants.TheConstants.{SHF_MERGE}
use Rattle.elf_model.specs.declared.records.SectionHeader.{SectionHeader}
use Rattle.judge_model.specs.Certificates.{CertificateRecord, has_place, is_left_out}
use Rattle.judge_model.specs.Loaded.{objects_in_order}
use Rattle.judge_model.specs.Plans.{ForeignPlan}
use Rattle.std.specs.Prelude.{codes}
use Rattle.std.specs.Str.{bytes_eq}

pub record ForeignLink : Type 0 where
  pub plan : ForeignPlan
  pub files : List File
  pub image : List ℕ
  pub certificate : CertificateRecord

-- the objects, in the certificate's order
abbrev pub objects_of : ForeignLink → List LoadedObject
objects_of l = objects_in_order l.files l.plan.plan l.certificate.objects

-- the sections of the image, and the relocations of these
abbrev pub is_in_image : ForeignLink → Piece → Bool
is_in_image l p = not (is_left_out l.certificate.drops p.object p.section)

abbrev pub pieces_of : ForeignLink → List Piece
pieces_of l = filter (is_in_image l) (kept_sections (objects_of l))

abbrev pub is_in_image_too : ForeignLink → Relocation → Bool
is_in_image_too l r = not (is_left_out l.certificate.drops r.object r.section)

abbrev pub relocations_of : ForeignLink → List Relocation
relocations_of l = filter (is_in_image_too l) (relocations (objects_of l))

-- Sections that linkers edit: read-only strings and constants that may be merged, call frames, property notes. All others are
-- plain, and so are those that have a place line, which a link that is judged gives the first two kinds alone.
abbrev pub is_relocated : ForeignLink → Piece → Bool
is_relocated l p = list_any (λ r. r.object == p.object && r.section == p.section) (relocations (objects_of l))

abbrev pub is_read_only : SectionHeader → Bool
is_read_only h = not (is_nobits h || (is_writable h || (is_executable h || is_thread_local h)))

abbrev pub is_mergeable : Piece → Bool
is_mergeable p = has_flag SHF_MERGE p.header && (not (p.header.sh_entsize == 0) && is_read_only p.header)

abbrev pub is_frames : Piece → Bool
is_frames p = bytes_eq p.name (codes ".eh_frame")

abbrev pub is_property : Piece → Bool
is_property p = bytes_eq p.name (codes ".note.gnu.property")

abbrev pub is_placed : ForeignLink → Piece → Bool
is_placed l p = has_place l.certificate.places p.object p.section

abbrev pub is_plain : ForeignLink → Piece → Bool
is_plain l p = is_placed l p || not (is_mergeable p || (is_frames p || is_property p))

abbrev pub plain_pieces : ForeignLink → List Piece
plain_pieces l = filter (is_plain l) (pieces_of l)

-- those of which the linker merged what they have
abbrev pub is_merged : ForeignLink → Piece → Bool
is_merged l p = is_mergeable p && not (is_placed l p)

abbrev pub merged_of : ForeignLink → List Piece
merged_of l = filter (is_merged l) (pieces_of l)

-- those of call frames that it made one list of
abbrev pub is_framed : ForeignLink → Piece → Bool
is_framed l p = is_frames p && not (is_placed l p)

abbrev pub framed_of : ForeignLink → List Piece
framed_of l = filter (is_framed l) (pieces_of l)

-- the plain sections at the addresses of their lines, the common blocks that have a line at theirs, and both
abbrev pub sections_of : ForeignLink → List Placed
sections_of l = placed_by l.certificate.places (plain_pieces l)

abbrev pub has_common_line : List CommonRow → Block → Bool
has_common_line rows b = is_some (find (is_common_row_of b.name) rows)

abbrev pub blocks_of : ForeignLink → List Block
blocks_of l = filter (has_common_line l.certificate.commons) (blocks (objects_of l))

abbrev pub placed_of : ForeignLink → List Placed
placed_of l = sections_of l ++ placed_blocks l.certificate.commons (blocks_of l)

-- the output name has a section in the image
abbrev pub has_output : ForeignLink → List ℕ → Bool
has_output l name = list_any (is_of_output name) (pieces_of l)
