-- What is told in headers and symbols has no offsets of names, and the sections of an image aren't tables of symbols.
use Rattle.std.proofs.Common.{◌≡◌, ◌+◌, ◌++◌, ℕ, List, [], ◌∷◌, length, refl, subst}
use Rattle.std.specs.Prelude.{All, None, Option, Some, cond, false, option_map, ◌==◌}
use Rattle.std.specs.Option.{option_and_then}
use Rattle.std.proofs.lemmas.List.Elements.{All-append, All-cons, All-contains, All-map, All-nil, All-weaker}
use Rattle.std.proofs.lemmas.Option.{none-some, same_Some}
use Rattle.elf_model.specs.Link.Commons.{block_pieces}
use Rattle.elf_model.specs.Link.Loading.{LoadedObject}
use Rattle.elf_model.specs.Link.Meaning.{Common, Linker, Meaning, Symbol}
use Rattle.elf_model.specs.Link.Pieces.{AreLawfulKinds, IsLawfulKind, Piece, kept_sections, lawful_types}
use Rattle.elf_model.specs.Link.Placement.{Placed}
use Rattle.elf_model.specs.Link.Resolution.{SymbolOf, binding, is_absolute}
use Rattle.elf_model.specs.Own.OwnLayout.{got_pieces, laid_out, own_address, own_laid_out}
use Rattle.elf_model.specs.declared.constants.TheConstants.{SHT_FINI_ARRAY, SHT_INIT_ARRAY, SHT_NOBITS, SHT_NOTE, SHT_PREINIT_ARRAY, SHT_PROGBITS, SHT_SYMTAB, SHT_X86_64_UNWIND, STB_LOCAL}
use Rattle.elf_model.specs.declared.records.Symbol as code
use Rattle.elf_model.proofs.Blocks.{block_pieces-each}
use Rattle.elf_model.proofs.PieceNumbers.{got_pieces-each}
use Rattle.elf_model.proofs.Places.{are_own_placed}
use Rattle.debug_image.specs.DebugSections.{Joined, joined_rows, row_of, start_of}
use Rattle.debug_image.specs.Sections.{Section, section_row, section_rows}
use Rattle.debug_image.specs.Symbols.{Laid, absolute_row, address_of, block_entry, is_wanted, linker_row, local_row, local_rows, meaning_row, meaning_rows, named_row, placed_row, row_at, row_in, symbol_piece, symbol_row}
use Rattle.debug_image.specs.Tables.{HeaderRow, Row}
use Rattle.debug_image.proofs.MappedRuns.{own_sections, own_sections-each}
use Rattle.debug_law.proofs.JoinedNames.{both}
use Rattle.debug_law.proofs.LocalRows.{all_given, all_local}
use Rattle.debug_law.proofs.ReadTables.{is_symtab, unnamed_header, unnamed_row}

-- headers
pub sections_unnamed : (base count : ℕ) (ss : List Section) → All (λ r. unnamed_header r ≡ r) (section_rows base count ss)
sections_unnamed base count [] = All-nil (λ r. unnamed_header r ≡ r)
sections_unnamed base count (s ∷ ss) = All-cons (λ r. unnamed_header r ≡ r) (section_row base count s) (section_rows base count ss) refl (sections_unnamed base count ss)

pub joined_unnamed : (y : ℕ) (js : List Joined) → All (λ r. unnamed_header r ≡ r) (joined_rows y js)
joined_unnamed y [] = All-nil (λ r. unnamed_header r ≡ r)
joined_unnamed y (j ∷ js) =
    All-cons (λ r. unnamed_header r ≡ r) (row_of (start_of y j) j) (joined_rows (start_of y j + j.end) js) refl (joined_unnamed (start_of y j + j.end) js)

pub joined_kinds : (y : ℕ) (js : List Joined) → All (λ r. is_symtab r.header ≡ false) (joined_rows y js)
joined_kinds y [] = All-nil (λ r. is_symtab r.header ≡ false)
joined_kinds y (j ∷ js) =
    All-cons (λ r. is_symtab r.header ≡ false) (row_of (start_of y j) j) (joined_rows (start_of y j + j.end) js) refl (joined_kinds (start_of y j + j.end) js)

-- sections of memory have lawful types
abbrev IsNone : ℕ → Type 0
IsNone t = (t == SHT_SYMTAB) ≡ false

lawful : All IsNone lawful_types
lawful = All-cons IsNone SHT_PROGBITS (SHT_NOTE ∷ SHT_NOBITS ∷ SHT_INIT_ARRAY ∷ SHT_FINI_ARRAY ∷ SHT_PREINIT_ARRAY ∷ SHT_X86_64_UNWIND ∷ []) refl (All-cons IsNone SHT_NOTE (SHT_NOBITS ∷ SHT_INIT_ARRAY ∷ SHT_FINI_ARRAY ∷ SHT_PREINIT_ARRAY ∷ SHT_X86_64_UNWIND ∷ []) refl (All-cons IsNone SHT_NOBITS (SHT_INIT_ARRAY ∷ SHT_FINI_ARRAY ∷ SHT_PREINIT_ARRAY ∷ SHT_X86_64_UNWIND ∷ []) refl (All-cons IsNone SHT_INIT_ARRAY (SHT_FINI_ARRAY ∷ SHT_PREINIT_ARRAY ∷ SHT_X86_64_UNWIND ∷ []) refl (All-cons IsNone SHT_FINI_ARRAY (SHT_PREINIT_ARRAY ∷ SHT_X86_64_UNWIND ∷ []) refl (All-cons IsNone SHT_PREINIT_ARRAY (SHT_X86_64_UNWIND ∷ []) refl (All-cons IsNone SHT_X86_64_UNWIND [] refl (All-nil IsNone)))))))

kept_kind : (p : Piece) → IsLawfulKind p.header → is_symtab p.header ≡ false
kept_kind p kind = All-contains IsNone lawful_types p.header.sh_type lawful kind.type_

laid_kinds : (objects : List LoadedObject) → AreLawfulKinds objects → All (λ p. is_symtab p.header ≡ false) (laid_out objects)
laid_kinds objects kinds =
    All-append (λ p. is_symtab p.header ≡ false) (kept_sections objects ++ block_pieces objects) (got_pieces objects)
    (All-append (λ p. is_symtab p.header ≡ false) (kept_sections objects) (block_pieces objects)
    (All-weaker (λ p. IsLawfulKind p.header) (λ p. is_symtab p.header ≡ false) kept_kind (kept_sections objects) kinds)
    (block_pieces-each objects (λ p. is_symtab p.header ≡ false) (λ k s c. refl)))
    (got_pieces-each objects (λ p. is_symtab p.header ≡ false) refl)

pub section_kinds :
    (base : ℕ) (objects : List LoadedObject) (kinds : AreLawfulKinds objects) → All (λ r. is_symtab r.header ≡ false) (section_rows base (length objects) (own_sections base objects kinds))
section_kinds base objects kinds =
    All-map (λ (r : HeaderRow). is_symtab r.header ≡ false) (section_row base (length objects)) (own_sections base objects kinds)
    (own_sections-each base objects kinds (λ s. is_symtab s.first.piece.header ≡ false) (λ s run long.
    All-contains (λ (q : Placed). is_symtab q.piece.header ≡ false) (own_laid_out base objects) s.first
    (All-map (λ (q : Placed). is_symtab q.piece.header ≡ false) (λ p. record { at = own_address base objects p; piece = p }) (laid_out objects) (laid_kinds objects kinds))
    ((are_own_placed base objects kinds).all s.first run.first)))

-- symbols
mapped_unnamed : (s : SymbolOf) (l : Laid) (at : ℕ) (o : Option Piece) (r : Row) → option_map (row_in l s at) o ≡ Some r → unnamed_row r ≡ r
mapped_unnamed s l at None r e = absurd (none-some r e)
mapped_unnamed s l at (Some p) r e = subst (λ (q : Row). unnamed_row q ≡ q) (same_Some (row_in l s at p) r e) refl

placed_unnamed : (s : SymbolOf) (l : Laid) (o : Option ℕ) (r : Row) → option_and_then (row_at l s) o ≡ Some r → unnamed_row r ≡ r
placed_unnamed s l None r e = absurd (none-some r e)
placed_unnamed s l (Some at) r e = mapped_unnamed s l at (symbol_piece l.objects s) r e

kept_unnamed : (l : Laid) (s : SymbolOf) (r : Row) → symbol_row l s ≡ Some r → unnamed_row r ≡ r
kept_unnamed l s r e =
    both (λ b. cond b (Some (absolute_row s.name s.entry)) (option_and_then (row_at l s) (address_of l s.object s.entry.st_shndx)) ≡ Some r → unnamed_row r ≡ r)
    (is_absolute s.entry)
    (λ t u. subst (λ (q : Row). unnamed_row q ≡ q) (same_Some (absolute_row s.name s.entry) r u) refl)
    (λ f u. placed_unnamed s l (address_of l s.object s.entry.st_shndx) r u) e

local_unnamed : (l : Laid) (s : SymbolOf) (r : Row) → local_row l s ≡ Some r → unnamed_row r ≡ r
local_unnamed l s r e =
    both (λ b. cond b (symbol_row l s) None ≡ Some r → unnamed_row r ≡ r) (is_wanted s) (λ t u. kept_unnamed l s r u) (λ t u. absurd (none-some r u)) e

pub locals_unnamed : (l : Laid) → All (λ r. unnamed_row r ≡ r) (local_rows l)
locals_unnamed l = all_local (λ r. unnamed_row r ≡ r) l (local_unnamed l)

block_unnamed : (l : Laid) (name : List ℕ) (e : code.Symbol) (k at : Option ℕ) (r : Row) → option_map (placed_row name e k) at ≡ Some r → unnamed_row r ≡ r
block_unnamed l name e k None r is = absurd (none-some r is)
block_unnamed l name e k (Some at) r is = subst (λ (q : Row). unnamed_row q ≡ q) (same_Some (placed_row name e k at) r is) refl

named_unnamed : (l : Laid) (s : SymbolOf) (r : Row) → named_row l s ≡ Some r → unnamed_row r ≡ r
named_unnamed l s r e =
    both (λ b. cond b None (symbol_row l s) ≡ Some r → unnamed_row r ≡ r) (binding s.entry == STB_LOCAL) (λ t u. absurd (none-some r u)) (λ f u. kept_unnamed l s r u) e

meaning_unnamed : (l : Laid) (m : Meaning) (r : Row) → meaning_row l m ≡ Some r → unnamed_row r ≡ r
meaning_unnamed l (Symbol s) r e = named_unnamed l s r e
meaning_unnamed l (Common b) r e = block_unnamed l b.name (block_entry b) _ (address_of l b.object b.number) r e
meaning_unnamed l (Linker name bound) r e = subst (λ (q : Row). unnamed_row q ≡ q) (same_Some (linker_row name _) r e) refl

pub meanings_unnamed : (l : Laid) (ms : List Meaning) → All (λ r. unnamed_row r ≡ r) (meaning_rows l ms)
meanings_unnamed l ms = all_given (λ r. unnamed_row r ≡ r) (meaning_row l) (meaning_unnamed l) ms
