-- F5. Code that a linker may rewrite where it knows an address, one row a rewriting (AMD64 psABI B.2, "Optimize GOTPCRELX
-- Relocations"; ELF Handling For Thread-Local Storage, "Linker Optimizations"; AMD64 Architecture Programmer's Manual 3, "Opcode
-- and Operand Encodings"). An instruction that takes an address or a thread offset from a slot of the GOT becomes one that has
-- it: the same bytes in front of the field and around it, in the same places, and a field of another type.
use Rattle.std.specs.Prelude.{ℕ, ℤ, pos, negsuc, ◌-◌, ◌/◌, ◌%◌, ◌==◌, ◌&&◌, ◌||◌, Bool, true, false, not, List, [], ◌∷◌, ◌++◌, bit_and, bit_or, cond, map, nat_le, nat_lt, slice_index}
use Rattle.std.specs.Ordering.{int_eq}
use Rattle.elf_model.specs.Inputs.ObjectFile.{rela_type}
use Rattle.elf_model.specs.Link.Relocation.{Kind, S+A, S+A-P, Signed, T+A, Unsigned, kind}
use Rattle.elf_model.specs.declared.constants.TheConstants.{R_X86_64_32, R_X86_64_32S, R_X86_64_GOTPCREL, R_X86_64_GOTPCRELX, R_X86_64_GOTTPOFF, R_X86_64_PC32, R_X86_64_REX_GOTPCRELX, R_X86_64_TPOFF32}
use Rattle.elf_model.specs.declared.records.Rela.{Rela}
use Rattle.judge_model.specs.declared.rewriting.Rewriting.{Rewriting}
use Rattle.judge_model.specs.declared.rewriting.Rewriting.TheVariants.{MovToLea, MovToImmediate, TestToImmediate, OperationToImmediate, CallWithPrefix, CallBehindNop, CallBeforeNop, JumpBehindNop, JumpBeforeNop, ThreadMovToImmediate, ThreadAddToImmediate, ThreadAddToLea}

-- The instruction of a relocation.

-- How many bytes a relocation's type tells its instruction to have in front of the field: the opcode and ModRM; with a REX byte
-- in front of them for REX_GOTPCRELX, and for GOTTPOFF, which is for mov and add of 64 bits; without one for GOTPCRELX (psABI
-- 4.4). GOTPCREL tells nothing of REX. It tells no instruction where the field isn't the instruction's end, 4 bytes behind the
-- field's address, nor where the section hasn't so many bytes.
abbrev pub front_of_type : ℕ → ℕ
front_of_type type =
    cond (type == R_X86_64_GOTPCREL || type == R_X86_64_GOTPCRELX) 2
    (cond (type == R_X86_64_REX_GOTPCRELX || type == R_X86_64_GOTTPOFF) 3 0)

abbrev pub is_at_end : Rela → Bool
is_at_end e = int_eq e.r_addend (negsuc 3)

abbrev pub front_of : Rela → ℕ
front_of e = cond (is_at_end e && nat_le (front_of_type (rela_type e)) e.r_offset) (front_of_type (rela_type e)) 0

-- what it has there: REX where this is told, the opcode, and ModRM
pub record Instruction : Type 0 where
  pub rex : List ℕ
  pub opcode : ℕ
  pub modrm : ℕ

abbrev pub front_bytes : Instruction → List ℕ
front_bytes i = i.rex ++ (i.opcode ∷ i.modrm ∷ [])

-- the instruction of a relocation of a section with these bytes
abbrev pub instruction_in : List ℕ → Rela → Instruction
instruction_in bytes e = record {
  rex = cond (front_of e == 3) (slice_index bytes (e.r_offset - 3) ∷ []) [];
  opcode = slice_index bytes (e.r_offset - 2);
  modrm = slice_index bytes (e.r_offset - 1);
}

-- What the bytes say.

-- ModRM of a register and an address that is relative to the instruction's end; the register's number, of 3 bits
abbrev pub is_relative : ℕ → Bool
is_relative modrm = nat_lt modrm 64 && modrm % 8 == 5

abbrev pub register : ℕ → ℕ
register modrm = modrm / 8

-- REX with nothing but W, which is 8, and R, which is 4: the fourth bit of that number. W asks for 64 bits
abbrev pub is_plain : ℕ → Bool
is_plain rex = rex == 0x40 || (rex == 0x44 || (rex == 0x48 || rex == 0x4c))

abbrev pub asks_wide : ℕ → Bool
asks_wide rex = rex == 0x48 || rex == 0x4c

abbrev pub is_lawful : List ℕ → Bool
is_lawful [] = true
is_lawful (rex ∷ more) = is_plain rex

abbrev pub is_wide : List ℕ → Bool
is_wide [] = false
is_wide (rex ∷ more) = asks_wide rex

-- What stands in their place.

-- ModRM of that register as the second operand, and as both of lea with an offset of 32 bits; and REX for these: R becomes B,
-- which is 1, or is there as B too
abbrev pub as_operand : ℕ → ℕ
as_operand modrm = bit_or 0xc0 (register modrm)

abbrev pub as_both : ℕ → ℕ
as_both modrm = bit_or (bit_or 0x80 (bit_and modrm 0x38)) (register modrm)

abbrev pub moved : ℕ → ℕ
moved rex = cond (rex == 0x44) 0x41 (cond (rex == 0x4c) 0x49 rex)

abbrev pub doubled : ℕ → ℕ
doubled rex = cond (rex == 0x4c) 0x4d rex

-- the bytes in front of the field of an instruction with an opcode, the register as its second operand or as both, and for the
-- eight operations of one opcode their number in ModRM's other bits
abbrev pub with_operand : ℕ → Instruction → List ℕ
with_operand opcode i = map moved i.rex ++ (opcode ∷ as_operand i.modrm ∷ [])

abbrev pub with_operation : Instruction → List ℕ
with_operation i = map moved i.rex ++ (0x81 ∷ bit_or (as_operand i.modrm) (bit_and i.opcode 0x38) ∷ [])

abbrev pub with_both : ℕ → Instruction → List ℕ
with_both opcode i = map doubled i.rex ++ (opcode ∷ as_both i.modrm ∷ [])

abbrev pub with_opcode : ℕ → Instruction → List ℕ
with_opcode opcode i = i.rex ++ (opcode ∷ i.modrm ∷ [])

-- what the new field holds: what one of a relocation of another type would, with an addend. The address from the instruction's
-- end; the address, which the instruction extends by its sign to 64 bits, or by zeros from 32 bits; the thread offset
pub record Put : Type 0 where
  pub kind : Kind
  pub addend : ℤ

abbrev pub from_end : Put
from_end = record { kind = kind R_X86_64_PC32 4 S+A-P Signed; addend = negsuc 3 }

abbrev pub signed_address : Put
signed_address = record { kind = kind R_X86_64_32S 4 S+A Signed; addend = pos 0 }

abbrev pub unsigned_address : Put
unsigned_address = record { kind = kind R_X86_64_32 4 S+A Unsigned; addend = pos 0 }

abbrev pub address_for : Instruction → Put
address_for i = cond (is_wide i.rex) signed_address unsigned_address

abbrev pub thread_offset : Put
thread_offset = record { kind = kind R_X86_64_TPOFF32 4 T+A Signed; addend = pos 0 }

-- The table.

-- a row: the types of relocations; which instructions; and in their place the bytes in front of the field, what this holds, and
-- the bytes behind it, by which many it begins earlier
pub record Rewrite : Type 0 where
  pub types : List ℕ
  pub is_of : Instruction → Bool
  pub front : Instruction → List ℕ
  pub put : Instruction → Put
  pub behind : List ℕ

abbrev pub with_rex : List ℕ
with_rex = R_X86_64_GOTPCRELX ∷ R_X86_64_REX_GOTPCRELX ∷ []

abbrev pub any_load : List ℕ
any_load = R_X86_64_GOTPCREL ∷ with_rex

-- mov, test and the eight operations of a register with the slot; mov and add of 64 bits; call and jmp through the slot
abbrev pub is_load : ℕ → Instruction → Bool
is_load opcode i = is_lawful i.rex && (i.opcode == opcode && is_relative i.modrm)

abbrev pub is_operation : Instruction → Bool
is_operation i = is_lawful i.rex && (bit_and i.opcode 0xc7 == 3 && is_relative i.modrm)

abbrev pub is_wide_load : ℕ → Instruction → Bool
is_wide_load opcode i = is_wide i.rex && (i.opcode == opcode && is_relative i.modrm)

abbrev pub is_branch : ℕ → Instruction → Bool
is_branch modrm i = i.opcode == 0xff && i.modrm == modrm

abbrev pub branch : ℕ → List ℕ → List ℕ → Rewrite
branch modrm front behind = record {
  types = R_X86_64_GOTPCRELX ∷ [];
  is_of = is_branch modrm;
  front = λ i. front;
  put = λ i. from_end;
  behind = behind;
}

-- mov: lea of the address, or mov of it; test with it; an operation with it
abbrev pub rewrite_of : Rewriting → Rewrite
rewrite_of MovToLea = record {
  types = any_load;
  is_of = is_load 0x8b;
  front = with_opcode 0x8d;
  put = λ i. from_end;
  behind = [];
}
rewrite_of MovToImmediate = record {
  types = with_rex;
  is_of = is_load 0x8b;
  front = with_operand 0xc7;
  put = address_for;
  behind = [];
}
rewrite_of TestToImmediate = record {
  types = with_rex;
  is_of = is_load 0x85;
  front = with_operand 0xf7;
  put = address_for;
  behind = [];
}
rewrite_of OperationToImmediate = record {
  types = with_rex;
  is_of = is_operation;
  front = with_operation;
  put = address_for;
  behind = [];
}
-- call: of the address, with a prefix that changes nothing, or a nop in front, or one behind; jmp likewise
rewrite_of CallWithPrefix = branch 0x15 (0x67 ∷ 0xe8 ∷ []) []
rewrite_of CallBehindNop = branch 0x15 (0x90 ∷ 0xe8 ∷ []) []
rewrite_of CallBeforeNop = branch 0x15 (0xe8 ∷ []) (0x90 ∷ [])
rewrite_of JumpBehindNop = branch 0x25 (0x90 ∷ 0xe9 ∷ []) []
rewrite_of JumpBeforeNop = branch 0x25 (0xe9 ∷ []) (0x90 ∷ [])
-- mov and add of a thread offset: of the offset itself; add also as lea, but not where the register's number asks for a SIB byte
rewrite_of ThreadMovToImmediate = record {
  types = R_X86_64_GOTTPOFF ∷ [];
  is_of = is_wide_load 0x8b;
  front = with_operand 0xc7;
  put = λ i. thread_offset;
  behind = [];
}
rewrite_of ThreadAddToImmediate = record {
  types = R_X86_64_GOTTPOFF ∷ [];
  is_of = is_wide_load 0x03;
  front = with_operand 0x81;
  put = λ i. thread_offset;
  behind = [];
}
rewrite_of ThreadAddToLea = record {
  types = R_X86_64_GOTTPOFF ∷ [];
  is_of = λ i. is_wide_load 0x03 i && not (register i.modrm == 4);
  front = with_both 0x8d;
  put = λ i. thread_offset;
  behind = [];
}

abbrev pub rewritings : List Rewriting
rewritings =
    MovToLea ∷ MovToImmediate ∷ TestToImmediate ∷ OperationToImmediate
    ∷ CallWithPrefix ∷ CallBehindNop ∷ CallBeforeNop ∷ JumpBehindNop ∷ JumpBeforeNop
    ∷ ThreadMovToImmediate ∷ ThreadAddToImmediate ∷ ThreadAddToLea ∷ []
