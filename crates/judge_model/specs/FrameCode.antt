-- F8. What is in a record of call frames (LSB Core 10.6, "Exception Frames"). Behind its length and its number a record has fields, of
-- which that of a function has its address first, and behind these instructions up to its end (DWARF 4, 6.4.2 and 7.23). Zeros at the
-- end are instructions that do nothing, and a linker may leave them out, where what is left ends with a whole instruction.
use Rattle.std.specs.Prelude.{ℕ, zero, suc, ◌+◌, ◌-◌, ◌/◌, ◌%◌, ◌^◌, ◌==◌, ◌&&◌, Bool, true, false, not, cond, List, [], ◌∷◌, Option, None, Some, codes, drop, length, nat_le, nat_lt, option_map, take}
use Rattle.std.specs.List.{list_all, list_any, prefix_len, slice_get}
use Rattle.std.specs.Option.{option_and_then, option_map_or}
use Rattle.byteview.specs.Numbers.{le_at, part}
use Rattle.judge_model.specs.declared.frame_record.FrameRecord.{FrameRecord}

-- Parts of a record. Each of these gives what is behind something at the front of bytes, and None where the bytes end before that does.

-- so many bytes
abbrev pub behind : ℕ → List ℕ → Option (List ℕ)
behind n bytes = cond (nat_le n (length bytes)) (Some (drop n bytes)) None

-- a LEB128 (DWARF 4, 7.6): it ends with its first byte below 128
abbrev pub is_continued : ℕ → Bool
is_continued b = nat_le 128 b

abbrev pub behind_number : List ℕ → Option (List ℕ)
behind_number bytes = behind (1 + prefix_len is_continued bytes) bytes

abbrev pub behind_two_numbers : List ℕ → Option (List ℕ)
behind_two_numbers bytes = option_and_then behind_number (behind_number bytes)

-- a text and the NUL that ends it
abbrev pub is_letter : ℕ → Bool
is_letter b = nat_lt 0 b

abbrev pub behind_text : List ℕ → Option (List ℕ)
behind_text bytes = behind (1 + prefix_len is_letter bytes) bytes

-- a block: its length, a LEB128, and so many bytes. A length of more than one byte isn't read: None.
abbrev pub behind_block : List ℕ → Option (List ℕ)
behind_block [] = None
behind_block (n ∷ bytes) = cond (nat_lt n 128) (behind n bytes) None

-- the bytes that a block has
abbrev pub in_block : List ℕ → Option (List ℕ)
in_block [] = None
in_block (n ∷ bytes) = cond (nat_lt n 128) (cond (nat_le n (length bytes)) (Some (take n bytes)) None) None

-- Instructions (DWARF 4, 7.23). The two high bits of the first byte tell an instruction by themselves, where they aren't 0: 1 (advance_loc),
-- 2 (offset, with a LEB128), 3 (restore). Else the whole byte tells it.
abbrev pub is_among : List ℕ → ℕ → Bool
is_among codes code = list_any (λ c. c == code) codes

-- without operands: nop, remember_state, restore_state
abbrev pub plain : List ℕ
plain = 0x00 ∷ 0x0a ∷ 0x0b ∷ []

-- with one LEB128: restore_extended, undefined, same_value, def_cfa_register, def_cfa_offset, def_cfa_offset_sf; and GNU_args_size
abbrev pub with_number : List ℕ
with_number = 0x06 ∷ 0x07 ∷ 0x08 ∷ 0x0d ∷ 0x0e ∷ 0x13 ∷ 0x2e ∷ []

-- with two: offset_extended, register, def_cfa, offset_extended_sf, def_cfa_sf, val_offset, val_offset_sf; and GNU_negative_offset_extended
abbrev pub with_two_numbers : List ℕ
with_two_numbers = 0x05 ∷ 0x09 ∷ 0x0c ∷ 0x11 ∷ 0x12 ∷ 0x14 ∷ 0x15 ∷ 0x2f ∷ []

-- with a LEB128 and a block: expression, val_expression. With a block alone: def_cfa_expression.
abbrev pub with_number_and_block : List ℕ
with_number_and_block = 0x10 ∷ 0x16 ∷ []

abbrev pub behind_numbers_of : ℕ → List ℕ → Option (List ℕ)
behind_numbers_of code bytes =
    cond (is_among with_number code) (behind_number bytes)
    (cond (is_among with_two_numbers code) (behind_two_numbers bytes)
    (cond (code == 0x0f) (behind_block bytes)
    (cond (is_among with_number_and_block code) (option_and_then behind_block (behind_number bytes)) None)))

-- with 1, 2 or 4 bytes: advance_loc1, advance_loc2, advance_loc4. What isn't listed here isn't read, set_loc among it: None.
abbrev pub behind_operands : ℕ → List ℕ → Option (List ℕ)
behind_operands code bytes =
    cond (is_among plain code) (Some bytes)
    (cond (code == 0x02) (behind 1 bytes)
    (cond (code == 0x03) (behind 2 bytes)
    (cond (code == 0x04) (behind 4 bytes) (behind_numbers_of code bytes))))

abbrev pub behind_instruction : List ℕ → Option (List ℕ)
behind_instruction [] = None
behind_instruction (code ∷ bytes) =
    cond (nat_lt code 0x40) (behind_operands code bytes)
    (cond (nat_lt code 0x80) (Some bytes)
    (cond (nat_lt code 0xc0) (behind_number bytes) (Some bytes)))

-- bytes are whole instructions, one behind the other; n is more than there can be
unfoldable pub are_instructions_by : ℕ → List ℕ → Bool
are_instructions_by zero bytes = false
are_instructions_by (suc n) [] = true
are_instructions_by (suc n) (b ∷ bytes) = option_map_or (λ rest. are_instructions_by n rest) (behind_instruction (b ∷ bytes)) false

abbrev pub are_instructions : List ℕ → Bool
are_instructions bytes = are_instructions_by (1 + length bytes) bytes

-- Addresses. Their encoding is a byte, whose four low bits tell how many bytes an address has (LSB Core 10.5, "DWARF Extensions"): as many
-- as one of the processor's, 2, 4 or 8. An address that is a LEB128 isn't read: None.
abbrev pub width_of_bits : ℕ → Option ℕ
width_of_bits bits =
    cond (is_among (2 ∷ 10 ∷ []) bits) (Some 2)
    (cond (is_among (3 ∷ 11 ∷ []) bits) (Some 4) (cond (is_among (0 ∷ 4 ∷ 12 ∷ []) bits) (Some 8) None))

abbrev pub width_of : ℕ → Option ℕ
width_of encoding = width_of_bits (encoding % 16)

-- what is behind an encoding at the front of bytes and an address that follows it
abbrev pub behind_address : List ℕ → Option (List ℕ)
behind_address [] = None
behind_address (encoding ∷ bytes) = option_and_then (λ w. behind w bytes) (width_of encoding)

-- The fields of a common part: a version, 1 or 3; the augmentation, a text; two LEB128, the alignments of code and of data; the register of
-- return addresses, a byte in version 1 and else a LEB128; and, where there is an augmentation, a block, the augmentation's data.
abbrev pub behind_register : ℕ → List ℕ → Option (List ℕ)
behind_register version bytes = cond (version == 1) (behind 1 bytes) (behind_number bytes)

abbrev pub behind_head : List ℕ → Option (List ℕ)
behind_head [] = None
behind_head (version ∷ bytes) =
    cond (is_among (1 ∷ 3 ∷ []) version)
    (option_and_then (behind_register version) (option_and_then behind_two_numbers (behind_text bytes))) None

abbrev pub text_at_front : List ℕ → List ℕ
text_at_front bytes = take (prefix_len is_letter bytes) bytes

abbrev pub augmentation_of : List ℕ → List ℕ
augmentation_of fields = text_at_front (drop 1 fields)

-- The augmentation is empty, or a z and then letters (LSB Core 10.6.1.1.1, "Augmentation String Format"; S and B are GNU's). Each takes
-- something off the front of the data, in order: R the encoding of the addresses of functions, L that of pointers to data of the language,
-- P an encoding and a pointer to a routine; S and B nothing. Another letter isn't known: None.
abbrev pub behind_letter : ℕ → List ℕ → Option (List ℕ)
behind_letter letter bytes =
    cond (is_among (codes "RL") letter) (behind 1 bytes)
    (cond (is_among (codes "P") letter) (behind_address bytes) (cond (is_among (codes "SB") letter) (Some bytes) None))

-- the encoding of the addresses of functions that is known behind a letter, given the data and the encoding that was known before
abbrev pub encoding_behind : ℕ → List ℕ → ℕ → Option ℕ
encoding_behind letter bytes e = cond (is_among (codes "R") letter) (slice_get bytes 0) (Some e)

-- and behind all letters that follow the z
unfoldable pub encoding_by : List ℕ → List ℕ → ℕ → Option ℕ
encoding_by [] bytes e = Some e
encoding_by (letter ∷ letters) bytes e =
    option_and_then (λ f. option_and_then (λ rest. encoding_by letters rest f) (behind_letter letter bytes)) (encoding_behind letter bytes e)

-- given the augmentation and what is behind the register; where no letter tells it, it is that of an address of the processor
abbrev pub encoding_in : List ℕ → List ℕ → Option ℕ
encoding_in [] bytes = Some 0
encoding_in (z ∷ letters) bytes =
    cond (is_among (codes "z") z) (option_and_then (λ data_. encoding_by letters data_ 0) (in_block bytes)) None

-- given the fields of the common part; None where they aren't read
abbrev pub address_encoding : List ℕ → Option ℕ
address_encoding fields = option_and_then (λ bytes. encoding_in (augmentation_of fields) bytes) (behind_head fields)

abbrev pub address_width : List ℕ → Option ℕ
address_width fields = option_and_then width_of (address_encoding fields)

-- The instructions of a record, which are all behind its fields. Where there is an augmentation, a block of its data ends the fields.
abbrev pub behind_data : List ℕ → List ℕ → Option (List ℕ)
behind_data [] bytes = Some bytes
behind_data (z ∷ letters) bytes = behind_block bytes

-- in a common part, given what is behind its number; where its addresses have a width, and so all letters are known
abbrev pub code_of_common : List ℕ → Option (List ℕ)
code_of_common fields =
    option_and_then
    (λ w. option_and_then (λ bytes. behind_data (augmentation_of fields) bytes) (behind_head fields)) (address_width fields)

abbrev pub behind_addresses : ℕ → List ℕ → Option (List ℕ)
behind_addresses w bytes = option_and_then (behind w) (behind w bytes)

-- in the record of a function, where two addresses come first, given what is behind the number of its common part, and of its own
abbrev pub code_of_function : List ℕ → List ℕ → Option (List ℕ)
code_of_function common fields =
    option_and_then
    (λ w. option_and_then (λ bytes. behind_data (augmentation_of common) bytes) (behind_addresses w fields)) (address_width common)

-- What is behind the number of a function's common part, as far as 256 bytes: no compiler writes longer ones, and each function's record
-- has them read. The common part begins so many bytes before the function's own number as this says.
abbrev pub common_fields : List ℕ → FrameRecord → Option (List ℕ)
common_fields bytes r = cond (nat_le r.id (r.offset + 4)) (behind 8 (part bytes (r.offset + 4 - r.id) 264)) None

abbrev pub code_of : List ℕ → FrameRecord → List ℕ → Option (List ℕ)
code_of bytes r fields =
    cond (r.id == 0) (code_of_common fields)
    (option_and_then (λ common. code_of_function common fields) (common_fields bytes r))

-- Functions. The first field of a function's record is its address, and the second its size, as wide. An encoding says by its four low bits
-- how a number is spelled, and by its four high bits whether an address is the number, or is counted from its own place; addresses are
-- taken modulo 2^64. One of 2 bytes, and any other high bits, aren't read: None.

-- a number of 4 bytes that has a sign
abbrev pub signed_32 : ℕ → ℕ
signed_32 n = cond (nat_lt n (2 ^ 31)) n (n + (2 ^ 64 - 2 ^ 32))

-- the number at the front of fields, by the low bits
abbrev pub front_number : ℕ → List ℕ → Option ℕ
front_number n fields = cond (nat_le n (length fields)) (Some (le_at n fields 0)) None

abbrev pub number_by : ℕ → List ℕ → Option ℕ
number_by bits fields =
    cond (is_among (0 ∷ 4 ∷ 12 ∷ []) bits) (front_number 8 fields)
    (cond (bits == 3) (front_number 4 fields) (cond (bits == 11) (option_map signed_32 (front_number 4 fields)) None))

-- what it is counted from, by the high bits, where the fields begin at a place
abbrev pub base_by : ℕ → ℕ → Option ℕ
base_by bits place = cond (bits == 0) (Some 0) (cond (bits == 1) (Some place) None)

abbrev pub address_by : ℕ → List ℕ → ℕ → Option ℕ
address_by encoding fields place =
    option_and_then (λ base. option_map (λ n. (base + n) % 2 ^ 64) (number_by (encoding % 16) fields)) (base_by (encoding / 16) place)

-- what is behind the number of a record; the encoding of the address in that of a function
abbrev pub fields_of : List ℕ → FrameRecord → List ℕ
fields_of bytes r = part bytes (r.offset + 8) (r.size - 8)

abbrev pub encoding_of : List ℕ → FrameRecord → Option ℕ
encoding_of bytes r = option_and_then address_encoding (common_fields bytes r)

-- the address of its function, where the bytes of the list begin at an address
unfoldable pub function_at : List ℕ → ℕ → FrameRecord → Option ℕ
function_at bytes start r =
    option_and_then (λ e. address_by e (fields_of bytes r) (start + (r.offset + 8))) (encoding_of bytes r)

-- bytes are zeros
abbrev pub are_nops : List ℕ → Bool
are_nops bytes = list_all (λ b. b == 0) bytes

-- the function has bytes: its size isn't 0
abbrev pub is_size : List ℕ → ℕ → Bool
is_size fields w = not (are_nops (part fields w w))

unfoldable pub has_size : List ℕ → FrameRecord → Bool
has_size bytes r = option_map_or (is_size (fields_of bytes r)) (option_and_then width_of (encoding_of bytes r)) false

-- Cuts.

-- the fields of a record of which so many bytes are left, and whole instructions behind them
abbrev pub ends_whole : List ℕ → FrameRecord → ℕ → Bool
ends_whole bytes r size = option_map_or are_instructions (code_of bytes r (part bytes (r.offset + 8) (size - 8))) false

-- a record lies in the bytes of its section, and so many of its bytes are a part of it, with its length and its number
abbrev pub is_part : List ℕ → FrameRecord → ℕ → Bool
is_part bytes r size = nat_le 8 size && (nat_le size r.size && nat_le (r.offset + r.size) (length bytes))

-- so many bytes of a record are left, and what is left out behind them are instructions that do nothing
unfoldable pub is_cut_at : List ℕ → FrameRecord → ℕ → Bool
is_cut_at bytes r size =
    is_part bytes r size && (are_nops (part bytes (r.offset + size) (r.size - size)) && ends_whole bytes r size)
