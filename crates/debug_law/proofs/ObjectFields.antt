-- What is read from a file's bytes fits the fields that it was read from, and its names have no NUL.
use Rattle.std.proofs.Common.{◌≡◌, ℕ, ◌+◌, ◌*◌, ◌/◌, ◌^◌, ◌<◌, ◌≤◌, zero, suc, List, [], ◌∷◌, arith, drop, length, refl, subst, sym, take}
use Rattle.std.specs.Prelude.{All, Bool, None, Option, Some, cond, false, not, option_map, slice_index, true, unwrap_or}
use Rattle.std.specs.List.{position_or_len, range_with_len, slice_get}
use Rattle.std.proofs.Math.Nat.{pow-le-pow_right}
use Rattle.std.proofs.lemmas.List.{length-take}
use Rattle.std.proofs.lemmas.List.Elements.{All-cons, All-drop, All-head, All-map, All-nil, All-tail, All-take}
use Rattle.byteview.specs.Numbers.{is_nul, le_at, part, text}
use Rattle.byteview.proofs.NumberLaws.{le-below}
use Rattle.elf_model.specs.Image.MapText.{AreBytes}
use Rattle.elf_model.specs.Inputs.ObjectFile.{name_of_section, name_of_symbol, section_name, section_strings, sections, symbol_name, symbol_strings, symbol_table, symbols}
use Rattle.elf_model.specs.Inputs.Records.{FitsSymbol, symbol}
use Rattle.elf_model.specs.declared.records.SectionHeader.{SectionHeader}
use Rattle.elf_model.specs.declared.records.Symbol as entry
use Rattle.elf_model.proofs.Listed.{All-from_contains}

-- a name has no NUL
abbrev pub IsText : List ℕ → Type 0
IsText name = All (λ b. is_nul b ≡ false) name

-- what is read up to a NUL has none
text_of : (bytes : List ℕ) → IsText (take (position_or_len is_nul bytes) bytes)
text_of [] = All-nil (λ b. is_nul b ≡ false)
text_of (b ∷ bytes) = by (is_nul b) refl (text_of bytes)
  where
    by : (t : Bool) → is_nul b ≡ t → IsText (take (position_or_len is_nul bytes) bytes) → IsText (take (cond (not t) (1 + position_or_len is_nul bytes) 0) (b ∷ bytes))
    by true e rest = All-nil (λ b. is_nul b ≡ false)
    by false e rest =
        let more : 1 + position_or_len is_nul bytes ≡ suc (position_or_len is_nul bytes) = omega arith in
        subst (λ (n : ℕ). IsText (take n (b ∷ bytes))) (sym more) (All-cons (λ b. is_nul b ≡ false) b (take (position_or_len is_nul bytes) bytes) e rest)

pub text_is : (bytes : List ℕ) (at : ℕ) → IsText (text bytes at)
text_is bytes at = text_of (drop at bytes)

pub no_text : IsText []
no_text = All-nil (λ b. is_nul b ≡ false)

-- so are the names of sections and of symbols
section_text : (bytes : List ℕ) (o : Option SectionHeader) → IsText (unwrap_or (option_map (name_of_section bytes) o) [])
section_text bytes None = no_text
section_text bytes (Some h) = text_is (section_strings bytes) h.sh_name

pub section_named : (bytes : List ℕ) (i : ℕ) → IsText (unwrap_or (section_name bytes i) [])
section_named bytes i = section_text bytes (slice_get (sections bytes) i)

symbol_text : (bytes : List ℕ) (o : Option entry.Symbol) → IsText (unwrap_or (option_map (name_of_symbol bytes) o) [])
symbol_text bytes None = no_text
symbol_text bytes (Some s) = text_is (symbol_strings bytes) s.st_name

pub symbol_named : (bytes : List ℕ) (j : ℕ) → IsText (unwrap_or (symbol_name bytes j) [])
symbol_named bytes j = symbol_text bytes (slice_get (symbols bytes) j)

-- a number of n bytes is below 256 ^ n
at_index : (bytes : List ℕ) → AreBytes bytes → (k : ℕ) → slice_index bytes k < 256
at_index [] are k = omega arith
at_index (b ∷ bytes) are zero = All-head (λ b. b < 256) b bytes are
at_index (b ∷ bytes) are (suc k) = at_index bytes (All-tail (λ b. b < 256) b bytes are) k

part_bytes : (n at : ℕ) (bytes : List ℕ) → AreBytes bytes → AreBytes (take n (drop at bytes))
part_bytes n at bytes are = All-take (λ b. b < 256) n (drop at bytes) (All-drop (λ b. b < 256) at bytes are)

number_below : (n at : ℕ) (bytes : List ℕ) → AreBytes bytes → le_at n bytes at < 256 ^ n
number_below n at bytes are =
    let run : List ℕ = take n (drop at bytes) in
    let small = le-below run (at_index run (part_bytes n at bytes are)) in
    let cut = length-take n (drop at bytes) in
    let short : length run ≤ n = omega (arith, cut) in
    let most : 256 ^ length run ≤ 256 ^ n = pow-le-pow_right (omega arith) short in
    omega (arith, small, most)

-- the fields of a symbol
symbol_fits : (bytes : List ℕ) → AreBytes bytes → FitsSymbol (symbol bytes)
symbol_fits bytes are =
    let name = number_below 4 0 bytes are in
    let info = number_below 1 4 bytes are in
    let other = number_below 1 5 bytes are in
    let index = number_below 2 6 bytes are in
    let value = number_below 8 8 bytes are in
    let size = number_below 8 16 bytes are in
    record {
      st_name = omega (arith, name);
      st_info = omega (arith, info);
      st_other = omega (arith, other);
      st_shndx = omega (arith, index);
      st_value = omega (arith, value);
      st_size = omega (arith, size);
    }

pub symbols_fit : (bytes : List ℕ) → AreBytes bytes → All FitsSymbol (symbols bytes)
symbols_fit bytes are =
    let table = symbol_table (sections bytes) in
    let from = table.sh_offset in
    All-map FitsSymbol (λ i. symbol (part bytes (from + 24 * i) 24)) (range_with_len 0 (table.sh_size / 24))
    (All-from_contains (λ i. FitsSymbol (symbol (part bytes (from + 24 * i) 24))) (range_with_len 0 (table.sh_size / 24))
    (λ i _. symbol_fits (part bytes (from + 24 * i) 24) (part_bytes 24 (from + 24 * i) bytes are)))
