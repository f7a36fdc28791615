-- The end of the last file part, from one program header to the next, and the plain image that is made of it.
use Rattle.std.proofs.Common.{◌≡◌, ◌≤◌, ◌<◌, ◌+◌, ◌-◌, ◌++◌, ◌∷◌, ◌∙◌, suc, ℕ, Bool, true, false, ◌&&◌, cond, List, [], ap, arith, drop, length, map, refl, sym, take}
use Rattle.std.specs.Prelude.{max, min, nat_le, nat_lt}
use Rattle.std.specs.List.{range_with_len}
use Rattle.std.proofs.lemmas.Bool.{le-leb}
use Rattle.std.proofs.lemmas.List.{drop_all, length-take, take_min}
use Rattle.elf_model.specs.Image.MemoryImage.{file_end, headers_size, is_load, loads, loads_in}
use Rattle.elf_model.specs.Inputs.Records.{file_header, file_header_bytes}
use Rattle.elf_model.specs.declared.records.FileHeader.{FileHeader}
use Rattle.elf_model.specs.declared.records.ProgramHeader.{ProgramHeader}
use Rattle.debug_image.specs.PlainImages.{cleared, end_with, plain_of}

-- one more program header
more_by :
    (b c : Bool) (s f len end : ℕ) →
    max (cond (b && c) (max end (min len s)) end) (min len f) ≡ max end (min len (cond b (cond c (max s f) f) f))
more_by true true s f len end = omega arith
more_by true false s f len end = refl
more_by false c s f len end = refl

pulled :
    (b : Bool) (h : ProgramHeader) (hs : List ProgramHeader) →
    file_end (cond b (h ∷ hs) hs) ≡ cond b (cond (nat_lt 0 h.p_filesz) (max (h.p_offset + h.p_filesz) (file_end hs)) (file_end hs)) (file_end hs)
pulled true h hs = refl
pulled false h hs = refl

pub end_more :
    (h : ProgramHeader) (hs : List ProgramHeader) (len end : ℕ) →
    max (end_with h len end) (min len (file_end (loads_in hs))) ≡ max end (min len (file_end (loads_in (h ∷ hs))))
end_more h hs len end =
    more_by (is_load h) (nat_lt 0 h.p_filesz) (h.p_offset + h.p_filesz) (file_end (loads_in hs)) len end
    ∙ ap (λ (n : ℕ). max end (min len n)) (sym (pulled (is_load h) h (loads_in hs)))

low_by : (b : Bool) (s len end : ℕ) → end ≤ len → cond b (max end (min len s)) end ≤ len
low_by true s len end low = omega (arith, low)
low_by false s len end low = low

pub end_low : (h : ProgramHeader) (len end : ℕ) → end ≤ len → end_with h len end ≤ len
end_low h len end low = low_by (is_load h && nat_lt 0 h.p_filesz) (h.p_offset + h.p_filesz) len end low

-- the program headers from number k on
pub headers_left :
    (at : ℕ → ProgramHeader) (count k : ℕ) → k < count →
    map at (range_with_len k (count - k)) ≡ at k ∷ map at (range_with_len (k + 1) (count - (k + 1)))
headers_left at count k within =
    let n : count - k ≡ suc (count - (k + 1)) = omega (arith, within) in
    ap (λ (m : ℕ). map at (range_with_len k m)) n

-- nothing stands between the first 64 bytes and an end in front of that
pub nothing_between : (xs : List ℕ) (end : ℕ) → end < 64 → drop 64 (take end xs) ≡ []
nothing_between xs end short =
    let n = length-take end xs in drop_all 64 (take end xs) (omega (arith, n, short))

take_least : (xs : List ℕ) (n : ℕ) → take (min (length xs) n) xs ≡ take n xs
take_least xs n =
    let swapped : min (length xs) n ≡ min n (length xs) = omega arith in ap (λ (k : ℕ). take k xs) swapped ∙ take_min n xs

pub plain_made :
    (image : List ℕ) (header plain : FileHeader) (end : ℕ) (rest file : List ℕ) → header ≡ file_header image → plain ≡ cleared header →
    headers_size image ≤ length image → end ≡ min (length image) (file_end (loads image)) → rest ≡ drop 64 (take end image) →
    file ≡ file_header_bytes plain ++ rest → file ≡ plain_of image
plain_made image header plain end rest file is_header is_plain whole is_end is_rest is_file =
    let there : nat_le (headers_size image) (length image) ≡ true = le-leb (headers_size image) (length image) whole in
    is_file
    ∙ (ap (λ (h : FileHeader). file_header_bytes h ++ rest) (is_plain ∙ ap cleared is_header)
    ∙ (ap (λ (xs : List ℕ). file_header_bytes (cleared (file_header image)) ++ xs)
    (is_rest ∙ (ap (λ (n : ℕ). drop 64 (take n image)) is_end ∙ ap (drop 64) (take_least image (file_end (loads image)))))
    ∙ ap (λ (b : Bool). cond b (file_header_bytes (cleared (file_header image)) ++ drop 64 (take (file_end (loads image)) image)) image) (sym there)))
