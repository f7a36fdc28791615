-- The file of members that were read in part: its headers, its members and its length.
use Rattle.std.proofs.Common.{◌≡◌, ℕ, zero, suc, ◌+◌, ◌%◌, ◌<◌, ◌≤◌, List, [], ◌∷◌, ◌++◌, append_assoc, length, map, take, drop, get_or, refl, sym, ◌∙◌, ap, arith}
use Rattle.std.specs.Prelude.{All, codes}
use Rattle.std.specs.List.{AllZip, concat}
use Rattle.std.proofs.lemmas.List.{drop-drop, drop_all, length-append, length-drop, length-take-le, take-append-drop}
use Rattle.std.proofs.lemmas.List.Elements.{All-head, All-tail}
use Rattle.byteview.specs.Numbers.{part}
use Rattle.elf_model.specs.Inputs.ArchiveFile.{HasMagic, StoredMember, null_member}
use Rattle.archive_law.specs.ArchiveText.{IsMemberText, SpellsMembers, pad}
use Rattle.archive_law.proofs.Cut.{cut_at, length-pad}
use Rattle.archive_law.proofs.Walk.{spelled_is}
use Rattle.ar_index.specs.Parts.{IsPart, Part, part_bytes, part_data, part_size, part_text, stored_part, stored_parts}
use Rattle.ar_index.specs.Reading.{IsPassed}

-- the bytes from an offset on: the part there, and what is behind it
cut : (bytes : List ℕ) (at k next : ℕ) → next ≡ at + k → drop at bytes ≡ part bytes at k ++ drop next bytes
cut bytes at k next ends =
    sym (take-append-drop k (drop at bytes)) ∙ ap (λ (rest : List ℕ). part bytes at k ++ rest) (drop-drop k at bytes ∙ ap (λ (n : ℕ). drop n bytes) (sym ends))

-- the header in its parts
header_parts : (header : List ℕ) → length header ≡ 60 → header ≡ take 16 header ++ (part header 16 32 ++ (part header 48 10 ++ part header 58 2))
header_parts header long =
    let none : part header 58 2 ++ drop 60 header ≡ part header 58 2 =
    ap (λ (rest : List ℕ). part header 58 2 ++ rest) (drop_all 60 header (omega (arith, long))) ∙ append_none (part header 58 2) in
    cut header 0 16 16 refl
    ∙ ap (λ (rest : List ℕ). take 16 header ++ rest) (cut header 16 32 48 refl
    ∙ ap (λ (rest : List ℕ). part header 16 32 ++ rest) (cut header 48 10 58 refl
    ∙ ap (λ (rest : List ℕ). part header 48 10 ++ rest) (cut header 58 2 60 refl ∙ none)))
  where
    append_none : (xs : List ℕ) → xs ++ [] ≡ xs
    append_none [] = refl
    append_none (x ∷ xs) = ap (λ (ys : List ℕ). x ∷ ys) (append_none xs)

regrouped : (a b c d e f : List ℕ) → (a ++ (b ++ (c ++ d))) ++ (e ++ f) ≡ a ++ b ++ c ++ d ++ e ++ f
regrouped a b c d e f = simp append_assoc

-- a member's text is that of the archive's law
pub is_text : (at : ℕ) (p : Part) → IsPart p → IsMemberText (stored_part at p) (part_text p)
is_text at p is =
    let long = is.long in
    let rest = part_data p ++ pad (part_data p) in
    record {
      unread = part p.header 16 32;
      size = part p.header 48 10;
      spelled =
          ap (λ (h : List ℕ). h ++ rest) (header_parts p.header long)
          ∙ ap (λ (f : List ℕ). (take 16 p.header ++ (part p.header 16 32 ++ (part p.header 48 10 ++ f))) ++ rest) is.fmag
          ∙ regrouped (take 16 p.header) (part p.header 16 32) (part p.header 48 10) (codes "`\n") (part_data p) (pad (part_data p));
      name_length = length-take-le 16 p.header (omega (arith, long));
      unread_length = length-take-le 32 (drop 16 p.header) (let left = length-drop 16 p.header in omega (arith, left, long));
      size_length = length-take-le 10 (drop 48 p.header) (let left = length-drop 48 p.header in omega (arith, left, long));
      decimal = is.decimal;
      count = sym is.count;
    }

are_texts : (at : ℕ) (ps : List Part) → All IsPart ps → AllZip IsMemberText (stored_parts at ps) (map part_text ps)
are_texts at [] all = tt
are_texts at (p ∷ ps) all = (is_text at p (All-head IsPart p ps all), are_texts (at + length (part_text p)) ps (All-tail IsPart p ps all))

stand : (at : ℕ) (ps : List Part) (k : ℕ) → k < length (stored_parts at ps)
    → (get_or (stored_parts at ps) k null_member).offset ≡ at + length (concat (take k (map part_text ps)))
stand at [] k within = absurd (omega (arith, within))
stand at (p ∷ ps) zero within = omega arith
stand at (p ∷ ps) (suc k) within =
    stand (at + length (part_text p)) ps k (omega (arith, within))
    ∙ (let long = length-append (part_text p) (concat (take k (map part_text ps))) in omega (arith, long))

spells : (ps : List Part) → All IsPart ps → SpellsMembers (part_bytes ps) (stored_parts 8 ps)
unfolding part_bytes
spells ps all = record {
  texts = map part_text ps;
  spelled = refl;
  each = are_texts 8 ps all;
  offsets = λ k within. stand 8 ps k within ∙ sym (length-append (codes "!<arch>\n") (concat (take k (map part_text ps))));
}

pub parts_magic : (ps : List Part) → All IsPart ps → HasMagic (part_bytes ps)
parts_magic ps all = (spelled_is (part_bytes ps) (stored_parts 8 ps) (spells ps all)).0.magic

-- all headers of the file are passed, and its members are the ones
pub parts_passed : (ps : List Part) → All IsPart ps → IsPassed (part_bytes ps) (stored_parts 8 ps)
parts_passed ps all =
    let found = spelled_is (part_bytes ps) (stored_parts 8 ps) (spells ps all) in
    record {
      members = sym found.1;
      whole = found.0.whole;
      headers = found.0.headers;
      readable = λ k d within. (cut_at (part_bytes ps) _ (found.0.whole k d within) (found.0.headers k d within)).readable;
    }

-- how long a member's text is, and the file
pub text_length : (p : Part) → IsPart p → length (part_text p) ≡ 60 + part_size p + part_size p % 2
text_length p is =
    length-append p.header (part_data p ++ pad (part_data p))
    ∙ ap (λ (n : ℕ). length p.header + n) (length-append (part_data p) (pad (part_data p)) ∙ ap (λ (n : ℕ). length (part_data p) + n) (length-pad (part_data p)))
    ∙ (let a = is.long in let b = is.count in let c : length (part_data p) % 2 ≡ part_size p % 2 = ap (λ (n : ℕ). n % 2) b in omega (arith, a, b, c))

pub bytes_length : (ps : List Part) → length (part_bytes ps) ≡ 8 + length (concat (map part_text ps))
unfolding part_bytes
bytes_length ps = length-append (codes "!<arch>\n") (concat (map part_text ps))
