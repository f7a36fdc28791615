-- A text of a part of bytes is a text of the bytes.
use Rattle.std.proofs.Common.{Bool, true, false, Option, None, Some, Bor, IfSome, SomeIff, cond, option_copied, ◌≡◌, ℕ, ◌+◌, ◌<◌, ◌≤◌, List, ◌++◌, length, drop, take, ap, ◌∙◌, sym, subst, arith, length-append, length-drop}
use Rattle.std.specs.List.{position_or_len, slice_get}
use Rattle.std.proofs.lemmas.List.{drop-append-le, drop-drop, get_or_append_left, take-append-drop, take-append-le}
use Rattle.std.proofs.lemmas.List.Sums.{fails_before_first, passes_at_first, position_or_len_is}
use Rattle.std.specs.Option.{option_and_then}
use Rattle.byteview.specs.Numbers.{HasText, is_nul, part, text}
use Rattle.elf_model.specs.Inputs.ObjectFile.{bytes_in_file, contents, has_no_bytes, section_bytes, sections}
use Rattle.elf_model.specs.declared.records.SectionHeader.{SectionHeader}
use Rattle.line_tables.specs.Texts.{IsTextOf}

-- the first NUL of bytes is the first one with more bytes behind them
same_nul : (xs ys : List ℕ) → position_or_len is_nul xs < length xs → position_or_len is_nul (xs ++ ys) ≡ position_or_len is_nul xs
same_nul xs ys has =
    let i : ℕ = position_or_len is_nul xs in
    position_or_len_is is_nul (xs ++ ys) i 0
    (omega (arith, length-append xs ys))
    (λ k below. ap is_nul (get_or_append_left xs ys 0 k (omega arith)) ∙ fails_before_first is_nul xs k 0 below)
    (λ _. ap is_nul (get_or_append_left xs ys 0 i has) ∙ passes_at_first is_nul xs 0 has)

-- a text that begins bytes begins them with more bytes behind
begun : (all xs ys : List ℕ) → xs ++ ys ≡ all → position_or_len is_nul xs < length xs
    → (position_or_len is_nul all < length all) × (take (position_or_len is_nul xs) xs ≡ take (position_or_len is_nul all) all)
begun all xs ys is has =
    let e : position_or_len is_nul all ≡ position_or_len is_nul xs = ap (position_or_len is_nul) (sym is) ∙ same_nul xs ys has in
    let longer : length all ≡ length xs + length ys = ap length (sym is) ∙ length-append xs ys in
    let front : take (position_or_len is_nul xs) all ≡ take (position_or_len is_nul xs) xs =
    ap (λ l. take (position_or_len is_nul xs) l) (sym is) ∙ take-append-le (position_or_len is_nul xs) xs ys (omega arith) in
    (omega arith, sym front ∙ ap (λ k. take k all) (sym e))

text_of_part : (bytes : List ℕ) (offset len at : ℕ) → HasText (part bytes offset len) at
    → IsTextOf bytes (text (part bytes offset len) at)
text_of_part bytes offset len at has =
    let rest : List ℕ = drop offset bytes in
    let a : List ℕ = take len rest in
    let b : List ℕ = drop len rest in
    let inside : at ≤ length a = omega (arith, length-drop at a) in
    let is : drop at a ++ b ≡ drop (offset + at) bytes =
    sym (drop-append-le at a b inside) ∙ ap (drop at) (take-append-drop len rest) ∙ drop-drop at offset bytes in
    let both = begun (drop (offset + at) bytes) (drop at a) b is has in
    record { at = offset + at; has = both.0; is = both.1 }

-- so is a text of a section
text_of_section : (bytes : List ℕ) (o : Option SectionHeader) (found : List ℕ) (at : ℕ)
    → Some found ≡ option_and_then (bytes_in_file bytes) o → HasText found at → IsTextOf bytes (text found at)
text_of_section bytes None found at is has = cc
text_of_section bytes (Some s) found at is has = by (has_no_bytes s) is
  where
    by : (b : Bool) → Some found ≡ cond b None (Some (contents bytes s)) → IsTextOf bytes (text found at)
    by true e = cc
    by false e =
        let same : contents bytes s ≡ found = cc in
        subst (λ (f : List ℕ). HasText f at → IsTextOf bytes (text f at)) same (text_of_part bytes s.sh_offset s.sh_size at) has

pub told : (bytes : List ℕ) (i : ℕ) (found view : List ℕ) (at : ℕ) (r : Option (Bor (List ℕ)))
    → Some found ≡ section_bytes bytes i → view ≡ found
    → SomeIff (option_copied r) (HasText view at) (text view at) → IfSome r (λ t. IsTextOf bytes t.now)
told bytes i found view at None is same read = tt
told bytes i found view at (Some t) is same read =
    subst (IsTextOf bytes) (sym read.1) (text_of_section bytes (slice_get (sections bytes) i) view at (ap (λ (f : List ℕ). Some f) same ∙ is) read.0)
