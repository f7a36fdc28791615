-- What agrees at a header is read alike there.
use Rattle.std.proofs.Common.{◌≡◌, ℕ, zero, suc, ◌+◌, ◌%◌, ◌≤◌, Bool, true, false, cond, List, [], ◌∷◌, length, take, drop, refl, sym, ◌∙◌, ap, arith}
use Rattle.std.specs.Prelude.{All, codes, nat_le, nat_lt, ◌&&◌}
use Rattle.std.specs.Str.{bytes_eq}
use Rattle.std.proofs.lemmas.List.{drop-drop, drop-take}
use Rattle.std.proofs.lemmas.List.Elements.{All-head, All-tail}
use Rattle.byteview.specs.Numbers.{part}
use Rattle.elf_model.specs.Inputs.ArchiveFile.{end_at, header_offsets_from, is_number, is_readable, next_header, number, size_at}
use Rattle.unread_law.specs.Unread.{AgreeAt}

take_short : (n k : ℕ) (xs : List ℕ) → n ≤ k → take n (take k xs) ≡ take n xs
take_short zero k xs below = refl
take_short (suc n) zero xs below = absurd (omega (arith, below))
take_short (suc n) (suc k) [] below = refl
take_short (suc n) (suc k) (x ∷ xs) below = ap (λ (ys : List ℕ). x ∷ ys) (take_short n k xs (omega (arith, below)))

shorter : (n k : ℕ) (xs ys : List ℕ) → n ≤ k → take k xs ≡ take k ys → take n xs ≡ take n ys
shorter n k xs ys below same = sym (take_short n k xs below) ∙ ap (take n) same ∙ take_short n k ys below

module _ (a b : List ℕ) (at : ℕ) where
  -- a part of equal parts
  inner : (j k : ℕ) → j + k ≤ 60 → part a at 60 ≡ part b at 60 → part a (at + j) k ≡ part b (at + j) k
  inner j k within same =
      sym (ap (take k) (drop-drop j at a))
      ∙ sym (drop-take j k (drop at a))
      ∙ ap (drop j) (shorter (j + k) 60 (drop at a) (drop at b) within same)
      ∙ drop-take j k (drop at b)
      ∙ ap (take k) (drop-drop j at b)

  pub name_same : part a at 60 ≡ part b at 60 → part a at 16 ≡ part b at 16
  name_same same = shorter 16 60 (drop at a) (drop at b) (omega arith) same

  pub size_field_same : part a at 60 ≡ part b at 60 → part a (at + 48) 10 ≡ part b (at + 48) 10
  size_field_same same = inner 48 10 (omega arith) same

  pub fmag_same : part a at 60 ≡ part b at 60 → part a (at + 58) 2 ≡ part b (at + 58) 2
  fmag_same same = inner 58 2 (omega arith) same

  pub size_same : part a at 60 ≡ part b at 60 → size_at a at ≡ size_at b at
  size_same same = ap number (size_field_same same)

  pub end_same : part a at 60 ≡ part b at 60 → end_at a at ≡ end_at b at
  end_same same = ap (λ (n : ℕ). at + 60 + n) (size_same same)

  pub next_same : part a at 60 ≡ part b at 60 → next_header a at ≡ next_header b at
  next_same same = ap (λ (n : ℕ). at + 60 + n + n % 2) (size_same same)

  pub readable_same : length a ≡ length b → part a at 60 ≡ part b at 60 → is_readable a at ≡ is_readable b at
  readable_same long same =
      (λ i. (nat_le (at + 60) (long i) && bytes_eq (fmag_same same i) (codes "`\n")) && is_number (size_field_same same i))

-- what is behind a header, where another walk finds the same behind it
rest_same :
    (a b : List ℕ) (n at : ℕ) → length a ≡ length b → AgreeAt a b at
    → (All (AgreeAt a b) (header_offsets_from n a (next_header a at)) → header_offsets_from n a (next_header a at) ≡ header_offsets_from n b (next_header a at))
    → (r : Bool) → is_readable a at ≡ r → All (AgreeAt a b) (cond r (header_offsets_from n a (next_header a at)) [])
    → cond r (header_offsets_from n a (next_header a at)) [] ≡ cond (is_readable b at) (header_offsets_from n b (next_header b at)) []
rest_same a b n at long here again true readable all =
    again all
    ∙ ap (λ (next : ℕ). header_offsets_from n b next) (next_same a b at here.header)
    ∙ ap (λ (c : Bool). cond c (header_offsets_from n b (next_header b at)) []) (sym readable ∙ readable_same a b at long here.header)
rest_same a b n at long here again false unreadable all =
    ap (λ (c : Bool). cond c (header_offsets_from n b (next_header b at)) []) (sym unreadable ∙ readable_same a b at long here.header)

-- the headers from one on: none past the end
walk_by :
    (a b : List ℕ) (n at : ℕ) → length a ≡ length b
    → (All (AgreeAt a b) (header_offsets_from n a (next_header a at)) → header_offsets_from n a (next_header a at) ≡ header_offsets_from n b (next_header a at))
    → (c : Bool) → nat_lt at (length a) ≡ c
    → All (AgreeAt a b) (cond c (at ∷ cond (is_readable a at) (header_offsets_from n a (next_header a at)) []) [])
    → cond c (at ∷ cond (is_readable a at) (header_offsets_from n a (next_header a at)) []) [] ≡ header_offsets_from (suc n) b at
walk_by a b n at long again true inside agree =
    let rest = cond (is_readable a at) (header_offsets_from n a (next_header a at)) [] in
    let other = cond (is_readable b at) (header_offsets_from n b (next_header b at)) [] in
    ap (λ (ks : List ℕ). at ∷ ks)
    (rest_same a b n at long (All-head (AgreeAt a b) at rest agree) again (is_readable a at) refl (All-tail (AgreeAt a b) at rest agree))
    ∙ ap (λ (c : Bool). cond c (at ∷ other) []) (sym inside ∙ ap (nat_lt at) long)
walk_by a b n at long again false past agree =
    ap (λ (c : Bool). cond c (at ∷ cond (is_readable b at) (header_offsets_from n b (next_header b at)) []) []) (sym past ∙ ap (nat_lt at) long)

-- the walk finds the same headers
pub walk_same :
    (a b : List ℕ) → length a ≡ length b → (n at : ℕ) → All (AgreeAt a b) (header_offsets_from n a at)
    → header_offsets_from n a at ≡ header_offsets_from n b at
walk_same a b long zero at agree = refl
walk_same a b long (suc n) at agree =
    walk_by a b n at long (λ all. walk_same a b long n (next_header a at) all) (nat_lt at (length a)) refl agree
