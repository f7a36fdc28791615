-- The data of a member of a file, at the place behind its header.
use Rattle.std.proofs.Common.{◌≡◌, ℕ, zero, suc, ◌+◌, ◌%◌, ◌<◌, ◌≤◌, ◌^◌, List, [], ◌∷◌, ◌++◌, append_assoc, append-nil, Option, Some, length, map, take, drop, drop-cons, get_or, refl, sym, ◌∙◌, ap, subst, arith}
use Rattle.std.specs.Prelude.{codes, slice_set}
use Rattle.std.specs.List.{AllZip, concat}
use Rattle.std.proofs.lemmas.List.{drop_at, length-append, length-take-le, map-append, take-append-drop, take_at, take_more}
use Rattle.byteview.specs.Numbers.{part}
use Rattle.archive_law.specs.ArchiveText.{pad}
use Rattle.ar_index.specs.Parts.{AreReadOf, Completes, IsPart, Part, part_bytes, part_data, part_size, part_text}
use Rattle.ar_index.proofs.PartLaws.{bytes_length, text_length}
use Rattle.file_io.specs.Placed.{ArePassed, AreToldPassed, place_of}

concat_append : (xs ys : List (List ℕ)) → concat (xs ++ ys) ≡ concat xs ++ concat ys
concat_append [] ys = refl
concat_append (x ∷ xs) ys = ap (λ (rest : List ℕ). x ++ rest) (concat_append xs ys) ∙ sym (append_assoc x (concat xs) (concat ys))

texts_append : (xs ys : List Part) → concat (map part_text (xs ++ ys)) ≡ concat (map part_text xs) ++ concat (map part_text ys)
texts_append xs ys = ap concat (map-append part_text xs ys) ∙ concat_append (map part_text xs) (map part_text ys)

-- a member of members that complete others
at_zip : (ps qs : List Part) (i : ℕ) (d e : Part) → AllZip Completes ps qs → i < length ps → Completes (get_or ps i d) (get_or qs i e) × (i < length qs)
at_zip [] qs i d e zip within = absurd (omega (arith, within))
at_zip (p ∷ ps) [] i d e zip within = absurd zip
at_zip (p ∷ ps) (q ∷ qs) zero d e zip within = (zip.0, omega arith)
at_zip (p ∷ ps) (q ∷ qs) (suc i) d e zip within =
    let rest = at_zip ps qs i d e zip.1 (omega (arith, within)) in
    let inside = rest.1 in
    (rest.0, omega (arith, inside))

set_zip : (ps qs : List Part) (i : ℕ) (p e : Part) → AllZip Completes ps qs → i < length ps → Completes p (get_or qs i e) → AllZip Completes (slice_set ps i p) qs
set_zip [] qs i p e zip within one = absurd (omega (arith, within))
set_zip (x ∷ xs) [] i p e zip within one = absurd zip
set_zip (x ∷ xs) (q ∷ qs) zero p e zip within one = (one, zip.1)
set_zip (x ∷ xs) (q ∷ qs) (suc i) p e zip within one = (zip.0, set_zip xs qs i p e zip.1 (omega (arith, within)) one)

module _ (qs : List Part) (i : ℕ) (d : Part) (within : i < length qs) where
  abbrev rest_of : List Part
  rest_of = drop (suc i) qs

  cut_there : qs ≡ take i qs ++ get_or qs i d ∷ rest_of
  cut_there = sym (take-append-drop i qs) ∙ ap (λ (rest : List Part). take i qs ++ rest) (drop-cons qs i d within)

  -- the file: what is before the member's data, these, and what is behind
  bytes_there : (q : Part) → q ≡ get_or qs i d
      → part_bytes qs ≡ ((codes "!<arch>\n" ++ concat (map part_text (take i qs))) ++ q.header) ++ (part_data q ++ (pad (part_data q) ++ concat (map part_text rest_of)))
  unfolding part_bytes
  bytes_there q is =
      let front = codes "!<arch>\n" ++ concat (map part_text (take i qs)) in
      let behind = concat (map part_text rest_of) in
      ap (λ (ps : List Part). codes "!<arch>\n" ++ concat (map part_text ps)) (cut_there ∙ ap (λ (x : Part). take i qs ++ x ∷ rest_of) (sym is))
      ∙ ap (λ (texts : List ℕ). codes "!<arch>\n" ++ texts) (texts_append (take i qs) (q ∷ rest_of))
      ∙ sym (append_assoc (codes "!<arch>\n") (concat (map part_text (take i qs))) (part_text q ++ behind))
      ∙ ap (λ (texts : List ℕ). front ++ texts) (append_assoc q.header (part_data q ++ pad (part_data q)) behind ∙ ap (λ (texts : List ℕ). q.header ++ texts) (append_assoc (part_data q) (pad (part_data q)) behind))
      ∙ sym (append_assoc front q.header (part_data q ++ (pad (part_data q) ++ behind)))

  pub data_there : (q : Part) → q ≡ get_or qs i d → IsPart q → part (part_bytes qs) (place_of qs i + 60) (part_size q) ≡ part_data q
  data_there q is good =
      let front = (codes "!<arch>\n" ++ concat (map part_text (take i qs))) ++ q.header in
      let header = good.long in
      let long : length front ≡ place_of qs i + 60 =
      length-append (codes "!<arch>\n" ++ concat (map part_text (take i qs))) q.header
      ∙ ap (λ (n : ℕ). n + length q.header) (length-append (codes "!<arch>\n") (concat (map part_text (take i qs))))
      ∙ omega (arith, header) in
      let behind = pad (part_data q) ++ concat (map part_text rest_of) in
      ap (λ (bs : List ℕ). part bs (place_of qs i + 60) (part_size q)) (bytes_there q is)
      ∙ ap (take (part_size q)) (drop_at front (part_data q ++ behind) (place_of qs i + 60) long)
      ∙ take_at (part_data q) behind (part_size q) good.count

  -- the next member's place, which is in the file too
  pub place_next : (q : Part) → q ≡ get_or qs i d → IsPart q → place_of qs (i + 1) ≡ place_of qs i + 60 + part_size q + part_size q % 2
  place_next q is good =
      let texts = ap (λ (ps : List Part). length (concat (map part_text ps))) (take_more qs i d within ∙ ap (λ (x : Part). take i qs ++ x ∷ []) (sym is)) in
      let both = ap (λ (xs : List ℕ). length xs) (texts_append (take i qs) (q ∷ [])) in
      let sum = length-append (concat (map part_text (take i qs))) (part_text q ++ []) in
      let own = ap (λ (xs : List ℕ). length xs) (append-nil (part_text q)) in
      let size = text_length q good in
      omega (arith, texts, both, sum, own, size)

pub place_inside : (qs : List Part) (i : ℕ) → place_of qs i ≤ length (part_bytes qs)
place_inside qs i =
    let whole = bytes_length qs in
    let texts = ap (λ (ps : List Part). length (concat (map part_text ps))) (take-append-drop i qs) in
    let both = ap (λ (xs : List ℕ). length xs) (texts_append (take i qs) (drop i qs)) in
    let sum = length-append (concat (map part_text (take i qs))) (concat (map part_text (drop i qs))) in
    omega (arith, whole, texts, both, sum)

pub none_passed : (told : Option (List ℕ)) (first : List Part) → AreToldPassed told first first 0 8
none_passed told first file is small read = record { read = read; place = refl }

module _ (told : Option (List ℕ)) (first ps : List Part) (i at : ℕ) (d : Part) (passed : AreToldPassed told first ps i at) (within : i < length ps) where
  -- a member is passed
  pub one_passed : (next : ℕ) → ((n : ℕ) → n ≡ at + 60 + part_size (get_or ps i d) + part_size (get_or ps i d) % 2 → n < 2 ^ 64 → next ≡ n)
      → AreToldPassed told first ps (i + 1) next
  one_passed next sum file is small read =
      let before = passed file is small read in
      let qs = before.read.members in
      let one = at_zip ps qs i d d before.read.each within in
      let q = get_or qs i d in
      let size : part_size (get_or ps i d) ≡ part_size q = ap (λ (h : List ℕ). part_size (record { header = h; content = (get_or ps i d).content })) one.0.header in
      let place = place_next qs i d one.1 q refl one.0.is_part in
      let inside = place_inside qs (i + 1) in
      let long = ap (λ (xs : List ℕ). length xs) before.read.spelled in
      let at_is = before.place in
      let n = at + 60 + part_size (get_or ps i d) + part_size (get_or ps i d) % 2 in
      let n_is : n ≡ place_of qs (i + 1) =
      (λ j. at_is j + 60 + size j + size j % 2) ∙ sym place in
      record { read = before.read; place = sum n refl (omega (arith, n_is, inside, long, small)) ∙ n_is }

  -- a member's data are filled in
  pub one_filled : (content : List ℕ) → ((file : List ℕ) → told ≡ Some file → (n : ℕ) → n ≡ at + 60 → n < 2 ^ 64 → content ≡ part file n (part_size (get_or ps i d)))
      → AreToldPassed told first (slice_set ps i (record { header = (get_or ps i d).header; content = Some content })) i at
  one_filled content here file is small read =
      let before = passed file is small read in
      let qs = before.read.members in
      let one = at_zip ps qs i d d before.read.each within in
      let q = get_or qs i d in
      let size : part_size (get_or ps i d) ≡ part_size q = ap (λ (h : List ℕ). part_size (record { header = h; content = (get_or ps i d).content })) one.0.header in
      let place = place_next qs i d one.1 q refl one.0.is_part in
      let inside = place_inside qs (i + 1) in
      let long = ap (λ (xs : List ℕ). length xs) before.read.spelled in
      let at_is = before.place in
      let same : content ≡ part_data q =
      here file is (at + 60) refl (omega (arith, at_is, place, inside, long, small))
      ∙ (λ j. part (before.read.spelled j) (at_is j + 60) (size j))
      ∙ data_there qs i d one.1 q refl one.0.is_part in
      record {
        read = record {
          members = qs;
          each =
              set_zip ps qs i (record { header = (get_or ps i d).header; content = Some content }) d before.read.each within
              (record { is_part = one.0.is_part; header = one.0.header; content = λ some. same; table = λ t. same });
          spelled = before.read.spelled;
        };
        place = at_is;
      }
