-- An archive of which some members' data weren't read agrees with the file of which it was read, and has the same data where these are
-- an object's.
use Rattle.std.proofs.Common.{◌≡◌, ℕ, zero, suc, ◌+◌, ◌%◌, Bool, true, false, cond, List, [], ◌∷◌, ◌++◌, append_assoc, Option, None, Some, length, map, take, drop, replicate, get_or, refl, sym, ◌∙◌, ap, subst, arith}
use Rattle.std.specs.Prelude.{All, codes, filter, find, is_some, not, option_map, slice_index, unwrap_or, ◌==◌, ◌&&◌}
use Rattle.std.specs.List.{AllZip, concat}
use Rattle.std.proofs.lemmas.List.{drop_at, length-append, length-drop, length-replicate, take_at}
use Rattle.std.proofs.lemmas.List.Elements.{All-cons, All-nil}
use Rattle.byteview.specs.Numbers.{part}
use Rattle.elf_model.specs.Inputs.ArchiveFile.{Member, StoredMember, data_of, end_at, header_offsets_from, is_number, is_ordinary, member_of, next_header, ordinary, size_at}
use Rattle.elf_model.specs.Inputs.ObjectFile.{IsObject}
use Rattle.elf_model.specs.Inputs.Opening.{archive_data}
use Rattle.archive_law.specs.ArchiveText.{pad}
use Rattle.archive_law.proofs.Cut.{IsReadAt, read_at}
use Rattle.ar_index.specs.Parts.{Completes, IsPart, Part, is_table, part_bytes, part_data, part_size, part_text, stored_part, stored_parts}
use Rattle.ar_index.proofs.PartLaws.{bytes_length, is_text, parts_magic, parts_passed, text_length}
use Rattle.ar_index.proofs.Walk.{offsets_end, offsets_first}
use Rattle.unread_law.specs.Unread.{AgreeAt, AgreeOutside}
use Rattle.unread_law.proofs.Headers.{end_same, size_same}

-- a member that another one completes
same_size : (p q : Part) → p.header ≡ q.header → part_size p ≡ part_size q
same_size p q header = ap (λ (h : List ℕ). part_size (record { header = h; content = None })) header

pub completed : (p q : Part) → Completes p q → IsPart p
completed p q c = record {
  long = ap (λ (h : List ℕ). length h) c.header ∙ c.is_part.long;
  fmag = ap (λ (h : List ℕ). part h 58 2) c.header ∙ c.is_part.fmag;
  decimal = ap (λ (h : List ℕ). is_number (part h 48 10)) c.header ∙ c.is_part.decimal;
  count = by p.content refl;
}
  where
    by : (o : Option (List ℕ)) → p.content ≡ o → length (part_data p) ≡ part_size p
    by None none = ap (λ (d : Option (List ℕ)). length (unwrap_or d (replicate (part_size p) 0))) none ∙ length-replicate (part_size p) 0
    by (Some d) some = ap (λ (xs : List ℕ). length xs) (c.content (ap is_some some)) ∙ c.is_part.count ∙ sym (same_size p q c.header)

are_parts : (ps qs : List Part) → AllZip Completes ps qs → All IsPart ps
are_parts [] [] zip = All-nil IsPart
are_parts [] (q ∷ qs) zip = absurd zip
are_parts (p ∷ ps) [] zip = absurd zip
are_parts (p ∷ ps) (q ∷ qs) zip = All-cons IsPart p ps (completed p q zip.0) (are_parts ps qs zip.1)

are_wholes : (ps qs : List Part) → AllZip Completes ps qs → All IsPart qs
are_wholes [] [] zip = All-nil IsPart
are_wholes [] (q ∷ qs) zip = absurd zip
are_wholes (p ∷ ps) [] zip = absurd zip
are_wholes (p ∷ ps) (q ∷ qs) zip = All-cons IsPart q qs zip.0.is_part (are_wholes ps qs zip.1)

-- both texts are as long
same_text : (p q : Part) → Completes p q → length (part_text p) ≡ length (part_text q)
same_text p q c =
    text_length p (completed p q c) ∙ ap (λ (n : ℕ). 60 + n + n % 2) (same_size p q c.header) ∙ sym (text_length q c.is_part)

same_texts : (ps qs : List Part) → AllZip Completes ps qs → length (concat (map part_text ps)) ≡ length (concat (map part_text qs))
same_texts [] [] zip = refl
same_texts [] (q ∷ qs) zip = absurd zip
same_texts (p ∷ ps) [] zip = absurd zip
same_texts (p ∷ ps) (q ∷ qs) zip =
    length-append (part_text p) (concat (map part_text ps))
    ∙ (λ i. same_text p q zip.0 i + same_texts ps qs zip.1 i)
    ∙ sym (length-append (part_text q) (concat (map part_text qs)))

-- Two files, and what is read at a header where members' texts stand in both.
module _ (a b : List ℕ) where
  header_at : (f : List ℕ) (at : ℕ) (p : Part) (rest : List ℕ) → IsPart p → drop at f ≡ part_text p ++ rest → part f at 60 ≡ p.header
  header_at f at p rest is here =
      ap (take 60) (here ∙ append_assoc p.header (part_data p ++ pad (part_data p)) rest)
      ∙ take_at p.header ((part_data p ++ pad (part_data p)) ++ rest) 60 is.long

  agree_at : (at : ℕ) (p q : Part) (x y : List ℕ) → Completes p q → drop at a ≡ part_text p ++ x → drop at b ≡ part_text q ++ y
      → IsReadAt a at (stored_part at p) (part_text p) x → IsReadAt b at (stored_part at q) (part_text q) y → AgreeAt a b at
  agree_at at p q x y c here there ra rb =
      let header : part a at 60 ≡ part b at 60 =
      header_at a at p x (completed p q c) here ∙ c.header ∙ sym (header_at b at q y c.is_part there) in
      record {
        header = header;
        pad = λ odd.
            let odd_b : size_at b at % 2 ≡ 1 = ap (λ (n : ℕ). n % 2) (sym (size_same a b at header)) ∙ odd in
            let in_a = ra.whole.data_and_pad ra.readable in
            let in_b = rb.whole.data_and_pad rb.readable in
            ra.good.pad odd (omega (arith, in_a, odd))
            ∙ sym (ap (slice_index b) (end_same a b at header) ∙ rb.good.pad odd_b (omega (arith, in_b, odd_b)));
        tables = λ table.
            let is : is_table p ≡ true = ap not (sym (ap is_ordinary ra.stored) ∙ table) in
            ap (λ (m : StoredMember). m.bytes) ra.stored
            ∙ c.table is
            ∙ sym (ap (λ (m : StoredMember). m.bytes) rb.stored)
            ∙ ap (part b (at + 60)) (sym (size_same a b at header));
      }

  -- from a header on the files agree
  agree_from : (n at : ℕ) (ps qs : List Part) → AllZip Completes ps qs → drop at a ≡ concat (map part_text ps) → drop at b ≡ concat (map part_text qs)
      → All (AgreeAt a b) (header_offsets_from n a at)
  agree_from n at [] (q ∷ qs) zip here there = absurd zip
  agree_from n at (p ∷ ps) [] zip here there = absurd zip
  agree_from n at [] [] zip here there =
      let none : length (drop at a) ≡ 0 = ap (λ (xs : List ℕ). length xs) here in
      let left = length-drop at a in
      subst (All (AgreeAt a b)) (sym (offsets_end n a at (omega (arith, none, left)))) (All-nil (AgreeAt a b))
  agree_from zero at (p ∷ ps) (q ∷ qs) zip here there = All-nil (AgreeAt a b)
  agree_from (suc n) at (p ∷ ps) (q ∷ qs) zip here there =
      let ra = read_at a at (stored_part at p) (part_text p) (concat (map part_text ps)) (is_text at p (completed p q zip.0)) refl here in
      let rb = read_at b at (stored_part at q) (part_text q) (concat (map part_text qs)) (is_text at q zip.0.is_part) refl there in
      let next : next_header a at ≡ next_header b at = ra.next ∙ ap (λ (k : ℕ). at + k) (same_text p q zip.0) ∙ sym rb.next in
      subst (All (AgreeAt a b)) (sym (offsets_first (suc n) n a at refl ra.inside ra.readable))
      (All-cons (AgreeAt a b) at (header_offsets_from n a (next_header a at))
      (agree_at at p q (concat (map part_text ps)) (concat (map part_text qs)) zip.0 here there ra rb)
      (agree_from n (next_header a at) ps qs zip.1 ra.behind (ap (λ (k : ℕ). drop k b) next ∙ rb.behind)))

behind_magic : (ps : List Part) → drop 8 (part_bytes ps) ≡ concat (map part_text ps)
unfolding part_bytes
behind_magic ps = drop_at (codes "!<arch>\n") (concat (map part_text ps)) 8 refl

pub agree : (ps qs : List Part) → AllZip Completes ps qs → AgreeOutside (part_bytes ps) (part_bytes qs)
agree ps qs zip = record {
  size = bytes_length ps ∙ ap (λ (n : ℕ). 8 + n) (same_texts ps qs zip) ∙ sym (bytes_length qs);
  magic = parts_magic ps (are_parts ps qs zip) ∙ sym (parts_magic qs (are_wholes ps qs zip));
  each = agree_from (part_bytes ps) (part_bytes qs) (length (part_bytes ps)) 8 ps qs zip (behind_magic ps) (behind_magic qs);
}

-- zeros are no object
zeros_are_none : (n : ℕ) → IsObject (replicate n 0) → ⊥
zeros_are_none zero is = let long = is.long in omega (arith, long)
zeros_are_none (suc n) is = let first : 0 ≡ 127 = ap (λ (xs : List ℕ). get_or xs 0 0) is.elf64.ident in omega (arith, first)

-- the data of a member that are an object's were read
same_object : (p q : Part) → Completes p q → IsObject (part_data p) → part_data p ≡ part_data q
same_object p q c is = by p.content refl
  where
    by : (o : Option (List ℕ)) → p.content ≡ o → part_data p ≡ part_data q
    by None none =
        absurd (zeros_are_none (part_size p) (subst (λ (d : Option (List ℕ)). IsObject (unwrap_or d (replicate (part_size p) 0))) none is))
    by (Some d) some = c.content (ap is_some some)

-- the data of the member at an offset
abbrev found : ℕ → List StoredMember → List ℕ
found offset ms = unwrap_or (data_of (ordinary ms) offset) []

-- of the first member and the others: it is an ordinary one or isn't, and begins at the offset or doesn't
found_by : (offset : ℕ) (m : StoredMember) (ms : List StoredMember) (o : Bool) → is_ordinary m ≡ o
    → found offset (m ∷ ms) ≡ cond (o && (m.offset == offset)) m.bytes (found offset ms)
found_by offset m ms false e =
    ap (λ (b : Bool). unwrap_or (data_of (map member_of (cond b (m ∷ filter is_ordinary ms) (filter is_ordinary ms))) offset) []) e
found_by offset m ms true e =
    ap (λ (b : Bool). unwrap_or (data_of (map member_of (cond b (m ∷ filter is_ordinary ms) (filter is_ordinary ms))) offset) []) e
    ∙ here (m.offset == offset) refl
  where
    here : (b : Bool) → (m.offset == offset) ≡ b → unwrap_or (data_of (member_of m ∷ ordinary ms) offset) [] ≡ cond b m.bytes (found offset ms)
    here true is = ap (λ (c : Bool). unwrap_or (option_map (λ (x : Member). x.bytes) (cond c (Some (member_of m)) (find (λ (x : Member). x.offset == offset) (ordinary ms)))) []) is
    here false is = ap (λ (c : Bool). unwrap_or (option_map (λ (x : Member). x.bytes) (cond c (Some (member_of m)) (find (λ (x : Member). x.offset == offset) (ordinary ms)))) []) is

same_found : (offset at : ℕ) (ps qs : List Part) → AllZip Completes ps qs → IsObject (found offset (stored_parts at ps))
    → found offset (stored_parts at ps) ≡ found offset (stored_parts at qs)
same_found offset at [] [] zip is = refl
same_found offset at [] (q ∷ qs) zip is = absurd zip
same_found offset at (p ∷ ps) [] zip is = absurd zip
same_found offset at (p ∷ ps) (q ∷ qs) zip is =
    let one = found_by offset (stored_part at p) (stored_parts (at + length (part_text p)) ps) (is_ordinary (stored_part at p)) refl in
    let other = found_by offset (stored_part at q) (stored_parts (at + length (part_text q)) qs) (is_ordinary (stored_part at q)) refl in
    let named : is_ordinary (stored_part at p) ≡ is_ordinary (stored_part at q) =
    ap (λ (h : List ℕ). is_ordinary (record { offset = at; name = take 16 h; bytes = [] })) zip.0.header in
    one
    ∙ by (is_ordinary (stored_part at p) && (at == offset)) (subst IsObject one is)
    (λ rest. same_found offset (at + length (part_text p)) ps qs zip.1 rest ∙ ap (λ (n : ℕ). found offset (stored_parts (at + n) qs)) (same_text p q zip.0))
    ∙ ap (λ (o : Bool). cond (o && (at == offset)) (part_data q) (found offset (stored_parts (at + length (part_text q)) qs))) named
    ∙ sym other
  where
    by : (b : Bool) → IsObject (cond b (part_data p) (found offset (stored_parts (at + length (part_text p)) ps)))
        → (IsObject (found offset (stored_parts (at + length (part_text p)) ps)) → found offset (stored_parts (at + length (part_text p)) ps) ≡ found offset (stored_parts (at + length (part_text q)) qs))
        → cond b (part_data p) (found offset (stored_parts (at + length (part_text p)) ps)) ≡ cond b (part_data q) (found offset (stored_parts (at + length (part_text q)) qs))
    by true object rest = same_object p q zip.0 object
    by false object rest = rest object

data_is : (ps : List Part) (offset : ℕ) → All IsPart ps → archive_data (part_bytes ps) offset ≡ found offset (stored_parts 8 ps)
unfolding archive_data
data_is ps offset all = ap (found offset) (sym (parts_passed ps all).members)

pub same_data : (ps qs : List Part) (offset : ℕ) → AllZip Completes ps qs → IsObject (archive_data (part_bytes ps) offset)
    → archive_data (part_bytes ps) offset ≡ archive_data (part_bytes qs) offset
same_data ps qs offset zip is =
    let one = data_is ps offset (are_parts ps qs zip) in
    one ∙ same_found offset 8 ps qs zip (subst IsObject one is) ∙ sym (data_is qs offset (are_wholes ps qs zip))
