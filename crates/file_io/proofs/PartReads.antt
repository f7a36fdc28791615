-- Members that are read one after the other, from their headers on.
use Rattle.std.proofs.Common.{◌≡◌, ℕ, ◌+◌, ◌%◌, ◌<◌, ◌≤◌, ◌⊎◌, inl, inr, Bool, true, false, cond, List, [], ◌∷◌, ◌++◌, append_assoc, append-nil, Option, None, Some, length, map, take, drop, refl, sym, ◌∙◌, ap, subst, arith}
use Rattle.std.specs.Prelude.{IfSome, codes, is_some}
use Rattle.std.specs.List.{AllZip, concat}
use Rattle.std.proofs.lemmas.Bool.{cases_eq, eq-eqb, ne_eqb}
use Rattle.std.proofs.lemmas.List.{drop-drop, drop_all, length-drop, length-take-le, take-append-drop}
use Rattle.byteview.specs.Numbers.{part}
use Rattle.archive_law.specs.ArchiveText.{pad}
use Rattle.ar_index.specs.Parts.{AreReadOf, Completes, IsPart, Part, is_table, part_bytes, part_data, part_size, part_text}
use Rattle.file_io.specs.Placed.{AreReadUpTo, AreTold, AreToldUpTo, IsReadAt, IsToldAt, IsToldMember}

cut : (file : List ℕ) (at k next : ℕ) → next ≡ at + k → drop at file ≡ part file at k ++ drop next file
cut file at k next ends =
    sym (take-append-drop k (drop at file)) ∙ ap (λ (rest : List ℕ). part file at k ++ rest) (drop-drop k at file ∙ ap (λ (n : ℕ). drop n file) (sym ends))

length-part : (file : List ℕ) (at k : ℕ) → at + k ≤ length file → length (part file at k) ≡ k
length-part file at k inside = length-take-le k (drop at file) (let left = length-drop at file in omega (arith, left, inside))

-- what is behind data: a line feed where their number is odd
pad_is : (file content : List ℕ) (end size : ℕ) → length content ≡ size → (size % 2 ≡ 1 → codes "\n" ≡ part file end 1) → part file end (size % 2) ≡ pad content
pad_is file content end size long odd = by (cases_eq (size % 2) 1)
  where
    same : length content % 2 ≡ size % 2
    same = ap (λ (n : ℕ). n % 2) long

    by : (size % 2 ≡ 1) ⊎ (size % 2 ≡ 1 → ⊥) → part file end (size % 2) ≡ pad content
    by (inl one) =
        ap (part file end) one ∙ sym (odd one)
        ∙ sym (ap (λ (b : Bool). cond {A = List ℕ} b (codes "\n") []) (eq-eqb (length content % 2) 1 (same ∙ one)))
    by (inr other) =
        let none : size % 2 ≡ 0 = grind (arith, other) in
        ap (part file end) none
        ∙ sym (ap (λ (b : Bool). cond {A = List ℕ} b (codes "\n") []) (ne_eqb (length content % 2) 1 (λ one. other (sym same ∙ one))))

-- a member whose header is told, and whose data where they were read, as they are for the index and the long names
pub member_told :
    (told : Option (List ℕ)) (len at next : ℕ) (p : Part) → IsPart p → IsToldAt told at 60 p.header →
    next ≡ at + 60 + part_size p + part_size p % 2 → next ≤ len →
    (part_size p % 2 ≡ 1 → IsToldAt told (at + 60 + part_size p) 1 (codes "\n")) →
    (is_some p.content ≡ true → IsToldAt told (at + 60) (part_size p) (part_data p)) → (is_table p ≡ true → is_some p.content ≡ true) →
    IsToldMember told len p at next
member_told None len at next p is header next_is within odd read table = tt
member_told (Some file) len at next p is header next_is within odd read table = λ long.
    let size = part_size p in
    let end = at + 60 + size in
    let content = part file (at + 60) size in
    let inside : end + size % 2 ≤ length file = omega (arith, next_is, within, long) in
    let count : length content ≡ size = length-part file (at + 60) size (omega (arith, inside)) in
    let q : Part = record { header = p.header; content = Some content } in
    let same : is_some p.content ≡ true → part_data p ≡ content = λ some. (read some).1 in
    let padded : part file end (size % 2) ≡ pad content =
    pad_is file content end size count (λ one. (odd one).1) in
    record {
      member = q;
      completes = record {
        is_part = record { long = is.long; fmag = is.fmag; decimal = is.decimal; count = count };
        header = refl;
        content = same;
        table = λ t. same (table t);
      };
      here =
          cut file at 60 (at + 60) refl
          ∙ (λ i. sym header.1 i ++ (cut file (at + 60) size end refl ∙ ap (λ (rest : List ℕ). content ++ rest) (cut file end (size % 2) next next_is ∙ ap (λ (x : List ℕ). x ++ drop next file) padded)) i)
          ∙ sym (append_assoc p.header (content ++ pad content) (drop next file) ∙ ap (λ (rest : List ℕ). p.header ++ rest) (append_assoc content (pad content) (drop next file)));
    }

-- members and one more
zip_more : (ps qs : List Part) (p q : Part) → AllZip Completes ps qs → Completes p q → AllZip Completes (ps ++ p ∷ []) (qs ++ q ∷ [])
zip_more [] [] p q zip one = (one, tt)
zip_more [] (y ∷ ys) p q zip one = absurd zip
zip_more (x ∷ xs) [] p q zip one = absurd zip
zip_more (x ∷ xs) (y ∷ ys) p q zip one = (zip.0, zip_more xs ys p q zip.1 one)

texts_more : (qs : List Part) (q : Part) → concat (map part_text (qs ++ q ∷ [])) ≡ concat (map part_text qs) ++ part_text q
texts_more [] q = append-nil (part_text q)
texts_more (y ∷ ys) q =
    ap (λ (rest : List ℕ). part_text y ++ rest) (texts_more ys q) ∙ sym (append_assoc (part_text y) (concat (map part_text ys)) (part_text q))

bytes_more : (qs : List Part) (q : Part) → part_bytes (qs ++ q ∷ []) ≡ part_bytes qs ++ part_text q
unfolding part_bytes
bytes_more qs q =
    ap (λ (rest : List ℕ). codes "!<arch>\n" ++ rest) (texts_more qs q) ∙ sym (append_assoc (codes "!<arch>\n") (concat (map part_text qs)) (part_text q))

bytes_none : part_bytes [] ≡ codes "!<arch>\n"
unfolding part_bytes
bytes_none = refl

pub none_told : (told : Option (List ℕ)) (len : ℕ) (magic : List ℕ) (ps : List Part) → IsToldAt told 0 8 magic → magic ≡ codes "!<arch>\n" → ps ≡ []
    → AreToldUpTo told len ps 8
none_told None len magic ps is same none = tt
none_told (Some file) len magic ps is same none = λ long.
    subst (λ (xs : List Part). AreReadUpTo file xs 8) (sym none)
    (record {
      members = [];
      each = tt;
      here = cut file 0 8 8 refl ∙ ap (λ (front : List ℕ). front ++ drop 8 file) (sym is.1 ∙ same ∙ sym bytes_none);
    })

pub more_told : (told : Option (List ℕ)) (len at next : ℕ) (ps now : List Part) (p : Part) → AreToldUpTo told len ps at → IsToldMember told len p at next
    → now ≡ ps ++ p ∷ [] → AreToldUpTo told len now next
more_told None len at next ps now p before one now_is = tt
more_told (Some file) len at next ps now p before one now_is = λ long.
    let b = before long in
    let o = one long in
    subst (λ (xs : List Part). AreReadUpTo file xs next) (sym now_is)
    (record {
      members = b.members ++ o.member ∷ [];
      each = zip_more ps b.members p o.member b.each o.completes;
      here =
          b.here
          ∙ ap (λ (rest : List ℕ). part_bytes b.members ++ rest) o.here
          ∙ sym (append_assoc (part_bytes b.members) (part_text o.member) (drop next file))
          ∙ ap (λ (front : List ℕ). front ++ drop next file) (sym (bytes_more b.members o.member));
    })

pub all_told : (told : Option (List ℕ)) (len at : ℕ) (ps : List Part) → AreToldUpTo told len ps at → len ≤ at → AreTold told len ps
all_told None len at ps before past = tt
all_told (Some file) len at ps before past = λ long.
    let b = before long in
    record {
      members = b.members;
      each = b.each;
      spelled =
          b.here
          ∙ ap (λ (rest : List ℕ). part_bytes b.members ++ rest) (drop_all at file (omega (arith, long, past)))
          ∙ append-nil (part_bytes b.members);
    }
