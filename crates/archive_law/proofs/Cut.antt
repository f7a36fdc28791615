-- One member at an offset: what the definitions read where its text stands, and its text, cut from the bytes in which they find it.
use Rattle.std.proofs.Common.{◌≡◌, ◌≢◌, ℕ, ◌+◌, ◌-◌, ◌%◌, ◌<◌, ◌≤◌, ◌⊎◌, inl, inr, Bool, true, false, cond, eqb, List, [], ◌∷◌, ◌++◌, length, get_or, take, drop, refl, sym, ◌∙◌, ap, arith}
use Rattle.std.specs.Prelude.{codes, nat_le, ◌&&◌}
use Rattle.std.specs.Str.{bytes_eq}
use Rattle.std.proofs.lemmas.Bool.{and_from, cases_eq, eq-eqb, eqb-false, eqb-true, le-leb, ne_eqb}
use Rattle.std.proofs.lemmas.List.{append_assoc, drop-drop, drop_at, drop_more, get_or-drop, length-append, length-drop, length-take-le, take-append-drop, take_at}
use Rattle.std.proofs.lemmas.Slice.Eq.{bytes_eq-Decides}
use Rattle.byteview.specs.Numbers.{part}
use Rattle.elf_model.specs.Inputs.ArchiveFile.{IsGoodHeader, IsWhole, StoredMember, is_number, is_readable, member_header, next_header, number, size_at, stored_member}
use Rattle.archive_law.specs.ArchiveText.{IsMemberText, pad}

-- six parts and what is behind them, part by part
spread :
    (a b c d e f rest : List ℕ) → (a ++ b ++ c ++ d ++ e ++ f) ++ rest ≡ a ++ (b ++ (c ++ (d ++ (e ++ (f ++ rest)))))
spread a b c d e f rest =
    append_assoc (a ++ b ++ c ++ d ++ e) f rest
    ∙ append_assoc (a ++ b ++ c ++ d) e (f ++ rest)
    ∙ append_assoc (a ++ b ++ c) d (e ++ (f ++ rest))
    ∙ append_assoc (a ++ b) c (d ++ (e ++ (f ++ rest)))
    ∙ append_assoc a b (c ++ (d ++ (e ++ (f ++ rest))))

length_spread :
    (a b c d e f : List ℕ) → length (a ++ b ++ c ++ d ++ e ++ f) ≡ length a + length b + length c + length d + length e + length f
length_spread a b c d e f =
    length-append (a ++ b ++ c ++ d ++ e) f
    ∙ ap (λ (n : ℕ). n + length f) (length-append (a ++ b ++ c ++ d) e)
    ∙ ap (λ (n : ℕ). n + length e + length f) (length-append (a ++ b ++ c) d)
    ∙ ap (λ (n : ℕ). n + length d + length e + length f) (length-append (a ++ b) c)
    ∙ ap (λ (n : ℕ). n + length c + length d + length e + length f) (length-append a b)

-- the pad has a byte where the data are odd in number, and it is a line feed
pub length-pad : (data_ : List ℕ) → length (pad data_) ≡ length data_ % 2
length-pad data_ = by (eqb (length data_ % 2) 1) refl
  where
    by : (b : Bool) → eqb (length data_ % 2) 1 ≡ b → length (cond {A = List ℕ} b (10 ∷ []) []) ≡ length data_ % 2
    by true e = let one = eqb-true (length data_ % 2) 1 e in omega (arith, one)
    by false e = let other = eqb-false (length data_ % 2) 1 e in grind (arith, other)

odd_pad : (data_ : List ℕ) → length data_ % 2 ≡ 1 → pad data_ ≡ codes "\n"
odd_pad data_ odd = ap (λ (b : Bool). cond b (10 ∷ []) []) (eq-eqb (length data_ % 2) 1 odd)

even_pad : (data_ : List ℕ) → length data_ % 2 ≢ 1 → pad data_ ≡ []
even_pad data_ even = ap (λ (b : Bool). cond b (10 ∷ []) []) (ne_eqb (length data_ % 2) 1 even)

module _ (bytes : List ℕ) where
  -- a text that stands at an offset is the part there, and the rest is behind it
  stands : (at k next : ℕ) (p q : List ℕ) → drop at bytes ≡ p ++ q → length p ≡ k → next ≡ at + k → (part bytes at k ≡ p) × (drop next bytes ≡ q)
  stands at k next p q here long ends = (
    ap (take k) here ∙ take_at p q k long,
    ap (λ (n : ℕ). drop n bytes) ends ∙ sym (drop-drop k at bytes) ∙ ap (drop k) here ∙ drop_at p q k long,
  )

  -- the other way, the part at an offset and what is behind it
  cut : (at k next : ℕ) → next ≡ at + k → drop at bytes ≡ part bytes at k ++ drop next bytes
  cut at k next ends =
      sym (take-append-drop k (drop at bytes))
      ∙ ap (λ (rest : List ℕ). part bytes at k ++ rest) (drop-drop k at bytes ∙ ap (λ (n : ℕ). drop n bytes) (sym ends))

  length-part : (at k : ℕ) → at + k ≤ length bytes → length (part bytes at k) ≡ k
  length-part at k inside = length-take-le k (drop at bytes) (let left = length-drop at bytes in omega (arith, left, inside))

  -- a header that lies inside, with ARFMAG and a size, can be read
  readable_from : (at : ℕ) → at + 60 ≤ length bytes → part bytes (at + 58) 2 ≡ codes "`\n" → is_number (part bytes (at + 48) 10) ≡ true → is_readable bytes at ≡ true
  readable_from at inside fmag decimal =
      and_from (nat_le (at + 60) (length bytes) && bytes_eq (member_header bytes at).ar_fmag (codes "`\n")) (is_number (member_header bytes at).ar_size)
      (and_from (nat_le (at + 60) (length bytes)) (bytes_eq (member_header bytes at).ar_fmag (codes "`\n")) (le-leb (at + 60) (length bytes) inside)
      ((bytes_eq-Decides (member_header bytes at).ar_fmag (codes "`\n")).1 fmag))
      decimal

-- a member's text stands at an offset, and the rest is behind it: the definitions read the member there, and no fault, and go on behind the text
pub record IsReadAt (bytes : List ℕ) (at : ℕ) (m : StoredMember) (member_text rest : List ℕ) : Type 0 where
  pub inside : at < length bytes
  pub readable : is_readable bytes at ≡ true
  pub stored : stored_member bytes at ≡ m
  pub whole : IsWhole bytes at
  pub good : IsGoodHeader bytes at
  pub next : next_header bytes at ≡ at + length member_text
  pub some : 60 ≤ length member_text
  pub behind : drop (next_header bytes at) bytes ≡ rest

pub read_at :
    (bytes : List ℕ) (at : ℕ) (m : StoredMember) (member_text rest : List ℕ) →
    IsMemberText m member_text → m.offset ≡ at → drop at bytes ≡ member_text ++ rest → IsReadAt bytes at m member_text rest
read_at bytes at m member_text rest t offset here =
    let n = length m.bytes in
    let whole_text = ap (λ (xs : List ℕ). xs ++ rest) t.spelled ∙ spread m.name t.unread t.size (codes "`\n") m.bytes (pad m.bytes) rest in
    let long : length member_text ≡ 60 + n + n % 2 =
    ap (λ (xs : List ℕ). length xs) t.spelled ∙ length_spread m.name t.unread t.size (codes "`\n") m.bytes (pad m.bytes)
    ∙ (let a = t.name_length in let b = t.unread_length in let c = t.size_length in let p = length-pad m.bytes in omega (arith, a, b, c, p)) in
    let total : length bytes - at ≡ length member_text + length rest =
    sym (length-drop at bytes) ∙ ap (λ (xs : List ℕ). length xs) here ∙ length-append member_text rest in
    let name = stands bytes at 16 (at + 16) m.name _ (here ∙ whole_text) t.name_length refl in
    let unread = stands bytes (at + 16) 32 (at + 48) t.unread _ name.1 t.unread_length (omega arith) in
    let size = stands bytes (at + 48) 10 (at + 58) t.size _ unread.1 t.size_length (omega arith) in
    let fmag = stands bytes (at + 58) 2 (at + 60) (codes "`\n") _ size.1 refl (omega arith) in
    let content = stands bytes (at + 60) n (at + 60 + n) m.bytes _ fmag.1 refl refl in
    let behind = stands bytes (at + 60 + n) (n % 2) (at + 60 + n + n % 2) (pad m.bytes) rest content.1 (length-pad m.bytes) refl in
    let count : size_at bytes at ≡ n = ap number size.0 ∙ t.count in
    let next : next_header bytes at ≡ at + 60 + n + n % 2 = ap (λ (k : ℕ). at + 60 + k + k % 2) count in
    let decimal : is_number (part bytes (at + 48) 10) ≡ true = ap is_number size.0 ∙ t.decimal in
    record {
      inside = omega (arith, total, long);
      readable = readable_from bytes at (omega (arith, total, long)) fmag.0 decimal;
      stored = (λ i. record { offset = sym offset i; name = name.0 i; bytes = (ap (part bytes (at + 60)) count ∙ content.0) i });
      whole = record { header = omega (arith, total, long); data_and_pad = λ _. omega (arith, total, long, next) };
      good = record {
        fmag = λ _. fmag.0;
        size = λ _. decimal;
        pad = λ odd _.
            let one : n % 2 ≡ 1 = ap (λ (k : ℕ). k % 2) (sym count) ∙ odd in
            let line_feed : drop (at + 60 + n) bytes ≡ 10 ∷ rest = content.1 ∙ ap (λ (xs : List ℕ). xs ++ rest) (odd_pad m.bytes one) in
            ap (λ (k : ℕ). get_or bytes k 0) (ap (λ (k : ℕ). at + 60 + k) count ∙ omega arith)
            ∙ sym (get_or-drop (at + 60 + n) bytes 0 0)
            ∙ ap (λ (xs : List ℕ). get_or xs 0 0) line_feed;
      };
      next = next ∙ omega (arith, long);
      some = omega (arith, long);
      behind = ap (λ (k : ℕ). drop k bytes) next ∙ behind.1;
    }

-- what stands behind the data, where no fault of it is found, is the pad
pad_at :
    (bytes : List ℕ) (at n : ℕ) (content : List ℕ) → length content ≡ n →
    (n % 2 ≡ 1 → at < length bytes → get_or bytes at 0 ≡ 10) →
    at + n % 2 ≤ length bytes → part bytes at (n % 2) ≡ pad content
pad_at bytes at n content long good ends = by (cases_eq (n % 2) 1)
  where
    same : length content % 2 ≡ n % 2
    same = ap (λ (k : ℕ). k % 2) long

    by : (n % 2 ≡ 1) ⊎ (n % 2 ≡ 1 → ⊥) → part bytes at (n % 2) ≡ pad content
    by (inl odd) =
        let inside : at < length bytes = omega (arith, odd, ends) in
        ap (part bytes at) odd
        ∙ ap (take 1) (drop_more bytes at 0 inside ∙ ap (λ (b : ℕ). b ∷ drop (at + 1) bytes) (good odd inside))
        ∙ sym (odd_pad content (same ∙ odd))
    by (inr even) =
        let none : n % 2 ≡ 0 = grind (arith, even) in
        ap (part bytes at) none ∙ sym (even_pad content (λ one. even (sym same ∙ one)))

-- where no fault is found at an offset, the member's text stands there
pub record IsCutAt (bytes : List ℕ) (at : ℕ) : Type 0 where
  pub readable : is_readable bytes at ≡ true
  pub member_text : List ℕ
  pub is_text : IsMemberText (stored_member bytes at) member_text
  pub here : drop at bytes ≡ member_text ++ drop (next_header bytes at) bytes
  pub next : next_header bytes at ≡ at + length member_text

pub cut_at : (bytes : List ℕ) (at : ℕ) → IsWhole bytes at → IsGoodHeader bytes at → IsCutAt bytes at
cut_at bytes at whole good =
    let inside = whole.header in
    let decimal = good.size inside in
    let readable = readable_from bytes at inside (good.fmag inside) decimal in
    let n = size_at bytes at in
    let ends = whole.data_and_pad readable in
    let name = part bytes at 16 in
    let unread = part bytes (at + 16) 32 in
    let size = part bytes (at + 48) 10 in
    let content = part bytes (at + 60) n in
    let name_long = length-part bytes at 16 (omega (arith, inside)) in
    let unread_long = length-part bytes (at + 16) 32 (omega (arith, inside)) in
    let size_long = length-part bytes (at + 48) 10 (omega (arith, inside)) in
    let long : length content ≡ n = length-part bytes (at + 60) n (omega (arith, ends)) in
    let pad_long : length (pad content) ≡ n % 2 = length-pad content ∙ ap (λ (k : ℕ). k % 2) long in
    let padded : part bytes (at + 60 + n) (n % 2) ≡ pad content = pad_at bytes (at + 60 + n) n content long good.pad ends in
    let behind =
    cut bytes (at + 60 + n) (n % 2) (next_header bytes at) refl ∙ ap (λ (xs : List ℕ). xs ++ drop (next_header bytes at) bytes) padded in
    let parts =
    cut bytes at 16 (at + 16) refl
    ∙ ap (λ (xs : List ℕ). name ++ xs) (cut bytes (at + 16) 32 (at + 48) (omega arith)
    ∙ ap (λ (xs : List ℕ). unread ++ xs) (cut bytes (at + 48) 10 (at + 58) (omega arith)
    ∙ ap (λ (xs : List ℕ). size ++ xs) (cut bytes (at + 58) 2 (at + 60) (omega arith)
    ∙ (λ i. good.fmag inside i ++ (cut bytes (at + 60) n (at + 60 + n) refl ∙ ap (λ (xs : List ℕ). content ++ xs) behind) i)))) in
    record {
      readable = readable;
      member_text = name ++ unread ++ size ++ codes "`\n" ++ content ++ pad content;
      is_text = record {
        unread = unread;
        size = size;
        spelled = refl;
        name_length = name_long;
        unread_length = unread_long;
        size_length = size_long;
        decimal = decimal;
        count = sym long;
      };
      here = parts ∙ sym (spread name unread size (codes "`\n") content (pad content) (drop (next_header bytes at) bytes));
      next =
          sym (ap (λ (k : ℕ). at + k) (length_spread name unread size (codes "`\n") content (pad content))
          ∙ omega (arith, name_long, unread_long, size_long, long, pad_long));
    }
