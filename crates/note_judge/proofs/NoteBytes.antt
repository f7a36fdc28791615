-- The bytes of notes, part by part.
use Rattle.std.proofs.Common.{◌≡◌, ℕ, ◌+◌, ◌-◌, ◌*◌, ◌%◌, ◌^◌, ◌<◌, ◌≤◌, ◌⊎◌, inl, inr, List, [], ◌∷◌, ◌++◌, length, map, get_or, refl, sym, ◌∙◌, ap, subst, arith}
use Rattle.std.specs.Prelude.{IsSome, None, Option, Some, bit_and, codes, is_some, slice_index, unwrap_or}
use Rattle.std.specs.List.{range_with_len}
use Rattle.std.proofs.lemmas.Bool.{cases_lt}
use Rattle.std.proofs.lemmas.List.{get_or-append-add, get_or_append_left, length-append}
use Rattle.std.proofs.lemmas.List.FromFn.{get_or-map-range_with_len, length-map-range_with_len}
use Rattle.std.proofs.lemmas.Nat.{and_le_l, and_mod}
use Rattle.byteview.proofs.NumberLaws.{length-le_bytes}
use Rattle.byteview.specs.Numbers.{le, le_bytes}
use Rattle.elf_model.specs.Image.RightLink.{byte_at}
use Rattle.judge_model.specs.Memory.{Holds}
use Rattle.judge_model.specs.Notes.{IsBuildId, feature_1_and, note_bytes, nt_gnu_build_id, nt_gnu_property}
use Rattle.judge_model.specs.declared.certificate.StretchLine.{StretchLine}
use Rattle.memory_judge.proofs.NumberBytes.{four}
use Rattle.note_judge.specs.Notes.{HoldsFew, HoldsFront, HoldsProperty, IsMapped, IsPropertyBy, property}

-- the number in at most four bytes
pub four_bytes : (xs : List ℕ) → length xs ≤ 4
    → slice_index xs 0 + slice_index xs 1 * 256 + slice_index xs 2 * 65536 + slice_index xs 3 * 16777216 ≡ le xs
unfolding le
four_bytes [] few = refl
four_bytes (a ∷ []) few = omega arith
four_bytes (a ∷ b ∷ []) few = omega arith
four_bytes (a ∷ b ∷ c ∷ []) few = omega arith
four_bytes (a ∷ b ∷ c ∷ d ∷ []) few = omega arith
four_bytes (a ∷ b ∷ c ∷ d ∷ e ∷ xs) few = absurd (omega (arith, few))

-- memory holds one list behind another
module _ (image : List ℕ) (at n : ℕ) (xs ys : List ℕ) (long : length xs ≡ n) where
  pub first_part : Holds image at (xs ++ ys) → Holds image at xs
  first_part holds k low =
      holds k (let total = length-append xs ys in omega (arith, total, low)) ∙ ap Some (get_or_append_left xs ys 0 k low)

  pub second_part : Holds image at (xs ++ ys) → Holds image (at + n) ys
  second_part holds k low =
      let there = holds (n + k) (let total = length-append xs ys in omega (arith, total, low, long)) in
      ap (byte_at image) (omega arith)
      ∙ there
      ∙ ap Some (ap (λ (j : ℕ). get_or (xs ++ ys) (j + k) 0) (sym long) ∙ get_or-append-add xs ys k 0)

  pub both_parts : Holds image at xs → Holds image (at + n) ys → Holds image at (xs ++ ys)
  both_parts one other k low = by (cases_lt k n)
    where
      by : (k < n) ⊎ (n ≤ k) → byte_at image (at + k) ≡ Some (slice_index (xs ++ ys) k)
      by (inl less) =
          let inside : k < length xs = omega (arith, long, less) in
          one k inside ∙ ap Some (sym (get_or_append_left xs ys 0 k inside))
      by (inr more) =
          let j = k - n in
          let inside : j < length ys = (let total = length-append xs ys in omega (arith, total, low, long, more)) in
          ap (byte_at image) (omega (arith, more))
          ∙ other j inside
          ∙ ap Some (sym (get_or-append-add xs ys j 0) ∙ ap (λ (i : ℕ). get_or (xs ++ ys) i 0) (omega (arith, long, more)))

-- the name of a note is that of GNU, with its NUL
name_bytes : (description : List ℕ) → codes "GNU" ++ (0 ∷ description) ≡ le_bytes 4 0x554e47 ++ description
unfolding le_bytes
name_bytes description = refl

at_zero : (image : List ℕ) (at : ℕ) (bytes : List ℕ) → Holds image at bytes → Holds image (at + 0) bytes
at_zero image at bytes holds k low = ap (byte_at image) (omega arith) ∙ holds k low

from_zero : (image : List ℕ) (at : ℕ) (bytes : List ℕ) → Holds image (at + 0) bytes → Holds image at bytes
from_zero image at bytes holds k low = ap (byte_at image) (omega arith) ∙ holds k low

moved : (image : List ℕ) (a b : ℕ) (bytes : List ℕ) → a ≡ b → Holds image a bytes → Holds image b bytes
moved image a b bytes same = subst (λ (x : ℕ). Holds image x bytes) same

-- A note of a type: its front, and its description behind that.
module _ (image : List ℕ) (at kind : ℕ) (description : List ℕ) where
  pub front_of : Holds image at (note_bytes kind description) → HoldsFront image at (length description) kind
  front_of holds =
      let w = λ (n : ℕ). length-le_bytes 4 n in
      let sizes = second_part image at 4 (le_bytes 4 4) _ (w 4) holds in
      let kinds = second_part image (at + 4) 4 (le_bytes 4 (length description)) _ (w (length description)) sizes in
      let names = second_part image (at + 4 + 4) 4 (le_bytes 4 kind) _ (w kind) kinds in
      let named = subst (λ (bytes : List ℕ). Holds image (at + 4 + 4 + 4) bytes) (name_bytes description) names in
      record {
        name_size = at_zero image at (le_bytes 4 4) (first_part image at 4 (le_bytes 4 4) _ (w 4) holds);
        size_is = first_part image (at + 4) 4 (le_bytes 4 (length description)) _ (w (length description)) sizes;
        kind_is = moved image (at + 4 + 4) (at + 8) (le_bytes 4 kind) (omega arith) (first_part image (at + 4 + 4) 4 (le_bytes 4 kind) _ (w kind) kinds);
        name = moved image (at + 4 + 4 + 4) (at + 12) (le_bytes 4 0x554e47) (omega arith) (first_part image (at + 4 + 4 + 4) 4 (le_bytes 4 0x554e47) description (w 0x554e47) named);
      }

  pub description_of : Holds image at (note_bytes kind description) → Holds image (at + 16) description
  description_of holds =
      let w = λ (n : ℕ). length-le_bytes 4 n in
      let sizes = second_part image at 4 (le_bytes 4 4) _ (w 4) holds in
      let kinds = second_part image (at + 4) 4 (le_bytes 4 (length description)) _ (w (length description)) sizes in
      let names = second_part image (at + 4 + 4) 4 (le_bytes 4 kind) _ (w kind) kinds in
      let named = subst (λ (bytes : List ℕ). Holds image (at + 4 + 4 + 4) bytes) (name_bytes description) names in
      moved image (at + 4 + 4 + 4 + 4) (at + 16) description (omega arith) (second_part image (at + 4 + 4 + 4) 4 (le_bytes 4 0x554e47) description (w 0x554e47) named)

  pub note_of : HoldsFront image at (length description) kind → Holds image (at + 16) description → Holds image at (note_bytes kind description)
  note_of f rest =
      let w = λ (n : ℕ). length-le_bytes 4 n in
      both_parts image at 4 (le_bytes 4 4) _ (w 4) (from_zero image at (le_bytes 4 4) f.name_size)
      (both_parts image (at + 4) 4 (le_bytes 4 (length description)) _ (w (length description)) f.size_is
      (both_parts image (at + 4 + 4) 4 (le_bytes 4 kind) _ (w kind) (moved image (at + 8) (at + 4 + 4) (le_bytes 4 kind) (omega arith) f.kind_is)
      (subst (λ (bytes : List ℕ). Holds image (at + 4 + 4 + 4) bytes) (sym (name_bytes description))
      (both_parts image (at + 4 + 4 + 4) 4 (le_bytes 4 0x554e47) description (w 0x554e47)
      (moved image (at + 12) (at + 4 + 4 + 4) (le_bytes 4 0x554e47) (omega arith) f.name)
      (moved image (at + 16) (at + 4 + 4 + 4 + 4) description (omega arith) rest)))))

-- A build id.
byte_or : (o : Option ℕ) → IsSome o → o ≡ Some (unwrap_or o 0)
byte_or None some = absurd (cc)
byte_or (Some b) some = refl

module _ (image : List ℕ) (n : StretchLine) where
  described : ℕ → List ℕ
  described size = map (λ k. unwrap_or (byte_at image (n.address + k)) 0) (range_with_len 16 size)

  holds_described : (size : ℕ) → IsMapped image n.address (16 + size) → Holds image (n.address + 16) (described size)
  unfolding described
  holds_described size mapped k low =
      let f = λ (j : ℕ). unwrap_or (byte_at image (n.address + j)) 0 in
      let inside : k < size = (let long = length-map-range_with_len f 16 size in omega (arith, long, low)) in
      ap (byte_at image) (omega arith)
      ∙ byte_or (byte_at image (n.address + (16 + k))) (mapped (16 + k) (omega (arith, inside)))
      ∙ ap Some (sym (get_or-map-range_with_len f 16 size k (16 + k) 0 inside refl))

  length_described : (size : ℕ) → length (described size) ≡ size
  unfolding described
  length_described size = length-map-range_with_len (λ k. unwrap_or (byte_at image (n.address + k)) 0) 16 size

  pub build_id : 16 ≤ n.size → n.size ≤ 80 → HoldsFront image n.address (n.size - 16) nt_gnu_build_id → IsMapped image n.address n.size → IsBuildId image n
  build_id least most front mapped =
      let size = n.size - 16 in
      let total : n.size ≡ 16 + size = omega (arith, least) in
      let long = length_described size in
      record {
        description = described size;
        short = omega (arith, long, most);
        size = omega (arith, long, total);
        holds = note_of image n.address nt_gnu_build_id (described size)
            (subst (λ (s : ℕ). HoldsFront image n.address s nt_gnu_build_id) (sym long) front)
            (holds_described size (subst (IsMapped image n.address) total mapped));
      }

  pub build_size : IsBuildId image n → (16 ≤ n.size) × (n.size ≤ 80)
  build_size id = let size = id.size in let short = id.short in (omega (arith, size), omega (arith, size, short))

  pub build_front : IsBuildId image n → HoldsFront image n.address (n.size - 16) nt_gnu_build_id
  build_front id =
      subst (λ (s : ℕ). HoldsFront image n.address s nt_gnu_build_id) (let size = id.size in omega (arith, size))
      (front_of image n.address nt_gnu_build_id id.description id.holds)

  front_mapped : (size kind k : ℕ) → HoldsFront image n.address size kind → k < 16 → IsSome (byte_at image (n.address + k))
  front_mapped size kind k f low = ap is_some (cell (cases_lt k 4) (cases_lt k 8) (cases_lt k 12)).1
    where
      part : (at : ℕ) (number : ℕ) → Holds image (n.address + at) (le_bytes 4 number) → at ≤ k → k < at + 4 → (b : ℕ) × (byte_at image (n.address + k) ≡ Some b)
      part at number holds from to = (
        slice_index (le_bytes 4 number) (k - at),
        ap (byte_at image) (omega (arith, from)) ∙ holds (k - at) (let long = length-le_bytes 4 number in omega (arith, long, from, to)),
      )

      cell : (k < 4) ⊎ (4 ≤ k) → (k < 8) ⊎ (8 ≤ k) → (k < 12) ⊎ (12 ≤ k) → (b : ℕ) × (byte_at image (n.address + k) ≡ Some b)
      cell (inl a) b c = part 0 4 f.name_size (omega arith) a
      cell (inr a) (inl b) c = part 4 size f.size_is a b
      cell (inr a) (inr b) (inl c) = part 8 kind f.kind_is b c
      cell (inr a) (inr b) (inr c) = part 12 0x554e47 f.name c low

  pub build_mapped : IsBuildId image n → IsMapped image n.address n.size
  build_mapped id k low = by (cases_lt k 16)
    where
      by : (k < 16) ⊎ (16 ≤ k) → IsSome (byte_at image (n.address + k))
      by (inl less) = front_mapped (n.size - 16) nt_gnu_build_id k (build_front id) less
      by (inr more) =
          let rest = description_of image n.address nt_gnu_build_id id.description id.holds in
          ap is_some (ap (byte_at image) (omega (arith, more)) ∙ rest (k - 16) (let size = id.size in omega (arith, size, low, more)))

-- A property note.
module _ (image : List ℕ) (allowed : ℕ) (n : StretchLine) where
  length_property : (bits : ℕ) → length (property bits) ≡ 16
  length_property bits =
      let a = length-le_bytes 4 feature_1_and in
      let b = length-le_bytes 4 4 in
      let c = length-le_bytes 4 bits in
      let d = length-le_bytes 4 0 in
      let cd = length-append (le_bytes 4 bits) (le_bytes 4 0) in
      let bcd = length-append (le_bytes 4 4) (le_bytes 4 bits ++ le_bytes 4 0) in
      length-append (le_bytes 4 feature_1_and) _ ∙ omega (arith, a, b, c, d, cd, bcd)

  pub property_note : n.size ≡ 32 → HoldsFront image n.address 16 nt_gnu_property → HoldsProperty image n.address → HoldsFew image n.address allowed → IsPropertyBy image allowed n
  property_note size front p few =
      let w = λ (x : ℕ). length-le_bytes 4 x in
      let at = n.address in
      record {
        bits = few.bits;
        few = few.few;
        size = size;
        holds = note_of image at nt_gnu_property (property few.bits)
            (subst (λ (s : ℕ). HoldsFront image at s nt_gnu_property) (sym (length_property few.bits)) front)
            (both_parts image (at + 16) 4 (le_bytes 4 feature_1_and) _ (w feature_1_and) p.type_is
            (both_parts image (at + 16 + 4) 4 (le_bytes 4 4) _ (w 4) (moved image (at + 20) (at + 16 + 4) (le_bytes 4 4) (omega arith) p.size_is)
            (both_parts image (at + 16 + 4 + 4) 4 (le_bytes 4 few.bits) (le_bytes 4 0) (w few.bits)
            (moved image (at + 24) (at + 16 + 4 + 4) (le_bytes 4 few.bits) (omega arith) few.holds)
            (moved image (at + 28) (at + 16 + 4 + 4 + 4) (le_bytes 4 0) (omega arith) p.zeros))));
      }

  pub property_front : IsPropertyBy image allowed n → HoldsFront image n.address 16 nt_gnu_property
  property_front p =
      subst (λ (s : ℕ). HoldsFront image n.address s nt_gnu_property) (length_property p.bits)
      (front_of image n.address nt_gnu_property (property p.bits) p.holds)

  parts : (p : IsPropertyBy image allowed n) → HoldsProperty image n.address × Holds image (n.address + 24) (le_bytes 4 p.bits)
  parts p =
      let w = λ (x : ℕ). length-le_bytes 4 x in
      let at = n.address in
      let whole = description_of image at nt_gnu_property (property p.bits) p.holds in
      let sizes = second_part image (at + 16) 4 (le_bytes 4 feature_1_and) _ (w feature_1_and) whole in
      let bits = second_part image (at + 16 + 4) 4 (le_bytes 4 4) _ (w 4) sizes in
      let zeros = second_part image (at + 16 + 4 + 4) 4 (le_bytes 4 p.bits) (le_bytes 4 0) (w p.bits) bits in (
        record {
          type_is = first_part image (at + 16) 4 (le_bytes 4 feature_1_and) _ (w feature_1_and) whole;
          size_is = moved image (at + 16 + 4) (at + 20) (le_bytes 4 4) (omega arith) (first_part image (at + 16 + 4) 4 (le_bytes 4 4) _ (w 4) sizes);
          zeros = moved image (at + 16 + 4 + 4 + 4) (at + 28) (le_bytes 4 0) (omega arith) zeros;
        },
        moved image (at + 16 + 4 + 4) (at + 24) (le_bytes 4 p.bits) (omega arith) (first_part image (at + 16 + 4 + 4) 4 (le_bytes 4 p.bits) (le_bytes 4 0) (w p.bits) bits),
      )

  pub property_rest : IsPropertyBy image allowed n → HoldsProperty image n.address
  property_rest p = (parts p).0

  pub property_few : IsPropertyBy image allowed n → HoldsFew image n.address allowed
  property_few p = record { bits = p.bits; few = p.few; holds = (parts p).1 }

-- the bits of four bytes are allowed where those of the number are that they spell
pub few_low : (bits allowed v : ℕ) → bit_and bits allowed ≡ bits → v ≡ le (le_bytes 4 bits) → bit_and v allowed ≡ v
few_low bits allowed v few is =
    let low : v ≡ bits % 2 ^ 32 = is ∙ four bits in
    let small : v < 2 ^ 32 = omega (arith, low) in
    let less = and_le_l v allowed in
    let cut : bit_and v allowed ≡ bit_and v allowed % 2 ^ 32 = omega (arith, less, small) in
    cut
    ∙ and_mod v allowed 32
    ∙ ap (λ (x : ℕ). bit_and x (allowed % 2 ^ 32)) (let same : v % 2 ^ 32 ≡ bits % 2 ^ 32 = omega (arith, low) in same)
    ∙ sym (and_mod bits allowed 32)
    ∙ ap (λ (x : ℕ). x % 2 ^ 32) few
    ∙ sym low
