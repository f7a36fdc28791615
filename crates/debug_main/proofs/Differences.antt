-- What was compared with an image, and what that says of it.
use Rattle.std.proofs.Common.{◌≡◌, ◌≢◌, ◌∙◌, ◌≤◌, ◌++◌, ℕ, List, [], ◌∷◌, ap, append_assoc, arith, drop, drop_at, length, refl, sym, subst, take, take_at}
use Rattle.std.specs.Prelude.{Err, IfErr, IfSome, None, Ok, OnErr, OnOk, Option, Result, Some}
use Rattle.std.specs.Option.{option_map, option_to_list}
use Rattle.std.specs.List.{slice_get}
use Rattle.std.proofs.Math.Seq.{take-append_seam}
use Rattle.std.proofs.lemmas.List.{append-nil, length-take}
use Rattle.image_write.specs.Streams.{Took, TookPart}
use Rattle.image_write.specs.declared.sink.WriteFault.{WriteFault}
use Rattle.image_write.specs.declared.sink.WriteFault.TheVariants.{Memory, Device}
use Rattle.debug_main.specs.Comparisons.{marked, taken_of}
use Rattle.debug_main.specs.Verdicts.{Compares, IsFirstWrong}
use Rattle.debug_main.specs.declared.verdict.Difference.{Difference}

-- a file begins with what was taken, and where no byte was wrong that is all of it
pub record Begins (image : List ℕ) (same : ℕ) (wrong : Option ℕ) (file : List ℕ) : Type 0 where
  pub rest : List ℕ
  pub is : file ≡ taken_of image same wrong ++ rest
  pub whole : wrong ≡ None → rest ≡ []

pub marked_more : (image x y : List ℕ) → marked image (x ++ y) ≡ marked image x ++ y
marked_more image x y = ap (λ (l : List ℕ). length image ∷ l) (sym (append_assoc image x y))

some_is : (a b : List ℕ) → Some a ≡ Some b → a ≡ b
some_is a b e = cc

head_is : (x y : ℕ) (xs ys : List ℕ) → x ∷ xs ≡ y ∷ ys → x ≡ y
head_is x y xs ys e = cc

tail_is : (x y : ℕ) (xs ys : List ℕ) → x ∷ xs ≡ y ∷ ys → xs ≡ ys
tail_is x y xs ys e = cc

-- what is marked with an image is of it
pub record IsOf (image own taken bytes : List ℕ) : Type 0 where
  pub same_image : own ≡ image
  pub same_bytes : taken ≡ bytes

of_marked : (image own taken bytes : List ℕ) → marked own taken ≡ marked image bytes → IsOf image own taken bytes
of_marked image own taken bytes e =
    let lengths : length own ≡ length image = head_is (length own) (length image) (own ++ taken) (image ++ bytes) e in
    let lists : own ++ taken ≡ image ++ bytes = tail_is (length own) (length image) (own ++ taken) (image ++ bytes) e in
    record {
      same_image = sym (take_at own taken (length own) refl) ∙ (ap (take (length own)) lists ∙ take_at image bytes (length own) (sym lengths));
      same_bytes = sym (drop_at own taken (length own) refl) ∙ (ap (drop (length own)) lists ∙ drop_at image bytes (length own) (sym lengths));
    }

-- nothing was taken before
new_told : (image own taken bytes : List ℕ) (old : Option (List ℕ)) → old ≡ Some (marked image []) → Took old bytes (Some (marked own taken)) → IsOf image own taken bytes
new_told image own taken bytes old none took =
    let told : Some (marked own taken) ≡ Some (marked image [] ++ bytes) = took ∙ ap (option_map (λ (t : List ℕ). t ++ bytes)) none in
    of_marked image own taken bytes (some_is (marked own taken) (marked image [] ++ bytes) told ∙ sym (marked_more image [] bytes))

pub record Compared (image own : List ℕ) (same : ℕ) (wrong : Option ℕ) (file : List ℕ) : Type 0 where
  pub same_image : own ≡ image
  pub begins : Begins own same wrong file

pub whole_taken :
    (image own file : List ℕ) (same : ℕ) (wrong : Option ℕ) (old : Option (List ℕ)) → old ≡ Some (marked image []) →
    Took old file (Some (marked own (taken_of own same wrong))) → Compared image own same wrong file
whole_taken image own file same wrong old none took =
    let of = new_told image own (taken_of own same wrong) file old none took in
    record { same_image = of.same_image; begins = record { rest = []; is = sym of.same_bytes ∙ sym (append-nil (taken_of own same wrong)); whole = λ e. refl } }

pub part_taken :
    (image own file : List ℕ) (same : ℕ) (wrong : Option ℕ) (old : Option (List ℕ)) → old ≡ Some (marked image []) →
    TookPart old file (Some (marked own (taken_of own same wrong))) → wrong ≢ None → Compared image own same wrong file
part_taken image own file same wrong old none part some =
    let of = new_told image own (taken_of own same wrong) part.front old none part.took in
    record {
      same_image = of.same_image;
      begins = record { rest = part.rest; is = part.parts ∙ ap (λ (l : List ℕ). l ++ part.rest) (sym of.same_bytes); whole = λ e. absurd (some e) };
    }

-- what stands at the end of the first list is the second's beginning
seam : (xs ys : List ℕ) → slice_get (xs ++ ys) (length xs) ≡ slice_get ys 0
seam [] ys = refl
seam (x ∷ xs) ys = seam xs ys

front_length : (image : List ℕ) (same : ℕ) → same ≤ length image → length (take same image) ≡ same
front_length image same within = omega (arith, length-take same image, within)

next_is : (wrong : Option ℕ) (rest : List ℕ) → (wrong ≡ None → rest ≡ []) → slice_get (option_to_list wrong ++ rest) 0 ≡ wrong
next_is None rest whole = ap (λ (l : List ℕ). slice_get l 0) (whole refl)
next_is (Some b) rest whole = refl

-- the file at the place at which the image differs, and before it
file_there : (image file : List ℕ) (same : ℕ) (wrong : Option ℕ) → same ≤ length image → Begins image same wrong file → slice_get file same ≡ wrong
file_there image file same wrong within b =
    let front = take same image in
    let tail = option_to_list wrong ++ b.rest in
    let parts : file ≡ front ++ tail = b.is ∙ append_assoc front (option_to_list wrong) b.rest in
    subst (λ (n : ℕ). slice_get file n ≡ wrong) (front_length image same within)
    (ap (λ (l : List ℕ). slice_get l (length front)) parts ∙ (seam front tail ∙ next_is wrong b.rest b.whole))

file_before : (image file : List ℕ) (same : ℕ) (wrong : Option ℕ) → same ≤ length image → Begins image same wrong file → take same image ≡ take same file
file_before image file same wrong within b =
    let front = take same image in
    let tail = option_to_list wrong ++ b.rest in
    let parts : file ≡ front ++ tail = b.is ∙ append_assoc front (option_to_list wrong) b.rest in
    subst (λ (n : ℕ). front ≡ take n file) (front_length image same within) (sym (ap (take (length front)) parts ∙ take-append_seam front tail))

-- so what is told of a comparison is right
pub compares :
    (image file : List ℕ) (same : ℕ) (wrong : Option ℕ) (told : Option Difference) → same ≤ length image → (slice_get image same ≡ wrong → wrong ≡ None) →
    Begins image same wrong file → (told ≡ None → taken_of image same wrong ≡ image) → (told ≡ None → wrong ≡ None) →
    ((d : Difference) → told ≡ Some d → IsFirstWrong image same wrong d) → Compares image file told
compares image file same wrong None within differs b all none first =
    sym (b.is ∙ (ap (λ (l : List ℕ). taken_of image same wrong ++ l) (b.whole (none refl)) ∙ (append-nil (taken_of image same wrong) ∙ all refl)))
compares image file same wrong (Some d) within differs b all none first =
    let f = first d refl in record {
      alike = subst (λ (n : ℕ). take n image ≡ take n file) (sym f.at) (file_before image file same wrong within b);
      there = f.there ∙ ap (slice_get image) (sym f.at);
      wanted_is = f.wanted_is ∙ (sym (file_there image file same wrong within b) ∙ ap (slice_get file) (sym f.at));
      differs = λ e.
          let same_byte : slice_get image same ≡ wrong = sym f.there ∙ (e ∙ f.wanted_is) in
          let gone = differs same_byte in
          f.some (f.there ∙ (same_byte ∙ gone), f.wanted_is ∙ gone);
    }

-- whatever a comparison comes to, but for want of memory
pub outcome :
    {X : Type 0} (image own file : List ℕ) (same : ℕ) (wrong : Option ℕ) (failures : ℕ) (r : Result X WriteFault) (old : Option (List ℕ)) →
    old ≡ Some (marked image []) → OnOk r (Took old file (Some (marked own (taken_of own same wrong)))) →
    OnErr r (TookPart old file (Some (marked own (taken_of own same wrong)))) → IfErr r (λ f. f ≡ Device → failures ≢ 0) → (wrong ≡ None → failures ≡ 0) →
    r ≢ Err Memory → Compared image own same wrong file
outcome image own file same wrong failures (Ok x) old none took part fails sound other = whole_taken image own file same wrong old none took
outcome image own file same wrong failures (Err Memory) old none took part fails sound other = absurd (other refl)
outcome image own file same wrong failures (Err Device) old none took part fails sound other =
    part_taken image own file same wrong old none part (λ e. fails refl (sound e))

-- a sink that compares, and has taken nothing
pub fresh :
    (image own : List ℕ) (same : ℕ) (wrong : Option ℕ) → own ≡ image → same ≡ 0 → wrong ≡ None → Some (marked own (taken_of own same wrong)) ≡ Some (marked image [])
fresh image own same wrong i s w = λ k. Some (marked (i k) (taken_of (i k) (s k) (w k)))

pub told_right :
    (image own file : List ℕ) (same : ℕ) (wrong : Option ℕ) (told : Option Difference) → Compared image own same wrong file → same ≤ length own →
    (slice_get own same ≡ wrong → wrong ≡ None) → (told ≡ None → taken_of image same wrong ≡ image) → (told ≡ None → wrong ≡ None) →
    IfSome told (IsFirstWrong image same wrong) → Compares image file told
told_right image own file same wrong told c within differs all none first =
    subst
    (λ (i : List ℕ). (told ≡ None → taken_of i same wrong ≡ i) → (told ≡ None → wrong ≡ None) → ((d : Difference) → told ≡ Some d → IsFirstWrong i same wrong d) → Compares i file told)
    c.same_image (λ a n f. compares own file same wrong told within differs c.begins a n f) all none
    (λ d e. subst (λ (t : Option Difference). IfSome t (IsFirstWrong image same wrong)) e first)
