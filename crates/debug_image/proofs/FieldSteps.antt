-- Fields over the bytes of a section, one after the other.
use Rattle.std.proofs.Common.{◌≡◌, ℕ, ◌+◌, ◌-◌, ◌<◌, ◌≤◌, ◌++◌, ◌∷◌, [], ◌||◌, Bool, true, false, cond, List, Option, None, Some, length, option_map, refl, ap, sym, ◌∙◌, arith}
use Rattle.std.specs.Prelude.{nat_lt, slice_index, IfSome}
use Rattle.std.proofs.lemmas.Bool.Decides.{nat_tests}
use Rattle.std.proofs.lemmas.List.{places}
use borrow.Rule.Slice.PartMut.{put_mid}
use Rattle.byteview.specs.Numbers.{le_bytes}
use Rattle.reloc_values.specs.Kinds.{kind_view}
use Rattle.reloc_values.specs.declared.kinds.Kind as code
use Rattle.std.proofs.Common.{get_or, take}
use Rattle.std.specs.List.{filter_map, list_any}
use Rattle.std.proofs.lemmas.List.Folds.{list_any-append}
use Rattle.std.proofs.lemmas.List.Elements.{filter_map-append}
use Rattle.std.proofs.Common.{map, zero-add, zero, suc}
use Rattle.std.specs.Prelude.{count_by, nat_le}
use Rattle.std.specs.List.{range_with_len}
use Rattle.std.proofs.lemmas.List.{ext_get_or}
use Rattle.std.proofs.lemmas.List.FromFn.{get_or-map-range_with_len, length-map-range_with_len}
use Rattle.std.proofs.lemmas.List.Sums.{sum_by-cons}
use Rattle.std.proofs.Common.{subst}
use Rattle.std.specs.Option.{is_none, option_and_then}
use Rattle.elf_model.proofs.KindWidths.{kind_width}
use Rattle.elf_model.specs.Link.Relocation.{Kind, kind_of}
use Rattle.elf_model.specs.Link.Slots.{slot_kind_of}
use Rattle.debug_image.specs.DebugValues.{Field, byte_under, covers, field_byte, is_shared, slotless}
use Rattle.debug_image.specs.Marks.{has_twice, is_twice, mark_under, one_more}
use Rattle.debug_image.specs.Lists.{some_list}
use Rattle.debug_image.proofs.RangeSteps.{filter_map_take}

-- marks are others with fields marked
abbrev pub AreMarked : List ℕ → List ℕ → List Field → Type 0
AreMarked new old fs = (k : ℕ) → k < length new → slice_index new k ≡ mark_under k (slice_index old k) fs

-- bytes are others with fields over them
abbrev pub AreUnder : List ℕ → List ℕ → List Field → Type 0
AreUnder new old fs = (k : ℕ) → k < length new → slice_index new k ≡ byte_under k (slice_index old k) fs

pub byte_under-append : (k b : ℕ) (fs gs : List Field) → byte_under k b (fs ++ gs) ≡ byte_under k (byte_under k b fs) gs
byte_under-append k b [] gs = refl
byte_under-append k b (f ∷ fs) gs = byte_under-append k (cond (covers k f) (field_byte k f) b) fs gs

inside : (base here : List ℕ) (at n k : ℕ) → length here ≡ n → at + n ≤ length base → at ≤ k → k < at + n → slice_index (put_mid at n base here) k ≡ slice_index here (k - at)
inside base here at n k is fits low high = grind (arith, places)

below : (base here : List ℕ) (at n k : ℕ) → length here ≡ n → at + n ≤ length base → k < at → slice_index (put_mid at n base here) k ≡ slice_index base k
below base here at n k is fits low = grind (arith, places)

above : (base here : List ℕ) (at n k : ℕ) → length here ≡ n → at + n ≤ length base → at + n ≤ k → slice_index (put_mid at n base here) k ≡ slice_index base k
above base here at n k is fits high = grind (arith, places)

covers_is : (k : ℕ) (f : Field) → covers k f ≡ true → (f.at ≤ k) × (k < f.at + f.width)
covers_is k f e = (grind (arith, nat_tests), grind (arith, nat_tests))

covers_not : (k : ℕ) (f : Field) → covers k f ≡ false → f.at ≤ k → f.at + f.width ≤ k
covers_not k f e low = grind (arith, nat_tests)

pub written :
    (f : Field) (bytes new : List ℕ) (k : ℕ) → new ≡ le_bytes f.width f.value → length new ≡ f.width → f.at + f.width ≤ length bytes →
    slice_index (put_mid f.at f.width bytes new) k ≡ byte_under k (slice_index bytes k) (f ∷ [])
written f bytes new k is long fits = by (covers k f) refl
  where
    outside : (t : Bool) → nat_lt k f.at ≡ t → covers k f ≡ false → slice_index (put_mid f.at f.width bytes new) k ≡ slice_index bytes k
    outside true e not = below bytes new f.at f.width k long fits (grind (arith, nat_tests))
    outside false e not = above bytes new f.at f.width k long fits (covers_not k f not (grind (arith, nat_tests)))

    by : (t : Bool) → covers k f ≡ t → slice_index (put_mid f.at f.width bytes new) k ≡ cond (covers k f) (field_byte k f) (slice_index bytes k)
    by true e =
        let c = covers_is k f e in
        inside bytes new f.at f.width k long fits c.0 c.1
        ∙ (ap (λ (xs : List ℕ). slice_index xs (k - f.at)) is ∙ ap (λ (t : Bool). cond t (field_byte k f) (slice_index bytes k)) (sym e))
    by false e = outside (nat_lt k f.at) refl e ∙ ap (λ (t : Bool). cond t (field_byte k f) (slice_index bytes k)) (sym e)

pub narrow_view : (o : Option code.Kind) → IfSome (option_map kind_view o) (λ k. (0 < k.width) × (k.width ≤ 8)) → IfSome o (λ k. k.width ≤ 8)
narrow_view None h = tt
narrow_view (Some k) h = h.1

-- one more entry, and the entries of one more section, by what fields do to a number
module _ (under : ℕ → List Field → ℕ) (joins : (b : ℕ) (fs gs : List Field) → under b (fs ++ gs) ≡ under (under b fs) gs) where
  one_entry :
      {X : Type 0} (f : X → Option Field) (xs : List X) (i : ℕ) (d : X) (o : Option Field) (b now new : ℕ) → i < length xs → o ≡ f (get_or xs i d) →
      now ≡ under b (filter_map f (take i xs)) → new ≡ under now (some_list o) → new ≡ under b (filter_map f (take (i + 1) xs))
  one_entry f xs i d o b now new within is so_far more =
      more
      ∙ ap (λ (p : Option Field). under now (some_list p)) is
      ∙ ap (λ (n : ℕ). under n (some_list (f (get_or xs i d)))) so_far
      ∙ sym (joins b (filter_map f (take i xs)) (some_list (f (get_or xs i d))))
      ∙ ap (under b) (sym (filter_map_take f xs i d within))

  one_section :
      {X : Type 0} (f : X → Option Field) (old xs next : List X) (b now new : ℕ) → next ≡ old ++ xs → now ≡ under b (filter_map f old) →
      new ≡ under now (filter_map f xs) → new ≡ under b (filter_map f next)
  one_section f old xs next b now new is so_far more =
      more
      ∙ ap (λ (n : ℕ). under n (filter_map f xs)) so_far
      ∙ sym (joins b (filter_map f old) (filter_map f xs))
      ∙ ap (under b) (sym (ap (filter_map f) is ∙ filter_map-append f old xs))

pub entry_more :
    {X : Type 0} (f : X → Option Field) (xs : List X) (i : ℕ) (d : X) (o : Option Field) (k b now new : ℕ) → i < length xs → o ≡ f (get_or xs i d) →
    now ≡ byte_under k b (filter_map f (take i xs)) → new ≡ byte_under k now (some_list o) → new ≡ byte_under k b (filter_map f (take (i + 1) xs))
entry_more f xs i d o k b now new within is so_far more = one_entry (byte_under k) (byte_under-append k) f xs i d o b now new within is so_far more

pub entries_more :
    {X : Type 0} (f : X → Option Field) (old xs next : List X) (k b now new : ℕ) → next ≡ old ++ xs → now ≡ byte_under k b (filter_map f old) →
    new ≡ byte_under k now (filter_map f xs) → new ≡ byte_under k b (filter_map f next)
entries_more f old xs next k b now new is so_far more = one_section (byte_under k) (byte_under-append k) f old xs next b now new is so_far more

-- and so for marks
mark_under-append : (k m : ℕ) (fs gs : List Field) → mark_under k m (fs ++ gs) ≡ mark_under k (mark_under k m fs) gs
mark_under-append k m [] gs = refl
mark_under-append k m (f ∷ fs) gs = mark_under-append k (cond (covers k f) (one_more m) m) fs gs

pub mark_more :
    {X : Type 0} (f : X → Option Field) (xs : List X) (i : ℕ) (d : X) (o : Option Field) (k b now new : ℕ) → i < length xs → o ≡ f (get_or xs i d) →
    now ≡ mark_under k b (filter_map f (take i xs)) → new ≡ mark_under k now (some_list o) → new ≡ mark_under k b (filter_map f (take (i + 1) xs))
mark_more f xs i d o k b now new within is so_far more = one_entry (mark_under k) (mark_under-append k) f xs i d o b now new within is so_far more

pub marks_more :
    {X : Type 0} (f : X → Option Field) (old xs next : List X) (k b now new : ℕ) → next ≡ old ++ xs → now ≡ mark_under k b (filter_map f old) →
    new ≡ mark_under k now (filter_map f xs) → new ≡ mark_under k b (filter_map f next)
marks_more f old xs next k b now new is so_far more = one_section (mark_under k) (mark_under-append k) f old xs next b now new is so_far more

-- a byte is marked twice where it lies in two fields
twice_more : (m n : ℕ) → nat_le 2 (one_more m + n) ≡ nat_le 2 (m + (1 + n))
twice_more zero n = ap (nat_le 2) (sym (zero-add (1 + n)))
twice_more (suc m) n = grind (arith, nat_tests)

pub twice_under : (k m : ℕ) (fs : List Field) → is_twice (mark_under k m fs) ≡ nat_le 2 (m + count_by (covers k) fs)
twice_under k m [] = grind (arith)
twice_under k m (f ∷ fs) =
    by (covers k f) (twice_under k (cond (covers k f) (one_more m) m) fs)
    ∙ ap (λ (n : ℕ). nat_le 2 (m + n)) (sym (sum_by-cons (λ (g : Field). cond (covers k g) 1 0) f fs))
  where
    by :
        (b : Bool) → is_twice (mark_under k (cond b (one_more m) m) fs) ≡ nat_le 2 (cond b (one_more m) m + count_by (covers k) fs) →
        is_twice (mark_under k (cond b (one_more m) m) fs) ≡ nat_le 2 (m + (cond b 1 0 + count_by (covers k) fs))
    by true e = e ∙ twice_more m (count_by (covers k) fs)
    by false e = e ∙ ap (λ (n : ℕ). nat_le 2 (m + n)) (sym (zero-add (count_by (covers k) fs)))

-- marks that were none before fields were marked tell of the bytes that lie in two
any_of : {X Y : Type 0} (p : Y → Bool) (q : X → Bool) (f : X → Y) (xs : List X) → ((x : X) → p (f x) ≡ q x) → list_any p (map f xs) ≡ list_any q xs
any_of p q f [] each = refl
any_of p q f (x ∷ xs) each = ap (λ (b : Bool). b || list_any p (map f xs)) (each x) ∙ ap (λ (b : Bool). q x || b) (any_of p q f xs each)

pub marked :
    (old new : List ℕ) (n : ℕ) (fs : List Field) → length new ≡ n → length old ≡ n → ((k : ℕ) → k < n → slice_index old k ≡ 0) →
    ((k : ℕ) → k < n → slice_index new k ≡ mark_under k (slice_index old k) fs) → has_twice new ≡ list_any (is_shared fs) (range_with_len 0 n)
marked old new n fs long size none each =
    ap has_twice all
    ∙ any_of is_twice (is_shared fs) (λ k. mark_under k 0 fs) (range_with_len 0 n)
    (λ k. twice_under k 0 fs ∙ grind (arith, nat_tests))
  where
    m : length (map (λ (k : ℕ). mark_under k 0 fs) (range_with_len 0 n)) ≡ n
    m = length-map-range_with_len (λ (k : ℕ). mark_under k 0 fs) 0 n

    all : new ≡ map (λ (k : ℕ). mark_under k 0 fs) (range_with_len 0 n)
    all =
        ext_get_or 0 new (map (λ (k : ℕ). mark_under k 0 fs) (range_with_len 0 n)) (long ∙ sym m)
        (λ k low.
        let below : k < n = omega (arith, low, long) in
        each k below
        ∙ (ap (λ (b : ℕ). mark_under k b fs) (none k below)
        ∙ sym (get_or-map-range_with_len (λ (k : ℕ). mark_under k 0 fs) 0 n k k 0 (omega (arith, below)) (omega arith))))

pub any_more :
    {X : Type 0} (p : X → Bool) (old xs next : List X) (before one now : Bool) → next ≡ old ++ xs → before ≡ list_any p old → one ≡ list_any p xs →
    now ≡ (before || one) → now ≡ list_any p next
any_more p old xs next before one now is so_far more both =
    both
    ∙ ap (λ (b : Bool). b || one) so_far
    ∙ ap (λ (b : Bool). list_any p old || b) more
    ∙ sym (ap (list_any p) is ∙ list_any-append p old xs)

-- a kind that names no slot has a field of one to eight bytes
abbrev HasWidth : Kind → Type 0
HasWidth k = (0 < k.width) × (k.width ≤ 8)

pub slotless_width : (number : ℕ) (o : Option Kind) → o ≡ option_and_then slotless (kind_of number) → IfSome o (λ k. (0 < k.width) × (k.width ≤ 8))
slotless_width number o is = subst (λ (x : Option Kind). IfSome x HasWidth) (sym is) (by (kind_of number) refl)
  where
    kept : (k : Kind) (b : Bool) → HasWidth k → IfSome (cond b (Some k) None) HasWidth
    kept k true w = w
    kept k false w = tt

    by : (x : Option Kind) → kind_of number ≡ x → IfSome (option_and_then slotless x) HasWidth
    by None e = tt
    by (Some k) e = kept k (is_none (slot_kind_of k.formula)) (kind_width number (Some k) (sym e))
