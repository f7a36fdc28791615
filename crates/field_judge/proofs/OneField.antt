-- One field, from what the code finds of it.
use Rattle.std.proofs.Common.{◌≡◌, ◌≢◌, ℕ, ◌+◌, ◌*◌, ◌%◌, ◌^◌, ◌<◌, Bool, true, false, List, Option, None, Some, length, refl, sym, ap, subst, ◌∙◌, arith}
use Rattle.std.specs.Prelude.{◌↔◌, ℤ, pos, ◌+ℤ◌, ◌-ℤ◌, Any, IsSomeAnd, IsTrue, option_map}
use Rattle.std.proofs.lemmas.Bool.{false≢true}
use Rattle.std.proofs.lemmas.Option.{none-some, same_Some}
use Rattle.byteview.specs.Numbers.{le, le_bytes}
use Rattle.elf_model.specs.Image.MemoryImage.{loads}
use Rattle.elf_model.specs.Link.Relocation as relocation
use Rattle.elf_model.specs.Link.Relocation.{IsInRange, modulo_64}
use Rattle.elf_model.specs.Link.Slots.{slot_kind_of}
use Rattle.elf_model.specs.declared.link_map.SlotKind.{SlotKind}
use Rattle.elf_model.specs.declared.thing.Thing.{Thing}
use Rattle.judge_model.specs.Fields.{IsInFile, Letters, whole_value}
use Rattle.judge_model.specs.Headers.{IsLoad, IsProgram}
use Rattle.judge_model.specs.Memory.{Holds}
use Rattle.memory_judge.specs.Numbers.{IsShown}
use Rattle.memory_judge.specs.Slots.{IsSlotAmong}
use Rattle.field_judge.proofs.LetterLaws.{base_slot, modulo_low, whole_is}
use Rattle.field_judge.specs.Given.{AsksSlotAt, Given, HasSlotIn, HoldsPlainIn, HoldsValueIn, letters_in, pointer_of, slot_value, value_in}
use Rattle.field_judge.specs.Kinds.{TellsSlots, formula_view, kind_view}
use Rattle.field_judge.specs.Letters.{base_in, less_in}
use Rattle.field_judge.specs.declared.kinds.Formula.{Formula}
use Rattle.field_judge.specs.declared.kinds.Kind.{Kind}

-- the value of a formula from a base, the addend and what is taken away
pub value_by :
    (f : Formula) (x : Letters) (pointer b l r : ℕ) (a : ℤ) → x.t ≡ pos x.s -ℤ pos pointer → a ≡ x.a →
    b ≡ base_in f x % 2 ^ 64 → l ≡ less_in f x pointer % 2 ^ 64 →
    ((n m : ℕ) → b ≡ n % 2 ^ 64 → l ≡ m % 2 ^ 64 → r ≡ modulo_64 ((pos n +ℤ a) -ℤ pos m)) →
    r ≡ modulo_64 (whole_value (formula_view f) x)
value_by f x pointer b l r a offset addend base less is =
    is (base_in f x) (less_in f x pointer) base less
    ∙ (ap (λ (z : ℤ). modulo_64 ((pos (base_in f x) +ℤ z) -ℤ pos (less_in f x pointer))) addend
    ∙ ap modulo_64 (sym (whole_is f x pointer offset)))

-- a value that doesn't fit isn't held
pub not_fitting :
    (image : List ℕ) (g : Given) (k : relocation.Kind) (v slot w : ℕ) (a : Bool) → w ≡ value_in image g k v slot →
    IsTrue a ↔ IsInRange k.range (8 * k.width) w → a ≡ false → HoldsValueIn image g k v slot → ⊥
not_fitting image g k v slot w a w_is fits never h =
    false≢true (sym never ∙ fits.1 (subst (λ (n : ℕ). IsInRange k.range (8 * k.width) n) (sym w_is) h.fits))

pub same_place : (at offset m n : ℕ) → at ≡ m → offset ≡ n → at + offset ≡ m + n
same_place at offset m n e f = ap (λ (i : ℕ). i + offset) e ∙ ap (λ (i : ℕ). m + i) f

-- one that fits is held where memory holds it
pub held_where :
    (image : List ℕ) (g : Given) (k : relocation.Kind) (v slot w at offset : ℕ) (a b : Bool) → w ≡ value_in image g k v slot →
    at ≡ g.at → offset ≡ g.offset → IsTrue a ↔ IsInRange k.range (8 * k.width) w →
    IsTrue b ↔ Holds image (at + offset) (le_bytes k.width w) → IsTrue a → IsTrue b ↔ HoldsValueIn image g k v slot
held_where image g k v slot w at offset a b w_is at_is offset_is fits holds fit =
    let place_is : at + offset ≡ g.at + g.offset = same_place at offset g.at g.offset at_is offset_is in (
      λ e. record {
        fits = subst (λ (n : ℕ). IsInRange k.range (8 * k.width) n) w_is (fits.0 fit);
        holds =
            subst (λ (n : ℕ). Holds image n (le_bytes k.width (value_in image g k v slot))) place_is
            (subst (λ (n : ℕ). Holds image (at + offset) (le_bytes k.width n)) w_is (holds.0 e));
      },
      λ h.
          holds.1
          (subst (λ (n : ℕ). Holds image (at + offset) (le_bytes k.width n)) (sym w_is)
          (subst (λ (n : ℕ). Holds image n (le_bytes k.width (value_in image g k v slot))) (sym place_is) h.holds)),
    )

-- The one address of a slot that a field tells.
pub slot_told :
    (image : List ℕ) (g : Given) (k : Kind) (v at number said slot less : ℕ) (a : ℤ) →
    slot_kind_of (formula_view k.formula) ≢ None → TellsSlots (kind_view k) → at < 2 ^ 64 → a ≡ g.addend →
    HoldsValueIn image g (kind_view k) v at → number ≡ le (le_bytes k.width (value_in image g (kind_view k) v at)) →
    ((u : ℕ) → IsShown k.width u → number ≡ le (le_bytes k.width u) → said ≡ u) →
    less ≡ less_in k.formula (letters_in image g v at) (pointer_of image) % 2 ^ 64 →
    ((p n : ℕ) → p < 2 ^ 64 → less ≡ n % 2 ^ 64 → modulo_64 ((pos p +ℤ a) -ℤ pos n) ≡ said → slot ≡ p) →
    slot ≡ at
slot_told image g k v at number said slot less a asks tells low addend h number_is said_is less_is slot_is =
    let x : Letters = letters_in image g v at in
    let w = value_in image g (kind_view k) v at in
    let s : said ≡ w = said_is w (tells.whole w asks (modulo_low (whole_value (formula_view k.formula) x)) h.fits) number_is in
    let whole = whole_is k.formula x (pointer_of image) refl in
    let taken : ℕ = less_in k.formula x (pointer_of image) in
    let same : (pos at +ℤ a) -ℤ pos taken ≡ whole_value (formula_view k.formula) x =
    ap (λ (z : ℤ). (pos at +ℤ z) -ℤ pos taken) addend
    ∙ (ap (λ (n : ℕ). (pos n +ℤ g.addend) -ℤ pos taken) (sym (base_slot k.formula x asks)) ∙ sym whole) in
    slot_is at taken low less_is (ap modulo_64 same ∙ sym s)

-- slots are where 64 bits reach
pub in_reach : (image : List ℕ) (things : List Thing) (at v : ℕ) → IsProgram image → IsSlotAmong image things at v → at < 2 ^ 64
in_reach image things at v program s = by s.in_file
  where
    by : Any (λ h. IsInFile h at 8) (loads image) → at < 2 ^ 64
    by (i, h, within, is, p) =
        let load : IsLoad (length image) h = subst (IsLoad (length image)) is (program.loads_are.each i h within) in
        let low = load.low in
        let file = load.file_in_memory in
        let end = p.1 in
        omega (arith, low, file, end)

-- A field has a slot where it has one at the only address that it tells.
pub slot_right :
    (image : List ℕ) (things : List Thing) (g : Given) (k : relocation.Kind) (asked : SlotKind) (v slot : ℕ) (held right : Bool) (wanted : ℕ) →
    IsProgram image → g.value ≡ Some v →
    IsTrue held ↔ HoldsValueIn image g k v slot → IsTrue right ↔ IsSlotAmong image things slot wanted →
    wanted ≡ slot_value image asked v →
    ((u at : ℕ) → at < 2 ^ 64 → HoldsValueIn image g k u at → slot ≡ at) →
    (held ≡ true → right ≡ true → ((at : ℕ) × HasSlotIn image things g k asked at))
    × (((at : ℕ) × HasSlotIn image things g k asked at) → (held ≡ true) × (right ≡ true))
slot_right image things g k asked v slot held right wanted program means h s wanted_is only = (
  λ e f. (
    slot,
    record {
      value = v;
      means = means;
      held = h.0 e;
      slot_is = subst (IsSlotAmong image things slot) wanted_is (s.0 f);
    },
  ),
  λ (at, has).
      let low = in_reach image things at (slot_value image asked has.value) program has.slot_is in
      let same : has.value ≡ v = same_Some has.value v (sym has.means ∙ means) in
      let there : slot ≡ at = only has.value at low has.held in
      let own : HoldsValueIn image g k v slot =
      subst (λ (n : ℕ). HoldsValueIn image g k v n) (sym there) (subst (λ (n : ℕ). HoldsValueIn image g k n at) same has.held) in
      let own_slot : IsSlotAmong image things slot wanted =
      subst (IsSlotAmong image things slot) (sym wanted_is)
      (subst (λ (n : ℕ). IsSlotAmong image things n (slot_value image asked v)) (sym there)
      (subst (λ (n : ℕ). IsSlotAmong image things at (slot_value image asked n)) same has.slot_is)) in
      (h.1 own, s.1 own_slot),
)

-- it has none where it doesn't hold the value with it
pub slot_held :
    (image : List ℕ) (things : List Thing) (g : Given) (k : relocation.Kind) (asked : SlotKind) (v slot : ℕ) (held : Bool) →
    IsProgram image → g.value ≡ Some v → IsTrue held ↔ HoldsValueIn image g k v slot →
    ((u at : ℕ) → at < 2 ^ 64 → HoldsValueIn image g k u at → slot ≡ at) →
    ((at : ℕ) × HasSlotIn image things g k asked at) → IsTrue held
slot_held image things g k asked v slot held program means h only (at, has) =
    let low = in_reach image things at (slot_value image asked has.value) program has.slot_is in
    let same : has.value ≡ v = same_Some has.value v (sym has.means ∙ means) in
    let there : slot ≡ at = only has.value at low has.held in
    h.1 (subst (λ (n : ℕ). HoldsValueIn image g k v n) (sym there) (subst (λ (n : ℕ). HoldsValueIn image g k n at) same has.held))

-- The slot that its bytes tell is the one that it has, and it has no other.
pub slot_only :
    (image : List ℕ) (things : List Thing) (g : Given) (k : relocation.Kind) (asked : SlotKind) (o : Option ℕ) (held : Bool) →
    IsProgram image → IsTrue held ↔ ((at : ℕ) × HasSlotIn image things g k asked at) →
    ((v at : ℕ) → at < 2 ^ 64 → HoldsValueIn image g k v at → o ≡ Some at) → held ≡ true →
    (at : ℕ) → (o ≡ Some at) ↔ HasSlotIn image things g k asked at
slot_only image things g k asked o held program both only t at = (to (both.0 t), from)
  where
    from : {n : ℕ} → HasSlotIn image things g k asked n → o ≡ Some n
    from {n} has = only has.value n (in_reach image things n (slot_value image asked has.value) program has.slot_is) has.held

    to : ((n : ℕ) × HasSlotIn image things g k asked n) → o ≡ Some at → HasSlotIn image things g k asked at
    to (n, has) e = subst (HasSlotIn image things g k asked) (same_Some n at (sym (from has) ∙ e)) has

pub no_slot :
    (image : List ℕ) (things : List Thing) (g : Given) (k : relocation.Kind) (asked : SlotKind) (held : Bool) →
    IsTrue held ↔ ((at : ℕ) × HasSlotIn image things g k asked at) → held ≡ false →
    (at : ℕ) → (None ≡ Some at) ↔ HasSlotIn image things g k asked at
no_slot image things g k asked held both never at = (
  λ e. absurd (none-some at e),
  λ has. absurd (false≢true (sym never ∙ both.1 (at, has))),
)

-- by what the formula asks
pub slot_as :
    (image : List ℕ) (things : List Thing) (g : Given) (k : relocation.Kind) (asked : SlotKind) (o : Option ℕ) → slot_kind_of k.formula ≡ Some asked →
    (at : ℕ) → (o ≡ Some at) ↔ HasSlotIn image things g k asked at → (o ≡ Some at) ↔ AsksSlotAt image things g k at
slot_as image things g k asked o asks at both = (
  λ e. record { asked = asked; asks = asks; slot_is = both.0 e },
  λ a.
      both.1
      (subst (λ (s : SlotKind). HasSlotIn image things g k s at) (same_Some a.asked asked (sym a.asks ∙ asks)) a.slot_is),
)

-- The symbol's value, where it has one.
pub record IsValue (o : Option ℕ) (a : ℕ) : Type 0 where
  pub v : ℕ
  pub is : o ≡ Some v
  pub reduced : a ≡ v % 2 ^ 64

pub value_there : (o : Option ℕ) (a : ℕ) → Some a ≡ option_map (λ v. v % 2 ^ 64) o → IsValue o a
value_there None a e = absurd (none-some a (sym e))
value_there (Some v) a e = record { v = v; is = refl; reduced = same_Some a (v % 2 ^ 64) e }

no_value : (o : Option ℕ) → None ≡ option_map (λ v. v % 2 ^ 64) o → o ≡ None
no_value None e = refl
no_value (Some v) e = absurd (none-some (v % 2 ^ 64) e)

pub needs_value :
    (image : List ℕ) (things : List Thing) (g : Given) (k : relocation.Kind) (o : Option SlotKind) →
    None ≡ option_map (λ v. v % 2 ^ 64) g.value → HoldsPlainIn image things g k o → ⊥
needs_value image things g k None none h = subst (λ (m : Option ℕ). IsSomeAnd m (λ v. HoldsValueIn image g k v 0)) (no_value g.value none) h
needs_value image things g k (Some asked) none (at, has) = none-some has.value (sym (no_value g.value none) ∙ has.means)

pub plain_value :
    (image : List ℕ) (things : List Thing) (g : Given) (k : relocation.Kind) (v : ℕ) (b : Bool) → g.value ≡ Some v →
    IsTrue b ↔ HoldsValueIn image g k v 0 → IsTrue b ↔ HoldsPlainIn image things g k None
plain_value image things g k v b is held = (
  λ e. subst (λ (m : Option ℕ). IsSomeAnd m (λ u. HoldsValueIn image g k u 0)) (sym is) (held.0 e),
  λ h. held.1 (subst (λ (m : Option ℕ). IsSomeAnd m (λ u. HoldsValueIn image g k u 0)) is h),
)
