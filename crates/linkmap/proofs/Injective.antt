-- A text is the text of one map.
use Rattle.std.proofs.Common.{◌≡◌, ℕ, ◌<◌, ◌≤◌, ◌⊎◌, inl, inr, List, [], ◌∷◌, ◌++◌, map, length, Option, Some, None, refl, sym, ap, ◌∙◌, subst, arith}
use Rattle.std.specs.Prelude.{option_to_list, All}
use Rattle.std.proofs.lemmas.Bool.{cases_lt}
use Rattle.std.proofs.lemmas.List.{append-nil, same_from_push}
use Rattle.std.proofs.lemmas.List.Elements.{All-nil, All-head}
use Rattle.elf_model.specs.declared.link_map.DropLine.{DropLine}
use Rattle.elf_model.specs.declared.link_map.GotLine.{GotLine}
use Rattle.elf_model.specs.declared.link_map.SymtabLine.{SymtabLine}
use Rattle.elf_model.specs.Image.MapRecord.{MapRecord, ObjectRow, PlaceRow, CommonRow, SlotRow, SymbolRow}
use Rattle.elf_model.specs.Image.MapText.{Line, Object, Drop, Place, Common, Got, Slot, Symbol, Symtab, End, body, text, IsMap}
use Rattle.linkmap.proofs.ChainLaws.{rank, tail, from_drops, from_places, from_commons, from_got, from_slots, from_symbols, from_symtab}
use Rattle.linkmap.proofs.GrowthLaws.{high_drops, high_places, high_commons, high_got, high_slots, high_symbols, high_symtab}
use Rattle.linkmap.proofs.TextLaws.{spell, version_of, same_first, decoded, fits_tail, no_more}

-- a list of one kind, and lines of later kinds behind it
record Split {X : Type 0} (xs ys : List X) (us vs : List Line) : Type 0 where
  front : xs ≡ ys
  back : us ≡ vs

cons_is : {X : Type 0} (x y : X) (xs ys : List X) → x ≡ y → xs ≡ ys → x ∷ xs ≡ y ∷ ys
cons_is x y xs ys e f = cc

module _ {X : Type 0} (kind : X → Line) (k : ℕ) (ranked : (x : X) → rank (kind x) ≡ k) (same : (x y : X) → kind x ≡ kind y → x ≡ y) where
  high_head : (x : X) (xs : List X) (us vs : List Line) → All (λ l. k < rank l) us → us ≡ map kind (x ∷ xs) ++ vs → ⊥
  high_head x xs us vs f e =
      omega (arith, ranked x, All-head (λ l. k < rank l) (kind x) (map kind xs ++ vs) (subst (λ (w : List Line). All (λ l. k < rank l) w) e f))

  split : (xs ys : List X) (us vs : List Line) → All (λ l. k < rank l) us → All (λ l. k < rank l) vs → map kind xs ++ us ≡ map kind ys ++ vs → Split xs ys us vs
  split [] [] us vs f g e = record { front = refl; back = e }
  split [] (y ∷ ys) us vs f g e = absurd (high_head y ys us vs f e)
  split (x ∷ xs) [] us vs f g e = absurd (high_head x xs vs us g (sym e))
  split (x ∷ xs) (y ∷ ys) us vs f g e =
      let head : kind x ≡ kind y = cc in
      let rest : map kind xs ++ us ≡ map kind ys ++ vs = cc in
      let s = split xs ys us vs f g rest in
      record { front = cons_is x y xs ys (same x y head) s.front; back = s.back }

option_same : {X : Type 0} (g h : Option X) → option_to_list g ≡ option_to_list h → g ≡ h
option_same None None e = refl
option_same None (Some y) e = cc
option_same (Some x) None e = cc
option_same (Some x) (Some y) e = let same : x ≡ y = cc in ap Some same

made : ℕ → List ObjectRow → List DropLine → List PlaceRow → List CommonRow → Option GotLine → List SlotRow → List SymbolRow → Option SymtabLine → MapRecord
made version objects drops places commons got slots symbols symtab = record { version = version; objects = objects; drops = drops; places = places; commons = commons; got = got; slots = slots; symbols = symbols; symtab = symtab }

made_same : (x y : ℕ) (a b : List ObjectRow) (c d : List DropLine) (e f : List PlaceRow) (g h : List CommonRow) (i j : Option GotLine) (k l : List SlotRow) (m n : List SymbolRow) (o p : Option SymtabLine) → x ≡ y → a ≡ b → c ≡ d → e ≡ f → g ≡ h → i ≡ j → k ≡ l → m ≡ n → o ≡ p → made x a c e g i k m o ≡ made y b d f h j l n p
made_same x y a b c d e f g h i j k l m n o p p1 p2 p3 p4 p5 p6 p7 p8 p9 = cc

from_made : (m n : MapRecord) → made m.version m.objects m.drops m.places m.commons m.got m.slots m.symbols m.symtab ≡ made n.version n.objects n.drops n.places n.commons n.got n.slots n.symbols n.symtab → m ≡ n
unfolding made
from_made m n e = e

body_injective : (m n : MapRecord) → m.version ≡ n.version → body m ≡ body n → m ≡ n
unfolding body
body_injective m n v e =
    let a = split Object 1 (λ x. refl) (λ x y h. cc) m.objects n.objects (from_drops m) (from_drops n) (high_drops m 1 (omega arith)) (high_drops n 1 (omega arith)) e in
    let b = split Drop 2 (λ x. refl) (λ x y h. cc) m.drops n.drops (from_places m) (from_places n) (high_places m 2 (omega arith)) (high_places n 2 (omega arith)) a.back in
    let c = split Place 3 (λ x. refl) (λ x y h. cc) m.places n.places (from_commons m) (from_commons n) (high_commons m 3 (omega arith)) (high_commons n 3 (omega arith)) b.back in
    let d = split Common 4 (λ x. refl) (λ x y h. cc) m.commons n.commons (from_got m) (from_got n) (high_got m 4 (omega arith)) (high_got n 4 (omega arith)) c.back in
    let f = split Got 5 (λ x. refl) (λ x y h. cc) (option_to_list m.got) (option_to_list n.got) (from_slots m) (from_slots n) (high_slots m 5 (omega arith)) (high_slots n 5 (omega arith)) d.back in
    let g = split Slot 6 (λ x. refl) (λ x y h. cc) m.slots n.slots (from_symbols m) (from_symbols n) (high_symbols m 6 (omega arith)) (high_symbols n 6 (omega arith)) f.back in
    let h = split Symbol 7 (λ x. refl) (λ x y h. cc) m.symbols n.symbols (from_symtab m) (from_symtab n) (high_symtab m 7 (omega arith)) (high_symtab n 7 (omega arith)) g.back in
    let i = split Symtab 8 (λ x. refl) (λ x y h. cc) (option_to_list m.symtab) (option_to_list n.symtab) [] [] (All-nil (λ l. 8 < rank l)) (All-nil (λ l. 8 < rank l)) (append-nil (from_symtab m) ∙ h.back ∙ sym (append-nil (from_symtab n))) in
    from_made m n (made_same m.version n.version m.objects n.objects m.drops n.drops m.places n.places m.commons n.commons m.got n.got m.slots n.slots m.symbols n.symbols m.symtab n.symtab v a.front b.front c.front d.front (option_same m.got n.got f.front) g.front h.front (option_same m.symtab n.symtab i.front))

-- of two readings of a text neither goes on behind the other
same_tail : (m n : MapRecord) → IsMap m → IsMap n → (others : List Line) → tail n ≡ tail m ++ others → tail m ≡ tail n
same_tail m n h i [] e = sym (e ∙ append-nil (tail m))
same_tail m n h i (l ∷ others) e = absurd (no_more m n i l others e)

-- two maps with one text are one
pub text_injective : (m n : MapRecord) → IsMap m → IsMap n → text m ≡ text n → m ≡ n
text_injective m n h i e = body_injective m n first.0 (same_from_push (body m) (body n) End End (by (cases_lt (length (tail m)) (length (tail n))))).0 where
  first : (m.version ≡ n.version) × (spell (tail m) ≡ spell (tail n))
  first = same_first m.version n.version (spell (tail m)) (spell (tail n)) (version_of m h.ordered) (version_of n i.ordered) e

  spelled : spell (tail m) ++ [] ≡ spell (tail n) ++ []
  spelled = append-nil (spell (tail m)) ∙ first.1 ∙ sym (append-nil (spell (tail n)))

  by : (length (tail m) < length (tail n)) ⊎ (length (tail n) ≤ length (tail m)) → tail m ≡ tail n
  by (inl shorter) =
      let d = decoded (tail m) (tail n) [] [] (fits_tail m h) (fits_tail n i) spelled (omega arith) in
      same_tail m n h i d.others d.more
  by (inr longer) =
      let d = decoded (tail n) (tail m) [] [] (fits_tail n i) (fits_tail m h) (sym spelled) longer in
      sym (same_tail n m i h d.others d.more)
