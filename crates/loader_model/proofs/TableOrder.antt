-- The table's order, from the tests of its parts.
use Rattle.std.proofs.Common.{◌≡◌, ℕ, suc, ◌+◌, ◌<◌, Bool, true, false, cond, List, [], ◌∷◌, length, get_or, subst, take, drop, arith, sym, refl, ap, ◌∙◌}
use Rattle.std.specs.Prelude.{IsTrue, AllPairs}
use Rattle.std.specs.List.{prefix_len}
use Rattle.elf_model.specs.Image.MemoryImage.{IsInOrder, is_load, loads_in, IsTail}
use Rattle.elf_model.specs.declared.records.ProgramHeader.{ProgramHeader}
use Rattle.loader_model.specs.Table.{IsBelow}
use Rattle.loader_model.proofs.Neighbours.{pairs_of_neighbours}

abbrev pub NearBelow : List ProgramHeader → Type 0
NearBelow hs = (k : ℕ) (d : ProgramHeader) → k + 1 < length hs → IsBelow (get_or hs k d) (get_or hs (k + 1) d)

below_trans : (f g h : ProgramHeader) → IsBelow f g → IsBelow g h → IsBelow f h
below_trans f g h p q = omega (arith, p, q)

pub in_order :
    (hs front back : List ProgramHeader) (n : ℕ) (b : Bool) →
    n ≡ prefix_len is_load hs → 0 < n → front ≡ take n hs → back ≡ drop n hs → IsTail back →
    (IsTrue b → NearBelow front) × (NearBelow front → IsTrue b) →
    (IsTrue b → IsInOrder hs) × (IsInOrder hs → IsTrue b)
in_order hs front back n b count some front_is back_is tail near = (
  λ yes. record {
    a_load = subst (λ (m : ℕ). 0 < m) count some;
    tail = subst (λ (m : ℕ). IsTail (drop m hs)) count (subst IsTail back_is tail);
    ascending =
        subst (λ (m : ℕ). AllPairs IsBelow (take m hs)) count
        (subst (AllPairs IsBelow) front_is (pairs_of_neighbours IsBelow below_trans front (near.0 yes)));
  },
  λ o. near.1
      (subst NearBelow (sym front_is)
      (subst (λ (m : ℕ). NearBelow (take m hs)) (sym count) (λ k d within. o.ascending k (k + 1) d (omega arith) within))),
)

-- in a table in order the PT_LOADs are the headers in front
no_load_in_tail : (rest : List ProgramHeader) → IsTail rest → loads_in rest ≡ []
no_load_in_tail [] t = refl
no_load_in_tail (stack ∷ []) t = rw t refl
no_load_in_tail (block ∷ (stack ∷ [])) t = rw (t.0, t.1) refl
no_load_in_tail (a ∷ (b ∷ (c ∷ rest))) t = absurd t

front_or_rest :
    (b : Bool) (h : ProgramHeader) (hs : List ProgramHeader) (n : ℕ) →
    (IsTail (drop n hs) → loads_in hs ≡ take n hs) →
    is_load h ≡ b →
    IsTail (drop (cond b (1 + n) 0) (h ∷ hs)) →
    cond b (h ∷ loads_in hs) (loads_in hs) ≡ take (cond b (1 + n) 0) (h ∷ hs)
front_or_rest true h hs n rest is tail =
    let e : 1 + n ≡ suc n = omega arith in
    let t : IsTail (drop n hs) = rw e at tail in
    rw e (ap (λ (ts : List ProgramHeader). h ∷ ts) (rest t))
front_or_rest false h hs n rest is tail =
    let e : loads_in (h ∷ hs) ≡ loads_in hs = rw is refl in sym e ∙ no_load_in_tail (h ∷ hs) tail

pub loads_in_front :
    (hs : List ProgramHeader) → IsTail (drop (prefix_len is_load hs) hs) → loads_in hs ≡ take (prefix_len is_load hs) hs
loads_in_front [] tail = refl
loads_in_front (h ∷ hs) tail =
    front_or_rest (is_load h) h hs (prefix_len is_load hs) (loads_in_front hs) refl tail

pub ascending_loads :
    (hs segments : List ProgramHeader) → segments ≡ loads_in hs → IsInOrder hs → AllPairs IsBelow segments
ascending_loads hs segments e o =
    subst (AllPairs IsBelow) (sym (e ∙ loads_in_front hs o.tail)) o.ascending
